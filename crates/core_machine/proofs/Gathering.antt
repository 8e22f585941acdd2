-- The branches of a fork are gathered, and their replies counted.
use Rattle.std.proofs.Common.{◌≡◌, ℕ, suc, ◌+◌, ◌-◌, ◌<◌, ◌≤◌, ◌^◌, List, [], ◌∷◌, ◌++◌, length, take, map, get_or, Bool, true, false, not, cond, refl, sym, ap, ◌∙◌, subst, ⊎_elim, inl, inr, arith, append_assoc}
use Rattle.std.specs.Prelude.{◌⊎◌, ◌==◌, ◌||◌, min, slice_set}
use Rattle.std.specs.List.{count_by, list_all}
use Rattle.std.proofs.lemmas.Bool.{cases_lt}
use Rattle.std.proofs.lemmas.Bool.Decides.{nat_tests}
use Rattle.std.proofs.lemmas.List.Sums.{sum_by-cons, count_by-le-length}
use Rattle.forec_base.specs.declared.Place.{Place}
use Rattle.forec_base.specs.declared.Trap.{Trap}
use Rattle.forec_kernel.specs.Engine.{Reply, WasPaused, WasEnded, WasTrapped, WasOver}
use Rattle.forec_kernel.specs.Solo.{all_units, reply_units, some_reply_over, is_over_reply}
use Rattle.thread_code.specs.Machine.{is_ended, living}
use Rattle.thread_state.proofs.Lists.{take_set}
use Rattle.core_machine.specs.declared.branches.Verdict.{Verdict}
use Rattle.core_machine.specs.declared.branches.Verdict.TheVariants as verdict
use Rattle.forec_kernel.specs.Packets.{IsEnded, IsTrapped, IsOver}
use Rattle.forec_kernel.specs.Packed.{IsReply}
use Rattle.combine_tree.specs.declared.packet.Packet.{Packet}
use Rattle.combine_tree.specs.declared.packet.PacketKind.{PacketKind}
use Rattle.combine_tree.specs.declared.packet.PacketKind.TheVariants as kind
use Rattle.combine_tree.specs.Plain.{plain_kind, plain_packet}
use Rattle.core_machine.specs.Branches.{Gathered, chosen, with_verdict, first_verdict, noted_ending, with_more_units, leftmost_trap, verdict_of, SaturatesTo, HoldsReplies, SettlesPacket}

-- ---- all of a list

same_more : (a b : ℕ) → (1 + a == suc b) ≡ (a == b)
same_more a b = grind (arith, nat_tests)

not_more : (a b : ℕ) → a ≤ b → (0 + a == suc b) ≡ false
not_more a b le = grind (arith, nat_tests)

-- all have ended where their count is that of all
pub all_counted : (es : List Bool) → (count_by (λ e. e) es == length es) ≡ list_all (λ e. e) es
all_counted [] = refl
all_counted (true ∷ es) =
    ap (λ n. n == suc (length es)) (sum_by-cons (λ (e : Bool). cond e 1 0) true es) ∙ same_more (count_by (λ e. e) es) (length es) ∙ all_counted es
all_counted (false ∷ es) =
    ap (λ n. n == suc (length es)) (sum_by-cons (λ (e : Bool). cond e 1 0) false es) ∙ not_more (count_by (λ e. e) es) (length es) (count_by-le-length (λ e. e) es)

not_none : (n : ℕ) → (1 + n == 0) ≡ false
not_none n = grind (arith, nat_tests)

-- none has ended where their count is 0
pub none_counted : (es : List Bool) → (count_by (λ e. e) es == 0) ≡ list_all (λ e. not e) es
none_counted [] = refl
none_counted (true ∷ es) = ap (λ n. n == 0) (sum_by-cons (λ (e : Bool). cond e 1 0) true es) ∙ not_none (count_by (λ e. e) es)
none_counted (false ∷ es) =
    let none : 0 + count_by (λ e. e) es ≡ count_by (λ e. e) es = omega arith in
    ap (λ n. n == 0) (sum_by-cons (λ (e : Bool). cond e 1 0) false es ∙ none) ∙ none_counted es

-- ---- the branches that are asked for

module _ (again : Bool) (live : List Bool) where
  pub chosen_next : (b : ℕ) (rest : List ℕ) (t : Bool) → cond again (get_or live b false) true ≡ t → chosen again live (b ∷ rest) ≡ cond t (b ∷ chosen again live rest) (chosen again live rest)
  chosen_next b rest t e = by again refl
    where
      by : (a : Bool) → again ≡ a → chosen again live (b ∷ rest) ≡ cond t (b ∷ chosen again live rest) (chosen again live rest)
      by true is = ap (λ a. chosen a live (b ∷ rest)) is ∙ ap (λ x. cond x (b ∷ living live rest) (living live rest)) (ap (λ a. cond a (get_or live b false) true) (sym is) ∙ e) ∙ ap (λ a. cond t (b ∷ chosen a live rest) (chosen a live rest)) (sym is)
      by false is = ap (λ a. chosen a live (b ∷ rest)) is ∙ ap (λ x. cond x (b ∷ rest) rest) (ap (λ a. cond a (get_or live b false) true) (sym is) ∙ e) ∙ ap (λ a. cond t (b ∷ chosen a live rest) (chosen a live rest)) (sym is)

  pub chosen_none : chosen again live [] ≡ []
  chosen_none = by again
    where
      by : (a : Bool) → chosen a live [] ≡ []
      by true = refl
      by false = refl

-- ---- replies

pub units_more : (rs : List Reply) (r : Reply) → all_units (rs ++ r ∷ []) ≡ all_units rs + reply_units r
units_more [] r = omega arith
units_more (x ∷ rs) r = omega (arith, units_more rs r)

over_more : (rs : List Reply) (r : Reply) → some_reply_over (rs ++ r ∷ []) ≡ (some_reply_over rs || is_over_reply r)
over_more [] r = or_none (is_over_reply r)
  where
    or_none : (b : Bool) → (b || false) ≡ (false || b)
    or_none true = refl
    or_none false = refl
over_more (x ∷ rs) r = ap (λ b. is_over_reply x || b) (over_more rs r) ∙ or_assoc (is_over_reply x) (some_reply_over rs) (is_over_reply r)
  where
    or_assoc : (a b c : Bool) → (a || (b || c)) ≡ ((a || b) || c)
    or_assoc true b c = refl
    or_assoc false b c = refl

trap_more : (rs : List Reply) (r : Reply) → leftmost_trap (rs ++ r ∷ []) ≡ first_verdict (leftmost_trap rs) (leftmost_trap (r ∷ []))
trap_more [] r = refl
trap_more (WasPaused copies u ∷ rs) r = trap_more rs r
trap_more (WasEnded copies u ∷ rs) r = trap_more rs r
trap_more (WasTrapped place trap u ∷ rs) r = refl
trap_more (WasOver ∷ rs) r = trap_more rs r

verdict_by : (o : Bool) (t : Verdict) (v : Verdict) → cond (o || false) verdict.Over (first_verdict t v) ≡ first_verdict (cond o verdict.Over t) v
verdict_by true t v = refl
verdict_by false t v = refl

still : (t : Verdict) → first_verdict t verdict.Combine ≡ t
still verdict.Combine = refl
still (verdict.Trap place trap) = refl
still verdict.Over = refl

verdict_trap : (rs : List Reply) (r : Reply) → is_over_reply r ≡ false → verdict_of (rs ++ r ∷ []) ≡ first_verdict (verdict_of rs) (leftmost_trap (r ∷ []))
verdict_trap rs r not =
    ap (λ o. cond o verdict.Over (leftmost_trap (rs ++ r ∷ []))) (over_more rs r ∙ ap (λ b. some_reply_over rs || b) not)
    ∙ ap (λ t. cond (some_reply_over rs || false) verdict.Over t) (trap_more rs r)
    ∙ verdict_by (some_reply_over rs) (leftmost_trap rs) (leftmost_trap (r ∷ []))

verdict_over : (rs : List Reply) → verdict_of (rs ++ WasOver ∷ []) ≡ verdict.Over
verdict_over rs = ap (λ o. cond o verdict.Over (leftmost_trap (rs ++ WasOver ∷ []))) (over_more rs WasOver ∙ or_true (some_reply_over rs))
  where
    or_true : (b : Bool) → (b || true) ≡ true
    or_true true = refl
    or_true false = refl

ended_more : (rs : List Reply) (r : Reply) → map is_ended (rs ++ r ∷ []) ≡ map is_ended rs ++ is_ended r ∷ []
ended_more [] r = refl
ended_more (x ∷ rs) r = ap (λ l. is_ended x ∷ l) (ended_more rs r)

counts_more : (n s u : ℕ) → SaturatesTo n s → SaturatesTo (min (n + u) (2 ^ 64 - 1)) (s + u)
counts_more n s u (inl e) = by_size (⊎_elim (λ lt. inr lt) (λ le. inl le) (cases_lt (2 ^ 64 - 1) (n + u)))
  where
    by_size : ((n + u ≤ 2 ^ 64 - 1) ⊎ (2 ^ 64 - 1 < n + u)) → SaturatesTo (min (n + u) (2 ^ 64 - 1)) (s + u)
    by_size (inl le) = inl (omega (arith, e, le))
    by_size (inr lt) = inr (omega (arith, lt), omega (arith, e, lt))
counts_more n s u (inr h) = inr (omega (arith, h.0), omega (arith, h.1))

module _ (g g' : Gathered) (rs : List Reply) (s : HoldsReplies g rs) where
  -- a reply that adds nothing but its units
  pub says_plain : (r : Reply) → is_over_reply r ≡ false → leftmost_trap (r ∷ []) ≡ verdict.Combine → g'.ended ≡ g.ended ++ is_ended r ∷ [] → g'.units ≡ min (g.units + reply_units r) (2 ^ 64 - 1) → g'.verdict ≡ g.verdict → HoldsReplies g' (rs ++ r ∷ [])
  says_plain r not none e u v = record {
    ended = e ∙ ap (λ l. l ++ is_ended r ∷ []) s.ended ∙ sym (ended_more rs r);
    units = subst (λ n. SaturatesTo g'.units n) (sym (units_more rs r)) (subst (λ n. SaturatesTo n (all_units rs + reply_units r)) (sym u) (counts_more g.units (all_units rs) (reply_units r) s.units));
    verdict = v ∙ s.verdict ∙ sym (verdict_trap rs r not ∙ ap (first_verdict (verdict_of rs)) none ∙ still (verdict_of rs));
  }

  pub says_trap : (place : Place) (trap : Trap) (w : ℕ) → g'.ended ≡ g.ended ++ false ∷ [] → g'.units ≡ min (g.units + w) (2 ^ 64 - 1) → g'.verdict ≡ first_verdict g.verdict (verdict.Trap place trap) → HoldsReplies g' (rs ++ WasTrapped place trap w ∷ [])
  says_trap place trap w e u v = record {
    ended = e ∙ ap (λ l. l ++ false ∷ []) s.ended ∙ sym (ended_more rs (WasTrapped place trap w));
    units = subst (λ n. SaturatesTo g'.units n) (sym (units_more rs (WasTrapped place trap w))) (subst (λ n. SaturatesTo n (all_units rs + w)) (sym u) (counts_more g.units (all_units rs) w s.units));
    verdict = v ∙ ap (λ x. first_verdict x (verdict.Trap place trap)) s.verdict ∙ sym (verdict_trap rs (WasTrapped place trap w) refl);
  }

  pub says_over : g'.ended ≡ g.ended ++ false ∷ [] → g'.units ≡ g.units → g'.verdict ≡ verdict.Over → HoldsReplies g' (rs ++ WasOver ∷ [])
  says_over e u v =
      let z : all_units (rs ++ WasOver ∷ []) ≡ all_units rs = omega (arith, units_more rs WasOver) in
      record {
        ended = e ∙ ap (λ l. l ++ false ∷ []) s.ended ∙ sym (ended_more rs WasOver);
        units = subst (λ n. SaturatesTo g'.units n) (sym z) (subst (λ n. SaturatesTo n (all_units rs)) (sym u) s.units);
        verdict = v ∙ sym (verdict_over rs);
      }

-- ---- a reply is settled

module _ (k : PacketKind) where
  of_ended : plain_kind k ≡ IsEnded → k ≡ kind.Ended
  of_ended e = by_kind k e
    where
      by_kind : (k : PacketKind) → plain_kind k ≡ IsEnded → k ≡ kind.Ended
      by_kind kind.Blank e = cc
      by_kind kind.Start e = cc
      by_kind kind.Wake e = cc
      by_kind kind.Paused e = cc
      by_kind kind.Ended e = refl
      by_kind (kind.Trapped place trap) e = cc
      by_kind kind.Over e = cc

  of_over : plain_kind k ≡ IsOver → k ≡ kind.Over
  of_over e = by_kind k e
    where
      by_kind : (k : PacketKind) → plain_kind k ≡ IsOver → k ≡ kind.Over
      by_kind kind.Blank e = cc
      by_kind kind.Start e = cc
      by_kind kind.Wake e = cc
      by_kind kind.Paused e = cc
      by_kind kind.Ended e = cc
      by_kind (kind.Trapped place trap) e = cc
      by_kind kind.Over e = refl

  of_trapped : (place : Place) (trap : Trap) → plain_kind k ≡ IsTrapped place trap → k ≡ kind.Trapped place trap
  of_trapped place trap e = by_kind k e
    where
      by_kind : (k : PacketKind) → plain_kind k ≡ IsTrapped place trap → k ≡ kind.Trapped place trap
      by_kind kind.Blank e = cc
      by_kind kind.Start e = cc
      by_kind kind.Wake e = cc
      by_kind kind.Paused e = cc
      by_kind kind.Ended e = cc
      by_kind (kind.Trapped q r) e = let a : q ≡ place = cc in let b : r ≡ trap = cc in ap (λ x. kind.Trapped x r) a ∙ ap (kind.Trapped place) b
      by_kind kind.Over e = cc

pub count_one : (es : List Bool) (e : Bool) → length (es ++ e ∷ []) ≡ length es + 1
count_one [] e = omega arith
count_one (x ∷ es) e = omega (arith, count_one es e)

module _ (g : Gathered) (p : Packet) where
  -- whatever says nothing but its units and whether it ended
  plain_by : (e : Bool) (rs : List Reply) (r : Reply) → is_over_reply r ≡ false → leftmost_trap (r ∷ []) ≡ verdict.Combine → is_ended r ≡ e → p.units ≡ reply_units r → HoldsReplies g rs → HoldsReplies (with_more_units p.units (noted_ending e g)) (rs ++ r ∷ [])
  plain_by e rs r not none ended units s =
      says_plain g (with_more_units p.units (noted_ending e g)) rs s r not none (ap (λ b. g.ended ++ b ∷ []) (sym ended)) (ap (λ n. min (g.units + n) (2 ^ 64 - 1)) units) refl

  pub settles_ended : p.kind ≡ kind.Ended → SettlesPacket g p (with_more_units p.units (noted_ending true g))
  settles_ended k = record { fork = refl; numbers = refl; joined = refl; room = refl; count = count_one g.ended true; says = by_reply }
    where
      by_reply : (rs : List Reply) (r : Reply) → IsReply (plain_packet p) r → HoldsReplies g rs → HoldsReplies (with_more_units p.units (noted_ending true g)) (rs ++ r ∷ [])
      by_reply rs (WasPaused copies u) is s = let e = sym is.0 ∙ ap (λ k. plain_kind k) k in cc
      by_reply rs (WasEnded copies u) is s = plain_by true rs (WasEnded copies u) refl refl refl is.2 s
      by_reply rs (WasTrapped place trap u) is s = let e = sym is.0 ∙ ap (λ k. plain_kind k) k in cc
      by_reply rs WasOver is s = let e = sym is ∙ ap (λ k. plain_kind k) k in cc

  pub settles_over : p.kind ≡ kind.Over → SettlesPacket g p (with_verdict verdict.Over (noted_ending false g))
  settles_over k = record { fork = refl; numbers = refl; joined = refl; room = refl; count = count_one g.ended false; says = by_reply }
    where
      by_reply : (rs : List Reply) (r : Reply) → IsReply (plain_packet p) r → HoldsReplies g rs → HoldsReplies (with_verdict verdict.Over (noted_ending false g)) (rs ++ r ∷ [])
      by_reply rs (WasPaused copies u) is s = let e = sym is.0 ∙ ap (λ k. plain_kind k) k in cc
      by_reply rs (WasEnded copies u) is s = let e = sym is.0 ∙ ap (λ k. plain_kind k) k in cc
      by_reply rs (WasTrapped place trap u) is s = let e = sym is.0 ∙ ap (λ k. plain_kind k) k in cc
      by_reply rs WasOver is s = says_over g (with_verdict verdict.Over (noted_ending false g)) rs s refl refl refl

  pub settles_trap : (place : Place) (trap : Trap) → p.kind ≡ kind.Trapped place trap → SettlesPacket g p (with_verdict (first_verdict g.verdict (verdict.Trap place trap)) (with_more_units p.units (noted_ending false g)))
  settles_trap place trap k = record { fork = refl; numbers = refl; joined = refl; room = refl; count = count_one g.ended false; says = by_reply }
    where
      g' : Gathered
      g' = with_verdict (first_verdict g.verdict (verdict.Trap place trap)) (with_more_units p.units (noted_ending false g))

      by_reply : (rs : List Reply) (r : Reply) → IsReply (plain_packet p) r → HoldsReplies g rs → HoldsReplies (with_verdict (first_verdict g.verdict (verdict.Trap place trap)) (with_more_units p.units (noted_ending false g))) (rs ++ r ∷ [])
      by_reply rs (WasPaused copies u) is s = let e = sym is.0 ∙ ap (λ k. plain_kind k) k in cc
      by_reply rs (WasEnded copies u) is s = let e = sym is.0 ∙ ap (λ k. plain_kind k) k in cc
      by_reply rs (WasTrapped q r u) is s =
          let e : kind.Trapped q r ≡ kind.Trapped place trap = sym (of_trapped p.kind q r is.0) ∙ k in
          let a : place ≡ q = cc in
          let b : trap ≡ r = cc in
          says_trap g (with_verdict (first_verdict g.verdict (verdict.Trap place trap)) (with_more_units p.units (noted_ending false g))) rs s q r u refl (ap (λ n. min (g.units + n) (2 ^ 64 - 1)) is.1)
          (ap (λ x. first_verdict g.verdict (verdict.Trap x trap)) a ∙ ap (λ x. first_verdict g.verdict (verdict.Trap q x)) b)
      by_reply rs WasOver is s = let e = sym is ∙ ap (λ k. plain_kind k) k in cc

  pub settles_else : (p.kind ≡ kind.Ended → ⊥) → ((place : Place) (trap : Trap) → p.kind ≡ kind.Trapped place trap → ⊥) → (p.kind ≡ kind.Over → ⊥) → SettlesPacket g p (with_more_units p.units (noted_ending false g))
  settles_else no_end no_trap no_over = record { fork = refl; numbers = refl; joined = refl; room = refl; count = count_one g.ended false; says = by_reply }
    where
      by_reply : (rs : List Reply) (r : Reply) → IsReply (plain_packet p) r → HoldsReplies g rs → HoldsReplies (with_more_units p.units (noted_ending false g)) (rs ++ r ∷ [])
      by_reply rs (WasPaused copies u) is s = plain_by false rs (WasPaused copies u) refl refl refl is.2 s
      by_reply rs (WasEnded copies u) is s = absurd (no_end (of_ended p.kind is.0))
      by_reply rs (WasTrapped q r u) is s = absurd (no_trap q r (of_trapped p.kind q r is.0))
      by_reply rs WasOver is s = absurd (no_over (of_over p.kind is))

-- ---- the next thread is looked at

pub one_chosen : (numbers : List ℕ) (n i : ℕ) (all rest : List ℕ) → n < length numbers → take n numbers ++ (i ∷ rest) ≡ all → take (n + 1) (slice_set numbers n i) ++ rest ≡ all
one_chosen numbers n i all rest lt h = ap (λ l. l ++ rest) (take_set numbers n i lt) ∙ append_assoc (take n numbers) (i ∷ []) rest ∙ h
