-- The text of a dump is read to its end.
use Rattle.std.proofs.Common.{◌≡◌, ℕ, suc, ◌+◌, ◌-◌, ◌^◌, ◌<◌, ◌≤◌, Bool, true, false, cond, not, ◌&&◌, ◌==◌, nat_lt, nat_le, Option, Some, None, List, [], ◌∷◌, ◌++◌, map, length, take, get_or, ℤ, codes, decimal, FitsSigned, w32, refl, sym, ap, ap₂, ◌∙◌, arith, append_assoc, append-nil, eq-eqb, eqb-true, lt-ltb, le-ltb, leb-true}
use Rattle.std.specs.Int.{cast_unsigned}
use Rattle.std.specs.List.{AllByRecursion}
use Rattle.std.proofs.lemmas.Bool.{and_parts, agree_below_at, and_from, not-true}
use Rattle.std.proofs.lemmas.Bool.Decides.{Decides-int_eq}
use Rattle.std.proofs.lemmas.List.{get_or_at, take_at}
use Rattle.wave_dump.specs.Wave.{PlainDump, IsDump, IsWaveName, AreValues, is_kept, is_name_byte, is_ending_byte, output_letter, shown_name, shown_byte, declaration, declarations, scope_lines, head_text, change_lines, tick_text, ticks_text, until_ending, value_bits, value_line, no_values, wave_text}
use Rattle.wave_dump.specs.Machine.{TickSpot, DumpStage, Vars, Name, Start, Body, Bits, Letter, Ending, Done, literal, unshown_byte, is_shown_byte, declared_output, olds_of, between_ticks, may_end_tick, kept_values, finished_ticks, value_begun, value_of_bits, can_take, behind_kept, value_taken_by, more_bits, value_taken, ends_blank, ending_closed_by, stage_after, first_stage, stage_behind}
use Rattle.wave_dump.proofs.Tools.{length_plus, length_pushed, length_mapped}
use Rattle.wave_dump.proofs.BitLemmas.{AreBits, value_again, length_bits, bits_are}
use Rattle.wave_dump.proofs.TickLemmas.{olds_push, length_none}

pub run_append : (x y : List ℕ) (o : Option DumpStage) → stage_behind o (x ++ y) ≡ stage_behind (stage_behind o x) y
run_append x y None = refl
run_append [] y (Some s) = refl
run_append (b ∷ x) y (Some s) = run_append x y (stage_after s b)

pub run_text : (w x : List ℕ) (s : DumpStage) → stage_behind (Some (literal w s)) (w ++ x) ≡ stage_behind (Some s) x
run_text [] x s = refl
run_text (c ∷ w) x s = ap (λ (b : Bool). stage_behind (cond b (Some (literal w s)) None) (w ++ x)) (eq-eqb c c refl) ∙ run_text w x s

pub run_if : (b : Bool) (s : DumpStage) (x : List ℕ) → b ≡ true → stage_behind (cond b (Some s) None) x ≡ stage_behind (Some s) x
run_if b s x e = ap (λ (c : Bool). stage_behind (cond c (Some s) None) x) e

-- ---- names

abbrev wrong_name : ℕ → Bool
wrong_name b = is_name_byte b && not (not (shown_byte b == 32) && (is_shown_byte (shown_byte b) && (unshown_byte (shown_byte b) == b)))

abbrev never : ℕ → Bool
never b = false

pub small_name : (b : ℕ) → is_name_byte b ≡ true → b < 127
small_name b h = let k : nat_le b 126 ≡ true = (and_parts (nat_le b 126) _ (and_parts (nat_le 33 b) _ h).1).0 in let l : b ≤ 126 = leb-true b 126 k in omega arith

both_true : (x y : Bool) → x ≡ true → (x && not y) ≡ false → y ≡ true
both_true true true h k = refl
both_true true false h k = absurd cc
both_true false y h k = absurd cc

step_name : (names : List (List ℕ)) (name : List ℕ) (b : ℕ) → is_name_byte b ≡ true → stage_after (Name names name) (shown_byte b) ≡ Some (Name names (name ++ b ∷ []))
step_name names name b h =
    let fine : wrong_name b ≡ false = agree_below_at wrong_name never 127 b refl (small_name b h) in
    let parts = and_parts (not (shown_byte b == 32)) (is_shown_byte (shown_byte b) && (unshown_byte (shown_byte b) == b)) (both_true (is_name_byte b) (not (shown_byte b == 32) && (is_shown_byte (shown_byte b) && (unshown_byte (shown_byte b) == b))) h fine) in
    let two = and_parts (is_shown_byte (shown_byte b)) (unshown_byte (shown_byte b) == b) parts.1 in
    let no_blank : (shown_byte b == 32) ≡ false = not-true (shown_byte b == 32) parts.0 in
    let back : unshown_byte (shown_byte b) ≡ b = eqb-true (unshown_byte (shown_byte b)) b two.1 in
    let other = Some (Name names (name ++ unshown_byte (shown_byte b) ∷ [])) in
    let end = Some (literal (codes "$end\n") (Vars (names ++ name ∷ []))) in
    ap (λ (c : Bool). cond c end (cond (is_shown_byte (shown_byte b)) other None)) no_blank
    ∙ ap (λ (c : Bool). cond c other None) two.0
    ∙ ap (λ (c : ℕ). Some (Name names (name ++ c ∷ []))) back

pub run_name : (names : List (List ℕ)) (more name x : List ℕ) → IsWaveName more → stage_behind (Some (Name names name)) (shown_name more ++ x) ≡ stage_behind (Some (Name names (name ++ more))) x
run_name names [] name x h = ap (λ (n : List ℕ). stage_behind (Some (Name names n)) x) (sym (append-nil name))
run_name names (b ∷ more) name x h =
    ap (λ (o : Option DumpStage). stage_behind o (shown_name more ++ x)) (step_name names name b h.0)
    ∙ run_name names more (name ++ b ∷ []) x h.1
    ∙ ap (λ (n : List ℕ). stage_behind (Some (Name names n)) x) (append_assoc name (b ∷ []) more)

pub run_declaration : (names : List (List ℕ)) (name x : List ℕ) → length names < 64 → IsWaveName name → stage_behind (Some (Vars names)) (declaration (length names) name ++ x) ≡ stage_behind (Some (Vars (names ++ name ∷ []))) x
run_declaration names name x low h =
    let w = codes "ar wire 32 " ++ output_letter (length names) ∷ codes " " in
    let rest = (shown_name name ++ codes " $end\n") ++ x in
    let is : stage_behind (declared_output names) (w ++ rest) ≡ stage_behind (Some (literal w (Name names []))) (w ++ rest) = run_if (nat_lt (length names) 64) (literal w (Name names [])) (w ++ rest) (lt-ltb (length names) 64 low) in
    is
    ∙ run_text w rest (Name names [])
    ∙ ap (stage_behind (Some (Name names []))) (append_assoc (shown_name name) (codes " $end\n") x)
    ∙ run_name names name [] (codes " $end\n" ++ x) h

pub run_declarations : (names done : List (List ℕ)) (k : ℕ) (x : List ℕ) → k ≡ length done → length done + length names ≤ 64 → AllByRecursion IsWaveName names →
    stage_behind (Some (Vars done)) (declarations k names ++ x) ≡ stage_behind (Some (Vars (done ++ names))) x
run_declarations [] done k x e few h = ap (λ (n : List (List ℕ)). stage_behind (Some (Vars n)) x) (sym (append-nil done))
run_declarations (name ∷ names) done k x e few h =
    let next = declarations (suc k) names ++ x in
    let more : length (done ++ name ∷ []) ≡ suc (length done) = length_pushed done name in
    ap (stage_behind (Some (Vars done))) (append_assoc (declaration k name) (declarations (suc k) names) x)
    ∙ ap (λ (j : ℕ). stage_behind (Some (Vars done)) (declaration j name ++ next)) e
    ∙ run_declaration done name next (omega arith) h.0
    ∙ run_declarations names (done ++ name ∷ []) (suc k) x (omega arith) (omega arith) h.1
    ∙ ap (λ (n : List (List ℕ)). stage_behind (Some (Vars n)) x) (append_assoc done (name ∷ []) names)

pub run_head : (names : List (List ℕ)) (x : List ℕ) → length names ≤ 64 → AllByRecursion IsWaveName names → stage_behind (Some first_stage) (head_text names ++ x) ≡ stage_behind (Some (Start names)) x
run_head names x few h =
    let end = codes "$upscope $end\n$enddefinitions $end\n" in
    ap (stage_behind (Some first_stage)) (append_assoc (scope_lines ++ declarations 0 names) end x ∙ append_assoc scope_lines (declarations 0 names) (end ++ x))
    ∙ run_text scope_lines (declarations 0 names ++ (end ++ x)) (Vars [])
    ∙ run_declarations names [] 0 (end ++ x) refl (omega arith) h

-- ---- values

-- a list of bits before which others stand
bits_left : (w : TickSpot) (more bs y : List ℕ) (b : ℕ) → length bs + suc (length more) ≡ 32 → AreBits (b ∷ more) →
    stage_behind (Some (Bits w bs)) ((b ∷ more) ++ y) ≡ stage_behind (cond (can_take w.left (value_of_bits (bs ++ b ∷ more))) (Some (literal (codes " ") (Letter w (value_of_bits (bs ++ b ∷ more))))) None) y
bits_left w [] bs y b e h =
    let len : length (bs ++ b ∷ []) ≡ suc (length bs) = length_pushed bs b in
    ap (λ (c : Bool). stage_behind (cond c (more_bits w (bs ++ b ∷ [])) None) y) h.0
    ∙ ap (λ (c : Bool). stage_behind (cond c (Some (Bits w (bs ++ b ∷ []))) (cond (can_take w.left (value_of_bits (bs ++ b ∷ []))) (Some (literal (codes " ") (Letter w (value_of_bits (bs ++ b ∷ []))))) None)) y)
    (le-ltb (length (bs ++ b ∷ [])) 32 (omega arith))
bits_left w (c ∷ more) bs y b e h =
    let len : length (bs ++ b ∷ []) ≡ suc (length bs) = length_pushed bs b in
    let end = λ (xs : List ℕ). stage_behind (cond (can_take w.left (value_of_bits xs)) (Some (literal (codes " ") (Letter w (value_of_bits xs)))) None) y in
    ap (λ (z : Bool). stage_behind (cond z (more_bits w (bs ++ b ∷ [])) None) ((c ∷ more) ++ y)) h.0
    ∙ ap (λ (z : Bool). stage_behind (cond z (Some (Bits w (bs ++ b ∷ []))) (cond (can_take w.left (value_of_bits (bs ++ b ∷ []))) (Some (literal (codes " ") (Letter w (value_of_bits (bs ++ b ∷ []))))) None)) ((c ∷ more) ++ y))
    (lt-ltb (length (bs ++ b ∷ [])) 32 (omega arith))
    ∙ bits_left w more (bs ++ b ∷ []) y c (omega arith) h.1
    ∙ ap end (append_assoc bs (b ∷ []) (c ∷ more))

run_bits_of : (w : TickSpot) (bs y : List ℕ) → length bs ≡ 32 → AreBits bs → stage_behind (Some (Bits w [])) (bs ++ y) ≡ stage_behind (cond (can_take w.left (value_of_bits bs)) (Some (literal (codes " ") (Letter w (value_of_bits bs)))) None) y
run_bits_of w [] y e h = absurd (omega arith)
run_bits_of w (b ∷ bs) y e h = bits_left w bs [] y b (omega arith) h

either_true : (b c : Bool) → c ≡ true → cond b c true ≡ true
either_true true c e = e
either_true false c e = refl

pub can_us : (us : List ℤ) (old : Option ℤ) (left : List (Option ℤ)) (v : ℤ) → is_kept old v ≡ false → can_take (map Some us ++ old ∷ left) v ≡ true
can_us [] None left v e = refl
can_us [] (Some u) left v e = ap (λ (b : Bool). cond b (can_take left v) true) e
can_us (u ∷ us) old left v e = either_true (is_kept (Some u) v) (can_take (map Some us ++ old ∷ left) v) (can_us us old left v e)

take_us : (us : List ℤ) (old : Option ℤ) (left : List (Option ℤ)) (v : ℤ) → is_kept old v ≡ false → value_taken_by (length us) (map Some us ++ old ∷ left) v ≡ Some (us ++ v ∷ [], left)
take_us [] old left v e = ap (λ (b : Bool). cond b None (Some (v ∷ [], left))) e
take_us (u ∷ us) old left v e = ap (behind_kept u) (take_us us old left v e)

run_which : (w : TickSpot) (us : List ℤ) (old : Option ℤ) (left : List (Option ℤ)) (v : ℤ) (k : ℕ) (y : List ℕ) → k ≡ length w.now + length us → w.left ≡ map Some us ++ old ∷ left → is_kept old v ≡ false →
    stage_behind (Some (Letter w v)) (output_letter k ∷ (10 ∷ y)) ≡ stage_behind (Some (Body (record { names = w.names; ticks = w.ticks; now = w.now ++ (us ++ v ∷ []); left = left }))) y
run_which w us old left v k y e f new =
    let high : nat_lt (output_letter k) (33 + length w.now) ≡ false = le-ltb (output_letter k) (33 + length w.now) (omega arith) in
    let which : output_letter k - (33 + length w.now) ≡ length us = omega arith in
    ap (λ (b : Bool). stage_behind (cond b None (value_taken w (value_taken_by (output_letter k - (33 + length w.now)) w.left v))) (10 ∷ y)) high
    ∙ ap (λ (i : ℕ). stage_behind (value_taken w (value_taken_by i w.left v)) (10 ∷ y)) which
    ∙ ap (λ (l : List (Option ℤ)). stage_behind (value_taken w (value_taken_by (length us) l v)) (10 ∷ y)) f
    ∙ ap (λ (o : Option (List ℤ × List (Option ℤ))). stage_behind (value_taken w o) (10 ∷ y)) (take_us us old left v new)

not_empty : (us : List ℤ) (old : Option ℤ) (left : List (Option ℤ)) → [] ≡ map Some us ++ old ∷ left → ⊥
not_empty [] old left e = cc
not_empty (u ∷ us) old left e = cc

-- a value begins
begins : (w : TickSpot) (us : List ℤ) (old : Option ℤ) (left : List (Option ℤ)) (l : List (Option ℤ)) → l ≡ map Some us ++ old ∷ left → value_begun w l ≡ Some (Bits w [])
begins w us old left [] e = absurd (not_empty us old left e)
begins w us old left (o ∷ l) e = refl

pub run_line : (w : TickSpot) (us : List ℤ) (old : Option ℤ) (left : List (Option ℤ)) (v : ℤ) (k : ℕ) (y : List ℕ) → k ≡ length w.now + length us → w.left ≡ map Some us ++ old ∷ left → is_kept old v ≡ false → FitsSigned w32 v →
    stage_behind (Some (Body w)) (value_line k v ++ y) ≡ stage_behind (Some (Body (record { names = w.names; ticks = w.ticks; now = w.now ++ (us ++ v ∷ []); left = left }))) y
run_line w us old left v k y e f new fits =
    let rest = (output_letter k ∷ codes "\n") ++ y in
    let can : can_take w.left v ≡ true = ap (λ (l : List (Option ℤ)). can_take l v) f ∙ can_us us old left v new in
    let again : value_of_bits (value_bits v) ≡ v = value_again v fits in
    ap (λ (o : Option DumpStage). stage_behind o (((value_bits v ++ codes " ") ++ output_letter k ∷ codes "\n") ++ y)) (begins w us old left w.left f)
    ∙ ap (stage_behind (Some (Bits w []))) (append_assoc (value_bits v ++ codes " ") (output_letter k ∷ codes "\n") y ∙ append_assoc (value_bits v) (codes " ") rest)
    ∙ run_bits_of w (value_bits v) (codes " " ++ rest) (length_bits 32 (cast_unsigned w32 v)) (bits_are 32 (cast_unsigned w32 v))
    ∙ ap (λ (z : ℤ). stage_behind (cond (can_take w.left z) (Some (literal (codes " ") (Letter w z))) None) (codes " " ++ rest)) again
    ∙ run_if (can_take w.left v) (literal (codes " ") (Letter w v)) (codes " " ++ rest) can
    ∙ run_which w us old left v k y e f new

-- ---- the values of a tick

-- in a tick, with the values us that are those of the tick before not read yet
abbrev pub spot_at : List (List ℕ) → List (List ℤ) → List ℤ → List ℤ → TickSpot
spot_at names ticks now us = record { names = names; ticks = ticks; now = now; left = map Some us }

-- the values were read
pub record Values (names : List (List ℕ)) (ticks : List (List ℤ)) (all : List ℤ) (before : TickSpot) (lines x : List ℕ) : Type 0 where
  pub now : List ℤ
  pub us : List ℤ
  pub whole : now ++ us ≡ all
  pub ran : stage_behind (Some (Body before)) (lines ++ x) ≡ stage_behind (Some (Body (spot_at names ticks now us))) x

map_push : (us : List ℤ) (v : ℤ) (left : List (Option ℤ)) → map Some us ++ Some v ∷ left ≡ map Some (us ++ v ∷ []) ++ left
map_push [] v left = refl
map_push (u ∷ us) v left = ap (λ (l : List (Option ℤ)). Some u ∷ l) (map_push us v left)

abbrev pub spot_with : List (List ℕ) → List (List ℤ) → List ℤ → List (Option ℤ) → TickSpot
spot_with names ticks now l = record { names = names; ticks = ticks; now = now; left = l }

regroup : (now us vs : List ℤ) (v : ℤ) → (now ++ (us ++ v ∷ [])) ++ vs ≡ (now ++ us) ++ v ∷ vs
regroup now us vs v = ap (λ (a : List ℤ). a ++ vs) (sym (append_assoc now us (v ∷ []))) ∙ append_assoc (now ++ us) (v ∷ []) vs

values_kept : (v : ℤ) (vs : List ℤ) (old : Option ℤ) (left : List (Option ℤ)) (names : List (List ℕ)) (ticks : List (List ℤ)) (now us : List ℤ) (l : List (Option ℤ)) (k : ℕ) (x : List ℕ) →
    is_kept old v ≡ true → Values names ticks ((now ++ (us ++ v ∷ [])) ++ vs) (spot_with names ticks now l) (change_lines (suc k) left vs) x →
    Values names ticks ((now ++ us) ++ v ∷ vs) (spot_with names ticks now l) (change_lines k (old ∷ left) (v ∷ vs)) x
values_kept v vs old left names ticks now us l k x e r =
    record {
      now = r.now;
      us = r.us;
      whole = r.whole ∙ regroup now us vs v;
      ran = ap (λ (b : Bool). stage_behind (Some (Body (spot_with names ticks now l))) ((cond b [] (value_line k v) ++ change_lines (suc k) left vs) ++ x)) e ∙ r.ran;
    }

values_new : (v : ℤ) (vs : List ℤ) (old : Option ℤ) (left : List (Option ℤ)) (names : List (List ℕ)) (ticks : List (List ℤ)) (now us : List ℤ) (l : List (Option ℤ)) (k : ℕ) (x : List ℕ) →
    k ≡ length now + length us → l ≡ map Some us ++ old ∷ left → is_kept old v ≡ false → FitsSigned w32 v →
    Values names ticks (((now ++ (us ++ v ∷ [])) ++ []) ++ vs) (spot_with names ticks (now ++ (us ++ v ∷ [])) left) (change_lines (suc k) left vs) x →
    Values names ticks ((now ++ us) ++ v ∷ vs) (spot_with names ticks now l) (change_lines k (old ∷ left) (v ∷ vs)) x
values_new v vs old left names ticks now us l k x e f new fits r =
    let w = spot_with names ticks now l in
    let more = change_lines (suc k) left vs in
    record {
      now = r.now;
      us = r.us;
      whole = r.whole ∙ ap (λ (a : List ℤ). a ++ vs) (append-nil (now ++ (us ++ v ∷ []))) ∙ regroup now us vs v;
      ran = ap (λ (b : Bool). stage_behind (Some (Body w)) ((cond b [] (value_line k v) ++ more) ++ x)) new
          ∙ ap (stage_behind (Some (Body w))) (append_assoc (value_line k v) more x)
          ∙ run_line w us old left v k (more ++ x) e f new fits
          ∙ r.ran;
    }

kept_is : (old : Option ℤ) (v : ℤ) → is_kept old v ≡ true → old ≡ Some v
kept_is None v e = absurd cc
kept_is (Some u) v e = ap Some ((Decides-int_eq u v).0 e)

pub data Judged (b : Bool) : Type 0 where
  Yes : b ≡ true → Judged b
  No : b ≡ false → Judged b

pub judged : (b : Bool) → Judged b
judged true = Yes refl
judged false = No refl

pub run_values : (vs : List ℤ) (left : List (Option ℤ)) (names : List (List ℕ)) (ticks : List (List ℤ)) (now us : List ℤ) (l : List (Option ℤ)) (k : ℕ) (x : List ℕ) →
    k ≡ length now + length us → l ≡ map Some us ++ left → length vs ≡ length left → AllByRecursion (FitsSigned w32) vs →
    Values names ticks ((now ++ us) ++ vs) (spot_with names ticks now l) (change_lines k left vs) x
run_values [] [] names ticks now us l k x e f g h =
    record {
      now = now;
      us = us;
      whole = sym (append-nil (now ++ us));
      ran = ap (λ (m : List (Option ℤ)). stage_behind (Some (Body (spot_with names ticks now m))) x) (f ∙ append-nil (map Some us));
    }
run_values [] (old ∷ left) names ticks now us l k x e f g h = absurd (omega arith)
run_values (v ∷ vs) [] names ticks now us l k x e f g h = absurd (omega arith)
run_values (v ∷ vs) (old ∷ left) names ticks now us l k x e f g h =
    let more : length (us ++ v ∷ []) ≡ suc (length us) = length_pushed us v in
    let all : length (now ++ (us ++ v ∷ [])) ≡ length now + length (us ++ v ∷ []) = length_plus now (us ++ v ∷ []) in
    elim (judged (is_kept old v)) [
      | Yes y ↦ values_kept v vs old left names ticks now us l k x y
          (run_values vs left names ticks now (us ++ v ∷ []) l (suc k) x (omega arith)
          (f ∙ ap (λ (o : Option ℤ). map Some us ++ o ∷ left) (kept_is old v y) ∙ map_push us v left) (omega arith) h.1)
      | No n ↦ values_new v vs old left names ticks now us l k x e f n h.0
          (run_values vs left names ticks (now ++ (us ++ v ∷ [])) [] left (suc k) x (let z : length (now ++ (us ++ v ∷ [])) ≡ suc k = omega arith in omega arith) refl (omega arith) h.1)
    ]

-- ---- ticks

pub may_us : (us : List ℤ) → may_end_tick (map Some us) ≡ true
may_us [] = refl
may_us (u ∷ us) = may_us us

pub kept_us : (us : List ℤ) → kept_values (map Some us) ≡ us
kept_us [] = refl
kept_us (u ∷ us) = ap (λ (l : List ℤ). u ∷ l) (kept_us us)

-- a state between two ticks
pub record AtTick (s : DumpStage) (names : List (List ℕ)) (ticks : List (List ℤ)) : Type 0 where
  pub tick : stage_after s 35 ≡ between_ticks names ticks 35
  pub end : stage_after s 36 ≡ between_ticks names ticks 36

pub at_start : (names : List (List ℕ)) → AtTick (Start names) names []
at_start names = record { tick = refl; end = refl }

pub at_body : (names : List (List ℕ)) (ticks : List (List ℤ)) (now us vs : List ℤ) → now ++ us ≡ vs → AtTick (Body (spot_at names ticks now us)) names (ticks ++ vs ∷ [])
at_body names ticks now us vs e =
    let w = spot_at names ticks now us in
    let whole : finished_ticks w ≡ ticks ++ vs ∷ [] = ap (λ (l : List ℤ). ticks ++ l ∷ []) (ap (λ (m : List ℤ). now ++ m) (kept_us us) ∙ e) in
    record {
      tick = ap (λ (b : Bool). cond b (between_ticks names (finished_ticks w) 35) None) (may_us us) ∙ ap (λ (t : List (List ℤ)). between_ticks names t 35) whole;
      end = ap (λ (b : Bool). cond b (between_ticks names (finished_ticks w) 36) None) (may_us us) ∙ ap (λ (t : List (List ℤ)). between_ticks names t 36) whole;
    }

pub run_tick : (s : DumpStage) (names : List (List ℕ)) (ticks : List (List ℤ)) (vs : List ℤ) (x : List ℕ) → AtTick s names ticks → suc (length ticks) < 2 ^ 64 → AreValues (length names) vs → length (olds_of names ticks) ≡ length names →
    Values names ticks vs (spot_with names ticks [] (olds_of names ticks)) (change_lines 0 (olds_of names ticks) vs) x × (stage_behind (Some s) (tick_text (suc (length ticks)) (olds_of names ticks) vs ++ x) ≡ stage_behind (Some (Body (spot_with names ticks [] (olds_of names ticks)))) (change_lines 0 (olds_of names ticks) vs ++ x))
run_tick s names ticks vs x a low h n =
    let olds = olds_of names ticks in
    let line = decimal (suc (length ticks)) ++ codes "\n" in
    let body = Body (spot_with names ticks [] olds) in
    let lines = change_lines 0 olds vs in (
      run_values vs olds names ticks [] [] olds 0 x refl refl (h.count ∙ sym n) h.each,
      ap (λ (o : Option DumpStage). stage_behind o ((line ++ lines) ++ x)) a.tick
          ∙ run_if (nat_lt (suc (length ticks)) (2 ^ 64)) (literal line body) ((line ++ lines) ++ x) (lt-ltb (suc (length ticks)) (2 ^ 64) low)
          ∙ ap (stage_behind (Some (literal line body))) (append_assoc line lines x)
          ∙ run_text line (lines ++ x) body,
    )

-- ---- the ending

pub run_ending : (names : List (List ℕ)) (ticks : List (List ℤ)) (more e x : List ℕ) → AllByRecursion (λ b. is_ending_byte b ≡ true) more → stage_behind (Some (Ending names ticks e)) (more ++ x) ≡ stage_behind (Some (Ending names ticks (e ++ more))) x
run_ending names ticks [] e x h = ap (λ (n : List ℕ). stage_behind (Some (Ending names ticks n)) x) (sym (append-nil e))
run_ending names ticks (b ∷ more) e x h =
    ap (λ (c : Bool). stage_behind (cond c (Some (Ending names ticks (e ++ b ∷ []))) (cond (b == 36) (ending_closed_by names ticks e) None)) (more ++ x)) h.0
    ∙ run_ending names ticks more (e ++ b ∷ []) x h.1
    ∙ ap (λ (n : List ℕ). stage_behind (Some (Ending names ticks n)) x) (append_assoc e (b ∷ []) more)

pub run_close : (names : List (List ℕ)) (ticks : List (List ℤ)) (e : List ℕ) → 0 < length e → stage_behind (ending_closed_by names ticks (e ++ 32 ∷ [])) (codes "end\n") ≡ Some (Done (record { names = names; ticks = ticks; ending = e }))
run_close names ticks e some =
    let all = e ++ 32 ∷ [] in
    let len : length all ≡ suc (length e) = length_pushed e 32 in
    let n : length all - 1 ≡ length e = omega arith in
    let long : nat_lt 1 (length all) ≡ true = lt-ltb 1 (length all) (omega arith) in
    let last : get_or all (length all - 1) 0 ≡ 32 = ap (λ (i : ℕ). get_or all i 0) n ∙ get_or_at e 32 [] 0 (length e) refl in
    let blank : ends_blank all ≡ true = and_from (nat_lt 1 (length all)) (get_or all (length all - 1) 0 == 32) long (eq-eqb (get_or all (length all - 1) 0) 32 last) in
    let front : take (length all - 1) all ≡ e = ap (λ (i : ℕ). take i all) n ∙ take_at e (32 ∷ []) (length e) refl in
    run_if (ends_blank all) (literal (codes "end\n") (Done (record { names = names; ticks = ticks; ending = take (length all - 1) all }))) (codes "end\n") blank
    ∙ ap (λ (f : List ℕ). Some (Done (record { names = names; ticks = ticks; ending = f }))) front

pub run_rest : (more : List (List ℤ)) (s : DumpStage) (names : List (List ℕ)) (ticks : List (List ℤ)) (e : List ℕ) → AtTick s names ticks → AllByRecursion (AreValues (length names)) more → length (olds_of names ticks) ≡ length names →
    length ticks + length more < 2 ^ 64 → AllByRecursion (λ b. is_ending_byte b ≡ true) e → 0 < length e →
    stage_behind (Some s) (ticks_text (suc (length ticks)) (olds_of names ticks) more ++ ((codes "$comment " ++ e) ++ codes " $end\n")) ≡ Some (Done (record { names = names; ticks = ticks ++ more; ending = e }))
run_rest [] s names ticks e a h n low g some =
    let tail = e ++ codes " $end\n" in
    ap (λ (o : Option DumpStage). stage_behind o (codes "comment " ++ tail)) a.end
    ∙ run_ending names ticks e [] (codes " $end\n") g
    ∙ run_close names ticks e some
    ∙ ap (λ (t : List (List ℤ)). Some (Done (record { names = names; ticks = t; ending = e }))) (sym (append-nil ticks))
run_rest (vs ∷ more) s names ticks e a h n low g some =
    let olds = olds_of names ticks in
    let k = suc (length ticks) in
    let tail = (codes "$comment " ++ e) ++ codes " $end\n" in
    let rest = ticks_text (suc k) (map Some vs) more ++ tail in
    let r = run_tick s names ticks vs rest a (omega arith) h.0 n in
    let values = r.0 in
    let len : length (ticks ++ vs ∷ []) ≡ suc (length ticks) = length_pushed ticks vs in
    let new : olds_of names (ticks ++ vs ∷ []) ≡ map Some vs = olds_push (no_values names) ticks vs in
    let next = Body (spot_at names ticks values.now values.us) in
    ap (stage_behind (Some s)) (append_assoc (tick_text k olds vs) (ticks_text (suc k) (map Some vs) more) tail)
    ∙ r.1
    ∙ values.ran
    ∙ ap₂ (λ (j : ℕ) (o : List (Option ℤ)). stage_behind (Some next) (ticks_text j o more ++ tail)) (ap suc (sym len)) (sym new)
    ∙ run_rest more next names (ticks ++ vs ∷ []) e (at_body names ticks values.now values.us vs values.whole) h.1
    (ap length new ∙ length_mapped Some vs ∙ h.0.count) (omega arith) g some
    ∙ ap (λ (t : List (List ℤ)). Some (Done (record { names = names; ticks = t; ending = e }))) (append_assoc ticks (vs ∷ []) more)

pub complete : (d : PlainDump) → IsDump d → stage_behind (Some first_stage) (wave_text d) ≡ Some (Done d)
complete d h =
    let ticks = ticks_text 1 (no_values d.names) d.ticks in
    let tail = (codes "$comment " ++ d.ending) ++ codes " $end\n" in
    ap (stage_behind (Some first_stage)) (append_assoc (until_ending d.names d.ticks ++ codes "$comment ") d.ending (codes " $end\n")
    ∙ append_assoc (until_ending d.names d.ticks) (codes "$comment ") (d.ending ++ codes " $end\n")
    ∙ append_assoc (head_text d.names) ticks tail)
    ∙ run_head d.names (ticks ++ tail) h.few h.names
    ∙ run_rest d.ticks (Start d.names) d.names [] d.ending (at_start d.names) h.ticks (length_none d.names) (let z : length d.ticks < 2 ^ 64 = h.numbers in omega arith) h.ending h.some
