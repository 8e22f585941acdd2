-- What was read where a state is reached is the front of a dump.
use Rattle.std.proofs.Common.{◌≡◌, ℕ, zero, suc, ◌+◌, ◌-◌, ◌^◌, ◌<◌, Bool, true, false, cond, Option, Some, None, List, [], ◌∷◌, ◌++◌, length, get_or, replicate, ◌==◌, true≢false, ℤ, codes, FitsSigned, w32, refl, sym, ap, ◌∙◌, arith, append_assoc, append-nil}
use Rattle.std.specs.List.{AllByRecursion}
use Rattle.std.proofs.lemmas.List.{append_cancel_left, length-replicate}
use Rattle.std.proofs.lemmas.Bool.Decides.{Decides-int_eq}
use Rattle.wave_dump.specs.Wave.{PlainDump, IsDump, AreValues, is_kept, is_ending_byte, output_letter, head_text, change_lines, until_ending, value_bits, wave_text}
use Rattle.wave_dump.specs.Machine.{TickSpot, DumpStage, Literal, Vars, Dollar, Name, Start, Body, Bits, Letter, Ending, Done, is_bit, kept_values, finished_ticks, value_of_bits, can_take}
use Rattle.wave_dump.specs.Fronts.{IsDumpFront}
use Rattle.wave_dump.proofs.Tools.{all_push, all_append, length_plus}
use Rattle.wave_dump.proofs.BitLemmas.{AreBits, value_is, value_fits}
use Rattle.wave_dump.proofs.TickLemmas.{Takes, takes_here, takes_later}
use Rattle.wave_dump.proofs.Reached.{declared, IsNamed, IsNaming, OldFits, spot_text, IsBody, IsBits, IsWhich, IsEnding, Reached}
use Rattle.wave_dump.proofs.Sound.{three, goes_on, AreTicks, ending_begins, whole_tick, tick_values, after, after_spot, after_text, value_text, name_ends}

pub front_of : (p w : List ℕ) → IsDumpFront (p ++ w) → IsDumpFront p
front_of p w f = (f.0, w ++ f.1, f.2, f.3 ∙ append_assoc p w f.1)

pub of_done : (p : List ℕ) (d : PlainDump) → p ≡ wave_text d → IsDump d → IsDumpFront p
of_done p d e g = (d, [], g, sym e ∙ sym (append-nil p))

pub of_ending : (p : List ℕ) (names : List (List ℕ)) (ticks : List (List ℤ)) (e : List ℕ) → IsEnding p names ticks e → IsDumpFront p
of_ending p names ticks e r =
    let all = until_ending names ticks in
    let more = codes "x" in
    let d : PlainDump = record { names = names; ticks = ticks; ending = e ++ more } in (
      d,
      codes "x $end\n",
      record {
        few = r.few;
        names = r.good;
        ticks = r.each;
        numbers = r.number;
        some = let l : length (e ++ more) ≡ length e + 1 = length_plus e more in omega arith;
        ending = all_push (λ b. is_ending_byte b ≡ true) e 120 r.bytes refl;
      },
      three all (codes "$comment ") (e ++ more) (codes " $end\n")
          ∙ ap (λ (x : List ℕ). all ++ (codes "$comment " ++ x)) (append_assoc e more (codes " $end\n"))
          ∙ sym (ap (λ (q : List ℕ). q ++ codes "x $end\n") r.text ∙ append_assoc all (codes "$comment " ++ e) (codes "x $end\n")),
    )

pub of_ticks : (p : List ℕ) (names : List (List ℕ)) (ticks : List (List ℤ)) → AreTicks p names ticks → IsDumpFront p
of_ticks p names ticks r =
    front_of p (36 ∷ []) (front_of (p ++ 36 ∷ []) (codes "comment ") (of_ending ((p ++ 36 ∷ []) ++ codes "comment ") names ticks [] (ending_begins p names ticks r)))

-- each output that is left keeps its value, or has 0
pub of_body : (p : List ℕ) (w : TickSpot) → IsBody p w → IsDumpFront p
of_body p w r =
    let rest = change_lines (length w.now) w.left (kept_values w.left) in
    front_of p rest (of_ticks (p ++ rest) w.names (finished_ticks w) (record {
      text = ap (λ (q : List ℕ). q ++ rest) r.text ∙ whole_tick w (kept_values w.left) rest r.spot refl;
      few = r.spot.few;
      good = r.spot.good;
      each = all_push (AreValues (length w.names)) w.ticks (w.now ++ kept_values w.left) r.spot.ticks (tick_values w r.spot);
      number = let a : suc (length w.ticks) < 2 ^ 64 = r.spot.number in let b : length (finished_ticks w) ≡ length w.ticks + 1 = length_plus w.ticks ((w.now ++ kept_values w.left) ∷ []) in omega arith;
    }))

pub record CanTake (j : ℕ) (left : List (Option ℤ)) (v : ℤ) : Type 0 where
  pub k : ℕ
  pub vs : List ℤ
  pub rest : List (Option ℤ)
  pub takes : Takes k j left v vs rest

takes_now : (j : ℕ) (old : Option ℤ) (left : List (Option ℤ)) (v : ℤ) → is_kept old v ≡ false → FitsSigned w32 v → AllByRecursion OldFits left → CanTake j (old ∷ left) v
takes_now j old left v new f h = record { k = 0; vs = v ∷ []; rest = left; takes = takes_here j old left v new f h }

can_first : (j : ℕ) (u : ℤ) (left : List (Option ℤ)) (v : ℤ) (b : Bool) → is_kept (Some u) v ≡ b → cond b (can_take left v) true ≡ true → (can_take left v ≡ true → CanTake (suc j) left v) → FitsSigned w32 v → FitsSigned w32 u → AllByRecursion OldFits left → CanTake j (Some u ∷ left) v
can_first j u left v true e c ih f g h = let t = ih c in record { k = suc t.k; vs = u ∷ t.vs; rest = t.rest; takes = takes_later t.k j u left v t.vs t.rest g t.takes }
can_first j u left v false e c ih f g h = takes_now j (Some u) left v e f h

pub can : (j : ℕ) (left : List (Option ℤ)) (v : ℤ) → can_take left v ≡ true → FitsSigned w32 v → AllByRecursion OldFits left → CanTake j left v
can j [] v c f h = absurd cc
can j (None ∷ left) v c f h = takes_now j None left v refl f h.1
can j (Some u ∷ left) v c f h = can_first j u left v (is_kept (Some u) v) refl c (λ d. can (suc j) left v d f h.1) f h.0 h.1

pub of_which : (p : List ℕ) (w : TickSpot) (v : ℤ) → IsWhich p w v → IsDumpFront p
of_which p w v r =
    let t = can (length w.now) w.left v r.can r.fits r.spot.olds in
    let b = output_letter (length w.now + t.k) in
    front_of p (b ∷ []) (front_of (p ++ b ∷ []) (codes "\n") (of_body ((p ++ b ∷ []) ++ codes "\n") (after w t.vs t.rest) (record {
      text = ap (λ (q : List ℕ). (q ++ b ∷ []) ++ codes "\n") r.text ∙ value_text (spot_text w) v b (length w.now + t.k) refl ∙ after_text w t.k v t.vs t.rest r.spot t.takes;
      spot = after_spot w t.k v t.vs t.rest r.spot t.takes;
    })))

-- ---- the bits of a value that differs

all_same : (k b : ℕ) → is_bit b ≡ true → AreBits (replicate k b)
all_same zero b h = tt
all_same (suc k) b h = (h, all_same k b h)

pub can_new : (left : List (Option ℤ)) (old : Option ℤ) (more : List (Option ℤ)) (v : ℤ) → left ≡ old ∷ more → is_kept old v ≡ false → can_take left v ≡ true
can_new left None more v e new = ap (λ (l : List (Option ℤ)). can_take l v) e
can_new left (Some u) more v e new = ap (λ (l : List (Option ℤ)). can_take l v) e ∙ ap (λ (b : Bool). cond b (can_take more v) true) new

-- bits that differ are of values that differ
different : (bs : List ℕ) (k : ℕ) → value_bits (value_of_bits (bs ++ replicate (suc k) 48)) ≡ bs ++ replicate (suc k) 48 → value_bits (value_of_bits (bs ++ replicate (suc k) 49)) ≡ bs ++ replicate (suc k) 49 →
    value_of_bits (bs ++ replicate (suc k) 48) ≡ value_of_bits (bs ++ replicate (suc k) 49) → ⊥
different bs k e f g =
    let same : bs ++ replicate (suc k) 48 ≡ bs ++ replicate (suc k) 49 = sym e ∙ ap value_bits g ∙ f in
    let tails : replicate (suc k) 48 ≡ replicate (suc k) 49 = append_cancel_left bs (replicate (suc k) 48) (replicate (suc k) 49) same in
    let first : (48 == 48) ≡ (49 == 48) = ap (λ (l : List ℕ). get_or l 0 0 == 48) tails in
    true≢false first

new_by : (u v x : ℤ) → (v ≡ x → ⊥) → u ≡ v → (b : Bool) → is_kept (Some u) x ≡ b → is_kept (Some u) x ≡ false
new_by u v x n e true f = absurd (n (sym e ∙ (Decides-int_eq u x).0 f))
new_by u v x n e false f = f

pub new_one : (old : Option ℤ) (v x : ℤ) → (v ≡ x → ⊥) → is_kept old v ≡ true → is_kept old x ≡ false
new_one None v x n h = refl
new_one (Some u) v x n h = new_by u v x n ((Decides-int_eq u v).0 h) (is_kept (Some u) x) refl

-- the further bits of such a value
pub record Spells (w : TickSpot) (bs : List ℕ) : Type 0 where
  pub more : List ℕ
  pub count : length (bs ++ more) ≡ 32
  pub bits : AreBits (bs ++ more)
  pub can : can_take w.left (value_of_bits (bs ++ more)) ≡ true

spell_which : (w : TickSpot) (bs zeros ones : List ℕ) (old : Option ℤ) (more : List (Option ℤ)) → w.left ≡ old ∷ more → length (bs ++ zeros) ≡ 32 → length (bs ++ ones) ≡ 32 → AreBits (bs ++ zeros) → AreBits (bs ++ ones) →
    (value_of_bits (bs ++ zeros) ≡ value_of_bits (bs ++ ones) → ⊥) → (b : Bool) → is_kept old (value_of_bits (bs ++ zeros)) ≡ b → Spells w bs
spell_which w bs zeros ones old more e zn on zb ob d true f = record { more = ones; count = on; bits = ob; can = can_new w.left old more (value_of_bits (bs ++ ones)) e (new_one old (value_of_bits (bs ++ zeros)) (value_of_bits (bs ++ ones)) d f) }
spell_which w bs zeros ones old more e zn on zb ob d false f = record { more = zeros; count = zn; bits = zb; can = can_new w.left old more (value_of_bits (bs ++ zeros)) e f }

spell_by : (w : TickSpot) (bs : List ℕ) (k : ℕ) (old : Option ℤ) (more : List (Option ℤ)) → w.left ≡ old ∷ more → AreBits bs → length bs + suc k ≡ 32 → (b : Bool) → is_kept old (value_of_bits (bs ++ replicate (suc k) 48)) ≡ b → Spells w bs
spell_by w bs k old more e h n b f =
    let zeros = replicate (suc k) 48 in
    let ones = replicate (suc k) 49 in
    let zn : length (bs ++ zeros) ≡ 32 = (let a : length (bs ++ zeros) ≡ length bs + length zeros = length_plus bs zeros in let c : length zeros ≡ suc k = length-replicate (suc k) 48 in omega arith) in
    let on : length (bs ++ ones) ≡ 32 = (let a : length (bs ++ ones) ≡ length bs + length ones = length_plus bs ones in let c : length ones ≡ suc k = length-replicate (suc k) 49 in omega arith) in
    let zb : AreBits (bs ++ zeros) = all_append (λ x. is_bit x ≡ true) bs zeros h (all_same (suc k) 48 refl) in
    let ob : AreBits (bs ++ ones) = all_append (λ x. is_bit x ≡ true) bs ones h (all_same (suc k) 49 refl) in
    spell_which w bs zeros ones old more e zn on zb ob (different bs k (value_is (bs ++ zeros) zn zb) (value_is (bs ++ ones) on ob)) b f

pub spells : (w : TickSpot) (bs : List ℕ) (left : List (Option ℤ)) → w.left ≡ left → 0 < length w.left → AreBits bs → length bs < 32 → Spells w bs
spells w bs [] e some h l = absurd (let a : length w.left ≡ 0 = ap length e in omega arith)
spells w bs (old ∷ more) e some h l =
    let k = 31 - length bs in
    spell_by w bs k old more e h (omega arith) (is_kept old (value_of_bits (bs ++ replicate (suc k) 48))) refl

pub of_bits : (p : List ℕ) (w : TickSpot) (bs : List ℕ) → IsBits p w bs → IsDumpFront p
of_bits p w bs r =
    let s = spells w bs w.left refl r.some r.bits r.short in
    let v = value_of_bits (bs ++ s.more) in
    front_of p s.more (front_of (p ++ s.more) (codes " ") (of_which ((p ++ s.more) ++ codes " ") w v (record {
      text = goes_on p (spot_text w) (98 ∷ bs) s.more (codes " ") r.text
          ∙ ap (λ (x : List ℕ). spot_text w ++ (98 ∷ x)) (sym (append_assoc bs s.more (codes " ")) ∙ ap (λ (x : List ℕ). x ++ codes " ") (sym (value_is (bs ++ s.more) s.count s.bits)));
      spot = r.spot;
      fits = value_fits (bs ++ s.more) s.count s.bits;
      can = s.can;
    })))

-- ---- the outputs

pub of_start : (p : List ℕ) (names : List (List ℕ)) → IsNamed p (head_text names) names → IsDumpFront p
of_start p names r = of_ticks p names [] (record { text = r.text ∙ sym (append-nil (head_text names)); few = r.few; good = r.good; each = tt; number = omega arith })

pub of_dollar : (p : List ℕ) (names : List (List ℕ)) → IsNamed p (declared names ++ codes "$") names → IsDumpFront p
of_dollar p names r =
    let more = codes "pscope $end\n$enddefinitions $end\n" in
    front_of p (117 ∷ []) (front_of (p ++ 117 ∷ []) more (of_start ((p ++ 117 ∷ []) ++ more) names (record {
      text = goes_on p (declared names) (36 ∷ []) (117 ∷ []) more r.text;
      few = r.few;
      good = r.good;
    })))

pub of_vars : (p : List ℕ) (names : List (List ℕ)) → IsNamed p (declared names) names → IsDumpFront p
of_vars p names r = front_of p (36 ∷ []) (of_dollar (p ++ 36 ∷ []) names (record { text = ap (λ (q : List ℕ). q ++ 36 ∷ []) r.text; few = r.few; good = r.good }))

pub of_name : (p : List ℕ) (names : List (List ℕ)) (name : List ℕ) → IsNaming p names name → IsDumpFront p
of_name p names name r =
    front_of p (32 ∷ []) (front_of (p ++ 32 ∷ []) (codes "$end\n") (of_vars ((p ++ 32 ∷ []) ++ codes "$end\n") (names ++ name ∷ []) (name_ends p names name r)))

-- ---- a state

pub viable : (s : DumpStage) (p : List ℕ) → Reached p s → IsDumpFront p
viable (Literal c w s) p r = front_of p (c ∷ w) (viable s (p ++ c ∷ w) r)
viable (Vars names) p r = of_vars p names r
viable (Dollar names) p r = of_dollar p names r
viable (Name names name) p r = of_name p names name r
viable (Start names) p r = of_start p names r
viable (Body w) p r = of_body p w r
viable (Bits w bs) p r = of_bits p w bs r
viable (Letter w v) p r = of_which p w v r
viable (Ending names ticks e) p r = of_ending p names ticks e r
viable (Done d) p r = of_done p d r.0 r.1
