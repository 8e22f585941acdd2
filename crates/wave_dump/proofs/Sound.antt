-- Where a byte may come, what was read goes on with it.
use Rattle.std.proofs.Common.{◌≡◌, ℕ, suc, ◌+◌, ◌-◌, ◌^◌, ◌<◌, ◌≤◌, Bool, true, false, cond, not, ◌&&◌, ◌==◌, nat_lt, nat_le, inl, inr, Option, Some, None, IfSome, List, [], ◌∷◌, ◌++◌, length, take, drop, get_or, ℤ, codes, decimal, FitsSigned, w32, refl, sym, ap, ap₂, subst, ◌∙◌, arith, append_assoc, append-nil, eqb-true, ltb-true, ltb-false, leb-true, take-append-drop, length-take-le}
use Rattle.std.specs.List.{AllByRecursion}
use Rattle.std.proofs.lemmas.Bool.{and_parts, agree_below_at}
use Rattle.std.proofs.lemmas.List.{drop_more, drop_all}
use Rattle.wave_dump.specs.Wave.{IsWaveName, AreValues, is_name_byte, is_ending_byte, output_letter, shown_name, shown_byte, declaration, declarations, scope_lines, head_text, change_lines, tick_text, ticks_text, until_ending, value_bits, value_line, no_values}
use Rattle.wave_dump.specs.Machine.{TickSpot, DumpStage, Literal, Vars, Dollar, Name, Start, Body, Bits, Letter, Ending, Done, literal, unshown_byte, is_shown_byte, declared_output, olds_of, next_tick, between_ticks, may_end_tick, kept_values, finished_ticks, value_begun, is_bit, value_of_bits, can_take, value_taken_by, more_bits, value_taken, ends_blank, ending_closed_by, stage_after, stage_behind}
use Rattle.wave_dump.proofs.Tools.{chosen, guarded, kept_out, all_push, all_append, all_left, length_plus, length_pushed}
use Rattle.wave_dump.proofs.BitLemmas.{AreBits, value_is, value_fits}
use Rattle.wave_dump.proofs.TickLemmas.{declare_push, ticks_push, length_none, none_fit, olds_are, changes_none, changes_short, changes_more, changes_kept, length_kept, kept_fit, Takes, Nothing, These, takes}
use Rattle.wave_dump.proofs.Reached.{declared, before_name, IsNaming, number_line, spot_text, IsSpot, IsBody, IsBits, IsWhich, IsEnding, Reached}

pub three : (a b c d : List ℕ) → ((a ++ b) ++ c) ++ d ≡ a ++ (b ++ (c ++ d))
three a b c d = append_assoc (a ++ b) c d ∙ append_assoc a b (c ++ d)

-- of what was read: what is read next
pub goes_on : (p a b c d : List ℕ) → p ≡ a ++ b → (p ++ c) ++ d ≡ a ++ (b ++ (c ++ d))
goes_on p a b c d e = ap (λ (q : List ℕ). (q ++ c) ++ d) e ∙ three a b c d

pub at_byte : (p : List ℕ) (b c : ℕ) (s t : DumpStage) → b ≡ c → s ≡ t → Reached (p ++ c ∷ []) s → Reached (p ++ b ∷ []) t
at_byte p b c s t e f r = subst (λ (x : DumpStage). Reached (p ++ b ∷ []) x) f (subst (λ (x : ℕ). Reached (p ++ x ∷ []) s) (sym e) r)

pub reached_text : (p w : List ℕ) (s : DumpStage) → Reached (p ++ w) s → Reached p (literal w s)
reached_text p [] s r = subst (λ (q : List ℕ). Reached q s) (append-nil p) r
reached_text p (c ∷ w) s r = r

-- ---- names

pub shown_push : (name : List ℕ) (b : ℕ) → shown_name (name ++ b ∷ []) ≡ shown_name name ++ shown_byte b ∷ []
shown_push [] b = refl
shown_push (c ∷ name) b = ap (λ (x : List ℕ). shown_byte c ∷ x) (shown_push name b)

abbrev wrong_shown : ℕ → Bool
wrong_shown b = is_shown_byte b && not ((shown_byte (unshown_byte b) == b) && is_name_byte (unshown_byte b))

abbrev never : ℕ → Bool
never b = false

small_shown : (b : ℕ) → is_shown_byte b ≡ true → b < 127
small_shown b h = let k : nat_le b 126 ≡ true = (and_parts (nat_le b 126) _ (and_parts (nat_le 33 b) _ h).1).0 in let l : b ≤ 126 = leb-true b 126 k in omega arith

both_true : (x y : Bool) → x ≡ true → (x && not y) ≡ false → y ≡ true
both_true true true h k = refl
both_true true false h k = absurd cc
both_true false y h k = absurd cc

pub unshown_law : (b : ℕ) → is_shown_byte b ≡ true → (shown_byte (unshown_byte b) ≡ b) × (is_name_byte (unshown_byte b) ≡ true)
unshown_law b h =
    let fine : wrong_shown b ≡ false = agree_below_at wrong_shown never 127 b refl (small_shown b h) in
    let two = and_parts (shown_byte (unshown_byte b) == b) (is_name_byte (unshown_byte b)) (both_true (is_shown_byte b) ((shown_byte (unshown_byte b) == b) && is_name_byte (unshown_byte b)) h fine) in
    (eqb-true (shown_byte (unshown_byte b)) b two.0, two.1)

pub named_text : (p : List ℕ) (names : List (List ℕ)) (name : List ℕ) → p ≡ declared names ++ (before_name names ++ shown_name name) →
    (p ++ 32 ∷ []) ++ codes "$end\n" ≡ declared (names ++ name ∷ [])
named_text p names name e =
    goes_on p (declared names) (before_name names ++ shown_name name) (32 ∷ []) (codes "$end\n") e
    ∙ append_assoc scope_lines (declarations 0 names) (declaration (length names) name)
    ∙ ap (λ (x : List ℕ). scope_lines ++ x) (sym (declare_push 0 (length names) names name (omega arith)))

pub name_ends : (p : List ℕ) (names : List (List ℕ)) (name : List ℕ) → IsNaming p names name → Reached (p ++ 32 ∷ []) (literal (codes "$end\n") (Vars (names ++ name ∷ [])))
name_ends p names name r = record {
  text = named_text p names name r.text;
  few = let a : length names < 64 = r.few in rw (length_pushed names name) (omega arith);
  good = all_push IsWaveName names name r.good r.named;
}

pub name_more : (p : List ℕ) (names : List (List ℕ)) (name : List ℕ) (b : ℕ) → IsNaming p names name → is_shown_byte b ≡ true → IsNaming (p ++ b ∷ []) names (name ++ unshown_byte b ∷ [])
name_more p names name b r h =
    let law = unshown_law b h in
    record {
      text = ap (λ (q : List ℕ). q ++ b ∷ []) r.text ∙ append_assoc (declared names) (before_name names ++ shown_name name) (b ∷ [])
          ∙ ap (λ (x : List ℕ). declared names ++ x) (append_assoc (before_name names) (shown_name name) (b ∷ [])
          ∙ ap (λ (x : List ℕ). before_name names ++ x) (ap (λ (c : ℕ). shown_name name ++ c ∷ []) (sym law.0) ∙ sym (shown_push name (unshown_byte b))));
      few = r.few;
      good = r.good;
      named = all_push (λ c. is_name_byte c ≡ true) name (unshown_byte b) r.named law.1;
    }

-- ---- ticks

-- the ticks so far
pub record AreTicks (p : List ℕ) (names : List (List ℕ)) (ticks : List (List ℤ)) : Type 0 where
  pub text : p ≡ until_ending names ticks
  pub few : length names ≤ 64
  pub good : AllByRecursion IsWaveName names
  pub each : AllByRecursion (AreValues (length names)) ticks
  pub number : length ticks < 2 ^ 64

pub tick_begins : (p : List ℕ) (names : List (List ℕ)) (ticks : List (List ℤ)) → AreTicks p names ticks → suc (length ticks) < 2 ^ 64 →
    IsBody ((p ++ 35 ∷ []) ++ (decimal (suc (length ticks)) ++ codes "\n")) (record { names = names; ticks = ticks; now = []; left = olds_of names ticks })
tick_begins p names ticks r low =
    let olds = olds_are (length names) (no_values names) ticks (length_none names) (none_fit names) r.each in
    record {
      text = ap (λ (q : List ℕ). (q ++ 35 ∷ []) ++ (decimal (suc (length ticks)) ++ codes "\n")) r.text
          ∙ append_assoc (until_ending names ticks) (35 ∷ []) (decimal (suc (length ticks)) ++ codes "\n")
          ∙ ap (λ (x : List ℕ). until_ending names ticks ++ x) (sym (ap (λ (x : List ℕ). number_line ticks ++ x) (changes_none 0 (olds_of names ticks)) ∙ append-nil (number_line ticks)));
      spot = record {
        few = r.few;
        good = r.good;
        ticks = r.each;
        number = low;
        now = tt;
        before = [];
        split = refl;
        even = refl;
        count = let e : length (olds_of names ticks) ≡ length names = olds.0 in omega arith;
        olds = olds.1;
      };
    }

pub ending_begins : (p : List ℕ) (names : List (List ℕ)) (ticks : List (List ℤ)) → AreTicks p names ticks → IsEnding ((p ++ 36 ∷ []) ++ codes "comment ") names ticks []
ending_begins p names ticks r = record {
  text = ap (λ (q : List ℕ). (q ++ 36 ∷ []) ++ codes "comment ") r.text ∙ append_assoc (until_ending names ticks) (36 ∷ []) (codes "comment ");
  few = r.few;
  good = r.good;
  each = r.each;
  number = r.number;
  bytes = tt;
}

pub between_sound : (p : List ℕ) (names : List (List ℕ)) (ticks : List (List ℤ)) (b : ℕ) (t : DumpStage) → AreTicks p names ticks → between_ticks names ticks b ≡ Some t → Reached (p ++ b ∷ []) t
between_sound p names ticks b t r e = elim (chosen (b == 35) (next_tick names ticks) (cond (b == 36) (Some (literal (codes "comment ") (Ending names ticks []))) None) (Some t) e) [
  | inl h ↦ (
      let line = decimal (suc (length ticks)) ++ codes "\n" in
      let body = Body (record { names = names; ticks = ticks; now = []; left = olds_of names ticks }) in
      let g = guarded (nat_lt (suc (length ticks)) (2 ^ 64)) (literal line body) t h.1 in
      at_byte p b 35 (literal line body) t (eqb-true b 35 h.0) g.1
      (reached_text (p ++ 35 ∷ []) line body (tick_begins p names ticks r (ltb-true (suc (length ticks)) (2 ^ 64) g.0))))
  | inr h ↦ (
      let next = Ending names ticks [] in
      let g = guarded (b == 36) (literal (codes "comment ") next) t h.1 in
      at_byte p b 36 (literal (codes "comment ") next) t (eqb-true b 36 g.0) g.1
      (reached_text (p ++ 36 ∷ []) (codes "comment ") next (ending_begins p names ticks r)))
]

pub spot_changes : (w : TickSpot) (more : List ℤ) → IsSpot w → change_lines 0 (olds_of w.names w.ticks) (w.now ++ more) ≡ change_lines 0 (olds_of w.names w.ticks) w.now ++ change_lines (length w.now) w.left more
spot_changes w more s =
    ap (λ (o : List (Option ℤ)). change_lines 0 o (w.now ++ more)) s.split
    ∙ changes_more 0 (length w.now) s.before w.left w.now more s.even (omega arith)
    ∙ ap (λ (x : List ℕ). x ++ change_lines (length w.now) w.left more) (sym (ap (λ (o : List (Option ℤ)). change_lines 0 o w.now) s.split ∙ changes_short 0 s.before w.left w.now s.even))

pub whole_tick : (w : TickSpot) (more : List ℤ) (rest : List ℕ) → IsSpot w → change_lines (length w.now) w.left more ≡ rest → spot_text w ++ rest ≡ until_ending w.names (w.ticks ++ (w.now ++ more) ∷ [])
whole_tick w more rest s e =
    let olds = olds_of w.names w.ticks in
    let before = ticks_text 1 (no_values w.names) w.ticks in
    append_assoc (until_ending w.names w.ticks) (number_line w.ticks ++ change_lines 0 olds w.now) rest
    ∙ ap (λ (x : List ℕ). until_ending w.names w.ticks ++ x) (append_assoc (number_line w.ticks) (change_lines 0 olds w.now) rest
    ∙ ap (λ (x : List ℕ). number_line w.ticks ++ x) (ap (λ (x : List ℕ). change_lines 0 olds w.now ++ x) (sym e) ∙ sym (spot_changes w more s)))
    ∙ append_assoc (head_text w.names) before (tick_text (suc (length w.ticks)) olds (w.now ++ more))
    ∙ ap (λ (x : List ℕ). head_text w.names ++ x) (sym (ticks_push 1 (suc (length w.ticks)) (no_values w.names) w.ticks (w.now ++ more) (omega arith)))

pub tick_values : (w : TickSpot) → IsSpot w → AreValues (length w.names) (w.now ++ kept_values w.left)
tick_values w s = record {
  count = let a : length (w.now ++ kept_values w.left) ≡ length w.now + length (kept_values w.left) = length_plus w.now (kept_values w.left) in
      let b : length (kept_values w.left) ≡ length w.left = length_kept w.left in
      let c : length w.now + length w.left ≡ length w.names = s.count in omega arith;
  each = all_append (FitsSigned w32) w.now (kept_values w.left) s.now (kept_fit w.left s.olds);
}

pub tick_ends : (p : List ℕ) (w : TickSpot) → IsBody p w → may_end_tick w.left ≡ true → AreTicks p w.names (finished_ticks w)
tick_ends p w r h = record {
  text = r.text ∙ sym (append-nil (spot_text w)) ∙ whole_tick w (kept_values w.left) [] r.spot (changes_kept (length w.now) w.left h);
  few = r.spot.few;
  good = r.spot.good;
  each = all_push (AreValues (length w.names)) w.ticks (w.now ++ kept_values w.left) r.spot.ticks (tick_values w r.spot);
  number = let a : suc (length w.ticks) < 2 ^ 64 = r.spot.number in rw (length_pushed w.ticks (w.now ++ kept_values w.left)) a;
}

-- ---- values

pub begun_sound : (p : List ℕ) (w : TickSpot) (left : List (Option ℤ)) (t : DumpStage) → IsBody p w → w.left ≡ left → value_begun w left ≡ Some t → Reached (p ++ 98 ∷ []) t
begun_sound p w [] t r e h = absurd cc
begun_sound p w (old ∷ left) t r e h =
    let f : Bits w [] ≡ t = cc in
    subst (λ (x : DumpStage). Reached (p ++ 98 ∷ []) x) f (record {
      text = ap (λ (q : List ℕ). q ++ 98 ∷ []) r.text;
      spot = r.spot;
      short = omega arith;
      bits = tt;
      some = let l : length w.left ≡ suc (length left) = ap length e in omega arith;
    })

pub which_next : (p : List ℕ) (w : TickSpot) (bs : List ℕ) (b : ℕ) → IsBits p w bs → is_bit b ≡ true → length (bs ++ b ∷ []) ≡ 32 → can_take w.left (value_of_bits (bs ++ b ∷ [])) ≡ true →
    IsWhich ((p ++ b ∷ []) ++ codes " ") w (value_of_bits (bs ++ b ∷ []))
which_next p w bs b r h e c =
    let all : AreBits (bs ++ b ∷ []) = all_push (λ x. is_bit x ≡ true) bs b r.bits h in
    record {
      text = goes_on p (spot_text w) (98 ∷ bs) (b ∷ []) (codes " ") r.text
          ∙ ap (λ (x : List ℕ). spot_text w ++ (98 ∷ x)) (sym (append_assoc bs (b ∷ []) (codes " ")) ∙ ap (λ (x : List ℕ). x ++ codes " ") (sym (value_is (bs ++ b ∷ []) e all)));
      spot = r.spot;
      fits = value_fits (bs ++ b ∷ []) e all;
      can = c;
    }

pub bits_sound : (p : List ℕ) (w : TickSpot) (bs : List ℕ) (b : ℕ) (t : DumpStage) → IsBits p w bs → is_bit b ≡ true → more_bits w (bs ++ b ∷ []) ≡ Some t → Reached (p ++ b ∷ []) t
bits_sound p w bs b t r h e =
    let len : length (bs ++ b ∷ []) ≡ suc (length bs) = length_pushed bs b in
    let short : length bs < 32 = r.short in
    elim (chosen (nat_lt (length (bs ++ b ∷ [])) 32) (Some (Bits w (bs ++ b ∷ []))) (cond (can_take w.left (value_of_bits (bs ++ b ∷ []))) (Some (literal (codes " ") (Letter w (value_of_bits (bs ++ b ∷ []))))) None) (Some t) e) [
      | inl g ↦ (
          let f : Bits w (bs ++ b ∷ []) ≡ t = (let k = g.1 in cc) in
          subst (λ (x : DumpStage). Reached (p ++ b ∷ []) x) f (record {
            text = ap (λ (q : List ℕ). q ++ b ∷ []) r.text ∙ append_assoc (spot_text w) (98 ∷ bs) (b ∷ []);
            spot = r.spot;
            short = ltb-true (length (bs ++ b ∷ [])) 32 g.0;
            bits = all_push (λ x. is_bit x ≡ true) bs b r.bits h;
            some = r.some;
          }))
      | inr g ↦ (
          let v = value_of_bits (bs ++ b ∷ []) in
          let k = guarded (can_take w.left v) (literal (codes " ") (Letter w v)) t g.1 in
          let long : 32 ≤ length (bs ++ b ∷ []) = ltb-false (length (bs ++ b ∷ [])) 32 g.0 in
          subst (λ (x : DumpStage). Reached (p ++ b ∷ []) x) k.1 (reached_text (p ++ b ∷ []) (codes " ") (Letter w v) (which_next p w bs b r h (omega arith) k.0)))
    ]

abbrev pub after : TickSpot → List ℤ → List (Option ℤ) → TickSpot
after w vs rest = record { names = w.names; ticks = w.ticks; now = w.now ++ vs; left = rest }

pub after_spot : (w : TickSpot) (k : ℕ) (v : ℤ) (vs : List ℤ) (rest : List (Option ℤ)) → IsSpot w → Takes k (length w.now) w.left v vs rest → IsSpot (after w vs rest)
after_spot w k v vs rest s t = record {
  few = s.few;
  good = s.good;
  ticks = s.ticks;
  number = s.number;
  now = all_append (FitsSigned w32) w.now vs s.now t.fit;
  before = s.before ++ t.olds;
  split = s.split ∙ ap (λ (x : List (Option ℤ)). s.before ++ x) t.split ∙ sym (append_assoc s.before t.olds rest);
  even = length_plus s.before t.olds ∙ ap₂ ◌+◌ s.even t.even ∙ sym (length_plus w.now vs);
  count = let a : length w.now + length w.left ≡ length w.names = s.count in
      let b : length w.left ≡ length t.olds + length rest = ap length t.split ∙ length_plus t.olds rest in
      let c : length t.olds ≡ length vs = t.even in
      let d : length (w.now ++ vs) ≡ length w.now + length vs = length_plus w.now vs in omega arith;
  olds = t.rest_fit;
}

pub after_text : (w : TickSpot) (k : ℕ) (v : ℤ) (vs : List ℤ) (rest : List (Option ℤ)) → IsSpot w → Takes k (length w.now) w.left v vs rest → spot_text w ++ value_line (length w.now + k) v ≡ spot_text (after w vs rest)
after_text w k v vs rest s t =
    let olds = olds_of w.names w.ticks in
    let line = value_line (length w.now + k) v in
    let e : change_lines (length w.now) w.left vs ≡ line = ap (λ (o : List (Option ℤ)). change_lines (length w.now) o vs) t.split ∙ changes_short (length w.now) t.olds rest vs t.even ∙ t.line in
    append_assoc (until_ending w.names w.ticks) (number_line w.ticks ++ change_lines 0 olds w.now) line
    ∙ ap (λ (x : List ℕ). until_ending w.names w.ticks ++ x) (append_assoc (number_line w.ticks) (change_lines 0 olds w.now) line
    ∙ ap (λ (x : List ℕ). number_line w.ticks ++ x) (ap (λ (x : List ℕ). change_lines 0 olds w.now ++ x) (sym e) ∙ sym (spot_changes w vs s)))

pub value_text : (s : List ℕ) (v : ℤ) (b k : ℕ) → output_letter k ≡ b → ((s ++ (codes "b" ++ (value_bits v ++ codes " "))) ++ b ∷ []) ++ codes "\n" ≡ s ++ value_line k v
value_text s v b k e =
    goes_on (s ++ (codes "b" ++ (value_bits v ++ codes " "))) s (98 ∷ (value_bits v ++ codes " ")) (b ∷ []) (codes "\n") refl
    ∙ ap (λ (c : ℕ). s ++ ((98 ∷ (value_bits v ++ codes " ")) ++ c ∷ codes "\n")) (sym e)

pub which_sound : (p : List ℕ) (w : TickSpot) (v : ℤ) (b : ℕ) (t : DumpStage) → IsWhich p w v → 33 + length w.now ≤ b → value_taken w (value_taken_by (b - (33 + length w.now)) w.left v) ≡ Some t → Reached (p ++ b ∷ []) t
which_sound p w v b t r low e =
    let k = b - (33 + length w.now) in
    elim (takes k (length w.now) w.left v r.fits r.spot.olds) [
      | Nothing g ↦ absurd (let f : value_taken w None ≡ Some t = subst (λ (o : Option (List ℤ × List (Option ℤ))). value_taken w o ≡ Some t) g e in cc)
      | These vs rest g h ↦ (
          let f : Some (literal (codes "\n") (Body (after w vs rest))) ≡ Some t = subst (λ (o : Option (List ℤ × List (Option ℤ))). value_taken w o ≡ Some t) g e in
          let f' : literal (codes "\n") (Body (after w vs rest)) ≡ t = cc in
          let c : output_letter (length w.now + k) ≡ b = omega arith in
          subst (λ (x : DumpStage). Reached (p ++ b ∷ []) x) f' (record {
            text = ap (λ (q : List ℕ). (q ++ b ∷ []) ++ codes "\n") r.text ∙ value_text (spot_text w) v b (length w.now + k) c ∙ after_text w k v vs rest r.spot h;
            spot = after_spot w k v vs rest r.spot h;
          }))
    ]

-- ---- the ending

pub blank_last : (e : List ℕ) → ends_blank e ≡ true → (e ≡ take (length e - 1) e ++ 32 ∷ []) × (0 < length (take (length e - 1) e))
blank_last e h =
    let two = and_parts (nat_lt 1 (length e)) (get_or e (length e - 1) 0 == 32) h in
    let long : 1 < length e = ltb-true 1 (length e) two.0 in
    let n = length e - 1 in
    let last : get_or e n 0 ≡ 32 = eqb-true (get_or e n 0) 32 two.1 in
    let cut : drop n e ≡ get_or e n 0 ∷ drop (n + 1) e = drop_more e n 0 (omega arith) in
    let none : drop (n + 1) e ≡ [] = drop_all (n + 1) e (omega arith) in (
      sym (take-append-drop n e) ∙ ap (λ (x : List ℕ). take n e ++ x) (cut ∙ ap₂ (λ (c : ℕ) (x : List ℕ). c ∷ x) last none),
      let l : length (take n e) ≡ n = length-take-le n e (omega arith) in omega arith,
    )

pub closed : (p : List ℕ) (names : List (List ℕ)) (ticks : List (List ℤ)) (e : List ℕ) → IsEnding p names ticks e → ends_blank e ≡ true →
    Reached (p ++ 36 ∷ []) (literal (codes "end\n") (Done (record { names = names; ticks = ticks; ending = take (length e - 1) e })))
closed p names ticks e r h =
    let l = blank_last e h in
    let front = take (length e - 1) e in
    let all = until_ending names ticks in (
      goes_on p all (codes "$comment " ++ e) (36 ∷ []) (codes "end\n") r.text
          ∙ ap (λ (x : List ℕ). all ++ ((codes "$comment " ++ x) ++ codes "$end\n")) l.0
          ∙ ap (λ (x : List ℕ). all ++ (codes "$comment " ++ x)) (append_assoc front (32 ∷ []) (codes "$end\n"))
          ∙ sym (three all (codes "$comment ") front (codes " $end\n")),
      record {
        few = r.few;
        names = r.good;
        ticks = r.each;
        numbers = r.number;
        some = l.1;
        ending = all_left (λ b. is_ending_byte b ≡ true) front (32 ∷ []) (subst (λ (x : List ℕ). AllByRecursion (λ b. is_ending_byte b ≡ true) x) l.0 r.bytes);
      },
    )

-- ---- a byte

pub step_sound : (p : List ℕ) (s : DumpStage) (b : ℕ) (t : DumpStage) → Reached p s → stage_after s b ≡ Some t → Reached (p ++ b ∷ []) t
step_sound p (Literal c w s) b t r e =
    let h = guarded (b == c) (literal w s) t e in
    at_byte p b c (literal w s) t (eqb-true b c h.0) h.1 (reached_text (p ++ c ∷ []) w s (subst (λ (q : List ℕ). Reached q s) (sym (append_assoc p (c ∷ []) w)) r))
step_sound p (Vars names) b t r e =
    let h = guarded (b == 36) (Dollar names) t e in
    at_byte p b 36 (Dollar names) t (eqb-true b 36 h.0) h.1 (record { text = ap (λ (q : List ℕ). q ++ 36 ∷ []) r.text; few = r.few; good = r.good })
step_sound p (Dollar names) b t r e = elim (chosen (b == 118) (declared_output names) (cond (b == 117) (Some (literal (codes "pscope $end\n$enddefinitions $end\n") (Start names))) None) (Some t) e) [
  | inl h ↦ (
      let w = codes "ar wire 32 " ++ output_letter (length names) ∷ codes " " in
      let g = guarded (nat_lt (length names) 64) (literal w (Name names [])) t h.1 in
      at_byte p b 118 (literal w (Name names [])) t (eqb-true b 118 h.0) g.1 (reached_text (p ++ 118 ∷ []) w (Name names []) (record {
        text = goes_on p (declared names) (36 ∷ []) (118 ∷ []) w r.text;
        few = ltb-true (length names) 64 g.0;
        good = r.good;
        named = tt;
      })))
  | inr h ↦ (
      let w = codes "pscope $end\n$enddefinitions $end\n" in
      let g = guarded (b == 117) (literal w (Start names)) t h.1 in
      at_byte p b 117 (literal w (Start names)) t (eqb-true b 117 g.0) g.1 (reached_text (p ++ 117 ∷ []) w (Start names) (record {
        text = goes_on p (declared names) (36 ∷ []) (117 ∷ []) w r.text;
        few = r.few;
        good = r.good;
      })))
]
step_sound p (Name names name) b t r e = elim (chosen (b == 32) (Some (literal (codes "$end\n") (Vars (names ++ name ∷ [])))) (cond (is_shown_byte b) (Some (Name names (name ++ unshown_byte b ∷ []))) None) (Some t) e) [
  | inl h ↦ (
      let s = literal (codes "$end\n") (Vars (names ++ name ∷ [])) in
      let f : s ≡ t = (let k = h.1 in cc) in
      at_byte p b 32 s t (eqb-true b 32 h.0) f (name_ends p names name r))
  | inr h ↦ (
      let g = guarded (is_shown_byte b) (Name names (name ++ unshown_byte b ∷ [])) t h.1 in
      subst (λ (x : DumpStage). Reached (p ++ b ∷ []) x) g.1 (name_more p names name b r g.0))
]
step_sound p (Start names) b t r e = between_sound p names [] b t (record { text = r.text ∙ sym (append-nil (head_text names)); few = r.few; good = r.good; each = tt; number = omega arith }) e
step_sound p (Body w) b t r e = elim (chosen (b == 98) (value_begun w w.left) (cond (may_end_tick w.left) (between_ticks w.names (finished_ticks w) b) None) (Some t) e) [
  | inl h ↦ subst (λ (x : ℕ). Reached (p ++ x ∷ []) t) (sym (eqb-true b 98 h.0)) (begun_sound p w w.left t r refl h.1)
  | inr h ↦ (elim (chosen (may_end_tick w.left) (between_ticks w.names (finished_ticks w) b) None (Some t) h.1) [
    | inl g ↦ between_sound p w.names (finished_ticks w) b t (tick_ends p w r g.0) g.1
    | inr g ↦ absurd (let k = g.1 in cc)
  ])
]
step_sound p (Bits w bs) b t r e = elim (chosen (is_bit b) (more_bits w (bs ++ b ∷ [])) None (Some t) e) [
  | inl h ↦ bits_sound p w bs b t r h.0 h.1
  | inr h ↦ absurd (let k = h.1 in cc)
]
step_sound p (Letter w v) b t r e =
    let h = kept_out (nat_lt b (33 + length w.now)) (value_taken w (value_taken_by (b - (33 + length w.now)) w.left v)) t e in
    which_sound p w v b t r (ltb-false b (33 + length w.now) h.0) h.1
step_sound p (Ending names ticks e) b t r h = elim (chosen (is_ending_byte b) (Some (Ending names ticks (e ++ b ∷ []))) (cond (b == 36) (ending_closed_by names ticks e) None) (Some t) h) [
  | inl g ↦ (
      let f : Ending names ticks (e ++ b ∷ []) ≡ t = (let k = g.1 in cc) in
      subst (λ (x : DumpStage). Reached (p ++ b ∷ []) x) f (record {
        text = ap (λ (q : List ℕ). q ++ b ∷ []) r.text ∙ append_assoc (until_ending names ticks) (codes "$comment " ++ e) (b ∷ []);
        few = r.few;
        good = r.good;
        each = r.each;
        number = r.number;
        bytes = all_push (λ x. is_ending_byte x ≡ true) e b r.bytes g.0;
      }))
  | inr g ↦ (elim (chosen (b == 36) (ending_closed_by names ticks e) None (Some t) g.1) [
    | inl k ↦ (
        let s = literal (codes "end\n") (Done (record { names = names; ticks = ticks; ending = take (length e - 1) e })) in
        let f = guarded (ends_blank e) s t k.1 in
        at_byte p b 36 s t (eqb-true b 36 k.0) f.1 (closed p names ticks e r f.0))
    | inr k ↦ absurd (let z = k.1 in cc)
  ])
]
step_sound p (Done d) b t r e = absurd cc

if_some : {X : Type 0} (P : X → Type 0) (o : Option X) → ((x : X) → o ≡ Some x → P x) → IfSome o P
if_some P None f = tt
if_some P (Some x) f = f x refl

pub run_sound : (x p : List ℕ) (o : Option DumpStage) (t : DumpStage) → IfSome o (Reached p) → stage_behind o x ≡ Some t → Reached (p ++ x) t
run_sound x p None t r e = absurd cc
run_sound [] p (Some s) t r e = let f : s ≡ t = cc in subst (λ (q : List ℕ). Reached q t) (sym (append-nil p)) (subst (λ (u : DumpStage). Reached p u) f r)
run_sound (b ∷ x) p (Some s) t r e =
    subst (λ (q : List ℕ). Reached q t) (append_assoc p (b ∷ []) x)
    (run_sound x (p ++ b ∷ []) (stage_after s b) t (if_some (Reached (p ++ b ∷ [])) (stage_after s b) (λ u f. step_sound p s b u r f)) e)

pub reached_first : Reached [] (literal scope_lines (Vars []))
reached_first = record { text = sym (append-nil scope_lines); few = omega arith; good = tt }
