-- Copies of all variables, which stand at their numbers.
use Rattle.std.proofs.Common.{◌≡◌, ℕ, zero, suc, ◌+◌, ◌<◌, ◌≤◌, ◌==◌, ℤ, Bool, true, false, cond, List, [], ◌∷◌, ◌++◌, length, get_or, take, drop, IsTrue, refl, sym, ap, ◌∙◌, arith, take-suc, take-suc-set, drop-cons, pos, add-one}
use Rattle.std.specs.Prelude.{slice_set, ◌&&◌, nat_lt}
use Rattle.std.proofs.lemmas.Bool.Decides.{nat_tests}
use Rattle.std.proofs.lemmas.List.{take_all}
use Rattle.forec_kernel.specs.declared.shape.VarCopy.{VarCopy}
use Rattle.forec_kernel.specs.declared.shape.Variable.{Variable}
use Rattle.forec_kernel.specs.Values.{copy_of}
use Rattle.forec_kernel.specs.Texts.{put_copy}
use Rattle.forec_kernel.specs.Ticks.{start_copies, unmarked, with_row, values_of}
use Rattle.forec_kernel.specs.WellFormed.{all_below, count_up}

pub length_count : (from n : ℕ) → length (count_up from n) ≡ n
length_count from zero = refl
length_count from (suc n) = ap suc (length_count (suc from) n)

same_number : (a b : ℕ) → a ≡ b → (a == b) ≡ true
same_number a b h = grind (arith, nat_tests)

other_number : (a b : ℕ) → a < b → (a == b) ≡ false
other_number a b h = grind (arith, nat_tests)

pub put_counted : (from : ℕ) (copies : List VarCopy) (v n : ℕ) (x : VarCopy) → v < length copies → n ≡ from + v →
    put_copy (count_up from (length copies)) copies n x ≡ slice_set copies v x
put_counted from [] v n x lt e = absurd (omega arith)
put_counted from (c ∷ cs) zero n x lt e =
    ap (λ b. cond b (x ∷ cs) (c ∷ put_copy (count_up (suc from) (length cs)) cs n x)) (same_number from n (omega arith))
put_counted from (c ∷ cs) (suc v) n x lt e =
    ap (λ b. cond b (x ∷ cs) (c ∷ put_copy (count_up (suc from) (length cs)) cs n x)) (other_number from n (omega arith))
    ∙ ap (λ ds. c ∷ ds) (put_counted (suc from) cs v n x (omega arith) (omega arith))

pub copy_counted : (from : ℕ) (copies : List VarCopy) (v n : ℕ) (d : VarCopy) → v < length copies → n ≡ from + v →
    copy_of (count_up from (length copies)) copies n ≡ get_or copies v d
copy_counted from [] v n d lt e = absurd (omega arith)
copy_counted from (c ∷ cs) zero n d lt e =
    ap (λ b. cond b c (copy_of (count_up (suc from) (length cs)) cs n)) (same_number from n (omega arith))
copy_counted from (c ∷ cs) (suc v) n d lt e =
    ap (λ b. cond b c (copy_of (count_up (suc from) (length cs)) cs n)) (other_number from n (omega arith))
    ∙ copy_counted (suc from) cs v n d (omega arith) (omega arith)

pub below_is : (a n : ℕ) (b : Bool) → IsTrue (nat_lt a n && b) → (a < n) × IsTrue b
below_is a n b h = pick (nat_lt a n) refl h
  where
    pick : (t : Bool) → nat_lt a n ≡ t → IsTrue (t && b) → (a < n) × IsTrue b
    pick true e h = (grind (arith, nat_tests), h)
    pick false e h = absurd cc

pub below_at : (n : ℕ) (vs : List ℕ) (i d : ℕ) → IsTrue (all_below n vs) → i < length vs → get_or vs i d < n
below_at n [] i d h lt = absurd (omega arith)
below_at n (v ∷ vs) zero d h lt = (below_is v n (all_below n vs) h).0
below_at n (v ∷ vs) (suc i) d h lt = below_at n vs i d (below_is v n (all_below n vs) h).1 (omega arith)

-- ---- the start values

start_append : (xs ys : List Variable) → start_copies (xs ++ ys) ≡ start_copies xs ++ start_copies ys
start_append [] ys = refl
start_append (x ∷ xs) ys = ap (λ cs. record { value = x.start; modified = false } ∷ cs) (start_append xs ys)

pub length_start : (vs : List Variable) → length (start_copies vs) ≡ length vs
length_start [] = refl
length_start (v ∷ vs) = ap suc (length_start vs)

pub start_more : (vs : List Variable) (copies : List VarCopy) (i : ℕ) (d : Variable) (n : ℤ) → i < length vs → i < length copies → n ≡ (get_or vs i d).start → take i copies ≡ start_copies (take i vs) →
    take (i + 1) (slice_set copies i (record { value = n; modified = false })) ≡ start_copies (take (i + 1) vs)
start_more vs copies i d n lt within is h =
    let x : VarCopy = record { value = n; modified = false } in
    ap (λ n. take n (slice_set copies i x)) (add-one i) ∙ take-suc-set copies i x within
    ∙ ap (λ cs. cs ++ x ∷ []) h
    ∙ ap (λ m. start_copies (take i vs) ++ record { value = m; modified = false } ∷ []) is
    ∙ sym (start_append (take i vs) (get_or vs i d ∷ []))
    ∙ sym (ap (λ n. start_copies (take n vs)) (add-one i) ∙ ap start_copies (take-suc vs i d lt))

-- ---- no marks

pub length_unmarked : (cs : List VarCopy) → length (unmarked cs) ≡ length cs
length_unmarked [] = refl
length_unmarked (c ∷ cs) = ap suc (length_unmarked cs)

pub unmarked_same : (cs : List VarCopy) (i : ℕ) (d : VarCopy) → i < length cs → unmarked (slice_set cs i (record { value = (get_or cs i d).value; modified = false })) ≡ unmarked cs
unmarked_same [] i d lt = refl
unmarked_same (c ∷ cs) zero d lt = refl
unmarked_same (c ∷ cs) (suc i) d lt = ap (λ ds. record { value = c.value; modified = false } ∷ ds) (unmarked_same cs i d (omega arith))

unmarked_append : (xs ys : List VarCopy) → unmarked (xs ++ ys) ≡ unmarked xs ++ unmarked ys
unmarked_append [] ys = refl
unmarked_append (x ∷ xs) ys = ap (λ cs. record { value = x.value; modified = false } ∷ cs) (unmarked_append xs ys)

pub unmarked_more : (cs : List VarCopy) (i : ℕ) (n : ℤ) → i < length cs → unmarked (take i cs) ≡ take i cs →
    unmarked (take (i + 1) (slice_set cs i (record { value = n; modified = false }))) ≡ take (i + 1) (slice_set cs i (record { value = n; modified = false }))
unmarked_more cs i n lt h =
    let x : VarCopy = record { value = n; modified = false } in
    let e : take (i + 1) (slice_set cs i x) ≡ take i cs ++ x ∷ [] = ap (λ n. take n (slice_set cs i x)) (add-one i) ∙ take-suc-set cs i x lt in
    ap unmarked e ∙ unmarked_append (take i cs) (x ∷ []) ∙ ap (λ ds. ds ++ x ∷ []) h ∙ sym e

-- ---- the row

-- a row has no more than these
pub taken_at : (n : ℕ) (row : List ℤ) (i : ℕ) → length row ≤ n → get_or (take n row) i (pos 0) ≡ get_or row i (pos 0)
taken_at n row i le = ap (λ (ns : List ℤ). get_or ns i (pos 0)) (take_all n row le)

pub row_more : (inputs : List ℕ) (row : List ℤ) (copies : List VarCopy) (n i di : ℕ) (dr m : ℤ) → n ≡ length copies → IsTrue (all_below n inputs) → i < length inputs → i < length row → m ≡ get_or row i dr →
    with_row (count_up 0 n) (drop (i + 1) inputs) (drop (i + 1) row) (slice_set copies (get_or inputs i di) (record { value = m; modified = false }))
    ≡ with_row (count_up 0 n) (drop i inputs) (drop i row) copies
row_more inputs row copies n i di dr m long below lt within is =
    let v = get_or inputs i di in
    let x : VarCopy = record { value = get_or row i dr; modified = false } in
    let inside : v < length copies = omega (arith, below_at n inputs i di below lt, long) in
    let put : put_copy (count_up 0 n) copies v x ≡ slice_set copies v x =
    ap (λ m. put_copy (count_up 0 m) copies v x) long ∙ put_counted 0 copies v v x inside (omega arith) in
    ap (λ m. with_row (count_up 0 n) (drop (i + 1) inputs) (drop (i + 1) row) (slice_set copies v (record { value = m; modified = false }))) is
    ∙ ap (λ j. with_row (count_up 0 n) (drop j inputs) (drop j row) (slice_set copies v x)) (add-one i)
    ∙ ap (with_row (count_up 0 n) (drop (suc i) inputs) (drop (suc i) row)) (sym put)
    ∙ sym (ap (λ vs. with_row (count_up 0 n) vs (drop i row) copies) (drop-cons inputs i di lt) ∙ ap (λ ns. with_row (count_up 0 n) (v ∷ drop (suc i) inputs) ns copies) (drop-cons row i dr within))

length_put : (uses : List ℕ) (copies : List VarCopy) (v : ℕ) (x : VarCopy) → length copies ≡ length uses → length (put_copy uses copies v x) ≡ length copies
length_put [] copies v x h = refl
length_put (u ∷ uses) [] v x h = refl
length_put (u ∷ uses) (c ∷ cs) v x h = pick (u == v) (length_put uses cs v x (omega arith))
  where
    pick : (b : Bool) → length (put_copy uses cs v x) ≡ length cs → length (cond b (x ∷ cs) (c ∷ put_copy uses cs v x)) ≡ suc (length cs)
    pick true e = refl
    pick false e = ap suc e

pub length_row : (uses inputs : List ℕ) (row : List ℤ) (copies : List VarCopy) → length copies ≡ length uses → length (with_row uses inputs row copies) ≡ length copies
length_row uses [] row copies h = refl
length_row uses (v ∷ vs) [] copies h = refl
length_row uses (v ∷ vs) (n ∷ ns) copies h =
    let x : VarCopy = record { value = n; modified = false } in
    let e = length_put uses copies v x h in
    length_row uses vs ns (put_copy uses copies v x) (e ∙ h) ∙ e

-- ---- the outputs

values_append : (uses : List ℕ) (copies : List VarCopy) (vs ws : List ℕ) → values_of uses copies (vs ++ ws) ≡ values_of uses copies vs ++ values_of uses copies ws
values_append uses copies [] ws = refl
values_append uses copies (v ∷ vs) ws = ap (λ ns. (copy_of uses copies v).value ∷ ns) (values_append uses copies vs ws)

pub values_more : (copies : List VarCopy) (variables : List ℕ) (values : List ℤ) (i dv : ℕ) (d : VarCopy) (n : ℤ) → IsTrue (all_below (length copies) variables) → i < length variables → i < length values →
    n ≡ (get_or copies (get_or variables i dv) d).value →
    take i values ≡ values_of (count_up 0 (length copies)) copies (take i variables) →
    take (i + 1) (slice_set values i n) ≡ values_of (count_up 0 (length copies)) copies (take (i + 1) variables)
values_more copies variables values i dv d n below lt within is h =
    let v = get_or variables i dv in
    let uses = count_up 0 (length copies) in
    let one : values_of uses copies (v ∷ []) ≡ n ∷ [] =
    ap (λ (c : VarCopy). c.value ∷ []) (copy_counted 0 copies v v d (below_at (length copies) variables i dv below lt) (omega arith)) ∙ ap (λ m. m ∷ []) (sym is) in
    ap (λ j. take j (slice_set values i n)) (add-one i) ∙ take-suc-set values i n within
    ∙ ap (λ ns. ns ++ n ∷ []) h
    ∙ ap (λ ns. values_of uses copies (take i variables) ++ ns) (sym one)
    ∙ sym (values_append uses copies (take i variables) (v ∷ []))
    ∙ sym (ap (λ j. values_of uses copies (take j variables)) (add-one i) ∙ ap (values_of uses copies) (take-suc variables i dv lt))
