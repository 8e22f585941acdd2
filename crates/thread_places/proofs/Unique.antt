-- A kernel's threads have one placement.
use Rattle.std.proofs.Common.{◌≡◌, ◌==◌, ℕ, ◌≤◌, nat_lt, eqb-true, Bool, true, false, cond, Option, None, Some, option_map, is_none, not, position, unwrap_or, List, [], ◌∷◌, length, map, refl, sym, ap, ◌∙◌, arith}
use Rattle.std.specs.List.{position_or_len}
use Rattle.std.specs.Option.{option_or}
use Rattle.std.proofs.lemmas.List.{length-map, length-set, length-replicate}
use Rattle.std.proofs.lemmas.List.Sorted.{length_permutation}
use Rattle.core_alloc.specs.declared.fault.PlaceFault.{PlaceFault}
use Rattle.core_alloc.specs.declared.fault.PlaceFault.TheVariants.{Shape, Count, Core}
use Rattle.core_alloc.specs.declared.ranked.Ranked.{Ranked}
use Rattle.core_alloc.specs.Balance.{Balance, placed, placed_all, nothing_placed, balance_of, IsBalanced}
use Rattle.core_alloc.specs.Places.{Places, piece_numbers, is_core, refusal}
use Rattle.core_alloc.proofs.BalanceLemmas.{ranked_length}
use Rattle.command_words.specs.Requests.{PlainPlacing}
use Rattle.forec_kernel.specs.Shapes.{PlainKernel}
use Rattle.thread_places.specs.Laws.{OnePlacement, SomePlacement}
use Rattle.thread_places.specs.Placed.{IsPlacement, refusal_of, weights_of}
use Rattle.thread_places.proofs.Ordered.{one_heaviest_first, some_heaviest_first}

-- ---- one at most

abbrev numbered : List ℕ → List (Option ℕ)
numbered = map (λ core. Some core)

abbrev value_of : Option ℕ → ℕ
value_of number = unwrap_or number 0

values_back : (places : List ℕ) → map value_of (numbered places) ≡ places
values_back [] = refl
values_back (p ∷ ps) = ap (λ qs. p ∷ qs) (values_back ps)

one_listed : (a b : List ℕ) → numbered a ≡ numbered b → a ≡ b
one_listed a b e = sym (values_back a) ∙ ap (map value_of) e ∙ values_back b

one_balanced : (weights : List ℕ) (cores : ℕ) (a b : List ℕ) → IsBalanced weights cores a → IsBalanced weights cores b → a ≡ b
one_balanced weights cores a b h g =
    h.is ∙ ap (λ order. (balance_of order cores).places) (one_heaviest_first weights h.order g.order h.heaviest_first g.heaviest_first) ∙ sym g.is

module _ (k : PlainKernel) (p : PlainPlacing) (a b : Places) (h : IsPlacement k p a) (g : IsPlacement k p b) where
  one_by : (list : Option (List ℕ)) → p.list ≡ list → a.places ≡ b.places
  one_by None e = one_balanced (weights_of k) p.cores a.places b.places (h.balanced e) (g.balanced e)
  one_by (Some text) e = one_listed a.places b.places (h.listed text e ∙ sym (g.listed text e))

  pub one : a ≡ b
  one =
      let cores : a.cores ≡ b.cores = h.cores ∙ sym g.cores in
      let places : a.places ≡ b.places = one_by p.list refl in
      λ i. record { cores = cores i; places = places i }

pub one_placement : OnePlacement
one_placement k p a b h g = one k p a b h g

-- ---- a list that isn't refused

-- none of the causes
first_none : {A : Type 0} (a b : Option A) → option_or a b ≡ None → a ≡ None
first_none None b e = refl
first_none (Some x) b e = absurd (let h : Some x ≡ None = e in cc)

second_none : {A : Type 0} (a b : Option A) → option_or a b ≡ None → b ≡ None
second_none None b e = e
second_none (Some x) b e = absurd (let h : Some x ≡ None = e in cc)

map_none : {A B : Type 0} (f : A → B) (a : Option A) → option_map f a ≡ None → a ≡ None
map_none f None e = refl
map_none f (Some x) e = absurd (let h : Some (f x) ≡ None = e in cc)

unless : {A : Type 0} (b : Bool) (x : A) → cond b None (Some x) ≡ None → b ≡ true
unless true x e = refl
unless false x e = absurd (let h : Some x ≡ None = e in cc)

past_all : (xs : List (Option ℕ)) (b : Bool) → nat_lt (position_or_len is_none xs) (length xs) ≡ b → cond b (Some (position_or_len is_none xs)) None ≡ None → length xs ≤ position_or_len is_none xs
past_all xs true e none = absurd cc
past_all xs false e none = grind (arith, e)

values_within : (numbers : List (Option ℕ)) → length numbers ≤ position_or_len is_none numbers → numbered (map value_of numbers) ≡ numbers
values_within [] all = refl
values_within (None ∷ numbers) all = absurd (omega (arith, all))
values_within (Some n ∷ numbers) all = ap (λ ns. Some n ∷ ns) (values_within numbers (omega (arith, all)))

module _ (text : List ℕ) (threads cores : ℕ) (none : refusal text threads cores ≡ None) where
  abbrev numbers : List (Option ℕ)
  numbers = piece_numbers text

  abbrev shapes : Option PlaceFault
  shapes = option_map (λ at. Shape at) (position is_none numbers)

  abbrev count : Option PlaceFault
  count = cond (length numbers == threads) None (Some (Count (length numbers)))

  abbrev all_cores : Option PlaceFault
  all_cores = option_map (λ at. Core at) (position (λ number. not (is_core cores number)) numbers)

  each_number : numbered (map value_of numbers) ≡ numbers
  each_number =
      let no_shape = first_none shapes (option_or count all_cores) none in
      values_within numbers (past_all numbers (nat_lt (position_or_len is_none numbers) (length numbers)) refl (map_none (λ at. Shape at) (position is_none numbers) no_shape))

  as_many : length numbers ≡ threads
  as_many =
      let rest = second_none shapes (option_or count all_cores) none in
      eqb-true _ _ (unless (length numbers == threads) (Count (length numbers)) (first_none count all_cores rest))

same_text : (text other : List ℕ) → Some text ≡ Some other → text ≡ other
same_text text other e = cc

listed_one : (k : PlainKernel) (p : PlainPlacing) (text : List ℕ) → p.list ≡ Some text → refusal text (length k.threads) p.cores ≡ None → (a : Places) × IsPlacement k p a
listed_one k p text is none = (
  record { cores = p.cores; places = map value_of (piece_numbers text) },
  record {
    cores = refl;
    threads = length-map (piece_numbers text) value_of ∙ as_many text (length k.threads) p.cores none;
    listed = λ other e. each_number text (length k.threads) p.cores none ∙ ap piece_numbers (same_text text other (sym is ∙ e));
    balanced = λ e. absurd (let h : Some text ≡ None = sym is ∙ e in cc);
  },
)

-- ---- the balanced one

placed_length : (order : List Ranked) (b : Balance) → length (placed_all order b).places ≡ length b.places
placed_length [] b = refl
placed_length (r ∷ rs) b = placed_length rs (placed r b) ∙ length-set b.places r.thread _

balanced_one : (k : PlainKernel) (p : PlainPlacing) → p.list ≡ None → (a : Places) × IsPlacement k p a
balanced_one k p is =
    let weights = weights_of k in
    let first = some_heaviest_first weights in
    let places = (balance_of first.0 p.cores).places in
    let count : length places ≡ length k.threads =
    placed_length first.0 (nothing_placed p.cores (length first.0)) ∙ length-replicate {A = ℕ} (length first.0) 0 ∙ length_permutation _ _ first.1.all ∙ ranked_length 0 weights ∙ length-map k.threads _ in (
      record { cores = p.cores; places = places },
      record {
        cores = refl;
        threads = count;
        listed = λ text e. absurd (let h : None ≡ Some text = sym is ∙ e in cc);
        balanced = λ e. record { order = first.0; heaviest_first = first.1; is = refl };
      },
    )

some_by : (k : PlainKernel) (p : PlainPlacing) (list : Option (List ℕ)) → p.list ≡ list → refusal_of (length k.threads) p ≡ None → (a : Places) × IsPlacement k p a
some_by k p None is none = balanced_one k p is
some_by k p (Some text) is none = listed_one k p text is (rw is at none)

pub some_placement : SomePlacement
some_placement k p none = some_by k p p.list refl none
