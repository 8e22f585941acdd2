-- The hosts of the first cores.
use Rattle.std.proofs.Common.{◌≡◌, ℕ, zero, suc, ◌+◌, ◌<◌, ◌≤◌, ◌==◌, Bool, true, false, cond, Option, Some, None, List, [], ◌∷◌, ◌++◌, length, refl, sym, ap, ◌∙◌, subst, ⊎_elim, arith}
use Rattle.std.specs.Prelude.{slice_get, map, not, ◌&&◌, MatchOption}
use Rattle.std.proofs.lemmas.Bool.Decides.{nat_tests}
use Rattle.forec_kernel.specs.Combining.{contains}
use Rattle.thread_code.specs.declared.instruction.CodeParts.{CodeParts}
use Rattle.copy_slots.proofs.Seating.{snoc_cases}
use Rattle.slot_board.proofs.Cutting.{get_there, map_snoc}
use Rattle.core_host.specs.Hosted.{Hosted, is_here}
use Rattle.core_seats.specs.Loads.{is_on, CanLoad}
use Rattle.core_seats.specs.Posts.{Mail}
use Rattle.core_alloc.specs.Places.{Places}
use Rattle.board_hosts.specs.Boards.{ArePorts}
use Rattle.board_hosts.specs.CoreHosts.{AreMade, IsLoadedHost, IsRoot, IsOther, root_core, is_other, other_cores}

none_there : (l : List Hosted) (i : ℕ) (x : Hosted) → l ≡ [] → slice_get l i ≡ Some x → ⊥
none_there [] zero x e at = cc
none_there [] (suc i) x e at = cc
none_there (y ∷ l) i x e at = cc

pub none_made : (code : CodeParts) (placement : Places) (others : List Hosted) → others ≡ [] → AreMade code placement 0 None others
none_made code placement others empty = record {
  root = omega arith;
  others = λ i x at. absurd (none_there others i x empty at);
  cores = ap (map (λ (h : Hosted). h.cores)) empty;
}

-- whether a core is another one than thread 0's
root_itself : (places : List ℕ) (n : ℕ) → n ≡ root_core places → is_other places n ≡ false
root_itself places n same = either (contains n places) (n == root_core places) (grind (arith, nat_tests))
  where
    either : (has is : Bool) → is ≡ true → not is && has ≡ false
    either has true e = refl
    either has false e = cc

empty_core : (places : List ℕ) (n : ℕ) → contains n places ≡ false → is_other places n ≡ false
empty_core places n none = ap (λ b. not (n == root_core places) && b) none ∙ either (n == root_core places)
  where
    either : (is : Bool) → not is && false ≡ false
    either true = refl
    either false = refl

other_core : (places : List ℕ) (n : ℕ) → (n ≡ root_core places → ⊥) → contains n places ≡ true → is_other places n ≡ true
other_core places n other has = ap (λ b. not (n == root_core places) && b) has ∙ either (n == root_core places) (grind (arith, nat_tests))
  where
    either : (is : Bool) → is ≡ false → not is && true ≡ true
    either true e = cc
    either false e = refl

-- the core of thread 0 has a thread
some_root : (places : List ℕ) (n : ℕ) → 0 < length places → n ≡ root_core places → contains n places ≡ false → ⊥
some_root [] n some here empty = absurd (omega (arith, some))
some_root (x ∷ places) n some here empty = either (x == n) (contains n places) (grind (arith, nat_tests)) empty
  where
    either : (is rest : Bool) → is ≡ true → cond is true rest ≡ false → ⊥
    either true rest e none = cc
    either false rest e none = cc

none_more : {A : Type 0} (l : List A) → l ++ [] ≡ l
none_more [] = refl
none_more (x ∷ l) = ap (λ t. x ∷ t) (none_more l)

next_without : (places : List ℕ) (n : ℕ) → is_other places n ≡ false → other_cores places (suc n) ≡ other_cores places n
next_without places n is = ap (λ b. other_cores places n ++ cond b (n ∷ []) []) is ∙ none_more (other_cores places n)

next_with : (places : List ℕ) (n : ℕ) → is_other places n ≡ true → other_cores places (suc n) ≡ other_cores places n ++ n ∷ []
next_with places n is = ap (λ b. other_cores places n ++ cond b (n ∷ []) []) is

-- the host of another core than thread 0's
pub lacks : (code : CodeParts) (placement : Places) (n : ℕ) (h : Hosted) → (n ≡ root_core placement.places → ⊥) → IsLoadedHost code placement n h → is_here h 0 ≡ false
lacks code placement n h other loaded =
    ap (λ p. is_on p h.cores 0) loaded.places ∙ ap (λ cores. is_on placement.places cores 0) loaded.cores ∙ either (n == root_core placement.places) (grind (arith, nat_tests))
  where
    either : (is : Bool) → is ≡ false → cond is true false ≡ false
    either true e = e
    either false e = refl

module _ (code : CodeParts) (placement : Places) (n : ℕ) (root : Option Hosted) (others : List Hosted) (made : AreMade code placement n root others) where
  abbrev places : List ℕ
  places = placement.places

  same_others : is_other places n ≡ false → map (λ h. h.cores) others ≡ map (λ core. core ∷ []) (other_cores places (n + 1))
  same_others is = let one : suc n ≡ n + 1 = omega arith in
      made.cores ∙ ap (map (λ core. core ∷ [])) (sym (next_without places n is) ∙ ap (other_cores places) one)

  later : (o : Option Hosted) → (n ≡ root_core places → ⊥) → MatchOption o (n ≤ root_core places) (λ h. IsLoadedHost code placement (root_core places) h)
      → MatchOption o (n + 1 ≤ root_core places) (λ h. IsLoadedHost code placement (root_core places) h)
  later None other le = omega (arith, le, other)
  later (Some h) other is = is

  pub made_root : (h : Hosted) → n ≡ root_core places → IsLoadedHost code placement n h → AreMade code placement (n + 1) (Some h) others
  made_root h here loaded = record {
    root = subst (λ m. IsLoadedHost code placement m h) here loaded;
    others = made.others;
    cores = same_others (root_itself places n here);
  }

  pub made_nothing : 0 < length places → contains n places ≡ false → AreMade code placement (n + 1) root others
  made_nothing some empty = record {
    root = later root (λ here. some_root places n some here empty) made.root;
    others = made.others;
    cores = same_others (empty_core places n empty);
  }

  pub made_other : (h : Hosted) → (n ≡ root_core places → ⊥) → contains n places ≡ true → IsLoadedHost code placement n h → AreMade code placement (n + 1) root (others ++ h ∷ [])
  made_other h other has loaded = let one : suc n ≡ n + 1 = omega arith in record {
    root = later root other made.root;
    others = λ i x at. ⊎_elim
        (λ new. subst (λ y. IsOther code placement y) new.1 (record { code = loaded.code; places = loaded.places; core = n; cores = loaded.cores; rope = loaded.rope; lacks = lacks code placement n h other loaded }))
        (λ old. made.others i x old) (snoc_cases others h x i at);
    cores = map_snoc (λ (x : Hosted). x.cores) others h
        ∙ ap (λ l. l ++ h.cores ∷ []) made.cores ∙ ap (λ c. map (λ core. core ∷ []) (other_cores places n) ++ c ∷ []) loaded.cores
        ∙ sym (map_snoc (λ (core : ℕ). core ∷ []) (other_cores places n) n)
        ∙ ap (map (λ core. core ∷ [])) (sym (next_with places n (other_core places n other has)) ∙ ap (other_cores places) one);
  }

  pub root_made : root_core places < n → root ≡ None → ⊥
  root_made below none = let le = subst (λ (o : Option Hosted). MatchOption o (n ≤ root_core places) (λ h. IsLoadedHost code placement (root_core places) h)) none made.root in omega (arith, le, below)

  pub root_is : (h : Hosted) → root ≡ Some h → IsLoadedHost code placement (root_core places) h
  root_is h is = subst (λ (o : Option Hosted). MatchOption o (n ≤ root_core places) (λ x. IsLoadedHost code placement (root_core places) x)) is made.root

-- thread 0 is on its own core
pub root_here : (code : CodeParts) (placement : Places) (h : Hosted) → IsLoadedHost code placement (root_core placement.places) h → is_here h 0 ≡ true
root_here code placement h loaded =
    ap (λ p. is_on p h.cores 0) loaded.places ∙ ap (λ cores. is_on placement.places cores 0) loaded.cores ∙ either (root_core placement.places == root_core placement.places) (grind (arith, nat_tests))
  where
    either : (is : Bool) → is ≡ true → cond is true false ≡ true
    either true e = refl
    either false e = cc

-- the host that was made for thread 0's core
pub is_root : (code : CodeParts) (placement : Places) (h : Hosted) → IsLoadedHost code placement (root_core placement.places) h → IsRoot code placement h
is_root code placement h loaded = let here = root_here code placement h loaded in
    record { code = loaded.code; places = loaded.places; cores = loaded.cores; rope = loaded.rope; here = here; none = loaded.none here }

-- the ports of the cores from this one on
pub record RestLoads (code : CodeParts) (placement : Places) (core : ℕ) (rest : List Mail) : Type 0 where
  pub count : core + length rest ≡ placement.cores
  pub each : (i : ℕ) (port : Mail) → slice_get rest i ≡ Some port → CanLoad code placement ((core + i) ∷ []) port

pub some_thread : (code : CodeParts) (placement : Places) (ports : List Mail) → ArePorts code placement ports → 1 ≤ placement.cores → 0 < length placement.places
some_thread code placement ports are some =
    let count = are.count in
    let first = get_there ports 0 (omega (arith, count, some)) in
    let loads = are.each 0 first.0 first.1 in
    let placed = loads.placed in
    let mailboxes = loads.mailboxes in
    omega (arith, placed, mailboxes)

pub all_rest : (code : CodeParts) (placement : Places) (ports : List Mail) → ArePorts code placement ports → RestLoads code placement 0 ports
all_rest code placement ports are = record {
  count = let count = are.count in omega (arith, count);
  each = λ i port at. let none : i ≡ 0 + i = omega arith in subst (λ core. CanLoad code placement (core ∷ []) port) none (are.each i port at);
}

module _ {S : Type 0} (state : S → Mail) (code : CodeParts) (placement : Places) (core : ℕ) (ports : List S) (port : S) (rest : List S)
    (is : ports ≡ port ∷ rest) (loads : RestLoads code placement core (map state ports)) where
  mapped : map state ports ≡ state port ∷ map state rest
  mapped = ap (map state) is

  pub next_loads : CanLoad code placement (core ∷ []) (state port)
  next_loads = let none : core + 0 ≡ core = omega arith in
      subst (λ c. CanLoad code placement (c ∷ []) (state port)) none (loads.each 0 (state port) (ap (λ l. slice_get l 0) mapped))

  pub later_loads : RestLoads code placement (core + 1) (map state rest)
  later_loads = record {
    count = let count = loads.count in let more = ap length mapped in omega (arith, count, more);
    each = λ i p at. let one : core + suc i ≡ core + 1 + i = omega arith in
        subst (λ c. CanLoad code placement (c ∷ []) p) one (loads.each (suc i) p (ap (λ l. slice_get l (suc i)) mapped ∙ at));
  }
