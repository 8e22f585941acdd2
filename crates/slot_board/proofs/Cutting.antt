-- The ends of all mailboxes, dealt to one core after the other.
use Rattle.std.proofs.Common.{◌≡◌, ◌≢◌, ◌==◌, ℕ, suc, zero, ◌+◌, ◌<◌, ◌≤◌, ◌^◌, List, [], ◌∷◌, ◌++◌, length, length-set, length-append, append-nil, drop, map, set, sym, refl, ap, ◌∙◌, subst, ⊎_elim, arith, Option, Some, None, Bool, true, false, slice_get}
use mathlib.Core.Logic.{dite}
use native.Mathlib.Decide.{ℕ_discrete}
use Rattle.std.proofs.lemmas.Bool.Decides.{nat_tests}
use Rattle.std.proofs.lemmas.Option.{slice_get_within}
use Rattle.atomic_table.specs.Seated.{TableId}
use Rattle.atomic_table.specs.declared.shared.Seat.{Seat}
use Rattle.copy_slots.specs.declared.view.Sender.{Sender}
use Rattle.copy_slots.specs.declared.view.Taker.{Taker}
use Rattle.copy_slots.specs.declared.view.Role.{Role}
use Rattle.copy_slots.specs.declared.view.Role.TheVariants.{Idle, Keeper}
use Rattle.copy_slots.specs.declared.view.View.{View}
use Rattle.copy_slots.specs.Mail.{new_sender, new_taker}
use Rattle.copy_slots.specs.SeatEnds.{IsBoard, HasEnds, Watches}
use Rattle.copy_slots.specs.Ports.{MailboxEnds, PortState, sender_in, taker_in, is_keeper, stored_of, stops_of}
use Rattle.copy_slots.proofs.SeatEndLemmas.{role_is}
use Rattle.copy_slots.proofs.PortLemmas.{set_at}
use Rattle.copy_slots.proofs.Seating.{map_map, rewatches, snoc_cases}
use Rattle.slot_board.specs.declared.seats.EndSeats.{EndSeats}
use Rattle.slot_board.specs.declared.seats.CoreSeats.{CoreSeats}
use Rattle.slot_board.specs.Slots.{PairSits, AllPairs, sender_of, taker_of, pair_ends, is_watch}
use Rattle.slot_board.specs.Splits.{pick}
use Rattle.slot_board.specs.Dealt.{ends_of_core, core_state, AreNewEnds, AllNew, taken_by_core, left_by_core, IsCut, BelongsToTable, BelongToTable, seats_state, IsLeftToDeal, spare_role}
use Rattle.slot_board.proofs.Pairing.{both_of}

same_core : (a b : ℕ) → (a == b) ≡ true → a ≡ b
same_core a b e = grind (arith, nat_tests)

other_core : (a b : ℕ) → (a == b) ≡ false → b ≢ a
other_core a b e h = grind (arith, nat_tests)

is_core : (a : ℕ) → (a == a) ≡ true
is_core a = grind (arith, nat_tests)

true_false : {A : Type 0} → true ≡ false → A
true_false e = absurd (cc)

no_seat : {A B : Type 0} (a : A) → None ≡ Some a → B
no_seat a e = absurd (cc)

pub some_is : {A : Type 0} (a b : A) → Some a ≡ Some b → a ≡ b
some_is a b e = cc

-- ---- lists

pub get_there : {A : Type 0} (l : List A) (k : ℕ) → k < length l → (a : A) × (slice_get l k ≡ Some a)
get_there [] k h = absurd (omega arith)
get_there (x ∷ xs) zero h = (x, refl)
get_there (x ∷ xs) (suc k) h = get_there xs k (omega arith)

pub get_snoc : {A : Type 0} (l : List A) (a b : A) (k : ℕ) → slice_get l k ≡ Some b → slice_get (l ++ a ∷ []) k ≡ Some b
get_snoc [] a b k e = no_seat b e
get_snoc (x ∷ xs) a b zero e = e
get_snoc (x ∷ xs) a b (suc k) e = get_snoc xs a b k e

pub get_last : {A : Type 0} (l : List A) (a : A) (k : ℕ) → k ≡ length l → slice_get (l ++ a ∷ []) k ≡ Some a
get_last [] a zero e = refl
get_last [] a (suc k) e = absurd (omega arith)
get_last (x ∷ xs) a zero e = absurd (omega arith)
get_last (x ∷ xs) a (suc k) e = get_last xs a k (omega arith)

pub none_there : {A : Type 0} (l : List A) (j : ℕ) (s : A) → l ≡ [] → slice_get l j ≡ Some s → ⊥
none_there [] j s e h = absurd (cc)
none_there (x ∷ l) j s e h = absurd (cc)

pub get_set_else : {A : Type 0} (l : List A) (k j : ℕ) (a : A) → j ≢ k → slice_get (set l k a) j ≡ slice_get l j
get_set_else [] k j a n = refl
get_set_else (x ∷ xs) zero zero a n = absurd (n refl)
get_set_else (x ∷ xs) zero (suc j) a n = refl
get_set_else (x ∷ xs) (suc k) zero a n = refl
get_set_else (x ∷ xs) (suc k) (suc j) a n = get_set_else xs k j a (λ e. n (ap suc e))

same_maps : {A B C : Type 0} (f : A → C) (h : B → C) (l : List A) (m : List B) → length l ≡ length m → ((k : ℕ) (a : A) (b : B) → slice_get l k ≡ Some a → slice_get m k ≡ Some b → f a ≡ h b) → map f l ≡ map h m
same_maps f h [] [] e all = refl
same_maps f h [] (y ∷ ys) e all = absurd (omega arith)
same_maps f h (x ∷ xs) [] e all = absurd (omega arith)
same_maps f h (x ∷ xs) (y ∷ ys) e all = λ i. all 0 x y refl refl i ∷ same_maps f h xs ys (omega arith) (λ k a b p q. all (suc k) a b p q) i

pub map_snoc : {A B : Type 0} (f : A → B) (l : List A) (a : A) → map f (l ++ a ∷ []) ≡ map f l ++ f a ∷ []
map_snoc f [] a = refl
map_snoc f (x ∷ xs) a = ap (λ t. f x ∷ t) (map_snoc f xs a)

-- ---- the seat that others are split off

before_root : {Q : Type 0} (root n core : ℕ) → core ≤ root → spare_role {Q = Q} root n core ≡ Keeper n false []
before_root root n zero h = refl
before_root {Q} root n (suc core) h = go (λ g. before_root root n core g) (core == root) refl
  where
    go : (core ≤ root → spare_role {Q = Q} root n core ≡ Keeper n false []) → (b : Bool) → (core == root) ≡ b → pick b (Idle []) (spare_role {Q = Q} root n core) ≡ Keeper n false []
    go before true e = let same = same_core core root e in absurd (omega arith)
    go before false e = before (omega arith)

module _ (Q : Type 0) (root n core : ℕ) where
  -- of the seat that the core gets
  abbrev pub watch_role : Role Q
  watch_role = pick (core == root) (spare_role root n core) (Idle [])

  abbrev Says : Bool → Role Q → Type 0
  Says b role = (is_keeper role ≡ b) × (stored_of role ≡ false) × (stops_of role ≡ []) × (is_watch role ≡ true)

  pub watch_says : Says (core == root) watch_role
  watch_says = go (core == root) refl
    where
      go : (b : Bool) → (core == root) ≡ b → Says b (pick b (spare_role {Q = Q} root n core) (Idle []))
      go true e = let same = same_core core root e in subst (λ (r : Role Q). Says true r) (sym (before_root root n core (omega arith))) (refl, refl, refl, refl)
      go false e = (refl, refl, refl, refl)

-- ---- seats

module _ {W P Q : Type 0} (z : TableId) (work : W) (blanks : List Q) where
  pub new_more : (l : List (EndSeats W P Q)) (k : ℕ) (b : EndSeats W P Q) → length l ≡ k → AllNew z work blanks l → AreNewEnds z work blanks k b.parent b.child → AllNew z work blanks (l ++ b ∷ [])
  new_more l k b long all h j s e = ⊎_elim
      (λ (t : (j ≡ length l) × (b ≡ s)). subst (λ (q : ℕ × EndSeats W P Q). AreNewEnds z work blanks q.0 q.1.parent q.1.child) (λ i. (sym (t.0 ∙ long) i, t.1 i)) h)
      (λ t. all j s t) (snoc_cases l b s j e)

  new_sits : (k : ℕ) (p c : Option (Seat (Option P) (View W Q))) → AreNewEnds z work blanks k p c → PairSits z work blanks k p c
  new_sits k p c h = record {
    of_parent = λ s e. subst (λ (q : Seat (Option P) (View W Q)). HasEnds z work blanks k (Some (sender_in q.me.0.role)) None q) (some_is h.parent.0 s (sym h.parent.1 ∙ e))
        (subst (λ (x : Sender Q). HasEnds z work blanks k (Some x) None h.parent.0) (sym (ap sender_in (role_is z work blanks k (Some new_sender) None h.parent.0 h.parent.2))) h.parent.2);
    of_child = λ s e. subst (λ (q : Seat (Option P) (View W Q)). HasEnds z work blanks k None (Some (taker_in q.me.0.role)) q) (some_is h.child.0 s (sym h.child.1 ∙ e))
        (subst (λ (y : Taker Q). HasEnds z work blanks k None (Some y) h.child.0) (sym (ap taker_in (role_is z work blanks k None (Some new_taker) h.child.0 h.child.2))) h.child.2);
  }

  pub new_waits : (ends : List (ℕ × ℕ)) (l : List (EndSeats W P Q)) → length l ≡ length ends → AllNew z work blanks l → IsLeftToDeal z work blanks 0 ends l
  new_waits ends l long all = record {
    long = long;
    sits = λ k p e. new_sits k p.parent p.child (all k p e);
    parent = λ k e p _ at _. let h = (all k p at).parent in ap sender_of h.1 ∙ ap (λ (r : Role Q). Some (sender_in r)) (role_is z work blanks k (Some new_sender) None h.0 h.2);
    child = λ k e p _ at _. let h = (all k p at).child in ap taker_of h.1 ∙ ap (λ (r : Role Q). Some (taker_in r)) (role_is z work blanks k None (Some new_taker) h.0 h.2);
  }

  -- a part of the ends of a mailbox
  part_sits : (k : ℕ) (p c p' c' : Option (Seat (Option P) (View W Q))) → ((s : Seat (Option P) (View W Q)) → p' ≡ Some s → p ≡ Some s) → ((s : Seat (Option P) (View W Q)) → c' ≡ Some s → c ≡ Some s) → PairSits z work blanks k p c → PairSits z work blanks k p' c'
  part_sits k p c p' c' f g h = record { of_parent = λ s e. h.of_parent s (f s e); of_child = λ s e. h.of_child s (g s e) }

  kept : (b : Bool) (p : Option (Seat (Option P) (View W Q))) (s : Seat (Option P) (View W Q)) → pick b p None ≡ Some s → p ≡ Some s
  kept true p s e = e
  kept false p s e = no_seat s e

  left : (b : Bool) (p : Option (Seat (Option P) (View W Q))) (s : Seat (Option P) (View W Q)) → pick b None p ≡ Some s → p ≡ Some s
  left true p s e = no_seat s e
  left false p s e = e

  module _ (core : ℕ) (ends : List (ℕ × ℕ)) (old mine rest : List (EndSeats W P Q)) (waits : IsLeftToDeal z work blanks core ends old) (cut : IsCut core ends old mine rest) where
    -- where a seat of either list comes from
    mine_from : (k : ℕ) (q : EndSeats W P Q) → slice_get mine k ≡ Some q → (e : ℕ × ℕ) × (p : EndSeats W P Q) × (slice_get ends k ≡ Some e) × (slice_get old k ≡ Some p) × (q ≡ taken_by_core core e p)
    mine_from k q at = let near = slice_get_within mine k q at in let n = cut.mine_long in let m = waits.long in let p = get_there old k (omega arith) in let e = get_there ends k (omega arith) in
        (e.0, p.0, e.1, p.1, some_is q _ (sym at ∙ cut.mine_at k e.0 p.0 e.1 p.1))

    rest_from : (k : ℕ) (q : EndSeats W P Q) → slice_get rest k ≡ Some q → (e : ℕ × ℕ) × (p : EndSeats W P Q) × (slice_get ends k ≡ Some e) × (slice_get old k ≡ Some p) × (q ≡ left_by_core core e p)
    rest_from k q at = let near = slice_get_within rest k q at in let n = cut.rest_long in let m = waits.long in let p = get_there old k (omega arith) in let e = get_there ends k (omega arith) in
        (e.0, p.0, e.1, p.1, some_is q _ (sym at ∙ cut.rest_at k e.0 p.0 e.1 p.1))

    pub cut_sits : AllPairs z work blanks mine
    cut_sits k q at = let t = mine_from k q at in subst (λ (s : EndSeats W P Q). PairSits z work blanks k s.parent s.child) (sym t.4)
        (part_sits k t.1.parent t.1.child _ _ (λ s h. kept (t.0.0 == core) t.1.parent s h) (λ s h. kept (t.0.1 == core) t.1.child s h) (waits.sits k t.1 t.3))

    not_mine : (a : ℕ) (p : Option (Seat (Option P) (View W Q))) (x : Sender Q) → core + 1 ≤ a → sender_of p ≡ Some x → sender_of (pick (a == core) None p) ≡ Some x
    not_mine a p x far is = go (a == core) refl
      where
        go : (b : Bool) → (a == core) ≡ b → sender_of (pick b None p) ≡ Some x
        go true e = let same = same_core a core e in absurd (omega arith)
        go false e = is

    not_my_child : (a : ℕ) (p : Option (Seat (Option P) (View W Q))) (x : Taker Q) → core + 1 ≤ a → taker_of p ≡ Some x → taker_of (pick (a == core) None p) ≡ Some x
    not_my_child a p x far is = go (a == core) refl
      where
        go : (b : Bool) → (a == core) ≡ b → taker_of (pick b None p) ≡ Some x
        go true e = let same = same_core a core e in absurd (omega arith)
        go false e = is

    pub cut_waits : IsLeftToDeal z work blanks (core + 1) ends rest
    cut_waits = record {
      long = cut.rest_long ∙ waits.long;
      sits = λ k q at. let t = rest_from k q at in subst (λ (s : EndSeats W P Q). PairSits z work blanks k s.parent s.child) (sym t.4)
          (part_sits k t.1.parent t.1.child _ _ (λ s h. left (t.0.0 == core) t.1.parent s h) (λ s h. left (t.0.1 == core) t.1.child s h) (waits.sits k t.1 t.3));
      parent = λ k e q here at far. let t = rest_from k q at in let same : t.0 ≡ e = some_is t.0 e (sym t.2 ∙ here) in
          ap (λ (s : EndSeats W P Q). sender_of s.parent) t.4 ∙ subst (λ (d : ℕ × ℕ). sender_of (pick (d.0 == core) None t.1.parent) ≡ Some new_sender) (sym same)
          (not_mine e.0 t.1.parent new_sender far (waits.parent k e t.1 here t.3 (omega arith)));
      child = λ k e q here at far. let t = rest_from k q at in let same : t.0 ≡ e = some_is t.0 e (sym t.2 ∙ here) in
          ap (λ (s : EndSeats W P Q). taker_of s.child) t.4 ∙ subst (λ (d : ℕ × ℕ). taker_of (pick (d.1 == core) None t.1.child) ≡ Some new_taker) (sym same)
          (not_my_child e.1 t.1.child new_taker far (waits.child k e t.1 here t.3 (omega arith)));
    }

    is_mine : (a : ℕ) (p : Option (Seat (Option P) (View W Q))) (x : Sender Q) → (core ≤ a → sender_of p ≡ Some x) → sender_of (pick (a == core) p None) ≡ pick (a == core) (Some x) None
    is_mine a p x is = go (a == core) refl
      where
        go : (b : Bool) → (a == core) ≡ b → sender_of (pick b p None) ≡ pick b (Some x) None
        go true e = let same = same_core a core e in is (omega arith)
        go false e = refl

    is_my_child : (a : ℕ) (p : Option (Seat (Option P) (View W Q))) (x : Taker Q) → (core ≤ a → taker_of p ≡ Some x) → taker_of (pick (a == core) p None) ≡ pick (a == core) (Some x) None
    is_my_child a p x is = go (a == core) refl
      where
        go : (b : Bool) → (a == core) ≡ b → taker_of (pick b p None) ≡ pick b (Some x) None
        go true e = let same = same_core a core e in is (omega arith)
        go false e = refl

    pub cut_ends : map pair_ends (map both_of mine) ≡ map (ends_of_core core) ends
    cut_ends = map_map both_of pair_ends mine ∙ same_maps (λ (q : EndSeats W P Q). pair_ends (both_of q)) (ends_of_core core) mine ends (cut.mine_long ∙ waits.long)
        (λ k q e at here. let t = mine_from k q at in let same : t.0 ≡ e = some_is t.0 e (sym t.2 ∙ here) in
        ap (λ (s : EndSeats W P Q). pair_ends (both_of s)) t.4 ∙ subst (λ (d : ℕ × ℕ). pair_ends (both_of (taken_by_core core d t.1)) ≡ ends_of_core core e) (sym same)
        (let a = is_mine e.0 t.1.parent new_sender (λ n. waits.parent k e t.1 here t.3 n) in let b = is_my_child e.1 t.1.child new_taker (λ n. waits.child k e t.1 here t.3 n) in
        λ i. let r : MailboxEnds Q = record { parent = a i; child = b i } in r))

    -- the seats of the core, with the one that looks at the stop word
    pub core_fits : (root n : ℕ) (watch : Seat (Option P) (View W Q)) → (length ends < 2 ^ 32) × IsBoard z (length ends) → Watches z work blanks (watch_role Q root n core) watch → (h : CoreSeats W P Q) → h.watch ≡ watch → h.seats.items ≡ mine → BelongsToTable z work h
    core_fits root n watch sized w h is is' = record {
      sized = subst (λ (m : ℕ). (m < 2 ^ 32) × IsBoard z m) (sym (ap (λ (l : List (EndSeats W P Q)). length l) is' ∙ (cut.mine_long ∙ waits.long))) sized;
      watches = subst (λ (s : Seat (Option P) (View W Q)). Watches z work s.me.0.blanks s.me.0.role s × (is_watch s.me.0.role ≡ true)) (sym is) (rewatches z work blanks (watch_role Q root n core) watch w, ap (λ m. is_watch m.0.role) w.me ∙ (watch_says Q root n core).3);
      pairs = subst (λ (l : List (EndSeats W P Q)). AllPairs z work h.watch.me.0.blanks l) (sym is') (subst (λ (bs : List Q). AllPairs z work bs mine) (sym (ap (λ (s : Seat (Option P) (View W Q)). s.me.0.blanks) is ∙ ap (λ m. m.0.blanks) w.me)) cut_sits);
    }

    pub core_is : (root n : ℕ) (watch : Seat (Option P) (View W Q)) → Watches z work blanks (watch_role Q root n core) watch → (h : CoreSeats W P Q) → h.watch ≡ watch → h.seats.items ≡ mine → seats_state z work h ≡ core_state z work blanks ends root core
    core_is root n watch w h is is' = let says = watch_says Q root n core in let bs : h.watch.me.0.blanks ≡ blanks = ap (λ (s : Seat (Option P) (View W Q)). s.me.0.blanks) is ∙ ap (λ m. m.0.blanks) w.me in
        let role : h.watch.me.0.role ≡ watch_role Q root n core = ap (λ (s : Seat (Option P) (View W Q)). s.me.0.role) is ∙ ap (λ m. m.0.role) w.me in
        let es = ap (λ (l : List (EndSeats W P Q)). map pair_ends (map both_of l)) is' ∙ cut_ends in
        let a = ap is_keeper role ∙ says.0 in let b = ap stored_of role ∙ says.1 in let c = ap stops_of role ∙ says.2 in
        λ i. let r : PortState W Q = record { board = Some z; work = work; blanks = bs i; ends = es i; tells = false; root = a i; stored = b i; stops = c i } in r

  pub fit_more : (l : List (CoreSeats W P Q)) (h : CoreSeats W P Q) → BelongToTable z work l → BelongsToTable z work h → BelongToTable z work (l ++ h ∷ [])
  fit_more l h all fits c g e = ⊎_elim (λ (t : (c ≡ length l) × (h ≡ g)). subst (λ (q : CoreSeats W P Q). BelongsToTable z work q) t.1 fits) (λ t. all c g t) (snoc_cases l h g c e)

-- ---- the mailboxes below k are cut, and the others are not

module _ {W P Q : Type 0} (core : ℕ) (ends : List (ℕ × ℕ)) (old : List (EndSeats W P Q)) where
  pub record Partly (k : ℕ) (mine rest : List (EndSeats W P Q)) : Type 0 where
    pub mine_long : length mine ≡ k
    pub rest_long : length rest ≡ length old
    pub mine_at : (j : ℕ) (e : ℕ × ℕ) (p : EndSeats W P Q) → j < k → slice_get ends j ≡ Some e → slice_get old j ≡ Some p → slice_get mine j ≡ Some (taken_by_core core e p)
    pub rest_at : (j : ℕ) (e : ℕ × ℕ) (p : EndSeats W P Q) → j < k → slice_get ends j ≡ Some e → slice_get old j ≡ Some p → slice_get rest j ≡ Some (left_by_core core e p)
    pub still : (j : ℕ) → k ≤ j → slice_get rest j ≡ slice_get old j

  pub partly_start : (mine : List (EndSeats W P Q)) → mine ≡ [] → Partly 0 mine old
  partly_start mine is = record {
    mine_long = ap (λ (l : List (EndSeats W P Q)). length l) is;
    rest_long = refl;
    mine_at = λ j e p h _ _. absurd (omega arith);
    rest_at = λ j e p h _ _. absurd (omega arith);
    still = λ j h. refl;
  }

  pub partly_more : (k : ℕ) (mine rest : List (EndSeats W P Q)) (e : ℕ × ℕ) (a r b : EndSeats W P Q) → Partly k mine rest → k < length rest → slice_get ends k ≡ Some e → slice_get rest k ≡ Some a
      → r ≡ taken_by_core core e a → b ≡ left_by_core core e a → Partly (k + 1) (mine ++ r ∷ []) (set rest k b)
  partly_more k mine rest e a r b h near at_end at_seats is is' = record {
    mine_long = length-append mine (r ∷ []) ∙ ap (λ n. n + 1) h.mine_long;
    rest_long = length-set rest k b ∙ h.rest_long;
    mine_at = λ j f p below here was. dite (ℕ_discrete j k)
        (λ q. let same : a ≡ p = seat_is j p q was in let same_end : e ≡ f = end_is j f q here in get_last mine r j (q ∙ sym h.mine_long) ∙ ap Some (is ∙ (λ i. taken_by_core core (same_end i) (same i))))
        (λ n. get_snoc mine r _ j (h.mine_at j f p (omega arith) here was));
    rest_at = λ j f p below here was. dite (ℕ_discrete j k)
        (λ q. let same : a ≡ p = seat_is j p q was in let same_end : e ≡ f = end_is j f q here in
        ap (slice_get (set rest k b)) q ∙ (set_at rest k b near ∙ ap Some (is' ∙ (λ i. left_by_core core (same_end i) (same i)))))
        (λ n. get_set_else rest k j b n ∙ h.rest_at j f p (omega arith) here was);
    still = λ j far. get_set_else rest k j b (λ q. omega arith) ∙ h.still j (omega arith);
  }
    where
      seat_is : (j : ℕ) (p : EndSeats W P Q) → j ≡ k → slice_get old j ≡ Some p → a ≡ p
      seat_is j p q was = some_is a p (sym at_seats ∙ (h.still k (omega arith) ∙ (ap (slice_get old) (sym q) ∙ was)))

      end_is : (j : ℕ) (f : ℕ × ℕ) → j ≡ k → slice_get ends j ≡ Some f → e ≡ f
      end_is j f q here = some_is e f (sym at_end ∙ (ap (slice_get ends) (sym q) ∙ here))

  pub partly_all : (k : ℕ) (mine rest : List (EndSeats W P Q)) → length old ≡ length ends → length ends ≤ k → k ≤ length ends → Partly k mine rest → IsCut core ends old mine rest
  partly_all k mine rest long far near h = let m = h.mine_long in let n = h.rest_long in record {
    mine_long = omega arith;
    rest_long = n;
    mine_at = λ j e p here was. let l = slice_get_within old j p was in h.mine_at j e p (omega arith) here was;
    rest_at = λ j e p here was. let l = slice_get_within old j p was in h.rest_at j e p (omega arith) here was;
  }

-- ---- ports are given out

module _ {A B C : Type 0} (f : A → C) (h : B → C) where
  pub one_given : (given : List A) (a : A) (b : B) (left : List B) → f a ≡ h b → map f (given ++ a ∷ []) ++ map h left ≡ map f given ++ map h (b ∷ left)
  one_given [] a b left same = ap (λ x. x ∷ map h left) same
  one_given (x ∷ xs) a b left same = ap (λ t. f x ∷ t) (one_given xs a b left same)

  pub all_given : (given : List A) (left : List B) (all : List C) → left ≡ [] → map f given ++ map h left ≡ all → map f given ≡ all
  all_given given left all none before = sym (append-nil (map f given)) ∙ (ap (λ l. map f given ++ map h l) (sym none) ∙ before)

pub none_left : {A : Type 0} (l m : List A) → l ≡ m → m ≡ drop 1 l → l ≡ []
none_left [] m same rest = refl
none_left (x ∷ xs) m same rest = let n = ap (λ k. length k) (same ∙ rest) in absurd (omega arith)
