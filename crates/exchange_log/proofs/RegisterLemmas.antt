-- What a register has, as it grows.
use Rattle.std.proofs.Common.{ℕ, zero, suc, ◌+◌, ◌-◌, ◌<◌, ◌≤◌, ◌≡◌, ◌==◌, ◌&&◌, ℤ, Bool, true, false, cond, Some, List, [], ◌∷◌, ◌++◌, length, take, get_or, refl, sym, ap, subst, ◌∙◌, append_assoc, arith}
use Rattle.std.specs.Prelude.{slice_get}
use Rattle.std.proofs.lemmas.Bool.Decides.{nat_tests}
use Rattle.forec_kernel.specs.declared.shape.VarCopy.{VarCopy}
use Rattle.forec_kernel.specs.Packets.{PlainPacket}
use Rattle.combine_tree.specs.declared.packet.PacketKind.{PacketKind}
use Rattle.exchange_log.specs.declared.entry.Entry.{Entry}
use Rattle.exchange_log.specs.declared.register.Register.{Register}
use Rattle.exchange_log.specs.Registers.{cut, note_of, packet_of, packets_of, packets_in, count_in, AreInside, AreNumbered, is_entry, IsEntryAt, entry_of, KeepsPacket}

-- ---- lists

pub length_app : {A : Type 0} → (xs ys : List A) → length (xs ++ ys) ≡ length xs + length ys
length_app [] ys = omega arith
length_app (x ∷ xs) ys = let ih = length_app xs ys in omega (arith, ih)

take_all : {A : Type 0} → (ys : List A) → take (length ys) ys ≡ ys
take_all [] = refl
take_all (y ∷ ys) = ap (λ l. y ∷ l) (take_all ys)

cut_end : {A : Type 0} → (xs ys : List A) → cut (xs ++ ys) (length xs) (length ys) ≡ ys
cut_end [] ys = take_all ys
cut_end (x ∷ xs) ys = cut_end xs ys

cut_more : {A : Type 0} → (xs ys : List A) (from n : ℕ) → from + n ≤ length xs → cut (xs ++ ys) from n ≡ cut xs from n
cut_more [] ys zero zero le = refl
cut_more [] ys zero (suc n) le = absurd (omega (arith, le))
cut_more [] ys (suc from) n le = absurd (omega (arith, le))
cut_more (x ∷ xs) ys zero zero le = refl
cut_more (x ∷ xs) ys zero (suc n) le = ap (λ l. x ∷ l) (cut_more xs ys zero n (omega (arith, le)))
cut_more (x ∷ xs) ys (suc from) n le = cut_more xs ys from n (omega (arith, le))

-- ---- entries

entry_more : (A A' : List ℤ) (C C' : List VarCopy) (e : Entry) → e.args_from + e.args ≤ length A → e.copies_from + e.copies ≤ length C → packet_of (A ++ A') (C ++ C') e ≡ packet_of A C e
entry_more A A' C C' e a c =
    rw (cut_more A A' e.args_from e.args a, cut_more C C' e.copies_from e.copies c) refl

packets_more : (A A' : List ℤ) (C C' : List VarCopy) (k : ℕ) (es : List Entry) → AreInside (length A) (length C) es → packets_of (A ++ A') (C ++ C') k es ≡ packets_of A C k es
packets_more A A' C C' k [] h = refl
packets_more A A' C C' k (e ∷ es) h =
    let one = entry_more A A' C C' e h.0 h.1 in
    let rest = packets_more A A' C C' k es h.2 in
    ap (λ p. cond (e.mailbox == k) (p ∷ packets_of (A ++ A') (C ++ C') k es) (packets_of (A ++ A') (C ++ C') k es)) one
    ∙ ap (λ ps. cond (e.mailbox == k) (packet_of A C e ∷ ps) ps) rest

packets_snoc : (A : List ℤ) (C : List VarCopy) (k : ℕ) (es : List Entry) (e : Entry) → packets_of A C k (es ++ e ∷ []) ≡ cond (e.mailbox == k) (packets_of A C k es ++ packet_of A C e ∷ []) (packets_of A C k es)
packets_snoc A C k [] e = refl
packets_snoc A C k (x ∷ es) e = by_test (x.mailbox == k) (e.mailbox == k) (packets_snoc A C k es e)
  where
    by_test : (one two : Bool) → packets_of A C k (es ++ e ∷ []) ≡ cond two (packets_of A C k es ++ packet_of A C e ∷ []) (packets_of A C k es) →
        cond one (packet_of A C x ∷ packets_of A C k (es ++ e ∷ [])) (packets_of A C k (es ++ e ∷ []))
        ≡ cond two (cond one (packet_of A C x ∷ packets_of A C k es) (packets_of A C k es) ++ packet_of A C e ∷ []) (cond one (packet_of A C x ∷ packets_of A C k es) (packets_of A C k es))
    by_test true true h = ap (λ l. packet_of A C x ∷ l) h
    by_test true false h = ap (λ l. packet_of A C x ∷ l) h
    by_test false true h = h
    by_test false false h = h

inside_more : (a a' c c' : ℕ) (es : List Entry) → a ≤ a' → c ≤ c' → AreInside a c es → AreInside a' c' es
inside_more a a' c c' [] p q h = tt
inside_more a a' c c' (e ∷ es) p q h = (omega (arith, p, h.0), omega (arith, q, h.1), inside_more a a' c c' es p q h.2)

inside_snoc : (a c : ℕ) (es : List Entry) (e : Entry) → AreInside a c es → e.args_from + e.args ≤ a → e.copies_from + e.copies ≤ c → AreInside a c (es ++ e ∷ [])
inside_snoc a c [] e h p q = (p, q, tt)
inside_snoc a c (x ∷ es) e h p q = (h.0, h.1, inside_snoc a c es e h.2 p q)

-- ---- numbers

pub counted : (A : List ℤ) (C : List VarCopy) (k : ℕ) (es : List Entry) → length (packets_of A C k es) ≡ count_in k es
counted A C k [] = refl
counted A C k (e ∷ es) = by_test (e.mailbox == k) (counted A C k es)
  where
    by_test : (t : Bool) → length (packets_of A C k es) ≡ count_in k es → length (cond t (packet_of A C e ∷ packets_of A C k es) (packets_of A C k es)) ≡ cond t (suc (count_in k es)) (count_in k es)
    by_test true h = ap suc h
    by_test false h = h

pub count_most : (k : ℕ) (es : List Entry) → count_in k es ≤ length es
count_most k [] = omega arith
count_most k (e ∷ es) = by_test (e.mailbox == k) (count_most k es)
  where
    by_test : (t : Bool) → count_in k es ≤ length es → cond t (suc (count_in k es)) (count_in k es) ≤ suc (length es)
    by_test true h = omega (arith, h)
    by_test false h = omega (arith, h)

count_snoc : (k : ℕ) (es : List Entry) (e : Entry) → count_in k (es ++ e ∷ []) ≡ cond (e.mailbox == k) (suc (count_in k es)) (count_in k es)
count_snoc k [] e = refl
count_snoc k (x ∷ es) e = by_test (x.mailbox == k) (e.mailbox == k) (count_snoc k es e)
  where
    by_test : (one two : Bool) → count_in k (es ++ e ∷ []) ≡ cond two (suc (count_in k es)) (count_in k es) →
        cond one (suc (count_in k (es ++ e ∷ []))) (count_in k (es ++ e ∷ [])) ≡ cond two (suc (cond one (suc (count_in k es)) (count_in k es))) (cond one (suc (count_in k es)) (count_in k es))
    by_test true true h = ap suc h
    by_test true false h = ap suc h
    by_test false true h = h
    by_test false false h = h

numbered_snoc : (past es : List Entry) (e : Entry) → AreNumbered past es → e.number ≡ count_in e.mailbox (past ++ es) → AreNumbered past (es ++ e ∷ [])
numbered_snoc past [] e h n = (n ∙ ap (count_in e.mailbox) (no_more past), tt)
  where
    no_more : (xs : List Entry) → xs ++ [] ≡ xs
    no_more [] = refl
    no_more (x ∷ xs) = ap (λ l. x ∷ l) (no_more xs)
numbered_snoc past (x ∷ es) e h n = (h.0, numbered_snoc (past ++ x ∷ []) es e h.1 (n ∙ ap (count_in e.mailbox) (sym (append_assoc past (x ∷ []) es))))

number_is : (a b : ℕ) → (a == b) ≡ true → a ≡ b
number_is a b h = grind (arith, nat_tests)

same_number : (n : ℕ) → (n == n) ≡ true
same_number n = grind (arith, nat_tests)

-- an entry that is there is that packet of these
record Stands (A : List ℤ) (C : List VarCopy) (past : List Entry) (ps : List PlainPacket) (e : Entry) : Type 0 where
  pub later : count_in e.mailbox past ≤ e.number
  pub at : slice_get ps (e.number - count_in e.mailbox past) ≡ Some (packet_of A C e)

one_entry : (a b : Entry) → Some a ≡ Some b → a ≡ b
one_entry a b e = cc

stands_at : (A : List ℤ) (C : List VarCopy) (past es : List Entry) (i : ℕ) (e : Entry) → AreNumbered past es → slice_get es i ≡ Some e → Stands A C past (packets_of A C e.mailbox es) e
stands_at A C past [] zero e h at = cc
stands_at A C past [] (suc i) e h at = cc
stands_at A C past (x ∷ es) zero e h at =
    let same : x ≡ e = one_entry x e at in
    subst (λ (y : Entry). Stands A C past (packets_of A C y.mailbox (x ∷ es)) y) same (record { later = omega (arith, h.0); at = first })
  where
    first : slice_get (packets_of A C x.mailbox (x ∷ es)) (x.number - count_in x.mailbox past) ≡ Some (packet_of A C x)
    first =
        let none : x.number - count_in x.mailbox past ≡ 0 = omega (arith, h.0) in
        ap (slice_get (packets_of A C x.mailbox (x ∷ es))) none ∙ ap (λ t. slice_get (cond t (packet_of A C x ∷ packets_of A C x.mailbox es) (packets_of A C x.mailbox es)) 0) (same_number x.mailbox)
stands_at A C past (x ∷ es) (suc i) e h at = by_test (x.mailbox == e.mailbox) (count_snoc e.mailbox past x) (stands_at A C (past ++ x ∷ []) es i e h.1 at)
  where
    by_test : (t : Bool) → count_in e.mailbox (past ++ x ∷ []) ≡ cond t (suc (count_in e.mailbox past)) (count_in e.mailbox past) →
        Stands A C (past ++ x ∷ []) (packets_of A C e.mailbox es) e → Stands A C past (cond t (packet_of A C x ∷ packets_of A C e.mailbox es) (packets_of A C e.mailbox es)) e
    by_test true n s = record { later = omega (arith, n, s.later); at = step }
      where
        step : slice_get (packet_of A C x ∷ packets_of A C e.mailbox es) (e.number - count_in e.mailbox past) ≡ Some (packet_of A C e)
        step =
            let more : e.number - count_in e.mailbox past ≡ suc (e.number - count_in e.mailbox (past ++ x ∷ [])) = omega (arith, n, s.later) in
            ap (slice_get (packet_of A C x ∷ packets_of A C e.mailbox es)) more ∙ s.at
    by_test false n s = record { later = omega (arith, n, s.later); at = ap (λ m. slice_get (packets_of A C e.mailbox es) (e.number - m)) (sym n) ∙ s.at }

both_are : (k n : ℕ) (e : Entry) → is_entry k n e ≡ true → (e.mailbox ≡ k) × (e.number ≡ n)
both_are k n e h = by_tests (e.mailbox == k) (e.number == n) refl refl h
  where
    by_tests : (s t : Bool) → (e.mailbox == k) ≡ s → (e.number == n) ≡ t → s && t ≡ true → (e.mailbox ≡ k) × (e.number ≡ n)
    by_tests true true p q h = (number_is e.mailbox k p, number_is e.number n q)
    by_tests true false p q h = cc
    by_tests false t p q h = cc

-- the packet that is looked for
pub packet_at : (A : List ℤ) (C : List VarCopy) (es : List Entry) (k n at : ℕ) → AreNumbered [] es → (f : IsEntryAt es k n at) → slice_get (packets_of A C k es) n ≡ Some (packet_of A C f.entry)
packet_at A C es k n at numbered f =
    let b = both_are k n f.entry f.is in
    let s = stands_at A C [] es at f.entry numbered f.here in
    let z : n ≡ f.entry.number - 0 = omega (arith, b.1) in
    ap (λ m. slice_get (packets_of A C m es) n) (sym b.0) ∙ ap (slice_get (packets_of A C f.entry.mailbox es)) z ∙ s.at

-- there is one
pub record IsThere (es : List Entry) (k n : ℕ) : Type 0 where
  pub at : ℕ
  pub found : IsEntryAt es k n at

is_number : (k n : ℕ) (e : Entry) → e.mailbox ≡ k → e.number ≡ n → is_entry k n e ≡ true
is_number k n e p q =
    ap (λ m. (m == k) && (e.number == n)) p ∙ ap (λ m. (k == k) && (m == n)) q ∙ ap (λ t. t && (n == n)) (same_number k) ∙ same_number n

there_from : (past es : List Entry) (k n : ℕ) → AreNumbered past es → n < count_in k es → IsThere es k (count_in k past + n)
there_from past [] k n h lt = absurd (omega (arith, lt))
there_from past (x ∷ es) k n h lt = by_test (x.mailbox == k) refl (count_snoc k past x) n lt (λ m. there_from (past ++ x ∷ []) es k m h.1)
  where
    next : (m : ℕ) → IsThere es k m → IsThere (x ∷ es) k m
    next m t = record { at = suc t.at; found = record { entry = t.found.entry; here = t.found.here; is = t.found.is } }

    here : (x.mailbox == k) ≡ true → IsThere (x ∷ es) k (count_in k past + 0)
    here t =
        let same = number_is x.mailbox k t in
        let number : x.number ≡ count_in k past + 0 = let e = h.0 ∙ ap (λ m. count_in m past) same in omega (arith, e) in
        record { at = 0; found = record { entry = x; here = refl; is = is_number k (count_in k past + 0) x same number } }

    by_test : (t : Bool) → (x.mailbox == k) ≡ t → count_in k (past ++ x ∷ []) ≡ cond t (suc (count_in k past)) (count_in k past) → (m : ℕ) → m < cond t (suc (count_in k es)) (count_in k es) → ((i : ℕ) → i < count_in k es → IsThere es k (count_in k (past ++ x ∷ []) + i)) →
        IsThere (x ∷ es) k (count_in k past + m)
    by_test true t c zero lt ih = here t
    by_test true t c (suc m) lt ih =
        let e : count_in k (past ++ x ∷ []) + m ≡ count_in k past + suc m = omega (arith, c) in next (count_in k past + suc m) (subst (IsThere es k) e (ih m (omega (arith, lt))))
    by_test false t c m lt ih =
        let e : count_in k (past ++ x ∷ []) + m ≡ count_in k past + m = omega (arith, c) in next (count_in k past + m) (subst (IsThere es k) e (ih m lt))

pub is_there : (es : List Entry) (k n : ℕ) → AreNumbered [] es → n < count_in k es → IsThere es k n
is_there es k n h lt = subst (IsThere es k) zero_plus (there_from [] es k n h lt)
  where
    zero_plus : 0 + n ≡ n
    zero_plus = omega arith

-- what an entry names is there
pub inside_at : (a c : ℕ) (es : List Entry) (i : ℕ) (e : Entry) → AreInside a c es → slice_get es i ≡ Some e → (e.args_from + e.args ≤ a) × (e.copies_from + e.copies ≤ c)
inside_at a c [] zero e h at = cc
inside_at a c [] (suc i) e h at = cc
inside_at a c (x ∷ es) zero e h at = subst (λ (y : Entry). (y.args_from + y.args ≤ a) × (y.copies_from + y.copies ≤ c)) (one_entry x e at) (h.0, h.1)
inside_at a c (x ∷ es) (suc i) e h at = inside_at a c es i e h.2 at

pub same_entry : (a b : Entry) → Some a ≡ Some b → a ≡ b
same_entry a b e = cc

pub never_both : (b : Bool) → b ≡ true → b ≡ false → ⊥
never_both b p q = let e = sym p ∙ q in cc

-- ---- one packet more

module _ (a b : Register) (k : ℕ) (kind : PacketKind) (amount : ℕ) (args : List ℤ) (copies : List VarCopy) (keeps : KeepsPacket a b k kind amount args copies) where
  abbrev new : Entry
  new = entry_of a k kind amount args copies

  kept_note : packet_of (a.args.items ++ args) (a.copies.items ++ copies) new ≡ note_of kind amount args copies
  kept_note = rw (cut_end a.args.items args, cut_end a.copies.items copies) refl

  pub packets_grow : AreInside (length a.args.items) (length a.copies.items) a.entries.items → (j : ℕ) →
      packets_in b j ≡ cond (k == j) (packets_in a j ++ note_of kind amount args copies ∷ []) (packets_in a j)
  packets_grow inside j =
      let A = a.args.items ++ args in
      let C = a.copies.items ++ copies in
      ap (λ l. packets_of l b.copies.items j b.entries.items) keeps.args_are
      ∙ ap (λ l. packets_of A l j b.entries.items) keeps.copies_are
      ∙ ap (packets_of A C j) keeps.entries
      ∙ packets_snoc A C j a.entries.items new
      ∙ ap (λ l. cond (k == j) (l ++ packet_of A C new ∷ []) l) (packets_more a.args.items args a.copies.items copies j a.entries.items inside)
      ∙ ap (λ z. cond (k == j) (packets_in a j ++ z ∷ []) (packets_in a j)) kept_note

  pub inside_grows : AreInside (length a.args.items) (length a.copies.items) a.entries.items → AreInside (length b.args.items) (length b.copies.items) b.entries.items
  inside_grows inside =
      let m = ap length keeps.args_are ∙ length_app a.args.items args in
      let n = ap length keeps.copies_are ∙ length_app a.copies.items copies in
      subst (AreInside (length b.args.items) (length b.copies.items)) (sym keeps.entries)
      (inside_snoc (length b.args.items) (length b.copies.items) a.entries.items new
      (inside_more (length a.args.items) (length b.args.items) (length a.copies.items) (length b.copies.items) a.entries.items (omega (arith, m)) (omega (arith, n)) inside) (omega (arith, m)) (omega (arith, n)))

  pub numbered_grows : AreNumbered [] a.entries.items → get_or a.counts.items k 0 ≡ count_in k a.entries.items → AreNumbered [] b.entries.items
  numbered_grows numbered count = subst (AreNumbered []) (sym keeps.entries) (numbered_snoc [] a.entries.items new numbered count)

  pub entry_count : length b.entries.items ≡ length a.entries.items + 1
  entry_count = ap length keeps.entries ∙ length_app a.entries.items (new ∷ [])

  pub args_count : length b.args.items ≡ length a.args.items + length args
  args_count = ap length keeps.args_are ∙ length_app a.args.items args

  pub copies_count : length b.copies.items ≡ length a.copies.items + length copies
  copies_count = ap length keeps.copies_are ∙ length_app a.copies.items copies
