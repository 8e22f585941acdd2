-- The depths of a block's operand stack, as they are found.
use Rattle.std.proofs.Common.{◌≡◌, ◌≢◌, ℕ, zero, suc, ◌+◌, ◌<◌, ◌≤◌, ◌^◌, ◌==◌, ◌||◌, Bool, true, false, cond, List, [], ◌∷◌, length, get_or, Option, Some, None, IfSome, refl, sym, ap, ◌∙◌, subst, ⊎_elim, inl, inr, arith, length-set}
use Rattle.std.specs.Prelude.{slice_get, slice_set, ◌⊎◌}
use Rattle.std.proofs.lemmas.Bool.{cases_lt}
use Rattle.std.proofs.lemmas.Bool.Decides.{nat_tests}
use Rattle.std.proofs.lemmas.List.{get_or-set_same, get_or-set_other}
use Rattle.std.proofs.lemmas.Option.{slice_get-get_or, slice_get_within}
use Rattle.thread_code.specs.declared.instruction.Instruction.{Instruction}
use Rattle.thread_code.specs.declared.instruction.Instruction.TheVariants as instruction
use Rattle.thread_code.specs.Plain.{PlainBlock, PlainCode}
use Rattle.thread_code.specs.Valid.{IsValidCode}
use Rattle.thread_code.specs.Alone.{block_of}
use Rattle.thread_steps.specs.BlockRun.{no_block, block_for, IsSuccessor, depth_after, Comes, first, next}
use Rattle.thread_steps.proofs.Steps.{comes_leads}
use Rattle.thread_rooms.specs.declared.depths.TheConstants.{UNKNOWN}
use Rattle.thread_rooms.specs.Depths.{falls_through, jump_target, IsSoundIn, HoldsDepths, IsFollowed, AreFollowed, unknown_in, FindsDepths, IsSpread, IsMost, IsGreatest}
use Rattle.thread_rooms.specs.Room.{block_of_function, AreShort}

-- ---- where an instruction leads

either_way : (p to q : ℕ) → (q ≡ p + 1) ⊎ (q ≡ to) → ((true ≡ true) × (q ≡ p + 1)) ⊎ (Some to ≡ Some q)
either_way p to q h = ⊎_elim (λ e. inl (refl, e)) (λ e. inr (ap Some (sym e))) h

pub next_split : (p : ℕ) (i : Instruction) (q : ℕ) → IsSuccessor p i q → ((falls_through i ≡ true) × (q ≡ p + 1)) ⊎ (jump_target i ≡ Some q)
next_split p (instruction.Push n) q h = inl (refl, h)
next_split p (instruction.Quiet n) q h = inl (refl, h)
next_split p (instruction.Load x) q h = inl (refl, h)
next_split p (instruction.Store x) q h = inl (refl, h)
next_split p (instruction.LoadAt x n place) q h = inl (refl, h)
next_split p (instruction.StoreAt x n place) q h = inl (refl, h)
next_split p (instruction.Clear x n) q h = inl (refl, h)
next_split p (instruction.Table n place) q h = inl (refl, h)
next_split p (instruction.Get v) q h = inl (refl, h)
next_split p (instruction.Put v) q h = inl (refl, h)
next_split p (instruction.GetAt v n place) q h = inl (refl, h)
next_split p (instruction.PutAt v n place) q h = inl (refl, h)
next_split p (instruction.Unary op) q h = inl (refl, h)
next_split p (instruction.Binary op place) q h = inl (refl, h)
next_split p instruction.Truth q h = inl (refl, h)
next_split p (instruction.Zero to) q h = either_way p to q h
next_split p (instruction.NonZero to) q h = either_way p to q h
next_split p (instruction.Jump to) q h = inr (ap Some (sym h))
next_split p (instruction.Unit n) q h = inl (refl, h)
next_split p (instruction.Fill x n) q h = inl (refl, h)
next_split p (instruction.Turn x place) q h = inl (refl, h)
next_split p (instruction.Flag f n) q h = inl (refl, h)
next_split p (instruction.Keep f) q h = inl (refl, h)
next_split p (instruction.Flagged f to) q h = either_way p to q h
next_split p (instruction.Fork j to) q h = either_way p to q h
next_split p (instruction.Again j to) q h = either_way p to q h
next_split p (instruction.Pause to) q h = inr (ap Some (sym h))
next_split p instruction.End q h = absurd h
next_split p (instruction.Call f) q h = inl (refl, h)
next_split p instruction.Return q h = absurd h

pub next_on : (p : ℕ) (i : Instruction) → falls_through i ≡ true → IsSuccessor p i (p + 1)
next_on p (instruction.Push n) h = refl
next_on p (instruction.Quiet n) h = refl
next_on p (instruction.Load x) h = refl
next_on p (instruction.Store x) h = refl
next_on p (instruction.LoadAt x n place) h = refl
next_on p (instruction.StoreAt x n place) h = refl
next_on p (instruction.Clear x n) h = refl
next_on p (instruction.Table n place) h = refl
next_on p (instruction.Get v) h = refl
next_on p (instruction.Put v) h = refl
next_on p (instruction.GetAt v n place) h = refl
next_on p (instruction.PutAt v n place) h = refl
next_on p (instruction.Unary op) h = refl
next_on p (instruction.Binary op place) h = refl
next_on p instruction.Truth h = refl
next_on p (instruction.Zero to) h = inl refl
next_on p (instruction.NonZero to) h = inl refl
next_on p (instruction.Jump to) h = cc
next_on p (instruction.Unit n) h = refl
next_on p (instruction.Fill x n) h = refl
next_on p (instruction.Turn x place) h = refl
next_on p (instruction.Flag f n) h = refl
next_on p (instruction.Keep f) h = refl
next_on p (instruction.Flagged f to) h = inl refl
next_on p (instruction.Fork j to) h = inl refl
next_on p (instruction.Again j to) h = inl refl
next_on p (instruction.Pause to) h = cc
next_on p instruction.End h = cc
next_on p (instruction.Call f) h = refl
next_on p instruction.Return h = cc

that_one : (to q : ℕ) → Some to ≡ Some q → q ≡ to
that_one to q h = cc

pub next_to : (p : ℕ) (i : Instruction) (q : ℕ) → jump_target i ≡ Some q → IsSuccessor p i q
next_to p (instruction.Push n) q h = cc
next_to p (instruction.Quiet n) q h = cc
next_to p (instruction.Load x) q h = cc
next_to p (instruction.Store x) q h = cc
next_to p (instruction.LoadAt x n place) q h = cc
next_to p (instruction.StoreAt x n place) q h = cc
next_to p (instruction.Clear x n) q h = cc
next_to p (instruction.Table n place) q h = cc
next_to p (instruction.Get v) q h = cc
next_to p (instruction.Put v) q h = cc
next_to p (instruction.GetAt v n place) q h = cc
next_to p (instruction.PutAt v n place) q h = cc
next_to p (instruction.Unary op) q h = cc
next_to p (instruction.Binary op place) q h = cc
next_to p instruction.Truth q h = cc
next_to p (instruction.Zero to) q h = inr (that_one to q h)
next_to p (instruction.NonZero to) q h = inr (that_one to q h)
next_to p (instruction.Jump to) q h = that_one to q h
next_to p (instruction.Unit n) q h = cc
next_to p (instruction.Fill x n) q h = cc
next_to p (instruction.Turn x place) q h = cc
next_to p (instruction.Flag f n) q h = cc
next_to p (instruction.Keep f) q h = cc
next_to p (instruction.Flagged f to) q h = inr (that_one to q h)
next_to p (instruction.Fork j to) q h = inr (that_one to q h)
next_to p (instruction.Again j to) q h = inr (that_one to q h)
next_to p (instruction.Pause to) q h = that_one to q h
next_to p instruction.End q h = cc
next_to p (instruction.Call f) q h = cc
next_to p instruction.Return q h = cc

-- ---- a run stays in its block, and comes to each address with one depth

module _ (c : PlainCode) (b : PlainBlock) (sound : IsSoundIn c b) where
  comes_once : (p d d' : ℕ) → Comes c b p d → Comes c b p d' → d ≡ d'
  comes_once p d d' h h' =
      let s = sound.1 in
      let one : slice_get s.depths p ≡ Some d = comes_leads (record { code = c; thread = sound.0 }) b s.depths s.valid p d h in
      let other : slice_get s.depths p ≡ Some d' = comes_leads (record { code = c; thread = sound.0 }) b s.depths s.valid p d' h' in
      that_one d' d (sym other ∙ one)

  comes_within : (p d : ℕ) → Comes c b p d → p < length b.steps
  comes_within p d h =
      let s = sound.1 in
      let leads = comes_leads (record { code = c; thread = sound.0 }) b s.depths s.valid p d h in
      omega (arith, slice_get_within s.depths p d leads, s.valid.long)

  pub has_first : 0 < length b.steps
  has_first = comes_within 0 0 first

  module _ (ds : List ℕ) (holds : HoldsDepths c b ds) where
    pub next_within : (p : ℕ) (i : Instruction) (q : ℕ) → get_or ds p 0 ≢ UNKNOWN → slice_get b.steps p ≡ Some i → IsSuccessor p i q → q < length ds
    next_within p i q known is n =
        let here = holds.each p (omega (arith, holds.long, slice_get_within b.steps p i is)) known in
        omega (arith, holds.long, comes_within q (depth_after c (get_or ds p 0) i) (next p (get_or ds p 0) i q here is n))

    module _ (all : AreFollowed b ds (length ds)) where
      all_known : (p d : ℕ) → Comes c b p d → (get_or ds p 0 ≡ d) × (get_or ds p 0 ≢ UNKNOWN)
      all_known p d first = (holds.start, λ e. absurd (omega (arith, e, holds.start)))
      all_known q d (next p' d' i q' h is n) =
          let before = all_known p' d' h in
          let within = comes_within p' d' h in
          let known = all p' (omega (arith, within, holds.long)) i q before.1 is n in
          let there = next p' d' i q h is n in
          (comes_once q (get_or ds q 0) (depth_after c d' i) (holds.each q (omega (arith, holds.long, comes_within q (depth_after c d' i) there)) known) there, known)

      pub most_is_greatest : (n : ℕ) → IsMost ds (length ds) n → IsGreatest c b n
      most_is_greatest n most = record {
        bound = λ p d h.
            let k = all_known p d h in
            let within = comes_within p d h in
            omega (arith, k.0, most.bound p (omega (arith, within, holds.long)) k.1);
        reached = (most.at, subst (Comes c b most.at) most.is (holds.each most.at most.within (λ e. most.known (sym most.is ∙ e))));
      }

pub sound_thread : (c : PlainCode) → IsValidCode c → (t : ℕ) → t < length c.threads → IsSoundIn c (block_of c t)
sound_thread c valid t lt = (Some t, (valid.each_thread t (block_of c t) (slice_get-get_or c.threads t _ lt)).sound)

pub sound_function : (c : PlainCode) → IsValidCode c → (f : ℕ) → f < length c.functions → IsSoundIn c (block_of_function c f)
sound_function c valid f lt = (None, (valid.each_function f (block_of_function c f) (slice_get-get_or c.functions f no_block lt)).sound)

-- ---- one depth more

pub spread_nothing : (At : ℕ → Type 0) (d : ℕ) (ds : List ℕ) → ((p : ℕ) → At p → ⊥) → IsSpread At d ds ds false
spread_nothing At d ds nowhere = record { long = refl; finds = refl; each = λ p. inl refl; none = λ e p at. absurd (nowhere p at) }

same_rise : (b : Bool) (m n : ℕ) → m + 1 ≡ n → cond b (m + 1) m + 1 ≡ cond b (n + 1) n
same_rise true m n e = omega (arith, e)
same_rise false m n e = e

not_unknown : (d : ℕ) → d < UNKNOWN → (d == UNKNOWN) ≡ false
not_unknown d lt = grind (arith, nat_tests)

pub is_unknown : (d : ℕ) → d ≡ UNKNOWN → (d == UNKNOWN) ≡ true
is_unknown d e = grind (arith, nat_tests)

unknown_set : (ds : List ℕ) (at d : ℕ) → at < length ds → get_or ds at 0 ≡ UNKNOWN → d < UNKNOWN → unknown_in (slice_set ds at d) + 1 ≡ unknown_in ds
unknown_set [] at d lt e small = absurd (omega arith)
unknown_set (x ∷ ds) zero d lt e small =
    ap (λ b. cond b (unknown_in ds + 1) (unknown_in ds) + 1) (not_unknown d small) ∙ sym (ap (λ b. cond b (unknown_in ds + 1) (unknown_in ds)) (is_unknown x e))
unknown_set (x ∷ ds) (suc at) d lt e small = same_rise (x == UNKNOWN) (unknown_in (slice_set ds at d)) (unknown_in ds) (unknown_set ds at d (omega arith) e small)

pub spread_one : (at d : ℕ) (ds : List ℕ) (r : Bool) → at < length ds → d < UNKNOWN → get_or ds at 0 ≡ UNKNOWN → r ≡ true → IsSpread (λ q. q ≡ at) d ds (slice_set ds at d) r
spread_one at d ds false lt small e is = cc
spread_one at d ds true lt small e is = record {
  long = length-set ds at d;
  finds = let n = unknown_set ds at d lt e small in omega (arith, n);
  each = λ p.
      ⊎_elim (λ less. inl (get_or-set_other ds at p d 0 (λ f. absurd (omega (arith, less, f)))))
      (λ ge.
      ⊎_elim (λ more. inl (get_or-set_other ds at p d 0 (λ f. absurd (omega (arith, more, f)))))
      (λ le.
      let same : p ≡ at = omega (arith, ge, le) in
      inr (same, ap (λ q. get_or ds q 0) same ∙ e, ap (λ q. get_or (slice_set ds at d) q 0) same ∙ get_or-set_same ds at d 0 lt))
      (cases_lt at p))
      (cases_lt p at);
  none = λ f p at. cc;
}

pub spread_at : (At Bt : ℕ → Type 0) (d : ℕ) (ds ds' : List ℕ) (r : Bool) → ((p : ℕ) → At p → Bt p) → ((p : ℕ) → Bt p → At p) → IsSpread At d ds ds' r → IsSpread Bt d ds ds' r
spread_at At Bt d ds ds' r to from h = record {
  long = h.long;
  finds = h.finds;
  each = λ p. ⊎_elim (λ e. inl e) (λ e. inr (to p e.0, e.1, e.2)) (h.each p);
  none = λ e p at. h.none e p (from p at);
}

pub finds_more : (a b : Bool) (xs ys zs : List ℕ) → FindsDepths a xs ys → FindsDepths b ys zs → FindsDepths (a || b) xs zs
finds_more true true xs ys zs h g = omega (arith, h, g)
finds_more true false xs ys zs h g = subst (λ l. FindsDepths true xs l) (sym g) h
finds_more false true xs ys zs h g = subst (λ l. FindsDepths true l zs) h g
finds_more false false xs ys zs h g = g ∙ h

pub neither : (a b : Bool) → (a || b) ≡ false → (a ≡ false) × (b ≡ false)
neither true b e = cc
neither false b e = (refl, e)

pub spread_both : (At Bt : ℕ → Type 0) (d : ℕ) (ds ds' ds'' : List ℕ) (a b : Bool) → d < UNKNOWN → IsSpread At d ds ds' a → IsSpread Bt d ds' ds'' b →
    IsSpread (λ p. At p ⊎ Bt p) d ds ds'' (a || b)
spread_both At Bt d ds ds' ds'' a b lt h g = record {
  long = g.long ∙ h.long;
  finds = finds_more a b ds ds' ds'' h.finds g.finds;
  each = λ p.
      ⊎_elim
      (λ e. ⊎_elim (λ f. inl (e ∙ f)) (λ f. inr (inl f.0, f.1, e ∙ f.2)) (h.each p))
      (λ e. ⊎_elim (λ f. inr (inr e.0, sym f ∙ e.1, e.2)) (λ f. absurd (omega (arith, lt, f.2, e.1))) (h.each p))
      (g.each p);
  none = λ e p at.
      let both = neither a b e in
      ⊎_elim (λ x. h.none both.0 p x)
      (λ x known. g.none both.1 p x (ap (λ l. get_or l p 0) (same a both.0 h.finds) ∙ known)) at;
}
  where
    same : (r : Bool) → r ≡ false → FindsDepths r ds ds' → ds' ≡ ds
    same true e f = cc
    same false e f = f

module _ (c : PlainCode) (b : PlainBlock) (ds : List ℕ) (p : ℕ) (i : Instruction) (is : slice_get b.steps p ≡ Some i) (d : ℕ) (ds' : List ℕ) (r : Bool) (spread : IsSpread (IsSuccessor p i) d ds ds' r) where
  pub holds_spread : HoldsDepths c b ds → get_or ds p 0 ≢ UNKNOWN → d ≡ depth_after c (get_or ds p 0) i → HoldsDepths c b ds'
  holds_spread holds known behind = record {
    long = spread.long ∙ holds.long;
    some = omega (arith, spread.long, holds.some);
    start = ⊎_elim (λ e. e ∙ holds.start) (λ e. absurd (omega (arith, e.1, holds.start))) (spread.each 0);
    each = λ q lt new.
        let lt' : q < length ds = omega (arith, lt, spread.long) in
        ⊎_elim
        (λ e. subst (Comes c b q) (sym e) (holds.each q lt' (λ f. new (e ∙ f))))
        (λ e.
        let within : p < length ds = omega (arith, holds.long, slice_get_within b.steps p i is) in
        subst (Comes c b q) (sym (e.2 ∙ behind)) (next p (get_or ds p 0) i q (holds.each p within known) is e.0))
        (spread.each q);
  }

  pub followed_spread : r ≡ false → IsFollowed b ds' p
  followed_spread e i' q known is' n =
      let same : i' ≡ i = one i' (sym is' ∙ is) in
      λ f. spread.none e q (subst (λ x. IsSuccessor p x q) same n) (ap (λ l. get_or l q 0) (sym (kept r e spread.finds)) ∙ f)
    where
      one : (x : Instruction) → Some x ≡ Some i → x ≡ i
      one x h = cc

      kept : (r : Bool) → r ≡ false → FindsDepths r ds ds' → ds' ≡ ds
      kept true e f = cc
      kept false e f = f

pub more_followed : (b : PlainBlock) (found fresh : Bool) (ds ds' : List ℕ) (at : ℕ) → (found ≡ false → AreFollowed b ds at) → FindsDepths fresh ds ds' → (fresh ≡ false → IsFollowed b ds' at) → (found || fresh) ≡ false → AreFollowed b ds' (at + 1)
more_followed b found true ds ds' at old finds here e = let both = neither found true e in absurd (true_false both.1)
  where
    true_false : true ≡ false → ⊥
    true_false e = cc
more_followed b found false ds ds' at old finds here e = λ p lt.
    let both = neither found false e in
    ⊎_elim
    (λ less. subst (λ l. IsFollowed b l p) (sym finds) (old both.0 p less))
    (λ more. let same : p ≡ at = omega (arith, lt, more) in subst (IsFollowed b ds') (sym same) (here refl))
    (cases_lt p at)

-- ---- from the beginning

pub holds_first : (c : PlainCode) (b : PlainBlock) (ds : List ℕ) → length ds ≡ length b.steps → 0 < length b.steps → get_or ds 0 0 ≡ 0 → ((p : ℕ) → 0 < p → p < length b.steps → get_or ds p 0 ≡ UNKNOWN) → HoldsDepths c b ds
holds_first c b ds long some start others = record {
  long = long;
  some = omega (arith, long, some);
  start = start;
  each = λ p lt known. by p lt known;
}
  where
    by : (p : ℕ) → p < length ds → get_or ds p 0 ≢ UNKNOWN → Comes c b p (get_or ds p 0)
    by zero lt known = subst (Comes c b 0) (sym start) first
    by (suc p) lt known = absurd (known (others (suc p) (omega arith) (omega (arith, lt, long))))

pub fewer : (r : Bool) (ds ds' : List ℕ) → r ≡ true → FindsDepths r ds ds' → unknown_in ds' < unknown_in ds
fewer true ds ds' e h = h
fewer false ds ds' e h = cc

-- ---- addresses

past : (xs : List PlainBlock) (f : ℕ) → length xs ≤ f → get_or xs f no_block ≡ no_block
past [] f le = refl
past (x ∷ xs) zero le = absurd (omega arith)
past (x ∷ xs) (suc f) le = past xs f (omega arith)

pub all_short : (c : PlainCode) (t : ℕ) → AreShort c → length (block_of c t).steps < 2 ^ 32 → (g : Option ℕ) → length (block_for c t g).steps < 2 ^ 32
all_short c t short own None = own
all_short c t short own (Some f) =
    ⊎_elim (λ less. short f less)
    (λ ge. let e = ap (λ (b : PlainBlock). length b.steps) (past c.functions f ge) in omega (arith, e)) (cases_lt f (length c.functions))

pub named_within : (o : Option ℕ) (n : ℕ) → ((q : ℕ) → o ≡ Some q → q < n) → IfSome o (λ q. q < n)
named_within None n h = tt
named_within (Some q) n h = h q refl
