-- Whether a pair of a branch is left.
use Rattle.std.proofs.Common.{◌≡◌, ℕ, ◌+◌, ◌<◌, ◌≤◌, Bool, true, false, List, [], ◌∷◌, ◌++◌, length, refl, sym, ap, ◌∙◌, subst, arith}
use Rattle.std.specs.Prelude.{Option, Some, None, slice_get, slice_index_or}
use mathlib.Core.Bool.{true≢false}
use Rattle.std.proofs.lemmas.Option.{slice_get_within, slice_get-get_or}
use Rattle.forec_kernel.specs.Shapes.{PlainShape}
use Rattle.forec_kernel.specs.Engine.{Answered}
use Rattle.tick_jobs.proofs.Lists.{some_once, by_equal}
use Rattle.exchange_meaning.specs.Logged.{Logged, ExchangeLog, told_to}
use Rattle.exchange_meaning.specs.Telling.{IsAll}
use Rattle.log_text.specs.declared.log.Log.{Log}
use Rattle.exchange_replay.specs.declared.track.Track.{Track}
use Rattle.exchange_replay.specs.Tracks.{IsBeforePairs, HasPassed, HavePassed, SaysUsed}

-- the first n tracks stand at their ends
abbrev pub UsedUpTo : List (Option Track) → ℕ → Type 0
UsedUpTo tracks n =
    (s : PlainShape) (l : Log) (log : ExchangeLog) (b : ℕ) (x : Track) (passed : List Logged) → b < n → slice_get tracks b ≡ Some (Some x) → HasPassed s l log b x passed → passed ≡ log b

append_none : (ls : List Logged) → ls ++ [] ≡ ls
append_none [] = refl
append_none (x ∷ ls) = ap (λ z. x ∷ z) (append_none ls)

none_left : (A B : List Logged) → A ≡ A ++ B → B ≡ []
none_left [] B e = sym e
none_left (a ∷ A) B e = none_left A B (tail a A (A ++ B) e)
  where
    tail : (a : Logged) (l m : List Logged) → a ∷ l ≡ a ∷ m → l ≡ m
    tail a l m e = cc

pub used_none : (tracks : List (Option Track)) → UsedUpTo tracks 0
used_none tracks s l log b x passed lt at h = absurd (omega (arith, lt))

pub used_more : (tracks : List (Option Track)) (n : ℕ) (x : Option Track) → slice_get tracks n ≡ Some x → ((y : Track) → x ≡ Some y → SaysUsed y true) → UsedUpTo tracks n → UsedUpTo tracks (n + 1)
used_more tracks n x there says h s l log b y passed lt at p =
    by_equal b n (λ other. h s l log b y passed (omega (arith, lt, other)) at p)
    (λ e.
    let is : x ≡ Some y = some_once x (Some y) (sym there ∙ ap (slice_get tracks) (sym e) ∙ at) in
    let none = (says y is s b l p.left p.before).0 refl in
    sym (p.is ∙ ap (λ ls. passed ++ ls) none ∙ append_none passed))

pub used_all : (tracks : List (Option Track)) (n : ℕ) → length tracks ≤ n → UsedUpTo tracks n → (s : PlainShape) (l : Log) (log : ExchangeLog) (t : ℕ) (told : List Answered) → HavePassed s l log t tracks told → IsAll s log t told
used_all tracks n le h s l log t told p b is =
    let x = p.each b is in
    let lt = slice_get_within tracks b (Some x.track) x.at in
    h s l log b x.track (told_to b told) (omega (arith, lt, le)) x.at x.has

pub not_all : (tracks : List (Option Track)) (n : ℕ) (x : Track) → slice_get tracks n ≡ Some (Some x) → SaysUsed x false → (s : PlainShape) (l : Log) (log : ExchangeLog) (t : ℕ) (told : List Answered) → HavePassed s l log t tracks told → IsAll s log t told → ⊥
not_all tracks n x there says s l log t told p all =
    let is = p.are.only n x there in
    let own = p.each n is in
    let same : own.track ≡ x = some_once own.track x (some_once (Some own.track) (Some x) (sym own.at ∙ there)) in
    let none = none_left (told_to n told) own.has.left (all n is ∙ own.has.is) in
    true≢false (sym ((says s n l own.has.left (subst (λ y. IsBeforePairs s n l y own.has.left) same own.has.before)).1 none))

pub item_at : (tracks items : List (Option Track)) → items ≡ tracks → (n : ℕ) (x : Option Track) → n < length items → x ≡ slice_index_or items n x → slice_get tracks n ≡ Some x
item_at tracks items same n x lt e = ap (λ ls. slice_get ls n) (sym same) ∙ slice_get-get_or items n x lt ∙ ap Some (sym e)

pub not_used : (tracks : List (Option Track)) (n : ℕ) (x : Option Track) → slice_get tracks n ≡ Some x → (used : Bool) → used ≡ false → (x ≡ None → used ≡ true) → ((y : Track) → x ≡ Some y → SaysUsed y used) →
    (s : PlainShape) (l : Log) (log : ExchangeLog) (t : ℕ) (told : List Answered) → HavePassed s l log t tracks told → IsAll s log t told → ⊥
not_used tracks n None there used no_used none some s l log t told p all = true≢false (sym (none refl) ∙ no_used)
not_used tracks n (Some y) there used no_used none some s l log t told p all = not_all tracks n y there (subst (SaysUsed y) no_used (some y refl)) s l log t told p all
