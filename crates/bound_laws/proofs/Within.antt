-- What a running text costs, tick by tick, as a condition on its steps and wakes; and the contexts that keep it.
use Rattle.std.proofs.Common.{ℕ, zero, suc, ◌+◌, ◌≤◌, ◌≡◌, ℤ, List, length, arith}
use Rattle.forec_kernel.specs.declared.shape.VarCopy.{VarCopy}
use Rattle.forec_kernel.specs.Shapes.{PlainKernel}
use Rattle.forec_kernel.specs.Values.{Value, Gives, Raises}
use Rattle.forec_kernel.specs.Texts.{Loop, After, Go_on, Again, RunningText, Done, Then, Resting, after_text}
use Rattle.forec_kernel.specs.Steps.{Path, Move, Finished, Halts, Moves, Traps, more_move, move_with, move_before, text_move, Woken, Wakes, Stays, more_woken, woken_in, woken_with, refilled, woken}
use Rattle.bound_laws.proofs.ValueBounds.{cost}
use Rattle.bound_laws.proofs.Lengths.{Keeps, keeps_size, move_keeps}

abbrev pub OfText : Type 1
OfText = ℕ → RunningText → List ℤ → List VarCopy → Type 0

-- u of at most so many units are spent, and the text keeps to `Next` with what is left
pub record Leaves (Next : OfText) (most u : ℕ) (R : RunningText) (words : List ℤ) (copies : List VarCopy) : Type 0 where
  pub left : ℕ
  pub fits : u + left ≤ most
  pub goes : Next left R words copies

abbrev pub AfterWake : OfText → ℕ → List ℤ → List VarCopy → Woken → Type 0
AfterWake Next most words copies (Wakes R u) = Leaves Next most u R words copies
AfterWake Next most words copies (Stays place trap u) = u ≤ most

-- a halted text, whatever copies it wakes to
abbrev pub Rests : PlainKernel → List ℕ → OfText → ℕ → RunningText → List ℤ → Type 0
Rests k uses Next whole R words = (copies : List VarCopy) → AfterWake Next whole words copies (woken k uses words copies R)

abbrev pub AfterMove : OfText → Type 0 → ℕ → Move → Type 0
AfterMove Next Rest n Finished = Unit {0}
AfterMove Next Rest n Halts = Rest
AfterMove Next Rest n (Moves R words copies u) = Leaves Next n u R words copies
AfterMove Next Rest n (Traps place trap u) = u ≤ n

-- for m steps and wakes, along any paths: the text costs at most n more in this tick, and at most `whole` in each later one
abbrev pub Within : PlainKernel → List ℕ → ℕ → ℕ → OfText
Within k uses whole zero n R words copies = Unit {0}
Within k uses whole (suc m) n R words copies =
    (path : Path) → AfterMove (Within k uses whole m) (Rests k uses (Within k uses whole m) whole R words) n
    (text_move k path uses words copies R)

-- ---- more units, fewer steps

pub leaves_by : (N N' : OfText) (most most' u d : ℕ) (R R' : RunningText) (words : List ℤ) (copies : List VarCopy) → most + d ≤ most' →
    ((l : ℕ) → N l R words copies → N' (l + d) R' words copies) → Leaves N most u R words copies → Leaves N' most' u R' words copies
leaves_by N N' most most' u d R R' words copies fits go h =
    let within = h.fits in record { left = h.left + d; fits = omega arith; goes = go h.left h.goes }

pub wake_by : (N N' : OfText) (most most' d : ℕ) (f : RunningText → RunningText) (words : List ℤ) (copies : List VarCopy) (r : Woken) → most + d ≤ most' →
    ((l : ℕ) (R : RunningText) → N l R words copies → N' (l + d) (f R) words copies) → AfterWake N most words copies r →
    AfterWake N' most' words copies (woken_in f r)
wake_by N N' most most' d f words copies (Wakes R u) fits go h = leaves_by N N' most most' u d R (f R) words copies fits (λ l x. go l R x) h
wake_by N N' most most' d f words copies (Stays place trap u) fits go h = omega arith

wake_more : (N N' : OfText) (most most' : ℕ) (words : List ℤ) (copies : List VarCopy) (r : Woken) → most ≤ most' →
    ((l : ℕ) (R : RunningText) → N l R words copies → N' (l + 0) R words copies) → AfterWake N most words copies r →
    AfterWake N' most' words copies r
wake_more N N' most most' words copies (Wakes R u) fits go h =
    leaves_by N N' most most' u 0 R R words copies (omega arith) (λ l x. go l R x) h
wake_more N N' most most' words copies (Stays place trap u) fits go h = omega arith

-- from one condition to another that follows from it
module _ (k : PlainKernel) (uses : List ℕ) (N N' : OfText) (whole whole' : ℕ) (wholes : whole ≤ whole')
    (go : (l : ℕ) (R : RunningText) (words : List ℤ) (copies : List VarCopy) → N l R words copies → N' (l + 0) R words copies)
  where
    pub rests_more : (R : RunningText) (words : List ℤ) → Rests k uses N whole R words → Rests k uses N' whole' R words
    rests_more R words h =
        λ c. wake_more N N' whole whole' words c (woken k uses words c R) wholes (λ l R'. go l R' words c) (h c)

    move_more : (n n' : ℕ) (R : RunningText) (words : List ℤ) (m : Move) → n ≤ n' → AfterMove N (Rests k uses N whole R words) n m →
        AfterMove N' (Rests k uses N' whole' R words) n' m
    move_more n n' R words Finished fits h = tt
    move_more n n' R words Halts fits h = rests_more R words h
    move_more n n' R words (Moves R' words' copies' u) fits h =
        leaves_by N N' n n' u 0 R' R' words' copies' (omega arith) (λ l x. go l R' words' copies' x) h
    move_more n n' R words (Traps place trap u) fits h = omega arith

module _ (k : PlainKernel) (uses : List ℕ) where
  pub within_more : (whole whole' : ℕ) → whole ≤ whole' → (m n n' : ℕ) (R : RunningText) (words : List ℤ) (copies : List VarCopy) → n ≤ n' →
      Within k uses whole m n R words copies → Within k uses whole' m n' R words copies
  within_more whole whole' wholes zero n n' R words copies fits h = tt
  within_more whole whole' wholes (suc m) n n' R words copies fits h =
      λ path. move_more k uses (Within k uses whole m) (Within k uses whole' m) whole whole' wholes
      (λ l R' w c x. within_more whole whole' wholes m l (l + 0) R' w c (omega arith) x) n n' R words
      (text_move k path uses words copies R) fits (h path)

  pub within_fewer : (whole m n : ℕ) (R : RunningText) (words : List ℤ) (copies : List VarCopy) → Within k uses whole (suc m) n R words copies →
      Within k uses whole m n R words copies
  within_fewer whole zero n R words copies h = tt
  within_fewer whole (suc m) n R words copies h =
      λ path. move_more k uses (Within k uses whole (suc m)) (Within k uses whole m) whole whole (omega arith)
      (λ l R' w c x. within_more whole whole (omega arith) m l (l + 0) R' w c (omega arith) (within_fewer whole m l R' w c x)) n n R words
      (text_move k path uses words copies R) (omega arith) (h path)

  pub done_within : (whole m n : ℕ) (words : List ℤ) (copies : List VarCopy) → Within k uses whole m n Done words copies
  done_within whole zero n words copies = tt
  done_within whole (suc m) n words copies = λ path. tt

  pub resting_within : (whole m n : ℕ) (words : List ℤ) (copies : List VarCopy) → Within k uses whole m n Resting words copies
  resting_within whole zero n words copies = tt
  resting_within whole (suc m) n words copies =
      λ path. λ c. record { left = 0; fits = omega arith; goes = done_within whole m 0 words c }

-- ---- after a number

pub more_within : (N : OfText) (Rest : Type 0) (u a n : ℕ) (m : Move) → AfterMove N Rest a m → u + a ≤ n → AfterMove N Rest n (more_move u m)
more_within N Rest u a n Finished h fits = tt
more_within N Rest u a n Halts h fits = h
more_within N Rest u a n (Moves R words copies v) h fits =
    let within = h.fits in record { left = h.left; fits = omega arith; goes = h.goes }
more_within N Rest u a n (Traps place trap v) h fits = omega arith

pub with_within : (N : OfText) (Rest : Type 0) (v : Value) (go : ℤ → Move) (a b n : ℕ) → cost v ≤ a → ((x : ℤ) → AfterMove N Rest b (go x)) →
    a + b ≤ n → AfterMove N Rest n (move_with v go)
with_within N Rest (Gives x u) go a b n h g fits = more_within N Rest u b n (go x) (g x) (omega arith)
with_within N Rest (Raises place trap u) go a b n h g fits = omega arith

pub more_wake : (N : OfText) (u a n : ℕ) (words : List ℤ) (copies : List VarCopy) (r : Woken) → AfterWake N a words copies r → u + a ≤ n →
    AfterWake N n words copies (more_woken u r)
more_wake N u a n words copies (Wakes R v) h fits = let within = h.fits in record { left = h.left; fits = omega arith; goes = h.goes }
more_wake N u a n words copies (Stays place trap v) h fits = omega arith

pub with_wake : (N : OfText) (v : Value) (go : ℤ → Woken) (a b n : ℕ) (words : List ℤ) (copies : List VarCopy) → cost v ≤ a →
    ((x : ℤ) → AfterWake N b words copies (go x)) → a + b ≤ n → AfterWake N n words copies (woken_with v go)
with_wake N (Gives x u) go a b n words copies h g fits = more_wake N u b n words copies (go x) (g x) (omega arith)
with_wake N (Raises place trap u) go a b n words copies h g fits = omega arith

-- ---- what follows a text: d units now, d' after a wake, for a thread of so many words

module _ (k : PlainKernel) (uses : List ℕ) (size whole whole' : ℕ) where
  then_move : (m d d' n : ℕ) (a : After) (R : RunningText) (words : List ℤ) (copies : List VarCopy) → whole + d' ≤ whole' → length words ≡ size →
      Within k uses whole' m d (after_text a) words copies →
      ((l : ℕ) (S : RunningText) (w : List ℤ) (c : List VarCopy) → length w ≡ size → Within k uses whole m l S w c →
      Within k uses whole' m (l + d) (Then S a) w c) →
      ((l : ℕ) (S : RunningText) (w : List ℤ) (c : List VarCopy) → length w ≡ size → Within k uses whole m l S w c →
      Within k uses whole' m (l + d') (Then S (refilled a)) w c) →
      (mv : Move) → Keeps size mv → AfterMove (Within k uses whole m) (Rests k uses (Within k uses whole m) whole R words) n mv →
      AfterMove (Within k uses whole' m) (Rests k uses (Within k uses whole' m) whole' (Then R a) words) (n + d) (move_before a words copies mv)
  then_move m d d' n a R words copies wholes e next ih ih' Finished keeps h = record { left = d; fits = omega arith; goes = next }
  then_move m d d' n a R words copies wholes e next ih ih' Halts keeps h =
      λ c. wake_by (Within k uses whole m) (Within k uses whole' m) whole whole' d' (λ S. Then S (refilled a)) words c (woken k uses words c R) wholes
      (λ l S x. ih' l S words c e x) (h c)
  then_move m d d' n a R words copies wholes e next ih ih' (Moves S w c u) keeps h =
      leaves_by (Within k uses whole m) (Within k uses whole' m) n (n + d) u d S (Then S a) w c (omega arith) (λ l x. ih l S w c keeps x) h
  then_move m d d' n a R words copies wholes e next ih ih' (Traps place trap u) keeps h = omega arith

  abbrev pub Follows : ℕ → ℕ → After → Type 0
  Follows m d a = (w : List ℤ) (c : List VarCopy) → length w ≡ size → Within k uses whole' m d (after_text a) w c

  pub follows_fewer : (m d : ℕ) (a : After) → Follows (suc m) d a → Follows m d a
  follows_fewer m d a h = λ w c e. within_fewer k uses whole' m d (after_text a) w c (h w c e)

  pub then_within : (d' : ℕ) → whole + d' ≤ whole' → (m d : ℕ) (a : After) → Follows m d a → Follows m d' (refilled a) →
      (n : ℕ) (R : RunningText) (words : List ℤ) (copies : List VarCopy) → length words ≡ size → Within k uses whole m n R words copies →
      Within k uses whole' m (n + d) (Then R a) words copies
  then_within d' wholes zero d a next next' n R words copies e h = tt
  then_within d' wholes (suc m) d (Go_on list) next next' n R words copies e h =
      let f = follows_fewer m d (Go_on list) next in
      let f' = follows_fewer m d' (Go_on list) next' in
      λ path. then_move m d d' n (Go_on list) R words copies wholes e (f words copies e)
      (λ l S w c s x. then_within d' wholes m d (Go_on list) f f' l S w c s x)
      (λ l S w c s x. then_within d' wholes m d' (Go_on list) f' f' l S w c s x)
      (text_move k path uses words copies R)
      (keeps_size (length words) size e (text_move k path uses words copies R) (move_keeps k path uses words copies R)) (h path)
  then_within d' wholes (suc m) d (Again loop) next next' n R words copies e h =
      let again : Loop = record loop { left = loop.bound } in
      let f = follows_fewer m d (Again loop) next in
      let f' = follows_fewer m d' (Again again) next' in
      λ path. then_move m d d' n (Again loop) R words copies wholes e (f words copies e)
      (λ l S w c s x. then_within d' wholes m d (Again loop) f f' l S w c s x)
      (λ l S w c s x. then_within d' wholes m d' (Again again) f' f' l S w c s x)
      (text_move k path uses words copies R)
      (keeps_size (length words) size e (text_move k path uses words copies R) (move_keeps k path uses words copies R)) (h path)
