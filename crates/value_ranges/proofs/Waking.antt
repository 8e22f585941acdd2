-- Waking keeps to 32 bits.
use Rattle.std.proofs.Common.{ℕ, ℤ, Bool, true, false, cond, List}
use Rattle.forec_base.specs.Numbers.{is_zero}
use Rattle.forec_kernel.specs.declared.shape.VarCopy.{VarCopy}
use Rattle.forec_kernel.specs.Terms.{Expr}
use Rattle.forec_kernel.specs.Shapes.{PlainKernel}
use Rattle.forec_kernel.specs.Values.{Value, Gives, Raises}
use Rattle.forec_kernel.specs.Texts.{Running, Paused, Ended, Gone, Trapped, RunningText, Done, Run, Then, Turning, Resting, Fork, Held, Watch, Last, Threads, no_threads, child, uses_of, handed_down}
use Rattle.forec_kernel.specs.Steps.{evaluated, Woken, Wakes, Stays, more_woken, woken_in, woken_with, refilled, watched_on, text_if, woken, woken_children}
use Rattle.value_ranges.proofs.Words.{ExprWords}
use Rattle.value_ranges.proofs.Values.{CopiesFit}
use Rattle.value_ranges.proofs.Texts.{TextFits, ThreadsFit, handed_fits, refilled_fits}

abbrev pub WokenFits : Woken → Type 0
WokenFits (Wakes R u) = TextFits R
WokenFits (Stays place trap u) = Unit {0}

more_woken_fits : (u : ℕ) (r : Woken) → WokenFits r → WokenFits (more_woken u r)
more_woken_fits u (Wakes R v) h = h
more_woken_fits u (Stays place trap v) h = tt

woken_in_fits : (f : RunningText → RunningText) (r : Woken) → ((R : RunningText) → TextFits R → TextFits (f R)) → WokenFits r → WokenFits (woken_in f r)
woken_in_fits f (Wakes R u) g h = g R h
woken_in_fits f (Stays place trap u) g h = tt

woken_with_fits : (v : Value) (go : ℤ → Woken) → ((n : ℤ) → WokenFits (go n)) → WokenFits (woken_with v go)
woken_with_fits (Gives n u) go h = more_woken_fits u (go n) (h n)
woken_with_fits (Raises place trap u) go h = tt

either_woken : (b : Bool) (r s : Woken) → WokenFits r → WokenFits s → WokenFits (cond b r s)
either_woken true r s h g = h
either_woken false r s h g = g

watched_on_fits : (weak : Bool) (e : Expr) (n : ℤ) (r : Woken) → ExprWords e → WokenFits r → WokenFits (watched_on weak e n r)
watched_on_fits false e n r h g =
    either_woken (is_zero n) (woken_in (Watch false e) r) (Wakes Done 0) (woken_in_fits (Watch false e) r (λ R f. (h, f)) g) tt
watched_on_fits true e n r h g =
    either_woken (is_zero n) (woken_in (Watch true e) r) (woken_in Last r) (woken_in_fits (Watch true e) r (λ R f. (h, f)) g)
    (woken_in_fits Last r (λ R f. f) g)

-- what a text becomes, or stays
pub text_if_fits : (R : RunningText) (r : Woken) → TextFits R → WokenFits r → TextFits (text_if R r)
text_if_fits R (Wakes R' u) h g = g
text_if_fits R (Stays place trap u) h g = h

module _ (k : PlainKernel) where
  mutual
    pub woken_fits : (uses : List ℕ) (words : List ℤ) (copies : List VarCopy) (R : RunningText) → CopiesFit copies → TextFits R →
        WokenFits (woken k uses words copies R)
    woken_fits uses words copies Done c h = tt
    woken_fits uses words copies (Run s) c h = h
    woken_fits uses words copies (Then R a) c h =
        woken_in_fits (λ R'. Then R' (refilled a)) (woken k uses words copies R) (λ R' f. (f, refilled_fits a h.1))
        (woken_fits uses words copies R c h.0)
    woken_fits uses words copies (Turning loop) c h = h
    woken_fits uses words copies Resting c h = tt
    woken_fits uses words copies (Fork cs) c h = h
    woken_fits uses words copies (Held cs) c h = all_woken uses copies cs c h
    woken_fits uses words copies (Watch weak e R) c h =
        let r = woken k uses words copies R in
        let g = woken_fits uses words copies R c h.1 in
        woken_with_fits (evaluated (record { kernel = k; uses = uses }) words copies e) (λ n. more_woken 1 (watched_on weak e n r))
        (λ n. more_woken_fits 1 (watched_on weak e n r) (watched_on_fits weak e n r h.0 g))
    woken_fits uses words copies (Last R) c h = h

    all_woken : (uses : List ℕ) (copies : List VarCopy) (cs : Threads) → CopiesFit copies → ThreadsFit cs →
        ThreadsFit (woken_children k uses copies cs).children
    all_woken uses copies no_threads c h = tt
    all_woken uses copies (child t R w own Gone rest) c h = (h.0, h.1, all_woken uses copies rest c h.2)
    all_woken uses copies (child t R w own Running rest) c h =
        let down = handed_down uses copies (uses_of k t) in
        let g = handed_fits uses copies (uses_of k t) c in
        (text_if_fits R (woken k (uses_of k t) w down R) h.0 (woken_fits (uses_of k t) w down R g h.0), (h.1.0, g), all_woken uses copies rest c h.2)
    all_woken uses copies (child t R w own Paused rest) c h =
        let down = handed_down uses copies (uses_of k t) in
        let g = handed_fits uses copies (uses_of k t) c in
        (text_if_fits R (woken k (uses_of k t) w down R) h.0 (woken_fits (uses_of k t) w down R g h.0), (h.1.0, g), all_woken uses copies rest c h.2)
    all_woken uses copies (child t R w own Ended rest) c h =
        let down = handed_down uses copies (uses_of k t) in
        let g = handed_fits uses copies (uses_of k t) c in
        (text_if_fits R (woken k (uses_of k t) w down R) h.0 (woken_fits (uses_of k t) w down R g h.0), (h.1.0, g), all_woken uses copies rest c h.2)
    all_woken uses copies (child t R w own (Trapped place trap) rest) c h =
        let down = handed_down uses copies (uses_of k t) in
        let g = handed_fits uses copies (uses_of k t) c in
        (text_if_fits R (woken k (uses_of k t) w down R) h.0 (woken_fits (uses_of k t) w down R g h.0), (h.1.0, g), all_woken uses copies rest c h.2)
