-- Running texts whose numbers fit 32 bits, and the threads in them.
use Rattle.std.proofs.Common.{ℕ, ◌==◌, Bool, true, false, cond, ℤ, List, [], ◌∷◌, FitsSigned, w32}
use Rattle.forec_kernel.specs.declared.shape.VarCopy.{VarCopy}
use Rattle.forec_kernel.specs.Terms.{Expr, Stmt, Stmts}
use Rattle.forec_kernel.specs.Texts.{Loop, After, Status, RunningText, Threads, text_of, texts_of, after_text, ended_are_gone, handed_down, put_copy}
use Rattle.forec_kernel.specs.Steps.{entered_abort, refilled}
use Rattle.value_ranges.specs.Words.{AreWords, fitting_words}
use Rattle.value_ranges.proofs.Words.{ExprWords, StmtWords, StmtsWords}
use Rattle.value_ranges.proofs.RunningTexts.{LoopHolds, AfterHolds, RunningHolds, ThreadsHold, text_holds, texts_hold, after_holds, gone_hold, chosen_holds, entered_holds, refilled_holds}
use Rattle.value_ranges.proofs.Values.{CopiesFit, copy_fits}

-- the numbers of a thread and its copies fit
abbrev OwnFits : List ℤ → List VarCopy → Status → Type 0
OwnFits w c st = AreWords w × CopiesFit c

abbrev pub LoopFits : Loop → Type 0
LoopFits = LoopHolds fitting_words

abbrev pub AfterFits : After → Type 0
AfterFits = AfterHolds fitting_words

abbrev pub TextFits : RunningText → Type 0
TextFits = RunningHolds fitting_words OwnFits

abbrev pub ThreadsFit : Threads → Type 0
ThreadsFit = ThreadsHold fitting_words OwnFits

pub text_fits : (s : Stmt) → StmtWords s → TextFits (text_of s)
text_fits = text_holds fitting_words OwnFits

pub texts_fit : (list : Stmts) → StmtsWords list → TextFits (texts_of list)
texts_fit = texts_hold fitting_words OwnFits

pub after_fits : (a : After) → AfterFits a → TextFits (after_text a)
after_fits = after_holds fitting_words OwnFits

pub gone_fit : (cs : Threads) → ThreadsFit cs → ThreadsFit (ended_are_gone cs)
gone_fit = gone_hold fitting_words OwnFits (λ w c st h. h)

pub chosen_fits : (b : Bool) (R S : RunningText) → TextFits R → TextFits S → TextFits (cond b R S)
chosen_fits = chosen_holds fitting_words OwnFits

pub entered_fits : (weak : Bool) (e : Expr) (body : Stmt) (n : ℤ) → ExprWords e → StmtWords body → TextFits (entered_abort weak e body n)
entered_fits = entered_holds fitting_words OwnFits

pub refilled_fits : (a : After) → AfterFits a → AfterFits (refilled a)
refilled_fits = refilled_holds fitting_words

-- ---- copies

pub handed_fits : (uses : List ℕ) (copies : List VarCopy) (vs : List ℕ) → CopiesFit copies → CopiesFit (handed_down uses copies vs)
handed_fits uses copies [] h = tt
handed_fits uses copies (v ∷ vs) h = (copy_fits uses copies v h, handed_fits uses copies vs h)

pub put_fits : (uses : List ℕ) (copies : List VarCopy) (v : ℕ) (new : VarCopy) → CopiesFit copies → FitsSigned w32 new.value →
    CopiesFit (put_copy uses copies v new)
put_fits [] copies v new h g = h
put_fits (u ∷ uses) [] v new h g = tt
put_fits (u ∷ uses) (c ∷ copies) v new h g = pick (u == v) (put_fits uses copies v new h.1 g)
  where
    pick : (b : Bool) → CopiesFit (put_copy uses copies v new) → CopiesFit (cond b (new ∷ copies) (c ∷ put_copy uses copies v new))
    pick true f = (g, h.1)
    pick false f = (h.0, f)
