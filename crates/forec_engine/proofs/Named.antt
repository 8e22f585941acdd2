-- What is done with the program of a name.
use Rattle.std.proofs.Common.{◌≡◌, inl, inr, ℕ, Bool, List, Option, Some, Result, Ok, Err, IfOk, IfErr, subst}
use Rattle.std.specs.Option.{IfSome}
use Rattle.forec_kernel.specs.Shapes.{PlainKernel, plain_kernel}
use Rattle.command_words.specs.Requests.{PlainCommand}
use Rattle.forec_engine.specs.Answers.{AnswersAccepted, AnswersNamed}
use Rattle.forec_engine.specs.Commands.{Of_refusal, Of_accepted, TextReport, IsRefusal, IsProgram}
use Rattle.forec_engine.specs.Folds.{kernel_for}
use Rattle.text_verdict.specs.Judging.{Judged, Accepts}
use Rattle.text_verdict.specs.declared.counts.Counts.{Counts}
use Rattle.text_verdict.specs.declared.judging.Accepted.{Accepted}
use Rattle.trace_ticks.specs.Prints.{Prints}
use Rattle.trace_ticks.specs.Report.{Report}
use Rattle.trace_ticks.specs.declared.status.Status.{Status}
use Rattle.trace_ticks.proofs.Told.{some_map}
use Rattle.trace_ticks.proofs.Printing.{prints_as, told_is}

module _ (text : Option (List ℕ)) (counts : Counts) (k : PlainKernel) (program : IsProgram text counts k) where
  -- a text that is told has this program
  pub told_program : (x : List ℕ) → text ≡ Some x → Judged x (Accepts counts k)
  told_program x e = told_is text (λ x. Judged x (Accepts counts k)) x program e

  -- and so what each text with this program has
  pub of_program : (Q : List ℕ → Type 0) → ((x : List ℕ) → Judged x (Accepts counts k) → Q x) → IfSome text Q
  of_program Q f = some_map text (λ x. Judged x (Accepts counts k)) Q program f

-- the program of the bytes that were read, and why they are refused, are those of the text that is told
module _ (text : Option (List ℕ)) (bytes : List ℕ) (are : IfSome text (λ x. bytes ≡ x)) where
  pub read_program : (r : Result Accepted Status) → IfOk r (λ a. Judged bytes (Accepts a.counts (plain_kernel a.kernel))) → IfOk r (λ a. IsProgram text a.counts (plain_kernel a.kernel))
  read_program (Ok a) judged = some_map text (λ x. bytes ≡ x) _ are (λ x e. subst (λ (t : List ℕ). Judged t (Accepts a.counts (plain_kernel a.kernel))) e judged)
  read_program (Err end) judged = tt

  pub read_refusal : {K : Type 0} (held : K → Option (List ℕ)) (lost : K → ℕ) (is_down : K → Bool) (out out' : K) (Gone : Type 0) (r : Result Accepted Status) →
      IfErr r (λ end. Prints held lost is_down Unit (IsRefusal bytes) ⊥ ⊥ ⊥ out out' end) →
      IfErr r (λ end. Prints held lost is_down ((x : List ℕ) × (text ≡ Some x)) (λ q. (x : List ℕ) × (text ≡ Some x) × IsRefusal x q) ⊥ Gone ⊥ out out' end)
  read_refusal held lost is_down out out' Gone (Ok a) p = tt
  read_refusal held lost is_down out out' Gone (Err end) p =
      prints_as held lost is_down _ _ _ _ _ out out' _ _ _ _ _ end (λ t. tt) (λ t q is. (t.0, t.1, subst (λ (x : List ℕ). IsRefusal x q) (told_is text (λ x. bytes ≡ x) t.0 are t.1) is)) (λ n. n) (λ n. absurd n) (λ n. n) p

-- where there is no program, what was printed is a report of its text
pub no_program : {K : Type 0} (held : K → Option (List ℕ)) (lost : K → ℕ) (is_down : K → Bool) (out out' : K) (text : Option (List ℕ)) (Gone Told : Type 0) (Says : Counts → PlainKernel → Report → Type 0)
    (Misused Unread Parted : Type 0) (end : Status) → (Told → (x : List ℕ) × (text ≡ Some x)) → (Gone → Unread) →
    Prints held lost is_down ((x : List ℕ) × (text ≡ Some x)) (λ r. (x : List ℕ) × (text ≡ Some x) × IsRefusal x r) ⊥ Gone ⊥ out out' end →
    Prints held lost is_down Told (λ r. (x : List ℕ) × (text ≡ Some x) × TextReport x Says r) Misused Unread Parted out out' end
no_program held lost is_down out out' text Gone Told Says Misused Unread Parted end told gone p =
    prints_as held lost is_down _ _ _ _ _ out out' _ _ _ _ _ end told (λ t r is. (is.0, is.1, Of_refusal is.2.0 is.2.1 is.2.2)) (λ n. absurd n) gone (λ n. absurd n) p

module _ {S K : Type 0} (left : S → Option (List ℕ)) (faults : S → ℕ) (down : S → Bool) (held : K → Option (List ℕ)) (lost : K → ℕ) (is_down : K → Bool) (command : PlainCommand) (fold : Bool) (old new : S) (out out' : K)
    (content : List ℕ → Option (List ℕ)) (name : List ℕ) (Lost : Type 0) (counts : Counts) (k : PlainKernel) where
  pub named_accepted : (end : Status) → IsProgram (content name) counts k → AnswersAccepted left faults down held lost is_down command counts (kernel_for fold k) old new out out' end →
      AnswersNamed left faults down held lost is_down command fold content name Lost old new out out' end
  named_accepted end program p = record {
    prints = prints_as held lost is_down _ _ _ _ _ out out' _ _ _ _ _ end (λ t. t.2) (λ t r is. (t.0, t.1, Of_accepted counts k (told_program (content name) counts k program t.0 t.1) is))
        (λ m. of_program (content name) counts k program _ (λ x j. (counts, k, j, m)))
        (λ u. inr (u.0, u.1, (u.2.0, of_program (content name) counts k program _ (λ x j. (k, u.2.2, record { counts = counts; judged = j; bounded = u.2.3; placed = u.2.1 }, u.2.4))))) (λ m. m) p.prints;
    trace = elim p.trace [
      | inl same ↦ inl same
      | inr r ↦ inr (r.0, r.1, of_program (content name) counts k program _ (λ x j. (k, r.2.1, record { counts = counts; judged = j; bounded = r.2.2; placed = r.2.0 }, r.2.3)))
    ];
  }
