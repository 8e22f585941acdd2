-- A tick more of a program that runs.
use Rattle.std.proofs.Common.{◌≡◌, ℕ, ℤ, List, [], ◌∷◌, ◌++◌, sym, ap, subst, ◌∙◌}
use Rattle.forec_kernel.specs.declared.shape.Outcome.{Outcome}
use Rattle.forec_kernel.specs.Composed.{TickInput, next_state, state_after}
use Rattle.forec_kernel.specs.Shapes.{PlainKernel}
use Rattle.forec_kernel.specs.Ticks.{TickState, Fresh, tick}
use Rattle.forec_kernel.specs.WellFormed.{WellFormed}
use Rattle.forec_kernel.proofs.KeptCopies.{state_then}
use Rattle.thread_code.specs.Alone.{Stands}
use Rattle.thread_code.specs.Plain.{PlainCode}
use Rattle.trace_ticks.specs.Following.{CodeFollows}
use Rattle.trace_ticks.specs.Ticking.{tick_after, RunsOnce, Starts}
use Rattle.tick_jobs.specs.Outcomes.{HasOutputs}
use Rattle.tick_jobs.specs.Ticks.{Ticking, HasRun, RunsTick}

-- a state that the ticks so far have led to
module _ (k : PlainKernel) (turns : List TickInput) (turn : TickInput) (s : TickState) (led : s ≡ state_after k Fresh turns) where
  pub outcome_at : (o : Outcome) → o ≡ (tick_after k turns turn).outcome → o ≡ (tick k turn.budget s turn.row).outcome
  outcome_at o h = h ∙ ap (λ (x : TickState). (tick k turn.budget x turn.row).outcome) (sym led)

  pub outputs_at : (values : List ℤ) → values ≡ (tick_after k turns turn).outputs → values ≡ (tick k turn.budget s turn.row).outputs
  outputs_at values h = h ∙ ap (λ (x : TickState). (tick k turn.budget x turn.row).outputs) (sym led)

  pub led_on : (tick k turn.budget s turn.row).state ≡ state_after k Fresh (turns ++ turn ∷ [])
  led_on = ap (λ (x : TickState). next_state k x turn) led ∙ sym (state_then k turns turn Fresh)

-- a code is followed from its start
pub code_starts : (c now : PlainCode) (Ran : List TickInput → Type 0) (k : PlainKernel) → now ≡ c → WellFormed k → Stands c k → Ran [] → Starts now.shape (CodeFollows now Ran) k
code_starts c now Ran k is formed stands none = record {
  shaped = sym stands.shape ∙ ap (λ (p : PlainCode). p.shape) (sym is);
  fresh = record { formed = formed; stands = subst (λ (p : PlainCode). Stands p k) (sym is) stands; ran = none };
}

-- a kernel that is rewritten: where it stood, and where it stands after a tick
pub rewritten_once : (k now : PlainKernel) → now ≡ k → (s s' : TickState) (turn : TickInput) (values : List ℤ) (o : Outcome) → o ≡ (tick k turn.budget s turn.row).outcome →
    (HasOutputs o → values ≡ (tick k turn.budget s turn.row).outputs) → s' ≡ (tick k turn.budget s turn.row).state →
    RunsOnce (λ m turns. (m ≡ k) × (s ≡ state_after m Fresh turns)) (λ m turns. (m ≡ now) × (s' ≡ state_after m Fresh turns)) turn values o
rewritten_once k now same s s' turn values o how outputs state = record {
  outcome = λ m turns f. how ∙ ap (λ (x : PlainKernel). (tick x turn.budget s turn.row).outcome) (sym f.0) ∙ ap (λ (x : TickState). (tick m turn.budget x turn.row).outcome) f.1;
  outputs = λ m turns f has. outputs has ∙ ap (λ (x : PlainKernel). (tick x turn.budget s turn.row).outputs) (sym f.0) ∙ ap (λ (x : TickState). (tick m turn.budget x turn.row).outputs) f.1;
  follows = λ m turns f. (f.0 ∙ sym same, state ∙ ap (λ (x : PlainKernel). (tick x turn.budget s turn.row).state) (sym f.0) ∙ led_on m turns turn s f.1);
}

-- a code is followed by one tick more
pub code_ticks : (a b : Ticking) (row : List ℤ) (budget : ℕ) (o : Outcome) (before after : List ℤ) → RunsTick a b row budget o before after →
    RunsOnce (CodeFollows a.code (λ turns. HasRun a turns)) (CodeFollows b.code (λ turns. HasRun b turns)) (record { row = row; budget = budget }) after o
code_ticks a b row budget o before after runs = record {
  outcome = λ k turns f. runs.outcome k turns f.formed f.stands f.ran;
  outputs = λ k turns f has. runs.outputs k turns f.formed f.stands f.ran has;
  follows = λ k turns f. record {
    formed = f.formed;
    stands = subst (λ (p : PlainCode). Stands p k) (sym runs.code) f.stands;
    ran = runs.turns turns f.ran;
  };
}
