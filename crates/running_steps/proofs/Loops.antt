-- A step of a loop in progress, and other steps after a test.
use Rattle.std.proofs.Common.{◌≡◌, ◌≢◌, ◌∙◌, ℕ, zero, suc, ◌-◌, ◌≤◌, ℤ, pos, Bool, true, false, cond, Option, Some, None, Result, Ok, Err, List, refl, ap, sym, arith}
use Rattle.forec_base.specs.Numbers.{is_zero}
use Rattle.forec_base.specs.declared.Trap.TheVariants.{Turns}
use Rattle.forec_kernel.specs.Terms.{Expr, Stmt, If}
use Rattle.forec_kernel.specs.Shapes.{PlainKernel}
use Rattle.forec_kernel.specs.Values.{Value}
use Rattle.forec_kernel.specs.Texts as plain
use Rattle.forec_kernel.specs.Texts.{Loop, Again, Then, Watch, Last, text_of}
use Rattle.forec_kernel.specs.Steps.{Move, Moves, move_with, Owner, evaluated, turned_loop, entered_abort, loop_move, statement_move, move_units}
use Rattle.running_texts.specs.declared.meter.Halt.{Halt}
use Rattle.running_texts.specs.declared.meter.Halt.TheVariants.{Trapped}
use Rattle.running_texts.proofs.MeteredLemmas.{is_zero_of, not_zero_of}
use Rattle.running_texts.proofs.Tests.{AfterTest}
use Rattle.forec_kernel.specs.Plain.{stmt}
use Rattle.running_threads.specs.declared.threads.Turn.{Turn}
use Rattle.running_threads.specs.Views.{plain_loop}
use Rattle.running_threads.specs.declared.frames.NextText.{NextText}
use Rattle.running_threads.specs.Moves.{next_text}
use Rattle.running_steps.specs.declared.moving.Step.TheVariants as step
use Rattle.running_steps.specs.Moving.{Origin, IsMoved}
use Rattle.running_steps.proofs.Stepping.{step_tested, step_trapped, step_failed}

module _ (k : PlainKernel) (s : Origin) (loop : Loop) (old mid : ℕ) where
  abbrev o : Owner
  o = record { kernel = k; uses = s.uses }

  abbrev loop_rest : ℤ → Move
  loop_rest n = elim (is_zero n) [ true ↦ Moves plain.Done s.words s.copies 1 | false ↦ turned_loop loop loop.left s.words s.copies ]

  pub loop_ends : (n : ℤ) (next : NextText) → AfterTest old mid (Ok n) (evaluated o s.words s.copies loop.test) → n ≡ pos 0 →
      next_text next ≡ plain.Done → IsMoved s old mid (Ok (step.Becomes next)) (loop_move o s.words s.copies loop)
  loop_ends n next t e same =
      let go : loop_rest n ≡ Moves plain.Done s.words s.copies 1 = rw (is_zero_of n e, loop_rest) in
      step_tested s old mid n (evaluated o s.words s.copies loop.test) loop_rest next t (go ∙ ap (λ R. Moves R s.words s.copies 1) (sym same))

  loop_goes : (n : ℤ) (left : Option ℕ) → n ≢ pos 0 → loop.left ≡ left → loop_rest n ≡ turned_loop loop left s.words s.copies
  loop_goes n left h e =
      let go : loop_rest n ≡ turned_loop loop loop.left s.words s.copies = rw (not_zero_of n h, loop_rest) in
      go ∙ ap (λ l. turned_loop loop l s.words s.copies) e

  pub loop_unbounded : (n : ℤ) (next : NextText) → AfterTest old mid (Ok n) (evaluated o s.words s.copies loop.test) → n ≢ pos 0 → loop.left ≡ None →
      next_text next ≡ Then (text_of loop.body) (Again loop) → IsMoved s old mid (Ok (step.Becomes next)) (loop_move o s.words s.copies loop)
  loop_unbounded n next t h e same =
      step_tested s old mid n (evaluated o s.words s.copies loop.test) loop_rest next t
      (loop_goes n None h e ∙ ap (λ R. Moves R s.words s.copies 1) (sym same))

  pub loop_turns : (n : ℤ) (m less : ℕ) (next : NextText) → AfterTest old mid (Ok n) (evaluated o s.words s.copies loop.test) → n ≢ pos 0 → loop.left ≡ Some m → m ≢ 0 →
      less ≡ m - 1 → next_text next ≡ Then (text_of loop.body) (Again (record loop { left = Some less })) →
      IsMoved s old mid (Ok (step.Becomes next)) (loop_move o s.words s.copies loop)
  loop_turns n zero less next t h e z l same = absurd (z refl)
  loop_turns n (suc m) less next t h e z l same =
      let fewer : less ≡ m = omega arith in
      step_tested s old mid n (evaluated o s.words s.copies loop.test) loop_rest next t
      (loop_goes n (Some (suc m)) h e ∙ ap (λ j. Moves (Then (text_of loop.body) (Again (record loop { left = Some j }))) s.words s.copies 1) (sym fewer)
      ∙ ap (λ R. Moves R s.words s.copies 1) (sym same))

  pub loop_traps : (n : ℤ) (m : ℕ) → AfterTest old mid (Ok n) (evaluated o s.words s.copies loop.test) → n ≢ pos 0 → loop.left ≡ Some m → m ≡ 0 →
      IsMoved s old mid (Err (Trapped loop.place Turns)) (loop_move o s.words s.copies loop)
  loop_traps n m t h e z =
      step_trapped s old mid n (evaluated o s.words s.copies loop.test) loop_rest loop.place Turns t (loop_goes n (Some 0) h (e ∙ ap (λ j. Some j) z))

  rest_least : (n : ℤ) → 1 ≤ move_units (loop_rest n)
  rest_least n = pick (is_zero n)
    where
      turned_least : (left : Option ℕ) → 1 ≤ move_units (turned_loop loop left s.words s.copies)
      turned_least None = omega arith
      turned_least (Some zero) = omega arith
      turned_least (Some (suc m)) = omega arith

      pick : (t : Bool) → 1 ≤ move_units (elim t [ true ↦ Moves plain.Done s.words s.copies 1 | false ↦ turned_loop loop loop.left s.words s.copies ])
      pick true = omega arith
      pick false = turned_least loop.left

  pub loop_fails : (h : Halt) → AfterTest old mid (Err h) (evaluated o s.words s.copies loop.test) → IsMoved s old mid (Err h) (loop_move o s.words s.copies loop)
  loop_fails h t = step_failed s old mid h (evaluated o s.words s.copies loop.test) loop_rest rest_least t

module _ (k : PlainKernel) (s : Origin) (old mid : ℕ) (e : Expr) where
  abbrev here : Owner
  here = record { kernel = k; uses = s.uses }

  pub if_no : (n : ℤ) (a b : Stmt) (next : NextText) → AfterTest old mid (Ok n) (evaluated here s.words s.copies e) → n ≡ pos 0 →
      next_text next ≡ text_of b → IsMoved s old mid (Ok (step.Becomes next)) (statement_move here s.words s.copies (If e a b))
  if_no n a b next t z same =
      step_tested s old mid n (evaluated here s.words s.copies e) (λ n. Moves (cond (is_zero n) (text_of b) (text_of a)) s.words s.copies 1) next t
      (ap (λ c. Moves (cond c (text_of b) (text_of a)) s.words s.copies 1) (is_zero_of n z) ∙ ap (λ R. Moves R s.words s.copies 1) (sym same))

  pub if_yes : (n : ℤ) (a b : Stmt) (next : NextText) → AfterTest old mid (Ok n) (evaluated here s.words s.copies e) → n ≢ pos 0 →
      next_text next ≡ text_of a → IsMoved s old mid (Ok (step.Becomes next)) (statement_move here s.words s.copies (If e a b))
  if_yes n a b next t z same =
      step_tested s old mid n (evaluated here s.words s.copies e) (λ n. Moves (cond (is_zero n) (text_of b) (text_of a)) s.words s.copies 1) next t
      (ap (λ c. Moves (cond c (text_of b) (text_of a)) s.words s.copies 1) (not_zero_of n z) ∙ ap (λ R. Moves R s.words s.copies 1) (sym same))

  pub if_fails : (h : Halt) (a b : Stmt) → AfterTest old mid (Err h) (evaluated here s.words s.copies e) →
      IsMoved s old mid (Err h) (statement_move here s.words s.copies (If e a b))
  if_fails h a b t =
      step_failed s old mid h (evaluated here s.words s.copies e) (λ n. Moves (cond (is_zero n) (text_of b) (text_of a)) s.words s.copies 1) (λ n. omega arith) t

-- what an abort with `immediate` comes to after its test
module _ (s : Origin) (old mid : ℕ) (v : Value) (e : Expr) (weak : Bool) (body : Stmt) where
  abbrev enter_move : ℤ → Move
  enter_move n = Moves (entered_abort weak e body n) s.words s.copies 1

  enter_to : (n : ℤ) (next : NextText) → AfterTest old mid (Ok n) v →
      entered_abort weak e body n ≡ next_text next → IsMoved s old mid (Ok (step.Becomes next)) (move_with v enter_move)
  enter_to n next t same = step_tested s old mid n v enter_move next t (ap (λ R. Moves R s.words s.copies 1) same)

  pub enter_watches : (n : ℤ) (next : NextText) → AfterTest old mid (Ok n) v → n ≡ pos 0 →
      next_text next ≡ Watch weak e (text_of body) → IsMoved s old mid (Ok (step.Becomes next)) (move_with v enter_move)
  enter_watches n next t z same = enter_to n next t (at weak ∙ sym same)
    where
      at : (w : Bool) → entered_abort w e body n ≡ Watch w e (text_of body)
      at true = ap (λ c. cond c (Watch true e (text_of body)) (Last (text_of body))) (is_zero_of n z)
      at false = ap (λ c. cond c (Watch false e (text_of body)) plain.Done) (is_zero_of n z)

  pub enter_lasts : (n : ℤ) (next : NextText) → AfterTest old mid (Ok n) v → n ≢ pos 0 → weak ≡ true →
      next_text next ≡ Last (text_of body) → IsMoved s old mid (Ok (step.Becomes next)) (move_with v enter_move)
  enter_lasts n next t z w same =
      enter_to n next t
      (ap (λ x. entered_abort x e body n) w ∙ ap (λ c. cond c (Watch true e (text_of body)) (Last (text_of body))) (not_zero_of n z) ∙ sym same)

  pub enter_ends : (n : ℤ) (next : NextText) → AfterTest old mid (Ok n) v → n ≢ pos 0 → weak ≡ false →
      next_text next ≡ plain.Done → IsMoved s old mid (Ok (step.Becomes next)) (move_with v enter_move)
  enter_ends n next t z w same =
      enter_to n next t
      (ap (λ x. entered_abort x e body n) w ∙ ap (λ c. cond c (Watch false e (text_of body)) plain.Done) (not_zero_of n z) ∙ sym same)

  pub enter_fails : (h : Halt) → AfterTest old mid (Err h) v → IsMoved s old mid (Err h) (move_with v enter_move)
  enter_fails h t = step_failed s old mid h v enter_move (λ n. omega arith) t

-- a turn's text, where the loop is known by an equation
pub turned_text : (turn : Turn) (loop : Loop) → plain_loop turn ≡ loop →
    Then (text_of (stmt turn.body.now)) (Again (plain_loop turn)) ≡ Then (text_of loop.body) (Again loop)
turned_text turn loop e = ap (λ l. Then (text_of l.body) (Again l)) e
