-- The body of thread 0 of the kernel of a text without faults is in range.
use Rattle.std.proofs.Common.{ℕ, suc, ◌+◌, ◌≡◌, ◌∙◌, ap, false, Some, List, [], length, arith}
use Rattle.std.proofs.lemmas.List.{length-map}
use Rattle.forec_tree.specs.Terms.{Text, PlainFunction}
use Rattle.forec_tree.specs.Rules.{findings_faults}
use Rattle.forec_tree.specs.Faults.{in_function}
use Rattle.forec_tree.specs.Pauses.{find_function}
use Rattle.forec_kernel.specs.Texts.{uses_of, words_of, body_of}
use Rattle.forec_kernel.specs.WellFormed.{FineStmt, thread_of, count_up}
use Rattle.text_kernel.specs.Kernels.{kernel_of, root, main_id, variable_count}
use Rattle.text_kernel.proofs.Faultless.{Clean}
use Rattle.text_kernel.proofs.Fields.{made_shape}
use Rattle.text_kernel.proofs.FineBodies.{Sits}
use Rattle.text_kernel.proofs.Known.{known_thread}
use Rattle.text_kernel.proofs.Runs.{Runnable, runs}

module _ (text : Text) (names : List (List ℕ)) where
  threads_long : length (kernel_of text names).threads ≡ suc (length (root text names).made)
  unfolding kernel_of
  threads_long = ap suc (length-map (root text names).made (λ m. m.body))

  pub root_sits : Sits (kernel_of text names) 1 (root text names).made
  root_sits =
      record {
        named = λ i l. omega (arith, l, threads_long);
        params = λ i l.
            (let n : 1 + i ≡ suc i = omega arith in
            ap (λ u. (thread_of (kernel_of text names) u).params) n ∙ ap (λ x. x.params) (made_shape text names i l));
      }

  root_fine : Clean text names → ((id : ℕ) (f : PlainFunction) → find_function id text ≡ Some f → f.gives ≡ false → findings_faults (record { names = names; gives = false }) (in_function text f) ≡ []) →
      ((f : PlainFunction) → find_function (main_id text names) text ≡ Some f → Runnable 0 f) →
      FineStmt false (record { kernel = kernel_of text names; words = (root text names).next.slot; uses = count_up 0 (variable_count text names) }) (root text names).stmt
  root_fine clean faultless main =
      runs text (kernel_of text names) (root text names).next.slot (count_up 0 (variable_count text names)) names (known_thread text names clean) faultless
      (length text) 0 0 0 (main_id text names) (record { slot = 0; thread = 1; par = 0 }) main (omega arith) (omega arith) root_sits

  at_root : FineStmt false (record { kernel = kernel_of text names; words = (root text names).next.slot; uses = count_up 0 (variable_count text names) }) (root text names).stmt →
      FineStmt false (record { kernel = kernel_of text names; words = words_of (kernel_of text names) 0; uses = uses_of (kernel_of text names) 0 }) (body_of (kernel_of text names) 0)
  unfolding kernel_of
  at_root h = h

  -- thread 0, as `FineThread` wants it
  pub main_fine : Clean text names → ((id : ℕ) (f : PlainFunction) → find_function id text ≡ Some f → f.gives ≡ false → findings_faults (record { names = names; gives = false }) (in_function text f) ≡ []) →
      ((f : PlainFunction) → find_function (main_id text names) text ≡ Some f → Runnable 0 f) →
      FineStmt false (record { kernel = kernel_of text names; words = words_of (kernel_of text names) 0; uses = uses_of (kernel_of text names) 0 }) (body_of (kernel_of text names) 0)
  main_fine clean faultless main = at_root (root_fine clean faultless main)
