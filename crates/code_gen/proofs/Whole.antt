-- The parts that are written are those of the kernel's code.
use Rattle.std.proofs.Common.{◌≡◌, map, ap, sym, ◌∙◌, subst, Result, Ok, Err, IfOk}
use Rattle.forec_kernel.specs.Plain.{stmt}
use Rattle.forec_kernel.specs.Shapes.{PlainShape, plain_kernel, plain_shape}
use Rattle.forec_kernel.specs.WellFormed.{WellFormed}
use Rattle.forec_kernel.specs.declared.shape.KernelParts.{KernelParts}
use Rattle.thread_code.specs.declared.instruction.CodeParts.{CodeParts}
use Rattle.thread_code.specs.Plain.{PlainCode, plain_block, plain_code}
use Rattle.thread_code.specs.Valid.{IsValidCode}
use Rattle.thread_code.specs.Alone.{Stands}
use Rattle.code_gen.specs.Blocks.{thread_block, function_block, blocks_from, kernel_code}
use Rattle.code_gen.proofs.Valid.{kernel_code_valid}
use Rattle.code_gen.proofs.Stands.{kernel_code_stands}

pub ok_too : {T E : Type 0} {P Q : T → Type 0} → (r : Result T E) → ((x : T) → P x → Q x) → IfOk r P → IfOk r Q
ok_too (Ok x) f h = f x h
ok_too (Err e) f h = h

module _ (k parts : KernelParts) (code : CodeParts) (same : parts ≡ k) (shape : plain_shape code.shape ≡ plain_shape parts.shape) (threads : map plain_block code.threads.items ≡ blocks_from (thread_block (plain_kernel parts)) 0 (map stmt parts.threads.items)) (functions : map plain_block code.functions.items ≡ blocks_from (function_block (plain_kernel parts)) 0 (map stmt parts.functions.items)) where
  code_is : plain_code code ≡ kernel_code (plain_kernel k)
  code_is =
      ap (λ (s : PlainShape). record { shape = s; threads = map plain_block code.threads.items; functions = map plain_block code.functions.items }) shape
      ∙ ap (λ l. record { shape = plain_shape parts.shape; threads = l; functions = map plain_block code.functions.items }) threads
      ∙ ap (λ l. record { shape = plain_shape parts.shape; threads = blocks_from (thread_block (plain_kernel parts)) 0 (map stmt parts.threads.items); functions = l }) functions
      ∙ ap (λ x. kernel_code (plain_kernel x)) same

  pub written_valid : WellFormed (plain_kernel k) → IsValidCode (plain_code code)
  written_valid fine = subst IsValidCode (sym code_is) (kernel_code_valid (plain_kernel k) fine)

  pub written_stands : WellFormed (plain_kernel k) → (c : PlainCode) → c ≡ plain_code code → Stands c (plain_kernel k)
  written_stands fine c e = subst (λ x. Stands x (plain_kernel k)) (sym (e ∙ code_is)) (kernel_code_stands (plain_kernel k) fine)
