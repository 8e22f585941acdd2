-- What a packet of the root has room for, and the jobs that it is.
use Rattle.std.proofs.Common.{◌≡◌, ℕ, ℤ, List, [], ◌∷◌, length, false, IsTrue, refl, sym, ap, ◌∙◌, subst, arith}
use Rattle.std.proofs.lemmas.List.{length-replicate}
use Rattle.forec_kernel.specs.declared.shape.VarCopy.{VarCopy}
use Rattle.forec_kernel.specs.Shapes.{PlainThread, PlainShape}
use Rattle.forec_kernel.specs.Texts.{params_in, uses_in}
use Rattle.forec_kernel.specs.Ticks.{unmarked, with_row, values_of}
use Rattle.forec_kernel.specs.WellFormed.{all_below, count_up, thread_of}
use Rattle.forec_kernel.specs.Packets.{PlainPacket}
use Rattle.forec_kernel.specs.Packed.{HasRoom, IsJob}
use Rattle.forec_kernel.specs.Solo.{values_in}
use Rattle.forec_kernel.proofs.Stages.{values_again}
use Rattle.forec_kernel.proofs.TickSteps.{plain_row, plain_start}
use Rattle.combine_tree.specs.declared.packet.Packet.{Packet}
use Rattle.combine_tree.specs.declared.packet.PacketKind.{PacketKind}
use Rattle.combine_tree.specs.declared.packet.PacketKind.TheVariants as kind
use Rattle.combine_tree.specs.Plain.{plain_kind, blank_packet}
use Rattle.thread_code.specs.Valid.{FineShape, of_shape}
use Rattle.tick_jobs.specs.Jobs.{IsBetweenTicks, copies_before, copies_at, job_with, job_of, next_job_kind}
use Rattle.tick_jobs.proofs.Copies.{length_count, length_start, length_unmarked, length_row}

-- ---- room

root_params : (s : PlainShape) → params_in s.threads 0 ≡ (thread_of (of_shape s) 0).params
root_params s = pick s.threads
  where
    pick : (ts : List PlainThread) → params_in ts 0 ≡ (thread_of (of_shape (record s { threads = ts })) 0).params
    pick [] = refl
    pick (t ∷ ts) = refl

empty_of : (xs : List ℤ) → length xs ≡ 0 → xs ≡ []
empty_of [] h = refl
empty_of (x ∷ xs) h = absurd (omega arith)

module _ (s : PlainShape) (fine : FineShape s) where
  pub no_params : params_in s.threads 0 ≡ 0
  no_params = root_params s ∙ fine.root.params

  -- the root has a copy of each variable
  all_uses : length (uses_in s.threads 0) ≡ length s.variables
  all_uses = ap length fine.root.uses ∙ length_count 0 (length s.variables)

  pub uses_count : (n : ℕ) → n ≡ length (uses_in s.threads 0) → count_up 0 n ≡ uses_in s.threads 0
  uses_count n h = ap (count_up 0) (h ∙ all_uses) ∙ sym fine.root.uses

  -- a packet that was just made for it
  pub blank_room : (n : ℕ) (p : PlainPacket) → n ≡ length s.variables → p ≡ blank_packet 0 n → HasRoom (of_shape s) 0 p
  blank_room n p count is = record {
    args = ap (λ (q : PlainPacket). length q.args) is ∙ sym no_params;
    copies = ap (λ (q : PlainPacket). length q.copies) is ∙ length-replicate {A = VarCopy} n _ ∙ count ∙ sym all_uses;
  }

  module _ (p : PlainPacket) (room : HasRoom (of_shape s) 0 p) where
    pub no_args : p.args ≡ []
    no_args = empty_of p.args (room.args ∙ no_params)

    pub all_copies : length p.copies ≡ length s.variables
    all_copies = room.copies ∙ all_uses

-- ---- the copies of a job

unmarked_twice : (c : List VarCopy) → unmarked (unmarked c) ≡ unmarked c
unmarked_twice [] = refl
unmarked_twice (x ∷ c) = ap (λ cs. record { value = x.value; modified = false } ∷ cs) (unmarked_twice c)

plain_before : (s : PlainShape) (k : PacketKind) (copies : List VarCopy) → unmarked (copies_before s k copies) ≡ copies_before s k copies
plain_before s kind.Blank copies = plain_start s.variables
plain_before s kind.Start copies = unmarked_twice copies
plain_before s kind.Wake copies = unmarked_twice copies
plain_before s kind.Paused copies = unmarked_twice copies
plain_before s kind.Ended copies = unmarked_twice copies
plain_before s (kind.Trapped place trap) copies = unmarked_twice copies
plain_before s kind.Over copies = unmarked_twice copies

pub length_before : (s : PlainShape) (k : PacketKind) (copies : List VarCopy) → length copies ≡ length s.variables → length (copies_before s k copies) ≡ length s.variables
length_before s kind.Blank copies h = length_start s.variables
length_before s kind.Start copies h = length_unmarked copies ∙ h
length_before s kind.Wake copies h = length_unmarked copies ∙ h
length_before s kind.Paused copies h = length_unmarked copies ∙ h
length_before s kind.Ended copies h = length_unmarked copies ∙ h
length_before s (kind.Trapped place trap) copies h = length_unmarked copies ∙ h
length_before s kind.Over copies h = length_unmarked copies ∙ h

plain_at : (s : PlainShape) (p : Packet) (row : List ℤ) → unmarked (copies_at s p row) ≡ copies_at s p row
plain_at s p row = plain_row (uses_in s.threads 0) s.inputs row (copies_before s p.kind p.copies.items) (plain_before s p.kind p.copies.items)

pub length_at : (s : PlainShape) → FineShape s → (p : Packet) (row : List ℤ) → length p.copies.items ≡ length s.variables → length (copies_at s p row) ≡ length (uses_in s.threads 0)
length_at s fine p row h =
    let e = length_before s p.kind p.copies.items h ∙ sym (all_uses s fine) in
    length_row (uses_in s.threads 0) s.inputs row (copies_before s p.kind p.copies.items) e ∙ e

-- ---- the job

job_is : (k : PacketKind) → IsBetweenTicks k → (p : PlainPacket) (cs : List VarCopy) (budget : ℕ) → p.kind ≡ plain_kind (next_job_kind k) → p.args ≡ [] → p.copies ≡ cs → unmarked cs ≡ cs → p.allowance ≡ budget →
    IsJob p (job_with k (values_in cs) budget)
job_is kind.Blank b p cs budget is args copies plain allowance = (is, args, copies ∙ sym plain ∙ sym (values_again cs), allowance)
job_is kind.Start b p cs budget is args copies plain allowance = absurd b
job_is kind.Wake b p cs budget is args copies plain allowance = absurd b
job_is kind.Paused b p cs budget is args copies plain allowance = (is, copies ∙ sym plain ∙ sym (values_again cs), allowance)
job_is kind.Ended b p cs budget is args copies plain allowance = absurd b
job_is (kind.Trapped place trap) b p cs budget is args copies plain allowance = absurd b
job_is kind.Over b p cs budget is args copies plain allowance = absurd b

pub is_job : (s : PlainShape) (p : Packet) (p' : PlainPacket) (row : List ℤ) (budget : ℕ) → IsBetweenTicks p.kind → p'.kind ≡ plain_kind (next_job_kind p.kind) → p'.args ≡ [] → p'.copies ≡ copies_at s p row → p'.allowance ≡ budget →
    IsJob p' (job_of s p row budget)
is_job s p p' row budget between is args copies allowance = job_is p.kind between p' (copies_at s p row) budget is args copies (plain_at s p row) allowance

-- ---- the variables that a shape names have copies

module _ (s : PlainShape) (fine : FineShape s) (copies : List VarCopy) (counted : length copies ≡ length s.variables) (vs : List ℕ) where
  pub below_outputs : vs ≡ s.outputs → IsTrue (all_below (length copies) vs)
  below_outputs e = subst (λ ws. IsTrue (all_below (length copies) ws)) (sym e) (subst (λ n. IsTrue (all_below n s.outputs)) (sym counted) fine.outputs_named)

  pub below_inputs : vs ≡ s.inputs → IsTrue (all_below (length copies) vs)
  below_inputs e = subst (λ ws. IsTrue (all_below (length copies) ws)) (sym e) (subst (λ n. IsTrue (all_below n s.inputs)) (sym counted) fine.inputs_named)

  pub outputs_told : (values : List ℤ) → vs ≡ s.outputs → values ≡ values_of (count_up 0 (length copies)) copies vs → values ≡ values_of (uses_in s.threads 0) copies s.outputs
  outputs_told values e is =
      is ∙ ap (λ uses. values_of uses copies vs) (uses_count s fine (length copies) (counted ∙ sym (all_uses s fine))) ∙ ap (values_of (uses_in s.threads 0) copies) e

  pub row_told : (row : List ℤ) (after : List VarCopy) → vs ≡ s.inputs → after ≡ with_row (count_up 0 (length copies)) vs row copies → after ≡ with_row (uses_in s.threads 0) s.inputs row copies
  row_told row after e is =
      is ∙ ap (λ uses. with_row uses vs row copies) (uses_count s fine (length copies) (counted ∙ sym (all_uses s fine))) ∙ ap (λ ws. with_row (uses_in s.threads 0) ws row copies) e
