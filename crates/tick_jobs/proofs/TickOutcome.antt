-- What a tick comes to.
use Rattle.std.proofs.Common.{◌≡◌, ℕ, ℤ, true, List, [], ◌∷◌, ◌++◌, length, refl, sym, ap, ◌∙◌, subst}
use Rattle.std.proofs.lemmas.List.{length-map}
use Rattle.forec_kernel.specs.declared.shape.Outcome.{Outcome}
use Rattle.forec_kernel.specs.declared.shape.VarCopy.{VarCopy}
use Rattle.forec_kernel.specs.Shapes.{PlainShape, PlainKernel}
use Rattle.forec_kernel.specs.Texts.{uses_in}
use Rattle.forec_kernel.specs.WellFormed.{WellFormed}
use Rattle.forec_kernel.specs.Ticks.{TickState, Fresh, After_tick, tick, goes_on, start_copies, unmarked, with_row, values_of}
use Rattle.forec_kernel.specs.Packets.{Blank, IsPaused, IsEnded, IsTrapped, IsOver}
use Rattle.forec_kernel.specs.Packed.{HasRoom, IsReply}
use Rattle.forec_kernel.specs.Engine.{Job, Start, Wake, Reply, WasPaused, WasEnded, WasTrapped, WasOver, Answers}
use Rattle.forec_kernel.specs.Solo.{values_in, KernelAlone}
use Rattle.forec_kernel.specs.Composed.{TickInput, tick_job, tick_jobs, next_state, state_after, MeansReply}
use Rattle.forec_kernel.proofs.Distinct.{branches_apart}
use Rattle.forec_kernel.proofs.TickByTick.{each_tick}
use Rattle.thread_code.specs.Plain.{PlainCode}
use Rattle.thread_code.specs.Valid.{IsValidCode, FineShape, of_shape}
use Rattle.thread_code.specs.Alone.{Stands, CodeAlone}
use Rattle.thread_code.specs.Laws.{FitsThread, EachFits}
use Rattle.thread_code.proofs.Answers.{answers_agree}
use Rattle.combine_tree.specs.declared.packet.Packet.{Packet}
use Rattle.combine_tree.specs.declared.packet.PacketKind.{PacketKind}
use Rattle.combine_tree.specs.declared.packet.PacketKind.TheVariants as kind
use Rattle.combine_tree.specs.Plain.{plain_kind, plain_packet}
use Rattle.tick_jobs.specs.Jobs.{copies_before, copies_at, job_with, job_of}
use Rattle.tick_jobs.specs.Outcomes.{HasOutputs, outcome_in, ComesTo}
use Rattle.tick_jobs.specs.Ready.{HoldsState}
use Rattle.tick_jobs.proofs.Rooms.{no_params, all_copies, length_at}
use Rattle.forec_kernel.proofs.KeptCopies.{KeptBy, HasCopies, copies_kept, jobs_then, state_then}

-- ---- the job

same_job : (c : PlainCode) (k : PlainKernel) → c.shape ≡ k.shape → (state : TickState) (p : Packet) (turn : TickInput) → HoldsState state p → job_of c.shape p turn.row turn.budget ≡ tick_job k state turn
same_job c k same Fresh p turn keeps =
    ap (λ q. job_with q (values_in (with_row (uses_in c.shape.threads 0) c.shape.inputs turn.row (copies_before c.shape q p.copies.items))) turn.budget) keeps
    ∙ ap (λ (s : PlainShape). Start [] (values_in (with_row (uses_in s.threads 0) s.inputs turn.row (start_copies s.variables))) turn.budget) same
same_job c k same (After_tick thread) p turn keeps =
    ap (λ q. job_with q (values_in (with_row (uses_in c.shape.threads 0) c.shape.inputs turn.row (copies_before c.shape q p.copies.items))) turn.budget) keeps.0
    ∙ ap (λ cs. Wake (values_in (with_row (uses_in c.shape.threads 0) c.shape.inputs turn.row (unmarked cs))) turn.budget) keeps.1
    ∙ ap (λ (s : PlainShape). Wake (values_in (with_row (uses_in s.threads 0) s.inputs turn.row (unmarked thread.copies))) turn.budget) same

fits_with : (s : PlainShape) → FineShape s → (k : PacketKind) (values : List ℤ) (budget : ℕ) → length values ≡ length (uses_in s.threads 0) → FitsThread s 0 (job_with k values budget)
fits_with s fine kind.Blank values budget h = (sym (no_params s fine), h)
fits_with s fine kind.Start values budget h = h
fits_with s fine kind.Wake values budget h = h
fits_with s fine kind.Paused values budget h = h
fits_with s fine kind.Ended values budget h = h
fits_with s fine (kind.Trapped place trap) values budget h = h
fits_with s fine kind.Over values budget h = h

pub job_fits : (s : PlainShape) → FineShape s → (p : Packet) → HasRoom (of_shape s) 0 (plain_packet p) → (row : List ℤ) (budget : ℕ) → FitsThread s 0 (job_of s p row budget)
job_fits s fine p room row budget =
    fits_with s fine p.kind (values_in (copies_at s p row)) budget (length-map (copies_at s p row) (λ c. c.value) ∙ length_at s fine p row (all_copies s fine (plain_packet p) room))

pub fits_then : (s : PlainShape) (js : List Job) (j : Job) → EachFits s 0 js → FitsThread s 0 j → EachFits s 0 (js ++ j ∷ [])
fits_then s [] j h f = (f, tt)
fits_then s (i ∷ js) j h f = (h.0, fits_then s js j h.1 f)

-- ---- the reply

paused_of : (q : PacketKind) → plain_kind q ≡ IsPaused → q ≡ kind.Paused
paused_of kind.Paused e = refl
paused_of _ e = cc

ended_of : (q : PacketKind) → plain_kind q ≡ IsEnded → q ≡ kind.Ended
ended_of kind.Ended e = refl
ended_of _ e = cc

over_of : (q : PacketKind) → plain_kind q ≡ IsOver → q ≡ kind.Over
over_of kind.Over e = refl
over_of _ e = cc

trapped_of : (q : PacketKind) (place : _) (trap : _) → plain_kind q ≡ IsTrapped place trap → q ≡ kind.Trapped place trap
trapped_of (kind.Trapped p t) place trap e = cc
trapped_of _ place trap e = cc

-- what a tick comes to, where the packet is the reply
pub record Told (c : PlainCode) (k : PlainKernel) (turns : List TickInput) (turn : TickInput) (p : Packet) : Type 0 where
  pub outcome : outcome_in p.kind ≡ (tick k turn.budget (state_after k Fresh turns) turn.row).outcome
  pub outputs : HasOutputs (outcome_in p.kind) → values_of (uses_in c.shape.threads 0) p.copies.items c.shape.outputs ≡ (tick k turn.budget (state_after k Fresh turns) turn.row).outputs
  pub keeps : p.kind ≡ kind.Paused → HoldsState (next_state k (state_after k Fresh turns) turn) p

keeps_of : (state : TickState) (p : Packet) (copies : List VarCopy) → p.kind ≡ kind.Paused → p.copies.items ≡ copies → HasCopies state copies → HoldsState state p
keeps_of Fresh p copies e f h = absurd h
keeps_of (After_tick thread) p copies e f h = (e, f ∙ sym h)

told_by : (c : PlainCode) (k : PlainKernel) → c.shape ≡ k.shape → (turns : List TickInput) (turn : TickInput) (p : Packet) (r : Reply) → IsReply (plain_packet p) r →
    MeansReply k (tick k turn.budget (state_after k Fresh turns) turn.row) r → KeptBy (next_state k (state_after k Fresh turns) turn) r → Told c k turns turn p
told_by c k same turns turn p (WasPaused copies u) is tells kept =
    let q = paused_of p.kind is.0 in
    record {
      outcome = ap outcome_in q ∙ sym tells.0;
      outputs = λ has. ap (λ cs. values_of (uses_in c.shape.threads 0) cs c.shape.outputs) is.1 ∙ ap (λ (s : PlainShape). values_of (uses_in s.threads 0) copies s.outputs) same ∙ sym tells.1;
      keeps = λ e. keeps_of (next_state k (state_after k Fresh turns) turn) p copies e is.1 kept;
    }
told_by c k same turns turn p (WasEnded copies u) is tells kept =
    let q = ended_of p.kind is.0 in
    record {
      outcome = ap outcome_in q ∙ sym tells.0;
      outputs = λ has. ap (λ cs. values_of (uses_in c.shape.threads 0) cs c.shape.outputs) is.1 ∙ ap (λ (s : PlainShape). values_of (uses_in s.threads 0) copies s.outputs) same ∙ sym tells.1;
      keeps = λ e. let f = sym q ∙ e in cc;
    }
told_by c k same turns turn p (WasTrapped place trap u) is tells kept =
    let q = trapped_of p.kind place trap is.0 in
    record {
      outcome = ap outcome_in q ∙ sym tells;
      outputs = λ has. absurd (subst (λ x. HasOutputs (outcome_in x)) q has);
      keeps = λ e. let f = sym q ∙ e in cc;
    }
told_by c k same turns turn p WasOver is tells kept =
    let q = over_of p.kind is in
    record {
      outcome = ap outcome_in q ∙ sym tells;
      outputs = λ has. absurd (subst (λ x. HasOutputs (outcome_in x)) q has);
      keeps = λ e. let f = sym q ∙ e in cc;
    }

-- what the packet of the reply tells is what the reply tells
pub comes_to : (s : PlainShape) (p : Packet) (reply : Reply) → IsReply (plain_packet p) reply → (o : Outcome) → o ≡ outcome_in p.kind → (outputs : List ℤ) → (HasOutputs o → outputs ≡ values_of (uses_in s.threads 0) p.copies.items s.outputs) → ComesTo s reply o outputs
comes_to s p (WasPaused copies u) is o o_is outputs are =
    let e = o_is ∙ ap outcome_in (paused_of p.kind is.0) in (e, are (subst HasOutputs (sym e) tt) ∙ ap (λ cs. values_of (uses_in s.threads 0) cs s.outputs) is.1)
comes_to s p (WasEnded copies u) is o o_is outputs are =
    let e = o_is ∙ ap outcome_in (ended_of p.kind is.0) in (e, are (subst HasOutputs (sym e) tt) ∙ ap (λ cs. values_of (uses_in s.threads 0) cs s.outputs) is.1)
comes_to s p (WasTrapped place trap u) is o o_is outputs are = o_is ∙ ap outcome_in (trapped_of p.kind place trap is.0)
comes_to s p WasOver is o o_is outputs are = o_is ∙ ap outcome_in (over_of p.kind is)

pub goes_on_paused : (q : PacketKind) → goes_on (outcome_in q) ≡ true → q ≡ kind.Paused
goes_on_paused kind.Paused e = refl
goes_on_paused _ e = cc

-- ---- a tick

module _ (c : PlainCode) (valid : IsValidCode c) (k : PlainKernel) (turns : List TickInput) (fine : WellFormed k) (stands : Stands c k) (p p' : Packet) (room : HasRoom (of_shape c.shape) 0 (plain_packet p)) (row : List ℤ) (budget : ℕ)
    (fit : EachFits c.shape 0 (tick_jobs k Fresh turns)) (keeps : HoldsState (state_after k Fresh turns) p) (reply : Reply) (is : IsReply (plain_packet p') reply)
    (answers : Answers (CodeAlone c) (length c.threads) 0 (tick_jobs k Fresh turns ++ job_of c.shape p row budget ∷ []) reply) where
  abbrev turn : TickInput
  turn = record { row = row; budget = budget }

  abbrev job : Job
  job = job_of c.shape p row budget

  is_job : job ≡ tick_job k (state_after k Fresh turns) turn
  is_job = same_job c k stands.shape (state_after k Fresh turns) p turn keeps

  pub jobs_are : tick_jobs k Fresh turns ++ job ∷ [] ≡ tick_jobs k Fresh (turns ++ turn ∷ [])
  jobs_are = ap (λ j. tick_jobs k Fresh turns ++ j ∷ []) is_job ∙ sym (jobs_then k turns turn Fresh)

  now_fit : EachFits c.shape 0 (tick_jobs k Fresh (turns ++ turn ∷ []))
  now_fit = subst (EachFits c.shape 0) jobs_are (fits_then c.shape (tick_jobs k Fresh turns) job fit (job_fits c.shape valid.shape p room row budget))

  counts : length c.threads ≡ length k.threads
  counts = valid.threads ∙ ap (λ (s : PlainShape). length s.threads) stands.shape ∙ sym fine.bodies

  agreed : Answers (KernelAlone k) (length k.threads) 0 (tick_jobs k Fresh (turns ++ turn ∷ [])) reply
  agreed =
      answers_agree c k stands 0 fine.some fine.bodies (tick_jobs k Fresh (turns ++ turn ∷ [])) reply now_fit
      (subst (λ js. Answers (CodeAlone c) (length k.threads) 0 js reply) jobs_are (subst (λ n. Answers (CodeAlone c) n 0 (tick_jobs k Fresh turns ++ job ∷ []) reply) counts answers))

  pub told : Told c k turns turn p'
  told =
      told_by c k stands.shape turns turn p' reply is (each_tick k (branches_apart k fine) turns turn reply agreed) (copies_kept k (branches_apart k fine) turns turn reply agreed)

  pub keeps_now : p'.kind ≡ kind.Paused → HoldsState (state_after k Fresh (turns ++ turn ∷ [])) p'
  keeps_now e = subst (λ s. HoldsState s p') (sym (state_then k turns turn Fresh)) (told.keeps e)

-- ---- before the first tick

pub blank_of : (q : PacketKind) → plain_kind q ≡ Blank → q ≡ kind.Blank
blank_of kind.Blank e = refl
blank_of _ e = cc
