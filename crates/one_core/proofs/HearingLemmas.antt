-- Branches that have their replies, in their seats.
use Rattle.std.proofs.Common.{◌≡◌, ℕ, ◌<◌, Option, Some, None, List, length, get_or, sym, ap, ◌∙◌, subst, arith}
use Rattle.std.specs.Prelude.{slice_get, slice_index_or}
use Rattle.std.proofs.lemmas.Option.{slice_get_within, slice_get-get_or, get_or_from_slice_get}
use Rattle.forec_kernel.specs.Engine.{Reply, WasOver}
use Rattle.core_machine.specs.declared.thread.Thread.{Thread}
use Rattle.core_machine.specs.Threads.{Loaded, HasReply}
use Rattle.tick_jobs.proofs.Lists.{some_once}
use Rattle.one_core.specs.Seats.{Seated, seated_code}
use Rattle.one_core.specs.Called.{BranchHasReply, BranchesHaveReplies}
use Rattle.core_machine.specs.Direct.{RepliesBy}

module _ (s : Seated) (branches : List ℕ) (rs : List Reply) (heard : BranchesHaveReplies s branches rs) (k b : ℕ) (at : slice_get branches k ≡ Some b) where
  pub reply_at : (r : Reply) × (slice_get rs k ≡ Some r)
  reply_at = let lt = slice_get_within branches k b at in (get_or rs k WasOver, slice_get-get_or rs k WasOver (omega (arith, lt, heard.count)))

  heard_at : BranchHasReply s b reply_at.0
  heard_at = heard.each k b reply_at.0 at reply_at.1

  pub in_seats : b < length s.threads
  in_seats = slice_get_within s.threads b (Some heard_at.thread) heard_at.sits.at

  module _ (d : Option Thread) (read : d ≡ slice_index_or s.threads b d) where
    seat_is : d ≡ Some heard_at.thread
    seat_is = read ∙ get_or_from_slice_get s.threads b (Some heard_at.thread) d heard_at.sits.at

    pub not_empty : d ≡ None → ⊥
    not_empty e = let f = sym seat_is ∙ e in cc

    module _ (h : Thread) (is : d ≡ Some h) where
      same : heard_at.thread ≡ h
      same = some_once heard_at.thread h (sym seat_is ∙ is)

      pub it_replied : HasReply h
      it_replied = subst HasReply same heard_at.replied

      pub it_loaded : Loaded (seated_code s) h
      it_loaded = subst (Loaded (seated_code s)) same heard_at.sits.loaded

      pub its_number : h.number ≡ b
      its_number = ap (λ (z : Thread). z.number) (sym same) ∙ heard_at.sits.number

      pub its_reply : RepliesBy h reply_at.0
      its_reply = subst (λ z. RepliesBy z reply_at.0) same heard_at.reply
