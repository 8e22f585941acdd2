-- A thread at work, in the words of the scheduler's calls.
use Rattle.std.proofs.Common.{◌≡◌, ◌≢◌, ℕ, suc, ◌+◌, ◌<◌, ◌≤◌, ◌^◌, true, false, Option, Some, None, List, [], ◌∷◌, ◌++◌, length, sym, ap, ◌∙◌, subst, arith}
use Rattle.std.specs.Prelude.{slice_set, slice_index_or}
use Rattle.std.proofs.lemmas.Option.{get_or_from_slice_get}
use Rattle.forec_kernel.specs.Packets.{PlainPacket}
use Rattle.forec_kernel.specs.Packed.{HasRoom, IsJob}
use Rattle.forec_kernel.specs.Engine.{Job, Exchange}
use Rattle.thread_code.specs.declared.instruction.CodeParts.{CodeParts}
use Rattle.thread_code.specs.Plain.{plain_code}
use Rattle.thread_code.specs.Valid.{of_shape}
use Rattle.combine_tree.specs.declared.packet.Packet.{Packet}
use Rattle.combine_tree.specs.Plain.{plain_packet}
use Rattle.core_machine.specs.declared.thread.Thread.{Thread}
use Rattle.core_machine.specs.Threads.{Loaded, StandsFor, CanBegin, HasReply, IsResting, RepliesToLast}
use Rattle.core_machine.specs.Replies.{RepliesByKind}
use Rattle.copy_slots.specs.Mail.{taker_took, taker_answered}
use Rattle.copy_slots.specs.Ports.{child_at, on_child, on_taker, sent_by, taken_by, ChildIs, sent, taken, turn, after_take, after_answer}
use Rattle.core_seats.specs.declared.seat.Seat.{Seat}
use Rattle.core_seats.specs.Asking.{Replies, Asks}
use Rattle.core_seats.specs.Posts.{Mail}
use Rattle.core_seats.specs.Done.{InJob}
use Rattle.core_seats.specs.Keeping.{SchedulerState, code_in, KeepsBelow, IsSeated, IsFitted, Idle, QuietAbove, LacksPacket, IsBack}
use Rattle.core_seats.specs.Following.{HasFollowed}
use Rattle.copy_slots.proofs.PortLemmas.{child_here, parent_on_child}
use Rattle.core_seats.proofs.Mails.{state, is_child}
use Rattle.tick_jobs.proofs.Lists.{some_once}
use Rattle.core_seats.proofs.RunChild.{job_can_begin, job_room, job_small, at_work, seated_work, above_work, in_job, followed, its_replies, holds3, at_end, leaves_all, above_end, back}

-- what a child's end has taken
pub took : (m : Mail) (k : ℕ) (q : PlainPacket) → ChildIs m k false → taken (record m { ends = on_child m.ends k (taker_took q) }) k ≡ taken m k ++ q ∷ []
took m k q is =
    let y = is_child (child_at m.ends k) false is in
    ap taken_by (child_here m.ends k (taker_took q) ∙ ap (on_taker (taker_took q)) y.1) ∙ ap (λ l. l ++ q ∷ []) (sym (ap taken_by y.1))

still_sent : (m : Mail) (k : ℕ) (q : PlainPacket) → sent (record m { ends = on_child m.ends k (taker_took q) }) k ≡ sent m k
still_sent m k q = ap sent_by (parent_on_child m.ends k k (taker_took q))

module _ {s0 : SchedulerState} {m : ℕ} (seated : IsSeated s0) (inside : m < length s0.mail.ends) (idle : Idle s0 m)
    {code : CodeParts} {places : List ℕ} {mail mail1 : Mail} {seats : List Seat} {hands : List (Option Packet)} (view : state code places mail seats hands ≡ s0)
    (p : Packet) (taking : mail1 ≡ after_take m (Some (plain_packet p)) mail) (job : Asks (plain_code mail.work.code.value) m (taken mail1 m))
    {x : Seat} (read : x ≡ slice_index_or seats (m + 1) x) {found : Option Thread} (value : found ≡ x.thread) {h : Thread} (is : found ≡ Some h) where
  abbrev q : PlainPacket
  q = plain_packet p

  same_code : code ≡ s0.code
  same_code = ap (λ (s : SchedulerState). s.code) view

  same_mail : mail ≡ s0.mail
  same_mail = ap (λ (s : SchedulerState). s.mail) view

  mail_is : mail1 ≡ record s0.mail { ends = on_child s0.mail.ends m (taker_took q) }
  mail_is = taking ∙ ap (after_take m (Some q)) same_mail

  taken1 : taken mail1 m ≡ taken s0.mail m ++ q ∷ []
  taken1 = ap (λ (z : Mail). taken z m) mail_is ∙ took s0.mail m q idle.child

  abbrev asks : Asks (code_in s0) m (taken s0.mail m ++ q ∷ [])
  asks =
      subst (λ l. Asks (code_in s0) m l) taken1
      (subst (λ (z : CodeParts). Asks (plain_code z) m (taken mail1 m)) (ap (λ (z : Mail). z.work.code.value) same_mail ∙ seated.work) job)

  one : m + 1 ≡ suc m
  one = omega arith

  seat_is : x ≡ idle.sits.seat
  seat_is =
      read ∙ ap (λ l. slice_index_or l (m + 1) x) (ap (λ (s : SchedulerState). s.seats) view) ∙ ap (λ n. slice_index_or s0.seats n x) one ∙ get_or_from_slice_get s0.seats (suc m) idle.sits.seat x idle.sits.at

  same : h ≡ idle.thread
  same = some_once h idle.thread (sym is ∙ value ∙ ap (λ (z : Seat). z.thread) seat_is ∙ idle.sits.is)

  pub loaded_now : Loaded (plain_code code) h
  loaded_now = subst (λ (z : CodeParts). Loaded (plain_code z) h) (sym same_code) (subst (Loaded (code_in s0)) (sym same) idle.sits.loaded)

  pub resting_now : IsResting h
  resting_now = subst IsResting (sym same) idle.resting

  pub begins_now : CanBegin h p.kind
  begins_now = subst (λ z. CanBegin z p.kind) (sym same) (job_can_begin s0 m seated inside idle p asks)

  number_here : h.number ≡ suc m
  number_here = ap (λ (z : Thread). z.number) same ∙ idle.sits.number

  pub room_now : HasRoom (of_shape (plain_code code).shape) h.number q
  room_now =
      subst (λ (z : CodeParts). HasRoom (of_shape (plain_code z).shape) h.number q) (sym same_code)
      (subst (λ n. HasRoom (of_shape (code_in s0).shape) n q) (sym number_here) (job_room s0 m seated inside idle p asks))

  pub small_now : p.allowance ≤ 2 ^ 62
  small_now = job_small s0 m seated inside idle p asks

  module _ (y : Seat) where
    abbrev pub raw : SchedulerState
    raw = state code places mail1 (slice_set seats (m + 1) y) hands

    raw_is : raw ≡ at_work s0 m seated inside idle p asks y
    raw_is =
        ap (λ z. state code places z (slice_set seats (m + 1) y) hands) taking
        ∙ ap (λ (s : SchedulerState). record s { mail = record s.mail { ends = on_child s.mail.ends m (taker_took q) }; seats = slice_set s.seats (m + 1) y }) view
        ∙ ap (λ n. record s0 { mail = record s0.mail { ends = on_child s0.mail.ends m (taker_took q) }; seats = slice_set s0.seats n y }) one

    raw_seated : IsSeated raw
    raw_seated = subst IsSeated (sym raw_is) (seated_work s0 m seated inside idle p asks y)

    raw_fitted : s0.mail.tells ≡ true → IsFitted raw
    raw_fitted tells = record { seated = raw_seated; tells = ap (λ (s : SchedulerState). s.mail.tells) raw_is ∙ tells }

    module _ {h1 : Thread} (number : h1.number ≡ h.number)
        (stands : (xs : List Exchange) (job : Job) → IsJob q job → StandsFor (plain_code code) h xs → StandsFor (plain_code code) h1 (xs ++ record { job = job; replies = [] } ∷ [])) where
      number0 : h1.number ≡ idle.thread.number
      number0 = number ∙ ap (λ (z : Thread). z.number) same

      stands0 : (xs : List Exchange) (job : Job) → IsJob q job → StandsFor (code_in s0) idle.thread xs → StandsFor (code_in s0) h1 (xs ++ record { job = job; replies = [] } ∷ [])
      stands0 xs job k st =
          subst (λ (z : CodeParts). StandsFor (plain_code z) h1 (xs ++ record { job = job; replies = [] } ∷ [])) same_code
          (stands xs job k (subst (λ (z : CodeParts). StandsFor (plain_code z) h xs) (sym same_code) (subst (λ z. StandsFor (code_in s0) z xs) (sym same) st)))

      number1 : h1.number ≡ suc m
      number1 = number ∙ number_here

      raw_above : QuietAbove s0 (suc m) → QuietAbove raw h1.number
      raw_above above = subst (QuietAbove raw) (sym number1) (subst (λ s. QuietAbove s (suc m)) (sym raw_is) (above_work s0 m seated inside idle p asks y above))

      raw_followed : HasFollowed raw h1
      raw_followed = subst (λ s. HasFollowed s h1) (sym raw_is) (followed s0 m seated inside idle p asks y h1 number0 stands0)

      pub has_begun : (h1.number ≡ suc m) × (s0.mail.tells ≡ true → IsFitted raw) × HasFollowed raw h1 × (QuietAbove s0 (suc m) → QuietAbove raw h1.number)
      has_begun = (number1, raw_fitted, raw_followed, raw_above)

      module _ (tells : s0.mail.tells ≡ true) (turning : mail.tells ≡ true → (turn mail m ≢ 0) × (taken mail1 m ≡ sent mail1 m)) {s3 : SchedulerState} {h2 : Thread} (number2 : h2.number ≡ h1.number) (loaded2 : Loaded (code_in raw) h2) (replied : HasReply h2) (above3 : QuietAbove s3 h1.number) (leaves3 : KeepsBelow h1.number h1.number raw s3)
          (done3 : (jobs : List Job) (job : Job) → InJob (code_in raw) h1 raw.mail jobs job → InJob (code_in raw) h2 s3.mail jobs job)
          {code2 : CodeParts} {places2 : List ℕ} {mail2 : Mail} {seats2 : List Seat} {hands2 : List (Option Packet)} (view2 : state code2 places2 mail2 seats2 hands2 ≡ s3) where
        all : taken s0.mail m ++ q ∷ [] ≡ sent s0.mail m
        all = sym taken1 ∙ (turning (ap (λ (z : Mail). z.tells) same_mail ∙ tells)).1 ∙ ap (λ (z : Mail). sent z m) mail_is ∙ still_sent s0.mail m q

        code2_is : code2 ≡ s0.code
        code2_is = ap (λ (s : SchedulerState). s.code) view2 ∙ leaves3.code ∙ same_code

        pub reply_room : HasRoom (of_shape (plain_code code2).shape) h2.number q
        reply_room =
            subst (λ (z : CodeParts). HasRoom (of_shape (plain_code z).shape) h2.number q) (sym code2_is)
            (subst (λ n. HasRoom (of_shape (code_in s0).shape) n q) (sym (number2 ∙ number1)) (job_room s0 m seated inside idle p asks))

        module _ (p' : Packet) (room' : HasRoom (of_shape (plain_code code2).shape) h2.number (plain_packet p')) (kind' : RepliesByKind h2 p'.kind)
            (gives : (xs : List Exchange) → StandsFor (plain_code code2) h2 xs → RepliesToLast (plain_code code2) h2.number xs (plain_packet p')) where
          abbrev q' : PlainPacket
          q' = plain_packet p'

          in_raw : InJob (code_in raw) h1 raw.mail idle.jobs asks.job
          in_raw = subst (λ s. InJob (code_in s) h1 s.mail idle.jobs asks.job) (sym raw_is) (in_job s0 m seated inside idle p asks y h1 number0 stands0).0

          in_done : InJob (code_in s0) h2 s3.mail idle.jobs asks.job
          in_done = subst (λ (z : CodeParts). InJob (plain_code z) h2 s3.mail idle.jobs asks.job) same_code (done3 idle.jobs asks.job in_raw)

          loaded3 : Loaded (code_in s3) h2
          loaded3 = subst (λ (z : CodeParts). Loaded (plain_code z) h2) (sym leaves3.code) loaded2

          above4 : QuietAbove s3 (suc m)
          above4 = subst (QuietAbove s3) number1 above3

          leaves4 : KeepsBelow (suc m) (suc m) (at_work s0 m seated inside idle p asks y) s3
          leaves4 = subst (λ s. KeepsBelow (suc m) (suc m) s s3) raw_is (subst (λ n. KeepsBelow n n raw s3) number1 leaves3)

          room4 : HasRoom (of_shape (code_in s0).shape) (suc m) q'
          room4 = subst (λ n. HasRoom (of_shape (code_in s0).shape) n q') (number2 ∙ number1) (subst (λ (z : CodeParts). HasRoom (of_shape (plain_code z).shape) h2.number q') code2_is room')

          gives4 : (xs : List Exchange) → StandsFor (code_in s0) h2 xs → RepliesToLast (code_in s0) h2.number xs q'
          gives4 xs st =
              subst (λ (z : CodeParts). RepliesToLast (plain_code z) h2.number xs q') code2_is (gives xs (subst (λ (z : CodeParts). StandsFor (plain_code z) h2 xs) (sym code2_is) st))

          answer_held : ChildIs mail2 m true
          answer_held =
              subst (λ (z : Mail). ChildIs z m true) (sym (ap (λ (s : SchedulerState). s.mail) view2))
              (holds3 s0 m seated inside idle p asks y h1 number0 stands0 all s3 h2 number2 loaded3 replied above4 leaves4 in_done p' room4 kind' gives4)

          answer_answers : Replies (plain_code mail2.work.code.value) m (taken mail2 m) q'
          answer_answers =
              let work : mail2.work.code.value ≡ s0.code =
              ap (λ (s : SchedulerState). s.mail.work.code.value) view2 ∙ ap (λ w. w.code.value) leaves3.alike.work ∙ ap (λ (s : SchedulerState). s.mail.work.code.value) raw_is ∙ seated.work in
              subst (λ (z : CodeParts). Replies (plain_code z) m (taken mail2 m) q') (sym work)
              (subst (λ l. Replies (code_in s0) m l q') (sym (ap (λ (s : SchedulerState). taken s.mail m) view2))
              (its_replies s0 m seated inside idle p asks y h1 number0 stands0 all s3 h2 number2 loaded3 replied above4 leaves4 in_done p' room4 kind' gives4))

          pub has_answer : ChildIs mail2 m true × Replies (plain_code mail2.work.code.value) m (taken mail2 m) q'
          has_answer = (answer_held, answer_answers)

          module _ (z : Seat) (sits : z.thread ≡ Some h2) (vacant : z.job ≡ None) {mail3 : Mail} (answering : mail3 ≡ after_answer m q' mail2) where
            abbrev pub raw_end : SchedulerState
            raw_end = state code2 places2 mail3 (slice_set seats2 (m + 1) z) hands2

            raw_end_is : raw_end ≡ at_end s0 m seated inside idle p asks y h1 number0 stands0 all s3 h2 number2 loaded3 replied above4 leaves4 in_done p' room4 kind' gives4 z sits vacant
            raw_end_is =
                ap (λ w. state code2 places2 w (slice_set seats2 (m + 1) z) hands2) answering
                ∙ ap (λ (s : SchedulerState). record s { mail = record s.mail { ends = on_child s.mail.ends m (taker_answered q') }; seats = slice_set s.seats (m + 1) z }) view2
                ∙ ap (λ n. record s3 { mail = record s3.mail { ends = on_child s3.mail.ends m (taker_answered q') }; seats = slice_set s3.seats n z }) one

            end_back : LacksPacket s0 m → IsBack raw_end m
            end_back lacks =
                subst (λ s. IsBack s m) (sym raw_end_is)
                (back s0 m seated inside idle p asks y h1 number0 stands0 all s3 h2 number2 loaded3 replied above4 leaves4 in_done p' room4 kind' gives4 z sits vacant lacks)

            end_above : QuietAbove raw_end (suc m)
            end_above =
                subst (λ s. QuietAbove s (suc m)) (sym raw_end_is)
                (above_end s0 m seated inside idle p asks y h1 number0 stands0 all s3 h2 number2 loaded3 replied above4 leaves4 in_done p' room4 kind' gives4 z sits vacant)

            end_leaves : KeepsBelow (suc m) m s0 raw_end
            end_leaves =
                subst (KeepsBelow (suc m) m s0) (sym raw_end_is)
                (leaves_all s0 m seated inside idle p asks y h1 number0 stands0 all s3 h2 number2 loaded3 replied above4 leaves4 in_done p' room4 kind' gives4 z sits vacant)

            pub has_ended : (LacksPacket s0 m → IsBack raw_end m) × QuietAbove raw_end (suc m) × KeepsBelow (suc m) m s0 raw_end
            has_ended = (end_back, end_above, end_leaves)
