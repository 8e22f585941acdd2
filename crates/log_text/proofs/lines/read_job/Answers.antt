use Rattle.std.proofs.Common.{codes, arith}
use Rattle.log_text.proofs.LineReads.{further, if_map, start_read, wake_read, start_only, wake_only, job_begins}
use Rattle.log_text.proofs.lines.read_job.Goals as goal

pub returns-in-Some-clause-stands : goal.returns-in-Some-clause-stands
returns-in-Some-clause-stands c = λ s t room.
    start_read s t c.args.bytes.now c.args.at c.in-Some.at c.args.packet.now c.read_start.new.packet c.read_start.result room c.read_start.ensures.room c.in-Some.ensures.stands c.read_start.ensures.stands

pub returns-in-Some-clause-only : goal.returns-in-Some-clause-only
returns-in-Some-clause-only c = λ s t j rest room is e.
    start_only s t c.args.bytes.now c.args.at c.in-Some.at c.args.packet.now c.read_start.new.packet c.read_start.result j rest room is c.in-Some.ensures.stands e c.read_start.ensures.only

pub returns-clause-stands : goal.returns-clause-stands
returns-clause-stands c = λ s t room.
    wake_read s t c.args.bytes.now c.args.at c.in_ok-at.at c.args.packet.now c.read_wake.new.packet c.read_wake.result room c.read_wake.ensures.room c.in_ok-at.ensures.stands c.read_wake.ensures.stands

pub returns-clause-only : goal.returns-clause-only
returns-clause-only c = λ s t j rest room is e.
    wake_only s t c.args.bytes.now c.args.at c.in_ok-at.at c.args.packet.now c.read_wake.new.packet c.read_wake.result j rest room is c.in_ok-at.ensures.stands e c.read_wake.ensures.only

pub returns-in_err-at-clause-only : goal.returns-in_err-at-clause-only
returns-in_err-at-clause-only c = λ s t j rest room is e. absurd (job_begins j rest c.args.bytes.now c.args.at e c.in_default.ensures.only c.in_err-at.ensures.only)

pub returns-in-Some-clause-further : goal.returns-in-Some-clause-further
returns-in-Some-clause-further c =
    if_map c.read_start.result (λ end h. further c.args.bytes.now c.args.at c.in-Some.at end (codes "start ") _ c.in-Some.ensures.stands h.stands (omega arith)) c.read_start.ensures.stands

pub returns-clause-further : goal.returns-clause-further
returns-clause-further c =
    if_map c.read_wake.result (λ end h. further c.args.bytes.now c.args.at c.in_ok-at.at end (codes "wake ") _ c.in_ok-at.ensures.stands h.stands (omega arith)) c.read_wake.ensures.stands

pub returns-in-Some-clause-small : goal.returns-in-Some-clause-small
returns-in-Some-clause-small c = if_map c.read_start.result (λ end h. h.small) c.read_start.ensures.stands

pub returns-clause-small : goal.returns-clause-small
returns-clause-small c = if_map c.read_wake.result (λ end h. h.small) c.read_wake.ensures.stands
