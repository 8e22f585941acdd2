use Rattle.std.proofs.Common.{codes, refl, arith}
use Rattle.forec_kernel.specs.Engine.{WasOver}
use Rattle.log_text.proofs.LineReads.{further, if_map, paused_read, ended_read, trapped_read, trapped_only, over_is}
use Rattle.log_text.proofs.lines.read_reply.Goals as goal

pub returns-in-Some-clause-stands : goal.returns-in-Some-clause-stands
returns-in-Some-clause-stands c = λ s t room.
    let k = c.read_rest.ensures.room in
    paused_read s t c.args.bytes.now c.args.at c.in-Some.at c.args.packet.now c.read_rest.new.packet c.read_rest.result room (record { args = k.args; copies = k.copies }) c.read_rest.ensures.kind
    c.in-Some.ensures.stands c.read_rest.ensures.stands

pub returns-in-Some-expect-clause-stands : goal.returns-in-Some-expect-clause-stands
returns-in-Some-expect-clause-stands c = λ s t room.
    let k = c.read_rest-in-Some-expect.ensures.room in
    ended_read s t c.args.bytes.now c.args.at c.in-Some-expect.at c.args.packet.now c.read_rest-in-Some-expect.new.packet c.read_rest-in-Some-expect.result room (record { args = k.args; copies = k.copies })
    c.read_rest-in-Some-expect.ensures.kind c.in-Some-expect.ensures.stands c.read_rest-in-Some-expect.ensures.stands

pub returns-in-Some-expect-2-clause-stands : goal.returns-in-Some-expect-2-clause-stands
returns-in-Some-expect-2-clause-stands c = λ s t room.
    trapped_read s t c.args.bytes.now c.args.at c.in-Some-expect-2.at c.read_trapped.new.packet c.read_trapped.result c.in-Some-expect-2.ensures.stands c.read_trapped.ensures.stands

pub returns-in-Some-expect-2-clause-only : goal.returns-in-Some-expect-2-clause-only
returns-in-Some-expect-2-clause-only c = λ s t r rest room is e.
    trapped_only s t c.args.bytes.now c.args.at c.in-Some-expect-2.at c.read_trapped.new.packet c.read_trapped.result r rest is c.in-Some-expect-2.ensures.stands e c.in_default.ensures.only c.in_default-expect.ensures.only c.read_trapped.ensures.only

pub returns-in_err-end-clause-only : goal.returns-in_err-end-clause-only
returns-in_err-end-clause-only c = λ s t r rest room is e.
    let o = over_is c.args.bytes.now c.args.at r rest e c.in_default.ensures.only c.in_default-expect.ensures.only c.in_default-expect-2.ensures.only in
    absurd (c.in_err-end.ensures.only rest o.1)

pub returns-clause-stands : goal.returns-clause-stands
returns-clause-stands c = λ s t room. record {
  reply = WasOver;
  fits = record { fits = tt; numbers = tt };
  is = refl;
  stands = c.in_ok-end.ensures.stands;
}

pub returns-clause-only : goal.returns-clause-only
returns-clause-only c = λ s t r rest room is e.
    let o = over_is c.args.bytes.now c.args.at r rest e c.in_default.ensures.only c.in_default-expect.ensures.only c.in_default-expect-2.ensures.only in
    (c.in_ok-end.ensures.only rest o.1, rw o.0 refl)

pub returns-in-Some-clause-further : goal.returns-in-Some-clause-further
returns-in-Some-clause-further c =
    if_map c.read_rest.result (λ end h. further c.args.bytes.now c.args.at c.in-Some.at end (codes "paused ") _ c.in-Some.ensures.stands h.stands (omega arith)) c.read_rest.ensures.stands

pub returns-in-Some-expect-clause-further : goal.returns-in-Some-expect-clause-further
returns-in-Some-expect-clause-further c =
    if_map c.read_rest-in-Some-expect.result (λ end h. further c.args.bytes.now c.args.at c.in-Some-expect.at end (codes "ended ") _ c.in-Some-expect.ensures.stands h.stands (omega arith)) c.read_rest-in-Some-expect.ensures.stands

pub returns-in-Some-expect-2-clause-further : goal.returns-in-Some-expect-2-clause-further
returns-in-Some-expect-2-clause-further c =
    if_map c.read_trapped.result (λ end h. further c.args.bytes.now c.args.at c.in-Some-expect-2.at end (codes "trapped ") _ c.in-Some-expect-2.ensures.stands h.stands (omega arith)) c.read_trapped.ensures.stands
