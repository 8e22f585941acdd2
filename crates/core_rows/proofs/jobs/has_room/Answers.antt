use Rattle.std.proofs.Common.{◌≡◌, sym, ◌∙◌, ap, length, map}
use Rattle.forec_kernel.specs.Shapes.{plain_thread}
use Rattle.forec_kernel.specs.Texts.{params_in, uses_in}
use Rattle.thread_state.proofs.Indexed.{equal_of}
use Rattle.thread_state.proofs.Shapes.{read_params}
use Rattle.core_machine.proofs.Jobs.{read_uses}
use Rattle.core_rows.proofs.jobs.has_room.Goals as goal

pub returns-then-len-thread : goal.returns-then-len-thread
returns-then-len-thread c same =
    let list : c.deref.result.now ≡ c.args.code.now.shape.threads.items = cc in
    let found = c.in-Some.ensures.lookup.3 in
    let params = read_params c.deref.result.now c.args.thread c.in-Some.thread.now found.0 (found.1 c.in-Some.thread.now) in
    let uses = read_uses c.deref.result.now c.args.thread c.in-Some.thread.now found.0 (found.1 c.in-Some.thread.now) in
    let many : length c.args.packet.now.args.items ≡ c.in-Some.thread.now.params = sym c.args.packet.now.args.ok.0 ∙ sym c.len.ensures ∙ c.if-len-thread.true in
    let all : length c.args.packet.now.copies.items ≡ length c.in-Some.thread.now.uses.items =
    sym c.args.packet.now.copies.ok.0
    ∙ sym c.len-then-len-thread.ensures
    ∙ equal_of c.len-then-len-thread.result c.len-then-len-thread-2.result same
    ∙ c.len-then-len-thread-2.ensures
    ∙ c.in-Some.thread.now.uses.ok.0 in
    record {
      args = many ∙ sym params ∙ ap (λ xs. params_in (map plain_thread xs) c.args.thread) list;
      copies = all ∙ ap length (sym uses ∙ ap (λ xs. uses_in (map plain_thread xs) c.args.thread) list);
    }
