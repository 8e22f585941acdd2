use Rattle.std.proofs.Common.{◌∙◌, ap, ◌++◌, append-nil, map, arith}
use Rattle.std.proofs.lemmas.List.{nil_from_length}
use Rattle.loop_check.specs.Views.{indexed_text}
use Rattle.lower_names.specs.Views.{of_thread, pending_threads, threads_of, threads_on}
use Rattle.body_lower.proofs.Pended.{thread_next, fewer_left, threads_end}
use Rattle.body_lower.proofs.threads.threads_below.Goals as goal

pub loop-one-init : goal.loop-one-init
loop-one-init c =
    let text = indexed_text c.args.source.now.globals.index in
    let pending = c.args.state.pending.items in
    record {
      threads =
          ap (λ l. map of_thread l ++ threads_on text c.stacked.new.stack.items) c.new-threads.ensures.items
          ∙ (c.in_ok-stacked.ensures.stack text ∙ (ap (λ l. pending_threads text pending ++ threads_on text l) c.new-stack.ensures.items ∙ append-nil (pending_threads text pending)));
      none = c.in_ok-stacked.ensures.none;
    }

pub loop-one-preserved : goal.loop-one-preserved
loop-one-preserved c =
    let text = indexed_text c.args.source.now.globals.index in
    record {
      threads =
          thread_next text c.loop-one.threads.items c.push.new.self.items c.in_ok-thread.thread c.loop-one.stack.items c.pop.new.self.items c.in-Some.one (threads_of text c.translated.new.state)
          (threads_on text c.stacked-in-Some.new.stack.items) c.in-Some.ensures.items c.in_ok-thread.ensures (c.in_ok-stacked-2.ensures.stack text) _ c.in_ok-push.ensures.items c.loop-one.invariant.threads;
      none = c.in_ok-stacked-2.ensures.none;
    }

pub loop-one-smaller : goal.loop-one-smaller
loop-one-smaller c =
    let text = indexed_text c.args.source.now.globals.index in
    fewer_left text c.loop-one.threads.items c.push.new.self.items c.in_ok-thread.thread c.loop-one.stack.items c.pop.new.self.items c.in-Some.one (threads_of text c.translated.new.state)
    (threads_on text c.stacked-in-Some.new.stack.items) c.in-Some.ensures.items c.in_ok-thread.ensures (c.in_ok-stacked-2.ensures.stack text)

pub returns : goal.returns
returns c =
    threads_end (indexed_text c.args.source.now.globals.index) c.loop-one.threads.items c.loop-one.stack.items _ (nil_from_length c.loop-one.stack.items (let e = c.in_default.ensures.cases.0 in omega (arith, e))) c.loop-one.invariant.threads
