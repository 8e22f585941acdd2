use Rattle.std.proofs.Common.{◌∙◌, refl, ap, sym}
use Rattle.forec_kernel.specs.Plain.{stmts}
use Rattle.forec_kernel.specs.Texts as plain
use Rattle.forec_kernel.specs.Texts.{texts_of}
use Rattle.forec_kernel.specs.Steps.{Moves}
use Rattle.running_threads.specs.Views.{plain_loop}
use Rattle.running_threads.proofs.Plugs.{resumed_as}
use Rattle.running_threads.proofs.frames.resume.Goals as goal

pub returns-in_ok-start_list-in-Some-Rest : goal.returns-in_ok-start_list-in-Some-Rest
returns-in_ok-start_list-in-Some-Rest c =
    record {
      by = λ w cs.
          resumed_as c.args.frames.now.items c.pop.new.self.items _ _ (texts_of (stmts c.in-Some-Rest.list.now)) c.in-Some-Rest.ensures.items
          c.in-Some-Rest.field-0-is (λ w cs. refl) w cs
          ∙ ap (λ R. Moves R w cs 0) (sym c.in_ok-start_list-in-Some-Rest.ensures);
    }

pub returns-in-Some-Again : goal.returns-in-Some-Again
returns-in-Some-Again c =
    record {
      by = resumed_as c.args.frames.now.items c.pop.new.self.items _ _ (plain.Turning (plain_loop c.in-Some-Again.turn)) c.in-Some-Again.ensures.items
          c.in-Some-Again.field-0-is (λ w cs. refl);
    }

pub returns-in-Some-Watch : goal.returns-in-Some-Watch
returns-in-Some-Watch c =
    record {
      by = resumed_as c.args.frames.now.items c.pop.new.self.items _ _ plain.Done c.in-Some-Watch.ensures.items
          c.in-Some-Watch.field-0-is (λ w cs. refl);
    }

pub returns-in-Some-Last : goal.returns-in-Some-Last
returns-in-Some-Last c =
    record {
      by = resumed_as c.args.frames.now.items c.pop.new.self.items _ _ plain.Done c.in-Some-Last.ensures.items
          c.in-Some-Last.field-0-is (λ w cs. refl);
    }
