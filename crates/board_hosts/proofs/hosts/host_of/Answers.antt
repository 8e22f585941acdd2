use Rattle.std.proofs.Common.{Some, [], sym, ap, ◌∙◌, subst}
use Rattle.tick_jobs.specs.Ticks.{RanNone, HasRun}
use Rattle.core_host.specs.Hosted.{Hosted, is_here}
use Rattle.core_host.specs.Runs.{ticking}
use Rattle.board_hosts.proofs.hosts.host_of.Goals as goal

pub returns : goal.returns
returns c =
    let made = c.in_ok-host.ensures in
    let hung = c.hang.ensures.hung in
    record {
      code = ap (λ (h : Hosted). h.code) hung ∙ made.code_is;
      places = ap (λ (h : Hosted). h.places) hung ∙ made.places;
      cores = ap (λ (h : Hosted). h.cores) hung ∙ made.cores_are;
      rope = ap (λ (h : Hosted). h.rope) hung ∙ ap Some c.requires.rope;
      none = λ e. let none = made.none (sym (ap (λ (h : Hosted). is_here h 0) hung) ∙ e) in record {
        live = ap (λ (h : Hosted). h.live) hung ∙ none.live;
        blank = ap (λ (h : Hosted). h.root.kind) hung ∙ none.blank;
        turns = c.hang.ensures.turns [] none.turns;
        jobs = c.hang.ensures.jobs [] none.jobs;
      };
    }
