use Rattle.std.proofs.Common.{◌≤◌, ◌++◌, ◌+◌, length, drop, codes, string_bytes, ap, ◌∙◌, arith}
use Rattle.wave_dump.specs.Wave.{scope_lines, declaration, declarations}
use Rattle.wave_dump.proofs.WritingLemmas.{step_on, declarations_step, declarations_end}
use Rattle.wave_dump.proofs.edges.head.Goals as goal

pub loop-k-preserved : goal.loop-k-preserved
loop-k-preserved c =
    let names = c.args.names.now in
    let k = c.loop-k.k in
    let name = c.get.result.now in
    step_on (string_bytes c.loop-k.text) (declaration k name) (declarations (k + 1) (drop (k + 1) names)) (string_bytes c.declare.new.text) (scope_lines ++ declarations 0 names) (declarations k (drop k names))
    c.in_ok-declare.ensures (declarations_step names k name c.get.ensures) c.loop-k.invariant

pub returns : goal.returns
returns c =
    let names = c.args.names.now in
    c.in_ok-push_str.ensures.bytes
    ∙ ap (λ x. x ++ codes "$upscope $end\n$enddefinitions $end\n") (declarations_end names c.loop-k.k (string_bytes c.loop-k.text) (scope_lines ++ declarations 0 names) (omega arith) c.loop-k.invariant)
