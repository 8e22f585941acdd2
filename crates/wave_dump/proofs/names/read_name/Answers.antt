use Rattle.std.proofs.Common.{rules, ◌≡◌, ◌<◌, ◌++◌, ◌∷◌, [], true, length, string_bytes, get_or, sym, ap, ◌∙◌, arith}
use Rattle.wave_dump.specs.Machine.{is_shown_byte}
use Rattle.wave_dump.proofs.NameLemmas.{name_goes_on, no_blank, unshown_low}
use Rattle.wave_dump.proofs.names.read_name.Goals as goal

pub loop-at-preserved : goal.loop-at-preserved
loop-at-preserved c =
    let bytes = c.args.bytes.now in
    let at = c.loop-at.at in
    let inv = c.loop-at.invariant in
    let low : at < length bytes = c.loop-at-test.true in
    let h : is_shown_byte (get_or bytes at 0) ≡ true = sym c.is_shown.ensures ∙ c.if-is_shown.true in
    let char : c.from.result ≡ c.unshown.result = search rules in
    let shown : c.unshown.result < 128 = let u = c.unshown.ensures in let low = unshown_low (get_or bytes at 0) h in omega arith in
    let all : string_bytes c.push.new.self ≡ string_bytes c.loop-at.name ++ c.unshown.result ∷ [] =
    c.in_ok-push.ensures.bytes ∙ ap (λ x. string_bytes c.loop-at.name ++ x) (c.in_ok-push.ensures.ascii (omega arith) ∙ ap (λ x. x ∷ []) char) in
    record {
      low = omega arith;
      within = omega arith;
      same = λ names. inv.same names ∙ name_goes_on bytes at names (string_bytes c.loop-at.name) (string_bytes c.push.new.self) c.unshown.result low h (no_blank (get_or bytes at 0) h) c.unshown.ensures all;
    }
