use Rattle.std.proofs.Common.{rules, ◌≡◌, ◌<◌, ◌++◌, ◌∷◌, [], ◌+◌, codes, string_bytes, ap, ◌∙◌, arith}
use Rattle.wave_dump.specs.Wave.{output_letter, shown_name}
use Rattle.wave_dump.proofs.WritingLemmas.{shown_chars, declared_text}
use Rattle.wave_dump.proofs.edges.declare.Goals as goal

pub returns : goal.returns
returns c =
    let old = string_bytes c.args.text.now in
    let name = c.args.name.now in
    let l = output_letter c.args.k in
    let begun : string_bytes c.push_str.new.self ≡ old ++ codes "$var wire 32 " = c.in_ok-push_str.ensures.bytes in
    let small : c.from.result < 128 = let is = c.from.ensures in omega arith in
    let letter : string_bytes c.push.new.self ≡ string_bytes c.push_str.new.self ++ l ∷ [] =
    c.in_ok-push.ensures.bytes ∙ ap (λ x. string_bytes c.push_str.new.self ++ x) (c.in_ok-push.ensures.ascii small ∙ ap (λ x. x ∷ []) c.from.ensures) in
    let blank : string_bytes c.push_str-2.new.self ≡ string_bytes c.push.new.self ++ 32 ∷ [] = c.in_ok-push_str-2.ensures.bytes in
    let shown : string_bytes c.push_str-3.new.self ≡ string_bytes c.push_str-2.new.self ++ shown_name name =
    c.in_ok-push_str-3.ensures.bytes ∙ ap (λ x. string_bytes c.push_str-2.new.self ++ x) (c.as_str.ensures.value ∙ c.in_ok-shown.ensures ∙ shown_chars name c.utf8.name) in
    let closed : string_bytes c.push_str-4.new.self ≡ string_bytes c.push_str-3.new.self ++ codes " $end\n" = c.in_ok-push_str-4.ensures.bytes in
    closed
    ∙ ap (λ x. x ++ codes " $end\n") (shown ∙ ap (λ x. x ++ shown_name name) (blank ∙ ap (λ x. x ++ 32 ∷ []) (letter ∙ ap (λ x. x ++ l ∷ []) begun)))
    ∙ declared_text old (codes "$var wire 32 ") (shown_name name) (codes " $end\n") l
