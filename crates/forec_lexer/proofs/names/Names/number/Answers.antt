use Rattle.std.proofs.Common.{◌∙◌, ap}
use Rattle.std.specs.List.{list_any}
use Rattle.std.proofs.lemmas.Str.{IsUtf8-from_ascii}
use Rattle.forec_tree.specs.LexedText.{name_number, with_spelt_name}
use Rattle.forec_lexer.specs.declared.names.Names.{Names}
use Rattle.forec_lexer.proofs.NameLemmas.{same, after_old, after_new, number_among, not_true, not_false}
use Rattle.forec_lexer.proofs.names.Names.number.Goals as goal
use Rattle.forec_lexer.proofs.names.Names.number.Goals.{then-is_new+in_ok-push, else-is_new}

pub unreachable-requires : goal.unreachable-requires
unreachable-requires c = c.in_default.ensures.cases.0 (IsUtf8-from_ascii c.args.name.now c.requires.ascii)

pub returns-clause-number : goal.returns-clause-number
returns-clause-number c =
    number_among c.args.self.now.set.keys c.in-Ok.name c.args.self.now.labels c.in-Ok-insert_full.id c.requires.same c.in-Ok-insert_full.ensures.index
    ∙ ap (name_number c.args.self.now.labels) c.in-Ok.ensures.cases.0

pub returns-clause-after : goal.returns-clause-after
returns-clause-after c = elim c.if-is_new.branch [
  | then-is_new+in_ok-push w ↦
      let new = not_true (list_any (same c.in-Ok.name) c.args.self.now.set.keys) c.in-Ok-insert_full.is_new c.in-Ok-insert_full.ensures.added w.if-is_new.true in
      ap (λ (n : Names). n.labels) w.self-is ∙ w.in_ok-push.ensures.ok ∙ after_new c.args.self.now.set.keys c.in-Ok.name c.args.self.now.labels c.requires.same new
      ∙ ap (with_spelt_name c.args.self.now.labels) c.in-Ok.ensures.cases.0
  | else-is_new w ↦
      let old = not_false (list_any (same c.in-Ok.name) c.args.self.now.set.keys) c.in-Ok-insert_full.is_new c.in-Ok-insert_full.ensures.added w.if-is_new.false in
      ap (λ (n : Names). n.labels) w.self-is ∙ after_old c.args.self.now.set.keys c.in-Ok.name c.args.self.now.labels c.requires.same old
      ∙ ap (with_spelt_name c.args.self.now.labels) c.in-Ok.ensures.cases.0
]
