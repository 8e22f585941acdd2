use Rattle.forec_lexer.proofs.Exact.{only_lexed, only_bad, only_many, names_spelt, names_few, names_distinct, ids_small, tokens_in_order, names_numbered}
use Rattle.forec_lexer.proofs.text.lex.Goals as goal

pub returns-clause-lexed : goal.returns-clause-lexed
returns-clause-lexed c = only_lexed c.args.text.now c.lexed_text.result c.lexed_text.ensures.ok c.lexed_text.ensures.err

pub returns-clause-bad : goal.returns-clause-bad
returns-clause-bad c = only_bad c.args.text.now c.lexed_text.result c.lexed_text.ensures.ok c.lexed_text.ensures.err

pub returns-clause-many : goal.returns-clause-many
returns-clause-many c = only_many c.args.text.now c.lexed_text.result c.lexed_text.ensures.ok c.lexed_text.ensures.err

pub returns-clause-spelt : goal.returns-clause-spelt
returns-clause-spelt c = names_spelt c.args.text.now c.lexed_text.result c.lexed_text.ensures.ok

pub returns-clause-few : goal.returns-clause-few
returns-clause-few c = names_few c.args.text.now c.lexed_text.result c.lexed_text.ensures.ok

pub returns-clause-distinct : goal.returns-clause-distinct
returns-clause-distinct c = names_distinct c.args.text.now c.lexed_text.result c.lexed_text.ensures.ok

pub returns-clause-order : goal.returns-clause-order
returns-clause-order c = tokens_in_order c.args.text.now c.lexed_text.result c.lexed_text.ensures.ok

pub returns-clause-numbers : goal.returns-clause-numbers
returns-clause-numbers c = names_numbered c.args.text.now c.lexed_text.result c.lexed_text.ensures.ok

pub returns-clause-ids : goal.returns-clause-ids
returns-clause-ids c = ids_small c.args.text.now c.lexed_text.result c.lexed_text.ensures.ok
