use Rattle.running_texts.proofs.Words.{function_words_at, function_words_past}
use Rattle.running_texts.proofs.functions.function_word_count.Goals as goal

pub returns-then-function-functions : goal.returns-then-function-functions
returns-then-function-functions c = function_words_at c.args.functions.now c.args.function _ c.if-function-functions.true

pub returns-else-function-functions : goal.returns-else-function-functions
returns-else-function-functions c = function_words_past c.args.functions.now c.args.function c.if-function-functions.false
