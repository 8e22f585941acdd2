-- What a thread starts with.
use Rattle.std.specs.Prelude.{ℕ, ℤ, List, take}
use Rattle.forec_kernel.specs.Shapes.{PlainKernel}
use Rattle.forec_kernel.specs.Texts.{params_of, words_of}
use Rattle.forec_kernel.specs.Values.{fresh_words}

-- the words of a thread that starts: its arguments, no more than it has parameters, and zeros
abbrev pub first_words : PlainKernel → ℕ → List ℤ → List ℤ
first_words k thread args = fresh_words (take (params_of k thread) args) (words_of k thread)
