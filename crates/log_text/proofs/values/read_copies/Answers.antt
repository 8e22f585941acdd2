use Rattle.std.proofs.Common.{◌≡◌, ◌+◌, List, [], ◌∷◌, ◌++◌, length, set, take, sym, ap, subst, ◌∙◌, arith}
use Rattle.std.proofs.lemmas.List.{length-set, length-take-le, take_all, take_more_set}
use Rattle.forec_kernel.specs.declared.shape.VarCopy.{VarCopy}
use Rattle.log_text.proofs.ValueLemmas.{Marked, marked_more, marked_all, copy_next}
use Rattle.log_text.proofs.values.read_copies.Goals as goal

pub loop-i-preserved : goal.loop-i-preserved
loop-i-preserved c =
    let copy = c.in_ok-copy.copy in
    let front : take (c.loop-i.i + 1) (set c.loop-i.copies c.loop-i.i copy) ≡ take c.loop-i.i c.loop-i.copies ++ copy ∷ [] = take_more_set c.loop-i.copies c.loop-i.i copy (omega arith) in
    record {
      same = length-set c.loop-i.copies c.loop-i.i copy ∙ c.loop-i.invariant.same;
      read = subst (λ (l : List VarCopy). Marked c.args.bytes.now c.args.at l c.in_ok-copy.next) (sym front)
          (marked_more c.args.bytes.now c.args.at c.loop-i.end c.in_ok-copy.next (take c.loop-i.i c.loop-i.copies) copy c.loop-i.invariant.read c.in_ok-copy.ensures.stands c.in_ok-copy.ensures.only);
    }

pub returns-in_err-copy-clause-only : goal.returns-in_err-copy-clause-only
returns-in_err-copy-clause-only c = λ cs rest size fit stop e.
    let few = length-take-le c.loop-i.i c.loop-i.copies (omega arith) in
    absurd (copy_next c.args.bytes.now c.args.at c.loop-i.end (take c.loop-i.i c.loop-i.copies) cs rest c.loop-i.invariant.read fit stop (omega arith) e
    (λ d more f s t. c.in_err-copy.ensures.only d more f s t))

pub returns-clause-only : goal.returns-clause-only
returns-clause-only c = λ cs rest size fit stop e.
    let all : take c.loop-i.i c.loop-i.copies ≡ c.loop-i.copies = take_all c.loop-i.i c.loop-i.copies (omega arith) in
    let r = marked_all c.args.bytes.now c.args.at c.loop-i.end (take c.loop-i.i c.loop-i.copies) cs rest c.loop-i.invariant.read fit stop (omega (arith, ap (λ (l : List VarCopy). length l) all)) e in
    (r.0, sym all ∙ r.1)

pub returns-clause-stands : goal.returns-clause-stands
returns-clause-stands c =
    let all : take c.loop-i.i c.loop-i.copies ≡ c.loop-i.copies = take_all c.loop-i.i c.loop-i.copies (omega arith) in
    let read = subst (λ (l : List VarCopy). Marked c.args.bytes.now c.args.at l c.loop-i.end) all c.loop-i.invariant.read in
    record { ints = read.ints; stands = read.stands }
