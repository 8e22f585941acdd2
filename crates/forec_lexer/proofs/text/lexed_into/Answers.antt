use Rattle.std.proofs.Common.{◌≡◌, ◌+◌, ◌-◌, ◌≤◌, List, [], length, take, drop, refl, sym, ap, subst, ◌∙◌, arith, length-take}
use Rattle.std.proofs.lemmas.List.{take_rest}
use Rattle.std.proofs.lemmas.Result.{err_from_is_err_and}
use Rattle.forec_tree.specs.declared.token.Token.{Token}
use Rattle.forec_tree.specs.Lexis.{NextPiece, NothingFits}
use Rattle.forec_tree.specs.LexedText.{Cuts, token_kind_of, names_after, slice, place_at, place_after}
use Rattle.std.specs.List.{fold}
use Rattle.forec_lexer.specs.Reading.{shown}
use Rattle.forec_lexer.specs.Answers.{kept, IsFull, HasLexCause}
use Rattle.forec_lexer.proofs.Whole.{start, turn, full, at_end, at_stop, place_step, place_within, named}
use Rattle.forec_lexer.proofs.text.lexed_into.Goals as goal

pub loop-at-init : goal.loop-at-init
loop-at-init c =
    let t : c.args.tokens.now.items ≡ [] = c.requires.no_tokens in
    let n : c.args.names.now.labels ≡ [] = c.requires.no_names in
    record { within = omega arith; cuts = start c.args.text.now c.args.tokens.now.items c.args.names.now.labels t n; few = rw t (omega arith); place = refl; same = c.requires.same }

pub returns-in_default-clause-err : goal.returns-in_default-clause-err
returns-in_default-clause-err c =
    let i = c.loop-at.invariant in
    let stops : NothingFits (drop c.loop-at.at c.args.text.now) = rw (take_rest c.args.text.now c.loop-at.at) at c.in_default.ensures.none in
    at_stop c.args.text.now c.loop-at.tokens.items c.loop-at.names.labels c.loop-at.at c.loop-at.place i.cuts stops (omega arith) i.few i.place

pub kind_of-requires-clause-few : goal.kind_of-requires-clause-few
kind_of-requires-clause-few c = let n = (named c.loop-at.invariant.cuts).few in let f = c.loop-at.invariant.few in omega (arith, n, f)

pub returns-in_err-keep-clause-err : goal.returns-in_err-keep-clause-err
returns-in_err-keep-clause-err c =
    let i = c.loop-at.invariant in
    let rest = take_rest c.args.text.now c.loop-at.at in
    let next : NextPiece (drop c.loop-at.at c.args.text.now) (shown c.in-Some.piece) c.in-Some.len = rw rest at c.in-Some.ensures.found in
    let kind : c.in_ok-kind.kind ≡ token_kind_of c.loop-at.names.labels (shown c.in-Some.piece) (slice c.args.text.now c.loop-at.at c.in-Some.len) = rw rest at c.in_ok-kind.ensures.kind in
    let is_full : IsFull c.loop-at.tokens.items c.in_ok-kind.kind (place_at c.args.text.now c.loop-at.at) c.in_err-keep.field-0.0 = rw i.place at c.in_err-keep.ensures.err in
    let cause : HasLexCause c.args.text.now c.in_err-keep.field-0.0 =
    full c.args.text.now c.loop-at.tokens.items c.loop-at.names.labels c.loop-at.at c.in-Some.len (shown c.in-Some.piece) c.in_ok-kind.kind c.in_err-keep.field-0.0 i.cuts next kind is_full in
    let p = err_from_is_err_and c.from_residual-in_err-keep.result c.from_residual-in_err-keep.ensures.1 in
    rw (p.1, p.2) cause

pub place_behind-place-requires-clause-line : goal.place_behind-place-requires-clause-line
place_behind-place-requires-clause-line c =
    let i = c.loop-at.invariant in
    let b = (place_within c.args.text.now c.loop-at.at i.within).line in
    let e : c.loop-at.place.line ≡ (place_at c.args.text.now c.loop-at.at).line = ap (λ p. p.line) i.place in
    omega (arith, b, e, length-take c.in-Some.len (take (length c.args.text.now - c.loop-at.at) (drop c.loop-at.at c.args.text.now)), c.in-Some.ensures.within, length-take (length c.args.text.now - c.loop-at.at) (drop c.loop-at.at c.args.text.now))

pub place_behind-place-requires-clause-column : goal.place_behind-place-requires-clause-column
place_behind-place-requires-clause-column c =
    let i = c.loop-at.invariant in
    let b = (place_within c.args.text.now c.loop-at.at i.within).column in
    let e : c.loop-at.place.column ≡ (place_at c.args.text.now c.loop-at.at).column = ap (λ p. p.column) i.place in
    omega (arith, b, e, length-take c.in-Some.len (take (length c.args.text.now - c.loop-at.at) (drop c.loop-at.at c.args.text.now)), c.in-Some.ensures.within, length-take (length c.args.text.now - c.loop-at.at) (drop c.loop-at.at c.args.text.now))

pub loop-at-preserved : goal.loop-at-preserved
loop-at-preserved c =
    let i = c.loop-at.invariant in
    let rest = take_rest c.args.text.now c.loop-at.at in
    let next : NextPiece (drop c.loop-at.at c.args.text.now) (shown c.in-Some.piece) c.in-Some.len = rw rest at c.in-Some.ensures.found in
    let kind : c.in_ok-kind.kind ≡ token_kind_of c.loop-at.names.labels (shown c.in-Some.piece) (slice c.args.text.now c.loop-at.at c.in-Some.len) = rw rest at c.in_ok-kind.ensures.kind in
    let after : c.kind_of.new.names.labels ≡ names_after c.loop-at.names.labels (shown c.in-Some.piece) (slice c.args.text.now c.loop-at.at c.in-Some.len) = rw rest at c.in_ok-kind.ensures.after in
    let tokens : c.keep.new.tokens.items ≡ kept c.loop-at.tokens.items c.in_ok-kind.kind c.loop-at.at (c.loop-at.at + c.in-Some.len) (place_at c.args.text.now c.loop-at.at) =
    c.in_ok-keep.ensures.ok ∙ ap (kept c.loop-at.tokens.items c.in_ok-kind.kind c.loop-at.at (c.loop-at.at + c.in-Some.len)) i.place in
    let size : c.loop-at.at + c.in-Some.len ≤ length c.args.text.now = omega (arith, c.in-Some.ensures.within, length-take (length c.args.text.now - c.loop-at.at) (drop c.loop-at.at c.args.text.now)) in
    let behind : c.place_behind-place.result ≡ fold place_after c.loop-at.place (slice c.args.text.now c.loop-at.at c.in-Some.len) = rw rest at c.place_behind-place.ensures in
    let P : List Token → Type 0 = λ z. Cuts c.args.text.now z c.kind_of.new.names.labels (c.loop-at.at + c.in-Some.len) in
    record {
      within = size;
      cuts = subst P (sym tokens) (turn c.args.text.now c.loop-at.tokens.items c.loop-at.names.labels c.kind_of.new.names.labels c.loop-at.at c.in-Some.len (shown c.in-Some.piece) c.in_ok-kind.kind i.cuts next kind after);
      few = c.in_ok-keep.ensures.few;
      place =
          behind ∙ ap (λ q. fold place_after q (slice c.args.text.now c.loop-at.at c.in-Some.len)) i.place
          ∙ sym (place_step c.args.text.now c.loop-at.at c.in-Some.len);
      same = c.in_ok-kind.ensures.same;
    }

pub returns-clause-ok : goal.returns-clause-ok
returns-clause-ok c =
    let i = c.loop-at.invariant in
    at_end c.args.text.now c.loop-at.tokens.items c.loop-at.names.labels c.loop-at.at i.cuts i.within (omega arith) i.few
