use Rattle.std.proofs.Common.{ap, subst, arith}
use Rattle.core_seats.specs.Posts.{Mail}
use Rattle.exchange_log.specs.Kept.{Logging, KeepsMail}
use Rattle.exchange_log.proofs.PortLines.{has, has_room, lines_are, is_within}
use Rattle.exchange_log.proofs.port.LogPort.lines.Goals as goal

pub put_pair-requires-clause-there : goal.put_pair-requires-clause-there
put_pair-requires-clause-there g c =
    let b = c.self.inside.book in
    let kept = subst (λ (m : Mail). KeepsMail m b) (ap (λ (l : Logging). l.mail) c.self.view_is) c.self.invariant in
    let words = ap (λ (l : Logging). l.words) c.self.view_is in
    has c.args.self.now.mail b c.args.k c.args.j kept c.requires.parent (omega (arith, c.requires.kept, words)) c.requires.there c.requires.replied

pub put_pair-requires-clause-room : goal.put_pair-requires-clause-room
put_pair-requires-clause-room g c =
    let b = c.self.inside.book in
    let kept = subst (λ (m : Mail). KeepsMail m b) (ap (λ (l : Logging). l.mail) c.self.view_is) c.self.invariant in
    let words = ap (λ (l : Logging). l.words) c.self.view_is in
    has_room c.args.self.now.mail b c.args.k c.args.j kept c.requires.parent (omega (arith, c.requires.kept, words)) c.requires.there c.requires.replied _ c.requires.room

pub returns-clause-lines : goal.returns-clause-lines
returns-clause-lines g c =
    let b = c.self.inside.book in
    let kept = subst (λ (m : Mail). KeepsMail m b) (ap (λ (l : Logging). l.mail) c.self.view_is) c.self.invariant in
    let words = ap (λ (l : Logging). l.words) c.self.view_is in
    lines_are c.args.self.now.mail b c.args.k c.args.j kept c.requires.parent (omega (arith, c.requires.kept, words)) c.requires.there c.requires.replied _ c.put_pair.ensures.lines

pub returns-clause-within : goal.returns-clause-within
returns-clause-within g c =
    let b = c.self.inside.book in
    let kept = subst (λ (m : Mail). KeepsMail m b) (ap (λ (l : Logging). l.mail) c.self.view_is) c.self.invariant in
    let words = ap (λ (l : Logging). l.words) c.self.view_is in
    is_within c.args.self.now.mail b c.args.k c.args.j kept c.requires.parent (omega (arith, c.requires.kept, words)) c.requires.there c.requires.replied _ c.put_pair.ensures.within
