-- The places in the kernel of a program.
use Rattle.forec_tree.specs.declared.token.Token.{Token}
use Rattle.log_ranges.specs.Places.{IsPlace, places}
use Rattle.text_ranges.proofs.Tokens.{TokenHolds, lexed_holds}
use Rattle.text_ranges.proofs.Trees.{HasSmall}
use Rattle.text_ranges.proofs.Spelled.{spelled_holds}
use Rattle.text_ranges.proofs.Bodies.{all_into, bodies_hold}
use Rattle.text_places.specs.Laws.{SpelledProgramsHavePlaces}
use Rattle.text_places.proofs.Tokens.{cuts_places}

any_number : HasSmall places
any_number = record { small = λ k few. tt; minus = λ n h. tt }

pub spelled_programs_have_places : SpelledProgramsHavePlaces
spelled_programs_have_places bytes tokens names limit program small lexed spelled =
    let all = all_into (λ (t : Token). IsPlace t.place) (TokenHolds places) (λ t place. record { number = λ value is. tt; place = place }) tokens (cuts_places small lexed.lexes.cuts) in
    bodies_hold places any_number program names
    (spelled_holds places any_number limit program tokens spelled (lexed_holds places bytes tokens names spelled.spelt lexed spelled.are all))
