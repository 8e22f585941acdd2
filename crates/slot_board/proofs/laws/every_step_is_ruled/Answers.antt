use Rattle.std.proofs.Common.{refl, map, Some}
use Rattle.copy_slots.proofs.MailLemmas.{opens, collects, offers, takes_job, answers_job}
use Rattle.copy_slots.proofs.Dealing.{checks, stores, deals, starts}
use Rattle.copy_slots.proofs.RuleLemmas.{between}
use Rattle.slot_board.proofs.SplitLemmas.{parts, idles, merges}
use Rattle.slot_board.proofs.laws.every_step_is_ruled.Goals as goal

pub returns : goal.returns
returns g c = λ work blanks. let plain = g.W.Work.plain in let asks = g.W.Work.asks in let answers = g.W.Work.answers in record {
  start = λ packets words blank wide zeros. starts plain asks answers work blanks words packets (map Some packets) refl blank wide zeros;
  first = opens plain asks answers work blanks;
  collect = collects plain asks answers work blanks;
  offer = offers plain asks answers work blanks;
  take = takes_job plain asks answers work blanks;
  answer = answers_job plain asks answers work blanks;
  check = checks plain asks answers work blanks;
  stop = stores plain asks answers work blanks;
  deal = deals plain asks answers work blanks;
  part = parts plain asks answers work blanks;
  watch = idles plain asks answers work blanks;
  join = merges plain asks answers work blanks;
  between = between plain asks answers work blanks;
}
