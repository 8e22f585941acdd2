use Rattle.std.proofs.Common.{◌≡◌, ◌++◌, ℕ, List, drop, sym, ap, ◌∙◌}
use Rattle.exchange_meaning.specs.LogLines.{exchange_lines}
use Rattle.log_text.proofs.log.Log.next_reply.Goals as goal

pub returns-clause-reply : goal.returns-clause-reply
returns-clause-reply c = λ s t r left room h.
    let same : c.deref.result.now ≡ c.args.self.now.bytes.items = c.deref.ensures.value in
    let o = c.in-Some.ensures.only s t r (exchange_lines left ++ h.rest) room h.fits (ap (λ (b : List ℕ). drop c.args.cursor.now.at b) same ∙ h.text) in
    record {
      is = o.1;
      stands = record { fit = h.fit; count = h.count; rest = h.rest; text = ap (λ (b : List ℕ). drop c.in-Some.end b) (sym same) ∙ o.0 };
    }
