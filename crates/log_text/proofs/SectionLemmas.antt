-- The lines of a thread, read one after the other.
use Rattle.std.proofs.Common.{◌≡◌, ℕ, suc, ◌+◌, ◌-◌, ◌*◌, ◌<◌, ◌≤◌, ◌^◌, List, [], ◌∷◌, ◌++◌, length, drop, min, refl, sym, ap, subst, ◌∙◌, arith, append_assoc}
use Rattle.std.specs.Fmt.{decimal}
use Rattle.std.proofs.lemmas.List.{append-nil, length_push}
use Rattle.forec_kernel.specs.Engine.{Job, Reply}
use Rattle.forec_kernel.specs.Packed.{HasRoom}
use Rattle.forec_kernel.specs.Shapes.{PlainShape}
use Rattle.thread_code.specs.Valid.{of_shape}
use Rattle.combine_tree.specs.declared.packet.Packet.{Packet}
use Rattle.combine_tree.specs.Plain.{plain_packet}
use Rattle.exchange_meaning.specs.Logged.{Logged}
use Rattle.exchange_meaning.specs.LogLines.{job_line, reply_line, exchange_lines, thread_log_lines}
use Rattle.exchange_meaning.specs.OfShape.{IsOfThread, AreOfThread}
use Rattle.log_text.specs.declared.section.Spot.{Spot}
use Rattle.log_text.specs.Pieces.{StandsTo}
use Rattle.log_text.specs.Fronts.{IsHeadLine}
use Rattle.log_text.specs.Stages.{AtHead, AtJob, AtReply, at_pairs, IsJobOf, IsReplyOf, HasCome, Stops}
use Rattle.log_text.specs.Readings.{KeepsRoom, ReadsHead, ReadsJob, ReadsReply}
use Rattle.log_text.specs.Sections.{IsOn, Expects, ReadsPair, ReadsSection}
use Rattle.log_text.proofs.DigitLemmas.{digits_are}
use Rattle.log_text.proofs.PieceLemmas.{stands_more, stands_none}
use Rattle.log_text.proofs.StageLemmas.{come_more}
use Rattle.log_text.proofs.FrontLemmas.{head_text, thread_text}

pub room_kept : (s : PlainShape) (t : ℕ) (old new : Packet) → KeepsRoom old new → HasRoom (of_shape s) t (plain_packet old) → HasRoom (of_shape s) t (plain_packet new)
room_kept s t old new k h = record { args = k.args ∙ h.args; copies = k.copies ∙ h.copies }

-- what stands there is no job
pub job_stops : (s : PlainShape) (t left line at : ℕ) (bytes : List ℕ) → HasCome s bytes line at (AtJob t left) →
    ((j : Job) (rest : List ℕ) → IsJobOf s t j → drop at bytes ≡ job_line j ++ rest → ⊥) → Stops s bytes line
job_stops s t left line at bytes h none = record {
  at = at;
  stage = AtJob t left;
  come = h;
  other = λ next piece rest n e. none n.0 rest n.1 (e ∙ ap (λ (l : List ℕ). l ++ rest) n.2);
  unfinished = λ l. absurd l;
}

pub reply_stops : (s : PlainShape) (t left line at : ℕ) (bytes : List ℕ) → HasCome s bytes line at (AtReply t left) →
    ((r : Reply) (rest : List ℕ) → IsReplyOf s t r → drop at bytes ≡ reply_line r ++ rest → ⊥) → Stops s bytes line
reply_stops s t left line at bytes h none = record {
  at = at;
  stage = AtReply t left;
  come = h;
  other = λ next piece rest n e. none n.0 rest n.1 (e ∙ ap (λ (l : List ℕ). l ++ rest) n.2);
  unfinished = λ l. absurd l;
}

pub head_stops : (s : PlainShape) (t line at : ℕ) (bytes : List ℕ) → t < length s.threads → HasCome s bytes line at (AtHead t) →
    ((jobs : ℕ) (piece rest : List ℕ) → IsHeadLine t jobs piece → drop at bytes ≡ piece ++ rest → ⊥) → Stops s bytes line
head_stops s t line at bytes low h none = record {
  at = at;
  stage = AtHead t;
  come = h;
  other = λ next piece rest n e. none n.1 piece rest n.2 e;
  unfinished = λ l. absurd (omega arith);
}

pub job_came : (s : PlainShape) (t left line at mid : ℕ) (bytes : List ℕ) (p : Packet) → length s.threads < 2 ^ 64 → HasCome s bytes line at (AtJob t left) → ReadsJob s t bytes at (plain_packet p) mid →
    HasCome s bytes (line + 1) mid (AtReply t left)
job_came s t left line at mid bytes p small h r =
    subst (λ (k : ℕ). HasCome s bytes k mid (AtReply t left)) (omega arith) (come_more s bytes line at mid (AtJob t left) (AtReply t left) (job_line r.job) small h (r.job, r.fits, refl, refl) r.stands)

pub reply_came : (s : PlainShape) (t left line at end : ℕ) (bytes : List ℕ) (p : Packet) → length s.threads < 2 ^ 64 → HasCome s bytes line at (AtReply t left) → ReadsReply s t bytes at (plain_packet p) end →
    HasCome s bytes (line + 1) end (at_pairs t left)
reply_came s t left line at end bytes p small h r =
    subst (λ (k : ℕ). HasCome s bytes k end (at_pairs t left)) (omega arith) (come_more s bytes line at end (AtReply t left) (at_pairs t left) (reply_line r.reply) small h (r.reply, r.fits, refl, refl) r.stands)

pub pair_read : (s : PlainShape) (t left line at mid end : ℕ) (bytes : List ℕ) (packet p q : Packet) → Expects s t bytes (record { at = at; line = line }) packet (AtJob t left) → KeepsRoom p q → HasRoom (of_shape s) t (plain_packet p) →
    ReadsJob s t bytes at (plain_packet p) mid → ReadsReply s t bytes mid (plain_packet q) end → ReadsPair s t bytes (record { at = at; line = line }) (record { at = end; line = line + 2 }) q left
pair_read s t left line at mid end bytes packet p q h keeps room j r = record {
  pair = record { job = j.job; reply = r.reply };
  fits = record { job = j.fits.fits; reply = r.fits.fits; job_numbers = j.fits.numbers; reply_numbers = r.fits.numbers };
  stands = stands_more bytes at mid end (job_line j.job) (reply_line r.reply) j.stands r.stands;
  next = record {
    small = h.small;
    size = h.size;
    room = room_kept s t p q keeps room;
    come = subst (λ (k : ℕ). HasCome s bytes k end (at_pairs t left)) (omega arith)
        (reply_came s t left (line + 1) mid end bytes q h.small (job_came s t left line at mid bytes p h.small h.come j) r);
  };
}

-- ---- all pairs of a thread

-- so many pairs were read
pub record Going (s : PlainShape) (t : ℕ) (bytes : List ℕ) (from start count i : ℕ) (spot : Spot) (packet : Packet) : Type 0 where
  pub jobs : ℕ
  pub line : List ℕ
  pub head : IsHeadLine t jobs line
  pub count_is : count ≡ min jobs (2 ^ 64 - 1)
  pub head_stands : StandsTo bytes from line start
  pub pairs : List Logged
  pub size : length pairs ≡ i
  pub fit : AreOfThread s t pairs
  pub stands : StandsTo bytes start (exchange_lines pairs) spot.at
  pub next : Expects s t bytes spot packet (at_pairs t (jobs - i))

pub going_none : (s : PlainShape) (t from start count line : ℕ) (bytes : List ℕ) (packet : Packet) → t < length s.threads → Expects s t bytes (record { at = from; line = line }) packet (AtHead t) → ReadsHead t bytes from count start →
    Going s t bytes from start count 0 (record { at = start; line = line + 1 }) packet
going_none s t from start count line bytes packet low h r = record {
  jobs = r.jobs;
  line = r.line;
  head = r.is;
  count_is = r.count_is;
  head_stands = r.stands;
  pairs = [];
  size = refl;
  fit = tt;
  stands = stands_none bytes start r.stands.within;
  next = record {
    small = h.small;
    size = h.size;
    room = h.room;
    come = subst (λ (k : ℕ). HasCome s bytes k start (at_pairs t (r.jobs - 0))) (omega arith)
        (subst (λ (k : ℕ). HasCome s bytes (suc line) start (at_pairs t k)) (omega arith)
        (come_more s bytes line from start (AtHead t) (at_pairs t r.jobs) r.line h.small h.come (low, r.jobs, r.is, refl) r.stands));
  };
}

pub going_expects : (s : PlainShape) (t from start count i : ℕ) (bytes : List ℕ) (spot : Spot) (packet : Packet) (g : Going s t bytes from start count i spot packet) → i < count → Expects s t bytes spot packet (AtJob t (g.jobs - (i + 1)))
going_expects s t from start count i bytes spot packet g low =
    let one : g.jobs - i ≡ suc (g.jobs - (i + 1)) = omega (arith, g.count_is) in
    record { small = g.next.small; size = g.next.size; room = g.next.room; come = subst (λ (k : ℕ). HasCome s bytes spot.line spot.at (at_pairs t k)) one g.next.come }

exchange_push : (ls : List Logged) (l : Logged) → exchange_lines (ls ++ l ∷ []) ≡ exchange_lines ls ++ (job_line l.job ++ reply_line l.reply)
exchange_push [] l = append-nil (job_line l.job ++ reply_line l.reply)
exchange_push (m ∷ ls) l =
    ap (λ (x : List ℕ). (job_line m.job ++ reply_line m.reply) ++ x) (exchange_push ls l) ∙ sym (append_assoc (job_line m.job ++ reply_line m.reply) (exchange_lines ls) (job_line l.job ++ reply_line l.reply))

fit_push : (s : PlainShape) (t : ℕ) (ls : List Logged) (l : Logged) → AreOfThread s t ls → IsOfThread s t l → AreOfThread s t (ls ++ l ∷ [])
fit_push s t [] l h f = (f, tt)
fit_push s t (m ∷ ls) l h f = (h.0, fit_push s t ls l h.1 f)

pub going_more : (s : PlainShape) (t from start count i : ℕ) (bytes : List ℕ) (spot next : Spot) (packet new : Packet) (g : Going s t bytes from start count i spot packet) → ReadsPair s t bytes spot next new (g.jobs - (i + 1)) →
    Going s t bytes from start count (i + 1) next new
going_more s t from start count i bytes spot next packet new g r = record {
  jobs = g.jobs;
  line = g.line;
  head = g.head;
  count_is = g.count_is;
  head_stands = g.head_stands;
  pairs = g.pairs ++ r.pair ∷ [];
  size = length_push g.pairs r.pair ∙ ap (λ (k : ℕ). k + 1) g.size;
  fit = fit_push s t g.pairs r.pair g.fit r.fits;
  stands = subst (λ (l : List ℕ). StandsTo bytes start l next.at) (sym (exchange_push g.pairs r.pair))
      (stands_more bytes start spot.at next.at (exchange_lines g.pairs) (job_line r.pair.job ++ reply_line r.pair.reply) g.stands r.stands);
  next = r.next;
}

pub going_all : (s : PlainShape) (t start count : ℕ) (bytes : List ℕ) (from spot : Spot) (packet : Packet) (g : Going s t bytes from.at start count count spot packet) → g.jobs ≤ 2 ^ 64 - 1 →
    ReadsSection s t bytes from (record { start = start; jobs = count }) spot
going_all s t start count bytes from spot packet g small =
    let all : g.jobs ≡ length g.pairs = omega (arith, g.count_is, g.size) in
    let digits : g.head.digits ≡ decimal (length g.pairs) = digits_are g.head.digits g.jobs g.head.number (omega arith) ∙ ap decimal all in
    let line : g.line ≡ head_text t (decimal (length g.pairs)) = g.head.is ∙ ap (head_text t) digits in
    let text : thread_log_lines t g.pairs ≡ head_text t (decimal (length g.pairs)) ++ exchange_lines g.pairs =
    sym (append-nil (thread_log_lines t g.pairs)) ∙ (thread_text t g.pairs [] ∙ ap (λ (l : List ℕ). head_text t (decimal (length g.pairs)) ++ l) (append-nil (exchange_lines g.pairs))) in
    let none : g.jobs - count ≡ 0 = omega (arith, g.count_is) in
    record {
      pairs = g.pairs;
      fit = g.fit;
      is = record { count = sym g.size; rest = drop spot.at bytes; text = g.stands.text };
      stands = subst (λ (l : List ℕ). StandsTo bytes from.at l spot.at) (sym text)
          (stands_more bytes from.at start spot.at (head_text t (decimal (length g.pairs))) (exchange_lines g.pairs) (subst (λ (l : List ℕ). StandsTo bytes from.at l start) line g.head_stands) g.stands);
      come = subst (λ (k : ℕ). HasCome s bytes spot.line spot.at (at_pairs t k)) none g.next.come;
    }

-- so many pairs as 64 bits can count don't stand in a text
pub few_jobs : (bytes : List ℕ) (line count jobs : ℕ) (spot : Spot) → length bytes < 2 ^ 64 → IsOn bytes spot → spot.line ≡ line + 1 + 2 * count → count ≡ min jobs (2 ^ 64 - 1) → jobs ≤ 2 ^ 64 - 1
few_jobs bytes line count jobs spot small on e is = omega (arith, on.within, on.few)

pub head_on : (t from start count line : ℕ) (bytes : List ℕ) → IsOn bytes (record { at = from; line = line }) → ReadsHead t bytes from count start → IsOn bytes (record { at = start; line = line + 1 })
head_on t from start count line bytes on r = record { within = r.stands.within; few = omega (arith, on.few, r.stands.place, ap (λ (l : List ℕ). length l) r.is.is) }
