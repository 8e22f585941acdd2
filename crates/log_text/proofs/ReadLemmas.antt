-- A whole log, thread by thread.
use Rattle.std.proofs.Common.{◌≡◌, ℕ, zero, suc, ◌+◌, ◌-◌, ◌<◌, ◌≤◌, ◌^◌, List, [], ◌∷◌, ◌++◌, length, get_or, map, refl, sym, ap, subst, ◌∙◌, arith, append_assoc, inl, inr}
use Rattle.std.proofs.lemmas.Bool.{cases_lt}
use Rattle.std.proofs.lemmas.List.{append-nil, length_push, get_or_push, get_or_append_left, length-map, length-replicate, drop_all}
use Rattle.forec_kernel.specs.declared.shape.ThreadShape.{ThreadShape}
use Rattle.forec_kernel.specs.Packed.{HasRoom}
use Rattle.forec_kernel.specs.Shapes.{PlainShape, PlainThread, plain_thread, plain_shape}
use Rattle.forec_kernel.specs.declared.shape.Shape.{Shape}
use Rattle.forec_kernel.specs.Texts.{params_in, uses_in}
use Rattle.thread_code.specs.Valid.{of_shape}
use Rattle.combine_tree.specs.declared.packet.Packet.{Packet}
use Rattle.combine_tree.specs.Plain.{plain_packet, blank_packet}
use Rattle.exchange_meaning.specs.Logged.{Logged, ExchangeLog}
use Rattle.exchange_meaning.specs.LogLines.{thread_log_lines, log_lines_from}
use Rattle.exchange_meaning.specs.OfShape.{AreOfThread}
use Rattle.log_text.specs.declared.log.Log.{Log}
use Rattle.log_text.specs.declared.section.Section.{Section}
use Rattle.log_text.specs.declared.section.Spot.{Spot}
use Rattle.log_text.specs.Pieces.{StandsTo}
use Rattle.log_text.specs.Stages.{AtHead, HasCome, Stops}
use Rattle.log_text.specs.Sections.{IsSection, Expects, ReadsSection}
use Rattle.log_text.specs.ReadLogs.{IsReadFrom}
use Rattle.log_text.proofs.PieceLemmas.{stands_more, stands_none}

-- the text of these threads, from thread t on
abbrev pub threads_text : ℕ → List (List Logged) → List ℕ
threads_text t [] = []
threads_text t (ls ∷ more) = thread_log_lines t ls ++ threads_text (suc t) more

threads_push : (t u : ℕ) (done : List (List Logged)) (ls : List Logged) → u ≡ t + length done → threads_text t (done ++ ls ∷ []) ≡ threads_text t done ++ thread_log_lines u ls
threads_push t u [] ls e = append-nil (thread_log_lines t ls) ∙ ap (λ (k : ℕ). thread_log_lines k ls) (omega arith)
threads_push t u (m ∷ done) ls e =
    ap (λ (l : List ℕ). thread_log_lines t m ++ l) (threads_push (suc t) u done ls (omega arith)) ∙ sym (append_assoc (thread_log_lines t m) (threads_text (suc t) done) (thread_log_lines u ls))

-- the log of these lists, from thread t on
threads_same : (t n : ℕ) (done : List (List Logged)) (log : ExchangeLog) → n ≡ length done → ((k : ℕ) → k < n → log (t + k) ≡ get_or done k []) → log_lines_from t n log ≡ threads_text t done
threads_same t zero [] log e same = refl
threads_same t zero (m ∷ done) log e same = absurd (omega arith)
threads_same t (suc n) [] log e same = absurd (omega arith)
threads_same t (suc n) (m ∷ done) log e same =
    let here : log t ≡ m = ap log (omega arith) ∙ same 0 (omega arith) in
    ap (λ (ls : List Logged). thread_log_lines t ls ++ log_lines_from (suc t) n log) here
    ∙ ap (λ (l : List ℕ). thread_log_lines t m ++ l) (threads_same (suc t) n done log (omega arith) (λ k low. ap log (omega arith) ∙ same (suc k) (omega arith)))

-- so many threads were read
pub record Done (s : PlainShape) (bytes : List ℕ) (t : ℕ) (sections : List Section) (spot : Spot) : Type 0 where
  pub done : List (List Logged)
  pub size : length done ≡ t - 1
  pub some : 0 < t
  pub count : length sections ≡ length done
  pub fits : (k : ℕ) → k < length done → AreOfThread s (suc k) (get_or done k [])
  pub each : (k : ℕ) → k < length done → (d : Section) → IsSection bytes (get_or sections k d) (get_or done k [])
  pub text : StandsTo bytes 0 (threads_text 1 done) spot.at
  pub come : HasCome s bytes spot.line spot.at (AtHead t)

pub done_none : (s : PlainShape) (bytes : List ℕ) → Done s bytes 1 [] (record { at = 0; line = 1 })
done_none s bytes = record {
  done = [];
  size = refl;
  some = omega arith;
  count = refl;
  fits = λ k low. absurd (omega arith);
  each = λ k low d. absurd (omega arith);
  text = stands_none bytes 0 (omega arith);
  come = record { within = omega arith; passed = []; lines = refl; number = refl; few = omega arith; leads = refl };
}

pub done_more : (s : PlainShape) (bytes : List ℕ) (t : ℕ) (sections : List Section) (spot next : Spot) (section : Section) → Done s bytes t sections spot → ReadsSection s t bytes spot section next →
    Done s bytes (t + 1) (sections ++ section ∷ []) next
done_more s bytes t sections spot next section h r =
    let place : length h.done ≡ t - 1 = h.size in
    let one : suc (length h.done) ≡ t = omega (arith, h.some) in
    record {
      done = h.done ++ r.pairs ∷ [];
      size = omega (arith, length_push h.done r.pairs, h.some);
      some = omega arith;
      count = omega (arith, h.count, length_push sections section, length_push h.done r.pairs);
      fits = λ k low. elim (cases_lt k (length h.done)) [
        | inl less ↦ subst (λ (ls : List Logged). AreOfThread s (suc k) ls) (sym (get_or_append_left h.done (r.pairs ∷ []) [] k less)) (h.fits k less)
        | inr past ↦ (let same : k ≡ length h.done = omega (arith, length_push h.done r.pairs) in
            subst (λ (ls : List Logged). AreOfThread s (suc k) ls) (sym (get_or_push h.done r.pairs [] k (sym same)))
            (let at : t ≡ suc k = omega (arith, h.some) in subst (λ (u : ℕ). AreOfThread s u r.pairs) at r.fit))
      ];
      each = λ k low d. elim (cases_lt k (length h.done)) [
        | inl less ↦ (let less' : k < length sections = omega (arith, h.count) in
            subst (λ (ls : List Logged). IsSection bytes (get_or (sections ++ section ∷ []) k d) ls) (sym (get_or_append_left h.done (r.pairs ∷ []) [] k less))
            (subst (λ (x : Section). IsSection bytes x (get_or h.done k [])) (sym (get_or_append_left sections (section ∷ []) d k less')) (h.each k less d)))
        | inr past ↦ (let same : k ≡ length h.done = omega (arith, length_push h.done r.pairs) in
            subst (λ (ls : List Logged). IsSection bytes (get_or (sections ++ section ∷ []) k d) ls) (sym (get_or_push h.done r.pairs [] k (sym same)))
            (subst (λ (x : Section). IsSection bytes x r.pairs) (sym (get_or_push sections section d k (omega (arith, h.count)))) r.is))
      ];
      text = subst (λ (l : List ℕ). StandsTo bytes 0 l next.at) (sym (threads_push 1 t h.done r.pairs (omega (arith, h.some))))
          (stands_more bytes 0 spot.at next.at (threads_text 1 h.done) (thread_log_lines t r.pairs) h.text r.stands);
      come = subst (λ (u : ℕ). HasCome s bytes next.line next.at (AtHead u)) (omega arith) r.come;
    }

pub all_read : (s : PlainShape) (l : Log) (t : ℕ) (spot : Spot) → Done s l.bytes.items t l.sections.items spot → length s.threads ≤ t → t - 1 ≤ length s.threads - 1 → length l.bytes.items ≤ spot.at →
    IsReadFrom s l.bytes.items l
all_read s l t spot h last within past =
    let bytes = l.bytes.items in
    let log : ExchangeLog = λ u. get_or h.done (u - 1) [] in
    let n : length h.done ≡ length s.threads - 1 = omega (arith, h.size) in
    let text : bytes ≡ threads_text 1 h.done = h.text.text ∙ (ap (λ (x : List ℕ). threads_text 1 h.done ++ x) (drop_all spot.at bytes past) ∙ append-nil (threads_text 1 h.done)) in
    record {
      log = log;
      pairs = record {
        is = record {
          fits = λ u some low. let place : suc (u - 1) ≡ u = omega arith in subst (λ (k : ℕ). AreOfThread s k (log u)) place (h.fits (u - 1) (omega arith));
          text = text ∙ sym (threads_same 1 (length s.threads - 1) h.done log (sym n) (λ k low. ap (λ (x : ℕ). get_or h.done x []) (omega arith)));
        };
        count = h.count ∙ n;
        each = λ u low d. subst (λ (k : ℕ). IsSection bytes (get_or l.sections.items u d) (get_or h.done k [])) (omega arith) (h.each u (omega arith) d);
      };
      same = refl;
    }

-- bytes behind the last thread
pub more_bytes : (s : PlainShape) (bytes : List ℕ) (t : ℕ) (sections : List Section) (spot : Spot) → Done s bytes t sections spot → length s.threads ≤ t → spot.at < length bytes → Stops s bytes spot.line
more_bytes s bytes t sections spot h last low = record {
  at = spot.at;
  stage = AtHead t;
  come = h.come;
  other = λ next piece rest n e. absurd (let less : t < length s.threads = n.0 in omega arith);
  unfinished = λ _. low;
}

-- ---- the room of a packet

params_at : (items : List ThreadShape) (t : ℕ) (x : ThreadShape) → t < length items → x ≡ get_or items t x → params_in (map plain_thread items) t ≡ x.params
params_at [] t x low e = absurd (omega arith)
params_at (y ∷ items) zero x low e = ap (λ (z : ThreadShape). z.params) (sym e)
params_at (y ∷ items) (suc t) x low e = params_at items t x (omega arith) e

uses_at : (items : List ThreadShape) (t : ℕ) (x : ThreadShape) → t < length items → x ≡ get_or items t x → uses_in (map plain_thread items) t ≡ x.uses.items
uses_at [] t x low e = absurd (omega arith)
uses_at (y ∷ items) zero x low e = ap (λ (z : ThreadShape). z.uses.items) (sym e)
uses_at (y ∷ items) (suc t) x low e = uses_at items t x (omega arith) e

pub has_room : (s : PlainShape) (items : List ThreadShape) (t : ℕ) (x : ThreadShape) (packet : Packet) → s.threads ≡ map plain_thread items → t < length items → x ≡ get_or items t x →
    plain_packet packet ≡ blank_packet x.params (length x.uses.items) → HasRoom (of_shape s) t (plain_packet packet)
has_room s items t x packet threads low e blank = subst (HasRoom (of_shape s) t) (sym blank) (record {
  args = length-replicate x.params _ ∙ sym (ap (λ (ts : List PlainThread). params_in ts t) threads ∙ params_at items t x low e);
  copies = length-replicate (length x.uses.items) _ ∙ sym (ap (λ (l : List ℕ). length l) (ap (λ (ts : List PlainThread). uses_in ts t) threads ∙ uses_at items t x low e));
})

pub threads_few : (shape : Shape) → length shape.threads.items < 2 ^ 64 → length (plain_shape shape).threads < 2 ^ 64
threads_few shape few = omega (arith, length-map shape.threads.items plain_thread)

pub expects_next : (shape : Shape) (bytes : List ℕ) (t uses : ℕ) (sections : List Section) (spot : Spot) (thread : ThreadShape) (packet : Packet) → Done (plain_shape shape) bytes t sections spot →
    length bytes < 2 ^ 64 → length shape.threads.items < 2 ^ 64 → t < length shape.threads.items → thread ≡ get_or shape.threads.items t thread → uses ≡ length thread.uses.items →
    plain_packet packet ≡ blank_packet thread.params uses → Expects (plain_shape shape) t bytes spot packet (AtHead t)
expects_next shape bytes t uses sections spot thread packet h size few low is count blank = record {
  small = threads_few shape few;
  size = size;
  room = has_room (plain_shape shape) shape.threads.items t thread packet refl low is (blank ∙ ap (blank_packet thread.params) count);
  come = h.come;
}

pub low_thread : (shape : Shape) (t : ℕ) → t < length shape.threads.items → t < length (plain_shape shape).threads
low_thread shape t low = omega (arith, length-map shape.threads.items plain_thread)
