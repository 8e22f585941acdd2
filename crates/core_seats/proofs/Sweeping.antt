-- Sweeps over mailboxes: whether there was something to do.
use Rattle.std.proofs.Common.{◌≡◌, ◌≢◌, ℕ, ◌+◌, ◌<◌, ◌≤◌, ◌||◌, Bool, true, false, Some, List, length, refl, sym, ap, ◌∙◌, subst, arith}
use Rattle.std.specs.Prelude.{slice_get}
use Rattle.std.proofs.lemmas.List.{length-append}
use Rattle.std.proofs.lemmas.Option.{slice_get_within}
use Rattle.forec_kernel.specs.Shapes.{PlainShape}
use Rattle.thread_code.specs.Plain.{plain_code}
use Rattle.copy_slots.specs.Ports.{sent, answered}
use Rattle.core_seats.specs.Posts.{Mail}
use Rattle.core_seats.specs.Changes.{Grown, HasWorked, HasProgressed, replied, forked, answered_more, sent_more, IsIdle}
use Rattle.core_seats.specs.Keeping.{SchedulerState, code_in}
use Rattle.core_seats.specs.Serving.{AllMissed, KeepsServing}
use Rattle.core_seats.specs.Rounds.{SomeWorked, AllIdle}
use Rattle.tick_jobs.proofs.Lists.{by_equal}
use Rattle.core_seats.proofs.ServingLemmas.{idle_from, missed_same, missed_then}

-- ---- something was done

pub progress_one : (s : PlainShape) (a b : Mail) (k : ℕ) → HasWorked s a b k → HasProgressed s a b k
progress_one s a b k (replied g) = let long = ap length g.is ∙ length-append (answered a k) _ in answered_more (omega (arith, long))
progress_one s a b k (forked j is more lt) = sent_more j is lt

pub progress_from : (s : PlainShape) (a b c : Mail) (k : ℕ) → Grown a b → HasProgressed s b c k → HasProgressed s a c k
progress_from s a b c k grown (answered_more lt) =
    let old = grown.answered k in
    let long = ap length old.is ∙ length-append (answered a k) old.more in answered_more (omega (arith, lt, long))
progress_from s a b c k grown (sent_more j is lt) =
    let old = grown.sent j in
    let long = ap length old.is ∙ length-append (sent a j) old.more in sent_more j is (omega (arith, lt, long))

pub progress_then : (s : PlainShape) (a b c : Mail) (k : ℕ) → HasProgressed s a b k → Grown b c → HasProgressed s a c k
progress_then s a b c k (answered_more lt) grown =
    let new = grown.answered k in
    let long = ap length new.is ∙ length-append (answered b k) new.more in answered_more (omega (arith, lt, long))
progress_then s a b c k (sent_more j is lt) grown =
    let new = grown.sent j in
    let long = ap length new.is ∙ length-append (sent b j) new.more in sent_more j is (omega (arith, lt, long))

pub some_from : (own : List ℕ) (a b c : SchedulerState) → KeepsServing a b → SomeWorked own b c → SomeWorked own a c
some_from own a b c keeps w = record {
  place = w.place;
  mailbox = w.mailbox;
  at = w.at;
  progress = progress_from (code_in a).shape a.mail b.mail c.mail w.mailbox keeps.grown (subst (λ x. HasProgressed (plain_code x).shape b.mail c.mail w.mailbox) keeps.code w.progress);
}

pub some_then : (own : List ℕ) (a b c : SchedulerState) → SomeWorked own a b → KeepsServing b c → SomeWorked own a c
some_then own a b c w keeps = record { place = w.place; mailbox = w.mailbox; at = w.at; progress = progress_then (code_in a).shape a.mail b.mail c.mail w.mailbox w.progress keeps.grown }

-- ---- or nothing was

-- so far, as `found` tells
pub record HasFound (own : List ℕ) (a b : SchedulerState) (found : Bool) : Type 0 where
  pub worked : found ≡ true → SomeWorked own a b
  pub missed : found ≡ false → AllMissed a b

pub found_none : (own : List ℕ) (a : SchedulerState) → HasFound own a a false
found_none own a = record { worked = λ e. cc; missed = λ e. missed_same a }

never : {A : Type 0} → true ≡ false → A
never e = absurd (apart e)
  where
    apart : true ≡ false → ⊥
    apart e = cc

pub found_more : (own : List ℕ) (a b c : SchedulerState) (f g : Bool) → KeepsServing a b → KeepsServing b c → HasFound own a b f → HasFound own b c g → HasFound own a c (f || g)
found_more own a b c true g first next x y = record { worked = λ e. some_then own a b c (x.worked refl) next; missed = λ e. never e }
found_more own a b c false g first next x y = record {
  worked = λ e. some_from own a b c first (y.worked e);
  missed = λ e. missed_then a b c first.code first.grown (x.missed refl) (y.missed e);
}

pub found_in : (own to : List ℕ) (a b : SchedulerState) (f : Bool) → own ≡ to → HasFound own a b f → HasFound to a b f
found_in own to a b f same x = subst (λ l. HasFound l a b f) same x

-- ---- each mailbox once, upwards or downwards

-- the n mailboxes that were served so far, of so many
pub record IsSwept (upwards : Bool) (count n i : ℕ) : Type 0 where
  pub up : upwards ≡ true → i < n
  pub down : upwards ≡ false → count ≤ i + n

pub record HasSwept (own : List ℕ) (a b : SchedulerState) (any up : Bool) (n : ℕ) : Type 0 where
  pub found : HasFound own a b any
  pub idle : any ≡ false → (i k : ℕ) → IsSwept up (length own) n i → slice_get own i ≡ Some k → IsIdle (code_in a).shape a.mail b.mail k

pub swept_none : (own : List ℕ) (a : SchedulerState) (up : Bool) → HasSwept own a a false up 0
swept_none own a up = record { found = found_none own a; idle = λ e i k swept at. absurd (none up i (slice_get_within own i k at) swept) }
  where
    none : (up : Bool) (i : ℕ) → i < length own → IsSwept up (length own) 0 i → ⊥
    none true i lt w = let z = w.up refl in absurd (omega (arith, z))
    none false i lt w = let z = w.down refl in absurd (omega (arith, z, lt))

-- one more mailbox, at the place that is next
pub swept_more : (own : List ℕ) (a b c : SchedulerState) (f g up : Bool) (n place : ℕ) → KeepsServing a b → KeepsServing b c → HasSwept own a b f up n → HasFound own b c g
    → (g ≡ false → (k : ℕ) → slice_get own place ≡ Some k → IsIdle (code_in b).shape b.mail c.mail k)
    → (up ≡ true → place ≡ n) → (up ≡ false → place + n + 1 ≡ length own) → HasSwept own a c (f || g) up (n + 1)
swept_more own a b c f g up n place first next x y idle above below = record {
  found = found_more own a b c f g first next x.found y;
  idle = by_found f x.idle;
}
  where
    earlier : (up : Bool) → (up ≡ true → place ≡ n) → (up ≡ false → place + n + 1 ≡ length own) → (i : ℕ) → i ≢ place → IsSwept up (length own) (n + 1) i → IsSwept up (length own) n i
    earlier true above below i other w =
        let z = w.up refl in
        let p = above refl in record { up = λ e. omega (arith, z, p, other); down = λ e. never e }
    earlier false above below i other w =
        let z = w.down refl in
        let p = below refl in record { up = λ e. never (sym e); down = λ e. omega (arith, z, p, other) }

    by_found : (t : Bool) → (t ≡ false → (i k : ℕ) → IsSwept up (length own) n i → slice_get own i ≡ Some k → IsIdle (code_in a).shape a.mail b.mail k) → (t || g) ≡ false
        → (i k : ℕ) → IsSwept up (length own) (n + 1) i → slice_get own i ≡ Some k → IsIdle (code_in a).shape a.mail c.mail k
    by_found true old e i k swept at = never e
    by_found false old quiet i k swept at =
        by_equal i place
        (λ other.
        subst (λ x. IsIdle (plain_code x).shape a.mail c.mail k) first.code
        ((y.missed quiet).still a.mail k first.grown (subst (λ x. IsIdle (plain_code x).shape a.mail b.mail k) (sym first.code) (old refl i k (earlier up above below i other swept) at))))
        (λ same.
        idle_from (code_in a).shape a.mail b.mail c.mail k first.grown
        (subst (λ x. IsIdle (plain_code x).shape b.mail c.mail k) first.code (idle quiet k (ap (λ z. slice_get own z) (sym same) ∙ at))))

pub swept_all : (own : List ℕ) (a b : SchedulerState) (found up : Bool) (n : ℕ) → n ≡ length own → HasSwept own a b found up n → found ≡ false → AllIdle own a b
swept_all own a b found up n whole x none i k at =
    let lt = slice_get_within own i k at in x.idle none i k (record { up = λ e. omega (arith, lt, whole); down = λ e. omega (arith, lt, whole) }) at

-- ---- hints first, and later a sweep

pub idle_after : (own : List ℕ) (a b c : SchedulerState) → KeepsServing a b → AllIdle own b c → AllIdle own a c
idle_after own a b c first idle i k at =
    idle_from (code_in a).shape a.mail b.mail c.mail k first.grown (subst (λ x. IsIdle (plain_code x).shape b.mail c.mail k) first.code (idle i k at))
