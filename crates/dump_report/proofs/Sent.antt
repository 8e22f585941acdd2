-- What was written, over several calls.
use Rattle.std.proofs.Common.{◌≡◌, ◌-◌, ℕ, List, [], ◌++◌, Option, Some, None, Result, Ok, Err, OnOk, OnErr, length, take, drop, refl, sym, ap, subst, ◌∙◌, arith, append_assoc, append-nil, length-drop, length-append, ◌+◌, ◌≤◌, ◌<◌}
use Rattle.std.specs.List.{slice_range}
use Rattle.std.specs.Io.KnownBytes.{Keeps, Appends}
use Rattle.std.proofs.Math.Nat.{sub-zero}
use Rattle.std.proofs.Math.Seq.{take-append-add}
use Rattle.std.proofs.lemmas.List.{take_all, take-append-drop, take-append-le, length-take-le}
use Rattle.std.proofs.lemmas.Slice.{take-put_mid}
use borrow.Rule.Slice.PartMut.{put_mid}
use Rattle.whole_writes.specs.Calls.{AppendsFront}
use Rattle.whole_writes.proofs.Appending.{appends_refl, appends_both, front_longer, front_behind}
use Rattle.dump_report.specs.Calls.{Sends}

-- ---- parts of a list

pub range_front : (n : ℕ) (xs : List ℕ) → slice_range xs 0 n ≡ take n xs
range_front n xs = ap (λ k. take k xs) (sub-zero n)

-- the front of a list whose rest begins with other elements
pub front_put : (a k m : ℕ) (xs ys : List ℕ) → a ≤ length xs → m ≤ length ys → take (a + m) (put_mid a k xs ys) ≡ take a xs ++ take m ys
front_put a k m xs ys h l =
    let n : ℕ = a + length ys in
    let all : List ℕ = put_mid a k xs ys in
    let whole : take n all ≡ take a xs ++ ys = take-put_mid a k xs ys n refl h in
    let at : length (take a xs) ≡ a = length-take-le a xs h in
    let long : length (take n all) ≡ a + length ys = ap length whole ∙ length-append (take a xs) ys ∙ ap (λ x. x + length ys) at in
    let fits : a + m ≤ length (take n all) = omega (arith, long) in
    ap (take (a + m)) (sym (take-append-drop n all)) ∙ take-append-le (a + m) (take n all) (drop n all) fits ∙ ap (take (a + m)) whole
    ∙ ap (λ x. take (x + m) (take a xs ++ ys)) (sym at) ∙ take-append-add (take a xs) ys m

-- ---- answers

pub on_ok : {T E : Type 0} (r : Result T E) (P Q : Type 0) → OnOk r P → (P → Q) → OnOk r Q
on_ok (Ok v) P Q h f = f h
on_ok (Err e) P Q h f = tt

pub on_err : {T E : Type 0} (r : Result T E) (P Q : Type 0) → OnErr r P → (P → Q) → OnErr r Q
on_err (Ok v) P Q h f = tt
on_err (Err e) P Q h f = f h

pub err_holds : {T E : Type 0} (r : Result T E) (P : Type 0) → P → OnErr r P
err_holds (Ok v) P h = tt
err_holds (Err e) P h = h

-- ---- where some bytes wait

-- nothing is written yet
pub sends_none : (a : Option (List ℕ)) (all : List ℕ) → Sends a a all all
sends_none a all = record { sent = []; whole = refl; appended = appends_refl a }

-- all that waits is written
pub sends_each : (a b : Option (List ℕ)) (all : List ℕ) → Appends a b all → Sends a b all []
sends_each a b all h = record { sent = all; whole = sym (append-nil all); appended = h }

-- more comes behind
pub sends_longer : (a b : Option (List ℕ)) (all waiting more : List ℕ) → Sends a b all waiting → Sends a b (all ++ more) (waiting ++ more)
sends_longer a b all waiting more s = record {
  sent = s.sent;
  whole = ap (λ w. w ++ more) s.whole ∙ append_assoc s.sent waiting more;
  appended = s.appended;
}

-- some of what waits is written
pub sends_on : (a b c : Option (List ℕ)) (all old new rest : List ℕ) → Sends a b all (old ++ rest) → Sends b c old new → Sends a c all (new ++ rest)
sends_on a b c all old new rest s t = record {
  sent = s.sent ++ t.sent;
  whole = s.whole ∙ ap (λ w. s.sent ++ (w ++ rest)) t.whole ∙ ap (λ w. s.sent ++ w) (append_assoc t.sent new rest) ∙ sym (append_assoc s.sent t.sent (new ++ rest));
  appended = appends_both a b c s.sent t.sent s.appended t.appended;
}

-- a line more waits
pub sends_put : (a b : Option (List ℕ)) (all old new line left rest : List ℕ) → new ≡ old ++ line → left ≡ line ++ rest → Sends a b all (old ++ left) → Sends a b all (new ++ rest)
sends_put a b all old new line left rest e f s = record {
  sent = s.sent;
  whole = s.whole ∙ ap (λ w. s.sent ++ (old ++ w)) f ∙ ap (λ w. s.sent ++ w) (sym (append_assoc old line rest)) ∙ ap (λ w. s.sent ++ (w ++ rest)) (sym e);
  appended = s.appended;
}

-- nothing comes behind what waits
pub sends_last : (a b : Option (List ℕ)) (all waiting rest : List ℕ) → rest ≡ [] → Sends a b all (waiting ++ rest) → Sends a b all waiting
sends_last a b all waiting rest e s = subst (Sends a b all) (ap (λ w. waiting ++ w) e ∙ append-nil waiting) s

-- the last of it is written
pub sends_all : (a b c : Option (List ℕ)) (all waiting : List ℕ) → Sends a b all waiting → Appends b c waiting → Appends a c all
sends_all a b c all waiting s h = subst (Appends a c) (sym s.whole) (appends_both a b c s.sent waiting s.appended h)

-- a front of what waits is written
pub sends_front : (a b c : Option (List ℕ)) (all waiting rest : List ℕ) → Sends a b all (waiting ++ rest) → AppendsFront b c waiting → AppendsFront a c all
sends_front a b c all waiting rest s f =
    subst (AppendsFront a c) (sym (s.whole ∙ sym (append_assoc s.sent waiting rest))) (front_longer a c (s.sent ++ waiting) rest (front_behind a b c s.sent waiting s.appended f))

-- the same of the last bytes
pub last_front : (a b c : Option (List ℕ)) (all waiting : List ℕ) → Sends a b all waiting → AppendsFront b c waiting → AppendsFront a c all
last_front a b c all waiting s f = subst (AppendsFront a c) (sym s.whole) (front_behind a b c s.sent waiting s.appended f)

-- some of what waits is written, and then last bytes wait too
pub sends_closing : (a b c : Option (List ℕ)) (all waiting left last bytes : List ℕ) → Sends a b all waiting → Sends b c waiting left → bytes ≡ left ++ last → Sends a c (all ++ last) bytes
sends_closing a b c all waiting left last bytes s made put =
    subst (Sends a c (all ++ last)) (sym put) (sends_on a b c (all ++ last) waiting left last (sends_longer a b all waiting last s) made)
