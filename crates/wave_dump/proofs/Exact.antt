-- The bytes that may come are the longest front of a dump.
use Rattle.std.proofs.Common.{◌≡◌, ℕ, zero, suc, ◌+◌, ◌<◌, inl, inr, Option, Some, None, Ok, List, [], ◌∷◌, ◌++◌, length, take, refl, sym, ap, subst, ◌∙◌, arith, append_assoc, append-nil}
use Rattle.std.proofs.lemmas.Bool.{cases_lt}
use Rattle.std.proofs.lemmas.List.{take_at, take_all}
use Rattle.wave_dump.specs.Wave.{PlainDump, IsDump, wave_text}
use Rattle.wave_dump.specs.Machine.{DumpStage, Literal, Vars, Dollar, Name, Start, Body, Bits, Letter, Ending, Done, stage_after, first_stage, stage_behind, dump_found, dump_in}
use Rattle.wave_dump.specs.Fronts.{IsDumpFront, IsLongest, IsAnswer}
use Rattle.wave_dump.proofs.Tools.{length_plus, length_pushed}
use Rattle.wave_dump.proofs.Reached.{Reached}
use Rattle.wave_dump.proofs.Sound.{run_sound, reached_first}
use Rattle.wave_dump.proofs.Viable.{viable}
use Rattle.wave_dump.proofs.Complete.{run_append, complete}

-- ---- uniqueness

done_is : (d e : PlainDump) → Some (Done d) ≡ Some (Done e) → d ≡ e
done_is d e h = cc

-- one dump has this text
pub one_dump : (d e : PlainDump) → IsDump d → IsDump e → wave_text d ≡ wave_text e → d ≡ e
one_dump d e h k same = done_is d e (sym (complete d h) ∙ ap (stage_behind (Some first_stage)) same ∙ complete e k)

-- what is read to its end is a dump
pub spelled : (x : List ℕ) (d : PlainDump) → stage_behind (Some first_stage) x ≡ Some (Done d) → (x ≡ wave_text d) × IsDump d
spelled x d e = run_sound x [] (Some first_stage) (Done d) reached_first e

-- ---- how far

-- a longer front of the bytes has the next byte
pub take_past : (p : List ℕ) (b : ℕ) (x : List ℕ) (m : ℕ) → length p < m → (y : List ℕ) × (take m (p ++ b ∷ x) ≡ p ++ b ∷ y)
take_past [] b x zero l = absurd (omega arith)
take_past [] b x (suc m) l = (take m x, refl)
take_past (c ∷ p) b x zero l = absurd (omega arith)
take_past (c ∷ p) b x (suc m) l = let r = take_past p b x m (omega arith) in (r.0, ap (λ (t : List ℕ). c ∷ t) r.1)

no_dump : (p : List ℕ) (b : ℕ) (s : DumpStage) (y rest : List ℕ) (d : PlainDump) → stage_behind (Some first_stage) p ≡ Some s → stage_after s b ≡ None → IsDump d → wave_text d ≡ (p ++ b ∷ y) ++ rest → ⊥
no_dump p b s y rest d r n h e =
    let one : stage_behind (Some first_stage) (wave_text d) ≡ stage_behind (stage_behind (Some first_stage) (p ++ b ∷ y)) rest = ap (stage_behind (Some first_stage)) e ∙ run_append (p ++ b ∷ y) rest (Some first_stage) in
    let two : stage_behind (Some first_stage) (p ++ b ∷ y) ≡ None = run_append p (b ∷ y) (Some first_stage) ∙ ap (λ (o : Option DumpStage). stage_behind o (b ∷ y)) r ∙ ap (λ (o : Option DumpStage). stage_behind o y) n in
    let all : stage_behind (Some first_stage) (wave_text d) ≡ None = one ∙ ap (λ (o : Option DumpStage). stage_behind o rest) two in
    let done : Some (Done d) ≡ None = sym (complete d h) ∙ all in
    cc

-- no dump goes on with this byte
pub stuck : (p : List ℕ) (b : ℕ) (x : List ℕ) (s : DumpStage) → stage_behind (Some first_stage) p ≡ Some s → Reached p s → stage_after s b ≡ None → IsLongest (p ++ b ∷ x) (length p)
stuck p b x s r reached n =
    let len : length (p ++ b ∷ x) ≡ length p + length (b ∷ x) = length_plus p (b ∷ x) in
    record {
      within = omega arith;
      front = subst IsDumpFront (sym (take_at p (b ∷ x) (length p) refl)) (viable s p reached);
      most = λ m l f. elim (cases_lt (length p) m) [
        | inr low ↦ low
        | inl high ↦ absurd (let y = take_past p b x m high in no_dump p b s y.0 f.1 f.0 r n f.2 (f.3 ∙ ap (λ (t : List ℕ). t ++ f.1) y.1))
      ];
    }

-- the bytes are at their end
pub at_end : (p : List ℕ) (s : DumpStage) → Reached p s → IsLongest p (length p)
at_end p s reached =
    record {
      within = omega arith;
      front = subst IsDumpFront (sym (take_all (length p) p (omega arith))) (viable s p reached);
      most = λ m l f. l;
    }

told_end : (p : List ℕ) (s : DumpStage) → Reached p s → IsAnswer p (dump_found (length p) s)
told_end p (Literal c w s) r = at_end p (Literal c w s) r
told_end p (Vars names) r = at_end p (Vars names) r
told_end p (Dollar names) r = at_end p (Dollar names) r
told_end p (Name names name) r = at_end p (Name names name) r
told_end p (Start names) r = at_end p (Start names) r
told_end p (Body w) r = at_end p (Body w) r
told_end p (Bits w bs) r = at_end p (Bits w bs) r
told_end p (Letter w v) r = at_end p (Letter w v) r
told_end p (Ending names ticks e) r = at_end p (Ending names ticks e) r
told_end p (Done d) r = r

data Perhaps {X : Type 0} (o : Option X) : Type 0 where
  Nope : o ≡ None → Perhaps o
  This : (x : X) → o ≡ Some x → Perhaps o

perhaps : {X : Type 0} (o : Option X) → Perhaps o
perhaps None = Nope refl
perhaps (Some x) = This x refl

run_nil : (t : DumpStage) → stage_behind (Some t) [] ≡ Some t
run_nil t = refl

again : (t : DumpStage) (b : ℕ) (s : DumpStage) → stage_after s b ≡ Some t → stage_behind (Some s) (b ∷ []) ≡ Some t
again t b s f = ap (λ (o : Option DumpStage). stage_behind o []) f ∙ run_nil t

pub told : (x p : List ℕ) (s : DumpStage) (at : ℕ) → stage_behind (Some first_stage) p ≡ Some s → at ≡ length p → IsAnswer (p ++ x) (dump_in at (Some s) x)
told [] p s at r e =
    subst (λ (q : List ℕ). IsAnswer q (dump_found at s)) (sym (append-nil p)) (subst (λ (n : ℕ). IsAnswer p (dump_found n s)) (sym e) (told_end p s (run_sound p [] (Some first_stage) s reached_first r)))
told (b ∷ x) p s at r e = elim (perhaps (stage_after s b)) [
  | Nope n ↦ subst (λ (o : Option DumpStage). IsAnswer (p ++ b ∷ x) (dump_in (suc at) o x)) (sym n)
      (subst (λ (k : ℕ). IsLongest (p ++ b ∷ x) k) (sym e) (stuck p b x s r (run_sound p [] (Some first_stage) s reached_first r) n))
  | This t f ↦ subst (λ (o : Option DumpStage). IsAnswer (p ++ b ∷ x) (dump_in (suc at) o x)) (sym f)
      (subst (λ (q : List ℕ). IsAnswer q (dump_in (suc at) (Some t) x)) (append_assoc p (b ∷ []) x)
      (told x (p ++ b ∷ []) t (suc at) (run_append p (b ∷ []) (Some first_stage) ∙ ap (λ (o : Option DumpStage). stage_behind o (b ∷ [])) r ∙ again t b s f) (ap suc e ∙ sym (length_pushed p b))))
]

-- the answer on bytes
pub exact : (x : List ℕ) → IsAnswer x (dump_in 0 (Some first_stage) x)
exact x = told x [] first_stage 0 refl refl

-- a dump is found
pub found_by : (x : List ℕ) (at : ℕ) (o : Option DumpStage) (d : PlainDump) → stage_behind o x ≡ Some (Done d) → dump_in at o x ≡ Ok d
found_by x at None d e = absurd cc
found_by [] at (Some s) d e = let f : s ≡ Done d = cc in ap (dump_found at) f
found_by (b ∷ x) at (Some s) d e = found_by x (suc at) (stage_after s b) d e

-- the text of a dump is read as that dump
pub read_again : (d : PlainDump) → IsDump d → dump_in 0 (Some first_stage) (wave_text d) ≡ Ok d
read_again d h = found_by (wave_text d) 0 (Some first_stage) d (complete d h)
