-- The answer from a place on, byte by byte.
use Rattle.std.proofs.Common.{◌≡◌, ℕ, suc, ◌+◌, ◌<◌, ◌≤◌, Bool, cond, ◌⊎◌, inl, inr, Option, Some, None, Err, List, length, drop, get_or, ap, ◌∙◌, arith, eq-eqb, ne_eqb}
use Rattle.std.proofs.lemmas.Bool.{cases_lt}
use Rattle.std.proofs.lemmas.List.{drop_more, drop_all}
use Rattle.wave_dump.specs.Machine.{DumpStage, Literal, literal, stage_after, dump_found, dump_in}
use Rattle.wave_dump.specs.Reading.{dump_from}

-- a byte goes on to a state
pub from_more : (bytes : List ℕ) (at : ℕ) (s t : DumpStage) → at < length bytes → stage_after s (get_or bytes at 0) ≡ Some t → dump_from bytes at s ≡ dump_from bytes (at + 1) t
from_more bytes at s t low e =
    let next : suc at ≡ at + 1 = omega arith in
    ap (dump_in at (Some s)) (drop_more bytes at 0 low)
    ∙ ap (λ (o : Option DumpStage). dump_in (suc at) o (drop (at + 1) bytes)) e
    ∙ ap (λ (n : ℕ). dump_in n (Some t) (drop (at + 1) bytes)) next

-- a byte may not come
pub from_stops : (bytes : List ℕ) (at : ℕ) (s : DumpStage) → at < length bytes → stage_after s (get_or bytes at 0) ≡ None → dump_from bytes at s ≡ Err at
from_stops bytes at s low e =
    ap (dump_in at (Some s)) (drop_more bytes at 0 low)
    ∙ ap (λ (o : Option DumpStage). dump_in (suc at) o (drop (at + 1) bytes)) e

-- the bytes end
pub from_ends : (bytes : List ℕ) (at : ℕ) (s : DumpStage) → length bytes ≤ at → dump_from bytes at s ≡ dump_found at s
from_ends bytes at s high = ap (dump_in at (Some s)) (drop_all at bytes high)

-- ---- a piece

-- what is left of a piece
abbrev pub left_of : List ℕ → ℕ → DumpStage → DumpStage
left_of piece i s = literal (drop i piece) s

pub piece_more : (bytes piece : List ℕ) (at i : ℕ) (s : DumpStage) → at + i < length bytes → i < length piece → get_or bytes (at + i) 0 ≡ get_or piece i 0 →
    dump_from bytes (at + i) (left_of piece i s) ≡ dump_from bytes (at + (i + 1)) (left_of piece (i + 1) s)
piece_more bytes piece at i s low l e =
    let c = get_or piece i 0 in
    let rest = drop (i + 1) piece in
    let next : at + i + 1 ≡ at + (i + 1) = omega arith in
    ap (λ (w : List ℕ). dump_from bytes (at + i) (literal w s)) (drop_more piece i 0 l)
    ∙ from_more bytes (at + i) (Literal c rest s) (literal rest s) low (ap (λ (b : Bool). cond b (Some (literal rest s)) None) (eq-eqb (get_or bytes (at + i) 0) c e))
    ∙ ap (λ (n : ℕ). dump_from bytes n (literal rest s)) next

stops_by : (bytes : List ℕ) (at c : ℕ) (rest : List ℕ) (s : DumpStage) → (get_or bytes at 0 ≡ c → ⊥) → (at < length bytes) ⊎ (length bytes ≤ at) → dump_from bytes at (Literal c rest s) ≡ Err at
stops_by bytes at c rest s n (inl low) = from_stops bytes at (Literal c rest s) low (ap (λ (b : Bool). cond b (Some (literal rest s)) None) (ne_eqb (get_or bytes at 0) c n))
stops_by bytes at c rest s n (inr high) = from_ends bytes at (Literal c rest s) high

pub stops_here : (bytes : List ℕ) (at c : ℕ) (rest : List ℕ) (s : DumpStage) → (length bytes ≤ at) ⊎ (get_or bytes at 0 ≡ c → ⊥) → dump_from bytes at (Literal c rest s) ≡ Err at
stops_here bytes at c rest s (inl high) = from_ends bytes at (Literal c rest s) high
stops_here bytes at c rest s (inr n) = stops_by bytes at c rest s n (cases_lt at (length bytes))

pub piece_stops : (bytes piece : List ℕ) (at i : ℕ) (s : DumpStage) → at + i ≤ length bytes → i < length piece → (length bytes ≤ at + i) ⊎ (get_or bytes (at + i) 0 ≡ get_or piece i 0 → ⊥) →
    dump_from bytes (at + i) (left_of piece i s) ≡ Err (at + i)
piece_stops bytes piece at i s low l h =
    let c = get_or piece i 0 in
    let rest = drop (i + 1) piece in
    ap (λ (w : List ℕ). dump_from bytes (at + i) (literal w s)) (drop_more piece i 0 l)
    ∙ stops_here bytes (at + i) c rest s h
