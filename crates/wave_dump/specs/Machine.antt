-- How far bytes may be the front of a dump: what has been read, and which byte may come next.
use Rattle.std.specs.Prelude.{ℕ, zero, suc, pred, ◌+◌, ◌-◌, ◌*◌, ◌^◌, Bool, true, false, List, [], ◌∷◌, ◌++◌, map, length, take, get_or, ℤ, pos, Option, Some, None, Result, Ok, Err, codes, decimal, cond, not, nat_le, nat_lt, ◌==◌, ◌&&◌, ◌||◌}
use Rattle.std.specs.Int.{w32, cast_signed}
use Rattle.std.specs.List.{fold}
use Rattle.wave_dump.specs.Wave.{PlainDump, output_letter, is_kept, no_values, scope_lines, is_ending_byte}

-- in a tick: the outputs, the ticks before it, the values so far, and what the other outputs had before
pub record TickSpot : Type 0 where
  pub names : List (List ℕ)
  pub ticks : List (List ℤ)
  pub now : List ℤ
  pub left : List (Option ℤ)

-- what comes next
pub data DumpStage : Type 0 where
  -- this byte, these bytes, and then the state
  Literal : ℕ → List ℕ → DumpStage → DumpStage
  -- a further output, or the end of the outputs
  Vars : List (List ℕ) → DumpStage
  -- the same, behind its `$`
  Dollar : List (List ℕ) → DumpStage
  -- the bytes of a name
  Name : List (List ℕ) → List ℕ → DumpStage
  -- tick 1, or the ending
  Start : List (List ℕ) → DumpStage
  -- in a tick, a value, or the end of the tick
  Body : TickSpot → DumpStage
  -- further bits of a value
  Bits : TickSpot → List ℕ → DumpStage
  -- the output that has the value
  Letter : TickSpot → ℤ → DumpStage
  -- the bytes of the ending
  Ending : List (List ℕ) → List (List ℤ) → List ℕ → DumpStage
  -- nothing
  Done : PlainDump → DumpStage

abbrev pub literal : List ℕ → DumpStage → DumpStage
literal [] s = s
literal (c ∷ w) s = Literal c w s

-- ---- names

abbrev pub unshown_byte : ℕ → ℕ
unshown_byte b = cond (b == 40) 91 (cond (b == 41) 93 b)

-- from 33 to 126, without `$`, `[` and `]`
abbrev pub is_shown_byte : ℕ → Bool
is_shown_byte b = nat_le 33 b && (nat_le b 126 && (not (b == 36) && (not (b == 91) && not (b == 93))))

abbrev pub declared_output : List (List ℕ) → Option DumpStage
declared_output names = cond (nat_lt (length names) 64) (Some (literal (codes "ar wire 32 " ++ output_letter (length names) ∷ codes " ") (Name names []))) None

-- ---- ticks

-- what the outputs had after these ticks
abbrev pub last_olds : List (Option ℤ) → List (List ℤ) → List (Option ℤ)
last_olds olds [] = olds
last_olds olds (vs ∷ ticks) = last_olds (map Some vs) ticks

abbrev pub olds_of : List (List ℕ) → List (List ℤ) → List (Option ℤ)
olds_of names ticks = last_olds (no_values names) ticks

abbrev pub next_tick : List (List ℕ) → List (List ℤ) → Option DumpStage
next_tick names ticks =
    cond (nat_lt (suc (length ticks)) (2 ^ 64)) (Some (literal (decimal (suc (length ticks)) ++ codes "\n")
    (Body (record { names = names; ticks = ticks; now = []; left = olds_of names ticks })))) None

-- a further tick, or the ending
abbrev pub between_ticks : List (List ℕ) → List (List ℤ) → ℕ → Option DumpStage
between_ticks names ticks b = cond (b == 35) (next_tick names ticks) (cond (b == 36) (Some (literal (codes "comment ") (Ending names ticks []))) None)

-- each output had a value before
abbrev pub may_end_tick : List (Option ℤ) → Bool
may_end_tick [] = true
may_end_tick (None ∷ olds) = false
may_end_tick (Some u ∷ olds) = may_end_tick olds

-- the values before, and 0 where there was none
abbrev pub kept_values : List (Option ℤ) → List ℤ
kept_values [] = []
kept_values (None ∷ olds) = pos 0 ∷ kept_values olds
kept_values (Some u ∷ olds) = u ∷ kept_values olds

abbrev pub finished_ticks : TickSpot → List (List ℤ)
finished_ticks w = w.ticks ++ (w.now ++ kept_values w.left) ∷ []

-- a value begins, where an output is left
abbrev pub value_begun : TickSpot → List (Option ℤ) → Option DumpStage
value_begun w [] = None
value_begun w (old ∷ olds) = Some (Bits w [])

-- ---- values

abbrev pub is_bit : ℕ → Bool
is_bit b = (b == 48) || (b == 49)

abbrev pub number_of_bits : List ℕ → ℕ
number_of_bits bs = fold (λ n b. 2 * n + (b - 48)) 0 bs

abbrev pub value_of_bits : List ℕ → ℤ
value_of_bits bs = cast_signed w32 (number_of_bits bs)

-- some output is left that may have this value now, where those before it keep theirs
abbrev pub can_take : List (Option ℤ) → ℤ → Bool
can_take [] v = false
can_take (None ∷ olds) v = true
can_take (Some u ∷ olds) v = cond (is_kept (Some u) v) (can_take olds v) true

abbrev pub behind_kept : ℤ → Option (List ℤ × List (Option ℤ)) → Option (List ℤ × List (Option ℤ))
behind_kept u None = None
behind_kept u (Some t) = Some (u ∷ t.0, t.1)

-- output k of those that are left has this value, and those before it keep theirs: the values up to it, and what is left then
abbrev pub value_taken_by : ℕ → List (Option ℤ) → ℤ → Option (List ℤ × List (Option ℤ))
value_taken_by k [] v = None
value_taken_by zero (old ∷ olds) v = cond (is_kept old v) None (Some (v ∷ [], olds))
value_taken_by (suc k) (None ∷ olds) v = None
value_taken_by (suc k) (Some u ∷ olds) v = behind_kept u (value_taken_by k olds v)

abbrev pub more_bits : TickSpot → List ℕ → Option DumpStage
more_bits w bs = cond (nat_lt (length bs) 32) (Some (Bits w bs)) (cond (can_take w.left (value_of_bits bs)) (Some (literal (codes " ") (Letter w (value_of_bits bs)))) None)

abbrev pub value_taken : TickSpot → Option (List ℤ × List (Option ℤ)) → Option DumpStage
value_taken w None = None
value_taken w (Some t) = Some (literal (codes "\n") (Body (record { names = w.names; ticks = w.ticks; now = w.now ++ t.0; left = t.1 })))

-- ---- the ending

-- the last byte of several is a blank
abbrev pub ends_blank : List ℕ → Bool
ends_blank e = nat_lt 1 (length e) && (get_or e (length e - 1) 0 == 32)

abbrev pub ending_closed_by : List (List ℕ) → List (List ℤ) → List ℕ → Option DumpStage
ending_closed_by names ticks e = cond (ends_blank e) (Some (literal (codes "end\n") (Done (record { names = names; ticks = ticks; ending = take (length e - 1) e })))) None

-- ---- a byte

abbrev pub stage_after : DumpStage → ℕ → Option DumpStage
stage_after (Literal c w s) b = cond (b == c) (Some (literal w s)) None
stage_after (Vars names) b = cond (b == 36) (Some (Dollar names)) None
stage_after (Dollar names) b = cond (b == 118) (declared_output names) (cond (b == 117) (Some (literal (codes "pscope $end\n$enddefinitions $end\n") (Start names))) None)
stage_after (Name names name) b = cond (b == 32) (Some (literal (codes "$end\n") (Vars (names ++ name ∷ [])))) (cond (is_shown_byte b) (Some (Name names (name ++ unshown_byte b ∷ []))) None)
stage_after (Start names) b = between_ticks names [] b
stage_after (Body w) b = cond (b == 98) (value_begun w w.left) (cond (may_end_tick w.left) (between_ticks w.names (finished_ticks w) b) None)
stage_after (Bits w bs) b = cond (is_bit b) (more_bits w (bs ++ b ∷ [])) None
stage_after (Letter w v) b = cond (nat_lt b (33 + length w.now)) None (value_taken w (value_taken_by (b - (33 + length w.now)) w.left v))
stage_after (Ending names ticks e) b = cond (is_ending_byte b) (Some (Ending names ticks (e ++ b ∷ []))) (cond (b == 36) (ending_closed_by names ticks e) None)
stage_after (Done d) b = None

abbrev pub first_stage : DumpStage
first_stage = literal scope_lines (Vars [])

-- ---- bytes

-- the state after these bytes, if each may come
abbrev pub stage_behind : Option DumpStage → List ℕ → Option DumpStage
stage_behind None x = None
stage_behind (Some s) [] = Some s
stage_behind (Some s) (b ∷ x) = stage_behind (stage_after s b) x

abbrev pub dump_found : ℕ → DumpStage → Result PlainDump ℕ
dump_found at (Done d) = Ok d
dump_found at s = Err at

-- the dump that the bytes spell, or how many of them may come
abbrev pub dump_in : ℕ → Option DumpStage → List ℕ → Result PlainDump ℕ
dump_in at None x = Err (pred at)
dump_in at (Some s) [] = dump_found at s
dump_in at (Some s) (b ∷ x) = dump_in (suc at) (stage_after s b) x
