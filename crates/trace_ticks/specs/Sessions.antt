-- What a run over a trace begins with.
use Rattle.forec_base.specs.declared.limits.TheConstants.{MAX_BUDGET, MAX_INPUTS, MAX_ROWS}
use Rattle.std.specs.Prelude.{◌≡◌, ◌≤◌, true, length}
use Rattle.forec_kernel.specs.Shapes.{PlainShape}
use Rattle.trace_rows.specs.Reader.{Reader}
use Rattle.trace_rows.specs.Trace.{row_width}
use Rattle.trace_ticks.specs.Formats.{names_in, opening}
use Rattle.trace_ticks.specs.KernelNames.{inputs_of, outputs_of}
use Rattle.trace_ticks.specs.WaitingRoom.{HasRoomFor}
use Rattle.trace_ticks.specs.declared.session.Session.{Session}

-- it has the names and the places of the inputs and outputs of a shape, what stands before tick 1 waits, and there is room for lines
pub record IsSessionOf (shape : PlainShape) (s : Session) : Type 0 where
  pub small : s.budget ≤ MAX_BUDGET
  pub rows : s.limit ≤ MAX_ROWS
  pub inputs : s.inputs ≡ inputs_of shape
  pub few : length s.inputs ≤ MAX_INPUTS
  pub image : length s.image.inputs.items ≡ length shape.inputs
  pub outputs : length s.image.outputs.items ≡ length shape.outputs
  pub opened : s.waiting.bytes.items ≡ opening s.waiting.format
  pub ample : HasRoomFor s.waiting 128
  pub names : names_in s.waiting.format ≡ outputs_of shape

-- the header was read for a session, and no row yet
pub record AreRowsOf (s : Session) (r : Reader) : Type 0 where
  pub limit : r.limit ≡ s.limit
  pub number : r.given ≡ 0
  pub each : row_width r.form ≡ length s.image.inputs.items
  pub live : r.live ≡ true
