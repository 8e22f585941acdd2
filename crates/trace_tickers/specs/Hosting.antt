-- What hosts follow, and one core with all threads.
use Rattle.std.specs.Prelude.{List}
use Rattle.forec_kernel.specs.Composed.{TickInput}
use Rattle.forec_kernel.specs.Shapes.{PlainKernel}
use Rattle.core_host.specs.Hosted as hosted
use Rattle.core_host.specs.Runs as runs
use Rattle.one_core.specs.Single as single
use Rattle.trace_ticks.specs.Following.{CodeFollows}

-- the code is that of a host
abbrev pub HostFollows : hosted.Hosted → PlainKernel → List TickInput → Type 0
HostFollows h = CodeFollows (hosted.code_of h) (runs.HostHasRun h)

-- the code has all threads on one core
abbrev pub OneFollows : single.Single → PlainKernel → List TickInput → Type 0
OneFollows o = CodeFollows (single.single_code o) (single.OneCoreHasRun o)
