-- Which numbers of a request are within their bounds, as far as others rely on it.
use Rattle.std.specs.Prelude.{◌<◌, ◌≤◌, ℕ}
use Rattle.cmd_line.specs.declared.request.Gen.{Gen}
use Rattle.cmd_line.specs.declared.request.Request.{Request}
use Rattle.cmd_line.specs.declared.request.Request.TheVariants as request

-- a run is made by 1 to 16 workers
abbrev pub IsWorkerCount : ℕ → Type 0
IsWorkerCount n = (1 ≤ n) × (n ≤ 16)

-- a generated design has 1 to 255 procs below its top, and a seed of 31 bits
abbrev pub IsGenInBounds : Gen → Type 0
IsGenInBounds said = (said.seed < 2147483648) × (1 ≤ said.procs) × (said.procs ≤ 255)

-- a schedule may have one stage at least
abbrev pub IsInBounds : {N : Type 0} → Request N → Type 0
IsInBounds (request.Check said) = Unit {0}
IsInBounds (request.Run said) = IsWorkerCount said.how.workers
IsInBounds (request.Sim said) = Unit {0}
IsInBounds (request.Schedule said) = 1 ≤ said.timing.stages
IsInBounds (request.Opt said) = Unit {0}
IsInBounds (request.Verilog said) = 1 ≤ said.timing.stages
IsInBounds (request.Ir said) = Unit {0}
IsInBounds (request.Gen said) = IsGenInBounds said
