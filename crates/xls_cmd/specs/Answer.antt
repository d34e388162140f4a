-- What the program answers to words, by what the files hold.
use Rattle.std.specs.Prelude.{◌≡◌, ℕ, Bool, true, false, List, [], Option, Some, None, Result, Ok, Err}
use Rattle.xb_io.specs.Contents.{Contents}
use Rattle.xls_cmd.specs.Shared.Fault.{Fault, status_of}
use Rattle.xls_cmd.specs.Shared.Step.{ExpectedBy, IsGivenByCommand, Step}
use Rattle.xls_cmd.specs.declared.shared.fault.Fault.TheVariants.{Usage}
use Rattle.cmd_line.specs.CommandLine.{arguments_of}
use Rattle.cmd_line.specs.declared.request.Request.{Request}
use Rattle.cmd_line.specs.declared.request.Request.TheVariants as request
use Rattle.cmd_line.specs.declared.request.Run.{Run}
use Rattle.cmd_line.specs.declared.request.Source.{Source}
use Rattle.cmd_line.specs.declared.request.Source.TheVariants.{Dslx, Ir}
use Rattle.xls_cmd.specs.Design.Commands as design
use Rattle.xls_cmd.specs.Gen.Commands as generating
use Rattle.xls_cmd.specs.Run.Commands as runs
use Rattle.xls_cmd.specs.Sim.Simulation as simulation
use Rattle.xls_cmd.specs.Schedule.Commands as schedules
use Rattle.xls_cmd.specs.Lowered.Commands as lowered
use Rattle.xls_cmd.specs.Opt.Commands as optimising
use Rattle.xls_cmd.specs.Verilog.Commands as printing

-- the same run by so many workers
abbrev pub by_workers : ℕ → Run (List ℕ) → Run (List ℕ)
by_workers count arguments = record arguments { how = record arguments.how { workers = count } }

-- What is expected for what the words of each command say: this is the one place that lists them.
abbrev pub expected_of : Request (List ℕ) → Option Contents → Step (List ℕ)
expected_of (request.Check arguments) known_contents given = ExpectedBy known_contents (λ holds. design.check holds arguments) given
expected_of (request.Run arguments) known_contents given = ExpectedBy known_contents (λ holds. runs.run_by arguments.how.source holds arguments) given
expected_of (request.Sim arguments) known_contents given = ExpectedBy known_contents (λ holds. simulation.sim holds arguments) given
expected_of (request.Schedule arguments) known_contents given = ExpectedBy known_contents (λ holds. schedules.schedule holds arguments) given
expected_of (request.Opt arguments) known_contents given = ExpectedBy known_contents (λ holds. optimising.opt holds arguments) given
expected_of (request.Ir arguments) known_contents given = ExpectedBy known_contents (λ holds. lowered.ir_of_design holds arguments) given
expected_of (request.Verilog arguments) known_contents given = ExpectedBy known_contents (λ holds. printing.verilog holds arguments) given
expected_of (request.Gen arguments) known_contents given = IsGivenByCommand given × generating.gen arguments given

-- the files that the words of each name, in the order in which they are loaded
abbrev pub files_of : Request (List ℕ) → List (List ℕ)
files_of (request.Check arguments) = design.check_files arguments
files_of (request.Run arguments) = runs.run_files arguments
files_of (request.Sim arguments) = simulation.sim_files arguments
files_of (request.Schedule arguments) = schedules.schedule_files arguments
files_of (request.Opt arguments) = optimising.opt_files arguments
files_of (request.Ir arguments) = lowered.ir_files arguments
files_of (request.Verilog arguments) = printing.verilog_files arguments
files_of (request.Gen arguments) = []

abbrev pub expected_for : Option (Request (List ℕ)) → Option Contents → Step (List ℕ)
expected_for None known_contents given = given ≡ Err Usage
expected_for (Some arguments) known_contents given = expected_of arguments known_contents given

-- What is expected for these words: the refusal `usage` where they say nothing; else what is expected for their command, by the
-- contents of the files, where these are known.
abbrev pub expected : List (List ℕ) → Option Contents → Step (List ℕ)
expected words known_contents = expected_for (arguments_of words) known_contents

-- the package of a file is read; that of a design the program chooses
abbrev pub is_read_by : Source → Bool
is_read_by Dslx = false
is_read_by Ir = true

abbrev pub is_exact_for : Option (Request (List ℕ)) → Bool
is_exact_for (Some (request.Ir arguments)) = false
is_exact_for (Some (request.Schedule arguments)) = is_read_by arguments.source
is_exact_for (Some (request.Opt arguments)) = false
is_exact_for (Some (request.Verilog arguments)) = false
is_exact_for (Some (request.Gen arguments)) = false
is_exact_for _ = true

-- words for which one thing is expected: all but those for a package or a module, of which several are as good, and for schedules of a design's
-- package
abbrev pub is_exact : List (List ℕ) → Bool
is_exact words = is_exact_for (arguments_of words)

abbrev pub is_settled_for : Option (Request (List ℕ)) → Bool
is_settled_for (Some (request.Schedule arguments)) = is_read_by arguments.source
is_settled_for (Some (request.Verilog arguments)) = is_read_by arguments.source
is_settled_for (Some (request.Gen arguments)) = false
is_settled_for _ = true

-- words for which it is settled whether a text is expected, and else the cause: all but those for schedules of a design's package, which may be
-- there for one package and not for another, and for its module
abbrev pub is_settled : List (List ℕ) → Bool
is_settled words = is_settled_for (arguments_of words)

-- the status with which it is answered
abbrev pub status_for : Result (List ℕ) Fault → ℕ
status_for (Ok text) = 0
status_for (Err fault) = status_of fault

abbrev pub named_for : Option (Request (List ℕ)) → List (List ℕ)
named_for None = []
named_for (Some arguments) = files_of arguments

-- the files that words name
abbrev pub named_files : List (List ℕ) → List (List ℕ)
named_files words = named_for (arguments_of words)
