-- The command line as `clap` reads it, and what words say by the matches that `clap` states.
use Rattle.std.specs.Prelude.{ℕ, true, List, [], ◌∷◌, Option, Some, None, codes, pos, if◌then◌else◌, option_map, option_and_then}
use Rattle.std.specs.Str.{bytes_eq}
use Rattle.std.specs.Str.Parse.{digits_value, without_leading_plus}
use Rattle.clap.specs.Words.{App, Kinds, Row, Rule, Text, first_of, fault_of, new_app, new_rule, subcommand_of, with_rule, with_subcommand}
use Rattle.clap.specs.ValueTests.{is_unsigned_in}
use Rattle.clap.specs.declared.builder.value_parser.ValueParser.TheVariants as vp
use Rattle.cmd_line.specs.declared.request.Request.{Request}
use Rattle.cmd_line.specs.declared.request.Request.TheVariants as request
use Rattle.cmd_line.specs.declared.request.Check.{Check}
use Rattle.cmd_line.specs.declared.request.Gen.{Gen}
use Rattle.cmd_line.specs.declared.request.How.{How}
use Rattle.cmd_line.specs.declared.request.Run.{Run}
use Rattle.cmd_line.specs.declared.request.Sim.{Sim}
use Rattle.cmd_line.specs.declared.request.Schedule.{Schedule}
use Rattle.cmd_line.specs.declared.request.Opt.{Opt}
use Rattle.cmd_line.specs.declared.request.Ir.{Ir as SaidIr}
use Rattle.cmd_line.specs.declared.request.Source.{Source}
use Rattle.cmd_line.specs.declared.request.Source.TheVariants.{Dslx, Ir}
use Rattle.cmd_line.specs.declared.request.Timing.{Timing}
use Rattle.cmd_line.specs.declared.request.Verilog.{Verilog}

-- ---- the command line

-- the name of a file, a positional argument
abbrev pub file : Text → Rule
file id = record (new_rule id) { required = true }

-- `--activations N`
abbrev pub activations : Rule
activations = record (new_rule (codes "activations")) {
  long = Some (codes "activations");
  required = true;
  parser = Some (vp.Signed (pos 1) (pos 1048576));
}

-- an option that need not stand, with a value behind it
abbrev pub option : Text → Rule
option name = record (new_rule name) { long = Some name }

-- `--top NAME`
abbrev pub top : Rule
top = option (codes "top")

-- `check FILE [--top NAME]`
abbrev pub check : App
check = with_rule (with_rule (new_app (codes "check")) (file (codes "design"))) top

-- `--workers W`
abbrev pub workers : Rule
workers = record (option (codes "workers")) { parser = Some (vp.Signed (pos 1) (pos 16)) }

-- `--depth D`
abbrev pub depth : Rule
depth = record (option (codes "depth")) { parser = Some (vp.Signed (pos 1) (pos 4096)) }

-- `--from F`
abbrev pub from : Rule
from = option (codes "from")

-- what each run has
abbrev pub plain_run : App
plain_run = with_rule (with_rule (with_rule (new_app (codes "run")) (file (codes "design"))) (file (codes "inputs"))) activations

-- `run FILE INPUTS --activations N [--workers W] [--depth D] [--from F] [--top NAME]`
abbrev pub run : App
run = with_rule (with_rule (with_rule (with_rule plain_run workers) depth) from) top

-- `sim FILE ROWS`
abbrev pub sim : App
sim = with_rule (with_rule (new_app (codes "sim")) (file (codes "design"))) (file (codes "rows"))

-- `--clock PS`
abbrev pub clock : Rule
clock = record (new_rule (codes "clock")) {
  long = Some (codes "clock");
  required = true;
  parser = Some (vp.Signed (pos 1) (pos 1000000));
}

-- `--stages N`
abbrev pub stages : Rule
stages = record (option (codes "stages")) { parser = Some (vp.Signed (pos 1) (pos 64)) }

-- `--ii N`
abbrev pub interval : Rule
interval = record (option (codes "ii")) { parser = Some (vp.Signed (pos 1) (pos 64)) }

-- a command whose words name a file and say what its schedules must keep to
abbrev pub scheduling : Text → App
scheduling name = with_rule (with_rule (with_rule (with_rule (new_app name) (file (codes "design"))) clock) stages) interval

-- `schedule FILE --clock PS [--stages N] [--ii N] [--from F] [--top NAME]`
abbrev pub schedule : App
schedule = with_rule (with_rule (scheduling (codes "schedule")) from) top

-- `verilog FILE --clock PS [--stages N] [--ii N] [--depth D] [--from F] [--top NAME]`
abbrev pub verilog : App
verilog = with_rule (with_rule (with_rule (scheduling (codes "verilog")) depth) from) top

-- `opt FILE [--from F] [--top NAME]`
abbrev pub opt : App
opt = with_rule (with_rule (with_rule (new_app (codes "opt")) (file (codes "design"))) from) top

-- `ir FILE [--top NAME]`
abbrev pub ir : App
ir = with_rule (with_rule (new_app (codes "ir")) (file (codes "design"))) top

-- `--seed S`
abbrev pub seed : Rule
seed = record (new_rule (codes "seed")) {
  long = Some (codes "seed");
  required = true;
  parser = Some (vp.Signed (pos 0) (pos 2147483647));
}

-- `--procs K`
abbrev pub procs : Rule
procs = record (new_rule (codes "procs")) {
  long = Some (codes "procs");
  required = true;
  parser = Some (vp.Signed (pos 1) (pos 255));
}

-- `gen --seed S --procs K`
abbrev pub generate : App
generate = with_rule (with_rule (new_app (codes "gen")) seed) procs

-- the words begin with no program's name
abbrev pub bare : App → App
bare app = record app { top = record app.top { no_binary_name = true } }

unfoldable pub xls : App
xls = with_subcommand (with_subcommand (with_subcommand (with_subcommand (with_subcommand (with_subcommand (with_subcommand (with_subcommand (bare (new_app (codes "xls"))) check.top) run.top) sim.top) schedule.top) opt.top) verilog.top) ir.top) generate.top

-- ---- what words say

-- a number from `least` to `most` in decimal digits, perhaps behind a plus
abbrev pub number_in : ℕ → ℕ → Text → Option ℕ
number_in least most text = if is_unsigned_in least most text then Some (digits_value 10 (without_leading_plus text)) else None

abbrev pub check_arguments : List Row → Option (Check Text)
check_arguments rows = option_map (λ design. record { design = design; top = first_of (codes "top") rows }) (first_of (codes "design") rows)

-- the number of workers: 1 where no word says it
abbrev pub workers_in : Option Text → Option ℕ
workers_in None = Some 1
workers_in (Some text) = number_in 1 16 text

-- the depth of inner channels, which may be left out
abbrev pub depth_in : Option Text → Option (Option ℕ)
depth_in None = Some None
depth_in (Some text) = option_map Some (number_in 1 4096 text)

-- what the design is written in: DSLX where no word says it
abbrev pub source_in : Option Text → Option Source
source_in None = Some Dslx
source_in (Some text) =
    if bytes_eq text (codes "dslx") then Some Dslx
    else if bytes_eq text (codes "ir") then Some Ir
    else None

abbrev pub how_arguments : List Row → Option How
how_arguments rows =
    option_and_then (λ n. option_and_then (λ w. option_and_then (λ d. option_map (λ f. record { activations = n; workers = w; depth = d; source = f })
    (source_in (first_of (codes "from") rows))) (depth_in (first_of (codes "depth") rows))) (workers_in (first_of (codes "workers") rows)))
    (option_and_then (number_in 1 1048576) (first_of (codes "activations") rows))

-- the name of the top, which no word says of an IR text
abbrev pub top_in : Source → Option Text → Option (Option Text)
top_in Dslx name = Some name
top_in Ir None = Some None
top_in Ir (Some name) = None

abbrev pub run_arguments : List Row → Option (Run Text)
run_arguments rows =
    option_and_then (λ design. option_and_then (λ inputs. option_and_then (λ how. option_map (λ name. record { design = design; inputs = inputs; top = name; how = how })
    (top_in how.source (first_of (codes "top") rows))) (how_arguments rows)) (first_of (codes "inputs") rows)) (first_of (codes "design") rows)

abbrev pub sim_arguments : List Row → Option (Sim Text)
sim_arguments rows =
    option_and_then (λ design. option_map (λ inputs. record { design = design; rows = inputs }) (first_of (codes "rows") rows)) (first_of (codes "design") rows)

-- how many stages or cycles there may be: 64 where no word says it
abbrev pub most_in : Option Text → Option ℕ
most_in None = Some 64
most_in (Some text) = number_in 1 64 text

abbrev pub timing_arguments : List Row → Option Timing
timing_arguments rows =
    option_and_then (λ c. option_and_then (λ s. option_map (λ i. record { clock = c; stages = s; interval = i })
    (most_in (first_of (codes "ii") rows))) (most_in (first_of (codes "stages") rows)))
    (option_and_then (number_in 1 1000000) (first_of (codes "clock") rows))

abbrev pub schedule_arguments : List Row → Option (Schedule Text)
schedule_arguments rows =
    option_and_then (λ design. option_and_then (λ timing. option_and_then (λ source. option_map (λ name. record { design = design; top = name; timing = timing; source = source })
    (top_in source (first_of (codes "top") rows))) (source_in (first_of (codes "from") rows))) (timing_arguments rows)) (first_of (codes "design") rows)

abbrev pub opt_arguments : List Row → Option (Opt Text)
opt_arguments rows =
    option_and_then (λ design. option_and_then (λ source. option_map (λ name. record { design = design; top = name; source = source })
    (top_in source (first_of (codes "top") rows))) (source_in (first_of (codes "from") rows))) (first_of (codes "design") rows)

abbrev pub ir_arguments : List Row → Option (SaidIr Text)
ir_arguments rows = option_map (λ design. record { design = design; top = first_of (codes "top") rows }) (first_of (codes "design") rows)

abbrev pub verilog_arguments : List Row → Option (Verilog Text)
verilog_arguments rows =
    option_and_then (λ design. option_and_then (λ timing. option_and_then (λ depth. option_and_then (λ source. option_map (λ name. record { design = design; top = name; timing = timing; depth = depth; source = source })
    (top_in source (first_of (codes "top") rows))) (source_in (first_of (codes "from") rows))) (depth_in (first_of (codes "depth") rows))) (timing_arguments rows)) (first_of (codes "design") rows)

abbrev pub gen_arguments : List Row → Option Gen
gen_arguments rows =
    option_and_then (λ s. option_map (λ k. record { seed = s; procs = k })
    (option_and_then (number_in 1 255) (first_of (codes "procs") rows)))
    (option_and_then (number_in 0 2147483647) (first_of (codes "seed") rows))

-- what the matches of a subcommand say
abbrev pub subcommand_arguments : Text × List Row → Option (Request Text)
subcommand_arguments found =
    if bytes_eq found.0 (codes "check") then option_map request.Check (check_arguments found.1)
    else if bytes_eq found.0 (codes "run") then option_map request.Run (run_arguments found.1)
    else if bytes_eq found.0 (codes "sim") then option_map request.Sim (sim_arguments found.1)
    else if bytes_eq found.0 (codes "schedule") then option_map request.Schedule (schedule_arguments found.1)
    else if bytes_eq found.0 (codes "opt") then option_map request.Opt (opt_arguments found.1)
    else if bytes_eq found.0 (codes "verilog") then option_map request.Verilog (verilog_arguments found.1)
    else if bytes_eq found.0 (codes "ir") then option_map request.Ir (ir_arguments found.1)
    else if bytes_eq found.0 (codes "gen") then option_map request.Gen (gen_arguments found.1)
    else None

-- where `clap` finds no fault in the words, what the matches of their subcommand say
abbrev pub arguments_where : Kinds → Option (Text × List Row) → Option (Request Text)
arguments_where [] found = option_and_then subcommand_arguments found
arguments_where (fault ∷ faults) found = None

-- what the words say; None where they say nothing
unfoldable pub arguments_of : List Text → Option (Request Text)
arguments_of words = arguments_where (fault_of xls words) (subcommand_of xls words)
