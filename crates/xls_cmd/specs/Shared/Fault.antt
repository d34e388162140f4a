-- The causes of a refusal: the status and the line of each. This is the one place that lists them.
use Rattle.std.specs.Prelude.{ℕ, List, ◌+◌, ◌++◌, codes, decimal}
use Rattle.std.specs.Borrow.{Bor}
use Rattle.xb_io.specs.declared.files.TheConstants.{FILE_LIMIT}
use Rattle.xb_span.specs.RefusalText.{refusal_text}
use Rattle.xb_span.specs.declared.limit.What.TheVariants.{File}
use Rattle.xb_span.specs.declared.read_error.ReadError.{ReadError}
use Rattle.xb_span.specs.declared.read_error.ReadError.TheVariants.{Syntax, Broken, Over, OutOfMemory}
use Rattle.chan_file.specs.Cause.{word_of}
use Rattle.xls_cmd.specs.declared.shared.fault.Fault as code
use Rattle.xls_cmd.specs.declared.shared.fault.Fault.TheVariants.{Usage, TooBig, Text, Input, Infeasible}

-- a fault, with the names of files as lists of bytes
abbrev pub Fault : Type 0
Fault = code.Fault (List ℕ)

-- a fault, without where its names lie in memory
abbrev pub named : code.Fault (Bor (List ℕ)) → Fault
named Usage = Usage
named (TooBig name) = TooBig name.now
named (Text name error) = Text name.now error
named (Input name cause at) = Input name.now cause at
named (Infeasible line) = Infeasible line.now

-- the status of a text that is refused
abbrev pub text_status : ReadError → ℕ
text_status (Syntax at) = 6
text_status (Broken rule span) = 7
text_status (Over limit) = 8
text_status OutOfMemory = 3

abbrev pub status_of : {N : Type 0} → code.Fault N → ℕ
status_of Usage = 2
status_of (TooBig name) = 8
status_of (Text name error) = text_status error
status_of (Input name cause at) = 10
status_of (Infeasible line) = 9

-- what a file past the limit of bytes passes
abbrev pub past_file_limit : ReadError
past_file_limit = Over (record { what = File; found = FILE_LIMIT + 1; most = FILE_LIMIT })

-- `NAME: MESSAGE`
abbrev pub in_file : List ℕ → List ℕ → List ℕ
in_file name message = name ++ codes ": " ++ message ++ codes "\n"

abbrev pub line_of : Fault → List ℕ
line_of Usage = codes "usage: xls check, ir, opt, schedule, verilog, run, sim or gen\n"
line_of (TooBig name) = in_file name (refusal_text past_file_limit)
line_of (Text name error) = in_file name (refusal_text error)
line_of (Input name cause at) = in_file name (codes "input " ++ word_of cause ++ codes " at " ++ decimal at)
line_of (Infeasible line) = line
