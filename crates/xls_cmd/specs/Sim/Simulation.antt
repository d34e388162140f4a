-- The command `sim`, read from top to bottom: the order of the steps is the order of the causes.
use Rattle.std.specs.Prelude.{ℕ, List, [], ◌∷◌, Result, Ok, Err}
use Rattle.xb_io.specs.Contents.{Contents}
use Rattle.xb_span.specs.declared.limit.Limit.{Limit}
use Rattle.xb_span.specs.declared.read_error.ReadError.TheVariants.{Over}
use Rattle.xls_cmd.specs.Shared.Step.{Step, Then, Gives}
use Rattle.xls_cmd.specs.Shared.Loads.{Loads, OfText, text_of}
use Rattle.xls_cmd.specs.Shared.Fault.{Fault}
use Rattle.xls_cmd.specs.declared.shared.fault.Fault.TheVariants.{Input, Text}
use Rattle.chan_file.specs.declared.refusal.Cause.{Cause}
use Rattle.cmd_line.specs.declared.request.Sim.{Sim}
use Rattle.vlog_tree.specs.declared.module.VModule.{VModule}
use Rattle.vlog_text.specs.Reader.Given.{GivesModule}
use Rattle.cycle_sim.specs.Rows.RowFile.{Reads, all_rows}
use Rattle.cycle_sim.specs.declared.rows.refusal.RowError.TheVariants as refused
use Rattle.cycle_sim.specs.declared.rows.rows.Repeated.{Repeated}
use Rattle.cycle_sim.specs.Cycles.Simulated.{IsSimulated}

-- ---- the steps

-- the module of a file, which is UTF-8, is read, breaks no rule and passes no limit
abbrev pub ReadsModule : List ℕ → List ℕ → Step VModule
ReadsModule name bytes = Then (Gives (text_of name bytes)) (λ text. OfText name (GivesModule text))

-- The file says rows of the module, or is refused at its first line at fault, or for its many rows.
pub data ReadsRows (name file : List ℕ) (m : VModule) : Result (List Repeated) Fault → Type 0 where
  says : (rows : List Repeated) → Reads m file (Ok rows) → ReadsRows name file m (Ok rows)
  at_fault : (cause : Cause) (at : ℕ) → Reads m file (Err (refused.Input cause at)) → ReadsRows name file m (Err (Input name cause at))
  too_many : (limit : Limit) → Reads m file (Err (refused.Over limit)) → ReadsRows name file m (Err (Text name (Over limit)))

-- The text of what the module does over the rows.
pub data Simulates (m : VModule) (rows : List Repeated) : Result (List ℕ) Fault → Type 0 where
  shows : (text : List ℕ) → IsSimulated m (all_rows rows) text → Simulates m rows (Ok text)

-- ---- the command

-- `sim`, once both files are loaded
abbrev pub sim_texts : Sim (List ℕ) → List ℕ → List ℕ → Step (List ℕ)
sim_texts arguments design rows =
    Then (ReadsModule arguments.design design) (λ m. Then (ReadsRows arguments.rows rows m) (λ listed. Simulates m listed))

abbrev pub sim : Contents → Sim (List ℕ) → Step (List ℕ)
sim holds arguments =
    Then (Loads holds arguments.design) (λ design.
    Then (Loads holds arguments.rows) (λ rows.
    sim_texts arguments design rows))

-- the files that it names, in the order in which they are loaded
abbrev pub sim_files : Sim (List ℕ) → List (List ℕ)
sim_files arguments = arguments.design ∷ arguments.rows ∷ []
