-- The commands of a design, each read from top to bottom: the order of the steps is the order of the causes.
use Rattle.std.specs.Prelude.{ℕ, List, [], ◌∷◌, Option, Result, Ok, Err}
use Rattle.xb_io.specs.Contents.{Contents}
use Rattle.xls_cmd.specs.Shared.Step.{Step, Then, Gives}
use Rattle.xls_cmd.specs.Shared.Loads.{Loads, OfText, text_of}
use Rattle.xls_cmd.specs.Shared.Fault.{Fault}
use Rattle.xls_cmd.specs.declared.shared.fault.Fault.TheVariants.{Input}
use Rattle.chan_file.specs.ChannelFile.{Reads}
use Rattle.chan_file.specs.declared.refusal.Cause.{Cause}
use Rattle.cmd_line.specs.declared.request.Check.{Check}
use Rattle.cmd_line.specs.declared.request.Run.{Run}
use Rattle.net_core.specs.declared.net.Net.{Net}
use Rattle.net_core.specs.declared.net.Inputs.{Inputs}
use Rattle.dslx_tree.specs.declared.item.Module.{Module}
use Rattle.dslx_meaning.specs.Network.{behaviors_of, network_of}
use Rattle.dslx.specs.Texts.{GivesTree}
use Rattle.xls_cmd.specs.Design.Written.{accepted, depths_by, run_text}

-- ---- the steps

-- the tree of a design, which is UTF-8, is read and isn't refused; its top is the proc of this name, or the last one
abbrev pub ReadsModule : List ℕ → Option (List ℕ) → List ℕ → Step Module
ReadsModule name top bytes = Then (Gives (text_of name bytes)) (λ text. OfText name (GivesTree text top))

-- The file says the words of the network's inputs, or is refused at its first line at fault.
pub data ReadsInputs (name file : List ℕ) (net : Net) : Result Inputs Fault → Type 0 where
  says : (inputs : Inputs) → Reads net file (Ok inputs) → ReadsInputs name file net (Ok inputs)
  at_fault : (cause : Cause) (at : ℕ) → Reads net file (Err (cause, at)) → ReadsInputs name file net (Err (Input name cause at))

-- ---- the commands

-- `check`, once the file is loaded
abbrev pub check_text : Check (List ℕ) → List ℕ → Step (List ℕ)
check_text arguments design = Then (ReadsModule arguments.design arguments.top design) (λ m. Gives (Ok (accepted (network_of m arguments.top))))

abbrev pub check : Contents → Check (List ℕ) → Step (List ℕ)
check holds arguments = Then (Loads holds arguments.design) (λ design. check_text arguments design)

-- `run`, once both files are loaded
abbrev pub run_texts : Run (List ℕ) → List ℕ → List ℕ → Step (List ℕ)
run_texts arguments design inputs =
    Then (ReadsModule arguments.design arguments.top design) (λ m.
    Then (ReadsInputs arguments.inputs inputs (network_of m arguments.top)) (λ words.
    Gives (Ok (run_text (network_of m arguments.top) (behaviors_of m arguments.top) words arguments.how.activations (depths_by arguments.how.depth (network_of m arguments.top))))))

-- the file that it names
abbrev pub check_files : Check (List ℕ) → List (List ℕ)
check_files arguments = arguments.design ∷ []
