-- The steps of a run of an IR text: their order is the order of the causes.
use Rattle.std.specs.Prelude.{ℕ, List, Ok}
use Rattle.xls_cmd.specs.Shared.Step.{Step, Then, Gives}
use Rattle.xls_cmd.specs.Shared.Loads.{OfText, text_of}
use Rattle.cmd_line.specs.declared.request.Run.{Run}
use Rattle.xls_cmd.specs.Design.Commands.{ReadsInputs}
use Rattle.xls_cmd.specs.Design.Written.{depths_by, run_text}
use Rattle.ir_tree.specs.declared.package.Package.{Package}
use Rattle.ir_tree.specs.Networks.{network_of, behaviors_of}
use Rattle.ir_text.specs.Parser.Texts.{GivesPackage}

-- the package of a file, which is UTF-8, is read, breaks no rule and passes no limit
abbrev pub ReadsPackage : List ℕ → List ℕ → Step Package
ReadsPackage name bytes = Then (Gives (text_of name bytes)) (λ text. OfText name (GivesPackage text))

-- `run --from ir`, once both files are loaded
abbrev pub run_texts : Run (List ℕ) → List ℕ → List ℕ → Step (List ℕ)
run_texts arguments design inputs =
    Then (ReadsPackage arguments.design design) (λ ir.
    Then (ReadsInputs arguments.inputs inputs (network_of ir)) (λ words.
    Gives (Ok (run_text (network_of ir) (behaviors_of ir) words arguments.how.activations (depths_by arguments.how.depth (network_of ir))))))
