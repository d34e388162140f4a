-- The command `run`, read from top to bottom: the order of the steps is the order of the causes.
use Rattle.std.specs.Prelude.{ℕ, List, [], ◌∷◌}
use Rattle.xb_io.specs.Contents.{Contents}
use Rattle.cmd_line.specs.declared.request.Run.{Run}
use Rattle.cmd_line.specs.declared.request.Source.{Source}
use Rattle.cmd_line.specs.declared.request.Source.TheVariants.{Dslx, Ir}
use Rattle.xls_cmd.specs.Shared.Step.{Step, Then}
use Rattle.xls_cmd.specs.Shared.Loads.{Loads}
use Rattle.xls_cmd.specs.Design.Commands as design
use Rattle.xls_cmd.specs.Ir.Commands as ir

-- once both files are loaded, by what the first one is written in
abbrev pub run_texts : Source → Run (List ℕ) → List ℕ → List ℕ → Step (List ℕ)
run_texts Dslx arguments file inputs = design.run_texts arguments file inputs
run_texts Ir arguments file inputs = ir.run_texts arguments file inputs

abbrev pub run_by : Source → Contents → Run (List ℕ) → Step (List ℕ)
run_by source holds arguments =
    Then (Loads holds arguments.design) (λ file.
    Then (Loads holds arguments.inputs) (λ inputs.
    run_texts source arguments file inputs))

-- the files that it names, in the order in which they are loaded
abbrev pub run_files : Run (List ℕ) → List (List ℕ)
run_files arguments = arguments.design ∷ arguments.inputs ∷ []
