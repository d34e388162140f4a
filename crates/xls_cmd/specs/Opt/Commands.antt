-- The command `opt`, read from top to bottom: the order of the steps is the order of the causes.
use Rattle.std.specs.Prelude.{◌≡◌, ◌<◌, ◌^◌, ℕ, List, [], ◌∷◌, length, Result, Ok}
use Rattle.xb_io.specs.Contents.{Contents}
use Rattle.xls_cmd.specs.Shared.Fault.{Fault}
use Rattle.xls_cmd.specs.Shared.Step.{Step, Then}
use Rattle.xls_cmd.specs.Shared.Loads.{Loads}
use Rattle.cmd_line.specs.declared.request.Opt.{Opt}
use Rattle.xls_cmd.specs.Lowered.Commands.{GivesPackageBy}
use Rattle.ir_tree.specs.declared.package.Package.{Package}
use Rattle.ir_text.specs.Printer.Lines.{package_text}
use Rattle.ir_text.specs.Parser.Texts.{GivesPackage}
use Rattle.ir_passes.specs.Optimised.{IsOptimised}

-- the text of a package after all passes, which reads as that package where it is shorter than 2^32 bytes
pub data GivesOptimised (ir : Package) : Result (List ℕ) Fault → Type 0 where
  optimised : (new : Package) (text : List ℕ) → IsOptimised ir new → text ≡ package_text new → (length text < 2 ^ 32 → GivesPackage text (Ok new)) → GivesOptimised ir (Ok text)

-- `opt`, once the file is loaded
abbrev pub opt_loaded : Opt (List ℕ) → List ℕ → Step (List ℕ)
opt_loaded arguments bytes = Then (GivesPackageBy arguments.source arguments.design arguments.top bytes) (λ ir. GivesOptimised ir)

abbrev pub opt : Contents → Opt (List ℕ) → Step (List ℕ)
opt holds arguments = Then (Loads holds arguments.design) (λ bytes. opt_loaded arguments bytes)

-- the files that it names
abbrev pub opt_files : Opt (List ℕ) → List (List ℕ)
opt_files arguments = arguments.design ∷ []
