-- The package of a design, and the command `ir`, read from top to bottom: the order of the steps is the order of the causes.
use Rattle.std.specs.Prelude.{◌≡◌, ◌<◌, ◌^◌, ℕ, true, false, List, [], ◌∷◌, length, Option, Result, Ok, Err}
use Rattle.xb_io.specs.Contents.{Contents}
use Rattle.xls_cmd.specs.Shared.Fault.{Fault}
use Rattle.xls_cmd.specs.Shared.Step.{Step, Then}
use Rattle.xls_cmd.specs.Shared.Loads.{Loads, OfText}
use Rattle.cmd_line.specs.declared.request.Ir.{Ir as Said}
use Rattle.cmd_line.specs.declared.request.Source.{Source}
use Rattle.cmd_line.specs.declared.request.Source.TheVariants.{Dslx, Ir}
use Rattle.dslx_tree.specs.declared.item.Module.{Module}
use Rattle.dslx_meaning.specs.Network.{behaviors_of, network_of}
use Rattle.xb_span.specs.declared.read_error.ReadError.{ReadError}
use Rattle.xb_span.specs.declared.read_error.ReadError.TheVariants.{Over}
use Rattle.ir_lower.specs.Deep.{deep_limit, receives_deep}
use Rattle.ir_tree.specs.declared.package.Package.{Package}
use Rattle.ir_tree.specs.SameBehavior.{IsDenotedBy}
use Rattle.ir_tree.specs.Rules.Verified.{IsVerified}
use Rattle.ir_passes.specs.Optimised.{IsOptimised}
use Rattle.ir_text.specs.Printer.Lines.{package_text}
use Rattle.ir_text.specs.Parser.Texts.{GivesPackage}
use Rattle.xls_cmd.specs.Design.Commands.{ReadsModule}
use Rattle.xls_cmd.specs.Ir.Commands.{ReadsPackage}

-- A package that breaks no rule and passes no limit, that has the network of the text, and whose procs do in every activation what the
-- text's do. There are several, and the program chooses one. There is none where a proc receives a word that is too deep.
pub data LowersModule (m : Module) (top : Option (List ℕ)) : Result Package ReadError → Type 0 where
  lowers : (ir : Package) → receives_deep (network_of m top) ≡ false → IsVerified ir → IsDenotedBy (network_of m top) (behaviors_of m top) ir → LowersModule m top (Ok ir)
  too_deep : receives_deep (network_of m top) ≡ true → LowersModule m top (Err (Over deep_limit))

-- a package of the design of a file
abbrev pub LowersText : List ℕ → Option (List ℕ) → List ℕ → Step Package
LowersText name top bytes = Then (ReadsModule name top bytes) (λ m. OfText name (LowersModule m top))

-- the package of a file, by what it is written in
abbrev pub GivesPackageBy : Source → List ℕ → Option (List ℕ) → List ℕ → Step Package
GivesPackageBy Dslx name top bytes = LowersText name top bytes
GivesPackageBy Ir name top bytes = ReadsPackage name bytes

-- A package that the passes make of it: it does the same, and it is in normal form.
pub data OptimisesPackage (ir : Package) : Result Package Fault → Type 0 where
  optimises : (new : Package) → IsOptimised ir new → OptimisesPackage ir (Ok new)

abbrev pub OptimisesText : List ℕ → Option (List ℕ) → List ℕ → Step Package
OptimisesText name top bytes = Then (LowersText name top bytes) (λ ir. OptimisesPackage ir)

-- the package of a file whose procs are scheduled: that of a design is optimised
abbrev pub GivesScheduledBy : Source → List ℕ → Option (List ℕ) → List ℕ → Step Package
GivesScheduledBy Dslx name top bytes = OptimisesText name top bytes
GivesScheduledBy Ir name top bytes = ReadsPackage name bytes

-- the text of a package, which reads as it where it is shorter than 2^32 bytes
pub data GivesText (ir : Package) : Result (List ℕ) Fault → Type 0 where
  written : (text : List ℕ) → text ≡ package_text ir → (length text < 2 ^ 32 → GivesPackage text (Ok ir)) → GivesText ir (Ok text)

-- `ir`, once the file is loaded
abbrev pub ir_loaded : Said (List ℕ) → List ℕ → Step (List ℕ)
ir_loaded arguments bytes = Then (LowersText arguments.design arguments.top bytes) (λ made. GivesText made)

abbrev pub ir_of_design : Contents → Said (List ℕ) → Step (List ℕ)
ir_of_design holds arguments = Then (Loads holds arguments.design) (λ bytes. ir_loaded arguments bytes)

-- the files that it names
abbrev pub ir_files : Said (List ℕ) → List (List ℕ)
ir_files arguments = arguments.design ∷ []
