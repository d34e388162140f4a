-- The steps of the command agree.
use Rattle.std.proofs.Common.{ℕ, List, Result}
use Rattle.xb_io.specs.Contents.{Contents}
use Rattle.xls_cmd.specs.Shared.Fault.{Fault}
use Rattle.xls_cmd.specs.Shared.Loads.{Loads}
use Rattle.xls_cmd.proofs.Lemmas.Shared.{loads_is_one, then_agrees, then_alike}
use Rattle.xls_cmd.proofs.OnDesign.Steps.{OneModule}
use Rattle.xls_cmd.proofs.OnLowered.Steps.{OnePackage, package_agrees}
use Rattle.cmd_line.specs.declared.request.Opt.{Opt}
use Rattle.xls_cmd.specs.Lowered.Commands.{GivesPackageBy}
use Rattle.ir_tree.specs.declared.package.Package.{Package}
use Rattle.xls_cmd.specs.Shared.Agrees.{AreAlike, Agrees}
use Rattle.xls_cmd.specs.Opt.Commands.{GivesOptimised, optimised, opt, opt_loaded}

optimised_alike : (x y : Package) (a b : Result (List ℕ) Fault) → GivesOptimised x a → GivesOptimised y b → AreAlike a b
optimised_alike x y a b (optimised new text is same again) (optimised old other also like back) = tt

pub opt_agrees : OneModule → OnePackage → (holds : Contents) (arguments : Opt (List ℕ)) → Agrees (opt holds arguments)
opt_agrees module_law package_law holds arguments =
    then_agrees (Loads holds arguments.design) (λ bytes. opt_loaded arguments bytes) (loads_is_one holds arguments.design)
    (λ bytes. then_alike (GivesPackageBy arguments.source arguments.design arguments.top bytes) (λ ir. GivesOptimised ir) (package_agrees module_law package_law arguments.source arguments.design arguments.top bytes) optimised_alike)
