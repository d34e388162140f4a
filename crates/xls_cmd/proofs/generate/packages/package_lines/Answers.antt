use Rattle.std.proofs.Common.{ℕ, subst}
use Rattle.net_core.specs.WellFormed.{IsInputs}
use Rattle.net_core.specs.declared.net.Net.{Net}
use Rattle.dslx_tree.specs.declared.item.Module.{Module}
use Rattle.xls_cmd.specs.Gen.Inner.{StepsOfOptimised, StepsOfPackage, TellsHardware}
use Rattle.xls_cmd.specs.Lowered.Commands.{OptimisesPackage, optimises}
use Rattle.xls_cmd.specs.Shared.Done.{StopsBy}
use Rattle.xls_cmd.proofs.Lemmas.Shared.{err_handed, stops_in_next}
use Rattle.xls_cmd.proofs.generate.packages.package_lines.Goals as goal

pub told_of-requires-2-clause-verified : goal.told_of-requires-2-clause-verified
told_of-requires-2-clause-verified c = c.in_ok-new.ensures.verified

pub told_of-requires-2-clause-inputs : goal.told_of-requires-2-clause-inputs
told_of-requires-2-clause-inputs c = subst (λ (n : Net). IsInputs n c.args.inputs.now.words) c.in_ok-new.ensures.same.network c.requires.inputs

pub hardware_line-requires : goal.hardware_line-requires
hardware_line-requires c = c.in_ok-new.ensures.verified

pub returns-in_err-verilog-clause-refused : goal.returns-in_err-verilog-clause-refused
returns-in_err-verilog-clause-refused c =
    let words = c.args.inputs.now.words in
    err_handed c.from_residual-in_err-verilog.result c.in_err-verilog.field-0.0 (λ r. (m : Module) → StopsBy (StepsOfPackage words m c.args.ir) r) c.from_residual-in_err-verilog.ensures.1
    (λ m. stops_in_next (OptimisesPackage c.args.ir) (λ new. StepsOfOptimised words m c.args.ir new) c.in_ok-new.new c.in_err-verilog.field-0.0 (optimises c.in_ok-new.new c.in_ok-new.ensures) (c.in_err-verilog.ensures.refused m c.args.ir))

pub returns-clause-tells : goal.returns-clause-tells
returns-clause-tells c = record {
  new = c.in_ok-new.new;
  optimised = c.in_ok-new.ensures;
  lowered = c.in_ok-lowered.ensures.line;
  same = c.in_ok-same.ensures.line;
  hardware = subst (λ (events : ℕ). TellsHardware c.in_ok-new.new c.args.inputs.now.words events c.in_ok-verilog.verilog.items) c.in_ok-same.ensures.events c.in_ok-verilog.ensures.tells;
}
