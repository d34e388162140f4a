use Rattle.std.proofs.Common.{max, refl, get_or}
use Rattle.vlog_tree.specs.declared.signal.Role.TheVariants.{RegisterSignal}
use Rattle.block_build.specs.declared.netlist.registers.Register.{Register}
use Rattle.block_verilog.specs.Assembly.{own_name, registers_declared}
use Rattle.block_verilog.specs.Ports.{declared}
use Rattle.block_verilog.proofs.Lemmas.Each.{same_or}
use Rattle.block_verilog.proofs.OnAssembly.{declared_begun, declared_more, declared_done}
use Rattle.block_verilog.proofs.assembly.declare_registers.Goals as goal

pub registers-init : goal.registers-init
registers-init c = declared_begun registers_declared (λ n (register : Register). declared (own_name n) RegisterSignal (max register.width 1)) (λ n x xs. refl) (λ n. refl) c.args.first c.args.registers.now c.args.declarations.now

pub registers-preserved : goal.registers-preserved
registers-preserved c =
    declared_more registers_declared (λ n (register : Register). declared (own_name n) RegisterSignal (max register.width 1)) (λ n x xs. refl) (λ n. refl)
    c.args.first c.registers.i c.in_ok-number.number c.args.registers.now (get_or c.args.registers.now c.registers.i c.index-registers-i.result) c.args.declarations.now c.registers.declarations c.declare.new.declarations c.registers-test.true (same_or c.args.registers.now c.registers.i _ _ c.registers-test.true) c.in_ok-number.ensures c.registers.invariant c.in_ok-declare.ensures

pub returns : goal.returns
returns c =
    declared_done registers_declared (λ n (register : Register). declared (own_name n) RegisterSignal (max register.width 1)) (λ n x xs. refl) (λ n. refl) c.args.first c.registers.i c.args.registers.now c.args.declarations.now c.registers.declarations c.registers-test.false c.registers.invariant
