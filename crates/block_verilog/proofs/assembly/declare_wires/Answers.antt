use Rattle.std.proofs.Common.{max, refl, get_or}
use Rattle.vlog_tree.specs.declared.signal.Role.TheVariants.{WireSignal}
use Rattle.block_build.specs.Netlist.Wires.{Wire}
use Rattle.block_verilog.specs.Assembly.{own_name, wires_declared}
use Rattle.block_verilog.specs.Ports.{declared}
use Rattle.block_verilog.proofs.Lemmas.Each.{same_or}
use Rattle.block_verilog.proofs.OnAssembly.{declared_begun, declared_more, declared_done}
use Rattle.block_verilog.proofs.assembly.declare_wires.Goals as goal

pub wires-init : goal.wires-init
wires-init c = declared_begun wires_declared (λ n (wire : Wire). declared (own_name n) WireSignal (max wire.width 1)) (λ n x xs. refl) (λ n. refl) c.args.first c.args.wires.now c.args.declarations.now

pub wires-preserved : goal.wires-preserved
wires-preserved c =
    declared_more wires_declared (λ n (wire : Wire). declared (own_name n) WireSignal (max wire.width 1)) (λ n x xs. refl) (λ n. refl)
    c.args.first c.wires.i c.in_ok-number.number c.args.wires.now (get_or c.args.wires.now c.wires.i c.index-wires-i.result) c.args.declarations.now c.wires.declarations c.declare.new.declarations c.wires-test.true (same_or c.args.wires.now c.wires.i _ _ c.wires-test.true) c.in_ok-number.ensures c.wires.invariant c.in_ok-declare.ensures

pub returns : goal.returns
returns c =
    declared_done wires_declared (λ n (wire : Wire). declared (own_name n) WireSignal (max wire.width 1)) (λ n x xs. refl) (λ n. refl) c.args.first c.wires.i c.args.wires.now c.args.declarations.now c.wires.declarations c.wires-test.false c.wires.invariant
