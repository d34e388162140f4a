use Rattle.std.proofs.Common.{◌-◌, map, subst}
use Rattle.ir_tree.specs.Types.{ty_of}
use Rattle.block_build.specs.Netlist.Leaves.{leaf_widths}
use Rattle.block_build.specs.Netlist.Registers.{Lays, zero_register}
use Rattle.block_build.proofs.OnNetlist.OnLaying.{copies_begun, copies_more, copies_done}
use Rattle.block_build.proofs.netlist.layout.lay_copies.Goals as goal

pub stages-init : goal.stages-init
stages-init c = copies_begun c.args.registers.now c.in_ok-widths.widths.items c.saturating_sub-count.result

pub stages-preserved : goal.stages-preserved
stages-preserved c =
    copies_more c.args.registers.now c.stages.registers c.lay_copy.new.registers c.in_ok-widths.widths.items c.saturating_sub-count.result c.stages.counter c.stages-test.true c.stages.invariant
    (subst (λ ws. Lays c.stages.registers c.lay_copy.new.registers (map zero_register ws)) c.as_slice.ensures.value c.in_ok-lay_copy.ensures)

pub returns-clause-lays : goal.returns-clause-lays
returns-clause-lays c =
    copies_done c.args.registers.now c.stages.registers c.in_ok-widths.widths.items (leaf_widths (ty_of c.args.ty.now)) c.saturating_sub-count.result (c.args.to - c.args.from) c.stages.counter c.stages-test.false c.stages.invariant
    c.in_ok-widths.ensures c.saturating_sub-count.ensures
