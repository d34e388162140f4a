use Rattle.std.proofs.Common.{arith}
use Rattle.block_build.proofs.OnNetlist.OnSelections.{element_of}
use Rattle.block_build.proofs.netlist.selections.element.Goals as goal

pub returns : goal.returns
returns c =
    element_of c.element_at.result c.args.wires.now c.element_at.new.wires c.args.scope c.args.array c.args.index c.args.ty.now c.in_ok-number.number c.deref.result.now c.in_ok-widths.widths.items c.len.result c.deref-2.result.now
    c.in_ok-elements.elements.items c.in_ok-number.ensures c.deref.ensures.value c.in_ok-widths.ensures (omega (arith, c.len.ensures, c.in_ok-widths.widths.ok.0)) c.deref-2.ensures.value c.in_ok-elements.ensures c.element_at.ensures
