use Rattle.std.proofs.Common.{arith}
use Rattle.block_build.proofs.OnNetlist.OnSelections.{updated_of}
use Rattle.block_build.proofs.netlist.selections.updated.Goals as goal

pub returns : goal.returns
returns c =
    updated_of c.all_of.result c.args.wires.now c.update.new.wires c.args.scope c.args.array c.args.element c.args.index c.in_ok-number.number c.deref.result.now c.in_ok-widths.widths.items c.len.result c.deref-2.result.now
    c.in_ok-elements.elements.items c.as_slice.result.now c.in_ok-new.new c.deref-3.result.now c.in_ok-results.results.items
    c.in_ok-number.ensures c.deref.ensures.value c.in_ok-widths.ensures (omega (arith, c.len.ensures, c.in_ok-widths.widths.ok.0)) c.deref-2.ensures.value c.in_ok-elements.ensures
    c.as_slice.ensures c.in_ok-new.ensures c.deref-3.ensures.value c.in_ok-results.ensures.count c.in_ok-results.ensures.shows c.all_of.ensures
