use Rattle.std.proofs.Common.{length, sym, subst}
use Rattle.block_build.specs.Netlist.Added.{AddsWires}
use Rattle.block_build.specs.Netlist.Choices.{ShowsUpdated, ShowAllUpdated}
use Rattle.block_build.proofs.OnNetlist.OnChoosing.{at_index, push_count, update_more}
use Rattle.block_build.proofs.netlist.choices.update.Goals as goal

pub elements-preserved : goal.elements-preserved
elements-preserved c =
    let there = at_index c.args.elements.now c.elements.i c.index-elements-i.result c.elements-test.true c.index-elements-i.is in
    let made = subst (λ xs. AddsWires c.elements.wires c.updated_at.new.wires (λ v. ShowsUpdated v c.args.index c.args.bits (length c.args.widths.now) c.args.element.now c.elements.i xs c.in_ok-made.made)) c.as_slice-old.ensures c.in_ok-made.ensures in
    record {
      count = push_count c.elements.updated.items c.push.new.self.items c.in_ok-made.made c.elements.i c.elements.invariant.count c.in_ok-push.ensures.items;
      shows = subst (λ xs. AddsWires c.args.wires.now c.updated_at.new.wires (λ v. ShowAllUpdated v c.args.index c.args.bits (length c.args.widths.now) c.args.element.now c.args.elements.now xs)) (sym c.in_ok-push.ensures.items)
          (update_more c.args.wires.now c.elements.wires c.updated_at.new.wires c.args.index c.args.bits (length c.args.widths.now) c.elements.i c.args.element.now c.index-elements-i.result c.in_ok-made.made c.args.elements.now c.elements.updated.items
          c.elements.invariant.count c.elements-test.true there c.elements.invariant.shows made);
    }
