use Rattle.std.proofs.Common.{length, sym, ap, ◌∙◌, subst, arith}
use Rattle.block_build.specs.Netlist.Added.{AddsWires}
use Rattle.block_build.specs.Netlist.Choices.{ShowsChosen}
use Rattle.block_build.proofs.OnNetlist.OnChoosing.{PickShows, at_index, select_more}
use Rattle.block_build.proofs.netlist.choices.select.Goals as goal

pub values-preserved : goal.values-preserved
values-preserved c =
    let firsts = c.index-values-i.result in
    let there = at_index c.args.values.now c.values.i firsts c.values-test.true c.index-values-i.is in
    let picks = subst (λ xs. AddsWires c.values.wires c.pick.new.wires (λ v. PickShows v c.args.selector c.literal-number.result c.args.widths.now xs c.values.chosen c.in_ok-picked.picked)) c.as_slice-firsts.ensures
    (subst (λ xs. AddsWires c.values.wires c.pick.new.wires (λ v. PickShows v c.args.selector c.literal-number.result c.args.widths.now c.as_slice-firsts.result.now xs c.in_ok-picked.picked)) c.as_slice.ensures c.in_ok-picked.ensures.shows) in
    record {
      count = λ all same. c.in_ok-picked.ensures.count (ap length (c.as_slice-firsts.ensures ∙ sym there) ∙ all c.values.i c.values-test.true) (ap length c.as_slice.ensures ∙ c.values.invariant.count all same);
      shows = select_more c.args.wires.now c.values.wires c.pick.new.wires c.args.selector c.literal-number.result c.args.bits c.values.i c.args.widths.now c.args.values.now firsts c.values.chosen c.in_ok-picked.picked c.args.other
          c.literal-number.ensures c.values-test.true there c.values.invariant.count c.values.invariant.shows picks;
    }

pub returns : goal.returns
returns c =
    subst (λ k. AddsWires c.args.wires.now c.values.wires (λ v. ShowsChosen v c.args.selector c.args.bits (length c.args.widths.now) c.args.values.now c.args.other k c.values.chosen)) (omega (arith, c.values-test.false, c.values.auto.i-end)) c.values.invariant.shows
