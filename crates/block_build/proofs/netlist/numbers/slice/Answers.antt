use Rattle.std.proofs.Common.{◌+◌, ◌≤◌}
use Rattle.xb_bits.specs.Operations as bits
use Rattle.ir_tree.specs.Operations.{of_one, on_word, slice_value}
use Rattle.ir_tree.specs.Types.{bounded}
use Rattle.ir_tree.specs.Rules.Fitting.{slice_fits}
use Rattle.block_build.specs.Netlist.Pure.{scope_types}
use Rattle.block_build.specs.Netlist.Results.{GivesOne}
use Rattle.block_build.proofs.OnNetlist.OnNumbers.{one_put, slice_one, slice_bounded}
use Rattle.block_build.proofs.netlist.numbers.slice.Goals as goal

pub returns : goal.returns
returns c =
    one_put c.one.result c.args.wires.now c.slice.new.wires c.args.scope c.args.operands.now c.in_ok-a.a c.in_ok-result.result
    (λ v x. 1 ≤ bounded c.args.width → bounded c.args.start + bounded c.args.width ≤ x.width → GivesOne v x.width (λ m. bits.slice m (bounded c.args.start) (bounded c.args.width)) x.atom c.in_ok-result.result)
    (λ os. slice_fits c.args.start c.args.width (scope_types c.args.scope) os) (of_one (on_word (slice_value c.args.start c.args.width)))
    c.in_ok-a.ensures (slice_bounded c.args.wires.now c.slice.new.wires c.in_ok-a.a.width c.bounded.result c.bounded-2.result c.args.start c.args.width c.in_ok-a.a.atom c.in_ok-result.result c.bounded.ensures c.bounded-2.ensures c.in_ok-result.ensures)
    c.one.ensures (λ v p. slice_one v c.args.scope c.args.start c.args.width p c.in_ok-result.result)
