use Rattle.std.proofs.Common.{ℕ, ◌≤◌}
use Rattle.xb_bits.specs.Operations as bits
use Rattle.ir_tree.specs.Operations.{of_two, on_words, dyn_slice_value}
use Rattle.ir_tree.specs.Types.{bounded}
use Rattle.ir_tree.specs.Rules.Fitting.{dynamic_fits}
use Rattle.block_build.specs.Netlist.Pure.{scope_types}
use Rattle.block_build.specs.Netlist.Results.{GivesTwo}
use Rattle.block_build.proofs.OnNetlist.OnNumbers.{two_put, dyn_slice_two, dyn_slice_bounded}
use Rattle.block_build.proofs.netlist.numbers.dyn_slice.Goals as goal

pub returns : goal.returns
returns c =
    two_put c.one.result c.args.wires.now c.dyn_slice.new.wires c.args.scope c.args.operands.now c.in_ok-a.a c.in_ok-b.b c.in_ok-result.result
    (λ v x y. (u : ℕ) → 1 ≤ bounded c.args.width → bounded c.args.width ≤ 128 → GivesTwo v x.width u (λ m n. bits.dyn_slice m n (bounded c.args.width)) x.atom y.atom c.in_ok-result.result)
    (λ os. dynamic_fits c.args.width (scope_types c.args.scope) os) (of_two (on_words (dyn_slice_value c.args.width)))
    c.in_ok-a.ensures c.in_ok-b.ensures
    (dyn_slice_bounded c.args.wires.now c.dyn_slice.new.wires c.in_ok-a.a.width c.bounded.result c.args.width c.in_ok-a.a.atom c.in_ok-b.b.atom c.in_ok-result.result c.bounded.ensures c.in_ok-result.ensures)
    c.one.ensures (λ v p q. dyn_slice_two v c.args.scope c.args.width p q c.in_ok-result.result)
