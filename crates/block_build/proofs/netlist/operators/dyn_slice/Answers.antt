use Rattle.std.proofs.Common.{ap, ◌∙◌}
use Rattle.block_build.specs.Netlist.Literals.{literal_atom}
use Rattle.block_build.proofs.OnNetlist.OnOperating.{dyn_slice_put}
use Rattle.block_build.proofs.netlist.operators.dyn_slice.Goals as goal

pub returns : goal.returns
returns c =
    dyn_slice_put c.simple.result c.args.wires.now c.wire.new.self c.simple.new.self c.args.all c.args.width c.args.a c.args.start c.zeros.result c.in_ok-shifted.shifted c.in_ok-bits.bits
    c.in_ok-shifted.ensures.number c.in_ok-shifted.ensures.puts c.in_ok-bits.ensures (c.zeros.ensures ∙ ap (λ n. literal_atom n 0) c.saturating_sub.ensures) c.simple.ensures
