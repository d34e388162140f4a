use Rattle.block_verilog.proofs.OnBuild.{ShallowBefore}
use Rattle.block_verilog.proofs.build.too_deep.Given as goal

abbrev pub invariant-channels : goal.invariant-channels
invariant-channels l = ShallowBefore l.channels l.depths l.i
