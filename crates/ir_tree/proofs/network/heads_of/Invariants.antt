use Rattle.std.proofs.Common.{◌≡◌, take, map}
use Rattle.ir_tree.specs.Networks.{head_of}
use Rattle.ir_tree.proofs.network.heads_of.Given as goal

abbrev pub invariant-procs : goal.invariant-procs
invariant-procs l = l.heads.items ≡ map head_of (take l.proc-index l.procs)
