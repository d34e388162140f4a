use Rattle.std.proofs.Common.{◌≡◌, length}
use Rattle.proc_runner.proofs.Ends.{HaveOutlets, HaveInlets}
use Rattle.proc_runner.proofs.ports.indices.Given as goal

abbrev pub invariant-loop-site : goal.invariant-loop-site
invariant-loop-site g l = (length l.indices.items ≡ l.site-index) × HaveOutlets l.sites l.outlets l.inlets l.indices.items l.site-index × HaveInlets l.sites l.outlets l.inlets l.indices.items l.site-index
