use Rattle.std.proofs.Common.{◌≡◌, ◌+◌, drop}
use Rattle.block_build.specs.Netlist.Staging.{leading_sites}
use Rattle.block_build.proofs.netlist.stages.leading.Given as goal

abbrev pub invariant-sites : goal.invariant-sites
invariant-sites l = l.i + leading_sites l.stage (drop l.i l.sites) ≡ leading_sites l.stage l.sites
