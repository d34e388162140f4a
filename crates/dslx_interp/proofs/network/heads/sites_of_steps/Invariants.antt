use Rattle.std.proofs.Common.{◌≡◌, ◌++◌, drop}
use Rattle.dslx_core.specs.Designs.{sites_of_steps}
use Rattle.dslx_interp.proofs.network.heads.sites_of_steps.Given as goal

abbrev pub invariant-steps : goal.invariant-steps
invariant-steps l = l.sites.items ++ sites_of_steps l.channels (drop l.step-index l.steps) ≡ sites_of_steps l.channels l.steps
