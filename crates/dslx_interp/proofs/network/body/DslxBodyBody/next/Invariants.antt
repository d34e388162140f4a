use Rattle.std.proofs.Common.{drop}
use Rattle.net_core.specs.Keeps.{IsNothing}
use Rattle.dslx_core.specs.Designs.{functions_from, no_function}
use Rattle.dslx_interp.specs.Network.Inner.Keeps.{IsNextLater}
use Rattle.dslx_interp.specs.Network.Inner.Walking.{IsSentFirst}
use Rattle.dslx_interp.proofs.network.body.DslxBodyBody.next.Given as goal

-- the event of the steps that are left is the next one, and the word that is known is that of the first one
abbrev pub invariant-steps : goal.invariant-steps
invariant-steps l =
    record {
      next : IsNextLater l.self.design.now l.self.number l.self.instance.now (functions_from 0 l.functions no_function) l.state l.got l.done l.walk (drop l.number l.steps);
      sent : IsSentFirst (functions_from 0 l.functions no_function) (drop l.number l.steps) l.walk.bound.items l.sent;
      nothing : IsNothing l.kept;
    }
