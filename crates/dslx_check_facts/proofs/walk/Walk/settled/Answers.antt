use Rattle.dslx_check_facts.specs.Walks.{shown}
use Rattle.dslx_check_facts.proofs.OnTypings.Settled.{settled_is}
use Rattle.dslx_check_facts.proofs.walk.Walk.settled.Goals as goal

pub returns : goal.returns
returns c = λ names old later t fs reached n tables row is found count more.
    settled_is names old (shown c.args.self.now) later c.args.span c.args.ty c.args.faults c.args.size c.settled.result t fs reached n
    c.settled.ensures.ty c.settled.ensures.faults c.settled.ensures.size c.settled.ensures.there tables row is found count more
