use Rattle.dslx_check_facts.specs.Walks.{shown}
use Rattle.dslx_check_facts.proofs.OnTypings.Settled.{unlimited_is}
use Rattle.dslx_check_facts.proofs.walk.Walk.unlimited.Goals as goal

pub returns : goal.returns
returns c = λ names old later t fs reached n row is found count more.
    unlimited_is names old (shown c.args.self.now) later c.args.ty c.args.faults c.args.size c.unlimited.result t fs reached n
    c.unlimited.ensures.ty c.unlimited.ensures.faults c.unlimited.ensures.size c.unlimited.ensures.there row is found count more
