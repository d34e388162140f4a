use Rattle.std.proofs.Common.{◌<◌, arith}
use Rattle.dslx_check_facts.proofs.OnKeys.Lists.{last_is}
use Rattle.dslx_check_facts.proofs.prefixes.Prefixes.last.Goals as goal

pub returns : goal.returns
returns c =
    last_is c.self.inside.keys.keys c.args.self.now c.args.number c.get_index.result c.self.view_is c.self.invariant (omega (arith, c.if-number-eq0.false)) c.get_index.ensures.key
