use Rattle.net_core.proofs.Lemmas.{each_keeps}
use Rattle.proc_runner.proofs.run.bodies_keep_types.Goals as goal

pub returns : goal.returns
returns g c = each_keeps g.B.Body.behavior g.met.B.Body.keeps_types c.args._bodies.now
