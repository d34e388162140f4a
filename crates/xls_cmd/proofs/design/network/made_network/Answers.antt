use Rattle.std.proofs.Common.{map}
use Rattle.dslx_interp.specs.Network.DslxBodies.{behavior_of}
use Rattle.xls_cmd.proofs.OnDesign.Steps.{design_runs}
use Rattle.xls_cmd.proofs.design.network.made_network.Goals as goal

pub returns-in-Ok : goal.returns-in-Ok
returns-in-Ok c =
    let is = c.requires in
    let design = c.args.design.now in
    design_runs design c.in-Ok.made.net (map behavior_of c.in-Ok.made.bodies.items) is (c.accepted_texts_run.ensures.runs is.text is.top design is.accepted is.made is.checked)
    (λ m top accepted from. c.in-Ok.ensures.runs m top accepted from.made from.checked)
