use Rattle.dslx_instance.specs.Tasks.Shown.{body_shown, machine_shown}
use Rattle.dslx_param.proofs.Adding.{adds_made, runs_from}
use Rattle.std.proofs.Common.{true}
use Rattle.dslx_param.proofs.made.add_instance.Goals as goal

pub returns-then-branch : goal.returns-then-branch
returns-then-branch c =
    λ is. adds_made c.args.text.now c.args.table c.args.limit c.args.wanted (body_shown c.in_ok-needing_body.field-0) (machine_shown c.run.new.machine) c.in_ok-needing_body.ensures
    (runs_from c.args.text.now c.args.table c.args.limit (body_shown c.in_ok-needing_body.field-0) c.new.result (machine_shown c.run.new.machine) c.in_ok-run.field-0 true c.new.ensures c.if-branch.true c.in_ok-run.ensures)
    is c.each_instance_stands_once.ensures.machine c.lower_mono.ensures.instance
