use Rattle.std.proofs.Common.{◌∙◌, ap}
use Rattle.vlog_text.specs.Builder.Building.{reduced}
use Rattle.vlog_text.proofs.OnBuilder.Stepping.{reduce_one}
use Rattle.vlog_text.proofs.builder.builder.reduce_one.Goals as goal

pub returns : goal.returns
returns c = λ rest ls. reduce_one rest ls c.args.production c.args.state.now c.reduce.new.self ((c.in_ok-reduce.ensures {u = tt}) ∙ ap (λ r. reduced r c.args.state.now) c.rule_of.ensures)
