use Rattle.std.proofs.Common.{◌∙◌, ap}
use Rattle.dslx_parser.specs.Builder.Building.{reduced}
use Rattle.dslx_parser.proofs.OnBuilder.Stepping.{reduce_one}
use Rattle.dslx_parser.proofs.builder.builder.reduce_one.Goals as goal

pub returns : goal.returns
returns c = λ rest ls. reduce_one rest ls c.args.production c.args.parts.now c.reduce.new.parts ((c.in_ok-reduce.ensures {u = tt}) ∙ ap (λ r. reduced r c.args.parts.now) c.rule_of.ensures)
