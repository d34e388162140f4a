use Rattle.block_build.proofs.OnNetlist.OnChoosing.{choose_put, first_rest, item_rest}
use Rattle.block_build.proofs.netlist.choices.+choose.Goals as goal

pub returns-in_ok-push-in-len1-up-seconds-clause-puts : goal.returns-in_ok-push-in-len1-up-seconds-clause-puts
returns-in_ok-push-in-len1-up-seconds-clause-puts t c =
    choose_put c.choose.result c.args.wires.now c.choice.new.self c.choose.new.wires c.args.bit c.in_ok-choice-in-len1-up-seconds.field-0 c.first-item.result c.second-item.result c.args.widths.now _ c.args.firsts.now _ c.args.seconds.now _ _
    (first_rest c.args.widths.now 0 c.in-len1-up.len_at_least) (item_rest c.args.firsts.now c.first-item.result c.in-len1-up-firsts.len_at_least c.first-item.is)
    (item_rest c.args.seconds.now c.second-item.result c.in-len1-up-seconds.len_at_least c.second-item.is) c.in_ok-choice-in-len1-up-seconds.ensures c.choose.ensures.puts
