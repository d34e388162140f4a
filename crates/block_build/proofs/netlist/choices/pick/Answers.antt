use Rattle.std.proofs.Common.{◌++◌, length, ap, ◌∙◌}
use Rattle.block_build.specs.Netlist.Added.{next_number}
use Rattle.block_build.specs.Netlist.Choices.{choice_wires}
use Rattle.block_build.specs.Netlist.Leaves.{nets}
use Rattle.block_build.proofs.OnNetlist.OnChoosing.{pick_put, pick_count}
use Rattle.block_build.proofs.netlist.choices.pick.Goals as goal

pub returns-clause-shows : goal.returns-clause-shows
returns-clause-shows c =
    pick_put c.args.wires.now c.binary.new.self c.choose.new.wires c.args.selector c.args.number c.in_ok-same.same c.args.widths.now c.args.firsts.now c.args.seconds.now c.from_vec.result c.in_ok-same.ensures c.in_ok-choose.ensures.puts
    (c.from_vec.ensures ∙ c.in_ok-choose.ensures.signals
    ∙ ap (λ xs. xs ++ nets (next_number c.binary.new.self) (length (choice_wires c.in_ok-same.same c.args.widths.now c.args.firsts.now c.args.seconds.now))) c.new-chosen.ensures.items)

pub returns-clause-count : goal.returns-clause-count
returns-clause-count c = λ l m.
    pick_count c.in_ok-same.same (next_number c.binary.new.self) c.args.widths.now c.args.firsts.now c.args.seconds.now c.from_vec.result
    (c.from_vec.ensures ∙ c.in_ok-choose.ensures.signals
    ∙ ap (λ xs. xs ++ nets (next_number c.binary.new.self) (length (choice_wires c.in_ok-same.same c.args.widths.now c.args.firsts.now c.args.seconds.now))) c.new-chosen.ensures.items) l m
