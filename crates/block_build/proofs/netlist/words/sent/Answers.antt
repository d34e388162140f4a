use Rattle.std.proofs.Common.{sym, ◌∙◌}
use Rattle.block_build.proofs.OnNetlist.OnWords.{sent_put}
use Rattle.block_build.proofs.netlist.words.sent.Goals as goal

pub returns-in_ok-atoms-in-Some : goal.returns-in_ok-atoms-in-Some
returns-in_ok-atoms-in-Some c =
    sent_put c.joined.result c.args.wires.now c.joined.new.wires c.args.scope c.args.operands.now c.in-Some.operand.now c.as_slice.result.now (sym c.in-Some.ensures) (c.as_slice.ensures ∙ c.in_ok-atoms-in-Some.ensures) c.joined.ensures
