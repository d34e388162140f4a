use Rattle.std.proofs.Common.{sym, ◌∙◌}
use Rattle.block_build.proofs.OnNetlist.OnLaying.{whatever_comes, literal_laid, value_laid}
use Rattle.block_build.proofs.netlist.layout.lay_node.Goals as goal

pub returns-then-is_literal-clause-lays : goal.returns-then-is_literal-clause-lays
returns-then-is_literal-clause-lays c = whatever_comes c.next.result _ (literal_laid c.args.registers.now c.args.node.now c.args.stage c.args.last (sym c.is_literal.ensures ∙ c.if-is_literal.true))

pub returns-else-is_literal-clause-lays : goal.returns-else-is_literal-clause-lays
returns-else-is_literal-clause-lays c =
    value_laid c.lay_copies.result c.args.registers.now c.lay_copies.new.registers c.args.node.now c.args.stage c.args.last (sym c.is_literal.ensures ∙ c.if-is_literal.false) c.lay_copies.ensures.lays
