use Rattle.pass_dead.proofs.Appends.{appended_if, stays_if}
use Rattle.pass_dead.proofs.pass.DeadRewrite.rewrite.Goals as goal

pub returns-clause-rewrites : goal.returns-clause-rewrites
returns-clause-rewrites c = appended_if c.append.result c.args._state.now c.args.nodes.now.items c.append.new.nodes.items c.args.node c.requires.built c.requires.fits_at c.requires.plain c.append.ensures.nodes c.append.ensures.operand

pub returns-clause-gives : goal.returns-clause-gives
returns-clause-gives c = stays_if c.append.result c.args._state.now c.args.nodes.now.items c.append.new.nodes.items c.args.node c.append.ensures.nodes c.append.ensures.operand
