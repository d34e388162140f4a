use Rattle.dslx_check_leaves.proofs.Lemmas.OnEffects.{args_unfit, no_args_fit}
use Rattle.dslx_check_leaves.proofs.effects.fits_effect.Goals as goal

pub returns-in-empty : goal.returns-in-empty
returns-in-empty c = no_args_fit c.args.count c.args.args.now c.args.operands.now c.in-empty.len_below

pub returns-in-len1-up : goal.returns-in-len1-up
returns-in-len1-up c = args_unfit c.args.count c.args.args.now c.args.operands.now c.in-len1-up.len_at_least
