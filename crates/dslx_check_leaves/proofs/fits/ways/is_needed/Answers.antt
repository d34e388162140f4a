use Rattle.std.proofs.Common.{◌∙◌, ap, sym}
use Rattle.std.specs.Option.{option_copied}
use mathlib.Core.Bool.{true≢false}
use Rattle.dslx_check_leaves.proofs.fits.ways.is_needed.Goals as goal
use Rattle.dslx_check_leaves.proofs.OnFits.OnWays.{needs_own}

pub returns-in-Some : goal.returns-in-Some
returns-in-Some c = λ e. needs_own c.args.needs.now c.args.item c.in-Some.own.now (sym c.needs_at.ensures ∙ ap option_copied c.in-Some.is) c.args.other (c.is_among.ensures e)

pub returns-in-None : goal.returns-in-None
returns-in-None c = λ e. absurd (true≢false (sym e))
