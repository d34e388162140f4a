use Rattle.std.proofs.Common.{arith, sym}
use mathlib.Core.Bool.{true≢false}
use Rattle.dslx_check_leaves.proofs.fits.ways.is_among.Goals as goal
use Rattle.dslx_check_leaves.proofs.OnFits.OnWays.{stands_at}

pub returns-then-item-other : goal.returns-then-item-other
returns-then-item-other c = λ e. stands_at c.args.own.now c.items.item-index _ c.args.other (omega arith) (sym c.if-item-other.true)

pub returns : goal.returns
returns c = λ e. absurd (true≢false (sym e))
