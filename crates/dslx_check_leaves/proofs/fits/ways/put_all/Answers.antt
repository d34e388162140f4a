use Rattle.std.proofs.Common.{◌≡◌, ℕ, Some, arith, sym}
use Rattle.std.specs.Prelude.{slice_get}
use mathlib.Core.Bool.{true≢false}
use Rattle.dslx_check_leaves.proofs.fits.ways.put_all.Goals as goal
use Rattle.dslx_check_leaves.proofs.OnFits.OnWays.{stands_at, puts_nothing, puts_on}

pub needs-init : goal.needs-init
needs-init c = puts_nothing (λ x. (k : ℕ) × (slice_get c.args.own.now k ≡ Some x)) c.args.queue.now.items

pub needs-preserved : goal.needs-preserved
needs-preserved c = puts_on (λ x. (k : ℕ) × (slice_get c.args.own.now k ≡ Some x)) _ c.args.queue.now.items c.needs.queue.items c.put_new.new.queue.items
    (λ x e. stands_at c.args.own.now c.needs.item-index _ x (omega arith) e) c.needs.invariant c.in_ok-put_new.ensures

pub returns-then-item-to-clause-found : goal.returns-then-item-to-clause-found
returns-then-item-to-clause-found c = λ e. stands_at c.args.own.now c.needs.item-index _ c.args.to (omega arith) (sym c.if-item-to.true)

pub returns-then-item-to-clause-puts : goal.returns-then-item-to-clause-puts
returns-then-item-to-clause-puts c = c.needs.invariant

pub returns-clause-found : goal.returns-clause-found
returns-clause-found c = λ e. absurd (true≢false (sym e))

pub returns-clause-puts : goal.returns-clause-puts
returns-clause-puts c = c.needs.invariant
