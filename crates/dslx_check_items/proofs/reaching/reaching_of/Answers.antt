use Rattle.std.proofs.Common.{ℕ, List, length, sym, ap, ◌∙◌, subst, arith}
use Rattle.std.specs.Prelude.{IfOk}
use Rattle.base.specs.TopoOrder.Needs.{AreClosed}
use Rattle.dslx_check_items.specs.Reaching.{AreReached}
use Rattle.dslx_check_items.proofs.OnReaching.Reached.{as_many, needs_closed}
use Rattle.dslx_check_items.proofs.reaching.reaching_of.Goals as goal

pub reached_by-requires-clause-closed : goal.reached_by-requires-clause-closed
reached_by-requires-clause-closed c = subst AreClosed (sym c.in_ok-needs.ensures) (needs_closed c.args.items.now.text.now)

pub reached_by-requires-clause-few : goal.reached_by-requires-clause-few
reached_by-requires-clause-few c =
    let size = ap length c.in_ok-needs.ensures ∙ as_many c.args.items.now.text.now in
    let few = c.args.items.now.few in
    omega (arith, size, few)

pub returns : goal.returns
returns c =
    subst (λ (needs : List (List ℕ)). IfOk c.reached_by.result (λ reached. AreReached needs reached)) c.in_ok-needs.ensures c.reached_by.ensures
