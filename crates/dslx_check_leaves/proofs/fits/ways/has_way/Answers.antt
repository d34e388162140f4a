use Rattle.std.proofs.Common.{◌∙◌, ◌++◌, ◌∷◌, [], ℕ, List, ap, sym}
use mathlib.Core.Bool.{true≢false}
use Rattle.base.specs.TopoOrder.Needs.{itself}
use Rattle.dslx_check_leaves.proofs.fits.ways.has_way.Goals as goal
use Rattle.dslx_check_leaves.proofs.OnFits.OnWays.{held, met_at, met_first, met_on, way_on}

pub returns-then-is_needed : goal.returns-then-is_needed
returns-then-is_needed c = λ e. itself c.args.from c.args.to (c.is_needed.ensures c.if-is_needed.true)

pub turns-init : goal.turns-init
turns-init c = met_first c.args.needs.now c.args.from c.push.new.self.items (c.in_ok-push.ensures.items ∙ ap (λ (q : List ℕ). q ++ c.args.from ∷ []) c.new-queue.ensures.items)

pub turns-preserved : goal.turns-preserved
turns-preserved c = met_on c.args.needs.now c.args.from c.in-Some.item c.turns.queue.items c.go_on.new.queue.items c.turns.invariant
    (met_at c.args.needs.now c.args.from c.turns.queue.items c.turns.at c.in-Some.item c.turns.invariant (held c.as_slice.result.now c.turns.queue.items c.turns.at c.in-Some.item c.as_slice.ensures.value (sym c.item_at.ensures ∙ c.in-Some.is))) c.in_ok-go_on-in-Some.ensures.puts

pub returns-then-branch : goal.returns-then-branch
returns-then-branch c = λ e. way_on c.args.needs.now c.args.from c.in-Some.item c.args.to
    (met_at c.args.needs.now c.args.from c.turns.queue.items c.turns.at c.in-Some.item c.turns.invariant (held c.as_slice.result.now c.turns.queue.items c.turns.at c.in-Some.item c.as_slice.ensures.value (sym c.item_at.ensures ∙ c.in-Some.is))) (c.in_ok-go_on-in-Some.ensures.found c.if-branch.true)

pub returns-in-None : goal.returns-in-None
returns-in-None c = λ e. absurd (true≢false (sym e))

pub returns : goal.returns
returns c = λ e. absurd (true≢false (sym e))
