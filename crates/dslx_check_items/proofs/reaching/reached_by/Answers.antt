use Rattle.std.proofs.Common.{◌≡◌, ◌∙◌, ℕ, List, Bool, Some, length, refl, sym, ap, subst, arith}
use Rattle.std.specs.Prelude.{MatchBool, slice_get}
use Rattle.base.specs.TopoOrder.Needs.{AreClosed, AreGroups, Reaches}
use Rattle.dslx_check_items.proofs.reaching.reached_by.Goals as goal

pub groups_of-requires-clause-closed : goal.groups_of-requires-clause-closed
groups_of-requires-clause-closed c = subst AreClosed (sym c.as_slice.ensures.value) c.requires.closed

pub groups_of-requires-clause-few : goal.groups_of-requires-clause-few
groups_of-requires-clause-few c = let size = ap length c.as_slice.ensures.value in let few = c.requires.few in omega (arith, size, few)

pub needing_themselves-requires-clause-closed : goal.needing_themselves-requires-clause-closed
needing_themselves-requires-clause-closed c = subst AreClosed (sym c.as_slice-2.ensures.value) c.requires.closed

pub needing_themselves-requires-clause-few : goal.needing_themselves-requires-clause-few
needing_themselves-requires-clause-few c = let size = ap length c.as_slice-2.ensures.value in let few = c.requires.few in omega (arith, size, few)

pub returns : goal.returns
returns c = record {
  kept = refl;
  groups = subst (λ (needs : List (List ℕ)). AreGroups needs c.in_ok-groups.groups.items) c.as_slice.ensures.value c.in_ok-groups.ensures;
  size = c.in_ok-loops.ensures.size ∙ ap length c.as_slice-2.ensures.value;
  loops = subst (λ (needs : List (List ℕ)). (i : ℕ) (does : Bool) → slice_get c.in_ok-loops.loops.items i ≡ Some does → MatchBool does (Reaches needs i i) (¬ (Reaches needs i i))) c.as_slice-2.ensures.value c.in_ok-loops.ensures.loops;
}
