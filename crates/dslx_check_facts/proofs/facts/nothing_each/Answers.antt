use Rattle.std.proofs.Common.{◌≡◌, ◌∙◌, ◌∷◌, [], ℕ, List, Option, None, length, length-append, sym, ap, subst, refl, arith}
use Rattle.dslx_check_facts.specs.Known.{at_place}
use Rattle.dslx_check_facts.proofs.OnNothing.{none_more}
use Rattle.dslx_check_facts.proofs.facts.nothing_each.Goals as goal

pub each-init : goal.each-init
each-init g c = record {
  size = ap length c.new-places.ensures.items;
  none = subst (λ (xs : List (Option _)). (i : ℕ) → at_place xs i ≡ None) (sym c.new-places.ensures.items) (λ i. refl);
}

pub each-preserved : goal.each-preserved
each-preserved g c = record {
  size = ap length c.in_ok-push.ensures.items ∙ omega (arith, length-append c.each.places.items (None ∷ []), c.each.invariant.size);
  none = subst (λ (xs : List (Option _)). (i : ℕ) → at_place xs i ≡ None) (sym c.in_ok-push.ensures.items) (none_more c.each.places.items c.each.invariant.none);
}
