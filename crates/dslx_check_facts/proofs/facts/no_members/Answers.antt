use Rattle.std.proofs.Common.{◌≡◌, ◌∙◌, ◌∷◌, [], ℕ, List, Option, None, length, length-append, slice_get, sym, ap, subst, refl, arith}
use Rattle.std.specs.Global.{Vec}
use Rattle.dslx_meaning.specs.Lists.{and_then}
use Rattle.dslx_meaning.specs.declared.value.DslxValue.{DslxValue}
use Rattle.dslx_check_facts.specs.Known.{at_place}
use Rattle.dslx_check_facts.proofs.OnNothing.{no_members_more}
use Rattle.dslx_check_facts.proofs.facts.no_members.Goals as goal

abbrev None_each : List (Vec (Option DslxValue)) → Type 0
None_each members = (i k : ℕ) → and_then (slice_get members i) (λ ms. at_place ms.items k) ≡ None

pub each-init : goal.each-init
each-init c = record {
  size = ap length c.new-members.ensures.items;
  none = subst None_each (sym c.new-members.ensures.items) (λ i k. refl);
}

pub each-preserved : goal.each-preserved
each-preserved c = record {
  size = ap length c.in_ok-push.ensures.items ∙ omega (arith, length-append c.each.members.items (c.new-own.result ∷ []), c.each.invariant.size);
  none = subst None_each (sym c.in_ok-push.ensures.items) (no_members_more c.each.members.items c.new-own.result c.new-own.ensures.items c.each.invariant.none);
}
