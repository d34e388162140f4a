use Rattle.std.proofs.Common.{◌≡◌, ◌∙◌, ◌∷◌, [], ℕ, Bool, false, List, length, length-append, slice_get, sym, ap, subst, refl, arith}
use Rattle.dslx_check_facts.specs.Known.{is_so}
use Rattle.dslx_check_facts.proofs.OnNothing.{none_judged_more}
use Rattle.dslx_check_facts.proofs.facts.none_judged.Goals as goal

pub each-init : goal.each-init
each-init c = record {
  size = ap length c.new-judged.ensures.items;
  none = subst (λ (xs : List Bool). (i : ℕ) → is_so (slice_get xs i) ≡ false) (sym c.new-judged.ensures.items) (λ i. refl);
}

pub each-preserved : goal.each-preserved
each-preserved c = record {
  size = ap length c.in_ok-push.ensures.items ∙ omega (arith, length-append c.each.judged.items (false ∷ []), c.each.invariant.size);
  none = subst (λ (xs : List Bool). (i : ℕ) → is_so (slice_get xs i) ≡ false) (sym c.in_ok-push.ensures.items) (none_judged_more c.each.judged.items c.each.invariant.none);
}
