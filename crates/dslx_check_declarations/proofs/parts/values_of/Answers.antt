use Rattle.std.proofs.Common.{◌≡◌, ◌∙◌, [], ℕ, Some, slice_get, arith, sym, subst}
use Rattle.dslx_check_facts.specs.Walks.{shown}
use Rattle.dslx_check_declarations.proofs.OnParts.{whole_list}
use Rattle.dslx_check_declarations.proofs.parts.values_of.Goals as goal

pub values-preserved : goal.values-preserved
values-preserved c = c.in_ok-before.ensures.1 ∙ c.values.invariant

pub values-smaller : goal.values-smaller
values-smaller c = c.in_ok-before.ensures.0

pub returns : goal.returns
returns c =
    let last : c.values.number ≡ c.none-first.result = omega (arith, c.values-test.false) in
    whole_list (shown c.args.w.now).prefixes c.values.values.items _ c.values.number (subst (λ (n : ℕ). slice_get (shown c.args.w.now).prefixes n ≡ Some []) (sym last) c.none-first.ensures) c.values.invariant
