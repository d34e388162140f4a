use Rattle.std.proofs.Common.{◌≡◌, ◌∙◌, ◌==◌, ◌-◌, ℕ, List, [], Option, drop, length, arith, refl, sym, ap, subst}
use Rattle.std.specs.List.{list_any}
use Rattle.std.proofs.lemmas.List.{drop_all}
use Rattle.dslx_meaning.specs.Rules.ItemRules.{has_equal_values}
use Rattle.dslx_meaning.specs.declared.value.DslxValue.{DslxValue}
use Rattle.dslx_check_declarations.proofs.OnDoubles.{AreApart, one_apart, one_double}
use Rattle.dslx_check_declarations.proofs.doubles.has_equal_values.Goals as goal

pub values-init : goal.values-init
values-init c =
    let values = c.args.values.now in
    subst (AreApart c.args.kind c.new-words.result) (sym (drop_all ((length c.args.values.now) - 0) values (omega arith)))
    (record { apart = refl; holds = λ n. ap (list_any (λ k. n == k)) c.new-words.ensures.empty })

pub values-preserved : goal.values-preserved
values-preserved c = one_apart c.args.kind c.args.values.now (length c.args.values.now) c.values.i _ _ refl (omega arith) (omega arith) c.index-values-count.is c.values.invariant c.in_ok-is_double.ensures c.if-is_double.false

pub returns-then-is_double : goal.returns-then-is_double
returns-then-is_double c = one_double c.args.kind c.args.values.now (length c.args.values.now) c.values.i _ _ refl (omega arith) (omega arith) c.index-values-count.is c.values.invariant c.in_ok-is_double.ensures c.if-is_double.true

pub returns : goal.returns
returns c =
    let all : drop ((length c.args.values.now) - c.values.i) c.args.values.now ≡ c.args.values.now = ap (λ (k : ℕ). drop k c.args.values.now) (let z : (length c.args.values.now) - c.values.i ≡ 0 = omega arith in z) in
    sym (sym (ap has_equal_values all) ∙ c.values.invariant.apart)
