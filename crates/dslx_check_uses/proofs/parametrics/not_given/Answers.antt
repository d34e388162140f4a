use Rattle.std.proofs.Common.{◌∙◌, ◌==◌, ap, if◌then◌else◌, map, subst, sym}
use Rattle.std.specs.List.{list_all}
use Rattle.std.proofs.lemmas.Result.{IfOk-weaker}
use Rattle.dslx_meaning.specs.Lists.{is_in}
use Rattle.dslx_meaning.specs.Rules.CallRules.{Wrong, in_type, parametric_args_for}
use Rattle.dslx_check_rules.specs.Interned.{type_if}
use Rattle.dslx_check_uses.specs.Inner.Parametrics.{IsResolved}
use Rattle.dslx_check_uses.specs.Inferring.{name_lent, number_of}
use Rattle.dslx_check_uses.specs.Inferring.{first_number}
use Rattle.dslx_check_uses.proofs.OnArguments.{default_from, inferred_from, might_infer}
use Rattle.dslx_check_uses.proofs.parametrics.not_given.Goals as goal

pub returns-then-might : goal.returns-then-might
returns-then-might c =
    let name = c.args.parametric.now.name.name in
    might_infer c.args.ty c.args.parametric.now (map number_of c.args.found.now.numbers.items) (map name_lent c.args.found.now.maybe.items)
    (ap (λ l. is_in name (map name_lent l)) (sym c.as_slice.ensures.value) ∙ sym c.may_have-might.ensures ∙ c.if-might.true)

pub returns-in-Some : goal.returns-in-Some
returns-in-Some c =
    let name = c.args.parametric.now.name.name in
    let numbers = c.args.found.now.numbers.items in
    let other = ap (λ l. is_in name (map name_lent l)) (sym c.as_slice.ensures.value) ∙ sym c.may_have-might.ensures ∙ c.if-might.false in
    let first = ap (λ l. first_number (parametric_args_for name (map number_of l))) (sym c.as_slice-2.ensures.value) ∙ sym c.first_inferred-first.ensures ∙ c.in-Some.is in
    IfOk-weaker c.one_inferred.result _ _ (λ r g. inferred_from c.args.ty c.args.parametric.now (map number_of numbers) (map name_lent c.args.found.now.maybe.items) c.in-Some.first other first
    (λ names later p h. subst (λ l. IsResolved r (if list_all (λ k. k == c.in-Some.first) (parametric_args_for name (map number_of l)) then in_type (type_if names later c.args.ty) c.in-Some.first else Wrong))
    c.as_slice-in-Some.ensures.value (g names later p h))) c.one_inferred.ensures

pub returns-in-None : goal.returns-in-None
returns-in-None c =
    let name = c.args.parametric.now.name.name in
    let other = ap (λ l. is_in name (map name_lent l)) (sym c.as_slice.ensures.value) ∙ sym c.may_have-might.ensures ∙ c.if-might.false in
    let first = ap (λ l. first_number (parametric_args_for name (map number_of l))) (sym c.as_slice-2.ensures.value) ∙ sym c.first_inferred-first.ensures ∙ c.in-None.is in
    IfOk-weaker c.default_value.result _ _ (λ r g. default_from c.args.ty c.args.parametric.now (map number_of c.args.found.now.numbers.items) (map name_lent c.args.found.now.maybe.items) other first g) c.default_value.ensures
