use Rattle.std.proofs.Common.{◌∙◌, Some, ap, sym, subst}
use Rattle.std.proofs.lemmas.Result.{IfOk-weaker}
use Rattle.dslx_meaning.specs.Rules.CallRules.{of_type, resolved_value}
use Rattle.dslx_check_facts.specs.Known.{item_names}
use Rattle.dslx_check_rules.specs.Interned.{type_if}
use Rattle.dslx_check_uses.specs.Inner.Parametrics.{IsResolved}
use Rattle.dslx_check_uses.proofs.OnArguments.{is_nothing, value_of_type}
use Rattle.dslx_check_uses.proofs.parametrics.of_type.Goals as goal

pub returns-in-None : goal.returns-in-None
returns-in-None c = λ later distinct p d t. is_nothing (type_if (item_names c.args.f.now) later c.args.declared) c.args.value.now c.in-None.is

pub returns-in-Some : goal.returns-in-Some
returns-in-Some c = IfOk-weaker c.typed_value.result _ _ (λ r h later distinct p d t.
    let declared = type_if (item_names c.args.f.now) later c.args.declared in
    subst (IsResolved r) (sym (value_of_type declared c.in-Some.value) ∙ ap (λ o. resolved_value (of_type declared o)) (sym c.in-Some.is)) (h later distinct p d t)) c.typed_value.ensures
