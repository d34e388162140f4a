use Rattle.std.proofs.Common.{◌∙◌, Some, ap, sym, subst, if◌then◌else◌}
use Rattle.std.proofs.lemmas.Result.{IfOk-weaker}
use Rattle.dslx_meaning.specs.Values.{type_of_value}
use Rattle.dslx_meaning.specs.Rules.CallRules.{Number, Unknown}
use Rattle.dslx_check_facts.specs.Known.{item_names}
use Rattle.dslx_check_rules.specs.Interned.{type_if}
use Rattle.dslx_check_uses.specs.Inner.Parametrics.{IsResolved, is_same}
use Rattle.dslx_check_uses.proofs.parametrics.typed_value.Goals as goal

pub returns-then-is_typed : goal.returns-then-is_typed
returns-then-is_typed c = IfOk-weaker c.value_if.result _ _ (λ r h later distinct p d t.
    let names = item_names c.args.f.now in
    let declared = type_if names later c.args.declared in
    subst (IsResolved r)
    (ap (λ b. if b then Number c.args.value.now else Unknown) (c.same_types-is_same.ensures names later distinct p d t ∙ ap (is_same declared) (c.is_typed.ensures c.if-is_typed.true later p))) h) c.value_if.ensures
