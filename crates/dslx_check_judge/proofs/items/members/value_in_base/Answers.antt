use Rattle.std.proofs.Common.{◌∙◌, sym, ap, subst}
use Rattle.std.proofs.lemmas.Result.{IfOk-weaker}
use Rattle.dslx_check_rules.specs.Interned.{HasRowIf, type_if}
use Rattle.dslx_check_judge.specs.Items.Inner.Kinds.{number_of_base}
use Rattle.dslx_check_judge.proofs.items.members.value_in_base.Goals as goal

pub returns-in-None : goal.returns-in-None
returns-in-None c = λ names later p row. sym (ap (λ o. number_of_base (type_if names later o) c.args.number) c.in-None.is)

pub returns-in-Some : goal.returns-in-Some
returns-in-Some c = IfOk-weaker c.untyped_value.result _ _
    (λ v h names later p row. h names later p (subst (HasRowIf c.args.types.now) c.in-Some.is row) ∙ sym (ap (λ o. number_of_base (type_if names later o) c.args.number) c.in-Some.is)) c.untyped_value.ensures
