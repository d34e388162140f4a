use Rattle.std.proofs.Common.{◌∙◌, sym, ap}
use Rattle.std.proofs.lemmas.Result.{IfOk-weaker}
use Rattle.base.proofs.Lemmas.Lists.Prefixes.{IsPrefix-refl}
use Rattle.dslx_check_rules.specs.Interned.{type_if}
use Rattle.dslx_check_rules.specs.Control.Calls.{counted_type}
use Rattle.dslx_check_rules.proofs.control.calls.counted_type.Goals as goal

pub returns-then-gives_bool-clause-is : goal.returns-then-gives_bool-clause-is
returns-then-gives_bool-clause-is c =
    IfOk-weaker c.bool_type.result _ _ (λ t h names later p. h names later p ∙ ap (λ b. counted_type b (type_if names later c.args.ty)) (sym c.if-gives_bool.true)) c.bool_type.ensures.is

pub returns-else-gives_bool-clause-is : goal.returns-else-gives_bool-clause-is
returns-else-gives_bool-clause-is c = λ names later p. ap (λ b. counted_type b (type_if names later c.args.ty)) (sym c.if-gives_bool.false)

pub returns-else-gives_bool-clause-grows : goal.returns-else-gives_bool-clause-grows
returns-else-gives_bool-clause-grows c = IsPrefix-refl c.args.types.now
