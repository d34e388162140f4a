use Rattle.std.proofs.Common.{◌≡◌, ◌∙◌, true, Some, subst}
use Rattle.xb_value.specs.declared.ty.Ty as ty
use Rattle.dslx_core.specs.Types.Typing.{binds_types}
use Rattle.ir_lower.specs.Types.Signatures.{call_types}
use Rattle.ir_lower.specs.Types.Words.{word_at}
use Rattle.ir_lower.proofs.OnTypes.OnKinds.{same_bound}
use Rattle.ir_lower.proofs.OnTypes.OnSteps.{on_ok, send_bound}
use Rattle.ir_lower.proofs.types.steps.bind_send.Goals as goal

pub returns : goal.returns
returns c =
    on_ok c.bind_all.result _ _
    (λ h. send_bound (call_types c.args.signatures.now) (word_at c.args.words.now) c.args.send.now c.args.bound.now.items c.bind_all.new.bound.items c.in_ok-own.own c.in_ok-word.word c.in_ok-own.ensures c.in_ok-type_if.ensures.ty
    (same_bound (call_types c.args.signatures.now) c.args.send.now.word c.args.bound.now.items c.type_if.new.bound.items c.in_ok-word.word c.in_ok-type_if.ensures.kept c.in_ok-word.ensures.ty) c.in_ok-is_same.ensures
    (subst (λ ts. binds_types true c.args.send.now.shape (ty.Tuple ts) c.args.bound.now.items ≡ Some c.bind_all.new.bound.items) c.new.ensures
    (subst (λ ts. binds_types true c.args.send.now.shape (ty.Tuple c.new.result) ts ≡ Some c.bind_all.new.bound.items) (c.in_ok-word.ensures.kept ∙ c.in_ok-type_if.ensures.kept) h)))
    c.bind_all.ensures.binds
