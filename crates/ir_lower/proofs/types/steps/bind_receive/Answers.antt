use Rattle.std.proofs.Common.{◌≡◌, true, Some, subst}
use Rattle.dslx_core.specs.Types.Typing.{binds_types, if_alike}
use Rattle.ir_lower.specs.Types.Signatures.{call_types}
use Rattle.ir_lower.specs.Types.Words.{word_at}
use Rattle.ir_lower.proofs.OnTypes.OnSteps.{on_ok, receive_bound}
use Rattle.ir_lower.proofs.types.steps.bind_receive.Goals as goal

pub returns : goal.returns
returns c =
    on_ok c.bind_all.result _ _
    (λ h. receive_bound (call_types c.args.signatures.now) (word_at c.args.words.now) c.args.receive.now c.args.bound.now.items c.bind_all.new.bound.items c.in_ok-own.own c.in_ok-word.word c.in_ok-pair.pair c.in_ok-own.ensures
    (subst (λ t. if_alike t (Some c.in_ok-own.own) ≡ Some c.in_ok-word.word) c.in_ok-copy.ensures c.in_ok-word.ensures) c.in_ok-type_otherwise.ensures.ty c.in_ok-pair.ensures
    (subst (λ ts. binds_types true c.args.receive.now.shape c.in_ok-pair.pair ts ≡ Some c.bind_all.new.bound.items) c.in_ok-type_otherwise.ensures.kept h))
    c.bind_all.ensures.binds
