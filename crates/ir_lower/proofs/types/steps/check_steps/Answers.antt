use Rattle.std.proofs.Common.{◌≡◌, ◌∙◌, ◌∷◌, ◌++◌, [], Some, subst, ap, sym}
use Rattle.ir_lower_nodes.specs.Exprs.NodeTypes.{if_node}
use Rattle.ir_lower_nodes.specs.Steps.StepTypes.{steps_node_bind}
use Rattle.ir_lower.specs.Types.Signatures.{call_types}
use Rattle.ir_lower.specs.Types.Words.{word_at}
use Rattle.ir_lower.proofs.OnTypes.OnLimits.{node_is}
use Rattle.ir_lower.proofs.OnTypes.OnSteps.{next_typed, on_ok}
use Rattle.ir_lower.proofs.types.steps.check_steps.Goals as goal

pub returns : goal.returns
returns c =
    let i = c.args.instance.now in
    let own = node_is i.state c.in_ok-state.state (subst (λ t. if_node (Some t) ≡ Some c.in_ok-state.state) c.in_ok-copy.ensures c.in_ok-state.ensures) in
    let first = c.in_ok-push.ensures.items ∙ (ap (λ ts. ts ++ c.in_ok-state.state ∷ []) c.new-bound.ensures.items ∙ ap (λ t. t ∷ []) (sym own.1)) in
    on_ok c.is_same.result _ _
    (λ same. record {
      state = own.0;
      next = next_typed (call_types c.args.signatures.now) (word_at c.args.words.now) i.steps i.next (i.state ∷ []) c.bind_steps.new.bound.items i.state c.in_ok-next.next
          (subst (λ ss. steps_node_bind (call_types c.args.signatures.now) (word_at c.args.words.now) ss (i.state ∷ []) ≡ Some c.bind_steps.new.bound.items) c.as_slice-steps.ensures
          (subst (λ ts. steps_node_bind (call_types c.args.signatures.now) (word_at c.args.words.now) c.as_slice-steps.result.now ts ≡ Some c.bind_steps.new.bound.items) first c.in_ok-bind_steps.ensures))
          c.in_ok-next.ensures.ty same;
    })
    c.is_same.ensures
