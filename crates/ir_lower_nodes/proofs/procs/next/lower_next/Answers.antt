use Rattle.std.proofs.Common.{◌∙◌, ◌++◌, [], ◌∷◌, subst, ap}
use Rattle.std.proofs.lemmas.Result.{IfOk-weaker}
use Rattle.ir_tree.specs.declared.node.Operand.TheVariants as operand
use Rattle.ir_lower_nodes.specs.Steps.Steps.{StepsLower}
use Rattle.ir_lower_nodes.proofs.OnProcs.OnNext.{next_lowers}
use Rattle.ir_lower_nodes.proofs.procs.next.lower_next.Goals as goal

pub returns : goal.returns
returns c =
    IfOk-weaker c.lower.result _ _
    (λ o last none state. next_lowers c.args.functions.now c.args.channels.now c.args.instance.now c.args.nodes.now c.put_start.new.nodes c.lower_steps.new.nodes c.lower.new.nodes c.in_ok-start.start _ o c.lower_steps.new.slots.items
    c.in_ok-start.ensures
    (subst (λ ss. StepsLower c.args.functions.now c.args.channels.now ss (operand.State ∷ []) c.lower_steps.new.slots.items c.put_start.new.nodes c.lower_steps.new.nodes c.in_ok-start.start c.in_ok-lower_steps.field-0) c.as_slice-steps.ensures
    (subst (λ os. StepsLower c.args.functions.now c.args.channels.now c.as_slice-steps.result.now os c.lower_steps.new.slots.items c.put_start.new.nodes c.lower_steps.new.nodes c.in_ok-start.start c.in_ok-lower_steps.field-0) (c.in_ok-push.ensures.items ∙ ap (λ os. os ++ operand.State ∷ []) c.new-slots.ensures.items) c.in_ok-lower_steps.ensures))
    last none state)
    c.lower.ensures.value
