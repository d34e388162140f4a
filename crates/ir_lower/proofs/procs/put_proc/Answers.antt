use Rattle.std.proofs.Common.{◌∙◌, ap}
use Rattle.ir_lower.proofs.OnMade.{proc_lowers}
use Rattle.ir_lower.proofs.procs.put_proc.Goals as goal

pub returns : goal.returns
returns c =
    proc_lowers c.args.functions.now c.args.members.now c.args.instance.now c.lower_next.new.nodes c.in_ok-next.next c.args.name c.in_ok-init.init _
    (c.in_ok-next.ensures (c.new-nodes.ensures.list) (c.new-nodes.ensures.state ∙ c.in_ok-state.ensures))
    (λ i. record { name = c.args.name; state = c.into_parts-state.ensures.state i; init = c.in_ok-init.init; nodes = (c.from_vec.ensures ∙ ap (λ v. v.items) c.into_parts-state.ensures.list) i; next = c.in_ok-next.next })
