use Rattle.std.proofs.Common.{[], ◌∷◌, ◌++◌, sym, ap, ◌∙◌}
use Rattle.std.proofs.lemmas.List.{append_assoc}
use Rattle.std.specs.Vec.Iter.{into_iter_items}
use Rattle.block_verilog.proofs.OnAssembly.{one_assigned}
use Rattle.block_verilog.proofs.assembly.assignments.Goals as goal

pub wires-preserved : goal.wires-preserved
wires-preserved c = (
  one_assigned c.args.first c.len.result c.wires.yielded c.in-Some.wire c.wires.made c.push.new.self c.in_ok-assignment.field-0 c.wires.invariant.0 c.len.ensures c.in_ok-assignment.ensures c.in_ok-push.ensures.ok,
  c.wires.invariant.1 ∙ ap (λ xs. c.wires.yielded ++ xs) c.in-Some.ensures.steps.0 ∙ sym (append_assoc c.wires.yielded (c.in-Some.wire ∷ []) (into_iter_items c.next.new.self)),
)
