use Rattle.std.proofs.Common.{◌≡◌, drop}
use Rattle.pass_dead.specs.Inner.Marks.{marked_all}
use Rattle.pass_dead.proofs.marks.mark_all.Given as goal

abbrev pub invariant-operands : goal.invariant-operands
invariant-operands l = marked_all l.kept.items (drop l.operand-index l.operands) ≡ marked_all l.initial.kept.items l.operands
