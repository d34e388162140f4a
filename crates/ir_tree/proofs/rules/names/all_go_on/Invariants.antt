use Rattle.std.proofs.Common.{◌≡◌, drop}
use Rattle.ir_tree.specs.Rules.Lines.{all_go_on}
use Rattle.ir_tree.proofs.rules.names.all_go_on.Given as goal

abbrev pub invariant-bytes : goal.invariant-bytes
invariant-bytes l = (all_go_on l.bytes ≡ all_go_on (drop l.i l.bytes))
