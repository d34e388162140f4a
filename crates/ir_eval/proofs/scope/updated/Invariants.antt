use Rattle.std.proofs.Common.{◌≡◌, take}
use Rattle.ir_eval.proofs.scope.updated.Given as goal

abbrev pub invariant-values : goal.invariant-values
invariant-values l = l.copies.items ≡ take l.own-index l.values
