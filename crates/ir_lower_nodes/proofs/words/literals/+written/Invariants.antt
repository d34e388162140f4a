use Rattle.std.proofs.Common.{◌≡◌, take, map}
use Rattle.ir_lower_nodes.specs.Words.Literals.{written}
use Rattle.ir_lower_nodes.proofs.words.literals.+written.Given as goal

abbrev pub invariant-all_written-values : goal.invariant-all_written-values
invariant-all_written-values l = l.constants.items ≡ map written (take l.value-index l.values)
