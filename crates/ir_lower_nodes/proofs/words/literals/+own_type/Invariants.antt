use Rattle.std.proofs.Common.{◌≡◌, take, map}
use Rattle.ir_lower_nodes.specs.Words.Literals.{own_type}
use Rattle.ir_lower_nodes.proofs.words.literals.+own_type.Given as goal

abbrev pub invariant-own_types-values : goal.invariant-own_types-values
invariant-own_types-values l = l.types.items ≡ map own_type (take l.value-index l.values)
