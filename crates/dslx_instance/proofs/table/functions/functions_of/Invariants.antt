use Rattle.std.proofs.Common.{◌≡◌, ◌++◌, map}
use Rattle.dslx_instance.specs.Table.Keys.{function_made}
use Rattle.dslx_instance.proofs.table.functions.functions_of.Given as goal

-- those that are made, and then what those that are left become
abbrev pub invariant-lowered : goal.invariant-lowered
invariant-lowered l = l.functions.items ++ map function_made l.function-iterator ≡ map function_made l.fn.lowered
