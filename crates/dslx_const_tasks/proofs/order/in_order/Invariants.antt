use Rattle.std.proofs.Common.{◌≡◌, ◌++◌, length}
use Rattle.dslx_const_tasks.proofs.order.in_order.Given as goal

-- those that are left, and then those on the stack
abbrev pub invariant-values : goal.invariant-values
invariant-values l = l.values ++ l.stack ≡ l.fn.values

abbrev pub decreases-values : goal.decreases-values
decreases-values l = length l.values
