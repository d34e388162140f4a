use Rattle.std.proofs.Common.{◌≡◌, ◌++◌, length}
use Rattle.dslx_instance_parts.proofs.structs.in_order.Given as goal

-- those that are left, and then those on the stack
abbrev pub invariant-items : goal.invariant-items
invariant-items g l = l.items ++ l.stack ≡ l.fn.items

abbrev pub decreases-items : goal.decreases-items
decreases-items g l = length l.items
