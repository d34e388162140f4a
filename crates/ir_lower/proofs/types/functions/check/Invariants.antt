use Rattle.std.proofs.Common.{ℕ, ◌<◌}
use Rattle.ir_lower.specs.Types.Typed.{IsSigned}
use Rattle.ir_lower.proofs.types.functions.check.Given as goal

abbrev pub invariant-signatures : goal.invariant-signatures
invariant-signatures l = (k : ℕ) → k < l.number → IsSigned l.signatures l.functions k
