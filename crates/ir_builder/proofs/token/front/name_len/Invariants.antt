use Rattle.std.proofs.Common.{◌≡◌, ◌+◌, ◌-◌, ◌≤◌, drop, length}
use Rattle.ir_builder.specs.Token.TokenPrefixes.{name_len}
use Rattle.ir_builder.proofs.token.front.name_len.Given as goal

abbrev pub invariant-word : goal.invariant-word
invariant-word l = record { left : l.at + name_len (drop l.at l.text) ≡ name_len l.text; within : l.at ≤ length l.text }

abbrev pub decreases-word : goal.decreases-word
decreases-word l = length l.text - l.at
