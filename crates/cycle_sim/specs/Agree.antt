-- The widths under which an operator may be used, whatever its target.
use Rattle.std.specs.Prelude.{◌≡◌, ℕ, Bool, true, ◌==◌}
use Rattle.vlog_tree.specs.declared.expression.Binary.{Binary}
use Rattle.vlog_tree.specs.declared.expression.Binary.TheVariants as binary

-- two numbers of these widths may stand at this operator: of one width, but for a shift
abbrev pub agrees : Binary → ℕ → ℕ → Bool
agrees binary.ShiftLeft a b = true
agrees binary.ShiftRight a b = true
agrees _ a b = a == b
