-- Binary operators by what they do with words and orders.
use Rattle.std.specs.Prelude.{Bool, false, not, ◌||◌}
use Rattle.std.specs.declared.cmp.Ordering.{Ordering}
use Rattle.xb_bits.specs.Word.{Word}
use Rattle.xb_bits.specs.Operations as op
use Rattle.dslx_tree.specs.declared.operator.Binary.{Binary}
use Rattle.dslx_tree.specs.declared.operator.Binary.TheVariants as b
use Rattle.dslx_meaning.specs.Operators.{is_less, is_equal}

-- what an operator makes of two words of one width
abbrev pub worked : Binary → Word → Word → Word
worked b.Mul x y = op.mul x y
worked b.Div x y = op.udiv x y
worked b.Rem x y = op.umod x y
worked b.Add x y = op.add x y
worked b.Sub x y = op.sub x y
worked b.And x y = op.and x y
worked b.Xor x y = op.xor x y
worked b.Or x y = op.or x y
worked _ x y = x

-- whether an order is one for which a comparison holds
abbrev pub holds_at : Binary → Ordering → Bool
holds_at b.Eq o = is_equal o
holds_at b.Ne o = not (is_equal o)
holds_at b.Lt o = is_less o
holds_at b.Le o = is_less o || is_equal o
holds_at b.Gt o = not (is_less o || is_equal o)
holds_at b.Ge o = not (is_less o)
holds_at _ o = false
