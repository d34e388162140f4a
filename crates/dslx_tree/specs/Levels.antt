-- How tightly each binary operator binds, from the tightest.
use Rattle.std.specs.Prelude.{ℕ}
use Rattle.dslx_tree.specs.declared.operator.Binary.{Binary}
use Rattle.dslx_tree.specs.declared.operator.Binary.TheVariants.{Mul, Div, Rem, Add, Sub, Concat, Shl, Shr, And, Xor, Or, Eq, Ne, Lt, Le, Gt, Ge, Both, Either}

abbrev pub level_of : Binary → ℕ
level_of Mul = 0
level_of Div = 0
level_of Rem = 0
level_of Add = 1
level_of Sub = 1
level_of Concat = 1
level_of Shl = 2
level_of Shr = 2
level_of And = 3
level_of Xor = 4
level_of Or = 5
level_of Eq = 6
level_of Ne = 6
level_of Lt = 6
level_of Le = 6
level_of Gt = 6
level_of Ge = 6
level_of Both = 7
level_of Either = 8
