-- What builtins are lowered to, of operands that are lowered.
use Rattle.std.specs.Prelude.{List, [], map, Option, Some, None}
use Rattle.dslx_meaning.specs.Callees.{CallKind, Joins, CountsLeading, CountsTrailing, Reverses, AllOnes, SomeOne, Parity, Updates}
use Rattle.dslx_meaning.specs.Lists.{all_some, and_then}
use Rattle.dslx_meaning.specs.declared.ty.DslxType as ty
use Rattle.dslx_core.specs.declared.expr.CoreUnary.TheVariants as u
use Rattle.dslx_core.specs.declared.expr.CoreExpr as core
use Rattle.dslx_core.specs.Lowering.Lowering.{LoweredExpr, lower_counted, lowered, lower_reduced, lower_updated}

-- `lower_call` of each kind but calls of functions of the text: names, scopes and parametric arguments are nothing to it
abbrev pub builtin_of : CallKind → List LoweredExpr → Option LoweredExpr
builtin_of Joins es = and_then (all_some (map Some es)) (λ es. lowered (core.Tuple []) ty.Token)
builtin_of CountsLeading es = lower_counted u.Clz (map Some es)
builtin_of CountsTrailing es = lower_counted u.Ctz (map Some es)
builtin_of Reverses es = lower_counted u.Rev (map Some es)
builtin_of AllOnes es = lower_reduced u.AndReduce (map Some es)
builtin_of SomeOne es = lower_reduced u.OrReduce (map Some es)
builtin_of Parity es = lower_reduced u.XorReduce (map Some es)
builtin_of Updates es = lower_updated (map Some es)
builtin_of _ es = None
