-- What called names stand for.
use Rattle.std.specs.Prelude.{Bool, true, false}
use Rattle.dslx_meaning.specs.declared.names.callee.Callee.{Callee}
use Rattle.dslx_meaning.specs.declared.names.callee.Callee.TheVariants as callee

-- a function of the text, which no builtin and no effect is
abbrev pub is_function_callee : Callee → Bool
is_function_callee callee.Function = true
is_function_callee _ = false
