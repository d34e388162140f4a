-- A value that was found, with what is bound there.
use Rattle.std.specs.Prelude.{Option, Some}
use Rattle.xb_value.specs.declared.value.Value.{Value}
use Rattle.dslx_meaning.specs.Lists.{and_then}
use Rattle.dslx_core.specs.CoreValues.{Bindings}
use Rattle.dslx_interp.specs.declared.eval.value.Found.{Found}

abbrev pub plain_found : Option Found → Option (Value × Bindings)
plain_found o = and_then o (λ (f : Found). Some (f.value, f.bound.items))
