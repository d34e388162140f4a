-- Names with what they stand for, without references.
use Rattle.dslx_meaning.specs.Environment.{Given}
use Rattle.dslx_meaning.specs.declared.names.scope.Binding.{Binding}

abbrev pub given : Binding → Given
given b = record { name = b.name.now; value = b.value }
