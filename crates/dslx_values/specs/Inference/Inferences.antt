-- What is inferred, without references.
use Rattle.dslx_meaning.specs.Inference.{Inferred}
use Rattle.dslx_values.specs.declared.inference.inference.Inference.{Inference}

abbrev pub inferred : Inference → Inferred
inferred x = record { name = x.name.now; number = x.number }
