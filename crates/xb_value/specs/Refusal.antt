-- Why a text is not read as a value of a type.
use Rattle.std.specs.Prelude.{ℕ, List}
use Rattle.base.specs.Lists.Fault.{IsFirstFault}
use Rattle.xb_value.specs.declared.reader.ValueError.{ValueError}
use Rattle.xb_value.specs.declared.reader.ValueError.TheVariants.{Syntax, Shape, OutOfMemory}
use Rattle.xb_value.specs.declared.ty.Ty.{Ty}
use Rattle.xb_value.specs.Form.{IsValueText}
use Rattle.xb_value.specs.Misfit.{Misfits}

abbrev pub IsRefusal : List ℕ → Ty → ValueError → Type 0
IsRefusal text t (Syntax at) = IsFirstFault IsValueText text at
IsRefusal text t (Shape at) = Misfits text t at
IsRefusal text t OutOfMemory = Unit {0}
