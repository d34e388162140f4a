-- The types of the words at members.
use Rattle.std.specs.Prelude.{List, slice_get}
use Rattle.xb_value.specs.declared.ty.Ty.{Ty}
use Rattle.dslx_core.specs.Types.Designs.{WordTypes}

abbrev pub word_at : List Ty → WordTypes
word_at words k = slice_get words k
