use Rattle.std.proofs.Common.{take}
use Rattle.dslx_check_uses.specs.Inner.Fields.{AreFields}
use Rattle.dslx_check_uses.proofs.structs.fields_with.Given as goal

abbrev pub invariant-fields : goal.invariant-fields
invariant-fields l = AreFields l.f l.types l.ty (take l.i l.fields) l.values l.all.items
