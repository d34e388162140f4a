use Rattle.dslx_check_facts.specs.Known.{item_names}
use Rattle.dslx_check_uses.proofs.structs.field_of.Goals as goal

pub returns-clause-row : goal.returns-clause-row
returns-clause-row c = c.field_type.ensures.there

pub returns-clause-is : goal.returns-clause-is
returns-clause-is c = λ later p h. c.field_type.ensures.is (item_names c.args.f.now) later c.args.name.now p h (c.place_of-place.ensures later p h)
