use Rattle.std.proofs.Common.{◌∙◌, Some, sym, ap}
use Rattle.std.specs.Option.{option_map}
use Rattle.base.proofs.Lemmas.Lists.Prefixes.{IsPrefix-refl}
use Rattle.dslx_meaning.specs.Values.{type_of_value}
use Rattle.dslx_check_declarations.proofs.items.typed_value.Goals as goal

pub returns-in_ok-ty-in-Some-clause-is : goal.returns-in_ok-ty-in-Some-clause-is
returns-in_ok-ty-in-Some-clause-is c = λ later p. ap Some (c.in_ok-ty-in-Some.ensures.is later p) ∙ sym (ap (option_map type_of_value) c.in-Some.is)

pub returns-in_ok-ty-in-Some-clause-there : goal.returns-in_ok-ty-in-Some-clause-there
returns-in_ok-ty-in-Some-clause-there c = c.in_ok-ty-in-Some.ensures.there

pub returns-in_ok-ty-in-Some-clause-items : goal.returns-in_ok-ty-in-Some-clause-items
returns-in_ok-ty-in-Some-clause-items c = c.in_ok-ty-in-Some.ensures.items

pub returns-in_ok-ty-in-Some-clause-grows : goal.returns-in_ok-ty-in-Some-clause-grows
returns-in_ok-ty-in-Some-clause-grows c = c.in_ok-ty-in-Some.ensures.grows

pub returns-in-None-clause-grows : goal.returns-in-None-clause-grows
returns-in-None-clause-grows c = IsPrefix-refl _
