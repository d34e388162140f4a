use Rattle.std.proofs.Common.{◌∙◌, map, ap}
use Rattle.dslx_check_declarations.specs.Items.{member_if}
use Rattle.dslx_check_declarations.proofs.enums.enum_of_type.Goals as goal

pub returns-clause-members : goal.returns-clause-members
returns-clause-members c = c.in_ok-members.ensures ∙ ap (λ b. map (member_if b c.args.name.now) c.args.values.now) c.is_some-is_type.ensures
