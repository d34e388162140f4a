use Rattle.std.proofs.Common.{◌∙◌, sym, ap}
use Rattle.std.specs.Option.{option_map}
use Rattle.dslx_check_facts.specs.Bound.{lent_of}
use Rattle.dslx_check_declarations.specs.Config.{is_once_if}
use Rattle.dslx_check_declarations.proofs.config.Made.is_once_at.Goals as goal

pub returns-in-Some : goal.returns-in-Some
returns-in-Some c = λ used are. c.is_used_once.ensures used are ∙ ap (is_once_if used) (sym (ap (option_map lent_of) c.in-Some.is) ∙ c.at.ensures)

pub returns-in-None : goal.returns-in-None
returns-in-None c = λ used are. ap (is_once_if used) (sym (ap (option_map lent_of) c.in-None.is) ∙ c.at.ensures)
