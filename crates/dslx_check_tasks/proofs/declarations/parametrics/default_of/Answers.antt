use Rattle.std.proofs.Common.{◌∙◌, sym, ap}
use Rattle.std.specs.Option.{option_copied}
use Rattle.dslx_check_tasks.specs.Declarations.Inner.Foreign.{default_tree}
use Rattle.dslx_check_tasks.proofs.declarations.parametrics.default_of.Goals as goal

pub returns-in-None : goal.returns-in-None
returns-in-None c = sym (ap (λ o. default_tree (option_copied o)) c.in-None.is)

pub returns-in-Some : goal.returns-in-Some
returns-in-Some c = c.default_in.ensures ∙ sym (ap (λ o. default_tree (option_copied o)) c.in-Some.is)
