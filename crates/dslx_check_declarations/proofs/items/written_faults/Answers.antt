use Rattle.std.proofs.Common.{Option, Some, None, sym, subst}
use Rattle.dslx_check_rules.specs.declared.typing.Typing.{Typing}
use Rattle.dslx_check_declarations.specs.Items.{IsWrittenType}
use Rattle.dslx_check_declarations.proofs.OnItems.{nothing_written, written_there}
use Rattle.dslx_check_declarations.proofs.items.written_faults.Goals as goal

pub returns-in-None : goal.returns-in-None
returns-in-None c names rows later t x h = nothing_written names rows later t x c.none.ensures (subst (λ (o : Option Typing). IsWrittenType names rows later t o x) c.in-None.is h)

pub returns-in-Some : goal.returns-in-Some
returns-in-Some c names rows later t x h = written_there names rows later _ t x (subst (λ (o : Option Typing). IsWrittenType names rows later t o x) c.in-Some.is h)
