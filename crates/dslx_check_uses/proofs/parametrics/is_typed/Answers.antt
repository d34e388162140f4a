use Rattle.std.proofs.Common.{◌∙◌, Some, ap, sym, subst}
use mathlib.Core.Bool.{true≢false}
use Rattle.dslx_check_facts.specs.Known.{item_names}
use Rattle.dslx_check_rules.specs.Interned.{type_if}
use Rattle.dslx_check_uses.proofs.parametrics.is_typed.Goals as goal

pub returns-in-Some : goal.returns-in-Some
returns-in-Some c = λ e later p. ap (type_if (item_names c.args.f.now) later) c.in-Some.is ∙ ap Some (c.gives_type.ensures.is e later p)

pub returns-in-None : goal.returns-in-None
returns-in-None c = λ e. absurd (true≢false (sym e))
