use Rattle.std.proofs.Common.{◌∙◌, refl, sym, ap}
use Rattle.std.specs.Option.{option_copied}
use Rattle.dslx_check_declarations.proofs.OnTops.{later_none, later_some}
use Rattle.dslx_check_declarations.proofs.tops.later.Goals as goal

pub returns-in-Some : goal.returns-in-Some
returns-in-Some c = λ o h. later_some c.args.f.now c.args.item _ c.in-Some.process o (sym c.proc_at.ensures ∙ ap option_copied c.in-Some.is) refl

pub returns-in-None : goal.returns-in-None
returns-in-None c = λ o h. later_none c.args.f.now c.args.item o c.args.found (sym c.proc_at.ensures ∙ ap option_copied c.in-None.is) h
