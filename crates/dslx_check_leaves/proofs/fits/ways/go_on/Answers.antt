use Rattle.std.proofs.Common.{◌∙◌, ap, sym}
use Rattle.std.specs.Option.{option_copied}
use mathlib.Core.Bool.{true≢false}
use Rattle.base.specs.TopoOrder.Needs.{Needs}
use Rattle.dslx_check_leaves.proofs.fits.ways.go_on.Goals as goal
use Rattle.dslx_check_leaves.proofs.OnFits.OnWays.{found_own, puts_nothing, puts_own}

pub returns-in-Some-clause-found : goal.returns-in-Some-clause-found
returns-in-Some-clause-found c = found_own c.put_all.result c.args.needs.now c.args.item c.in-Some.own.now c.args.to (sym c.needs_at.ensures ∙ ap option_copied c.in-Some.is) c.put_all.ensures.found

pub returns-in-Some-clause-puts : goal.returns-in-Some-clause-puts
returns-in-Some-clause-puts c = puts_own c.put_all.result c.args.needs.now c.args.item c.in-Some.own.now c.args.queue.now.items c.put_all.new.queue.items (sym c.needs_at.ensures ∙ ap option_copied c.in-Some.is) c.put_all.ensures.puts

pub returns-in-None-clause-found : goal.returns-in-None-clause-found
returns-in-None-clause-found c = λ e. absurd (true≢false (sym e))

pub returns-in-None-clause-puts : goal.returns-in-None-clause-puts
returns-in-None-clause-puts c = puts_nothing (Needs c.args.needs.now c.args.item) c.args.queue.now.items
