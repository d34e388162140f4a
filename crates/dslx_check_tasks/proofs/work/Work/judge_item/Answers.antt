use Rattle.std.proofs.Common.{◌∙◌, ap, sym}
use Rattle.std.specs.Option.{option_copied}
use Rattle.std.proofs.lemmas.Result.{on_ok_weaker}
use Rattle.dslx_check_facts.specs.Known.{is_judged}
use Rattle.dslx_check_tasks.specs.declared.work.Work.{Work}
use Rattle.dslx_check_tasks.proofs.Lemmas.Standing.{stays, steps, with_tasks}
use Rattle.dslx_check_tasks.proofs.work.Work.judge_item.Goals as goal

pub returns-then-is_some : goal.returns-then-is_some
returns-then-is_some c = stays c.args.self.now

pub returns-then-branch : goal.returns-then-branch
returns-then-branch c = on_ok_weaker c.postpone.result (λ e. with_tasks c.args.self.now c.waits.new.self c.postpone.new.self c.in_ok-waits.ensures.goes e) c.postpone.ensures

pub walk_item-requires-clause-new : goal.walk_item-requires-clause-new
walk_item-requires-clause-new c = ap (λ (w : Work). is_judged w.facts c.args.item) c.in_ok-waits.ensures.rest ∙ sym c.is_judged.ensures ∙ c.if-is_judged.false

pub walk_item-requires-clause-own : goal.walk_item-requires-clause-own
walk_item-requires-clause-own c = sym c.definition.ensures ∙ ap option_copied c.in-Some.is

pub returns-in-Some : goal.returns-in-Some
returns-in-Some c = on_ok_weaker c.walk_item.result (λ g. steps c.args.self.now c.waits.new.self c.walk_item.new.self c.in_ok-waits.ensures.goes g) c.walk_item.ensures
