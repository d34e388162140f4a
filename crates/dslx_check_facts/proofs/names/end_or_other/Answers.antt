use Rattle.std.proofs.Common.{◌≡◌, ◌∙◌, sym, ap}
use Rattle.std.specs.Option.{option_copied}
use Rattle.std.proofs.lemmas.Result.{IfOk-weaker}
use Rattle.dslx_check_facts.specs.Walks.{shown}
use Rattle.dslx_check_facts.proofs.Lemmas.Walks.{misses_refl}
use Rattle.dslx_check_facts.proofs.OnUses.{end_typing, not_end}
use Rattle.dslx_check_facts.proofs.names.end_or_other.Goals as goal

pub returns-then-has-clause-misses : goal.returns-then-has-clause-misses
returns-then-has-clause-misses c = misses_refl (shown c.args.w.now)

pub returns-then-has-clause-judged : goal.returns-then-has-clause-judged
returns-then-has-clause-judged c =
    end_typing c.args.f.now c.args.s.now (shown c.args.w.now) c.args.span c.args.name.now c.breaks.result c.settled.result (sym c.has.ensures ∙ c.if-has.true) c.breaks.ensures c.settled.ensures

pub returns-else-has-clause-judged : goal.returns-else-has-clause-judged
returns-else-has-clause-judged c =
    IfOk-weaker c.parametric_or_item.result _ _
    (λ t h. not_end c.args.f.now c.args.s.now (shown c.args.w.now) (shown c.parametric_or_item.new.w) c.args.span c.args.name.now t (sym c.has.ensures ∙ c.if-has.false) h) c.parametric_or_item.ensures.judged
