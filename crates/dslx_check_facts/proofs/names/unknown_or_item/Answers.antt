use Rattle.std.proofs.Common.{◌≡◌, ◌∙◌, sym, ap}
use Rattle.std.specs.Option.{option_copied}
use Rattle.std.proofs.lemmas.Result.{IfOk-weaker}
use Rattle.dslx_check_facts.specs.Walks.{shown}
use Rattle.dslx_check_facts.proofs.Lemmas.Walks.{misses_refl}
use Rattle.dslx_check_facts.proofs.OnUses.{not_unknown, unknown_typing}
use Rattle.dslx_check_facts.proofs.names.unknown_or_item.Goals as goal

pub returns-then-has-clause-misses : goal.returns-then-has-clause-misses
returns-then-has-clause-misses c = misses_refl (shown c.args.w.now)

pub returns-then-has-clause-judged : goal.returns-then-has-clause-judged
returns-then-has-clause-judged c =
    unknown_typing c.args.f.now c.args.s.now (shown c.args.w.now) c.args.span c.args.name.now c.none.result c.settled.result (sym c.has.ensures ∙ c.if-has.true) c.none.ensures c.settled.ensures

pub returns-else-has-clause-judged : goal.returns-else-has-clause-judged
returns-else-has-clause-judged c =
    IfOk-weaker c.item_value.result _ _
    (λ t h. not_unknown c.args.f.now c.args.s.now (shown c.args.w.now) (shown c.item_value.new.w) c.args.span c.args.name.now t (sym c.has.ensures ∙ c.if-has.false) h) c.item_value.ensures.judged
