use Rattle.std.proofs.Common.{◌≡◌, ◌∙◌, sym, ap}
use Rattle.std.specs.Option.{option_copied}
use Rattle.std.proofs.lemmas.Result.{IfOk-weaker}
use Rattle.dslx_check_facts.specs.Walks.{shown}
use Rattle.dslx_check_facts.proofs.Lemmas.Walks.{misses_refl}
use Rattle.dslx_check_facts.proofs.OnUses.{arg_typing, no_arg}
use Rattle.dslx_check_facts.proofs.names.parametric_or_item.Goals as goal

pub returns-in-Some-clause-misses : goal.returns-in-Some-clause-misses
returns-in-Some-clause-misses c = misses_refl (shown c.args.w.now)

pub returns-in-Some-clause-judged : goal.returns-in-Some-clause-judged
returns-in-Some-clause-judged c =
    arg_typing c.args.f.now c.args.s.now (shown c.args.w.now) c.args.span c.args.name.now c.in-Some.arg.now c.none.result c.settled.result (sym c.get.ensures ∙ ap option_copied c.in-Some.is) c.none.ensures c.settled.ensures

pub returns-in-None-clause-judged : goal.returns-in-None-clause-judged
returns-in-None-clause-judged c =
    IfOk-weaker c.unknown_or_item.result _ _
    (λ t h. no_arg c.args.f.now c.args.s.now (shown c.args.w.now) (shown c.unknown_or_item.new.w) c.args.span c.args.name.now t (sym c.get.ensures ∙ ap option_copied c.in-None.is) h) c.unknown_or_item.ensures.judged
