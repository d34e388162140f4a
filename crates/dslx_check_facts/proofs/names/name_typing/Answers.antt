use Rattle.std.proofs.Common.{◌≡◌, ◌∙◌, sym, ap}
use Rattle.std.specs.Option.{option_copied}
use Rattle.std.proofs.lemmas.Result.{IfOk-weaker}
use Rattle.dslx_check_facts.specs.Walks.{shown}
use Rattle.dslx_check_facts.proofs.Lemmas.Walks.{misses_refl}
use Rattle.dslx_check_facts.proofs.OnUses.{bound_typing, other_typing}
use Rattle.dslx_check_facts.proofs.names.name_typing.Goals as goal

pub returns-in-Some-clause-misses : goal.returns-in-Some-clause-misses
returns-in-Some-clause-misses c = misses_refl (shown c.args.w.now)

pub returns-in-Some-clause-judged : goal.returns-in-Some-clause-judged
returns-in-Some-clause-judged c =
    bound_typing c.args.f.now c.args.s.now (shown c.args.w.now) c.args.span c.args.name.now c.in-Some.ty.now c.none.result c.settled.result (sym c.get.ensures ∙ ap option_copied c.in-Some.is) c.none.ensures c.settled.ensures

pub returns-in-None-clause-judged : goal.returns-in-None-clause-judged
returns-in-None-clause-judged c =
    IfOk-weaker c.end_or_other.result _ _
    (λ t h. other_typing c.args.f.now c.args.s.now (shown c.args.w.now) (shown c.end_or_other.new.w) c.args.span c.args.name.now t (sym c.get.ensures ∙ ap option_copied c.in-None.is) h) c.end_or_other.ensures.judged
