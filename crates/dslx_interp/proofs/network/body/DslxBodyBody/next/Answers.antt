use Rattle.std.proofs.Common.{◌≡◌, ◌∙◌, ◌-◌, ◌+◌, [], IsTrue, drop, sym, ap, subst, arith}
use Rattle.std.specs.List.{list_all}
use Rattle.std.proofs.lemmas.List.{drop_all}
use Rattle.std.proofs.lemmas.Result.{IfOk-weaker}
use Rattle.dslx_core.specs.Designs.{do_step, do_steps, functions_from, no_function}
use Rattle.dslx_interp.specs.Network.Bodies.{receives_word}
use Rattle.dslx_interp.specs.Network.Inner.Walking.{GoesLater, IsSentAfter, SendsAWord, WaitsIf, event_here}
use Rattle.dslx_interp.proofs.OnNetwork.OnBody.Bodies.{next_carries_word}
use Rattle.dslx_interp.specs.Network.Inner.Kept.{keeps_begin}
use Rattle.dslx_interp.proofs.OnNetwork.OnBody.Keeping.{first_sent, kept_there, next_now, none_sent, resumed, sent_resumed, step_event, step_past, still_there}
use Rattle.dslx_interp.proofs.OnNetwork.OnBody.Stepping.{at_end}
use Rattle.dslx_interp.proofs.OnNetwork.OnBody.There.{drop_there, passes_at}
use Rattle.dslx_interp.specs.Network.Inner.Keeps.{KeepsWalk}
use Rattle.dslx_interp.proofs.network.body.DslxBodyBody.next.Goals.{then-is_at_site, else-is_at_site}
use Rattle.dslx_interp.proofs.network.body.DslxBodyBody.next.Goals as goal

pub steps-init : goal.steps-init
steps-init c =
    let first = c.in_ok-walk.ensures in
    let body = c.args.self.now in
    record {
      next = resumed body c.as_slice-functions.result.now c.as_slice-steps.result.now c.args.state.now c.args.got.now c.args.done c.args.kept.now c.as_slice-functions.ensures c.as_slice-steps.ensures
          c.in_ok-walk.walk first.bound first.received first.site c.requires.keeps;
      sent = sent_resumed body c.as_slice-functions.result.now c.as_slice-steps.result.now c.args.state.now c.args.got.now c.args.done c.args.kept.now c.as_slice-functions.ensures c.as_slice-steps.ensures
          c.in_ok-walk.walk first.bound c.requires.keeps;
      nothing = c.resume.ensures.nothing;
    }

pub step-requires-clause-words : goal.step-requires-clause-words
step-requires-clause-words c =
    let all = subst (λ ss. IsTrue (list_all receives_word ss)) (sym c.as_slice-steps.ensures) c.args.self.now.words in
    passes_at receives_word c.as_slice-steps.result.now c.steps.number c.index-steps-number.result all c.steps-test.true c.index-steps-number.is

pub step-requires-clause-sent : goal.step-requires-clause-sent
step-requires-clause-sent c =
    let calls = functions_from 0 c.as_slice-functions.result.now no_function in
    first_sent calls c.as_slice-steps.result.now c.steps.number c.index-steps-number.result c.steps.walk.bound.items c.steps.sent c.steps-test.true c.index-steps-number.is c.steps.invariant.sent

pub step-requires-clause-fits : goal.step-requires-clause-fits
step-requires-clause-fits c =
    let body = c.args.self.now in
    let calls = functions_from 0 c.as_slice-functions.result.now no_function in
    let steps = c.as_slice-steps.result.now in
    let next = c.args.self.now.instance.now.next in
    let there = drop_there steps c.steps.number c.index-steps-number.result c.steps-test.true c.index-steps-number.is in
    let same = ap (λ ss. event_here (do_steps calls ss next) c.args.got.now c.args.done c.steps.walk) (sym there)
    ∙ next_now body.design.now body.number body.instance.now calls c.args.state.now c.args.got.now c.args.done c.steps.walk (drop c.steps.number steps) c.steps.invariant.next in
    (do_steps calls (drop (c.steps.number + 1) steps) next, subst SendsAWord (sym same) (next_carries_word c.args.self.now c.args.state.now c.args.got.now c.args.done c.requires.stands))

pub returns-clause-event : goal.returns-clause-event
returns-clause-event c =
    let body = c.args.self.now in
    let calls = functions_from 0 c.as_slice-functions.result.now no_function in
    let steps = c.as_slice-steps.result.now in
    let next = c.args.self.now.instance.now.next in
    let walk = c.steps.walk in
    let none : drop c.steps.number steps ≡ [] = drop_all c.steps.number steps (omega (arith, c.steps-test.false)) in
    IfOk-weaker c.end.result _ _
    (λ event h.
    h ∙ sym (at_end calls next walk.bound.items (drop walk.received c.args.got.now) (c.args.done - walk.site) walk.site)
    ∙ ap (λ ss. event_here (do_steps calls ss next) c.args.got.now c.args.done walk) (sym none)
    ∙ next_now body.design.now body.number body.instance.now calls c.args.state.now c.args.got.now c.args.done walk (drop c.steps.number steps) c.steps.invariant.next)
    c.end.ensures.event

pub returns-clause-keeps : goal.returns-clause-keeps
returns-clause-keeps c = keeps_begin c.args.self.now.design.now c.args.self.now.number c.args.self.now.instance.now _ _ _ _ c.end.ensures.nothing

pub steps-preserved : goal.steps-preserved
steps-preserved c =
    let body = c.args.self.now in
    let calls = functions_from 0 c.as_slice-functions.result.now no_function in
    let steps = c.as_slice-steps.result.now in
    let x = c.index-steps-number.result in
    let went = subst (λ o. GoesLater (do_step calls x) c.args.got.now c.args.done c.steps.walk c.step.new.self o) c.in-None.is c.in_ok-step.ensures.goes in
    let none = subst (λ o. IsSentAfter calls x c.steps.walk.bound.items c.step.new.sent o) c.in-None.is c.in_ok-step.ensures.sent in
    record {
      next = step_past body.design.now body.number body.instance.now calls c.args.state.now c.args.got.now c.args.done c.steps.walk c.step.new.self steps c.steps.number x c.steps-test.true c.index-steps-number.is
          c.steps.invariant.next went;
      sent = none_sent calls (drop (c.steps.number + 1) steps) c.step.new.self.bound.items c.step.new.sent none;
      nothing = c.steps.invariant.nothing;
    }

pub returns-in-Some-clause-event : goal.returns-in-Some-clause-event
returns-in-Some-clause-event c =
    let body = c.args.self.now in
    let calls = functions_from 0 c.as_slice-functions.result.now no_function in
    let steps = c.as_slice-steps.result.now in
    let x = c.index-steps-number.result in
    let gave = subst (λ o. GoesLater (do_step calls x) c.args.got.now c.args.done c.steps.walk c.step.new.self o) c.in-Some.is c.in_ok-step.ensures.goes in
    step_event body.design.now body.number body.instance.now calls c.args.state.now c.args.got.now c.args.done c.steps.walk c.step.new.self steps c.steps.number x c.steps-test.true c.index-steps-number.is
    c.steps.invariant.next c.in-Some.event gave

pub returns-in-Some-clause-keeps : goal.returns-in-Some-clause-keeps
returns-in-Some-clause-keeps c =
    let body = c.args.self.now in
    let calls = functions_from 0 c.as_slice-functions.result.now no_function in
    let steps = c.as_slice-steps.result.now in
    let x = c.index-steps-number.result in
    let waits = subst (λ o. WaitsIf c.steps.walk c.step.new.self o) c.in-Some.is c.in_ok-step.ensures.waits in
    let known = subst (λ o. IsSentAfter calls x c.steps.walk.bound.items c.step.new.sent o) c.in-Some.is c.in_ok-step.ensures.sent in
    elim c.if-is_at_site.branch [
      | then-is_at_site w ↦
          let still = still_there c.steps.walk c.step.new.self c.in-Some.event (sym c.is_at_site.ensures ∙ w.if-is_at_site.true) waits in
          subst (λ k. KeepsWalk body.design.now body.number body.instance.now k c.args.state.now c.args.got.now c.args.done) (sym w.kept-is)
          (kept_there body c.as_slice-functions.result.now steps c.args.state.now c.args.got.now c.args.done w.keep.new.kept c.as_slice-functions.ensures c.as_slice-steps.ensures
          c.steps.walk c.step.new.self c.steps.number x c.step.new.sent c.steps-test.true c.index-steps-number.is c.steps.invariant.next known still w.keep.ensures)
      | else-is_at_site w ↦
          subst (λ k. KeepsWalk body.design.now body.number body.instance.now k c.args.state.now c.args.got.now c.args.done) (sym w.kept-is)
          (keeps_begin body.design.now body.number body.instance.now _ _ _ _ c.steps.invariant.nothing)
    ]
