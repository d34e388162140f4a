use Rattle.std.proofs.Common.{◌≡◌, ◌≤◌, ◌+◌, MatchOption, sym, length, drop, ap, ◌∙◌, arith, refl, subst, IfOk, Ok, Err, Result}
use Rattle.std.proofs.lemmas.List.{drop_all}
use Rattle.net_core.specs.declared.event.Event.{Event}
use Rattle.ir_tree.specs.Rules.Typed.Typed.{AreChannels}
use Rattle.ir_tree.proofs.Lemmas.Rules.Typed.{verified_proc}
use Rattle.net_core.specs.Behavior.{next_event}
use Rattle.ir_tree.specs.Activations.{activation, sites_of}
use Rattle.ir_eval.specs.Inner.Walks.{StandsFor, StaysIf}
use Rattle.ir_eval.specs.Inner.Keeps.{KeepsNodes}
use Rattle.ir_eval.specs.Inner.Kept.{keeps_begin}
use Rattle.ir_eval.proofs.Kept.{keeps_walk, walk_kept, step_from, few_left}
use Rattle.ir_eval.proofs.WalkSteps.{end_next}
use Rattle.ir_eval.specs.declared.walk.Walk.{Walk}
use Rattle.ir_eval.proofs.body.IrBodyBody.next.Goals.{then-walk-got, else-walk-got}
use Rattle.ir_eval.proofs.body.IrBodyBody.next.Goals as goal

pub nodes-init : goal.nodes-init
nodes-init c =
    let body = c.args.self.now in
    let first = c.resume-walk.ensures in
    record {
      few = omega (arith, first.site, c.requires.keeps.few);
      less = omega (arith, first.taken, c.requires.keeps.less);
      stands = walk_kept body.ir.now.channels body.proc.now c.args.kept.now c.args.state.now c.args.got.now c.args.done c.resume-walk.result first.values first.site first.taken c.requires.keeps;
      nothing = first.nothing;
    }

pub step-requires-clause-channels : goal.step-requires-clause-channels
step-requires-clause-channels c =
    let body = c.args.self.now in
    subst AreChannels (sym c.as_slice-channels.ensures) (verified_proc body.ir.now body.verified body.number body.proc.now body.there).word_types

pub step-requires-clause-site : goal.step-requires-clause-site
step-requires-clause-site c =
    let body = c.args.self.now in
    let few : length (sites_of body.proc.now.nodes) ≤ 32 = (verified_proc body.ir.now body.verified body.number body.proc.now body.there).sites in
    omega (arith, c.nodes.invariant.few, few)

becomes : {E : Type 0} (r : Result Event E) (a b : Event) → a ≡ b → IfOk r (λ event. event ≡ a) → IfOk r (λ event. event ≡ b)
becomes (Ok x) a b e h = h ∙ e
becomes (Err x) a b e h = tt

pub returns-clause-event : goal.returns-clause-event
returns-clause-event c =
    let channels = c.args.self.now.ir.now.channels in
    let proc = c.args.self.now.proc.now in
    let s = c.args.state.now in
    let over : length proc.nodes ≤ c.nodes.number = omega (arith, ap length c.as_slice-nodes.ensures, c.nodes-test.false) in
    let none = drop_all c.nodes.number proc.nodes over in
    becomes c.end.result _ _
    (end_next channels proc s c.args.got.now c.args.done c.nodes.walk.values.items c.nodes.walk.site c.nodes.walk.taken
    (subst (λ left. StandsFor channels proc s c.args.got.now c.args.done c.nodes.walk left) none c.nodes.invariant.stands c.args.got.now c.args.done (omega arith) refl))
    c.end.ensures

pub returns-clause-keeps : goal.returns-clause-keeps
returns-clause-keeps c = keeps_begin c.args.self.now.ir.now.channels c.args.self.now.proc.now _ _ _ _ c.nodes.invariant.nothing

pub returns-in_err-step-clause-keeps : goal.returns-in_err-step-clause-keeps
returns-in_err-step-clause-keeps c = keeps_begin c.args.self.now.ir.now.channels c.args.self.now.proc.now _ _ _ _ c.nodes.invariant.nothing

pub nodes-preserved : goal.nodes-preserved
nodes-preserved c =
    let body = c.args.self.now in
    let proc = body.proc.now in
    let past = step_from body.ir.now.channels c.as_slice-channels.result.now c.as_slice-channels.ensures proc c.args.state.now c.args.got.now c.args.done c.nodes.walk c.step.new.self
    c.as_slice-nodes.result.now c.nodes.number c.index-nodes-number.result c.as_slice-nodes.ensures c.nodes-test.true c.index-nodes-number.is c.in_ok-step.field-0 c.nodes.invariant.stands c.in_ok-step.ensures.step in
    record {
      few = few_left proc c.as_slice-nodes.result.now c.nodes.number c.nodes.walk.site c.step.new.self.site c.index-nodes-number.result c.as_slice-nodes.ensures c.nodes-test.true c.index-nodes-number.is
          c.in_ok-step.ensures.site c.nodes.invariant.few;
      less = omega (arith, c.in_ok-step.ensures.taken, c.nodes.invariant.less);
      stands = subst (λ o. MatchOption o (StandsFor body.ir.now.channels proc c.args.state.now c.args.got.now c.args.done c.step.new.self (drop (c.nodes.number + 1) proc.nodes))
          (λ event. event ≡ next_event (activation body.ir.now.channels proc) c.args.state.now c.args.got.now c.args.done)) c.in-None.is past;
      nothing = c.nodes.invariant.nothing;
    }

pub keep-requires : goal.keep-requires
keep-requires c =
    let body = c.args.self.now in
    let few : length (sites_of body.proc.now.nodes) ≤ 32 = (verified_proc body.ir.now body.verified body.number body.proc.now body.there).sites in
    let waits : c.step.new.self ≡ c.nodes.walk = subst (λ o. StaysIf c.nodes.walk c.step.new.self o) c.in-Some.is c.in_ok-step.ensures.waits in
    let site = ap (λ (w : Walk). w.site) waits in
    omega (arith, c.nodes.invariant.few, few, site)

pub returns-in-Some-clause-event : goal.returns-in-Some-clause-event
returns-in-Some-clause-event c =
    let body = c.args.self.now in
    let proc = body.proc.now in
    let past = step_from body.ir.now.channels c.as_slice-channels.result.now c.as_slice-channels.ensures proc c.args.state.now c.args.got.now c.args.done c.nodes.walk c.step.new.self
    c.as_slice-nodes.result.now c.nodes.number c.index-nodes-number.result c.as_slice-nodes.ensures c.nodes-test.true c.index-nodes-number.is c.in_ok-step.field-0 c.nodes.invariant.stands c.in_ok-step.ensures.step in
    subst (λ o. MatchOption o (StandsFor body.ir.now.channels proc c.args.state.now c.args.got.now c.args.done c.step.new.self (drop (c.nodes.number + 1) proc.nodes))
    (λ event. event ≡ next_event (activation body.ir.now.channels proc) c.args.state.now c.args.got.now c.args.done)) c.in-Some.is past

pub returns-in-Some-clause-keeps : goal.returns-in-Some-clause-keeps
returns-in-Some-clause-keeps c =
    let body = c.args.self.now in
    let proc = body.proc.now in
    let waits : c.step.new.self ≡ c.nodes.walk = subst (λ o. StaysIf c.nodes.walk c.step.new.self o) c.in-Some.is c.in_ok-step.ensures.waits in
    let site = ap (λ (w : Walk). w.site) waits in
    let taken = ap (λ (w : Walk). w.taken) waits in
    elim c.if-walk-got.branch [
      | then-walk-got w ↦ subst (λ k. KeepsNodes body.ir.now.channels proc k c.args.state.now c.args.got.now c.args.done) (sym w.kept-is)
          (keeps_walk body.ir.now.channels proc w.keep.new.kept c.args.state.now c.args.got.now c.args.done c.step.new.self c.nodes.number
          w.keep.ensures.values w.keep.ensures.steps w.keep.ensures.sites w.keep.ensures.words
          (omega (arith, site, c.nodes.invariant.few)) (omega (arith, taken, c.nodes.invariant.less)) (omega (arith, w.if-walk-got.true))
          (subst (λ (x : Walk). StandsFor body.ir.now.channels proc c.args.state.now c.args.got.now c.args.done x (drop c.nodes.number proc.nodes)) (sym waits) c.nodes.invariant.stands))
      | else-walk-got w ↦ subst (λ k. KeepsNodes body.ir.now.channels proc k c.args.state.now c.args.got.now c.args.done) (sym w.kept-is)
          (keeps_begin body.ir.now.channels proc _ _ _ _ c.nodes.invariant.nothing)
    ]
