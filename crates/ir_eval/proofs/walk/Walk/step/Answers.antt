use Rattle.std.proofs.Common.{◌≡◌, ◌∷◌, ◌++◌, [], true, false, take, refl, ap, sym, subst, ◌∙◌, arith, add-one}
use Rattle.ir_tree.specs.declared.node.Role.TheVariants as role
use Rattle.ir_tree.specs.NodeValues.{role_of, is_on, pure_value}
use Rattle.ir_tree.specs.Activations.{sent_by}
use Rattle.ir_eval.specs.Bodies.{received_word}
use Rattle.net_core.specs.declared.event.Event.TheVariants.{Send}
use Rattle.ir_eval.proofs.WalkSteps.{moved, off_or_past, took, took_next, stands_pure, stands_off, stands_on, stands_sent, receive_next, send_next, on_and_past}
use Rattle.ir_eval.proofs.walk.Walk.step.Goals as goal

pub returns-in-Pure-clause-step : goal.returns-in-Pure-clause-step
returns-in-Pure-clause-step c = λ proc left st all later h same.
    let n = c.args.node.now in
    let s = c.args.state.now in
    let items = c.args.self.now.values.items in
    let there = st all later h (took c.args.self.now.taken _ all c.args.got.now (omega (arith, c.add.ensures.taken)) same) in
    let e : role_of n ≡ role.Pure = cc (c.role.ensures, c.in-Pure.is) in
    moved c.args.channels.now proc s all later _ _ _ _ _ _ left
    (c.in_ok-add-in-Pure.ensures.values ∙ ap (λ v. items ++ v ∷ []) (c.in_ok-value-in-Pure.ensures ∙ ap (pure_value n s) c.as_slice.ensures.value))
    c.add.ensures.site
    c.add.ensures.taken
    (stands_pure c.args.channels.now proc s all later items c.args.self.now.site c.args.self.now.taken n left e there)

pub returns-then-not-is_on-clause-step : goal.returns-then-not-is_on-clause-step
returns-then-not-is_on-clause-step c = λ proc left st all later h same.
    let n = c.args.node.now in
    let s = c.args.state.now in
    let items = c.args.self.now.values.items in
    let there = st all later h (took c.args.self.now.taken _ all c.args.got.now (omega (arith, c.add_site.ensures.taken)) same) in
    let e : role_of n ≡ role.Receive c.in-Receive.predicate c.in-Receive.channel = cc (c.role.ensures, c.in-Receive.is) in
    let off : is_on s items c.in-Receive.predicate ≡ false = cc (c.is_on.ensures, c.as_slice.ensures.value, c.if-not-is_on.true) in
    moved c.args.channels.now proc s all later _ _ _ _ _ _ left
    (c.in_ok-add_site-in-Receive.ensures.values ∙ ap (λ v. items ++ v ∷ []) c.in_ok-value-in-Receive.ensures)
    (c.add_site.ensures.site ∙ add-one c.args.self.now.site)
    c.add_site.ensures.taken
    (stands_off c.args.channels.now proc s all later items c.args.self.now.site c.args.self.now.taken n left c.in-Receive.predicate c.in-Receive.channel e off there)

pub returns-then-done-self-clause-step : goal.returns-then-done-self-clause-step
returns-then-done-self-clause-step c = λ proc left st.
    let n = c.args.node.now in
    let s = c.args.state.now in
    let items = c.args.self.now.values.items in
    let e : role_of n ≡ role.Receive c.in-Receive.predicate c.in-Receive.channel = cc (c.role.ensures, c.in-Receive.is) in
    let on : is_on s items c.in-Receive.predicate ≡ true = cc (c.is_on.ensures, c.as_slice.ensures.value, c.if-not-is_on.false) in
    receive_next c.args.channels.now proc s c.args.got.now c.args.done items c.args.self.now.site c.args.self.now.taken n left c.in-Receive.predicate c.in-Receive.channel e on c.if-done-self.true (st c.args.got.now c.args.done (omega arith) refl)

pub returns-in-Receive-clause-step : goal.returns-in-Receive-clause-step
returns-in-Receive-clause-step c = λ proc left st all later h same.
    let n = c.args.node.now in
    let s = c.args.state.now in
    let items = c.args.self.now.values.items in
    let there = st all later h (took c.args.self.now.taken _ all c.args.got.now (omega (arith, c.add_site-in-Receive.ensures.taken)) same) in
    let one_more = c.add_site-in-Receive.ensures.taken ∙ add-one c.args.self.now.taken in
    let word = took_next c.args.self.now.taken all c.args.got.now (subst (λ k. take k all ≡ take k c.args.got.now) one_more same) in
    let e : role_of n ≡ role.Receive c.in-Receive.predicate c.in-Receive.channel = cc (c.role.ensures, c.in-Receive.is) in
    let on : is_on s items c.in-Receive.predicate ≡ true = cc (c.is_on.ensures, c.as_slice.ensures.value, c.if-not-is_on.false) in
    moved c.args.channels.now proc s all later _ _ _ _ _ _ left
    (c.in_ok-add_site-in-Receive-2.ensures.values ∙ ap (λ v. items ++ v ∷ []) (c.in_ok-value-in-Receive-2.ensures ∙ ap (received_word c.args.channels.now c.in-Receive.channel) (c.word_at.ensures ∙ sym word)))
    (c.add_site-in-Receive.ensures.site ∙ add-one c.args.self.now.site)
    one_more
    (stands_on c.args.channels.now proc s all later items c.args.self.now.site c.args.self.now.taken n left c.in-Receive.predicate c.in-Receive.channel e on (omega (arith, h, c.if-done-self.false)) there)

pub returns-then-asks-clause-step : goal.returns-then-asks-clause-step
returns-then-asks-clause-step c = λ proc left st.
    let n = c.args.node.now in
    let s = c.args.state.now in
    let items = c.args.self.now.values.items in
    let e : role_of n ≡ role.Send c.in-Send.predicate c.in-Send.field-1 = cc (c.role.ensures, c.in-Send.is) in
    let both = on_and_past c.is_on-in-Send.result c.args.done c.args.self.now.site (sym c.asks.ensures ∙ c.if-asks.true) in
    let on : is_on s items c.in-Send.predicate ≡ true = cc (c.is_on-in-Send.ensures, c.as_slice.ensures.value, both.0) in
    ap (Send c.args.self.now.site) (c.sent_by.ensures ∙ ap (sent_by n s) c.as_slice.ensures.value)
    ∙ send_next c.args.channels.now proc s c.args.got.now c.args.done items c.args.self.now.site c.args.self.now.taken n left c.in-Send.predicate c.in-Send.field-1 e on both.1 (st c.args.got.now c.args.done (omega arith) refl)

pub returns-clause-step : goal.returns-clause-step
returns-clause-step c = λ proc left st all later h same.
    let n = c.args.node.now in
    let s = c.args.state.now in
    let items = c.args.self.now.values.items in
    let there = st all later h (took c.args.self.now.taken _ all c.args.got.now (omega (arith, c.add_site-in-Send.ensures.taken)) same) in
    let e : role_of n ≡ role.Send c.in-Send.predicate c.in-Send.field-1 = cc (c.role.ensures, c.in-Send.is) in
    let is : is_on s items c.in-Send.predicate ≡ c.is_on-in-Send.result = cc (c.is_on-in-Send.ensures, c.as_slice.ensures.value) in
    moved c.args.channels.now proc s all later _ _ _ _ _ _ left
    (c.in_ok-add_site-in-Send.ensures.values ∙ ap (λ v. items ++ v ∷ []) c.nothing.ensures)
    (c.add_site-in-Send.ensures.site ∙ add-one c.args.self.now.site)
    c.add_site-in-Send.ensures.taken
    (stands_sent c.args.channels.now proc s all later items c.args.self.now.site c.args.self.now.taken n left c.in-Send.predicate c.in-Send.field-1 e
    (λ past. is ∙ off_or_past c.is_on-in-Send.result c.args.done c.args.self.now.site (sym c.asks.ensures ∙ c.if-asks.false) (omega (arith, h, past))) there)
