use Rattle.std.proofs.Common.{◌<◌, ◌+◌, ◌∙◌, sym, subst, refl, arith}
use Rattle.std.proofs.lemmas.Result.{IfOk-weaker}
use Rattle.dslx_core.specs.CoreValues.{core_value}
use Rattle.dslx_core.specs.Designs.{functions_from, no_function}
use Rattle.dslx_interp.specs.declared.network.walk.Walk.{Walk}
use Rattle.dslx_interp.specs.Network.Inner.Walking.{BindsOrEnds, HasWordIf}
use Rattle.dslx_interp.proofs.OnNetwork.OnBody.Stepping.{bound_waits, ended_waits, past_send, send_without}
use Rattle.dslx_interp.proofs.network.walk.Walk.send_word.Goals as goal

pub returns-then-not-there-clause-goes : goal.returns-then-not-there-clause-goes
returns-then-not-there-clause-goes c =
    let calls = functions_from 0 c.args.functions.now no_function in
    let none = subst (λ b. HasWordIf (core_value c.args.send.now.word calls c.args.self.now.bound.items) c.args.self.now c.has_word.new.self b) c.if-not-there.true c.in_ok-there.ensures in
    λ rest. send_without calls c.args.send.now.word c.args.send.now.shape c.args.got.now c.args.done c.args.self.now c.args.self.now (sym none) rest ∙ sym c.ended.ensures

pub returns-then-not-there-clause-waits : goal.returns-then-not-there-clause-waits
returns-then-not-there-clause-waits c = ended_waits c.args.self.now c.has_word.new.self _ c.ended.ensures

pub returns-clause-goes : goal.returns-clause-goes
returns-clause-goes c =
    let calls = functions_from 0 c.args.functions.now no_function in
    let old = c.has_word.new.self in
    let there = subst (λ b. HasWordIf (core_value c.args.send.now.word calls c.args.self.now.bound.items) c.args.self.now old b) c.if-not-there.false c.in_ok-there.ensures in
    let mid : Walk = record { bound = old.bound; received = old.received; site = old.site + 1 } in
    let before : c.args.self.now.site < c.args.done = omega (arith, c.if-self-done.false) in
    IfOk-weaker c.take.result _ _
    (λ ended h. past_send calls c.args.send.now.word c.args.send.now.shape c.args.got.now c.args.done c.args.self.now old mid c.take.new.self ended before there refl refl refl
    (subst (λ v. BindsOrEnds c.args.send.now.shape v mid c.take.new.self ended) c.token.ensures h))
    c.take.ensures.binds

pub returns-clause-waits : goal.returns-clause-waits
returns-clause-waits c = IfOk-weaker c.take.result _ _ (λ ended h. bound_waits c.args.send.now.shape c.token.result c.args.self.now (record { bound = c.has_word.new.self.bound; received = c.has_word.new.self.received; site = c.has_word.new.self.site + 1 }) c.take.new.self ended h) c.take.ensures.binds
