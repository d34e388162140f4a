use Rattle.std.proofs.Common.{◌≡◌, ◌+◌, ◌<◌, ◌∙◌, ◌++◌, None, Some, refl, ap, sym, arith}
use Rattle.std.specs.Prelude.{slice_get}
use Rattle.std.proofs.lemmas.Result.{IfOk-weaker}
use Rattle.xb_value.specs.Unflat.{unflat_of}
use Rattle.dslx_core.specs.Designs.{receive_on, with_token}
use Rattle.dslx_interp.specs.declared.network.walk.Walk.{Walk}
use Rattle.dslx_interp.proofs.OnNetwork.OnBody.Stepping.{bound_waits, ended_waits, later_goes, receive_goes, receive_here, receive_without, word_stays}
use Rattle.dslx_interp.proofs.network.walk.Walk.receive_word.Goals as goal

pub returns-then-self-done-clause-goes : goal.returns-then-self-done-clause-goes
returns-then-self-done-clause-goes c = receive_here c.args.receive.now.word c.args.receive.now.shape c.args.got.now c.args.done c.args.self.now c.args.self.now c.if-self-done.true

pub returns-in_default-clause-goes : goal.returns-in_default-clause-goes
returns-in_default-clause-goes c =
    let none : slice_get c.args.got.now c.args.self.now.received ≡ None = sym c.word_at.ensures ∙ c.in_default.is in
    let before : c.args.self.now.site < c.args.done = omega (arith, c.if-self-done.false) in
    λ rest. receive_without c.args.receive.now.word c.args.receive.now.shape c.args.got.now c.args.done c.args.self.now c.args.self.now before none rest ∙ sym c.ended.ensures

pub returns-clause-goes : goal.returns-clause-goes
returns-clause-goes c =
    let old = c.args.self.now in
    let t = c.args.receive.now.word in
    let mid : Walk = record { bound = old.bound; received = old.received + 1; site = old.site + 1 } in
    let there : slice_get c.args.got.now old.received ≡ Some c.in-Some.word = sym c.word_at.ensures ∙ c.in-Some.is in
    let before : old.site < c.args.done = omega (arith, c.if-self-done.false) in
    let is : with_token c.in_ok-value.value ≡ with_token (unflat_of t (c.in-Some.word).value) = ap with_token c.in_ok-value.ensures in
    IfOk-weaker c.take_received.result _ _
    (λ ended h. later_goes (receive_on t c.args.receive.now.shape) c.args.got.now c.args.done old c.take_received.new.self ended (λ more later l.
    receive_goes t c.args.receive.now.shape (c.args.got.now ++ more) later old mid c.take_received.new.self c.in-Some.word (with_token c.in_ok-value.value) ended (omega (arith, before, l)) (word_stays c.args.got.now more old.received c.in-Some.word there) is refl refl refl h))
    c.take_received.ensures.binds

pub returns-in_default-clause-waits : goal.returns-in_default-clause-waits
returns-in_default-clause-waits c = ended_waits c.args.self.now c.args.self.now _ c.ended.ensures

pub returns-clause-waits : goal.returns-clause-waits
returns-clause-waits c = IfOk-weaker c.take_received.result _ _ (λ ended h. bound_waits c.args.receive.now.shape (with_token c.in_ok-value.value) c.args.self.now (record { bound = c.args.self.now.bound; received = c.args.self.now.received + 1; site = c.args.self.now.site + 1 }) c.take_received.new.self ended h) c.take_received.ensures.binds
