use Rattle.std.proofs.Common.{◌≡◌, ◌∙◌, None, Some, ap, sym, subst}
use Rattle.net_core.specs.declared.event.Event.TheVariants.{Send}
use Rattle.xb_value.specs.Flat.{flat_of}
use Rattle.dslx_core.specs.CoreValues.{core_value}
use Rattle.dslx_core.specs.Designs.{functions_from, no_function}
use Rattle.dslx_interp.specs.Network.Inner.Walking.{IsWordFor, StandsStill, StandsStillIf}
use Rattle.dslx_interp.proofs.OnNetwork.OnBody.Stepping.{ended_waits, known_value, send_here, send_without, word_here}
use Rattle.dslx_interp.proofs.network.walk.Walk.give.Goals as goal

pub returns-in-Some-clause-goes : goal.returns-in-Some-clause-goes
returns-in-Some-clause-goes c =
    let calls = functions_from 0 c.args.functions.now no_function in
    let known = known_value (core_value c.args.send.now.word calls c.args.self.now.bound.items) c.in-Some.word (subst (λ o. IsWordFor (core_value c.args.send.now.word calls c.args.self.now.bound.items) o) c.in-Some.is c.requires.sent) in
    λ rest. send_here calls c.args.send.now.word c.args.send.now.shape c.args.got.now c.args.done c.args.self.now c.args.self.now known.0 c.requires.asked (sym known.1) rest
    ∙ ap (Send c.args.self.now.site) known.2

pub returns-in_default-2-clause-goes : goal.returns-in_default-2-clause-goes
returns-in_default-2-clause-goes c =
    let calls = functions_from 0 c.args.functions.now no_function in
    let is : None ≡ core_value c.args.send.now.word calls c.args.self.now.bound.items = sym c.in_default-2.is ∙ c.in_ok-value.ensures.value in
    λ rest. send_without calls c.args.send.now.word c.args.send.now.shape c.args.got.now c.args.done c.args.self.now c.args.self.now is rest ∙ sym c.ended.ensures

pub returns-in_default-2-clause-waits : goal.returns-in_default-2-clause-waits
returns-in_default-2-clause-waits c = ended_waits c.args.self.now c.value.new.self _ c.ended.ensures

pub flat-word-requires-clause-some_width : goal.flat-word-requires-clause-some_width
flat-word-requires-clause-some_width c =
    let calls = functions_from 0 c.args.functions.now no_function in
    let is : Some c.in-Some-2.value ≡ core_value c.args.send.now.word calls c.args.self.now.bound.items = sym c.in-Some-2.is ∙ c.in_ok-value.ensures.value in
    (word_here calls c.args.send.now.word c.args.send.now.shape c.args.got.now c.args.done c.args.self.now c.in-Some-2.value c.requires.asked is c.requires.fits.0 c.requires.fits.1).some_width

pub flat-word-requires-clause-most_width : goal.flat-word-requires-clause-most_width
flat-word-requires-clause-most_width c =
    let calls = functions_from 0 c.args.functions.now no_function in
    let is : Some c.in-Some-2.value ≡ core_value c.args.send.now.word calls c.args.self.now.bound.items = sym c.in-Some-2.is ∙ c.in_ok-value.ensures.value in
    (word_here calls c.args.send.now.word c.args.send.now.shape c.args.got.now c.args.done c.args.self.now c.in-Some-2.value c.requires.asked is c.requires.fits.0 c.requires.fits.1).most_width

pub returns-clause-goes : goal.returns-clause-goes
returns-clause-goes c =
    let calls = functions_from 0 c.args.functions.now no_function in
    let mid = c.value.new.self in
    let stays : StandsStill c.args.self.now mid = subst (λ v. StandsStillIf v c.args.self.now mid) c.in-Some-2.is c.in_ok-value.ensures.stays in
    let is : Some c.in-Some-2.value ≡ core_value c.args.send.now.word calls c.args.self.now.bound.items = sym c.in-Some-2.is ∙ c.in_ok-value.ensures.value in
    λ rest. send_here calls c.args.send.now.word c.args.send.now.shape c.args.got.now c.args.done c.args.self.now c.args.self.now c.in-Some-2.value c.requires.asked is rest
    ∙ ap (λ i. Send i (flat_of c.in-Some-2.value)) (sym stays.site) ∙ ap (Send mid.site) (sym c.flat-word.ensures.value)
