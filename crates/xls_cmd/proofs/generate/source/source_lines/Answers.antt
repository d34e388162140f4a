use denote.Param.Send.{sendable}
use Rattle.std.proofs.Common.{map, List, None, sym, ap, subst}
use Rattle.std.proofs.lemmas.Result.{IfOk-weaker}
use Rattle.net_core.specs.Behavior.{Behavior}
use Rattle.net_core.specs.WellFormed.{AreBehaviorsOf}
use Rattle.dslx_interp.specs.Network.DslxBodies.{behavior_of}
use Rattle.dslx_interp.proofs.Lemmas.Threads.Shared.{design_field, instance_field}
use Rattle.xls_cmd.specs.Gen.Inner.{TellsNetwork}
use Rattle.xls_cmd.proofs.OnGen.Steps.{source_told}
use Rattle.xls_cmd.proofs.generate.source.source_lines.Goals as goal

pub lines_of-requires-sync-B : goal.lines_of-requires-sync-B
lines_of-requires-sync-B g c κs within = let a = design_field in let b = instance_field in search sendable depth 20

pub lines_of-requires-clause-net : goal.lines_of-requires-clause-net
lines_of-requires-clause-net g c κs within = c.in_ok-made.ensures.fits

pub lines_of-requires-clause-bodies : goal.lines_of-requires-clause-bodies
lines_of-requires-clause-bodies g c κs within =
    subst (AreBehaviorsOf c.in_ok-made.made.net) (sym (ap (map behavior_of) c.as_slice.ensures.value)) c.in_ok-made.ensures.of_net

pub lines_of-requires-clause-inputs : goal.lines_of-requires-clause-inputs
lines_of-requires-clause-inputs g c κs within = (c.takes_its_words.ensures c.if-takes_its_words.true).inputs

pub returns-then-takes_its_words : goal.returns-then-takes_its_words
returns-then-takes_its_words g c =
    let made = c.in_ok-made.made in
    let words = c.args.inputs.now.words in
    IfOk-weaker c.lines_of.result _ _
    (λ lines is m from. source_told m made.net (map behavior_of made.bodies.items) words lines (c.in_ok-made.ensures.texts m None from.accepted from.is) (c.takes_its_words.ensures c.if-takes_its_words.true)
    (subst (λ (b : List Behavior). TellsNetwork words made.net b lines) (ap (map behavior_of) c.as_slice.ensures.value) is))
    c.lines_of.ensures
