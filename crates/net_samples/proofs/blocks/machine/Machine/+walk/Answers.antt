use Rattle.std.proofs.Common.{◌++◌, ◌∷◌, [], ◌∙◌, ap, sym, arith}
use Rattle.block_stage.specs.declared.machine.logic.Step.TheVariants.{Pass, Recall, Take, Put, AwaitWord, AwaitRoom}
use Rattle.block_stage.specs.Machine.Logic.{circuit_of}
use Rattle.net_samples.specs.Blocks.Samples.{site_of}
use Rattle.std.specs.Prelude.{map}
use Rattle.net_samples.specs.Blocks.Shows.{got_behind}
use Rattle.net_samples.proofs.OnBlocks.Tables.{chan_is, last_word-push}
use Rattle.net_samples.proofs.OnBlocks.Steps.{shown, shown_end}
use Rattle.net_samples.proofs.blocks.machine.Machine.+walk.Goals as goal

pub returns-then-left-eq0-clause-shows : goal.returns-then-left-eq0-clause-shows
returns-then-left-eq0-clause-shows t c = λ done kept s got keeps st g.
    shown_end (circuit_of c.args.logic.now) c.args.sample.now c.args.ports.now done kept s got c.args.place c.args.left c.if-left-eq0.true c.stopped.result
    (c.stopped.ensures.shows (map site_of c.args.sample.now.sites.now) c.args.place got g)

pub returns-in-Pass-clause-shows : goal.returns-in-Pass-clause-shows
returns-in-Pass-clause-shows t c = λ done kept s got keeps st g.
    shown (circuit_of c.args.logic.now) c.args.sample.now c.args.self.now c.args.ports.now c.args.stage_entry.now done kept s got c.args.place c.args.left Pass
    c.requires (λ z. omega (arith, z)) keeps st g (sym c.in-Pass.is ∙ c.step-step.ensures) c.walk-walk.result
    (c.walk-walk.ensures.shows done kept s got keeps (c.behind-then.ensures.state ∙ st) (c.behind-then.ensures.got ∙ ap (λ z. got_behind z c.args.stage_entry.now.got) c.in-Pass.is ∙ g))

pub returns-in-Recall-clause-shows : goal.returns-in-Recall-clause-shows
returns-in-Recall-clause-shows t c = λ done kept s got keeps st g.
    shown (circuit_of c.args.logic.now) c.args.sample.now c.args.self.now c.args.ports.now c.args.stage_entry.now done kept s got c.args.place c.args.left (Recall c.in-Recall._word)
    c.requires (λ z. omega (arith, z)) keeps st g (sym c.in-Recall.is ∙ c.step-step.ensures) c.walk-walk.result
    (c.walk-walk.ensures.shows done kept s (got ++ c.in-Recall._word ∷ []) keeps (c.behind-then.ensures.state ∙ st) (c.behind-then.ensures.got ∙ ap (λ z. got_behind z c.args.stage_entry.now.got) c.in-Recall.is ∙ sym (last_word-push got c.in-Recall._word)))

pub returns-in-Take-clause-shows : goal.returns-in-Take-clause-shows
returns-in-Take-clause-shows t c = λ done kept s got keeps st g.
    shown (circuit_of c.args.logic.now) c.args.sample.now c.args.self.now c.args.ports.now c.args.stage_entry.now done kept s got c.args.place c.args.left (Take c.in-Take.word)
    c.requires (λ z. omega (arith, z)) keeps st g (sym c.in-Take.is ∙ c.step-step.ensures) c.take.new.self
    (c.take.ensures.shows (map site_of c.args.sample.now.sites.now) _ (c.chan-chan.ensures ∙ chan_is c.args.sample.now.sites.now c.args.place) (c.walk-walk.ensures.shows done kept s (got ++ c.in-Take.word ∷ []) keeps (c.behind-then.ensures.state ∙ st) (c.behind-then.ensures.got ∙ ap (λ z. got_behind z c.args.stage_entry.now.got) c.in-Take.is ∙ sym (last_word-push got c.in-Take.word))))

pub returns-in-Put-clause-shows : goal.returns-in-Put-clause-shows
returns-in-Put-clause-shows t c = λ done kept s got keeps st g.
    shown (circuit_of c.args.logic.now) c.args.sample.now c.args.self.now c.args.ports.now c.args.stage_entry.now done kept s got c.args.place c.args.left (Put c.in-Put.word)
    c.requires (λ z. omega (arith, z)) keeps st g (sym c.in-Put.is ∙ c.step-step.ensures) c.give.new.self
    (c.give.ensures.shows (map site_of c.args.sample.now.sites.now) _ (c.chan-chan.ensures ∙ chan_is c.args.sample.now.sites.now c.args.place) (c.walk-walk.ensures.shows done kept s got keeps (c.behind-then.ensures.state ∙ st) (c.behind-then.ensures.got ∙ ap (λ z. got_behind z c.args.stage_entry.now.got) c.in-Put.is ∙ g)))

pub returns-in-AwaitWord-clause-shows : goal.returns-in-AwaitWord-clause-shows
returns-in-AwaitWord-clause-shows t c = λ done kept s got keeps st g.
    shown (circuit_of c.args.logic.now) c.args.sample.now c.args.self.now c.args.ports.now c.args.stage_entry.now done kept s got c.args.place c.args.left AwaitWord
    c.requires (λ z. omega (arith, z)) keeps st g (sym c.in-AwaitWord.is ∙ c.step-step.ensures) c.awaiting_word-walk.result
    (c.awaiting_word-walk.ensures.shows (map site_of c.args.sample.now.sites.now) c.args.place got (c.chan-chan.ensures ∙ chan_is c.args.sample.now.sites.now c.args.place) g)

pub returns-in-AwaitRoom-clause-shows : goal.returns-in-AwaitRoom-clause-shows
returns-in-AwaitRoom-clause-shows t c = λ done kept s got keeps st g.
    shown (circuit_of c.args.logic.now) c.args.sample.now c.args.self.now c.args.ports.now c.args.stage_entry.now done kept s got c.args.place c.args.left (AwaitRoom c.in-AwaitRoom.word)
    c.requires (λ z. omega (arith, z)) keeps st g (sym c.in-AwaitRoom.is ∙ c.step-step.ensures) c.awaiting_room-walk.result
    (c.awaiting_room-walk.ensures.shows (map site_of c.args.sample.now.sites.now) c.args.place got (c.chan-chan.ensures ∙ chan_is c.args.sample.now.sites.now c.args.place) g)
