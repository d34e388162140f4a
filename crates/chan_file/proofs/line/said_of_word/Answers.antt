use Rattle.std.proofs.Common.{◌∙◌, sym, ap}
use Rattle.std.specs.Prelude.{slice_get}
use Rattle.chan_file.specs.ChannelFile.{early_word, word_line}
use Rattle.chan_file.proofs.Names.{last_none, last_some, there, ok_map}
use Rattle.chan_file.proofs.line.said_of_word.Goals as goal

pub returns-in-None : goal.returns-in-None
returns-in-None c = λ before held. early_word c.requires.other (last_none before (sym held.last ∙ c.in-None.is))

pub returns-in-None-at : goal.returns-in-None-at
returns-in-None-at c = λ before held.
    let none = ap (λ xs. slice_get xs c.in-Some.chan) (sym c.as_slice.ensures) ∙ sym c.in-None-at.ensures in
    absurd (there c.args.net.now.chans c.in-Some.chan (held.within c.in-Some.chan c.in-Some.is) none)

pub returns-in-Some-at : goal.returns-in-Some-at
returns-in-Some-at c =
    ok_map _ _ c.read_word.result
    (λ said says before held.
    let list = last_some before c.in-Some.chan (sym held.last ∙ c.in-Some.is) in
    let chan = ap (λ xs. slice_get xs c.in-Some.chan) (sym c.as_slice.ensures) ∙ sym c.in-Some-at.ensures in
    word_line c.in-Some.chan list.0 c.in-Some-at.of.now said c.requires.other list.1 chan says)
    c.read_word.ensures
