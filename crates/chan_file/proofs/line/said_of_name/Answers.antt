use Rattle.std.proofs.Common.{◌≡◌, ◌∙◌, sym, Some}
use Rattle.chan_file.specs.ChannelFile.{input_named}
use Rattle.chan_file.proofs.Names.{input_named-within, says_twice, says_channel}
use Rattle.chan_file.proofs.line.said_of_name.Goals as goal

pub returns-in-Some : goal.returns-in-Some
returns-in-Some c = λ net before knows held.
    let found : input_named net c.args.name.now ≡ Some c.in-Some.chan = sym (c.number_of.ensures net knows) ∙ c.in-Some.is in
    says_twice before _ c.in-Some.chan found (sym (c.has.ensures _ before held (input_named-within net c.args.name.now c.in-Some.chan found)) ∙ c.if-has.true)

pub returns-in-Some-2 : goal.returns-in-Some-2
returns-in-Some-2 c = λ net before knows held.
    let found : input_named net c.args.name.now ≡ Some c.in-Some.chan = sym (c.number_of.ensures net knows) ∙ c.in-Some.is in
    says_channel before _ c.in-Some.chan found (sym (c.has.ensures _ before held (input_named-within net c.args.name.now c.in-Some.chan found)) ∙ c.if-has.false)
