use Rattle.std.proofs.Common.{◌<◌, ◌∙◌, ap, sym, ◌++◌, ◌∷◌, [], List, get_or, length, take, arith}
use Rattle.std.proofs.lemmas.List.{get_or_read}
use Rattle.xb_bits.specs.Word.{Word}
use Rattle.net_core.specs.declared.channel.Channel.{Channel}
use Rattle.base.specs.Lists.Indexed.{indexed}
use Rattle.net_core.specs.Inner.Making.{filled_channel}
use Rattle.base.proofs.Lemmas.Lists.Indexed.{indexed_more}
use Rattle.net_core.proofs.config.filled.Goals as goal

pub loop-c-preserved : goal.loop-c-preserved
loop-c-preserved c =
    let f = filled_channel c.args.inputs.now c.args.depths.now in
    let chans = c.args.chans.now in
    let i = c.loop-c.c in
    let chan = c.index-chans-c.result in
    let within : i < length chans = c.loop-c-test.true in
    let within_inputs : i < length c.args.inputs.now = omega (arith, within, c.requires.inputs) in
    let words = c.in_ok-words.ensures ∙ (c.as_slice.ensures ∙ get_or_read c.args.inputs.now i c.index-inputs-c.result within_inputs c.index-inputs-c.is []) in
    let made : List Word → Channel = λ ws. record { kind = chan.kind; depth = get_or c.args.depths.now i 0; words = ws; received = 0 } in
    let done : List Channel = indexed f 0 (take i chans) in
    c.in_ok-push.ensures.items
    ∙ (ap (λ (x : Channel). c.loop-c.channels.items ++ x ∷ []) c.new.ensures
    ∙ ap (λ (xs : List Channel). xs ++ made c.in_ok-words.words ∷ []) c.loop-c.invariant
    ∙ (ap (λ (ws : List Word). done ++ made ws ∷ []) words ∙ sym (indexed_more f chans i chan within c.index-chans-c.is)))
