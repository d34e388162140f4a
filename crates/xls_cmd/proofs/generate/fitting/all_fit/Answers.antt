use Rattle.std.proofs.Common.{ℕ, List, [], get_or, ◌∙◌, refl, subst, arith}
use Rattle.std.proofs.lemmas.List.{get_or_read}
use Rattle.std.proofs.lemmas.Option.{slice_get_read, slice_get_within}
use Rattle.xb_bits.specs.Word.{Word}
use Rattle.net_core.specs.declared.net.Chan.{Chan}
use Rattle.xls_cmd.specs.Gen.Inner.{FitsChannel}
use Rattle.xls_cmd.proofs.OnGen.Fitting.{below_next}
use Rattle.xls_cmd.proofs.generate.fitting.all_fit.Goals as goal

pub channels-preserved : goal.channels-preserved
channels-preserved c =
    let words : List (List Word) = c.args.words.now in
    below_next (λ (k : ℕ) (chan : Chan). FitsChannel chan (get_or words k [])) c.args.chans.now c.channels.c c.index-chans-c.result
    (slice_get_read c.args.chans.now _ c.channels.c c.index-chans-c.result refl c.channels-test.true c.index-chans-c.is)
    (subst (FitsChannel c.index-chans-c.result) (c.as_slice.ensures ∙ get_or_read words _ _ (omega (arith, c.requires, c.channels-test.true)) c.index-words-c.is []) (c.fits_channel.ensures c.if-not-fits_channel.false))
    c.channels.invariant

pub returns : goal.returns
returns c = λ h k chan at. let within = slice_get_within c.args.chans.now k chan at in c.channels.invariant k chan (omega (arith, within, c.channels-test.false)) at
