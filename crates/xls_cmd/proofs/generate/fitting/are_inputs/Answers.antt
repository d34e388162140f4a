use Rattle.std.proofs.Common.{◌≡◌, List, [], Some, get_or, length, sym, ap, subst, ◌∙◌}
use Rattle.std.specs.Prelude.{slice_get}
use Rattle.xb_bits.specs.Word.{Word}
use Rattle.net_core.specs.declared.net.Chan.{Chan}
use Rattle.xls_cmd.specs.Gen.Inner.{FitsChannel}
use Rattle.xls_cmd.proofs.OnGen.Fitting.{are_inputs}
use Rattle.xls_cmd.proofs.generate.fitting.are_inputs.Goals as goal

pub returns-then-chans-words : goal.returns-then-chans-words
returns-then-chans-words c = λ h.
    let net = c.args.net.now in
    let words : List (List Word) = c.args.inputs.now.words in
    are_inputs net words (ap length (sym c.as_slice-chans.ensures) ∙ c.if-chans-words.true ∙ ap length c.as_slice-words.ensures)
    (λ k chan at. subst (λ (ws : List (List Word)). FitsChannel chan (get_or ws k [])) c.as_slice-words.ensures
    (c.all_fit.ensures h k chan (subst (λ (chans : List Chan). slice_get chans k ≡ Some chan) (sym c.as_slice-chans.ensures) at)))
