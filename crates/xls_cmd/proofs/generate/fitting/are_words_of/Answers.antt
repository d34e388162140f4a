use Rattle.std.proofs.Common.{ℕ, refl, arith}
use Rattle.std.proofs.lemmas.Option.{slice_get_read, slice_get_within}
use Rattle.xb_bits.specs.Word.{Word}
use Rattle.xb_value.specs.Width.{width_of}
use Rattle.net_core.specs.Behavior.{IsWordOf}
use Rattle.xls_cmd.proofs.OnGen.Fitting.{as_wide, below_next}
use Rattle.xls_cmd.proofs.generate.fitting.are_words_of.Goals as goal

pub words-preserved : goal.words-preserved
words-preserved c =
    let wide = width_of c.args.ty.now in
    below_next (λ (k : ℕ) (w : Word). IsWordOf wide w) c.args.words.now c.words.word-index c.word-item.result (slice_get_read c.args.words.now _ c.words.word-index c.word-item.result refl c.words-test.true c.word-item.is)
    (as_wide c.word-item.result wide c.width-width.result c.width.ensures.is_word (omega (arith, c.width.ensures.width, c.from.ensures, c.if-from-width.false)) c.width-width.ensures (omega (arith, c.width.ensures.width, c.width.type_inv)))
    c.words.invariant

pub returns : goal.returns
returns c = λ h k w at. let within = slice_get_within c.args.words.now k w at in c.words.invariant k w (omega (arith, within, c.words-test.false)) at
