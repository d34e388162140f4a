use Rattle.std.proofs.Common.{◌≡◌, ◌∙◌, ◌/◌, ◌%◌, ◌^◌, ap, arith}
use Rattle.std.proofs.lemmas.Result.{IfOk-weaker}
use Rattle.xb_bits.specs.Word.{Word}
use Rattle.xb_value.specs.Unflat.{unflat_of}
use Rattle.xb_value.specs.Width.{width_of}
use Rattle.dslx_interp.proofs.OnNetwork.OnBody.Low.{cut_says, fits_width}
use Rattle.dslx_interp.proofs.network.word.word_value.Goals as goal

pub returns : goal.returns
returns c =
    let t = c.args.ty.now in
    let n = c.args.word.value in
    let most = fits_width t c.requires in
    let width : c.width-width.result ≡ width_of t = omega (arith, c.width-width.ensures, most) in
    let low : (c.slice.result).value ≡ n / 2 ^ 0 % 2 ^ width_of t =
    ap (λ (w : Word). w.value) c.slice.ensures
    ∙ ap (λ (x : Word). x.value / 2 ^ 0 % 2 ^ c.width-width.result) c.new-number.ensures
    ∙ ap (λ m. m / 2 ^ 0 % 2 ^ c.width-width.result) c.value.ensures.value
    ∙ ap (λ k. n / 2 ^ 0 % 2 ^ k) width in
    IfOk-weaker c.unflat.result _ _ (λ v h. h ∙ ap (unflat_of t) low ∙ cut_says t n) c.unflat.ensures.value
