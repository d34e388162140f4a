use Rattle.std.proofs.Common.{◌≡◌, ◌+◌, ◌*◌, ◌%◌, ◌^◌, ap, ap₂, sym, subst, ◌∙◌, arith}
use Rattle.std.proofs.lemmas.Nat.{mod_low}
use Rattle.xb_bits.specs.Word.{word}
use Rattle.xb_value.specs.Flat.{flat_of}
use Rattle.xb_value.specs.Typing.{IsOfType}
use Rattle.xb_value.specs.Width.{width_of}
use Rattle.xb_value.proofs.FlatLaws.{takes_at}
use Rattle.xb_value.proofs.Lemmas.Flat.{gives_typed}
use Rattle.xb_value.proofs.unflat_word.unflat.Goals as goal

pub returns-clause-of_type : goal.returns-clause-of_type
returns-clause-of_type c =
    subst (IsOfType c.args.ty.now) (sym c.in_ok-take_low.ensures.value) (gives_typed c.args.ty.now c.requires.widths c.value.result)

pub returns-clause-flat : goal.returns-clause-flat
returns-clause-flat c =
    let alone : c.args.bits.value ≡ 0 * 2 ^ c.args.bits.width + c.args.bits.value = omega arith in
    let whole : c.value.result % 2 ^ width_of c.args.ty.now ≡ c.args.bits.value =
    ap (λ k. c.value.result % 2 ^ k) c.requires.fits
    ∙ ap (λ n. n % 2 ^ c.args.bits.width) (c.value.ensures.value ∙ alone)
    ∙ mod_low 0 c.args.bits.width c.args.bits.value c.value.ensures.is_word.in_range in
    ap flat_of c.in_ok-take_low.ensures.value
    ∙ (takes_at c.args.ty.now c.value.result).low
    ∙ ap₂ word c.requires.fits whole
