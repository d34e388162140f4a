use Rattle.std.proofs.Common.{◌-◌, ◌^◌, min, ◌*◌, ap, sym, ◌∙◌}
use Rattle.xb_value.specs.Width.{width_of}
use Rattle.xb_value.proofs.Saturation.{min_mul_min}
use Rattle.xb_value.proofs.Lemmas.Types.{width_of-Array}
use Rattle.xb_value.proofs.ty.Ty.+width.Goals as goal

pub returns-in-Array : goal.returns-in-Array
returns-in-Array t c =
    c.saturating_mul.ensures
    ∙ ap (λ w. min (w * c.in-Array.count) (2 ^ 64 - 1)) c.width-in-Array.ensures
    ∙ min_mul_min (width_of c.get.result.now) c.in-Array.count (2 ^ 64 - 1)
    ∙ ap (λ p. min (c.in-Array.count * width_of p) (2 ^ 64 - 1)) c.get.ensures
    ∙ ap (λ w. min w (2 ^ 64 - 1)) (sym (ap width_of c.in-Array.is ∙ width_of-Array c.in-Array.part c.in-Array.count))
