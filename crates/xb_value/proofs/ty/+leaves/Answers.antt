use Rattle.std.proofs.Common.{◌-◌, ◌^◌, min, ◌*◌, ap, sym, ◌∙◌}
use Rattle.xb_value.specs.Width.{leaf_count}
use Rattle.xb_value.proofs.Saturation.{min_mul_min}
use Rattle.xb_value.proofs.Lemmas.Types.{leaf_count-Array}
use Rattle.xb_value.proofs.ty.+leaves.Goals as goal

pub returns-in-Array : goal.returns-in-Array
returns-in-Array t c =
    c.saturating_mul.ensures
    ∙ ap (λ w. min (w * c.in-Array.count) (2 ^ 64 - 1)) c.leaves-in-Array.ensures
    ∙ min_mul_min (leaf_count c.get.result.now) c.in-Array.count (2 ^ 64 - 1)
    ∙ ap (λ p. min (c.in-Array.count * leaf_count p) (2 ^ 64 - 1)) c.get.ensures
    ∙ ap (λ w. min w (2 ^ 64 - 1)) (sym (ap leaf_count c.in-Array.is ∙ leaf_count-Array c.in-Array.part c.in-Array.count))
