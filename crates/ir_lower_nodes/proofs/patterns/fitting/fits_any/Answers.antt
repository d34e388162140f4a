use Rattle.std.proofs.lemmas.Result.{IfOk-weaker}
use Rattle.ir_lower_nodes.proofs.OnPatterns.OnParts.{one_item}
use Rattle.ir_lower_nodes.proofs.OnPatterns.OnFits.{any_fits_one}
use Rattle.ir_lower_nodes.proofs.patterns.fitting.fits_any.Goals as goal

pub returns-in-len1 : goal.returns-in-len1
returns-in-len1 c =
    IfOk-weaker c.fits.result _ _
    (λ o call. any_fits_one c.args.nodes.now c.fits.new.nodes c.args.a o _ c.args.shapes.now (one_item c.args.shapes.now _ c.in-len1.len_at_least c.in-len1.len_below c.only-item.is) call)
    c.fits.ensures
