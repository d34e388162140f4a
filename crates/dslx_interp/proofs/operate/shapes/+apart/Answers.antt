use Rattle.std.proofs.Common.{map, sym, ◌∙◌}
use Rattle.std.proofs.lemmas.List.{length-map}
use Rattle.dslx_core.specs.CoreValues.{taken_apart}
use Rattle.dslx_interp.proofs.OnOperate.Parts.{unfitting}
use Rattle.dslx_interp.proofs.operate.shapes.+apart.Goals as goal

pub take_each-returns-then-shapes-values-clause-fits : goal.take_each-returns-then-shapes-values-clause-fits
take_each-returns-then-shapes-values-clause-fits t c =
    unfitting (map taken_apart c.args.shapes.now) c.args.values.now _ (λ e. c.if-shapes-values.true (sym (length-map c.args.shapes.now taken_apart) ∙ e))
