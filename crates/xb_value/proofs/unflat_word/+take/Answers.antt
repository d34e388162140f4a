use Rattle.std.proofs.Common.{◌-◌, ◌<◌, length, arith, rules}
use Rattle.xb_value.specs.declared.ty.Ty.{the_lemmas}
use Rattle.xb_value.proofs.Widths.{HasWidths-at}
use Rattle.xb_value.proofs.unflat_word.+take.Goals as goal

pub take_each-take_low-requires : goal.take_each-take_low-requires
take_each-take_low-requires t c =
    let offset = length c.args.parts.now - 1 - c.parts.i in
    let within : length c.args.parts.now - 1 - c.parts.i < length c.args.parts.now = omega (arith, c.parts-test.true) in
    (search (rules, the_lemmas), HasWidths-at c.args.parts.now offset c.index-parts-count.result c.requires within c.index-parts-count.is)
