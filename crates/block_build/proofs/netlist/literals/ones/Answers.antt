use Rattle.std.proofs.Common.{◌≡◌, ◌^◌, ◌-◌, ap, ◌∙◌, arith}
use Rattle.block_build.specs.Netlist.Literals.{literal_atom}
use Rattle.block_build.proofs.netlist.literals.ones.Goals as goal

pub returns-else-width-lt128 : goal.returns-else-width-lt128
returns-else-width-lt128 c = λ most.
    let e : 128 ≡ c.args.width = omega (arith, c.if-width-lt128.false, most) in
    c.literal-else-width-lt128.ensures ∙ ap (λ w. literal_atom c.args.width (2 ^ w - 1)) e
