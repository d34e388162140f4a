use Rattle.std.proofs.Common.{◌≡◌, ◌<◌, ◌^◌, sym, subst, arith}
use Rattle.std.specs.Prelude.{max}
use Rattle.block_build.specs.Netlist.Literals.{number_fits}
use Rattle.block_build.proofs.netlist.literals.written.Goals as goal

pub invariant_of-result : goal.invariant_of-result
invariant_of-result c =
    let e : c.max.result ≡ max 1 c.args.width = omega (arith, c.max.ensures) in
    record {
      some_width = omega (arith, e);
      in_range = λ h. subst (λ n. c.number.result < 2 ^ n) (sym e)
          (subst (λ v. v < 2 ^ max 1 c.args.width) (sym c.number.ensures) (number_fits (max 1 c.args.width) c.args.value (omega (arith, e, h))));
    }
