use Rattle.std.proofs.Common.{◌≡◌, ◌<◌, ◌^◌, sym, subst, arith}
use Rattle.std.specs.Prelude.{max}
use Rattle.std.specs.Str.Parse.{digits_value}
use Rattle.vlog_text.specs.Builder.Inner.Literals.{literal_fits}
use Rattle.vlog_text.proofs.builder.literal.said.Goals as goal

pub invariant_of-result : goal.invariant_of-result
invariant_of-result c =
    let e : c.max.result ≡ max 1 c.args.width = omega (arith, c.max.ensures) in
    record {
      some_width = omega (arith, e);
      in_range = λ h. subst (λ n. c.value.result < 2 ^ n) (sym e)
          (subst (λ v. v < 2 ^ max 1 c.args.width) (sym c.value.ensures) (literal_fits c.args.width (digits_value 10 c.args.digits.now) (omega (arith, e, h))));
    }
