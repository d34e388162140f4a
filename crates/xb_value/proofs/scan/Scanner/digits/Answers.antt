use Rattle.std.proofs.Common.{◌+◌, ◌*◌, ◌^◌, ◌<◌, subst, arith}
use Rattle.xb_value.specs.Inner.ScannerState.{IsSmall}
use Rattle.xb_value.proofs.Sound.{digits_fit}
use Rattle.xb_value.proofs.scan.Scanner.digits.Goals as goal

pub overflow_mul-self : goal.overflow_mul-self
overflow_mul-self c =
    let small : c.in-Digit.digit < 16 = subst IsSmall c.in-Digit.is c.requires.small in
    let room : c.args.value * 16 + c.in-Digit.digit < 2 ^ 128 =
    digits_fit c.args.value c.args.count c.in-Digit.digit c.requires.sound (omega (arith, c.if-count-ge32.false)) small in
    omega arith

pub overflow_add-self-in-Digit : goal.overflow_add-self-in-Digit
overflow_add-self-in-Digit c =
    let small : c.in-Digit.digit < 16 = subst IsSmall c.in-Digit.is c.requires.small in
    let room : c.args.value * 16 + c.in-Digit.digit < 2 ^ 128 =
    digits_fit c.args.value c.args.count c.in-Digit.digit c.requires.sound (omega (arith, c.if-count-ge32.false)) small in
    omega (arith, c.from.ensures)
