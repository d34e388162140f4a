use Rattle.std.proofs.Common.{◌∙◌, sym, ap}
use Rattle.std.specs.Prelude.{slice_get}
use Rattle.chan_file.proofs.Numbers.{number_line_says}
use Rattle.chan_file.proofs.line.number_line.Goals as goal

pub returns-in_ok-word-in-Bits : goal.returns-in_ok-word-in-Bits
returns-in_ok-word-in-Bits c = λ before held.
    let there = ap (λ xs. slice_get xs c.in_ok-chan.chan) (sym c.as_slice.ensures) ∙ sym c.in_ok-of.ensures in
    number_line_says c.args.net.now before c.args.line.now c.args.named.now c.in_ok-chan.chan c.in-Bits.width c.in_ok-of.of.now c.in_ok-word-in-Bits.word held c.in_ok-chan.was there c.in-Bits.is c.in_ok-word-in-Bits.ensures
