use Rattle.std.proofs.Common.{◌≡◌, ◌++◌, OnOk, string_bytes, subst}
use Rattle.chan_file.proofs.Numbers.{word_written}
use Rattle.chan_file.proofs.outcome.push_word.Goals as goal

pub returns-in-Bits : goal.returns-in-Bits
returns-in-Bits c =
    subst (λ t. OnOk c.push_number.result (string_bytes c.push_number.new.text ≡ string_bytes c.args.text.now ++ t))
    (word_written c.args.chan.now c.in-Bits.field-0 c.args.word c.in-Bits.is c.requires.fits c.push_number.ensures.in_range)
    c.push_number.ensures.text
