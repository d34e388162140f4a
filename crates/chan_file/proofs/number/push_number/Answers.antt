use Rattle.std.proofs.Common.{◌+◌, ◌/◌, sym, subst, arith}
use Rattle.std.specs.Str.{IsAscii}
use Rattle.chan_file.proofs.Numbers.{put_text, put_ascii}
use Rattle.chan_file.proofs.number.push_number.Goals as goal

pub push_ascii-requires : goal.push_ascii-requires
push_ascii-requires c =
    let count = (c.from.result + 3) / 4 in
    subst IsAscii (sym (put_text c.put_digits.new.bytes count c.value.result (omega arith) (omega arith) c.put_digits.ensures)) (put_ascii count c.value.result)
