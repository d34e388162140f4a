use Rattle.std.proofs.Common.{sym, ap}
use Rattle.ir_tree.specs.Operations.{shift_word}
use Rattle.vlog_tree.specs.declared.expression.Binary.TheVariants as binary
use Rattle.block_build.proofs.OnNetlist.OnOperating.{shift_put, signed_shifted}
use Rattle.block_build.proofs.netlist.operators.shift.Goals as goal

pub returns-in-Shll : goal.returns-in-Shll
returns-in-Shll c =
    shift_put c.binary.result c.args.wires.now c.binary.new.self c.args.width c.args.a c.args.amount binary.ShiftLeft (shift_word c.args.operation)
    (λ p q. sym (ap (λ o. shift_word o p q) c.in-Shll.is)) c.binary.ensures

pub returns-in-Shrl : goal.returns-in-Shrl
returns-in-Shrl c =
    shift_put c.binary-in-Shrl.result c.args.wires.now c.binary-in-Shrl.new.self c.args.width c.args.a c.args.amount binary.ShiftRight (shift_word c.args.operation)
    (λ p q. sym (ap (λ o. shift_word o p q) c.in-Shrl.is)) c.binary-in-Shrl.ensures

pub returns-in-Shra : goal.returns-in-Shra
returns-in-Shra c =
    signed_shifted c.signed_shift.result c.args.wires.now c.signed_shift.new.wires c.args.width c.args.operation c.args.a c.args.amount c.in-Shra.is c.signed_shift.ensures
