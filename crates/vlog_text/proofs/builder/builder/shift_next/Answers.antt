use Rattle.std.proofs.Common.{arith}
use Rattle.vlog_text.proofs.OnBuilder.Stepping.{shift_some, shift_none}
use Rattle.vlog_text.proofs.builder.builder.shift_next.Goals as goal

pub returns-in_ok-shift : goal.returns-in_ok-shift
returns-in_ok-shift c = λ rest. shift_some rest c.args.tokens.now c.args.next c.index-tokens-next.result c.args.state.now c.shift.new.self (omega arith) c.index-tokens-next.is (c.in_ok-shift.ensures {u = tt})

pub returns-else-next-tokens : goal.returns-else-next-tokens
returns-else-next-tokens c = λ rest. shift_none rest c.args.tokens.now c.args.next c.args.state.now (omega arith)
