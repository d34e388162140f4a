use Rattle.block_verilog.proofs.Cycles.{all_carry}
use Rattle.block_verilog.proofs.Given.{given_carries, rows_carry}
use Rattle.block_verilog.proofs.widths.signals_carry_words.Goals as goal

pub returns-clause-now : goal.returns-clause-now
returns-clause-now c m held given values can inputs registers now = all_carry c.wires_carry_words.ensures m held given values can now inputs registers

pub returns-clause-given : goal.returns-clause-given
returns-clause-given c = given_carries

pub returns-clause-rows : goal.returns-clause-rows
returns-clause-rows c = rows_carry c.wires_carry_words.ensures
