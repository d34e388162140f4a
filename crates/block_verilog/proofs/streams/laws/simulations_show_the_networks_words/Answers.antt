use Rattle.cycle_sim.specs.Rows.RowFile.{all_rows}
use Rattle.block_verilog.proofs.streams.laws.simulations_show_the_networks_words.Goals as goal

pub returns : goal.returns
returns c m ir schedules depths is file text repeated reads simulated resets =
    (simulated.outs, simulated.text_is, c.modules_move_the_networks_words.ensures m ir schedules depths is (all_rows repeated) simulated.outs simulated.held (c.rows_of_files_are_input_rows.ensures m file repeated is.made.runs reads) simulated.runs resets)
