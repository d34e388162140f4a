use Rattle.block_verilog.proofs.OnRows.{module_drives}
use Rattle.block_verilog.proofs.laws.modules_drive_their_blocks.Goals as goal

pub returns : goal.returns
returns c m ir clock schedules depths can made =
    module_drives c.pipelines_are_made.ensures.made c.pipelines_are_made.ensures.partners c.pipelines_are_made.ensures.requests c.registers_go_on_as_they_are_set.ensures.next c.registers_go_on_as_they_are_set.ensures.count c.registers_go_on_as_they_are_set.ensures.reset
    c.registers_take_their_sets.ensures m (λ held given v. c.signals_carry_words.ensures.now m held given v) (λ row. c.signals_carry_words.ensures.given m row can) (λ rows outs held are. c.signals_carry_words.ensures.rows m rows outs held can are) ir clock schedules depths can made (c.procs_fit_their_network.ensures.net ir made.put.verified)
    c.netlists_drive_what_their_blocks_do.ensures c.ends_show_the_machines.ensures.reset (c.scheduled_packages_are_blocks.ensures ir clock schedules depths made.put.verified made.put.legal)
