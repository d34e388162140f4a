use Rattle.block_verilog.proofs.OnSchedule.Blocks.{package_is_block}
use Rattle.block_verilog.proofs.schedule.laws.scheduled_packages_are_blocks.Goals as goal

pub returns : goal.returns
returns c ir clock schedules depths verified legal =
    package_is_block ir clock schedules depths (λ p proc stages there l. c.scheduled_procs_are_pipelines.ensures ir p proc clock stages verified there l) (c.procs_fit_their_network.ensures.net ir verified) legal
