use Rattle.block_verilog.proofs.OnSchedule.Pipelines.{proc_is_pipeline}
use Rattle.block_verilog.proofs.schedule.laws.scheduled_procs_are_pipelines.Goals as goal

pub returns : goal.returns
returns c ir p proc clock stages verified there legal =
    proc_is_pipeline ir p proc clock stages (c.procs_keep_types.ensures ir verified) (c.sites_are_alone_at_their_ends.ensures ir verified) there legal
