use Rattle.std.proofs.Common.{sym}
use Rattle.chan_queue.proofs.Lemmas.Streams.{chan_there}
use Rattle.proc_task.proofs.Ports.{site_read}
use Rattle.proc_task.proofs.task.Task.chan_at.Goals as goal

pub returns : goal.returns
returns g c = sym (chan_there c.args.self.now.sites.items c.args.site c.index.result.now (site_read c.args.self.now.sites.items c.args.site c.index.result.now c.requires c.index.ensures))
