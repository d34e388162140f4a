use Rattle.dslx_total.proofs.OnClosed.Meanings.{but_for_calls}
use Rattle.dslx_total.proofs.checked.meanings_differ_in_calls_alone.Goals as goal

pub returns : goal.returns
returns c m top faults = but_for_calls m top (c.checked_items_mention_such.ensures.means m top faults)
