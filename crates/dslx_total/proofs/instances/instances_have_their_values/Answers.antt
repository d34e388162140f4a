use Rattle.dslx_meaning.specs.Items.{meanings_of}
use Rattle.dslx_total.proofs.OnClosed.Settled.{calls_settled}
use Rattle.dslx_total.proofs.instances.instances_have_their_values.Goals as goal

pub returns : goal.returns
returns c m top faults table made checked =
    c.lower_preserves_instances.ensures m (meanings_of m) (c.what_is_checked_is_known.ensures.own m top faults) made.0 table (calls_settled m top (c.what_is_checked_is_known.ensures.settled m top faults) made.0 checked) made.1
