use Rattle.block_build.proofs.OnNetlist.OnChoices.{receive_shows}
use Rattle.block_build.proofs.OnNetlist.OnSites.{on_shown}
use Rattle.block_build.proofs.netlist.values.receives_show_values.Goals as goal

pub returns-clause-on : goal.returns-clause-on
returns-clause-on c = on_shown

pub returns-clause-given : goal.returns-clause-given
returns-clause-given c = receive_shows
