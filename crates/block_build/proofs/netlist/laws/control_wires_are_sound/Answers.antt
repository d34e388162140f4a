use Rattle.block_build.proofs.OnNetlist.OnOrder.{site_is_sound, move_is_sound, keep_is_sound, done_is_sound}
use Rattle.block_build.proofs.netlist.laws.control_wires_are_sound.Goals as goal

pub returns-clause-site : goal.returns-clause-site
returns-clause-site c = site_is_sound

pub returns-clause-moving : goal.returns-clause-moving
returns-clause-moving c = move_is_sound

pub returns-clause-keeping : goal.returns-clause-keeping
returns-clause-keeping c = keep_is_sound

pub returns-clause-being_done : goal.returns-clause-being_done
returns-clause-being_done c = done_is_sound
