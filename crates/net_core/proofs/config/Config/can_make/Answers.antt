use Rattle.net_core.proofs.config.Config.can_make.Goals as goal

pub has_room_at-requires : goal.has_room_at-requires
has_room_at-requires c = rw c.in-Send.is at c.requires

pub returns-in-Send : goal.returns-in-Send
returns-in-Send c = rw c.in-Send.is c.has_room_at.ensures

pub returns-in-Recv : goal.returns-in-Recv
returns-in-Recv c = rw c.in-Recv.is c.has_word_at.ensures
