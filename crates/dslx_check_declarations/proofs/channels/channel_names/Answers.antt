use Rattle.dslx_check_declarations.proofs.OnChannels.{names_are}
use Rattle.dslx_check_declarations.proofs.channels.channel_names.Goals as goal

pub returns : goal.returns
returns c = names_are c.args.channel.now c.local_name-first.ensures c.local_name-second.ensures c.has_end.ensures c.has_end-2.ensures c.is_either-is_before.ensures c.has_string-has_string.ensures c.breaks_if-string.ensures c.and.ensures c.and-2.ensures
