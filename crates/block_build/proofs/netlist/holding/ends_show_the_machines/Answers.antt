use Rattle.block_build.proofs.OnNetlist.OnAsked.{end_has_valid, end_has_the_word, end_is_ready, ends_are_quiet}
use Rattle.block_build.proofs.netlist.holding.ends_show_the_machines.Goals as goal

pub returns-clause-valid : goal.returns-clause-valid
returns-clause-valid c = end_has_valid

pub returns-clause-word : goal.returns-clause-word
returns-clause-word c = end_has_the_word

pub returns-clause-ready : goal.returns-clause-ready
returns-clause-ready c = end_is_ready

pub returns-clause-reset : goal.returns-clause-reset
returns-clause-reset c = ends_are_quiet
