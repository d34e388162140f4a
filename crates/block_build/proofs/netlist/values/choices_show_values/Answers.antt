use Rattle.block_build.proofs.OnNetlist.OnChoices.{choice_shows, pick_shows, none_chosen_below, one_chosen_more}
use Rattle.block_build.proofs.OnNetlist.OnResults.{sel_shown, array_index_shown, array_update_shown}
use Rattle.block_build.proofs.netlist.values.choices_show_values.Goals as goal

pub returns-clause-bit : goal.returns-clause-bit
returns-clause-bit c = choice_shows

pub returns-clause-number : goal.returns-clause-number
returns-clause-number c = pick_shows

pub returns-clause-none : goal.returns-clause-none
returns-clause-none c = none_chosen_below

pub returns-clause-more : goal.returns-clause-more
returns-clause-more c = one_chosen_more

pub returns-clause-selected : goal.returns-clause-selected
returns-clause-selected c = sel_shown

pub returns-clause-element : goal.returns-clause-element
returns-clause-element c = array_index_shown

pub returns-clause-updated : goal.returns-clause-updated
returns-clause-updated c = array_update_shown
