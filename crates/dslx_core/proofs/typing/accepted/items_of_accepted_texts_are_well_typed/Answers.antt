use Rattle.dslx_core.proofs.OnTyping.OnAccepted.Sound.{each_well_typed}
use Rattle.dslx_core.proofs.typing.accepted.items_of_accepted_texts_are_well_typed.Goals as goal

pub returns-clause-well_typed : goal.returns-clause-well_typed
returns-clause-well_typed c = λ m top accepted.
    each_well_typed m top (record {
      faults = accepted;
      among = c.instances_reach_one_another.ensures.text m top;
      outside = c.instances_reach_one_another.ensures.outside m top;
    })

pub returns-clause-denotation : goal.returns-clause-denotation
returns-clause-denotation c = λ m top free accepted. c.global_env_is_sound.ensures.whole m free (returns-clause-well_typed c m top accepted)
