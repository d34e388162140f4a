use Rattle.dslx_meaning.specs.Items.{meanings_of}
use Rattle.dslx_meaning.specs.Rules.ModuleRules.{globals_of}
use Rattle.dslx_core.proofs.OnConstants.Own.{items_are_own}
use Rattle.dslx_core.proofs.OnConstants.Wholes.{globals_whole}
use Rattle.dslx_core.proofs.constants.items_are_own.Goals as goal

pub returns : goal.returns
returns c m free well_typed =
    items_are_own m (globals_of m) (globals_whole m) (c.all_items_are_known.ensures.complete m well_typed) (c.all_items_are_known.ensures.typed m well_typed) (meanings_of m)
    (c.recursion_ends.ensures.settled m free) (c.global_env_is_sound.ensures.whole m free well_typed)
