use Rattle.std.proofs.Common.{◌≡◌, drop}
use Rattle.dslx_check_items.specs.Inner.Definitions.{behind_parametrics}
use Rattle.dslx_check_items.specs.Inner.Plain.{walk_shown}
use Rattle.dslx_check_items.proofs.definitions.mention_each.Given as goal

abbrev pub invariant-parametrics : goal.invariant-parametrics
invariant-parametrics l = behind_parametrics (drop l.parametric-index l.parametrics) (walk_shown l.w) ≡ behind_parametrics l.parametrics (walk_shown l.initial.w)
