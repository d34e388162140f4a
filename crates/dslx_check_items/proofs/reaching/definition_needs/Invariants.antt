use Rattle.std.proofs.Common.{◌≡◌, ◌++◌, drop}
use Rattle.std.specs.Prelude.{flat_map}
use Rattle.dslx_check_items.specs.Shown.{mention_shown}
use Rattle.dslx_check_items.specs.Inner.Targets.{targets_of}
use Rattle.dslx_check_items.specs.declared.mention.Mention.{Mention}
use Rattle.dslx_check_items.proofs.reaching.definition_needs.Given as goal

abbrev pub invariant-each : goal.invariant-each
invariant-each l =
    l.needs ++ flat_map (λ (x : Mention). targets_of l.items.text.now (mention_shown x)) (drop l.i l.mentions.items)
    ≡ flat_map (λ (x : Mention). targets_of l.items.text.now (mention_shown x)) l.mentions.items
