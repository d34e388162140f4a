use Rattle.std.proofs.Common.{◌≡◌, map, take}
use Rattle.dslx_check_items.specs.Items.{definition_of}
use Rattle.dslx_check_items.specs.Reaching.{definition_needs}
use Rattle.dslx_check_items.proofs.reaching.needs_of.Given as goal

abbrev pub invariant-each : goal.invariant-each
invariant-each l = l.needs.items ≡ map (definition_needs l.items.text.now) (take l.item (map definition_of l.items.text.now.items))
