-- Which names were seen.
use Rattle.std.specs.Prelude.{ℕ, List, Bool, is_some}
use Rattle.std.specs.Ordering.{nat_cmp}
use Rattle.std.specs.Cmp.Lexicographic.{slice_cmp}
use Rattle.std.specs.BTreeMap.{get_by}
use Rattle.ir_tree.specs.declared.rules.names.Names.{Names}

abbrev pub has : Names → List ℕ → Bool
has names name = is_some (get_by (λ k. slice_cmp nat_cmp name k.now) names.seen)
