-- Instances that reach none but one another.
use Rattle.std.specs.Prelude.{◌≡◌, ◌⊎◌, ℕ, zero, suc, Bool, List, [], ◌∷◌, true, false}
use Rattle.std.specs.List.{list_all}
use Rattle.dslx_tree.specs.declared.item.Module.{Module}
use Rattle.dslx_meaning.specs.Items.{item_named}
use Rattle.dslx_meaning.specs.Rules.TypeEnvs.{Instance, GlobalEnv}
use Rattle.dslx_meaning.specs.Rules.Mentions.{mentions_of}
use Rattle.dslx_meaning.specs.Rules.ModuleRules.{found_of_instance, is_reached}

-- the instance is one of these
abbrev pub IsOneOf : Instance → List Instance → Type 0
IsOneOf i [] = ⊥
IsOneOf i (x ∷ xs) = (i ≡ x) ⊎ IsOneOf i xs

-- each of these reaches none but these
abbrev pub ReachOneAnother : GlobalEnv → List Instance → Type 0
ReachOneAnother known is = (i j : Instance) → IsOneOf i is → IsOneOf j (found_of_instance known i).reached → is_reached j is ≡ true

-- the least instances that have these and all that they themselves reach: a test that these pass, and what is reached by those that
-- pass it, is passed by each
pub record IsLeastClosed (known : GlobalEnv) (start all : List Instance) : Type 0 where
  pub starts : (i : Instance) → IsOneOf i start → is_reached i all ≡ true
  pub closed : ReachOneAnother known all
  pub least : (P : Instance → Bool) → ((i : Instance) → IsOneOf i start → P i ≡ true)
      → ((i j : Instance) → P i ≡ true → IsOneOf j (found_of_instance known i).reached → P j ≡ true) → (i : Instance) → IsOneOf i all → P i ≡ true

-- no chain from this item has more than so many items
abbrev pub ends_within : Module → ℕ → List ℕ → Bool
ends_within m zero name = false
ends_within m (suc k) name = list_all (ends_within m k) (mentions_of m (item_named name m.items))
