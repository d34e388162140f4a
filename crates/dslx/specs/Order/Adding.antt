-- Instances that are added behind those that they spawn.
use Rattle.std.specs.Prelude.{◌≡◌, ◌++◌, ◌-◌, ◌&&◌, ℕ, List, [], ◌∷◌, length, slice_get, Bool, true, Option, Some}
use Rattle.std.specs.List.{list_any}
use Rattle.std.specs.Str.{bytes_eq}
use Rattle.dslx_tree.specs.declared.item.Module.{Module}
use Rattle.dslx_tree.specs.declared.process.Proc.{Proc}
use Rattle.dslx_meaning.specs.Lists.{pairwise}
use Rattle.dslx_meaning.specs.Rules.EqualValues.{equal_value}
use Rattle.dslx_core.specs.Lowering.Functions.{Instantiated}
use Rattle.dslx_core.specs.Typing.TypingRelations.Closed.{ends_within}
use Rattle.dslx_total.specs.Configs.ReachedProcs.{IsReachedProc}
use Rattle.dslx_elab.specs.Orders.{IsSpawnOrder, StandsIn}

-- two instances are one
abbrev pub is_the_same : Instantiated → Instantiated → Bool
is_the_same i j = bytes_eq i.name j.name && pairwise equal_value i.parametric_args j.parametric_args

abbrev pub is_one_of : Instantiated → List Instantiated → Bool
is_one_of i is = list_any (is_the_same i) is

-- an instance of a proc that is checked, from which no chain of items has more than so many
pub record CanBeAdded (m : Module) (top : Option (List ℕ)) (most : ℕ) (i : Instantiated) : Type 0 where
  pub proc : Proc
  pub name : proc.name.name ≡ i.name
  pub checked : IsReachedProc m top proc i.parametric_args
  pub ends : ends_within m most i.name ≡ true

abbrev pub CanAllBeAdded : Module → Option (List ℕ) → ℕ → List Instantiated → Type 0
CanAllBeAdded m top most [] = Unit {0}
CanAllBeAdded m top most (i ∷ is) = CanBeAdded m top most i × CanAllBeAdded m top most is

-- no chain of items from one of these has more than so many
abbrev pub EachEnds : Module → ℕ → List Instantiated → Type 0
EachEnds m n [] = Unit {0}
EachEnds m n (i ∷ is) = (ends_within m n i.name ≡ true) × EachEnds m n is

abbrev pub EachStandsIn : List Instantiated → List Instantiated → Type 0
EachStandsIn order [] = Unit {0}
EachStandsIn order (i ∷ is) = StandsIn order i × EachStandsIn order is

-- an instance stands in the order, as its last one where it didn't stand there before. What came before it is in order, each instance once, and
-- the chains of items from it are no longer than those from the instance
pub record AddsInstance (m : Module) (top : Option (List ℕ)) (i : Instantiated) (before after : List Instantiated) : Type 0 where
  pub more : List Instantiated
  pub is : after ≡ before ++ more
  pub order : IsSpawnOrder m top before more
  pub there : StandsIn after i
  pub last : (StandsIn before i → ⊥) → slice_get after (length after - 1) ≡ Some i
  pub chains : (n : ℕ) → ends_within m n i.name ≡ true → EachEnds m n more

-- each of these stands in the order
pub record AddsSpawned (m : Module) (top : Option (List ℕ)) (spawned before after : List Instantiated) : Type 0 where
  pub more : List Instantiated
  pub is : after ≡ before ++ more
  pub order : IsSpawnOrder m top before more
  pub there : EachStandsIn after spawned
  pub chains : (n : ℕ) → EachEnds m n spawned → EachEnds m n more
