-- Checked texts whose ends are all there.
use Rattle.std.specs.Prelude.{◌≡◌, ℕ, ◌+◌, ◌<◌, List, [], ◌∷◌, Some, length, slice_get}
use Rattle.dslx_core.specs.Designs.{last_index}
use Rattle.dslx_core.specs.declared.design.Child.{Child}
use Rattle.dslx_core.specs.declared.design.Design.{Design}
use Rattle.dslx_core.specs.declared.design.Instance.{Instance}

-- each is below so many
abbrev pub AllBelow : ℕ → List ℕ → Type 0
AllBelow most [] = Unit {0}
AllBelow most (n ∷ ns) = (n < most) × AllBelow most ns

-- how many ends a `config` knows: those that it is given, and behind them those that it makes
abbrev pub end_count : Instance → ℕ
end_count i = i.ends + length i.made

-- each proc that it starts is given ends that it knows, as many as that one takes
abbrev pub AreChildren : List Instance → ℕ → List Child → Type 0
AreChildren instances known [] = Unit {0}
AreChildren instances known (c ∷ cs) =
    AllBelow known c.ends
    × ((i : Instance) → slice_get instances c.instance ≡ Some i → length c.ends ≡ i.ends)
    × AreChildren instances known cs

-- each member is an end that the `config` knows
pub record IsLinkedInstance (instances : List Instance) (i : Instance) : Type 0 where
  pub members : AllBelow (end_count i) i.members
  pub children : AreChildren instances (end_count i) i.children

-- so it is in each instance, and the top is given the outer channels
pub record IsLinked (design : Design) : Type 0 where
  pub each : (k : ℕ) (i : Instance) → slice_get design.procs k ≡ Some i → IsLinkedInstance design.procs i
  pub top : (i : Instance) → slice_get design.procs (last_index design.procs) ≡ Some i → length design.outer ≡ i.ends
