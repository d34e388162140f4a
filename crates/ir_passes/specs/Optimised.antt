-- What an optimised package is to the one that it was made of.
use Rattle.std.specs.Prelude.{◌≡◌, ◌*◌, ◌≤◌, ℕ, List, length, slice_get, Some}
use Rattle.ir_tree.specs.declared.package.Package.{Package}
use Rattle.ir_tree.specs.declared.package.Proc.{Proc}
use Rattle.ir_tree.specs.SameBehavior.{SameBehavior}
use Rattle.ir_tree.specs.Rules.Verified.{IsVerified}
use Rattle.ir_rebuild.specs.Kept.{AreAllKept}
use Rattle.ir_rebuild.specs.Walks.{EachProcRebuildsTo, SameHead}
use Rattle.ir_rebuild.specs.Normal.Normal.{AreLive, IsNormal}
use Rattle.pass_dead.specs.Stays.{Stays}
use Rattle.ir_passes.specs.Simplifies.{Simplifies}
use Rattle.ir_passes.specs.Renumbered.{numbered_package}

-- each proc has at most four times as many nodes
pub record IsBounded (old new : Package) : Type 0 where
  pub procs : (i : ℕ) (p q : Proc) → slice_get old.procs i ≡ Some p → slice_get new.procs i ≡ Some q → length q.nodes ≤ 4 * length p.nodes

-- the rules were tried at each node in line order, and then what nobody needs was dropped: nothing else was done
pub record IsMade (old new : Package) : Type 0 where
  pub between : List Proc
  pub first : EachProcRebuildsTo AreAllKept Simplifies old.procs between
  pub second : EachProcRebuildsTo AreLive Stays between new.procs
  pub head : SameHead old new

-- A package that is normal is given back, in each proc of which ids count from 1.
pub record IsOptimised (old new : Package) : Type 0 where
  pub verified : IsVerified new
  pub same : SameBehavior old new
  pub normal : IsNormal new
  pub made : IsMade old new
  pub given_back : IsNormal old → new ≡ numbered_package old
  pub numbered : numbered_package new ≡ new
  pub few : IsBounded old new
