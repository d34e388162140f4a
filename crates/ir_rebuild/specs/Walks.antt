-- What became of the nodes of a proc, one after the other, and of the procs of a package.
use Rattle.std.specs.Prelude.{◌≡◌, List, [], ◌∷◌, ◌++◌, Bool, true, false, length, get_or}
use Rattle.ir_tree.specs.declared.ir_type.IrType.{IrType}
use Rattle.ir_tree.specs.declared.node.Operand.{Operand}
use Rattle.ir_tree.specs.declared.node.Operand.TheVariants as operand
use Rattle.ir_tree.specs.declared.node.Node.{Node}
use Rattle.ir_tree.specs.declared.package.Proc.{Proc}
use Rattle.ir_tree.specs.declared.package.Package.{Package}
use Rattle.ir_rebuild.specs.Moves.{moved, moved_node}
use Rattle.ir_rebuild.specs.Kept.{AreKept, StandBefore}
use Rattle.ir_rebuild.specs.Built.{AreBuilt, FitsAt, Rewrites, numbered}
use Rattle.ir_rebuild.specs.Fixed.{is_fixed}

-- what a pass says of a node and the operand that stands for it, where one list became another
abbrev pub NodeRelation : Type 1
NodeRelation = IrType → List Node → List Node → Node → Operand → Type 0

-- Nodes were read, others built, and these operands stand for those that were kept: a node is dropped, and the state is put down for
-- it, or it is copied as it is where it is fixed, or else rewritten as the pass says.
pub data RebuildsTo (state : IrType) (gives : NodeRelation) (kept : List Bool) : List Node → List Node → List Operand → Type 0 where
  none_read : RebuildsTo state gives kept [] [] []
  dropped : (old new : List Node) (places : List Operand) (n : Node) → RebuildsTo state gives kept old new places → get_or kept (length old) false ≡ false → RebuildsTo state gives kept (old ++ n ∷ []) new (places ++ operand.State ∷ [])
  copied : (old new : List Node) (places : List Operand) (n : Node) → RebuildsTo state gives kept old new places → get_or kept (length old) false ≡ true → is_fixed new (moved_node (moved places) n) ≡ true →
      AreBuilt state (new ++ numbered (length new) (moved_node (moved places) n) ∷ []) →
      RebuildsTo state gives kept (old ++ n ∷ []) (new ++ numbered (length new) (moved_node (moved places) n) ∷ []) (places ++ operand.Node (length new) ∷ [])
  rewritten : (old new all : List Node) (places : List Operand) (n : Node) (o : Operand) → RebuildsTo state gives kept old new places → get_or kept (length old) false ≡ true → is_fixed new (moved_node (moved places) n) ≡ false →
      AreBuilt state new → FitsAt state new (length new) (moved_node (moved places) n) →
      Rewrites state new all (moved_node (moved places) n) o → gives state new all (moved_node (moved places) n) o → RebuildsTo state gives kept (old ++ n ∷ []) all (places ++ o ∷ [])

-- a proc became another of its name, state and initial value, by a pass that says this of what is kept, and of each rewritten node
pub record ProcRebuildsTo (marks : Proc → List Bool → Type 0) (gives : NodeRelation) (old new : Proc) : Type 0 where
  pub kept : List Bool
  pub places : List Operand
  pub marked : marks old kept
  pub are_kept : AreKept old kept
  pub before : StandBefore old
  pub walks : RebuildsTo old.state gives kept old.nodes new.nodes places
  pub built : AreBuilt new.state new.nodes
  pub name : new.name ≡ old.name
  pub state : new.state ≡ old.state
  pub init : new.init ≡ old.init
  pub next : new.next ≡ moved places old.next

-- each proc did
abbrev pub EachProcRebuildsTo : (Proc → List Bool → Type 0) → NodeRelation → List Proc → List Proc → Type 0
EachProcRebuildsTo marks gives [] [] = Unit {0}
EachProcRebuildsTo marks gives [] (q ∷ qs) = ⊥
EachProcRebuildsTo marks gives (p ∷ ps) [] = ⊥
EachProcRebuildsTo marks gives (p ∷ ps) (q ∷ qs) = ProcRebuildsTo marks gives p q × EachProcRebuildsTo marks gives ps qs

-- a package has the name and the channels of another
pub record SameHead (old new : Package) : Type 0 where
  pub name : new.name ≡ old.name
  pub channels : new.channels ≡ old.channels
