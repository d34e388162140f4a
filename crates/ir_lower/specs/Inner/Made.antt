-- Procs that are lowered, and the package that is made of them.
use Rattle.std.specs.Prelude.{◌≡◌, ℕ, List, [], ◌∷◌, map, Some, slice_get}
use Rattle.xb_value.specs.declared.ty.Ty.{Ty}
use Rattle.net_core.specs.declared.net.Chan.{Chan}
use Rattle.ir_tree.specs.declared.ir_type.IrType.{IrType}
use Rattle.ir_tree.specs.declared.package.Channel.{Channel}
use Rattle.ir_tree.specs.declared.package.Package.{Package}
use Rattle.ir_tree.specs.declared.package.Proc.{Proc}
use Rattle.ir_tree.specs.Activations.{activation}
use Rattle.ir_tree.specs.SameBehavior.{SameActivations}
use Rattle.ir_rebuild.specs.Putting.Types.{ir_type_of}
use Rattle.ir_rebuild.specs.Putting.Given.{IsNodeType}
use Rattle.dslx_core.specs.declared.design.Design.{Design}
use Rattle.dslx_core.specs.declared.design.Function.{Function}
use Rattle.dslx_core.specs.declared.design.Instance.{Instance}
use Rattle.dslx_core.specs.Types.Designs.{FunctionSignature, WordTypes}
use Rattle.ir_lower_nodes.specs.Exprs.Calls.{AreNodeFunctions, calls_below, types_below}
use Rattle.ir_lower_nodes.specs.Acts.Activities.{word_width}
use Rattle.ir_lower_nodes.specs.Acts.InstanceActivities.{instance_behavior}
use Rattle.ir_lower_nodes.specs.Steps.Steps.{MembersCarryWords}
use Rattle.ir_lower_nodes.specs.Procs.Instances.{next_node_type}
use Rattle.ir_lower.specs.Deep.{word_type}
use Rattle.ir_lower.specs.declared.types.signature.Signature.{Signature}
use Rattle.ir_lower.specs.Types.Signatures.{signatures_of}
use Rattle.ir_lower.specs.Types.Typed.{InstanceTyped}

-- where its parts have types, the IR proc does what an instance does whose members are ends of the channels of these numbers
abbrev pub ProcLowers : List Function → List ℕ → Instance → Proc → Type 0
ProcLowers fs members i p =
    (signatures : List FunctionSignature) (n : ℕ) → AreNodeFunctions signatures fs → (ir : List Channel) (words : WordTypes) → MembersCarryWords ir members words →
    IsNodeType (ir_type_of i.state) → next_node_type (types_below n signatures) words i.steps i.next (i.state ∷ []) ≡ Some i.state →
    (width : ℕ → ℕ) → ((c : ℕ) → width c ≡ word_width ir c) → SameActivations (instance_behavior (calls_below n fs) width members i) (activation ir p)

-- the IR proc is made of an instance whose parts have types, over some channels of the network
pub record IsLoweredProc (signatures : List Signature) (fs : List Function) (chans : List Chan) (i : Instance) (p : Proc) : Type 0 where
  pub members : List ℕ
  pub words : List Ty
  pub types : map (word_type chans) members ≡ map Some words
  pub typed : InstanceTyped signatures words i
  pub lowers : ProcLowers fs members i p

-- the IR proc is made of the instance of the network's proc of this number
pub record IsLoweredAt (signatures : List Signature) (design : Design) (chans : List Chan) (instances : List ℕ) (k : ℕ) (p : Proc) : Type 0 where
  pub number : ℕ
  pub is : slice_get instances k ≡ Some number
  pub instance : Instance
  pub there : slice_get design.procs number ≡ Some instance
  pub lowered : IsLoweredProc signatures design.functions chans instance p

-- each is
abbrev pub AreLowered : List Signature → Design → List Chan → List ℕ → List Proc → Type 0
AreLowered signatures design chans instances ps = (k : ℕ) (p : Proc) → slice_get ps k ≡ Some p → IsLoweredAt signatures design chans instances k p

-- types of nodes for the words of channels
abbrev pub types_of_channels : List Channel → List IrType
types_of_channels cs = map (λ (c : Channel). c.ty) cs

abbrev pub types_of_chans : List Chan → List IrType
types_of_chans chans = map (λ (chan : Chan). ir_type_of chan.ty) chans

-- the package has a channel for each one of the network, of its type, and a proc for each of its instances
pub record IsPackageOf (design : Design) (chans : List Chan) (instances : List ℕ) (ir : Package) : Type 0 where
  pub signatures : List Signature
  pub signed : AreNodeFunctions (signatures_of signatures) design.functions
  pub channels : types_of_channels ir.channels ≡ types_of_chans chans
  pub procs : AreLowered signatures design chans instances ir.procs
