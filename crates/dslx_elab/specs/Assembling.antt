-- The checked text of instances of a text's procs.
use Rattle.std.specs.Prelude.{◌≡◌, ◌-◌, ◌&&◌, ℕ, List, [], ◌∷◌, length, slice_get, Bool, false, Option, None, Some}
use Rattle.std.specs.Str.{bytes_eq}
use Rattle.dslx_tree.specs.declared.item.Module.{Module}
use Rattle.dslx_tree.specs.declared.process.Proc.{Proc}
use Rattle.dslx_meaning.specs.Items.{meanings_of}
use Rattle.dslx_meaning.specs.Lists.{pairwise}
use Rattle.dslx_meaning.specs.Network.{top_parametric_args, top_proc}
use Rattle.dslx_meaning.specs.Rules.EqualValues.{equal_value}
use Rattle.dslx_meaning.specs.declared.value.DslxValue.{DslxValue}
use Rattle.dslx_core.specs.Lowering.Functions.{Instantiated}
use Rattle.dslx_core.specs.Networks.Assembly.{IsDesignFrom, instances_alone, lower_outers}
use Rattle.dslx_core.specs.Networks.Configs.{ProcInstance}
use Rattle.dslx_core.specs.declared.design.Design.{Design}
use Rattle.dslx_elab.specs.Adding.{AddsProc}
use Rattle.dslx_elab.specs.declared.adding.MadeInstances.{MadeInstances}

-- nothing is made
pub record IsEmpty (made : MadeInstances) : Type 0 where
  pub functions : made.functions ≡ []
  pub procs : made.procs.items ≡ []

-- what comes of adding these, one after the other, to what is made
pub data AddsFrom (m : Module) (limit : ℕ) : MadeInstances → List Instantiated → Option MadeInstances → Type 0 where
  AllAdded : (before : MadeInstances) → AddsFrom m limit before [] (Some before)
  OneAdded : (before mid : MadeInstances) (i : Instantiated) (is : List Instantiated) (o : Option MadeInstances) → AddsProc m limit before i (Some mid) → AddsFrom m limit mid is o → AddsFrom m limit before (i ∷ is) o
  OneMissing : (before : MadeInstances) (i : Instantiated) (is : List Instantiated) → AddsProc m limit before i None → AddsFrom m limit before (i ∷ is) None

abbrev pub AddsAll : Module → ℕ → List Instantiated → Option MadeInstances → Type 0
AddsAll m limit wanted o = (first : MadeInstances) × IsEmpty first × AddsFrom m limit first wanted o

-- an instance of a proc with these parametric arguments
abbrev pub is_of_proc : List ℕ → List DslxValue → ProcInstance → Bool
is_of_proc name parametric_args i = bytes_eq i.name name && pairwise equal_value i.parametric_args parametric_args

abbrev pub is_of_found : List ℕ → List DslxValue → Option ProcInstance → Bool
is_of_found name parametric_args None = false
is_of_found name parametric_args (Some i) = is_of_proc name parametric_args i

-- so is the last one
abbrev pub is_last_of : List ℕ → List DslxValue → List ProcInstance → Bool
is_last_of name parametric_args is = is_of_found name parametric_args (slice_get is (length is - 1))

-- the checked text of these instances, the top's at the end; or nothing, where an outer channel has no type, one of the instances isn't there,
-- or the last is not the top's
pub data Assembles (m : Module) (top : Proc) (limit : ℕ) (wanted : List Instantiated) : Option Design → Type 0 where
  IsAssembled : (design : Design) (made : MadeInstances) → AddsAll m limit wanted (Some made) → design.procs ≡ instances_alone made.procs.items
      → ((name : Option (List ℕ)) → top_proc m name ≡ Some top → (from : IsDesignFrom m name design) × (from.functions ≡ made.functions)) → Assembles m top limit wanted (Some design)
  LacksOuters : lower_outers (meanings_of m) top ≡ None → Assembles m top limit wanted None
  LacksInstance : AddsAll m limit wanted None → Assembles m top limit wanted None
  LacksTop : (made : MadeInstances) → AddsAll m limit wanted (Some made) → is_last_of top.name.name (top_parametric_args (meanings_of m) top) made.procs.items ≡ false → Assembles m top limit wanted None
