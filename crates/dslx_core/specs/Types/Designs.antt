-- Checked texts all of whose functions and procs have types: what a lowering of them may rely on.
use Rattle.std.specs.Prelude.{◌≡◌, ◌==◌, ◌&&◌, ◌++◌, ℕ, suc, nat_lt, List, [], ◌∷◌, map, Bool, true, Option, Some, None, length, slice_get, if◌then◌else◌}
use Rattle.std.specs.List.{list_all}
use Rattle.xb_value.specs.declared.ty.Ty.{Ty, Bits, Tuple, fold-Ty}
use Rattle.xb_value.specs.declared.ty.Ty.TheOpen.{Ty-F}
use Rattle.xb_value.specs.Typing.{IsOfType}
use Rattle.dslx_meaning.specs.Lists.{and_then, last_of, pairwise, where_true}
use Rattle.dslx_core.specs.CoreValues.{is_width}
use Rattle.dslx_core.specs.declared.design.Child.{Child}
use Rattle.dslx_core.specs.declared.design.Design.{Design}
use Rattle.dslx_core.specs.declared.design.Function.{Function}
use Rattle.dslx_core.specs.declared.design.Instance.{Instance}
use Rattle.dslx_core.specs.declared.design.MadeChannel.{MadeChannel}
use Rattle.dslx_core.specs.declared.design.Outer.{Outer}
use Rattle.dslx_core.specs.declared.expr.CoreExpr.{CoreExpr}
use Rattle.dslx_core.specs.declared.step.Step.{Step}
use Rattle.dslx_core.specs.declared.step.Step.TheVariants as step
use Rattle.dslx_core.specs.Lowering.Steps.{fits_word}
use Rattle.dslx_core.specs.Types.Typing.{FunctionTypes, binds_types, core_type, if_alike, is_type}

-- ---- sound types

abbrev pub sound_step : Ty-F Bool → Bool
sound_step (Ty-F.Bits w) = is_width w
sound_step (Ty-F.Tuple bs) = list_all (λ b. b) bs
sound_step (Ty-F.Array b n) = nat_lt 0 n && b

-- all bits in it are 1 to 128 wide, and each array in it has an element
abbrev pub is_sound : Ty → Bool
is_sound = fold-Ty Bool sound_step

-- ---- functions

-- the types of a function's operands and of its result
pub record FunctionSignature : Type 0 where
  pub arguments : List Ty
  pub result : Ty

abbrev pub no_types : FunctionTypes
no_types f ts = None

-- the first functions, and one more
abbrev pub and_signature : ℕ → FunctionSignature → FunctionTypes → FunctionTypes
and_signature n s before f ts = if f == n then where_true (pairwise is_type s.arguments ts) (Some s.result) else before f ts

-- what functions give, by their signatures
abbrev pub types_from : ℕ → List FunctionSignature → FunctionTypes → FunctionTypes
types_from n [] before = before
types_from n (s ∷ ss) before = types_from (suc n) ss (and_signature n s before)

-- its body has the type of its result, over operands of its arguments' types
pub record IsTypedFunction (before : FunctionTypes) (s : FunctionSignature) (f : Function) : Type 0 where
  pub arity : length s.arguments ≡ f.arity
  pub sound : list_all is_sound s.arguments ≡ true
  pub body : core_type f.body before s.arguments ≡ Some s.result

-- each has its signature, and calls those before it alone
abbrev pub AreTypedFunctions : ℕ → FunctionTypes → List FunctionSignature → List Function → Type 0
AreTypedFunctions n before [] [] = Unit {0}
AreTypedFunctions n before (s ∷ ss) (f ∷ fs) = IsTypedFunction before s f × AreTypedFunctions (suc n) (and_signature n s before) ss fs
AreTypedFunctions n before [] (f ∷ fs) = ⊥
AreTypedFunctions n before (s ∷ ss) [] = ⊥

-- ---- steps

-- the types of the words at members of a proc
abbrev pub WordTypes : Type 0
WordTypes = ℕ → Option Ty

abbrev pub token_type : Ty
token_type = Tuple []

-- a condition is a bit
abbrev pub if_condition : FunctionTypes → List Ty → Option CoreExpr → Option Ty → Option Ty
if_condition calls bound None t = t
if_condition calls bound (Some c) t = and_then (if_alike (Bits 1) (core_type c calls bound)) (λ b. t)

-- the word where nothing is received
abbrev pub if_other : FunctionTypes → List Ty → Ty → Option (CoreExpr × CoreExpr) → Option Ty
if_other calls bound t None = Some t
if_other calls bound t (Some both) = if_condition calls bound (Some both.0) (if_alike t (core_type both.1 calls bound))

-- the types of what is bound behind a step
abbrev pub step_binds : FunctionTypes → WordTypes → Step → List Ty → Option (List Ty)
step_binds calls words (step.Bind e shape) bound = and_then (core_type e calls bound) (λ t. binds_types true shape t bound)
step_binds calls words (step.Receive r) bound =
    and_then (if_alike r.word (words r.member)) (λ t. and_then (if_other calls bound t r.condition) (λ u. binds_types true r.shape (Tuple (token_type ∷ u ∷ [])) bound))
step_binds calls words (step.Send s) bound =
    and_then (words s.member) (λ t. and_then (if_condition calls bound s.condition (if_alike t (core_type s.word calls bound))) (λ u. binds_types true s.shape token_type bound))

-- the type of the state behind steps
abbrev pub steps_type : FunctionTypes → WordTypes → List Step → CoreExpr → List Ty → Option Ty
steps_type calls words [] next bound = core_type next calls bound
steps_type calls words (s ∷ ss) next bound = and_then (step_binds calls words s bound) (steps_type calls words ss next)

-- ---- instances of procs

-- the types of all ends of an instance: those that `config` takes, and behind them those of the channels that it makes
abbrev pub all_ends : List Ty → Instance → List Ty
all_ends ends i = ends ++ map (λ (c : MadeChannel). c.ty) i.made

abbrev pub word_types : List Ty → Instance → WordTypes
word_types ends i k = and_then (slice_get i.members k) (slice_get (all_ends ends i))

-- a child is an instance before, and its ends are of its types
abbrev pub IsTypedChild : List (List Ty) → List Ty → Child → Type 0
IsTypedChild before ends c = (us : List Ty) × (slice_get before c.instance ≡ Some us) × (map (slice_get ends) c.ends ≡ map Some us)

abbrev pub AreTypedChildren : List (List Ty) → List Ty → List Child → Type 0
AreTypedChildren before ends [] = Unit {0}
AreTypedChildren before ends (c ∷ cs) = IsTypedChild before ends c × AreTypedChildren before ends cs

-- an instance whose `config` takes ends of these types
pub record IsTypedInstance (calls : FunctionTypes) (before : List (List Ty)) (ends : List Ty) (i : Instance) : Type 0 where
  pub count : length ends ≡ i.ends
  pub words : list_all fits_word (all_ends ends i) ≡ true
  pub sound : list_all is_sound (all_ends ends i) ≡ true
  pub children : AreTypedChildren before (all_ends ends i) i.children
  pub state : is_sound i.state ≡ true
  pub opening : IsOfType i.state i.opening
  pub steps : steps_type calls (word_types ends i) i.steps i.next (i.state ∷ []) ≡ Some i.state

-- each spawns those before it alone
abbrev pub AreTypedInstances : FunctionTypes → List (List Ty) → List (List Ty) → List Instance → Type 0
AreTypedInstances calls before [] [] = Unit {0}
AreTypedInstances calls before (e ∷ es) (i ∷ is) = IsTypedInstance calls before e i × AreTypedInstances calls (before ++ e ∷ []) es is
AreTypedInstances calls before [] (i ∷ is) = ⊥
AreTypedInstances calls before (e ∷ es) [] = ⊥

-- ---- designs

pub record IsTypedDesign (design : Design) : Type 0 where
  pub signatures : List FunctionSignature
  pub functions : AreTypedFunctions 0 no_types signatures design.functions
  -- the types of the ends that each `config` takes
  pub ends : List (List Ty)
  pub procs : AreTypedInstances (types_from 0 signatures no_types) [] ends design.procs
  -- the top's are those of the outer channels
  pub outer : last_of ends ≡ Some (map (λ (o : Outer). o.ty) design.outer)
