-- What comes of work by tables of instances, one behind another.
use Rattle.std.proofs.Common.{◌≡◌, ◌∙◌, ◌≤◌, ℕ, List, length, Option, Some, None, refl, ap}
use Rattle.dslx_tree.specs.declared.item.Module.{Module}
use Rattle.dslx_meaning.specs.Items.{meanings_of}
use Rattle.dslx_meaning.specs.Lists.{and_then}
use Rattle.dslx_core.specs.Lowering.Functions.{CoreInstance}
use Rattle.dslx_core.specs.Machines.Machine.Reached.{IsTable}
use Rattle.dslx_core.specs.Machines.Extension.Results.{TableResult, NoTableGives}

-- ---- nothing comes

pub never_at_once : {A : Type 0} (m : Module) (limit : ℕ) (f : List CoreInstance → Option A) → ((t : List CoreInstance) → f t ≡ None) → NoTableGives m limit f
never_at_once m limit f none t is small = none t

pub never_as : {A : Type 0} (m : Module) (limit : ℕ) (f g : List CoreInstance → Option A) → ((t : List CoreInstance) → g t ≡ f t) → NoTableGives m limit f → NoTableGives m limit g
never_as m limit f g e never t is small = e t ∙ never t is small

-- nothing comes of nothing
pub never_then : {A B : Type 0} (m : Module) (limit : ℕ) (f : List CoreInstance → Option A) (g : A → List CoreInstance → Option B) → NoTableGives m limit f → NoTableGives m limit (λ t. and_then (f t) (λ a. g a t))
never_then m limit f g never t is small = ap (λ o. and_then o (λ a. g a t)) (never t is small)

-- nothing comes of whatever there is
pub never_behind : {A B : Type 0} (m : Module) (limit : ℕ) (f : List CoreInstance → Option A) (g : A → List CoreInstance → Option B)
    → ((t : List CoreInstance) → IsTable m (meanings_of m) t → length t ≤ limit → (a : A) → f t ≡ Some a → g a t ≡ None) → NoTableGives m limit (λ t. and_then (f t) (λ a. g a t))
never_behind {A = A} m limit f g none t is small = by (f t) refl
  where
    by : (o : Option A) → f t ≡ o → and_then o (λ a. g a t) ≡ None
    by None e = refl
    by (Some a) e = none t is small a e

-- ---- this or nothing

pub comes_as : {A : Type 0} (m : Module) (limit : ℕ) (before : List CoreInstance) (f g : List CoreInstance → Option A) (o : Option (A × List CoreInstance)) → ((t : List CoreInstance) → g t ≡ f t)
    → TableResult m limit before f o → TableResult m limit before g o
comes_as m limit before f g None e comes = never_as m limit f g e comes
comes_as m limit before f g (Some (a, after)) e comes = record { grows = comes.grows; some = λ t from. e t ∙ comes.some t from }

pub value_comes : {A B : Type 0} (m : Module) (limit : ℕ) (before after : List CoreInstance) (f : List CoreInstance → Option A) (g : A → Option B) (a : A) (b : B)
    → TableResult m limit before f (Some (a, after)) → g a ≡ Some b → TableResult m limit before (λ t. and_then (f t) g) (Some (b, after))
value_comes m limit before after f g a b comes e = record { grows = comes.grows; some = λ t from. ap (λ o. and_then o g) (comes.some t from) ∙ e }
