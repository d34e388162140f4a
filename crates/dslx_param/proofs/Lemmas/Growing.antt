-- Tables one behind another, to each of which only what is needed was added.
use Rattle.std.proofs.Common.{◌≡◌, ◌∙◌, ℕ, Bool, true, false, List, Option, Some, None, refl, sym, ap}
use mathlib.Core.Bool.{true≢false}
use Rattle.dslx_tree.specs.declared.item.Module.{Module}
use Rattle.dslx_meaning.specs.Lists.{and_then}
use Rattle.dslx_core.specs.Lowering.Functions.{CoreInstance, Instantiated}
use Rattle.dslx_core.specs.Machines.Alike.Tables.{has_instance}
use Rattle.dslx_core.proofs.Lemmas.Machines.Extension.Coming.{never_as}
use Rattle.dslx_param.specs.Needed.{AddsNeeded, AreOfTable, AtOnce, IsCalledWithin, TableMakes, Through}
use Rattle.dslx_param.proofs.OnNeeded.Called.{adds_by}

-- where nothing comes by one, nothing comes by the other
abbrev pub NoneOf : {A B : Type 0} → Module → (List CoreInstance → Option A) → (List CoreInstance → Option B) → Type 0
NoneOf m part whole = (t : List CoreInstance) → AreOfTable m t → part t ≡ None → whole t ≡ None

-- what is called for a part is called for the whole
called_of : {A B : Type 0} (m : Module) (part : List CoreInstance → Option A) (whole : List CoreInstance → Option B) → NoneOf m part whole → (n : ℕ) (i : Instantiated)
    → IsCalledWithin m part n i → IsCalledWithin m whole n i
called_of m part whole none n i (AtOnce p j h) = AtOnce p j (λ t are without. none t are (h t are without))
called_of m part whole none n i (Through p j q within h) = Through p j q (called_of m part whole none p j within) h

module _ (m : Module) (limit : ℕ) (before : List CoreInstance) where
  -- nothing is added
  pub adds_nothing : {A : Type 0} (meaning : List CoreInstance → Option A) → AddsNeeded m limit before before meaning
  adds_nothing meaning = adds_by m limit before before meaning (λ o. o) (λ i has new. absurd (true≢false (sym has ∙ new)))

  pub adds_for : {A B : Type 0} (after : List CoreInstance) (part : List CoreInstance → Option A) (whole : List CoreInstance → Option B) → NoneOf m part whole
      → AddsNeeded m limit before after part → AddsNeeded m limit before after whole
  adds_for after part whole none adds = adds_by m limit before after whole adds.once (λ i has new. called_of m part whole none limit i (adds.called i has new))

  -- one part after another
  pub adds_then : {A B C : Type 0} (mid after : List CoreInstance) (first : List CoreInstance → Option A) (rest : List CoreInstance → Option B) (whole : List CoreInstance → Option C)
      → NoneOf m first whole → NoneOf m rest whole → AddsNeeded m limit before mid first → AddsNeeded m limit mid after rest → AddsNeeded m limit before after whole
  adds_then mid after first rest whole none none' adds more =
      adds_by m limit before after whole (λ o. more.once (adds.once o)) (λ i has new. by i has new (has_instance i.name i.parametric_args mid) refl)
    where
      by : (i : Instantiated) → has_instance i.name i.parametric_args after ≡ true → has_instance i.name i.parametric_args before ≡ false
          → (b : Bool) → has_instance i.name i.parametric_args mid ≡ b → IsCalledWithin m whole limit i
      by i has new true h = called_of m first whole none limit i (adds.called i h new)
      by i has new false h = called_of m rest whole none' limit i (more.called i has h)

  -- ---- what comes, with what was added for it

  pub makes_as : {A : Type 0} (f g : List CoreInstance → Option A) (o : Option (A × List CoreInstance)) → ((t : List CoreInstance) → g t ≡ f t) → TableMakes m limit before f o → TableMakes m limit before g o
  makes_as f g None e comes = never_as m limit f g e comes
  makes_as f g (Some (a, after)) e comes =
      (record { grows = comes.0.grows; some = λ t from. e t ∙ comes.0.some t from }, adds_for after f g (λ t is none. e t ∙ none) comes.1)

  pub value_makes : {A B : Type 0} (after : List CoreInstance) (f : List CoreInstance → Option A) (g : A → Option B) (a : A) (b : B) → TableMakes m limit before f (Some (a, after)) → g a ≡ Some b
      → TableMakes m limit before (λ t. and_then (f t) g) (Some (b, after))
  value_makes after f g a b comes e = (
    record { grows = comes.0.grows; some = λ t from. ap (λ o. and_then o g) (comes.0.some t from) ∙ e },
    adds_for after f (λ t. and_then (f t) g) (λ t is none. ap (λ o. and_then o g) none) comes.1,
  )
