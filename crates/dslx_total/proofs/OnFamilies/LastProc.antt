-- The last proc of a text in which no name stands twice is found by its name.
use Rattle.std.proofs.Common.{◌≡◌, ◌⊎◌, inl, inr, ◌||◌, ℕ, Bool, true, false, if◌then◌else◌, List, [], ◌∷◌, Option, Some, refl, sym, ap, ◌∙◌}
use mathlib.Core.Bool.{true≢false}
use Rattle.std.specs.Str.{bytes_eq}
use Rattle.std.proofs.lemmas.Slice.Eq.{bytes_eq-Decides}
use Rattle.dslx_tree.specs.declared.item.Definition.{Definition}
use Rattle.dslx_tree.specs.declared.item.Definition.TheVariants as d
use Rattle.dslx_tree.specs.declared.item.Item.{Item}
use Rattle.dslx_tree.specs.declared.process.Proc.{Proc}
use Rattle.dslx_meaning.specs.Callees.{is_own_name}
use Rattle.dslx_meaning.specs.Items.{item_named, name_of_definition}
use Rattle.dslx_meaning.specs.Lists.{is_in}
use Rattle.dslx_meaning.specs.Network.{last_proc_of}
use Rattle.dslx_meaning.specs.Rules.ModuleRules.{ident_of, item_names}
use Rattle.dslx_meaning.specs.Rules.NameRules.{listed_name}
use Rattle.dslx_core.proofs.Lemmas.Typing.Sound.{none_in, not_broken}
use Rattle.dslx_core.proofs.Lemmas.Typing.Typed.{or_false, same_some}

pub names_agree : (x : Definition) → (ident_of x).name ≡ name_of_definition x
names_agree (d.Function f) = refl
names_agree (d.Proc p) = refl
names_agree (d.Constant c) = refl
names_agree (d.Alias a) = refl
names_agree (d.Struct s) = refl
names_agree (d.Enum e) = refl

abbrev after : Option Proc → Definition → Option Proc
after found (d.Proc p) = Some p
after found _ = found

-- it is the one before, or one of these, found by its name, which none before has
abbrev IsFirstNamed : List (List ℕ) → List Item → Option Proc → Proc → Type 0
IsFirstNamed before is found p = (found ≡ Some p) ⊎ ((item_named p.name.name is ≡ Some (d.Proc p)) × (is_in p.name.name before ≡ false))

pub last_named : (before : List (List ℕ)) (is : List Item) (found : Option Proc) (p : Proc) → item_names before is ≡ [] → last_proc_of is found ≡ Some p → IsFirstNamed before is found p
last_named before [] found p f e = inl e
last_named before (i ∷ is) found p f e =
    let own = ident_of i.definition in
    let both = none_in (listed_name before own) (item_names (own.name ∷ before) is) f in
    let twice = (or_false (is_own_name own.name) (is_in own.name before) (not_broken (is_own_name own.name || is_in own.name before) 2 own.span both.0)).1 in
    elim (last_named (own.name ∷ before) is (after found i.definition) p both.1 e) [
      | inl q ↦ by_definition i.definition refl q twice
      | inr q ↦ inr (later (bytes_eq p.name.name own.name) refl q.0 q.1)
    ]
  where
    first_named : (q : Proc) → i.definition ≡ d.Proc q → q ≡ p → item_named p.name.name (i ∷ is) ≡ Some (d.Proc p)
    first_named q is_proc same =
        let named : name_of_definition i.definition ≡ p.name.name = ap name_of_definition is_proc ∙ ap (λ (r : Proc). r.name.name) same in
        ap (λ b. if b then Some i.definition else item_named p.name.name is) ((bytes_eq-Decides p.name.name (name_of_definition i.definition)).1 (sym named)) ∙ ap Some (is_proc ∙ ap d.Proc same)

    by_definition : (x : Definition) → i.definition ≡ x → after found x ≡ Some p → is_in (ident_of i.definition).name before ≡ false → IsFirstNamed before (i ∷ is) found p
    by_definition (d.Proc q) e r twice =
        let same = same_some q p r in
        let name : (ident_of i.definition).name ≡ p.name.name = ap (λ (x : Definition). (ident_of x).name) e ∙ ap (λ (r : Proc). r.name.name) same in
        inr (first_named q e same, (λ t. is_in (sym name t) before) ∙ twice)
    by_definition (d.Function g) e r twice = inl r
    by_definition (d.Constant c) e r twice = inl r
    by_definition (d.Alias a) e r twice = inl r
    by_definition (d.Struct x) e r twice = inl r
    by_definition (d.Enum x) e r twice = inl r

    later : (b : Bool) → bytes_eq p.name.name (ident_of i.definition).name ≡ b → item_named p.name.name is ≡ Some (d.Proc p) → (if b then true else is_in p.name.name before) ≡ false
        → (item_named p.name.name (i ∷ is) ≡ Some (d.Proc p)) × (is_in p.name.name before ≡ false)
    later true q named fresh = absurd (true≢false fresh)
    later false q named fresh = (ap (λ b. if b then Some i.definition else item_named p.name.name is) ((λ t. bytes_eq p.name.name (sym (names_agree i.definition) t)) ∙ q) ∙ named, fresh)
