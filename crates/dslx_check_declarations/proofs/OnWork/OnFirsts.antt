-- Where no two items have one name, the item of a number is the first of its name.
use Rattle.std.proofs.Common.{◌≡◌, ◌∙◌, ℕ, zero, suc, Bool, true, false, List, [], ◌∷◌, Some, refl, sym, ap, arith, if◌then◌else◌}
use Rattle.std.specs.Str.{bytes_eq}
use Rattle.std.proofs.lemmas.Option.{none-some, same_Some}
use Rattle.std.proofs.lemmas.Slice.Eq.{bytes_eq-Decides}
use Rattle.dslx_tree.specs.declared.item.Definition.{Definition}
use Rattle.dslx_tree.specs.declared.item.Item.{Item}
use Rattle.dslx_tree.specs.declared.item.Module.{Module}
use Rattle.dslx_meaning.specs.Items.{item_named, name_of_definition}
use Rattle.dslx_meaning.specs.Rules.Namesakes.{told_apart}
use Rattle.dslx_check_rules.specs.Interned.{AreDistinct}
use Rattle.dslx_check_facts.specs.Names.{definition_at, name_or, names_of}
use Rattle.dslx_check_declarations.specs.Work.Settled.{told_item}

-- no two items of the list have one name
abbrev OneEach : List Item → Type 0
OneEach is = (i j : ℕ) (x y : Definition) → definition_at is i ≡ Some x → definition_at is j ≡ Some y → name_of_definition x ≡ name_of_definition y → i ≡ j

first_of_name : (is : List Item) → OneEach is → (i : ℕ) (x : Definition) → definition_at is i ≡ Some x → item_named (name_of_definition x) is ≡ Some x
first_of_name [] one i x e = absurd (none-some x e)
first_of_name (y ∷ ys) one zero x e =
    let same : y.definition ≡ x = same_Some y.definition x e in
    ap (λ b. if b then Some y.definition else item_named (name_of_definition x) ys) ((bytes_eq-Decides (name_of_definition x) (name_of_definition y.definition)).1 (ap name_of_definition (sym same))) ∙ ap Some same
first_of_name (y ∷ ys) one (suc i) x e =
    by (bytes_eq (name_of_definition x) (name_of_definition y.definition)) refl (first_of_name ys (λ k j u v a b same. less (one (suc k) (suc j) u v a b same)) i x e)
  where
    less : {k j : ℕ} → suc k ≡ suc j → k ≡ j
    less {k} {j} h = omega (arith, h)

    never : suc i ≡ zero → ⊥
    never h = omega (arith, h)

    by : (b : Bool) → bytes_eq (name_of_definition x) (name_of_definition y.definition) ≡ b → item_named (name_of_definition x) ys ≡ Some x → (if b then Some y.definition else item_named (name_of_definition x) ys) ≡ Some x
    by true q rest = absurd (never (one (suc i) zero x y.definition e refl ((bytes_eq-Decides (name_of_definition x) (name_of_definition y.definition)).0 q)))
    by false q rest = rest

-- the name of an item
pub name_is : (text : Module) (i : ℕ) (x : Definition) → told_item text i ≡ Some x → (names_of text).item i ≡ name_of_definition x
name_is text i x e = ap (name_or i) e

pub first_named : (text : Module) → AreDistinct (names_of text) → (i : ℕ) (x : Definition) → told_item text i ≡ Some x → item_named (name_of_definition x) (told_apart text).items ≡ Some x
first_named text distinct i x e = first_of_name (told_apart text).items (λ k j u v a b same. distinct k j (name_is text k u a ∙ same ∙ sym (name_is text j v b))) i x e
