-- Items by their numbers, where each is the first one of its name.
use Rattle.std.proofs.Common.{◌≡◌, ◌∙◌, ℕ, false, List, Option, Some, None, map, refl, sym, ap, subst}
use Rattle.std.proofs.lemmas.Option.{none-some}
use Rattle.dslx_tree.specs.declared.item.Definition.{Definition}
use Rattle.dslx_tree.specs.declared.item.Definition.TheVariants as d
use Rattle.dslx_tree.specs.declared.item.Struct.{Struct}
use Rattle.dslx_meaning.specs.Items.{as_constant, as_struct, is_constant_item, name_of_field}
use Rattle.dslx_check_facts.specs.Firsts.{IsMeant}
use Rattle.dslx_check_facts.specs.Known.{item_names}
use Rattle.dslx_check_facts.specs.Names.{field_names}
use Rattle.dslx_check_facts.specs.declared.facts.Facts.{Facts}

pub first_meant : (f : Facts) (item first : ℕ) (name : List ℕ) (x : Definition) → first ≡ item → IsMeant f name first x → IsMeant f ((item_names f).item item) item x
first_meant f item first name x e meant = subst (λ (i : ℕ). IsMeant f ((item_names f).item i) i x) e (subst (λ (n : List ℕ). IsMeant f n first x) (sym meant.called) meant)

pub first_called : (f : Facts) (item first : ℕ) (name : List ℕ) (x : Definition) → first ≡ item → IsMeant f name first x → name ≡ (item_names f).item item
first_called f item first name x e meant = sym meant.called ∙ ap (item_names f).item e

pub first_fields : (f : Facts) (item first : ℕ) (name : List ℕ) (s : Struct) → first ≡ item → IsMeant f name first (d.Struct s) → map name_of_field s.fields ≡ (item_names f).fields item
first_fields f item first name s e meant = sym (ap (λ o. field_names (as_struct o)) meant.at) ∙ ap (item_names f).fields e

-- an item that is no constant isn't declared as one
pub not_constant : (o : Option Definition) → as_constant o ≡ None → is_constant_item o ≡ false
not_constant None e = refl
not_constant (Some (d.Function x)) e = refl
not_constant (Some (d.Proc x)) e = refl
not_constant (Some (d.Constant x)) e = absurd (none-some x (sym e))
not_constant (Some (d.Alias x)) e = refl
not_constant (Some (d.Struct x)) e = refl
not_constant (Some (d.Enum x)) e = refl
