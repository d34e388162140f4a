-- Which names are constants', in a text.
use Rattle.std.proofs.Common.{◌≡◌, ◌∙◌, ℕ, true, false, List, [], ◌∷◌, Option, Some, None, refl, ap, is_some}
use Rattle.dslx_tree.specs.declared.item.Module.{Module}
use Rattle.dslx_tree.specs.declared.item.Item.{Item}
use Rattle.dslx_tree.specs.declared.item.Constant.{Constant}
use Rattle.dslx_tree.specs.declared.item.Definition.{Definition}
use Rattle.dslx_tree.specs.declared.item.Definition.TheVariants as d
use Rattle.dslx_meaning.specs.Items.{as_constant, is_constant_item, item_named, meanings_of}

by_item : (o : Option Definition) → is_some (as_constant o) ≡ is_constant_item o
by_item None = refl
by_item (Some (d.Function f)) = refl
by_item (Some (d.Proc p)) = refl
by_item (Some (d.Constant c)) = refl
by_item (Some (d.Alias a)) = refl
by_item (Some (d.Struct s)) = refl
by_item (Some (d.Enum e)) = refl

of_items : (items : List Item) (name : List ℕ) → is_constant_item (item_named name items) ≡ (meanings_of (record { items = items })).is_constant name
of_items [] name = refl
of_items (i ∷ is) name = refl

of_text : (m : Module) (name : List ℕ) → is_some (as_constant (item_named name m.items)) ≡ (meanings_of m).is_constant name
of_text m name = by_item (item_named name m.items) ∙ of_items m.items name

pub is_constants : (m : Module) (name : List ℕ) (c : Constant) → Some c ≡ as_constant (item_named name m.items) → true ≡ (meanings_of m).is_constant name
is_constants m name c found = ap is_some found ∙ of_text m name

pub is_no_constants : (m : Module) (name : List ℕ) → None ≡ as_constant (item_named name m.items) → false ≡ (meanings_of m).is_constant name
is_no_constants m name none = ap is_some none ∙ of_text m name
