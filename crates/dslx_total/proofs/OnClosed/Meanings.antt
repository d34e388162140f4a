-- What the global environment of a text without faults has of its items is what they denote, but for calls of functions.
use Rattle.std.proofs.Common.{◌≡◌, ℕ, true, false, List, length, Option, Some, None, refl, sym, ap, ◌∙◌}
use Rattle.dslx_tree.specs.declared.item.Definition.{Definition}
use Rattle.dslx_tree.specs.declared.item.Definition.TheVariants as d
use Rattle.dslx_tree.specs.declared.item.Module.{Module}
use Rattle.dslx_meaning.specs.Environment.{Meanings}
use Rattle.dslx_meaning.specs.Items.{item_named, meanings_of}
use Rattle.dslx_meaning.specs.Rules.Mentions.{AsEnum, AsPattern, AsStruct, AsType, AsValue, is_of_use}
use Rattle.dslx_meaning.specs.Rules.ModuleRules.{globals_of}
use Rattle.dslx_core.proofs.Lemmas.Typing.Denotation.{OfKinds, known_kinds, of_kinds, one_meaning}
use Rattle.dslx_core.specs.Typing.Laws.Agreement.{ItemMeansOne}
use Rattle.dslx_total.specs.Instances.Checked.{is_checked_as, is_checked_item}

module _ (m : Module) (top : Option (List ℕ)) (means : (name : List ℕ) (x : Definition) → item_named name m.items ≡ Some x → is_checked_item m top name ≡ true → ItemMeansOne (globals_of m).items (meanings_of m) name) where
  abbrev known : Meanings
  known = (globals_of m).items

  abbrev denoted : Meanings
  denoted = meanings_of m

  abbrev with_calls : Meanings
  with_calls = record known { call = denoted.call }

  kinds : OfKinds m known
  kinds = known_kinds m

  own_kinds : OfKinds m denoted
  own_kinds = of_kinds m (length m.items)

  -- an item of which both have one thing
  of_item : (name : List ℕ) → ItemMeansOne known denoted name → ItemMeansOne denoted with_calls name
  of_item name h = record { types = sym h.types; structs = sym h.structs; kind = sym h.kind; constants = sym h.constants; members = λ a. sym (h.members a); calls = λ ns vs. refl }

  -- a name that is a function's, a proc's or no item's has nothing but calls in both
  of_no_item : (name : List ℕ) (o : Option Definition) → item_named name m.items ≡ o → is_of_use AsType o ≡ false → is_of_use AsStruct o ≡ false → is_of_use AsPattern o ≡ false → is_of_use AsValue o ≡ false → is_of_use AsEnum o ≡ false
      → ItemMeansOne denoted with_calls name
  of_no_item name o e t s p v n = record {
    types = own_kinds.types name (ap (is_of_use AsType) e ∙ t) ∙ sym (kinds.types name (ap (is_of_use AsType) e ∙ t));
    structs = own_kinds.structs name (ap (is_of_use AsStruct) e ∙ s) ∙ sym (kinds.structs name (ap (is_of_use AsStruct) e ∙ s));
    kind = own_kinds.kind name (ap (is_of_use AsPattern) e ∙ p) ∙ sym (kinds.kind name (ap (is_of_use AsPattern) e ∙ p));
    constants = own_kinds.constants name (ap (is_of_use AsValue) e ∙ v) ∙ sym (kinds.constants name (ap (is_of_use AsValue) e ∙ v));
    members = λ a. own_kinds.members name (ap (is_of_use AsEnum) e ∙ n) a ∙ sym (kinds.members name (ap (is_of_use AsEnum) e ∙ n) a);
    calls = λ ns vs. refl;
  }

  checked : (name : List ℕ) (x : Definition) → item_named name m.items ≡ Some x → is_checked_as m top name (Some x) ≡ true → ItemMeansOne denoted with_calls name
  checked name x e p = of_item name (means name x e ((λ t. is_checked_as m top name (e t)) ∙ p))

  by_item : (name : List ℕ) (o : Option Definition) → item_named name m.items ≡ o → ItemMeansOne denoted with_calls name
  by_item name (Some (d.Function f)) e = of_no_item name (Some (d.Function f)) e refl refl refl refl refl
  by_item name (Some (d.Proc p)) e = of_no_item name (Some (d.Proc p)) e refl refl refl refl refl
  by_item name (Some (d.Constant x)) e = checked name (d.Constant x) e refl
  by_item name (Some (d.Alias x)) e = checked name (d.Alias x) e refl
  by_item name (Some (d.Struct x)) e = checked name (d.Struct x) e refl
  by_item name (Some (d.Enum x)) e = checked name (d.Enum x) e refl
  by_item name None e = of_no_item name None e refl refl refl refl refl

  pub but_for_calls : denoted ≡ with_calls
  but_for_calls = one_meaning denoted with_calls (λ name. by_item name (item_named name m.items) refl)
