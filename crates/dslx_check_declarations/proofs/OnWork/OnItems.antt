-- An item that is judged by a settled global environment is what that has of it.
use Rattle.std.proofs.Common.{◌≡◌, ◌∙◌, ℕ, List, Option, Some, None, refl, sym, ap, subst}
use Rattle.std.proofs.lemmas.Option.{none-some, same_Some}
use Rattle.std.specs.Option.{option_map}
use Rattle.dslx_tree.specs.declared.item.Definition.{Definition}
use Rattle.dslx_tree.specs.declared.item.Definition.TheVariants as d
use Rattle.dslx_tree.specs.declared.item.Enum.{Enum}
use Rattle.dslx_tree.specs.declared.item.Struct.{Struct}
use Rattle.dslx_meaning.specs.Items.{as_constant, as_enum, as_struct, item_named, name_of_definition}
use Rattle.dslx_meaning.specs.Lists.{and_then}
use Rattle.dslx_meaning.specs.Values.{type_of_value}
use Rattle.dslx_meaning.specs.declared.ty.DslxType.{DslxType}
use Rattle.dslx_meaning.specs.Rules.TypeEnvs.{GlobalEnv}
use Rattle.dslx_check_rules.specs.Interned.{HasRowIf, type_if}
use Rattle.dslx_check_facts.specs.declared.facts.Facts.{Facts}
use Rattle.dslx_check_facts.specs.Known.{at_place, item_at, item_names, member_number, names_type, text_of}
use Rattle.dslx_check_facts.specs.Walks.{WalkShown}
use Rattle.dslx_check_declarations.specs.declared.items.ItemSeen.{ItemSeen}
use Rattle.dslx_check_declarations.specs.Work.Learnt.{IsJudgedItem}
use Rattle.dslx_check_declarations.specs.Work.Text.{IsTextEnv}
use Rattle.dslx_check_declarations.specs.Work.Comes.{ComesToType, ItemComesTo}
use Rattle.dslx_check_declarations.specs.Work.Settled.{ItemsSettle}
use Rattle.dslx_check_declarations.proofs.OnWork.OnFirsts.{first_named, name_is}

module _ (f : Facts) (walk : WalkShown) (known : GlobalEnv) (item : ℕ) (seen : ItemSeen) (t : IsTextEnv (text_of f) f.reaching known) where
  -- the item by its name
  named : (x : Definition) → item_at f item ≡ Some x → item_named (name_of_definition x) known.whole.items ≡ Some x
  named x e = ap (λ m. item_named (name_of_definition x) m.items) t.whole ∙ first_named (text_of f) t.distinct item x e

  called : (x : Definition) → item_at f item ≡ Some x → name_of_definition x ≡ (item_names f).item item
  called x e = sym (name_is (text_of f) item x e)

  no_constant : (x : Definition) → item_at f item ≡ Some x → as_constant (Some x) ≡ None → known.items.constant (name_of_definition x) ≡ None
  no_constant x e kind = t.not_constant (name_of_definition x) (ap as_constant (named x e) ∙ kind)

  no_struct : (x : Definition) → item_at f item ≡ Some x → as_struct (Some x) ≡ None → (s : Struct) → as_struct (item_at f item) ≡ Some s → ⊥
  no_struct x e kind s q = none-some s (sym kind ∙ ap as_struct (sym e) ∙ q)

  no_enum : (x : Definition) → item_at f item ≡ Some x → as_enum (Some x) ≡ None → (c : Enum) → as_enum (item_at f item) ≡ Some c → ⊥
  no_enum x e kind c q = none-some c (sym kind ∙ ap as_enum (sym e) ∙ q)

  -- a type without members
  of_type : (x : Definition) (ty : Option DslxType) → item_at f item ≡ Some x → as_constant (Some x) ≡ None → ComesToType f walk seen ty → known.items.type_named (name_of_definition x) ≡ ty
      → ((s : Struct) → as_struct (item_at f item) ≡ Some s → known.items.struct_named (name_of_definition x) ≡ ty)
      → ((c : Enum) (name : List ℕ) → as_enum (item_at f item) ≡ Some c → and_then (member_number name c.members) (λ k. at_place seen.members.items k) ≡ known.items.member (name_of_definition x) name)
      → IsJudgedItem f walk known item seen
  of_type x ty e kind comes is fields members = record {
    named = λ later tables. comes.named later tables ∙ sym is ∙ ap known.items.type_named (called x e);
    structure = λ later s tables q. comes.named later tables ∙ sym (fields s q) ∙ ap known.items.struct_named (called x e);
    constant = comes.no_value ∙ sym (no_constant x e kind) ∙ ap known.items.constant (called x e);
    constant_type = λ later tables. ap (type_if (item_names f) later.rows) comes.no_value_type ∙ ap (option_map type_of_value) (sym (no_constant x e kind) ∙ ap known.items.constant (called x e));
    member = λ c name q. members c name q ∙ ap (λ n. known.items.member n name) (called x e);
    named_row = comes.row;
    value_row = subst (HasRowIf walk.rows) (sym comes.no_value_type) tt;
  }

  pub item_judged : ItemsSettle (text_of f) known → (x : Definition) → item_at f item ≡ Some x → ItemComesTo f walk known x seen → IsJudgedItem f walk known item seen
  item_judged settle (d.Alias a) e comes =
      of_type (d.Alias a) _ e refl comes (settle.alias item a e) (λ s q. absurd (no_struct (d.Alias a) e refl s q)) (λ c name q. absurd (no_enum (d.Alias a) e refl c q))
  item_judged settle (d.Struct s) e comes =
      of_type (d.Struct s) _ e refl comes (settle.structure item s e) (λ other q. settle.fields item s e) (λ c name q. absurd (no_enum (d.Struct s) e refl c q))
  item_judged settle (d.Enum c) e comes =
      of_type (d.Enum c) _ e refl comes.0 (settle.choice item c e) (λ s q. absurd (no_struct (d.Enum c) e refl s q))
      (λ other name q. subst (λ (o : Enum). and_then (member_number name o.members) (λ k. at_place seen.members.items k) ≡ known.items.member c.name.name name) (same_Some c other (ap as_enum (sym e) ∙ q)) (comes.1 name ∙ sym (settle.member item c name e)))
  item_judged settle (d.Function g) e comes =
      of_type (d.Function g) None e refl comes (t.not_type g.name.name (ap names_type (named (d.Function g) e))) (λ s q. absurd (no_struct (d.Function g) e refl s q)) (λ c name q. absurd (no_enum (d.Function g) e refl c q))
  item_judged settle (d.Proc p) e comes =
      of_type (d.Proc p) None e refl comes (t.not_type p.name.name (ap names_type (named (d.Proc p) e))) (λ s q. absurd (no_struct (d.Proc p) e refl s q)) (λ c name q. absurd (no_enum (d.Proc p) e refl c q))
  item_judged settle (d.Constant c) e comes = record {
    named = λ later tables. ap (type_if (item_names f) later.rows) comes.no_type ∙ sym (t.not_type c.name.name (ap names_type (named (d.Constant c) e))) ∙ ap known.items.type_named (called (d.Constant c) e);
    structure = λ later s tables q. absurd (no_struct (d.Constant c) e refl s q);
    constant = comes.is ∙ sym (settle.constant item c e) ∙ ap known.items.constant (called (d.Constant c) e);
    constant_type = λ later tables. comes.type later tables ∙ ap (option_map type_of_value) (sym (settle.constant item c e) ∙ ap known.items.constant (called (d.Constant c) e));
    member = λ x name q. absurd (no_enum (d.Constant c) e refl x q);
    named_row = subst (HasRowIf walk.rows) (sym comes.no_type) tt;
    value_row = comes.row;
  }
