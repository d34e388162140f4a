-- What is known of a text, and which global environment says the same.
use Rattle.std.specs.Prelude.{ℕ, List, [], ◌∷◌, ◌≡◌, ◌+◌, ◌==◌, ◌||◌, Bool, true, false, Option, Some, None, length, slice_get, if◌then◌else◌}
use Rattle.std.specs.List.{list_all}
use Rattle.std.specs.Option.{option_map}
use Rattle.std.specs.Str.{bytes_eq}
use Rattle.dslx_tree.specs.declared.item.Definition.{Definition}
use Rattle.dslx_tree.specs.declared.item.Definition.TheVariants as d
use Rattle.dslx_tree.specs.declared.item.Enum.{Enum}
use Rattle.dslx_tree.specs.declared.item.Member.{Member}
use Rattle.dslx_tree.specs.declared.item.Module.{Module}
use Rattle.dslx_tree.specs.declared.item.Struct.{Struct}
use Rattle.dslx_meaning.specs.Lists.{and_then}
use Rattle.dslx_tree.specs.declared.expr.Expr.{Expr}
use Rattle.dslx_meaning.specs.Values.{type_of_value}
use Rattle.dslx_meaning.specs.Meaning.{value_of}
use Rattle.dslx_meaning.specs.Items.{item_named, as_constant, as_struct, as_enum, is_constant_item}
use Rattle.dslx_meaning.specs.Environment.{Given}
use Rattle.dslx_meaning.specs.declared.value.DslxValue.{DslxValue}
use Rattle.dslx_meaning.specs.Rules.TypeEnvs.{GlobalEnv, Instance}
use Rattle.dslx_meaning.specs.Rules.Mentions.{mentioned, names_mentioned}
use Rattle.dslx_meaning.specs.Rules.Namesakes.{told_apart}
use Rattle.dslx_meaning.specs.Names.ConstMachine.Kept.{KeptValues, kept_within}
use Rattle.dslx_const_tasks.specs.Values.{values_kept}
use Rattle.dslx_const_tasks.specs.declared.kept.Kept.{Kept}
use Rattle.dslx_check_items.specs.Items.{item_number}
use Rattle.dslx_check_items.specs.Reaching.{item_needs}
use Rattle.dslx_check_rules.specs.declared.table.row.TypeId.{TypeId}
use Rattle.dslx_check_rules.specs.declared.table.row.TypeRow.{TypeRow}
use Rattle.dslx_check_rules.specs.Seen.{capped}
use Rattle.dslx_check_rules.specs.Interned.{ItemNames, AreDistinct, HasRowIf, type_if}
use Rattle.dslx_check_facts.specs.declared.asked.ForeignKey.{ForeignKey}
use Rattle.dslx_check_facts.specs.declared.facts.Facts.{Facts}
use Rattle.dslx_check_facts.specs.declared.facts.ForeignSeen.{ForeignSeen}
use Rattle.dslx_check_facts.specs.declared.facts.Sums.{Sums}
use Rattle.dslx_check_facts.specs.Kept.{AreKeptAlike}
use Rattle.dslx_check_facts.specs.Names.{MentionNoMark, definition_at, names_of}
use Rattle.dslx_check_facts.specs.Typings.{IsForeign, HasForeignRows}
use Rattle.dslx_check_facts.specs.Walks.{WalkShown, instance_at}

-- ---- what is there

-- what stands at a place, if there is such a place and something stands there
abbrev pub at_place : {A : Type 0} → List (Option A) → ℕ → Option A
at_place places n = and_then (slice_get places n) (λ a. a)

abbrev pub text_of : Facts → Module
text_of f = f.kept.items.text.now

abbrev pub item_names : Facts → ItemNames
item_names f = names_of (text_of f)

-- the item of a number, where items of one name are told apart
abbrev pub item_at : Facts → ℕ → Option Definition
item_at f i = definition_at (told_apart (text_of f)).items i

abbrev pub is_so : Option Bool → Bool
is_so None = false
is_so (Some b) = b

-- whether the item is judged: a type, a constant
abbrev pub is_judged : Facts → ℕ → Bool
is_judged f i = is_so (slice_get f.judged.items i)

-- whether the item reaches itself
abbrev pub loops : Facts → ℕ → Bool
loops f i = is_so (slice_get f.reaching.loops.items i)

-- whether it is noted that the item is judged, and so is all that it mentions, directly or not, but for what reaches itself
abbrev pub is_noted_settled : Facts → ℕ → Bool
is_noted_settled f i = is_so (slice_get f.settled.items i)

-- whether nothing more is to be known of the item, by its number and by a name, which means the first item of it: of what reaches itself nothing is
abbrev pub settled_at : Facts → ℕ → Bool
settled_at f i = loops f i || is_noted_settled f i

abbrev pub is_settled : Facts → List ℕ → Bool
is_settled f name = is_so (option_map (settled_at f) (item_number name (text_of f).items))

abbrev pub same_group : Option ℕ → Option ℕ → Bool
same_group (Some a) (Some b) = a == b
same_group _ _ = false

-- whether the second one is the first or reaches it and is reached by it
abbrev pub is_cyclic : Facts → ℕ → ℕ → Bool
is_cyclic f owner i = owner == i || same_group (slice_get f.reaching.groups.items owner) (slice_get f.reaching.groups.items i)

-- the same by names: the group of the first item of a name
abbrev pub group_named : Facts → List ℕ → Option ℕ
group_named f name = and_then (item_number name (told_apart (text_of f)).items) (λ i. slice_get f.reaching.groups.items i)

abbrev pub is_cyclic_named : Facts → List ℕ → List ℕ → Bool
is_cyclic_named f owner name = bytes_eq owner name || same_group (group_named f owner) (group_named f name)

-- the type that an item names, the value of a constant, and the type of that
abbrev pub named_type_at : Facts → ℕ → Option TypeId
named_type_at f i = at_place f.named_types.items i

abbrev pub value_at : Facts → ℕ → Option DslxValue
value_at f i = at_place f.kept.constants.items i

abbrev pub value_type_at : Facts → ℕ → Option TypeId
value_type_at f i = at_place f.value_types.items i

-- the value of a member of an enum
abbrev pub kept_member : Kept → ℕ → ℕ → Option DslxValue
kept_member kept i k = and_then (slice_get kept.members.items i) (λ ms. at_place ms.items k)

abbrev pub member_at : Facts → ℕ → ℕ → Option DslxValue
member_at f i k = kept_member f.kept i k

-- the number of the first member of a name, where they are numbered from here on
abbrev pub member_from : ℕ → List ℕ → List Member → Option ℕ
member_from k name [] = None
member_from k name (m ∷ ms) = if bytes_eq name m.name.name then Some k else member_from (k + 1) name ms

abbrev pub member_number : List ℕ → List Member → Option ℕ
member_number name members = member_from 0 name members

-- what is known of an instance that is done
abbrev pub done_at : Facts → ℕ → Option Sums
done_at f n = at_place f.done.items n

abbrev pub foreign_at : Facts → ℕ → Option ForeignSeen
foreign_at f n = at_place f.foreign.items n

-- there is something, of which this is so
abbrev pub Has : {A : Type 0} → Option A → (A → Type 0) → Type 0
Has None claim = ⊥
Has (Some a) claim = claim a

-- the item names a type
abbrev pub names_type : Option Definition → Bool
names_type (Some (d.Alias a)) = true
names_type (Some (d.Struct s)) = true
names_type (Some (d.Enum e)) = true
names_type _ = false

-- ---- and is so

pub record IsSum (known : GlobalEnv) (instance : Instance) (sums : Sums) : Type 0 where
  pub sound : sums.sound ≡ known.is_sound instance
  pub unbroken : sums.unbroken ≡ known.is_unbroken instance
  pub size : sums.size ≡ capped (known.body_size instance)

-- the global environment says of the text, where items of one name are told apart, what is known, read by a walk's tables. Of an item that
-- reaches itself it says nothing. What rule 3 asks of items it answers by groups
pub record FactsHold (f : Facts) (later : WalkShown) (known : GlobalEnv) : Type 0 where
  pub whole : known.whole ≡ told_apart (text_of f)
  pub distinct : AreDistinct (item_names f)
  pub needs : f.reaching.needs.items ≡ item_needs (text_of f)
  pub is_constant : (name : List ℕ) → known.items.is_constant name ≡ is_constant_item (item_named name known.whole.items)
  pub cyclic : (i j : ℕ) → known.is_cyclic ((item_names f).item i) ((item_names f).item j) ≡ is_cyclic f i j
  -- of names of other items
  pub not_type : (name : List ℕ) → names_type (item_named name known.whole.items) ≡ false → known.items.type_named name ≡ None
  pub not_struct : (name : List ℕ) → as_struct (item_named name known.whole.items) ≡ None → known.items.struct_named name ≡ None
  pub not_constant : (name : List ℕ) → as_constant (item_named name known.whole.items) ≡ None → known.items.constant name ≡ None
  pub not_enum : (name member : List ℕ) → as_enum (item_named name known.whole.items) ≡ None → known.items.member name member ≡ None
  -- of items that are judged
  pub type_named : (i : ℕ) → is_judged f i ≡ true → type_if (item_names f) later.rows (named_type_at f i) ≡ known.items.type_named ((item_names f).item i)
  pub struct_named : (i : ℕ) (s : Struct) → is_judged f i ≡ true → as_struct (item_at f i) ≡ Some s
      → type_if (item_names f) later.rows (named_type_at f i) ≡ known.items.struct_named ((item_names f).item i)
  pub constant : (i : ℕ) → is_judged f i ≡ true → value_at f i ≡ known.items.constant ((item_names f).item i)
  pub constant_type : (i : ℕ) → is_judged f i ≡ true
      → type_if (item_names f) later.rows (value_type_at f i) ≡ option_map type_of_value (known.items.constant ((item_names f).item i))
  pub member : (i : ℕ) (e : Enum) (name : List ℕ) → is_judged f i ≡ true → as_enum (item_at f i) ≡ Some e
      → and_then (member_number name e.members) (member_at f i) ≡ known.items.member ((item_names f).item i) name
  -- of items that reach themselves
  pub no_type : (i : ℕ) → loops f i ≡ true → known.items.type_named ((item_names f).item i) ≡ None
  pub no_struct : (i : ℕ) → loops f i ≡ true → known.items.struct_named ((item_names f).item i) ≡ None
  pub no_constant : (i : ℕ) → loops f i ≡ true → known.items.constant ((item_names f).item i) ≡ None
  pub no_member : (i : ℕ) (name : List ℕ) → loops f i ≡ true → known.items.member ((item_names f).item i) name ≡ None
  -- of instances that are done, and of parts of other declarations
  pub done : (n : ℕ) (sums : Sums) → done_at f n ≡ Some sums → IsSum known (instance_at (item_names f) later.met n) sums
  pub foreign : (n : ℕ) (k : ForeignKey) (there : ForeignSeen) → slice_get later.asked n ≡ Some k → foreign_at f n ≡ Some there
      → IsForeign (item_names f) known later k there
  -- of items of which nothing more is to be known, nor of what they mention: what mentions such items alone has by what is kept the value that it has
  -- by what is known
  pub kept : AreKeptAlike known (values_kept f.kept) (is_settled f)
  pub values : (kept : KeptValues) (P : List ℕ → Bool) (bound : List Given) (e : Expr) → AreKeptAlike known kept P → list_all P (names_mentioned known.whole (mentioned e [])) ≡ true → MentionNoMark (mentioned e [])
      → value_of e (record { items = kept_within kept (text_of f) (length (text_of f).items); bound = bound }) ≡ value_of e (record { items = known.items; bound = bound })

-- each type that is known has a row
pub record HasKnownRows (rows : List TypeRow) (f : Facts) : Type 0 where
  pub named : (i : ℕ) → HasRowIf rows (named_type_at f i)
  pub values : (i : ℕ) → HasRowIf rows (value_type_at f i)
  pub foreign : (n : ℕ) (there : ForeignSeen) → foreign_at f n ≡ Some there → HasForeignRows rows there
