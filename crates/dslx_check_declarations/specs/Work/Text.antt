-- What the global environment of a text has, whatever of it is known so far.
use Rattle.std.specs.Prelude.{ℕ, List, [], ◌≡◌, ◌==◌, ◌||◌, Bool, true, false, None, length, slice_get}
use Rattle.std.specs.List.{list_all}
use Rattle.dslx_tree.specs.declared.expr.Expr.{Expr}
use Rattle.dslx_tree.specs.declared.item.Module.{Module}
use Rattle.dslx_meaning.specs.Environment.{Given}
use Rattle.dslx_meaning.specs.Items.{item_named, as_constant, as_struct, as_enum, is_constant_item}
use Rattle.dslx_meaning.specs.Meaning.{value_of}
use Rattle.dslx_meaning.specs.Rules.Mentions.{item_reaches, mentioned, names_mentioned}
use Rattle.dslx_meaning.specs.Rules.Namesakes.{told_apart}
use Rattle.dslx_meaning.specs.Rules.TypeEnvs.{GlobalEnv}
use Rattle.dslx_meaning.specs.Names.ConstMachine.Kept.{KeptValues, kept_within}
use Rattle.dslx_check_items.specs.Reaching.{item_needs}
use Rattle.dslx_check_items.specs.declared.reaching.Reaching.{Reaching}
use Rattle.dslx_check_rules.specs.Interned.{AreDistinct}
use Rattle.dslx_check_facts.specs.Kept.{AreKeptAlike}
use Rattle.dslx_check_facts.specs.Known.{is_so, names_type, same_group}
use Rattle.dslx_check_facts.specs.Names.{HasNoMarks, MentionNoMark, names_of}

-- whether an item reaches itself, and whether of two each reaches the other or they are one
abbrev pub loops_by : Reaching → ℕ → Bool
loops_by reaching i = is_so (slice_get reaching.loops.items i)

abbrev pub are_cyclic_by : Reaching → ℕ → ℕ → Bool
are_cyclic_by reaching i j = i == j || same_group (slice_get reaching.groups.items i) (slice_get reaching.groups.items j)

-- the name of an item, where those of one name are told apart
abbrev pub name_in : Module → ℕ → List ℕ
name_in text i = (names_of text).item i

-- it has of each name only what the text's item of that name is: the type that a type names, the value of a constant, the members of an enum
pub record HasItemsByKind (text : Module) (known : GlobalEnv) : Type 0 where
  pub whole : known.whole ≡ text
  pub is_constant : (name : List ℕ) → known.items.is_constant name ≡ is_constant_item (item_named name known.whole.items)
  pub not_type : (name : List ℕ) → names_type (item_named name known.whole.items) ≡ false → known.items.type_named name ≡ None
  pub not_struct : (name : List ℕ) → as_struct (item_named name known.whole.items) ≡ None → known.items.struct_named name ≡ None
  pub not_constant : (name : List ℕ) → as_constant (item_named name known.whole.items) ≡ None → known.items.constant name ≡ None
  pub not_enum : (name member : List ℕ) → as_enum (item_named name known.whole.items) ≡ None → known.items.member name member ≡ None

-- it is of the text, in which items of one name are told apart, and no name has a mark. It has nothing of items of another kind, and nothing of
-- items that reach themselves; and what mentions only items of which all is kept has its value by what is kept
pub record IsTextEnv (text : Module) (reaching : Reaching) (known : GlobalEnv) : Type 0 where
  pub whole : known.whole ≡ told_apart text
  pub distinct : AreDistinct (names_of text)
  pub needs : reaching.needs.items ≡ item_needs text
  pub is_constant : (name : List ℕ) → known.items.is_constant name ≡ is_constant_item (item_named name known.whole.items)
  pub cyclic : (i j : ℕ) → known.is_cyclic (name_in text i) (name_in text j) ≡ are_cyclic_by reaching i j
  pub not_type : (name : List ℕ) → names_type (item_named name known.whole.items) ≡ false → known.items.type_named name ≡ None
  pub not_struct : (name : List ℕ) → as_struct (item_named name known.whole.items) ≡ None → known.items.struct_named name ≡ None
  pub not_constant : (name : List ℕ) → as_constant (item_named name known.whole.items) ≡ None → known.items.constant name ≡ None
  pub not_enum : (name member : List ℕ) → as_enum (item_named name known.whole.items) ≡ None → known.items.member name member ≡ None
  pub no_type : (i : ℕ) → loops_by reaching i ≡ true → known.items.type_named (name_in text i) ≡ None
  pub no_struct : (i : ℕ) → loops_by reaching i ≡ true → known.items.struct_named (name_in text i) ≡ None
  pub no_constant : (i : ℕ) → loops_by reaching i ≡ true → known.items.constant (name_in text i) ≡ None
  pub no_member : (i : ℕ) (name : List ℕ) → loops_by reaching i ≡ true → known.items.member (name_in text i) name ≡ None
  pub plain : HasNoMarks text
  pub reaches : (i : ℕ) → loops_by reaching i ≡ true → item_reaches known.whole (name_in text i) (name_in text i) ≡ true
  pub free : (i : ℕ) → loops_by reaching i ≡ false → item_reaches known.whole (name_in text i) (name_in text i) ≡ false
  pub values : (kept : KeptValues) (P : List ℕ → Bool) (bound : List Given) (e : Expr) → AreKeptAlike known kept P → list_all P (names_mentioned known.whole (mentioned e [])) ≡ true → MentionNoMark (mentioned e [])
      → value_of e (record { items = kept_within kept text (length text.items); bound = bound }) ≡ value_of e (record { items = known.items; bound = bound })
