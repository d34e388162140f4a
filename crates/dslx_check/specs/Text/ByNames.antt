-- What a global environment of a text says of names of items, and of which items reach which.
use Rattle.std.specs.Prelude.{ℕ, List, ◌≡◌, ◌↔◌, true, false, None}
use Rattle.base.specs.TopoOrder.Needs.{Reaches}
use Rattle.dslx_tree.specs.declared.item.Module.{Module}
use Rattle.dslx_meaning.specs.Items.{item_named, as_constant, as_struct, as_enum, is_constant_item}
use Rattle.dslx_meaning.specs.Rules.Mentions.{item_reaches}
use Rattle.dslx_meaning.specs.Rules.Namesakes.{told_apart}
use Rattle.dslx_meaning.specs.Rules.TypeEnvs.{GlobalEnv}
use Rattle.dslx_check_items.specs.Reaching.{item_needs}
use Rattle.dslx_check_items.specs.declared.reaching.Reaching.{Reaching}
use Rattle.dslx_check_rules.specs.Interned.{AreDistinct}
use Rattle.dslx_check_facts.specs.Known.{names_type}
use Rattle.dslx_check_facts.specs.Names.{names_of}
use Rattle.dslx_check_declarations.specs.Work.Text.{are_cyclic_by, loops_by, name_in}

-- an item reaches another by their names, where those of one name are told apart, exactly where it does so by their numbers
abbrev pub ReachAlike : Module → Type 0
ReachAlike text = (i j : ℕ) → item_reaches (told_apart text) (name_in text i) (name_in text j) ≡ true ↔ Reaches (item_needs text) i j

-- it is of the text, in which items of one name are told apart; it has nothing of items of another kind, and nothing of items that reach themselves
pub record IsTextByNames (text : Module) (reaching : Reaching) (known : GlobalEnv) : Type 0 where
  pub whole : known.whole ≡ told_apart text
  pub distinct : AreDistinct (names_of text)
  pub needs : reaching.needs.items ≡ item_needs text
  pub is_constant : (name : List ℕ) → known.items.is_constant name ≡ is_constant_item (item_named name known.whole.items)
  pub cyclic : (i j : ℕ) → known.is_cyclic (name_in text i) (name_in text j) ≡ are_cyclic_by reaching i j
  pub not_type : (name : List ℕ) → names_type (item_named name known.whole.items) ≡ false → known.items.type_named name ≡ None
  pub not_struct : (name : List ℕ) → as_struct (item_named name known.whole.items) ≡ None → known.items.struct_named name ≡ None
  pub not_constant : (name : List ℕ) → as_constant (item_named name known.whole.items) ≡ None → known.items.constant name ≡ None
  pub not_enum : (name member : List ℕ) → as_enum (item_named name known.whole.items) ≡ None → known.items.member name member ≡ None
  pub no_type : (i : ℕ) → loops_by reaching i ≡ true → known.items.type_named (name_in text i) ≡ None
  pub no_struct : (i : ℕ) → loops_by reaching i ≡ true → known.items.struct_named (name_in text i) ≡ None
  pub no_constant : (i : ℕ) → loops_by reaching i ≡ true → known.items.constant (name_in text i) ≡ None
  pub no_member : (i : ℕ) (name : List ℕ) → loops_by reaching i ≡ true → known.items.member (name_in text i) name ≡ None
  pub reaches : (i : ℕ) → loops_by reaching i ≡ true → item_reaches known.whole (name_in text i) (name_in text i) ≡ true
  pub free : (i : ℕ) → loops_by reaching i ≡ false → item_reaches known.whole (name_in text i) (name_in text i) ≡ false
