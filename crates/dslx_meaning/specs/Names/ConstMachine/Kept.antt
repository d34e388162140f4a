-- What is kept of the items of a text: then constants and members are taken from there, and their texts aren't evaluated anew.
use Rattle.std.specs.Prelude.{ℕ, zero, suc, List, Bool, true, false, Option, Some, None}
use Rattle.dslx_tree.specs.declared.item.Module.{Module}
use Rattle.dslx_meaning.specs.Environment.{Meanings}
use Rattle.dslx_meaning.specs.Items.{meanings_over, meanings_within, nothing_known}
use Rattle.dslx_meaning.specs.declared.value.DslxValue.{DslxValue}

-- the values of constants and of the members of enums, if they have any; and which names are hidden: a type of such a name is none, and a
-- function of such a name has no value
pub record KeptValues : Type 0 where
  pub constant : List ℕ → Option DslxValue
  pub member : List ℕ → List ℕ → Option DslxValue
  pub hides : List ℕ → Bool

abbrev pub unless_hidden : {A : Type 0} → Bool → Option A → Option A
unless_hidden true o = None
unless_hidden false o = o

abbrev pub with_values : KeptValues → Meanings → Meanings
with_values kept items = record items {
  type_named = λ name. unless_hidden (kept.hides name) (items.type_named name);
  struct_named = λ name. unless_hidden (kept.hides name) (items.struct_named name);
  constant = kept.constant;
  member = kept.member;
  call = λ name parametric_args operands. unless_hidden (kept.hides name) (items.call name parametric_args operands);
}

-- whether a name is hidden, where values may be kept or not
abbrev pub is_hidden : Option KeptValues → List ℕ → Bool
is_hidden None name = false
is_hidden (Some kept) name = kept.hides name

-- what the items of a text denote to a use at the head of a chain of at most so many, where these are the values of constants and members, and
-- what is hidden denotes nothing
abbrev pub kept_within : KeptValues → Module → ℕ → Meanings
kept_within kept m zero = with_values kept nothing_known
kept_within kept m (suc n) = with_values kept (meanings_over m (kept_within kept m n))

-- the same where values may be kept or not
abbrev pub items_within : Option KeptValues → Module → ℕ → Meanings
items_within None m n = meanings_within m n
items_within (Some kept) m n = kept_within kept m n
