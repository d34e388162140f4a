-- Items of which a table of values and a global environment say the same.
use Rattle.std.specs.Prelude.{ℕ, List, ◌≡◌, Bool, true, false, None}
use Rattle.std.specs.List.{list_all}
use Rattle.dslx_meaning.specs.Items.{item_named}
use Rattle.dslx_meaning.specs.Rules.Mentions.{AsEnum, AsFunction, AsType, AsValue, is_of_use, item_reaches, mentions_of}
use Rattle.dslx_meaning.specs.Rules.PatternRules.{is_there}
use Rattle.dslx_meaning.specs.Rules.TypeEnvs.{GlobalEnv}
use Rattle.dslx_meaning.specs.Names.ConstMachine.Kept.{KeptValues}

-- Of items whose names pass this test the values of constants and of members of enums are kept, if they have any. Items that are hidden have no
-- type, or reach themselves, if they are functions. All others have the types that they name, mention such items alone, and don't reach themselves. Of
-- names of other items no value is kept
pub record AreKeptAlike (known : GlobalEnv) (kept : KeptValues) (P : List ℕ → Bool) : Type 0 where
  pub closed : (name : List ℕ) → P name ≡ true → kept.hides name ≡ false → list_all P (mentions_of known.whole (item_named name known.whole.items)) ≡ true
  pub free : (name : List ℕ) → P name ≡ true → kept.hides name ≡ false → item_reaches known.whole name name ≡ false
  pub constants : (name : List ℕ) → P name ≡ true → kept.constant name ≡ known.items.constant name
  pub members : (name member : List ℕ) → P name ≡ true → kept.member name member ≡ known.items.member name member
  pub types : (name : List ℕ) → P name ≡ true → kept.hides name ≡ false → is_of_use AsType (item_named name known.whole.items) ≡ true → is_there (known.items.type_named name) ≡ true
  pub hidden_types : (name : List ℕ) → P name ≡ true → kept.hides name ≡ true → known.items.type_named name ≡ None
  pub hidden_structs : (name : List ℕ) → P name ≡ true → kept.hides name ≡ true → known.items.struct_named name ≡ None
  pub hidden_calls : (name : List ℕ) → P name ≡ true → kept.hides name ≡ true → is_of_use AsFunction (item_named name known.whole.items) ≡ true → item_reaches known.whole name name ≡ true
  pub no_constant : (name : List ℕ) → is_of_use AsValue (item_named name known.whole.items) ≡ false → kept.constant name ≡ None
  pub no_member : (name member : List ℕ) → is_of_use AsEnum (item_named name known.whole.items) ≡ false → kept.member name member ≡ None
