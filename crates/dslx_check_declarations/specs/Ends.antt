-- Ends of channels.
use Rattle.std.specs.Prelude.{List, ◌≡◌, Bool, false, not, Option, Some, None}
use Rattle.dslx_meaning.specs.Types.{same_type}
use Rattle.dslx_meaning.specs.declared.ty.DslxType.{DslxType}
use Rattle.dslx_meaning.specs.Rules.TypeEnvs.{ChannelEnd}
use Rattle.dslx_check_rules.specs.declared.table.row.TypeRow.{TypeRow}
use Rattle.dslx_check_rules.specs.Interned.{HasRowIf, ItemNames, type_if}
use Rattle.dslx_check_facts.specs.declared.type_env.MemberEnd.{MemberEnd}
use Rattle.dslx_check_declarations.specs.declared.ends.NamedEnd.{NamedEnd}

-- the end, whose words' type has a row, goes that way and has these words
pub record IsEndAs (names : ItemNames) (rows later : List TypeRow) (e : MemberEnd) (o : ChannelEnd) : Type 0 where
  pub row : HasRowIf rows e.word
  pub direction : e.direction ≡ o.direction
  pub word : type_if names later e.word ≡ o.word

-- the same of what may be none
abbrev pub IsEndNamed : ItemNames → List TypeRow → List TypeRow → Option MemberEnd → Option ChannelEnd → Type 0
IsEndNamed names rows later None None = Unit {0}
IsEndNamed names rows later (Some e) (Some o) = IsEndAs names rows later e o
IsEndNamed names rows later _ _ = ⊥

-- the end of this name
pub record IsNamed (names : ItemNames) (rows later : List TypeRow) (e : NamedEnd) (o : ChannelEnd) : Type 0 where
  pub name : e.name.now ≡ o.name
  pub end : IsEndAs names rows later e.end o

-- both have words, which are of two types
abbrev pub other_word : Option DslxType → Option DslxType → Bool
other_word (Some t) (Some u) = not (same_type t u)
other_word _ _ = false
