-- What is in scope at a place, as code has it: types are numbers of a table, items are numbers of items.
use Rattle.std.specs.Prelude.{ℕ, List, ◌≡◌, ◌&&◌, map, Bool, Option, None, if◌then◌else◌}
use Rattle.std.specs.List.{AllByRecursion}
use Rattle.dslx_meaning.specs.Values.{type_of_value}
use Rattle.dslx_meaning.specs.Environment.{Given}
use Rattle.dslx_meaning.specs.Rules.ConstantRules.{untyped_typing}
use Rattle.dslx_meaning.specs.Rules.ModuleRules.{no_signature}
use Rattle.dslx_meaning.specs.Rules.TypeEnvs.{GlobalEnv, TypeEnv, Typed, ChannelEnd}
use Rattle.dslx_check_rules.specs.declared.table.row.TypeId.{TypeId}
use Rattle.dslx_check_rules.specs.declared.table.row.TypeRow.{TypeRow}
use Rattle.dslx_check_rules.specs.Interned.{ItemNames, HasRow, HasRowIf, type_at, type_if}
use Rattle.dslx_check_facts.specs.Bound.{bound_names}
use Rattle.dslx_check_facts.specs.declared.type_env.MemberEnd.{MemberEnd}
use Rattle.dslx_check_facts.specs.declared.type_env.ParametricArg.{ParametricArg}
use Rattle.dslx_check_facts.specs.declared.type_env.TypeEnv.{TypeEnv as CodeEnv}

abbrev pub given_of : List ℕ × ParametricArg → Given
given_of b = record { name = b.0; value = b.1.value }

abbrev pub typed_of : ItemNames → List TypeRow → List ℕ × Option TypeId → Typed
typed_of names rows b = record { name = b.0; ty = type_if names rows b.1 }

abbrev pub end_of : ItemNames → List TypeRow → List ℕ × MemberEnd → ChannelEnd
end_of names rows b = record { name = b.0; direction = b.1.direction; word = type_if names rows b.1.word }

-- the global environment as the text of an item sees it: where a part of its declaration is judged for a call that rule 3 refuses, nothing
-- is known of what its own group declares, so that no part asks for itself
abbrev pub known_to : Bool → List ℕ → GlobalEnv → GlobalEnv
known_to is_declaring owner known = record known {
  parameter_in = λ item before. if is_declaring && known.is_cyclic owner item then untyped_typing else known.parameter_in item before;
  default_in = λ item before. if is_declaring && known.is_cyclic owner item then record { judgement = untyped_typing; value = None } else known.default_in item before;
  signature_in = λ item values. if is_declaring && known.is_cyclic owner item then no_signature else known.signature_in item values;
}

-- the type environment that it is, where types are these rows
abbrev pub env_of : ItemNames → List TypeRow → GlobalEnv → CodeEnv → TypeEnv
env_of names rows known s = record {
  known = known_to s.is_declaring (names.item s.owner) known;
  owner = names.item s.owner;
  parametric_args = map given_of s.parametric_args;
  unknown = bound_names s.unknown;
  ends = bound_names s.ends;
  locals = map (typed_of names rows) s.locals;
  members = map (end_of names rows) s.members;
  used = bound_names s.used;
}

-- the parametric has its value's type
pub record IsArg (names : ItemNames) (rows : List TypeRow) (arg : ParametricArg) : Type 0 where
  pub row : HasRow rows arg.ty
  pub ty : type_at names rows arg.ty ≡ type_of_value arg.value

-- each type that is bound has a row
pub record HasBoundRows (names : ItemNames) (rows : List TypeRow) (s : CodeEnv) : Type 0 where
  pub parametric_args : AllByRecursion (λ b. IsArg names rows b.1) s.parametric_args
  pub locals : AllByRecursion (λ b. HasRowIf rows b.1) s.locals
  pub members : AllByRecursion (λ b. HasRowIf rows b.1.word) s.members
