-- Items, and instances of functions and procs, of which all parts are there.
use Rattle.std.specs.Prelude.{◌≡◌, List, [], ◌∷◌, map, true, false, Option, Some, ℕ}
use Rattle.dslx_tree.specs.declared.expr.Arg.{Arg}
use Rattle.dslx_tree.specs.declared.expr.Expr.{Expr}
use Rattle.dslx_tree.specs.declared.item.Definition.{Definition}
use Rattle.dslx_tree.specs.declared.item.Definition.TheVariants as d
use Rattle.dslx_tree.specs.declared.item.Field.{Field}
use Rattle.dslx_tree.specs.declared.item.Function.{Function}
use Rattle.dslx_tree.specs.declared.item.Member.{Member}
use Rattle.dslx_tree.specs.declared.item.Parametric.{Parametric}
use Rattle.dslx_tree.specs.declared.process.Channel.{Channel}
use Rattle.dslx_tree.specs.declared.process.ConfigStatement.{ConfigStatement}
use Rattle.dslx_tree.specs.declared.process.ConfigStatement.TheVariants as config_statement
use Rattle.dslx_tree.specs.declared.process.End.{End}
use Rattle.dslx_tree.specs.declared.process.Proc.{Proc}
use Rattle.dslx_tree.specs.declared.process.Spawn.{Spawn}
use Rattle.dslx_meaning.specs.Environment.{Given}
use Rattle.dslx_meaning.specs.Items.{item_named}
use Rattle.dslx_meaning.specs.Network.{as_proc}
use Rattle.dslx_meaning.specs.Rules.CallRules.{given_parametric_args}
use Rattle.dslx_meaning.specs.Rules.ProcRules.{Made, behind_ends, channel_end_of, made_at_start, made_with, proc_parametric_args, proc_type_env, spawn_found}
use Rattle.dslx_meaning.specs.declared.ty.DslxType.{DslxType}
use Rattle.dslx_meaning.specs.declared.value.DslxValue.{DslxValue}
use Rattle.dslx_meaning.specs.Rules.ConstantRules.{constant_of, count_of}
use Rattle.dslx_meaning.specs.Rules.ItemRules.{alias_seen, base_if_bits, bound_with, constant_seen, enum_seen, function_seen, function_type_env, item_type_env, member_constant, number_at, parametric_args_behind, result_typing, struct_seen, typing_of_inner, typing_of_type}
use Rattle.dslx_meaning.specs.Rules.NodeRules.{arg_pair, block_pair, expr_pair}
use Rattle.dslx_meaning.specs.Rules.PatternRules.{is_there}
use Rattle.dslx_meaning.specs.Rules.TypeEnvs.{GlobalEnv, TypeEnv, has_broken, with_typed}

-- the type of each parametric, and the value of its default, if it has one, behind those before it
abbrev pub ParametricsThere : GlobalEnv → List ℕ → List Given → List Parametric → List DslxValue → Type 0
ParametricsThere known owner so_far [] values = Unit {0}
ParametricsThere known owner so_far (p ∷ ps) values =
    ((is_there (typing_of_inner (item_type_env known owner so_far) p.ty).ty ≡ true)
    × ((e : Expr) → p.default ≡ Some e → is_there (constant_of (item_type_env known owner so_far) (expr_pair e)).value ≡ true))
    × ParametricsThere known owner (bound_with so_far p (number_at values)) ps (parametric_args_behind values)

-- the type of each argument
abbrev pub ArgumentsThere : TypeEnv → List Field → Type 0
ArgumentsThere context [] = Unit {0}
ArgumentsThere context (f ∷ fs) = (is_there (typing_of_inner context f.ty).ty ≡ true) × ArgumentsThere context fs

-- all types and defaults, and the size of the body
pub record IsFunctionThere (known : GlobalEnv) (f : Function) (parametric_args : List DslxValue) : Type 0 where
  pub parametrics : ParametricsThere known f.name.name [] f.parametrics parametric_args
  pub arguments : ArgumentsThere (function_type_env known f parametric_args) f.arguments
  pub result : is_there (result_typing (function_type_env known f parametric_args) f.result).ty ≡ true
  pub body : is_there (function_seen known f parametric_args).body.size ≡ true

-- ---- procs

-- the type of the words of each end
abbrev pub EndsThere : TypeEnv → List End → Type 0
EndsThere context [] = Unit {0}
EndsThere context (e ∷ es) = (is_there (typing_of_inner context e.word).ty ≡ true) × EndsThere context es

-- the type of a channel's words, and its depth if it is written
pub record IsChannelThere (context : TypeEnv) (c : Channel) : Type 0 where
  pub word : is_there (typing_of_inner context c.word).ty ≡ true
  pub depth : (a : Arg) → c.depth ≡ Some a → is_there (count_of context (arg_pair a).1).count ≡ true

-- a spawn breaks no rule, and has the values of all parametrics
pub record IsSpawnThere (context : TypeEnv) (made : Made) (s : Spawn) : Type 0 where
  pub unbroken : has_broken (spawn_found context made s).faults ≡ false
  pub values : (q : Proc) → as_proc (item_named s.target.name context.known.whole.items) ≡ Some q
      → is_there (proc_parametric_args context.known q (given_parametric_args (behind_ends context made) (map arg_pair s.arguments))).values ≡ true

abbrev pub StatementsThere : TypeEnv → Made → List ConfigStatement → Type 0
StatementsThere context made [] = Unit {0}
StatementsThere context made (config_statement.Channel c ∷ ms) = IsChannelThere (behind_ends context made) c × StatementsThere context (made_with context made c) ms
StatementsThere context made (config_statement.Spawn s ∷ ms) = IsSpawnThere context made s × StatementsThere context made ms

-- behind the members
abbrev pub behind_members : GlobalEnv → Proc → List DslxValue → TypeEnv
behind_members known p parametric_args = record (proc_type_env known p parametric_args) { members = map (channel_end_of (proc_type_env known p parametric_args)) p.members }

-- behind the state
abbrev pub behind_state : GlobalEnv → Proc → List DslxValue → TypeEnv
behind_state known p parametric_args =
    with_typed (behind_members known p parametric_args) (record { name = p.next.state.name; ty = (typing_of_type (proc_type_env known p parametric_args) p.next.ty).ty } ∷ [])

-- all types, defaults, depths and parametrics of spawns, and the sizes of `init` and `next`
pub record IsProcThere (known : GlobalEnv) (p : Proc) (parametric_args : List DslxValue) : Type 0 where
  pub parametrics : ParametricsThere known p.name.name [] p.parametrics parametric_args
  pub members : EndsThere (proc_type_env known p parametric_args) p.members
  pub ends : EndsThere (proc_type_env known p parametric_args) p.config.ends
  pub statements : StatementsThere (proc_type_env known p parametric_args) (made_at_start (proc_type_env known p parametric_args) p.config.ends) p.config.config_statements
  pub state : is_there (typing_of_type (proc_type_env known p parametric_args) p.next.ty).ty ≡ true
  pub init : is_there ((block_pair p.init).1 false (behind_members known p parametric_args)).size ≡ true
  pub next : is_there ((block_pair p.next.body).1 true (behind_state known p parametric_args)).size ≡ true

-- ---- other items

abbrev pub MembersThere : TypeEnv → Option DslxType → List Member → Type 0
MembersThere context base [] = Unit {0}
MembersThere context base (m ∷ ms) = (is_there (member_constant context base m).value ≡ true) × MembersThere context base ms

-- the value of a constant, the type that an item names, and the values of an enum's members
abbrev pub IsItemThere : GlobalEnv → Definition → Type 0
IsItemThere known (d.Function f) = ⊥
IsItemThere known (d.Proc p) = ⊥
IsItemThere known (d.Constant c) = is_there (constant_seen known c).value ≡ true
IsItemThere known (d.Alias a) = is_there (alias_seen known a).ty ≡ true
IsItemThere known (d.Struct s) = is_there (struct_seen known s).ty ≡ true
IsItemThere known (d.Enum e) =
    (is_there (enum_seen known e).ty ≡ true) × MembersThere (item_type_env known e.name.name []) (base_if_bits (typing_of_type (item_type_env known e.name.name []) e.base).ty) e.members
