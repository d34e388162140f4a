-- Members of a proc, as the rules see them and as its statements mean them.
use Rattle.std.specs.Prelude.{◌≡◌, ℕ, List, [], ◌∷◌, map, true, false, Some}
use Rattle.xb_bits.specs.Word.{Word}
use Rattle.dslx_tree.specs.declared.process.Proc.{Proc}
use Rattle.dslx_meaning.specs.Activation.{SiteEnv, state_type_of, word_type_at}
use Rattle.dslx_meaning.specs.Environment.{Env}
use Rattle.dslx_meaning.specs.Items.{instance_env}
use Rattle.dslx_meaning.specs.Values.{from_word}
use Rattle.dslx_meaning.specs.declared.ty.DslxType.{DslxType}
use Rattle.dslx_meaning.specs.declared.value.DslxValue.{DslxValue}
use Rattle.dslx_meaning.specs.Rules.CallRules.{channel_end_in}
use Rattle.dslx_meaning.specs.Rules.ItemRules.{body_typing}
use Rattle.dslx_meaning.specs.Rules.TypeEnvs.{GlobalEnv, ChannelEnd, TypeEnv, with_typed}
use Rattle.dslx_meaning.specs.Rules.ProcRules.{channel_end_of, proc_type_env}
use Rattle.dslx_core.specs.Typing.Typed.Complete.{IsWellTypedPart}
use Rattle.dslx_core.specs.Typing.Typed.Declared.{IsDeclared}
use Rattle.dslx_core.specs.Typing.Typed.Kinds.{is_of}
use Rattle.dslx_core.specs.Typing.Typed.WellTyped.{IsWellTypedEnv, types_at}

-- the end's words have a type, the one that it denotes; each word is a value of it
pub record ProcMemberHasValues (context : TypeEnv) (site : SiteEnv) (name : List ℕ) (o : ChannelEnd) : Type 0 where
  pub word : DslxType
  pub typed : o.word ≡ Some word
  pub means : word_type_at site name ≡ Some word
  pub declared : IsDeclared (types_at context) word
  pub holds : (x : Word) → is_of word (from_word word x) ≡ true

abbrev pub ProcMembersHaveValues : TypeEnv → SiteEnv → Type 0
ProcMembersHaveValues context site = (name : List ℕ) (o : ChannelEnd) → channel_end_in name context.members ≡ Some o → ProcMemberHasValues context site name o

-- the type environment in an instance of a proc, behind its members
abbrev pub inner_type_env : GlobalEnv → Proc → List DslxValue → TypeEnv
inner_type_env known p parametric_args = let context = proc_type_env known p parametric_args in record context { members = map (channel_end_of context) p.members }

abbrev pub inner_env : GlobalEnv → Proc → List DslxValue → Env
inner_env known p parametric_args = instance_env known.items p.parametrics parametric_args

-- an instance of a proc whose `next` is well-typed, where states are of this type
pub record IsWellTypedNext (known : GlobalEnv) (p : Proc) (parametric_args : List DslxValue) (t : DslxType) : Type 0 where
  pub typed : IsWellTypedEnv (inner_type_env known p parametric_args) (inner_env known p parametric_args)
  pub members : ProcMembersHaveValues (inner_type_env known p parametric_args) (record { members = p.members; env = inner_env known p parametric_args })
  pub state : state_type_of known.items p parametric_args ≡ Some t
  pub declared : IsDeclared known.items.type_named t
  pub name : known.items.is_constant p.next.state.name ≡ false
  pub body : IsWellTypedPart known (body_typing true (with_typed (inner_type_env known p parametric_args) (record { name = p.next.state.name; ty = Some t } ∷ [])) (Some t) p.next.body)
