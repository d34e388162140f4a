-- The block of `next` that is lowered to steps.
use Rattle.std.specs.Prelude.{◌≡◌, ℕ, List, Option, Some}
use Rattle.dslx_tree.specs.declared.process.End.{End}
use Rattle.dslx_meaning.specs.Rules.CallRules.{channel_end_in}
use Rattle.dslx_meaning.specs.Rules.TypeEnvs.{Judgement, ChannelEnd, TypeEnv}
use Rattle.dslx_core.specs.Typing.Typed.Declared.{Declarations, IsDeclared}
use Rattle.dslx_core.specs.Typing.Typed.WellTyped.{types_at}
use Rattle.dslx_core.specs.Lowering.CoreScopes.{CoreScope}
use Rattle.dslx_core.specs.Lowering.Steps.{CoreMember, LoweredSteps, member_in}

-- a member of the proc, whose words have the type of this channel end
pub record MemberThere (types : Declarations) (outer : CoreScope) (ends : List End) (name : List ℕ) (o : ChannelEnd) : Type 0 where
  pub member : CoreMember
  pub is : member_in outer ends name ≡ Some member
  pub word : o.word ≡ Some member.word
  pub declared : IsDeclared types member.word

-- each member in scope is one of these ends
abbrev pub MembersExist : TypeEnv → CoreScope → List End → Type 0
MembersExist context outer ends = (name : List ℕ) (o : ChannelEnd) → channel_end_in name context.members ≡ Some o → MemberThere (types_at context) outer ends name o

-- it is lowered to steps, and the next state has the type that it has
pub record LowersToSteps (types : Declarations) (j : Judgement) (o : Option LoweredSteps) : Type 0 where
  pub steps : LoweredSteps
  pub is : o ≡ Some steps
  pub typed : j.ty ≡ Some steps.next.ty
  pub declared : IsDeclared types steps.next.ty
