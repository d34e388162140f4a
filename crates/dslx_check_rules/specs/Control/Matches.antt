-- `match` by its arms.
use Rattle.std.specs.Prelude.{◌≡◌, ◌++◌, ◌+◌, ◌&&◌, ◌||◌, List, [], ◌∷◌, length, not, Bool, true, false, Option, Some, None, is_some}
use Rattle.std.specs.List.{list_all}
use Rattle.base.specs.Lists.Prefix.{IsPrefix}
use Rattle.xb_span.specs.declared.span.Span.{Span}
use Rattle.dslx_meaning.specs.Lists.{all_some, and_then, where_true}
use Rattle.dslx_meaning.specs.Types.{same_type}
use Rattle.dslx_meaning.specs.declared.ty.DslxType.{DslxType}
use Rattle.dslx_meaning.specs.Rules.TypeEnvs.{Judgement, breaks_if, settled, types_of, plus_size, one_and}
use Rattle.dslx_meaning.specs.Rules.Typings.{PatternSeen}
use Rattle.dslx_meaning.specs.Rules.ConstantRules.{is_empty}
use Rattle.dslx_meaning.specs.Rules.PatternRules.{is_there}
use Rattle.dslx_meaning.specs.Rules.ControlRules.{AlternativesSeen, ArmTyping as ArmSeen, all_known, arm_values, arms_faults, arms_reached, arms_size, differ, first_of_types, some_binds}
use Rattle.dslx_meaning.specs.Rules.RuleNumbers as rule
use Rattle.dslx_check_rules.specs.declared.table.row.TypeRow.{TypeRow}
use Rattle.dslx_check_rules.specs.declared.typing.Typing.{Typing}
use Rattle.dslx_check_rules.specs.Seen.{seen, capped}
use Rattle.dslx_check_rules.specs.Interned.{AreDistinct, ItemNames}
use Rattle.dslx_check_rules.specs.declared.control.matches.AlternativesTyping.{AlternativesTyping}
use Rattle.dslx_check_rules.specs.declared.control.matches.ArmTyping.{ArmTyping}
use Rattle.dslx_check_rules.specs.declared.control.matches.ArmsTyping.{ArmsTyping}
use Rattle.dslx_check_rules.specs.Nodes.Parts.{IsPart, Pairs}

-- ---- alternatives

-- the typing is what the alternatives come to, but for the names that they bind
pub record IsAlternatives (alternatives : AlternativesTyping) (x : AlternativesSeen) : Type 0 where
  pub faults : alternatives.faults ≡ seen x.faults
  pub size : alternatives.size ≡ capped (Some x.size)
  pub known : alternatives.is_known ≡ x.is_known
  pub sure : alternatives.is_sure ≡ x.is_sure
  pub binds : alternatives.binds ≡ x.binds

-- alternatives with one more behind them
abbrev pub alternative_behind : AlternativesSeen → PatternSeen → AlternativesSeen
alternative_behind x p = record {
  locals = p.locals;
  faults = x.faults ++ p.faults;
  reached = x.reached ++ p.reached;
  size = x.size + p.size;
  is_known = x.is_known && p.is_known;
  is_sure = x.is_sure || p.is_sure;
  binds = x.binds || not (is_empty p.names);
}

-- ---- arms

pub record IsArm (names : ItemNames) (rows later : List TypeRow) (arm : ArmTyping) (x : ArmSeen) : Type 0 where
  pub count : arm.count ≡ length x.patterns
  pub alternatives : IsAlternatives arm.alternatives x.seen
  pub value : IsPart names rows later arm.value x.value

abbrev pub AreArms : ItemNames → List TypeRow → List TypeRow → List ArmTyping → List ArmSeen → Type 0
AreArms names rows later arms xs = Pairs (IsArm names rows later) arms xs

-- the patterns of all arms are known and break nothing
abbrev pub are_fine : List ArmSeen → Bool
are_fine arms = list_all (λ (a : ArmSeen). a.seen.is_known && is_empty a.seen.faults) arms

-- what arms come to together
pub record AreTogether (all : ArmsTyping) (arms : List ArmSeen) : Type 0 where
  pub faults : all.faults ≡ seen (arms_faults arms)
  pub size : all.size ≡ capped (arms_size arms)
  pub known : all.is_known ≡ all_known arms
  pub fine : all.is_fine ≡ are_fine arms
  pub typed : all.is_typed ≡ is_some (all_some (types_of (arm_values arms)))
  pub binds : all.binds ≡ some_binds arms

-- an arm matches each value or not
abbrev pub lacks_some : Bool → Option DslxType → List ArmSeen → Bool
lacks_some exhaustive t arms = is_there t && are_fine arms && not exhaustive

abbrev pub match_of : Span → Bool → Judgement → List ArmSeen → Judgement
match_of span exhaustive value arms =
    settled span (and_then value.ty (λ t. where_true (all_known arms) (first_of_types (all_some (types_of (arm_values arms))))))
    (value.faults ++ arms_faults arms
    ++ breaks_if (is_empty arms || some_binds arms || differ (all_some (types_of (arm_values arms))) || lacks_some exhaustive value.ty arms) rule.MATCH_IS_EXHAUSTIVE span)
    (value.reached ++ arms_reached arms) (one_and (plus_size value.size (arms_size arms)))

pub record FromArms (span : Span) (exhaustive : Bool) (rows : List TypeRow) (value : Typing) (arms : List ArmTyping) (result : Typing) : Type 0 where
  pub typed : (names : ItemNames) (later : List TypeRow) → AreDistinct names → IsPrefix rows later → (x : Judgement) (xs : List ArmSeen) → IsPart names rows later value x
      → AreArms names rows later arms xs → IsPart names rows later result (match_of span exhaustive x xs)

-- the type is this one, if it is there
abbrev pub is_like : DslxType → Option DslxType → Bool
is_like t None = true
is_like t (Some u) = same_type t u

-- the first type, where all are there and are not one
abbrev pub unlike_first : List (Option DslxType) → Bool
unlike_first [] = false
unlike_first (None ∷ ts) = false
unlike_first (Some t ∷ ts) = not (list_all (is_like t) ts)
