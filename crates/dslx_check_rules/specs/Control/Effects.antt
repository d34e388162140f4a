-- Tokens and effects by their parts.
use Rattle.std.specs.Prelude.{◌≡◌, ◌++◌, ◌∷◌, List, [], Bool, false, Option, Some, None}
use Rattle.std.specs.Option.{option_map}
use Rattle.base.specs.Lists.Prefix.{IsPrefix}
use Rattle.xb_span.specs.declared.span.Span.{Span}
use Rattle.xb_span.specs.declared.fault.Fault.{Fault}
use Rattle.dslx_tree.specs.declared.process.Direction.{Direction}
use Rattle.dslx_tree.specs.declared.process.Direction.TheVariants.{In, Out}
use Rattle.dslx_meaning.specs.Lists.{and_then}
use Rattle.dslx_meaning.specs.Types.{received}
use Rattle.dslx_meaning.specs.declared.ty.DslxType.{DslxType}
use Rattle.dslx_meaning.specs.declared.ty.DslxType as ty
use Rattle.dslx_meaning.specs.Rules.TypeEnvs.{ChannelEnd, Judgement, TypeEnv, settled, faults_of_all, reached_of_all, size_of_all, types_of, one_and}
use Rattle.dslx_meaning.specs.Rules.OperatorRules.{is_bool, unless_type}
use Rattle.dslx_meaning.specs.Rules.AggregateRules.{wanted_faults, when_all}
use Rattle.dslx_meaning.specs.Rules.CallRules.{ChannelSeen, effect_with, has_site, held_faults, same_direction, token_faults, word_of}
use Rattle.dslx_meaning.specs.Rules.RuleNumbers as rule
use Rattle.dslx_check_rules.specs.declared.table.row.TypeRow.{TypeRow}
use Rattle.dslx_check_rules.specs.declared.typing.Typing.{Typing}
use Rattle.dslx_check_rules.specs.Interned.{AreDistinct, HasRowIf, ItemNames, type_if}
use Rattle.dslx_check_rules.specs.declared.control.effects.ChannelTyping.{ChannelTyping}
use Rattle.dslx_check_rules.specs.declared.nodes.parts.Spanned.{Spanned}
use Rattle.dslx_check_rules.specs.Nodes.Parts.{ArePlaced, IsPart, Placed, judgements}

-- where a token may stand, and where one has to
abbrev pub held_of : Span → Judgement → Judgement
held_of span j = record j { faults = j.faults ++ held_faults span j.ty }

abbrev pub token_of : Span → Judgement → Judgement
token_of span j = record j { faults = j.faults ++ token_faults span j.ty }

abbrev pub joining_of : Span → List Placed → Judgement
joining_of span xs =
    let js = judgements xs in
    settled span (when_all (types_of js) (Some ty.Token)) (faults_of_all js) (reached_of_all js) (one_and (size_of_all js))

-- ---- effects

pub record IsEffectChannel (names : ItemNames) (rows later : List TypeRow) (context : TypeEnv) (channel : ChannelTyping) (x : ChannelSeen) : Type 0 where
  pub part : IsPart names rows later channel.typing x.judgement
  pub direction : channel.direction ≡ option_map (λ (o : ChannelEnd). o.direction) x.channel_end
  pub row : HasRowIf rows channel.word
  pub word : type_if names later channel.word ≡ word_of x
  pub site : channel.has_site ≡ has_site context x.name

-- an end of this direction, if it is an end
abbrev pub goes : Direction → Option Direction → Bool
goes direction None = false
goes direction (Some other) = same_direction direction other

-- the arguments behind the channel: a word, behind a condition where there is one
abbrev pub other_faults : Option DslxType → List Placed → List Fault
other_faults word [] = []
other_faults word (x ∷ []) = wanted_faults x.span word x.judgement.ty
other_faults word (p ∷ x ∷ []) = unless_type is_bool rule.CONDITION_IS_BOOL p.span p.judgement.ty ++ wanted_faults x.span word x.judgement.ty
other_faults word (p ∷ x ∷ y ∷ xs) = []

-- what an effect gives: a token, and a word if it receives
abbrev pub given_type : Direction → Option DslxType → Option DslxType
given_type In word = and_then word (λ w. Some (received w))
given_type Out word = and_then word (λ w. Some ty.Token)

abbrev pub effect_of : Span → TypeEnv → Direction → Judgement → ChannelSeen → List Placed → Judgement
effect_of span context direction t c xs = effect_with span context direction t c (judgements xs) (other_faults (word_of c) xs) (given_type direction (word_of c))

pub record FromEffect (span : Span) (direction : Direction) (old new : List TypeRow) (token : Typing) (channel : ChannelTyping) (others : List Spanned) (result : Typing) : Type 0 where
  pub typed : (names : ItemNames) (later : List TypeRow) → AreDistinct names → IsPrefix new later → (context : TypeEnv) (t : Judgement) (c : ChannelSeen) (xs : List Placed)
      → IsPart names old later token t → IsEffectChannel names old later context channel c → ArePlaced names old later others xs → IsPart names new later result (effect_of span context direction t c xs)
