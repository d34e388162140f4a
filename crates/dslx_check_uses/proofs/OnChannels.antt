-- Channels by their names.
use Rattle.std.proofs.Common.{◌≡◌, ◌∙◌, List, ℕ, map, Option, Some, None, sym, ap, subst}
use Rattle.std.specs.Prelude.{IfSome}
use Rattle.dslx_check_facts.specs.Bound.{bound_in}
use Rattle.dslx_check_facts.specs.TypeEnvs.{HasBoundRows, end_of, env_of}
use Rattle.dslx_check_facts.specs.declared.type_env.MemberEnd.{MemberEnd}
use Rattle.dslx_check_facts.specs.declared.type_env.TypeEnv.{TypeEnv as CodeEnv}
use Rattle.dslx_check_facts.proofs.Lemmas.Envs.{bound_all, end_found, typed_found}
use Rattle.std.specs.Option.{option_map}
use Rattle.xb_span.specs.declared.span.Span.{Span}
use Rattle.dslx_meaning.specs.Rules.CallRules.{channel_end_at, channel_end_if, channel_end_in, has_site, named_channel, word_of}
use Rattle.dslx_meaning.specs.Rules.TypeEnvs.{ChannelEnd, GlobalEnv, TypeEnv}
use Rattle.dslx_check_rules.specs.declared.table.row.TypeId.{TypeId}
use Rattle.dslx_check_rules.specs.declared.table.row.TypeRow.{TypeRow}
use Rattle.dslx_check_rules.specs.Interned.{HasRowIf, ItemNames, type_if}
use Rattle.dslx_check_rules.specs.Nodes.Parts.{IsPart}
use Rattle.dslx_check_rules.specs.declared.control.effects.ChannelTyping.{ChannelTyping}
use Rattle.dslx_check_rules.specs.Control.Effects.{IsEffectChannel}
use Rattle.dslx_check_uses.specs.Ends.{channel_by_name}

-- ---- ends by their names

-- the end of a name where what is bound to the name is known
end_by : (names : ItemNames) (rows : List TypeRow) (known : GlobalEnv) (s : CodeEnv) (name : List ℕ) (l : Option (Option TypeId)) → bound_in name s.locals ≡ l
    → channel_end_at (env_of names rows known s) name ≡ channel_end_if (option_map (type_if names rows) l) (channel_end_in name (map (end_of names rows) s.members))
end_by names rows known s name l e = ap (λ o. channel_end_if o (channel_end_in name (map (end_of names rows) s.members))) (typed_found names rows name s.locals ∙ ap (option_map (type_if names rows)) e)

-- a bound name hides it
pub hidden_end : (names : ItemNames) (rows : List TypeRow) (known : GlobalEnv) (s : CodeEnv) (name : List ℕ) (ty : Option TypeId) → bound_in name s.locals ≡ Some ty
    → channel_end_at (env_of names rows known s) name ≡ None
hidden_end names rows known s name ty e = end_by names rows known s name (Some ty) e

pub found_end : (names : ItemNames) (rows : List TypeRow) (known : GlobalEnv) (s : CodeEnv) (name : List ℕ) (found : Option MemberEnd) → bound_in name s.locals ≡ None
    → found ≡ bound_in name s.members → channel_end_at (env_of names rows known s) name ≡ option_map (λ (m : MemberEnd). end_of names rows (name, m)) found
found_end names rows known s name found e is =
    end_by names rows known s name None e ∙ end_found names rows name s.members ∙ ap (option_map (λ (m : MemberEnd). end_of names rows (name, m))) (sym is)

-- its word's type has a row
pub end_row : (items : ItemNames) (rows : List TypeRow) (s : CodeEnv) (name : List ℕ) (o : Option MemberEnd) → HasBoundRows items rows s → bound_in name s.members ≡ o
    → IfSome o (λ (e : MemberEnd). HasRowIf rows e.word)
end_row items rows s name None bound e = tt
end_row items rows s name (Some x) bound e = bound_all (λ (m : MemberEnd). HasRowIf rows m.word) name s.members x bound.members e

-- ---- what a channel comes to

pub channel_is : (items : ItemNames) (rows later : List TypeRow) (env : TypeEnv) (span : Span) (name : List ℕ) (channel : ChannelTyping) (o : Option ChannelEnd) → channel_end_at env name ≡ o
    → IsPart items rows later channel.typing (named_channel span name o) → channel.direction ≡ option_map (λ (e : ChannelEnd). e.direction) o → HasRowIf rows channel.word
    → type_if items later channel.word ≡ word_of (record { judgement = named_channel span name o; channel_end = o; name = Some name }) → channel.has_site ≡ has_site env (Some name)
    → IsEffectChannel items rows later env channel (channel_by_name span env name)
channel_is items rows later env span name channel o e part direction row word site =
    subst (λ (o : Option ChannelEnd). IsEffectChannel items rows later env channel (record { judgement = named_channel span name o; channel_end = o; name = Some name })) (sym e)
    (record { part = part; direction = direction; row = row; word = word; site = site })
