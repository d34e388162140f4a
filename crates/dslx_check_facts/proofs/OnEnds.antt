-- Ends of channels, and bound names that hide them.
use Rattle.std.proofs.Common.{◌≡◌, ◌∙◌, ℕ, List, map, Option, Some, None, refl, sym, ap}
use Rattle.std.specs.Option.{option_map}
use Rattle.dslx_meaning.specs.Rules.CallRules.{channel_end_at, channel_end_if, channel_end_in}
use Rattle.dslx_meaning.specs.Rules.TypeEnvs.{ChannelEnd, GlobalEnv}
use Rattle.dslx_check_rules.specs.declared.table.row.TypeId.{TypeId}
use Rattle.dslx_check_rules.specs.declared.table.row.TypeRow.{TypeRow}
use Rattle.dslx_check_rules.specs.Interned.{ItemNames, type_if}
use Rattle.dslx_check_facts.specs.Bound.{bound_in}
use Rattle.dslx_check_facts.specs.TypeEnvs.{end_of, env_of}
use Rattle.dslx_check_facts.specs.declared.type_env.MemberEnd.{MemberEnd}
use Rattle.dslx_check_facts.specs.declared.type_env.TypeEnv.{TypeEnv as CodeEnv}
use Rattle.dslx_check_facts.proofs.Lemmas.Envs.{end_found, typed_found}

-- the end of a name that stands for this where a bound name of it is this
end_by : (names : ItemNames) (rows : List TypeRow) (known : GlobalEnv) (s : CodeEnv) (name : List ℕ) (l : Option (Option TypeId)) → bound_in name s.locals ≡ l
    → channel_end_at (env_of names rows known s) name ≡ channel_end_if (option_map (type_if names rows) l) (channel_end_in name (map (end_of names rows) s.members))
end_by names rows known s name l e = ap (λ o. channel_end_if o (channel_end_in name (map (end_of names rows) s.members))) (typed_found names rows name s.locals ∙ ap (option_map (type_if names rows)) e)

-- a bound name hides it
pub hidden_end : (names : ItemNames) (rows : List TypeRow) (known : GlobalEnv) (s : CodeEnv) (name : List ℕ) (ty : Option TypeId) → bound_in name s.locals ≡ Some ty
    → channel_end_at (env_of names rows known s) name ≡ None
hidden_end names rows known s name ty e = end_by names rows known s name (Some ty) e

pub found_end : (names : ItemNames) (rows : List TypeRow) (known : GlobalEnv) (s : CodeEnv) (name : List ℕ) (found : Option MemberEnd) → bound_in name s.locals ≡ None
    → found ≡ bound_in name s.members → channel_end_at (env_of names rows known s) name ≡ option_map (λ (m : MemberEnd). end_of names rows (name, m)) found
found_end names rows known s name found e is =
    end_by names rows known s name None e ∙ end_found names rows name s.members ∙ ap (option_map (λ (m : MemberEnd). end_of names rows (name, m))) (sym is)
