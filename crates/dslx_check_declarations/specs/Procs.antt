-- Ends of procs, and what a `config` makes of them.
use Rattle.std.specs.Prelude.{ℕ, List, [], ◌∷◌, ◌++◌, ◌≡◌, ◌&&◌, Bool, true, false, not, map, Option, Some, if◌then◌else◌}
use Rattle.std.specs.Str.{bytes_eq}
use Rattle.base.specs.Lists.Prefix.{IsPrefix}
use Rattle.base.specs.NameTable.Found.{found}
use Rattle.xb_span.specs.declared.fault.Fault.{Fault}
use Rattle.dslx_tree.specs.declared.ident.Ident.{Ident}
use Rattle.dslx_tree.specs.declared.process.Proc.{Proc}
use Rattle.dslx_meaning.specs.Rules.CallRules.{channel_end_in}
use Rattle.dslx_meaning.specs.Rules.ProcRules as the
use Rattle.dslx_meaning.specs.Rules.RuleNumbers as rule
use Rattle.dslx_meaning.specs.Rules.TypeEnvs.{ChannelEnd, TypeEnv, breaks_if}
use Rattle.dslx_check_rules.specs.declared.faults.Faults.{Faults}
use Rattle.dslx_check_rules.specs.declared.table.row.TypeRow.{TypeRow}
use Rattle.dslx_check_rules.specs.Interned.{AreDistinct, ItemNames}
use Rattle.dslx_check_rules.specs.Seen.{seen}
use Rattle.dslx_check_rules.specs.Nodes.Parts.{Pairs}
use Rattle.dslx_check_facts.specs.Bound.{bound_names}
use Rattle.dslx_check_facts.specs.declared.type_env.MemberEnd.{MemberEnd}
use Rattle.dslx_check_facts.specs.declared.type_env.TypeEnv.{TypeEnv as CodeEnv}
use Rattle.dslx_check_declarations.specs.declared.config.Made.{Made}
use Rattle.dslx_check_declarations.specs.declared.ends.NamedEnd.{NamedEnd}
use Rattle.dslx_check_declarations.specs.Config.{AreMeant, AreUsed, MeansEnds, all_once}
use Rattle.dslx_check_declarations.specs.Ends.{IsNamed}

-- ---- lists of ends

-- what the first end of a name is, and else what the name means
abbrev pub first_end : List ℕ → List NamedEnd → Option MemberEnd → Option MemberEnd
first_end name [] rest = rest
first_end name (e ∷ es) rest = if bytes_eq name e.name.now then Some e.end else first_end name es rest

-- an end as it stands in the type environment: that of a `config`, which has nothing beside its name, and a member
abbrev pub end_bound : NamedEnd → List ℕ × Unit {0}
end_bound e = (e.name.now, tt)

abbrev pub member_bound : NamedEnd → List ℕ × MemberEnd
member_bound e = (e.name.now, e.end)

-- these ends are declared
pub record AddsEnds (before after : CodeEnv) (made next : Made) (ends : List NamedEnd) : Type 0 where
  pub scope : after ≡ record before { ends = map end_bound ends ++ before.ends }
  pub meant : (name : List ℕ) → found next.meant name ≡ first_end name ends (found made.meant name)
  pub rest : next ≡ record made { meant = next.meant }

-- ---- the tuple of a `config`

-- the end that is named is one that a member may be
abbrev pub is_member_of : the.Made → ChannelEnd → Ident → Bool
is_member_of m o i = not (the.misfits o.direction o.word (channel_end_in i.name m.channel_ends))

-- the tuple is these members in order
abbrev pub are_members : the.Made → List ChannelEnd → List Ident → Bool
are_members m [] [] = true
are_members m [] (i ∷ is) = false
are_members m (o ∷ os) [] = false
are_members m (o ∷ os) (i ∷ is) = is_member_of m o i && are_members m os is

-- what the tuple of a `config` breaks where these ends were used before it
abbrev pub result_faults : Proc → TypeEnv → the.Made → List (List ℕ) → List Fault
result_faults p env m used =
    the.unknown_ends m.names p.config.result
    ++ breaks_if (not (all_once (used ++ the.ident_names p.config.result) m.names && the.is_members env p.members p.config.result m)) rule.CONFIG_USES_EACH_END p.config.span

pub record ConfigEnds (rows : List TypeRow) (s : CodeEnv) (made : Made) (p : Proc) (members : List NamedEnd) (faults : Faults) : Type 0 where
  pub is : (names : ItemNames) (later : List TypeRow) (env : TypeEnv) (m : the.Made) (used : List (List ℕ)) → AreDistinct names → IsPrefix rows later → MeansEnds names rows later made m → AreUsed made used
      → bound_names s.ends ≡ m.names → AreMeant made m.names → Pairs (IsNamed names rows later) members (map (the.channel_end_of env) p.members) → faults ≡ seen (result_faults p env m used)
