-- The rules of an instance of a proc: its members, `config`, `init` and `next`.
use Rattle.std.specs.Prelude.{ℕ, suc, List, [], ◌∷◌, ◌++◌, ◌+◌, ◌==◌, ◌&&◌, ◌||◌, nat_lt, map, Bool, true, false, not, Option, Some, None, length, if◌then◌else◌}
use Rattle.std.specs.Str.{bytes_eq}
use Rattle.std.specs.List.{list_all}
use Rattle.xb_span.specs.declared.fault.Fault.{Fault}
use Rattle.xb_span.specs.declared.limit.What.TheVariants as what
use Rattle.dslx_tree.specs.declared.ident.Ident.{Ident}
use Rattle.dslx_tree.specs.declared.block.Block.{out-Block}
use Rattle.dslx_tree.specs.declared.block.Stmt.{Stmt, out-Stmt}
use Rattle.dslx_tree.specs.declared.block.Stmt.TheOpen.{Stmt-F}
use Rattle.dslx_tree.specs.declared.block.Let.{out-Let}
use Rattle.dslx_tree.specs.declared.expr.Arg.{Arg, out-Arg}
use Rattle.dslx_tree.specs.declared.type_expr.TypeExpr.{TypeExpr, out-TypeExpr}
use Rattle.dslx_tree.specs.declared.process.Proc.{Proc}
use Rattle.dslx_tree.specs.declared.process.End.{End}
use Rattle.dslx_tree.specs.declared.process.ConfigStatement.{ConfigStatement}
use Rattle.dslx_tree.specs.declared.process.ConfigStatement.TheVariants as config_statement
use Rattle.dslx_tree.specs.declared.process.Channel.{Channel}
use Rattle.dslx_tree.specs.declared.process.Spawn.{Spawn}
use Rattle.dslx_tree.specs.declared.process.Direction.{Direction}
use Rattle.dslx_tree.specs.declared.process.Direction.TheVariants.{In, Out}
use Rattle.dslx_meaning.specs.Lists.{is_in}
use Rattle.dslx_meaning.specs.Types.{same_type, flat_bits}
use Rattle.dslx_meaning.specs.Items.{item_named, parametric_args_bound}
use Rattle.dslx_meaning.specs.Activation.{StmtLayer}
use Rattle.dslx_meaning.specs.Network.{as_proc}
use Rattle.dslx_meaning.specs.declared.ty.DslxType.{DslxType}
use Rattle.dslx_meaning.specs.declared.value.DslxValue.{DslxValue}
use Rattle.dslx_meaning.specs.Rules.EffectNames.{is_effect}
use Rattle.dslx_meaning.specs.Rules.TypeEnvs.{GlobalEnv, ChannelEnd, TypeEnv, Judgement, breaks, breaks_if, passes, passes_count, faults_of_all, reached_of_all}
use Rattle.dslx_meaning.specs.Rules.ConstantRules.{count_of}
use Rattle.dslx_meaning.specs.Rules.NameRules.{local_name}
use Rattle.dslx_meaning.specs.Rules.CallRules.{ParametricArgument, known_before, ParametricArgsSeen, parametric_args_seen, is_refused, typing_there, signature_seen, given_parametric_args, given_judgements, same_direction, channel_end_in, reached_by}
use Rattle.dslx_meaning.specs.Rules.NodeRules.{arg_pair}
use Rattle.dslx_meaning.specs.Rules.ItemRules.{Found, nothing_found, and_found, only_faults, found_in, item_type_env, typing_of_type, typing_of_inner, parametrics_found, body_typing}
use Rattle.dslx_meaning.specs.Rules.RuleNumbers as rule

-- ---- ends of channels

-- the limit on a channel's words stands at their type
abbrev pub word_limit : ℕ → Option DslxType → List Fault
word_limit end None = []
word_limit end (Some t) = passes what.Word 128 end (flat_bits t)

abbrev pub channel_type : TypeEnv → TypeExpr → Judgement
channel_type context t =
    let j = typing_of_inner context t in
    record j { faults = j.faults ++ word_limit (out-TypeExpr t).span.to j.ty }

abbrev pub channel_end_of : TypeEnv → End → ChannelEnd
channel_end_of context e = record { name = e.name.name; direction = e.direction; word = (typing_of_inner context e.word).ty }

-- a list of ends, each a local binding, behind these names of the list
abbrev pub ends_found : TypeEnv → List (List ℕ) → List End → Found
ends_found context before [] = nothing_found
ends_found context before (e ∷ es) =
    and_found (only_faults (local_name context before e.name))
    (and_found (found_in (channel_type context e.word)) (ends_found context (e.name.name ∷ before) es))

abbrev pub end_names : List End → List (List ℕ)
end_names es = map (λ (e : End). e.name.name) es

-- ---- channels that are made

-- what is in scope in a `config` so far: the names of its ends, the ends themselves, and its strings
pub record Made : Type 0 where
  pub names : List (List ℕ)
  pub channel_ends : List ChannelEnd
  pub strings : List (List ℕ)

abbrev pub depth_limit : ℕ → Option ℕ → List Fault
depth_limit end None = []
depth_limit end (Some n) = passes what.Depth 4096 end n

abbrev pub depth_found : TypeEnv → Option Arg → Found
depth_found context None = nothing_found
depth_found context (Some a) =
    let n = count_of context (arg_pair a).1 in
    record { faults = n.judgement.faults ++ depth_limit (out-Arg a).span.to n.count; reached = n.judgement.reached }

-- rule 2 at a string that another channel of the `config` has
abbrev pub string_faults : List (List ℕ) → Ident → List Fault
string_faults before name = breaks_if (is_in name.name before) rule.NAME_STANDS_ONCE name.span

-- the type environment behind these ends, which are no values
abbrev pub behind_ends : TypeEnv → Made → TypeEnv
behind_ends context made = record context { ends = made.names }

abbrev pub channel_found : TypeEnv → Made → Channel → Found
channel_found context made c =
    and_found (only_faults (local_name context made.names c.sender ++ local_name context (c.sender.name ∷ made.names) c.receiver ++ string_faults made.strings c.name))
    (and_found (found_in (channel_type (behind_ends context made) c.word)) (depth_found (behind_ends context made) c.depth))

abbrev pub made_with : TypeEnv → Made → Channel → Made
made_with context made c =
    let word = (typing_of_inner (behind_ends context made) c.word).ty in
    record {
      names = c.receiver.name ∷ c.sender.name ∷ made.names;
      channel_ends = record { name = c.sender.name; direction = Out; word = word } ∷ record { name = c.receiver.name; direction = In; word = word } ∷ made.channel_ends;
      strings = c.name.name ∷ made.strings;
    }

-- ---- spawns

-- rule 1: an end that isn't declared before
abbrev pub unknown_ends : List (List ℕ) → List Ident → List Fault
unknown_ends names [] = []
unknown_ends names (i ∷ is) = breaks_if (not (is_in i.name names)) rule.NAME_IS_DECLARED i.span ++ unknown_ends names is

-- an end has another direction or other words than the one that it is handed over as
abbrev pub misfits : Direction → Option DslxType → Option ChannelEnd → Bool
misfits direction word None = false
misfits direction word (Some o) = not (same_direction direction o.direction) || other_word word o.word
  where
    other_word : Option DslxType → Option DslxType → Bool
    other_word (Some t) (Some u) = not (same_type t u)
    other_word _ _ = false

-- rule 9 at the end's name
abbrev pub handed_faults : Made → List (Option DslxType) → List End → List Ident → List Fault
handed_faults made (t ∷ ts) (e ∷ es) (i ∷ is) =
    breaks_if (misfits e.direction t (channel_end_in i.name made.channel_ends)) rule.VALUE_HAS_ITS_TYPE i.span
    ++ handed_faults made ts es is
handed_faults made _ _ _ = []

abbrev pub given_found : List ParametricArgument → Found
given_found gs = record { faults = faults_of_all (given_judgements gs); reached = reached_of_all (given_judgements gs) }

-- the ends of a proc infer nothing
abbrev pub proc_parametric_args : GlobalEnv → Proc → List ParametricArgument → ParametricArgsSeen
proc_parametric_args known p given = parametric_args_seen known p.name.name [] [] (known_before []) p.parametrics given

abbrev pub right_spawn : TypeEnv → Made → Spawn → Proc → List Fault → ParametricArgsSeen → Found
right_spawn context made s target cyclic parametric_args =
    let declared = typing_there cyclic parametric_args in
    record {
      faults = cyclic ++ parametric_args.faults ++ declared.faults ++ breaks_if parametric_args.is_wrong rule.ARGUMENTS_FIT s.span
          ++ (if parametric_args.is_wrong then [] else handed_faults made (signature_seen context.known target.name.name parametric_args).arguments target.config.ends s.ends);
      reached = declared.reached ++ reached_by (is_refused cyclic parametric_args) target.name.name parametric_args.values;
    }

abbrev pub spawn_of : TypeEnv → Made → Spawn → List ParametricArgument → Option Proc → Found
spawn_of context made s given None = only_faults (breaks rule.NAME_IS_DECLARED s.target.span ∷ [])
spawn_of context made s given (Some target) =
    let cyclic = breaks_if (context.known.is_cyclic context.owner target.name.name) rule.NO_ITEM_REACHES_ITSELF s.span in
    if length s.ends == length target.config.ends && not (nat_lt (length target.parametrics) (length given))
    then right_spawn context made s target cyclic (proc_parametric_args context.known target given)
    else only_faults (cyclic ++ breaks rule.ARGUMENTS_FIT s.span ∷ [])

abbrev pub spawn_found : TypeEnv → Made → Spawn → Found
spawn_found context made s =
    let given = given_parametric_args (behind_ends context made) (map arg_pair s.arguments) in
    and_found (given_found given)
    (and_found (only_faults (unknown_ends made.names s.ends)) (spawn_of context made s given (as_proc (item_named s.target.name context.known.whole.items))))

-- ---- config

abbrev pub config_statements_found : TypeEnv → Made → List ConfigStatement → Found
config_statements_found context made [] = nothing_found
config_statements_found context made (config_statement.Channel c ∷ ms) = and_found (channel_found context made c) (config_statements_found context (made_with context made c) ms)
config_statements_found context made (config_statement.Spawn s ∷ ms) = and_found (spawn_found context made s) (config_statements_found context made ms)

abbrev pub made_at_end : TypeEnv → Made → List ConfigStatement → Made
made_at_end context made [] = made
made_at_end context made (config_statement.Channel c ∷ ms) = made_at_end context (made_with context made c) ms
made_at_end context made (config_statement.Spawn s ∷ ms) = made_at_end context made ms

abbrev pub made_at_start : TypeEnv → List End → Made
made_at_start context ends = record { names = end_names ends; channel_ends = map (channel_end_of context) ends; strings = [] }

abbrev pub ident_names : List Ident → List (List ℕ)
ident_names is = map (λ (i : Ident). i.name) is

-- the names of all ends that are used in a `config`
abbrev pub used_ends : List ConfigStatement → List Ident → List (List ℕ)
used_ends [] result = ident_names result
used_ends (config_statement.Channel c ∷ ms) result = used_ends ms result
used_ends (config_statement.Spawn s ∷ ms) result = ident_names s.ends ++ used_ends ms result

abbrev pub times_in : List ℕ → List (List ℕ) → ℕ
times_in name [] = 0
times_in name (n ∷ ns) = if bytes_eq name n then suc (times_in name ns) else times_in name ns

-- the tuple is the members in order
abbrev pub is_members : TypeEnv → List End → List Ident → Made → Bool
is_members context [] [] made = true
is_members context [] (i ∷ is) made = false
is_members context (e ∷ es) [] made = false
is_members context (e ∷ es) (i ∷ is) made =
    not (misfits e.direction (typing_of_inner context e.word).ty (channel_end_in i.name made.channel_ends)) && is_members context es is made

-- rule 30: an end isn't used once, or the tuple isn't the members
abbrev pub use_faults : TypeEnv → Proc → Made → List Fault
use_faults context p made =
    breaks_if (not (list_all (λ name. times_in name (used_ends p.config.config_statements p.config.result) == 1) made.names && is_members context p.members p.config.result made)) rule.CONFIG_USES_EACH_END p.config.span

abbrev pub config_found : TypeEnv → Proc → Found
config_found context p =
    let start = made_at_start context p.config.ends in
    let end = made_at_end context start p.config.config_statements in
    and_found (ends_found context [] p.config.ends)
    (and_found (config_statements_found context start p.config.config_statements)
    (only_faults (unknown_ends end.names p.config.result ++ use_faults context p end)))

-- ---- a proc

abbrev pub counts_site : StmtLayer → ℕ
counts_site (Stmt-F.Let l) = if is_effect (out-Let l).value then 1 else 0
counts_site (Stmt-F.Bare e) = if is_effect e then 1 else 0

abbrev pub count_sites : List Stmt → ℕ
count_sites [] = 0
count_sites (s ∷ ss) = counts_site (out-Stmt s) + count_sites ss

abbrev pub proc_type_env : GlobalEnv → Proc → List DslxValue → TypeEnv
proc_type_env known p parametric_args = item_type_env known p.name.name (parametric_args_bound [] p.parametrics parametric_args)

-- an instance of a proc: what its text breaks and reaches with these parametric arguments
abbrev pub proc_seen : GlobalEnv → Proc → List DslxValue → Found
proc_seen known p parametric_args =
    let context = proc_type_env known p parametric_args in
    let state = typing_of_type context p.next.ty in
    let inside = record context { members = map (channel_end_of context) p.members } in
    and_found (parametrics_found known p.name.name [] [] p.parametrics parametric_args)
    (and_found (ends_found context [] p.members)
    (and_found (config_found context p)
    (and_found (found_in state)
    (and_found (found_in (body_typing false inside state.ty p.init))
    (and_found (only_faults (local_name context [] p.next.state))
    (and_found (found_in (body_typing true (record inside { locals = record { name = p.next.state.name; ty = state.ty } ∷ [] }) state.ty p.next.body))
    (only_faults (passes_count what.Sites 32 p.span.to (count_sites (out-Block p.next.body).statements)))))))))
