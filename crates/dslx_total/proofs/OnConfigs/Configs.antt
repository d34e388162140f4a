-- The `config` of an instance of a proc that is checked becomes channels, children and members.
use Rattle.std.proofs.Common.{◌≡◌, ◌++◌, ◌==◌, ℕ, length, Bool, true, false, List, [], ◌∷◌, map, Option, Some, None, refl, ap, ◌∙◌}
use Rattle.std.specs.List.{list_all}
use Rattle.dslx_tree.specs.declared.expr.Arg.{Arg}
use Rattle.dslx_tree.specs.declared.item.Module.{Module}
use Rattle.dslx_tree.specs.declared.process.Channel.{Channel}
use Rattle.dslx_tree.specs.declared.process.ConfigStatement.{ConfigStatement}
use Rattle.dslx_tree.specs.declared.process.ConfigStatement.TheVariants as config_statement
use Rattle.dslx_tree.specs.declared.process.Proc.{Proc}
use Rattle.dslx_tree.specs.declared.process.Spawn.{Spawn}
use Rattle.dslx_meaning.specs.Environment.{Env}
use Rattle.dslx_meaning.specs.Items.{item_named, parametric_args_bound}
use Rattle.dslx_meaning.specs.Lists.{and_then, where_true, with_both}
use Rattle.dslx_meaning.specs.Network.{Held, as_proc}
use Rattle.dslx_meaning.specs.declared.value.DslxValue.{DslxValue}
use Rattle.dslx_meaning.specs.declared.value.UntypedLiteral.{UntypedLiteral}
use Rattle.dslx_meaning.specs.Rules.CallRules.{given_judgements, given_parametric_args}
use Rattle.dslx_meaning.specs.Rules.ConstantRules.{ConstantSeen, untyped_typing, constant_of, constant_or_untyped}
use Rattle.dslx_meaning.specs.Rules.TypeEnvs.{ExprPair, Instance, GlobalEnv, TypeEnv, alone, untyped_of, faults_of_all, span_of, within}
use Rattle.dslx_meaning.specs.Rules.Mentions.{arg_if, mentioned_in_type, parametric_names}
use Rattle.dslx_meaning.specs.Rules.ModuleRules.{is_reached}
use Rattle.dslx_meaning.specs.Rules.NodeRules.{arg_pair}
use Rattle.dslx_meaning.specs.Rules.ProcRules.{Made, behind_ends, channel_found, channel_type, depth_found, ends_found, made_at_end, made_at_start, made_with, config_statements_found, proc_type_env, spawn_found, spawn_of, unknown_ends, use_faults}
use Rattle.dslx_core.specs.Typing.TypingRelations.Reached.{AllNamed, MentionsReach}
use Rattle.dslx_core.proofs.Lemmas.Typing.TypingRelations.{argument_reaches, join, unmarked, written_type_reaches}
use Rattle.dslx_core.specs.declared.design.Child.{Child}
use Rattle.dslx_core.specs.declared.design.MadeChannel.{MadeChannel}
use Rattle.dslx_core.proofs.Lemmas.Typing.Depends.{NoProcs, no_proc_in_arg, no_proc_in_type}
use Rattle.dslx_core.proofs.Lemmas.Typing.Sound.{all_in, none_in}
use Rattle.dslx_core.specs.Typing.Typed.Complete.{IsComplete}
use Rattle.dslx_core.specs.Typing.Typed.WellTyped.{IsWellTypedEnv}
use Rattle.dslx_core.specs.Typing.Complete.HasValue.{AreTyped}
use Rattle.dslx_core.proofs.Lemmas.Typing.Complete.{item_env}
use Rattle.dslx_core.proofs.Lemmas.Typing.Accepted.{IsAccepted}
use Rattle.dslx_core.specs.Lowering.CoreScopes.{CoreScope}
use Rattle.dslx_core.specs.Networks.Configs.{ProcInstance, lower_channel, lower_child, lower_children, config_scope, lower_made, proc_instance_in, lower_spawn_parametrics}
use Rattle.dslx_core.specs.Networks.Ends.{end_numbers, numbered_ends}
use Rattle.dslx_total.proofs.OnFamilies.Acts.{parts_well_typed}
use Rattle.dslx_total.proofs.OnFamilies.Knows.{Knows, all_sound}
use Rattle.dslx_total.proofs.OnFamilies.Reached.{Listed, Passing, all}
use Rattle.dslx_total.proofs.OnFamilies.Spawns.{proc_named, spawn_there, well_behind}
use Rattle.dslx_total.proofs.OnFamilies.There.{IsThere, well}
use Rattle.dslx_total.specs.Configs.LowersTotally.{ConfigLowers}
use Rattle.dslx_total.specs.Configs.Spawned.{EachSpawn, HasItsInstance, SpawnsReached}
use Rattle.dslx_total.proofs.OnConfigs.Held.{AreNumbered, ParametricArgsThere, declared_numbered, parametric_args_there, stays}
use Rattle.dslx_total.proofs.OnConfigs.Texts.{TypesAreWritten, channel_there, given_there, none_made}

-- what a depth mentions
pub depth_none : (o : Option Arg) (bound : List (List ℕ)) → NoProcs (arg_if o bound)
depth_none None bound = tt
depth_none (Some a) bound = no_proc_in_arg a bound

-- a number without a type reaches nothing
constant_reaches : (P : List ℕ → Bool) (context : TypeEnv) (e : ExprPair) → AllNamed P (alone context e).reached → AllNamed P (constant_or_untyped context e).judgement.reached
constant_reaches P context e h = by_untyped (untyped_of e)
  where
    seen_by : Option UntypedLiteral → ConstantSeen
    seen_by None = constant_of context e
    seen_by (Some number) = record { judgement = untyped_typing; bare = Some number; value = None }

    by_untyped : (o : Option UntypedLiteral) → AllNamed P (seen_by o).judgement.reached
    by_untyped None = h
    by_untyped (Some number) = tt

pub depth_reaches : (P : List ℕ → Bool) (context : TypeEnv) (o : Option Arg) (bound : List (List ℕ)) → MentionsReach P context.known context.owner (arg_if o bound) → AllNamed P (depth_found context o).reached
depth_reaches P context None bound h = tt
depth_reaches P context (Some a) bound h = let e = (arg_pair a).1 in constant_reaches P context e (unmarked P (span_of e) (within context e) (argument_reaches P a bound false context h))

-- ---- a child

-- one before others
put_both : {A : Type 0} (o : Option A) (p : Option (List A)) (a : A) (as' : List A) → o ≡ Some a → p ≡ Some as' → with_both o p (λ c cs. Some (c ∷ cs)) ≡ Some (a ∷ as')
put_both o p a as' e f = λ i. with_both (e i) (f i) (λ c cs. Some (c ∷ cs))

-- a child, by its instance and its ends
abbrev with_ends : Proc → ℕ → List ℕ → Option Child
with_ends target k ends = where_true (length ends == length target.config.ends) (Some (record { instance = k; ends = ends }))

abbrev with_parametric_args : List Held → List ProcInstance → Spawn → Proc → List DslxValue → Option Child
with_parametric_args held procs s target parametric_args = with_both (proc_instance_in s.target.name parametric_args 0 procs) (end_numbers held s.ends) (with_ends target)

child_there : (m : Module) (scope : CoreScope) (held : List Held) (procs : List ProcInstance) (s : Spawn) (target : Proc) (parametric_args : List DslxValue) → as_proc (item_named s.target.name m.items) ≡ Some target
    → lower_spawn_parametrics scope target s.arguments ≡ Some parametric_args → (length s.ends == length target.config.ends) ≡ true → ParametricArgsThere held s.ends → (k : ℕ) → proc_instance_in s.target.name parametric_args 0 procs ≡ Some k
    → (c : Child) × (lower_child m scope held procs s ≡ Some c)
child_there m scope held procs s target parametric_args is given many ends k found = (
  record { instance = k; ends = ends.parametric_args },
  ap (λ o. and_then o (λ t. and_then (lower_spawn_parametrics scope t s.arguments) (with_parametric_args held procs s t))) is
      ∙ ap (λ o. and_then o (with_parametric_args held procs s target)) given
      ∙ (λ i. with_both (found i) (ends.are i) (with_ends target))
      ∙ ap (λ b. where_true b (Some (record { instance = k; ends = ends.parametric_args }))) (ap (λ n. n == length target.config.ends) ends.many ∙ many),
)

module _ (m : Module) (top : Option (List ℕ)) (s : IsAccepted m top) (known : GlobalEnv) (knows : Knows m top s known) (complete : IsComplete known) (typed : AreTyped known) (written : TypesAreWritten) where
  abbrev test : Instance → Bool
  test i = is_reached i (all m top s)

  module _ (p : Proc) (parametric_args : List DslxValue) (there : IsThere m top s known p parametric_args) where
    abbrev context : TypeEnv
    context = proc_type_env known p parametric_args

    abbrev env : Env
    env = item_env known (parametric_args_bound [] p.parametrics parametric_args)

    abbrev scope : CoreScope
    scope = config_scope known.items p parametric_args

    abbrev held : List Held
    held = numbered_ends p

    abbrev bound : List (List ℕ)
    bound = parametric_names p.parametrics

    sees : IsWellTypedEnv context env
    sees = well m top s known complete typed p parametric_args there

    -- what a `config` makes and spawns becomes something
    record StatementsLower (ms : List ConfigStatement) : Type 0 where
      made : List MadeChannel
      made_is : lower_made scope ms ≡ Some made
      spawns : EachSpawn (SpawnsReached m top scope) ms
      children : (instances : List ProcInstance) → EachSpawn (HasItsInstance m scope instances) ms → (cs : List Child) × (lower_children m scope held instances ms ≡ Some cs)

    -- a channel reaches sound instances
    channel_sound : (made : Made) (c : Channel) → Listed m top s (channel_found context made c).reached → list_all known.is_sound (channel_found context made c).reached ≡ true
    channel_sound made c r =
        let behind = behind_ends context made in
        let word = channel_type behind c.word in
        let depth = depth_found behind c.depth in
        let P = Passing m top s in
        all_sound m top s known knows (word.reached ++ depth.reached)
        (join P word.reached depth.reached
        (written_type_reaches P c.word bound behind (knows.reaching behind.owner (mentioned_in_type c.word bound) (no_proc_in_type c.word bound)))
        (depth_reaches P behind c.depth bound (knows.reaching behind.owner (arg_if c.depth bound) (depth_none c.depth bound)))) r

    config_statements_become : (made : Made) (ms : List ConfigStatement) → AreNumbered held (made_at_end context made ms).names → (config_statements_found context made ms).faults ≡ []
        → Listed m top s (config_statements_found context made ms).reached → StatementsLower ms
    config_statements_become made [] named f r = record { made = []; made_is = refl; spawns = tt; children = λ instances k. ([], refl) }
    config_statements_become made (config_statement.Channel c ∷ ms) named f r =
        let next = made_with context made c in
        let a = none_in (channel_found context made c).faults (config_statements_found context next ms).faults f in
        let b = all_in test (channel_found context made c).reached (config_statements_found context next ms).reached r in
        let first = channel_there known p parametric_args made (well_behind context env made sees) written c a.0 (channel_sound made c b.0) in
        let rest = config_statements_become next ms named a.1 b.1 in
        record {
          made = first.0 ∷ rest.made;
          made_is = put_both (lower_channel scope c) (lower_made scope ms) first.0 rest.made first.1 rest.made_is;
          spawns = rest.spawns;
          children = rest.children;
        }
    config_statements_become made (config_statement.Spawn sp ∷ ms) named f r =
        let a = none_in (spawn_found context made sp).faults (config_statements_found context made ms).faults f in
        let b = all_in test (spawn_found context made sp).reached (config_statements_found context made ms).reached r in
        let given = given_parametric_args (behind_ends context made) (map arg_pair sp.arguments) in
        let unknown = unknown_ends made.names sp.ends in
        let spawned = spawn_of context made sp given (as_proc (item_named sp.target.name known.whole.items)) in
        let declared = (none_in unknown spawned.faults (none_in (faults_of_all (given_judgements given)) (unknown ++ spawned.faults) a.0).1).0 in
        let t = spawn_there m top s known knows complete typed p parametric_args sees made sp bound a.0 b.0 in
        let gives = given_there known p parametric_args none_made sees t.target sp.arguments ∙ t.given in
        let ends = parametric_args_there held made.names (λ name q. named name (stays name context made ms q)) sp.ends declared in
        let rest = config_statements_become made ms named a.1 b.1 in
        record {
          made = rest.made;
          made_is = rest.made_is;
          spawns = (
            record {
              target = t.target;
              is = t.is;
              parametric_args = t.parametric_args;
              given = gives;
              checked = record { named = proc_named m sp.target.name t.target t.is; checked = t.among };
            },
            rest.spawns,
          );
          children = λ instances k.
              let found = k.0 t.target t.parametric_args t.is gives in
              let first = child_there m scope held instances sp t.target t.parametric_args t.is gives t.many ends found.0 found.1 in
              let others = rest.children instances k.1 in
              (first.0 ∷ others.0, put_both (lower_child m scope held instances sp) (lower_children m scope held instances ms) first.0 others.0 first.1 others.1);
        }

    pub config_lowers_to : ConfigLowers m known.items top p parametric_args
    config_lowers_to =
        let parts = parts_well_typed m top s known knows p parametric_args there.checked in
        let start = made_at_start context p.config.ends in
        let end = made_at_end context start p.config.config_statements in
        let made = config_statements_found context start p.config.config_statements in
        let outer = ends_found context [] p.config.ends in
        let unknown = unknown_ends end.names p.config.result in
        let used = use_faults context p end in
        let a = none_in made.faults (unknown ++ used) (none_in outer.faults (made.faults ++ (unknown ++ used)) parts.config).1 in
        let b = (all_in test made.reached [] (all_in test outer.reached (made.reached ++ []) parts.listed).1).0 in
        let named = declared_numbered context p in
        let become = config_statements_become start p.config.config_statements named a.0 b in
        let members = parametric_args_there held end.names named p.config.result (none_in unknown used a.1).0 in
        record {
          spawns = become.spawns;
          becomes = λ instances k.
              let children = become.children instances k in (
                record { made = become.made; children = children.0; members = members.parametric_args },
                λ i. and_then (become.made_is i) (λ made. with_both (children.1 i) (members.are i) (λ children members. Some (record { made = made; children = children; members = members }))),
              );
        }
