-- Types, values and depths in the text of a `config`: where nothing is wrong with them they become what they are known to be.
use Rattle.std.proofs.Common.{◌≡◌, ◌≤◌, ◌<◌, ◌++◌, ◌^◌, ℕ, Bool, true, false, if◌then◌else◌, List, [], ◌∷◌, map, Option, Some, None, arith, refl, sym, ap, ◌∙◌}
use Rattle.std.specs.Prelude.{nat_lt}
use Rattle.std.specs.List.{list_all, list_any}
use Rattle.std.proofs.lemmas.Bool.{ltb-false}
use Rattle.std.proofs.lemmas.Bool.Decides.{Decides-ltb}
use Rattle.xb_span.specs.declared.fault.Fault.TheVariants.{Passed}
use Rattle.xb_span.specs.declared.limit.What.TheVariants as what
use Rattle.dslx_tree.specs.declared.block.Stmt.TheFolds.{fold_out-Arg}
use Rattle.dslx_tree.specs.declared.expr.Arg.{Arg, out-Arg}
use Rattle.dslx_tree.specs.declared.process.Channel.{Channel}
use Rattle.dslx_tree.specs.declared.process.Proc.{Proc}
use Rattle.dslx_tree.specs.declared.type_expr.TypeExpr.{TypeExpr, out-TypeExpr}
use Rattle.dslx_meaning.specs.Environment.{Env}
use Rattle.dslx_meaning.specs.Items.{all_parametric_args, parametric_args_bound}
use Rattle.dslx_meaning.specs.Lists.{all_some, and_then, is_in, where_true, with_both}
use Rattle.dslx_meaning.specs.Meaning as m
use Rattle.dslx_meaning.specs.Meaning.{ArmDen, ValueDen, FieldDen, StmtDen, ExprDen, PatternDen, TypeDen, denotation, arg_denotation, size_of, value_of, written_type}
use Rattle.dslx_meaning.specs.Network.{spawn_parametric_args}
use Rattle.dslx_meaning.specs.Types.{plain_type}
use Rattle.dslx_meaning.specs.declared.ty.DslxType.{DslxType}
use Rattle.dslx_meaning.specs.declared.value.DslxValue.{DslxValue}
use Rattle.dslx_meaning.specs.Rules.ConstantRules.{count_of}
use Rattle.dslx_meaning.specs.Rules.ItemRules.{typing_of_inner, typing_of_type}
use Rattle.dslx_meaning.specs.Rules.TypeEnvs.{GlobalEnv, TypeEnv, found_number, passes}
use Rattle.dslx_meaning.specs.Rules.Mentions.{free_names, mentioned_in_type, value_names}
use Rattle.dslx_meaning.specs.Rules.NameRules.{local_name}
use Rattle.dslx_meaning.specs.Rules.NodeRules.{arg_pair, type_pair}
use Rattle.dslx_meaning.specs.Rules.ProcRules.{Made, behind_ends, channel_found, channel_type, depth_found, depth_limit, proc_type_env, string_faults, word_limit}
use Rattle.dslx_meaning.specs.Rules.TypeRules.{span_of_type, unit_faults}
use Rattle.dslx_core.specs.declared.design.MadeChannel.{MadeChannel}
use Rattle.dslx_core.specs.Typing.Typed.Complete.{IsWellTypedPart}
use Rattle.dslx_core.specs.Typing.Typed.WellTyped.{IsWellTypedEnv}
use Rattle.dslx_core.proofs.Lemmas.Typing.Typed.{size_is_denoted}
use Rattle.dslx_core.proofs.Lemmas.Typing.Sound.{all_in, argument_gives, count_has, none_in, some_fault, type_has_den}
use Rattle.dslx_core.proofs.Lemmas.Typing.Complete.{item_env}
use Rattle.dslx_core.specs.Lowering.CoreScopes.{CoreScope, constant_at, globals_env, size_at, unless_local}
use Rattle.dslx_core.specs.Lowering.Trees.{lower_type_of_text}
use Rattle.dslx_core.specs.Networks.Configs.{lower_channel, config_scope, lower_depth, lower_spawn_parametrics}
use Rattle.dslx_scope.specs.WrittenTypes.Seen.{type_sees_a_local}

-- written types become what they mean, unless they see a local
abbrev pub TypesAreWritten : Type 0
TypesAreWritten = (t : TypeExpr) (scope : CoreScope) → lower_type_of_text t scope ≡ unless_local (type_sees_a_local scope t) (written_type t (globals_env scope.known))

-- none of these is bound where nothing is
none_bound : (names : List (List ℕ)) → list_any (λ name. is_in name []) names ≡ false
none_bound [] = refl
none_bound (n ∷ ns) = none_bound ns

-- an argument means what its expression means
arg_means : (a : Arg) → arg_denotation a ≡ denotation (out-Arg a).value
arg_means a =
    fold_out-Arg StmtDen ExprDen PatternDen TypeDen ValueDen StmtDen ExprDen ArmDen ExprDen FieldDen ValueDen ExprDen PatternDen TypeDen
    m.stmt_den m.node_den m.shape_den m.type_den m.block_den m.let_den m.arg_den m.arm_den m.expr_den m.field_den m.for_den m.number_node m.pattern_den m.type_expr_den a

-- a depth within the limit is a number of 32 bits
within_limit : (at n : ℕ) → passes what.Depth 4096 at n ≡ [] → n ≤ 4096
within_limit at n e = by_test (nat_lt 4096 n) refl e
  where
    by_test : (b : Bool) → nat_lt 4096 n ≡ b → (if b then Passed at (record { what = what.Depth; found = found_number n; most = 4096 }) ∷ [] else []) ≡ [] → n ≤ 4096
    by_test true q f = some_fault (Passed at (record { what = what.Depth; found = found_number n; most = 4096 })) [] f
    by_test false q f = ltb-false 4096 n q

few_bits : (n : ℕ) → n ≤ 4096 → nat_lt n (2 ^ 32) ≡ true
few_bits n few = let less : n < 2 ^ 32 = omega (arith, few) in (Decides-ltb n (2 ^ 32)).1 less

-- where no end is declared before
abbrev pub none_made : Made
none_made = record { names = []; channel_ends = []; strings = [] }

module _ (known : GlobalEnv) (p : Proc) (parametric_args : List DslxValue) (made : Made) (h : IsWellTypedEnv (behind_ends (proc_type_env known p parametric_args) made) (item_env known (parametric_args_bound [] p.parametrics parametric_args))) where
  abbrev context : TypeEnv
  context = behind_ends (proc_type_env known p parametric_args) made

  abbrev env : Env
  env = item_env known (parametric_args_bound [] p.parametrics parametric_args)

  abbrev scope : CoreScope
  scope = config_scope known.items p parametric_args

  -- ---- types

  pub record TypeThere (t : TypeExpr) : Type 0 where
    pub ty : DslxType
    pub is : lower_type_of_text t scope ≡ Some ty

  pub type_there : TypesAreWritten → (t : TypeExpr) → IsWellTypedPart known (typing_of_type context t) → TypeThere t
  type_there written t well_typed =
      let stands = type_has_den t in
      let k = stands.known context env h well_typed in
      record { ty = k.0; is = written t scope ∙ ap (λ b. unless_local b (written_type t env)) (none_bound (value_names (mentioned_in_type t []))) ∙ (stands.means context env h k.0 k.1).0 }

  -- the type of a channel's words
  pub word_there : TypesAreWritten → (t : TypeExpr) → (channel_type context t).faults ≡ [] → list_all known.is_sound (channel_type context t).reached ≡ true → TypeThere t
  word_there written t f r =
      let own = typing_of_type context t in
      let unit = unit_faults (span_of_type (type_pair t)) own.ty in
      let limit = word_limit (out-TypeExpr t).span.to (typing_of_inner context t).ty in
      type_there written t (record { faults = (none_in own.faults unit (none_in (own.faults ++ unit) limit f).0).0; reached = r })

  -- ---- values

  value_there : (a : Arg) → constant_at scope (out-Arg a).value ≡ (arg_denotation a).value env
  value_there a = ap (λ b. unless_local b (value_of (out-Arg a).value env)) (none_bound (free_names (out-Arg a).value)) ∙ ap (λ (x : ExprDen). x.value env) (sym (arg_means a))

  values_there : (as' : List Arg) → map (λ (a : Arg). constant_at scope (out-Arg a).value) as' ≡ map (λ (e : ExprDen). e.value env) (map arg_denotation as')
  values_there [] = refl
  values_there (a ∷ as') = λ i. value_there a i ∷ values_there as' i

  -- the parametric arguments that a spawn gives
  pub given_there : (target : Proc) (as' : List Arg) → lower_spawn_parametrics scope target as' ≡ spawn_parametric_args known.items env target as'
  given_there target as' = ap (λ os. and_then (all_some os) (all_parametric_args known.items [] [] target.parametrics)) (values_there as')

  -- ---- channels

  depth_there : (o : Option Arg) → (depth_found context o).faults ≡ [] → list_all known.is_sound (depth_found context o).reached ≡ true → (d : ℕ) × (lower_depth scope o ≡ Some d)
  depth_there None f r = (1, refl)
  depth_there (Some a) f r =
      let e = (arg_pair a).1 in
      let n = count_of context e in
      let to = (out-Arg a).span.to in
      let q = none_in n.judgement.faults (depth_limit to n.count) f in
      let g = argument_gives a in
      let c = count_has context env e (arg_denotation a) g h (record { faults = q.0; reached = r }) in
      let few = few_bits c.0 (within_limit to c.0 (ap (depth_limit to) (sym c.1) ∙ q.1)) in
      let size : size_at scope (out-Arg a).value ≡ Some c.0 =
      ap (λ b. unless_local b (size_of (denotation (out-Arg a).value) env)) (none_bound (free_names (out-Arg a).value))
      ∙ ap (λ (x : ExprDen). size_of x env) (sym (arg_means a) ∙ sym g.is)
      ∙ size_is_denoted context env.bound e c.0 h.place c.1 in
      (c.0, ap (λ o. and_then o (λ d. where_true (nat_lt d (2 ^ 32)) (Some d))) size ∙ ap (λ b. where_true b (Some c.0)) few)

  pub channel_there : TypesAreWritten → (c : Channel) → (channel_found (proc_type_env known p parametric_args) made c).faults ≡ [] → list_all known.is_sound (channel_found (proc_type_env known p parametric_args) made c).reached ≡ true
      → (x : MadeChannel) × (lower_channel scope c ≡ Some x)
  channel_there written c f r =
      let word = channel_type context c.word in
      let depth = depth_found context c.depth in
      let names = (local_name context made.names c.sender ++ local_name context (c.sender.name ∷ made.names) c.receiver) ++ string_faults made.strings c.name in
      let a = none_in word.faults depth.faults (none_in names (word.faults ++ depth.faults) f).1 in
      let b = all_in known.is_sound word.reached depth.reached r in
      let t = word_there written c.word a.0 b.0 in
      let n = depth_there c.depth a.1 b.1 in (
        record { name = c.name.name; ty = plain_type t.ty; depth = n.0 },
        λ i. with_both (t.is i) (n.1 i) (λ t d. Some (record { name = c.name.name; ty = plain_type t; depth = d })),
      )
