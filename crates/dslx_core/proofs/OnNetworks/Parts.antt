-- The channels that a `config` makes, and the parametric arguments of its spawns.
use Rattle.std.proofs.Common.{◌≡◌, ◌++◌, ◌^◌, ℕ, suc, List, [], ◌∷◌, map, length, Option, Some, None, refl, sym, ap, ◌∙◌, arith}
use Rattle.std.specs.Prelude.{codes, nat_lt, unwrap_or}
use Rattle.net_core.specs.declared.net.Kind.TheVariants as kind
use Rattle.dslx_tree.specs.declared.block.Stmt.TheFolds.{fold_out-Arg}
use Rattle.dslx_tree.specs.declared.expr.Arg.{Arg, out-Arg}
use Rattle.dslx_tree.specs.declared.process.Proc.{Proc}
use Rattle.dslx_tree.specs.declared.process.Channel.{Channel}
use Rattle.dslx_tree.specs.declared.process.ConfigStatement.{ConfigStatement}
use Rattle.dslx_tree.specs.declared.process.ConfigStatement.TheVariants as config_statement
use Rattle.dslx_meaning.specs.Items.{all_parametric_args}
use Rattle.dslx_meaning.specs.Lists.{all_some, and_then, where_true}
use Rattle.dslx_meaning.specs.Meaning as m
use Rattle.dslx_meaning.specs.Meaning.{StmtDen, ExprDen, PatternDen, TypeDen, ValueDen, ArmDen, FieldDen, denotation, arg_denotation, size_of, values_of, written_type}
use Rattle.dslx_meaning.specs.Network.{depth_of, made_chan, made_chans, plain_or_unit, spawn_parametric_args}
use Rattle.dslx_meaning.specs.Types.{plain_type}
use Rattle.dslx_meaning.specs.declared.value.DslxValue.{DslxValue}
use Rattle.dslx_core.proofs.Lemmas.Typing.Typed.{all_are, all_there, list_parts, same_some}
use Rattle.dslx_core.specs.Designs.{made_of, no_function}
use Rattle.dslx_core.specs.declared.design.MadeChannel.{MadeChannel}
use Rattle.dslx_core.specs.Lowering.CoreScopes.{CoreScope, constant_at, size_at}
use Rattle.dslx_core.specs.Lowering.Correspondence.{SimulatesInScope, env_at}
use Rattle.dslx_core.specs.Lowering.Trees.{lower_type_of_text}
use Rattle.dslx_core.proofs.Lemmas.Lowering.{constant_means, from_both, from_then, from_where, size_means, type_of_text_means}
use Rattle.dslx_core.specs.Networks.Configs.{lower_channel, lower_depth, lower_made, lower_spawn_parametrics}

arg_means : (a : Arg) → arg_denotation a ≡ denotation (out-Arg a).value
arg_means a =
    fold_out-Arg StmtDen ExprDen PatternDen TypeDen ValueDen StmtDen ExprDen ArmDen ExprDen FieldDen ValueDen ExprDen PatternDen TypeDen
    m.stmt_den m.node_den m.shape_den m.type_den m.block_den m.let_den m.arg_den m.arm_den m.expr_den m.field_den m.for_den m.number_node m.pattern_den m.type_expr_den a

-- ---- channels

depth_means : (scope : CoreScope) (h : SimulatesInScope scope no_function scope.known.parametric_args []) (o : Option Arg) (d : ℕ) → lower_depth scope o ≡ Some d → depth_of (env_at scope scope.known.parametric_args) o ≡ d
depth_means scope h None d e = same_some 1 d e
depth_means scope h (Some a) d e =
    let n = from_then (size_at scope (out-Arg a).value) (λ d. where_true (nat_lt d (2 ^ 32)) (Some d)) d e in
    let w = from_where (nat_lt n.0 (2 ^ 32)) (Some n.0) d n.2 in
    ap (λ (x : ExprDen). depth_in (size_of x (env_at scope scope.known.parametric_args))) (arg_means a)
    ∙ ap depth_in (size_means scope no_function scope.known.parametric_args [] h (out-Arg a).value n.0 n.1) ∙ same_some n.0 d w.1
  where
    depth_in : Option ℕ → ℕ
    depth_in o = unwrap_or o 1

channel_means : (scope : CoreScope) → SimulatesInScope scope no_function scope.known.parametric_args [] → (path : List ℕ) (c : Channel) (made : MadeChannel) → lower_channel scope c ≡ Some made
    → made_of path made ≡ made_chan path (env_at scope scope.known.parametric_args) c
channel_means scope h path c made e =
    let q = from_both (lower_type_of_text c.word scope) (lower_depth scope c.depth) (λ t d. Some (record { name = c.name.name; ty = plain_type t; depth = d })) made e in
    let is = same_some (record { name = c.name.name; ty = plain_type q.0; depth = q.1 }) made q.4 in
    let word = type_of_text_means c.word scope no_function scope.known.parametric_args [] h q.0 q.2 in
    let depth = depth_means scope h c.depth q.1 q.3 in
    sym (ap (made_of path) is)
    ∙ λ i. record { name = path ++ codes "/" ++ c.name.name; ty = plain_or_unit (sym word i); kind = kind.Inner; depth = sym depth i }

pub made_means : (scope : CoreScope) → SimulatesInScope scope no_function scope.known.parametric_args [] → (path : List ℕ) (ms : List ConfigStatement) (made : List MadeChannel) → lower_made scope ms ≡ Some made
    → map (made_of path) made ≡ made_chans path (env_at scope scope.known.parametric_args) ms
made_means scope h path [] made e = sym (ap (map (made_of path)) (same_some [] made e))
made_means scope h path (config_statement.Spawn s ∷ ms) made e = made_means scope h path ms made e
made_means scope h path (config_statement.Channel c ∷ ms) made e =
    let q = from_both (lower_channel scope c) (lower_made scope ms) (λ c cs. Some (c ∷ cs)) made e in
    sym (ap (map (made_of path)) (same_some (q.0 ∷ q.1) made q.4)) ∙ λ i. channel_means scope h path c q.0 q.2 i ∷ made_means scope h path ms q.1 q.3 i

-- ---- parametric arguments

none_as_long : (n : ℕ) → 0 ≡ suc n → ⊥
none_as_long n e = omega (arith, e)

arguments_mean : (scope : CoreScope) → SimulatesInScope scope no_function scope.known.parametric_args [] → (as' : List Arg) (vs : List DslxValue) → map (λ (a : Arg). constant_at scope (out-Arg a).value) as' ≡ map Some vs
    → map (λ (e : ExprDen). e.value (env_at scope scope.known.parametric_args)) (map arg_denotation as') ≡ map Some vs
arguments_mean scope h [] [] e = refl
arguments_mean scope h [] (v ∷ vs) e = absurd (none_as_long (length (map Some vs)) (ap length e))
arguments_mean scope h (a ∷ as') [] e = absurd (none_as_long (length (map (λ (a : Arg). constant_at scope (out-Arg a).value) as')) (sym (ap length e)))
arguments_mean scope h (a ∷ as') (v ∷ vs) e =
    let q = list_parts (constant_at scope (out-Arg a).value) (Some v) (map (λ (a : Arg). constant_at scope (out-Arg a).value) as') (map Some vs) e in
    let first = ap (λ (x : ExprDen). x.value (env_at scope scope.known.parametric_args)) (arg_means a) ∙ constant_means scope no_function scope.known.parametric_args [] h (out-Arg a).value v q.0 in
    λ i. first i ∷ arguments_mean scope h as' vs q.1 i

pub parametric_args_mean : (scope : CoreScope) → SimulatesInScope scope no_function scope.known.parametric_args [] → (target : Proc) (as' : List Arg) (parametric_args : List DslxValue) → lower_spawn_parametrics scope target as' ≡ Some parametric_args
    → spawn_parametric_args scope.known.items (env_at scope scope.known.parametric_args) target as' ≡ Some parametric_args
parametric_args_mean scope h target as' parametric_args e =
    let vs = from_then (all_some (map (λ (a : Arg). constant_at scope (out-Arg a).value) as')) (all_parametric_args scope.known.items [] [] target.parametrics) parametric_args e in
    let given = arguments_mean scope h as' vs.0 (all_there (map (λ (a : Arg). constant_at scope (out-Arg a).value) as') vs.0 vs.1) in
    ap (λ os. and_then (all_some os) (all_parametric_args scope.known.items [] [] target.parametrics)) given
    ∙ ap (λ o. and_then o (all_parametric_args scope.known.items [] [] target.parametrics)) (all_are vs.0) ∙ vs.2
