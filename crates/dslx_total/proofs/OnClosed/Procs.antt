-- What an instance of a proc breaks and reaches with other values of calls, where it mentions items alone of which both know the same.
use Rattle.std.proofs.Common.{◌≡◌, ◌&&◌, ◌++◌, ◌==◌, ℕ, length, Bool, true, false, not, if◌then◌else◌, List, [], ◌∷◌, map, Option, Some, None, refl, sym, ap, subst, ◌∙◌}
use Rattle.std.specs.Prelude.{flat_map, nat_lt}
use Rattle.std.specs.List.{list_all}
use Rattle.dslx_tree.specs.declared.block.Block.{Block, out-Block}
use Rattle.dslx_tree.specs.declared.block.Stmt.TheFolds.{fold_out-Arg}
use Rattle.dslx_tree.specs.declared.expr.Arg.{Arg, out-Arg}
use Rattle.dslx_tree.specs.declared.expr.Expr.{Expr, out-Expr}
use Rattle.dslx_tree.specs.declared.ident.Ident.{Ident}
use Rattle.dslx_tree.specs.declared.item.Definition.TheVariants as d
use Rattle.dslx_tree.specs.declared.item.Module.{Module}
use Rattle.dslx_tree.specs.declared.item.Parametric.{Parametric}
use Rattle.dslx_tree.specs.declared.process.Channel.{Channel}
use Rattle.dslx_tree.specs.declared.process.ConfigStatement.{ConfigStatement}
use Rattle.dslx_tree.specs.declared.process.ConfigStatement.TheVariants as config_statement
use Rattle.dslx_tree.specs.declared.process.Direction.TheVariants.{In, Out}
use Rattle.dslx_tree.specs.declared.process.End.{End}
use Rattle.dslx_tree.specs.declared.process.Proc.{Proc}
use Rattle.dslx_tree.specs.declared.process.Spawn.{Spawn}
use Rattle.dslx_tree.specs.declared.type_expr.TypeExpr.{TypeExpr, out-TypeExpr}
use Rattle.xb_span.specs.declared.fault.Fault.{Fault}
use Rattle.xb_span.specs.declared.limit.What.TheVariants as what
use Rattle.dslx_meaning.specs.Environment.{Given}
use Rattle.dslx_meaning.specs.Items.{item_named, parametric_args_bound}
use Rattle.dslx_meaning.specs.Network.{as_proc}
use Rattle.dslx_meaning.specs.declared.ty.DslxType.{DslxType}
use Rattle.dslx_meaning.specs.declared.value.DslxValue.{DslxValue}
use Rattle.dslx_meaning.specs.declared.value.UntypedLiteral.{UntypedLiteral}
use Rattle.dslx_meaning.specs.Rules.AggregateRules.{wanted_faults}
use Rattle.dslx_meaning.specs.Rules.CallRules.{Before, NotGiven, ParametricArgument, Unknown, Wrong, and_parametric, and_there, channel_end_in, default_value, given_parametric_args, in_type, known_before, not_given, nothing_there, number_before, of_type, parametric_args_seen, parametric_type, resolved_value, type_there, typing_there, without_default}
use Rattle.dslx_meaning.specs.Rules.ConstantRules.{ConstantSeen, constant_of, count_number, count_of, count_with, untyped_typing, with_size_limit}
use Rattle.dslx_meaning.specs.Rules.ItemRules.{Found, and_found, body_typing, bound_with, default_found, found_in, number_at, only_faults, parametric_args_behind, parametrics_found, typing_of_inner, typing_of_type}
use Rattle.dslx_meaning.specs.Rules.Mentions.{AsProc, Mention, arg_if, arm_mentions, block_mentions, config_statement_mentions, ends_mentions, expr_if, field_mentions, for_mentions, is_of_use, let_mentions, mention, mentioned, mentioned_in_arg, mentioned_in_block, mentioned_in_type, mentions_if, names_mentioned, node_mentions, parametric_names, parametrics_mentions, shape_mentions, stmt_mentions, type_mentions}
use Rattle.dslx_meaning.specs.Rules.Mentions.{Mentions, NamesBound}
use Rattle.dslx_meaning.specs.Rules.ModuleRules.{top_found}
use Rattle.dslx_meaning.specs.Rules.NameRules.{local_name}
use Rattle.dslx_meaning.specs.Rules.NodeRules.{arg_pair, block_pair, expr_pair, type_pair}
use Rattle.dslx_meaning.specs.Rules.ProcRules.{Made, channel_end_of, channel_found, channel_type, config_found, config_statements_found, count_sites, depth_found, depth_limit, end_names, ends_found, given_found, is_members, made_at_end, made_at_start, made_with, misfits, proc_parametric_args, proc_seen, right_spawn, spawn_found, spawn_of, string_faults, times_in, unknown_ends, use_faults, used_ends, word_limit}
use Rattle.dslx_meaning.specs.Rules.TypeEnvs.{ChannelEnd, DefaultSeen, ExprPair, GlobalEnv, Judgement, TypeEnv, Typed, breaks, breaks_if, passes_count, span_of, untyped_of}
use Rattle.dslx_meaning.specs.Rules.TypeRules.{unless_unit}
use Rattle.dslx_meaning.specs.Rules.Typings.{ArgPair}
use Rattle.dslx_core.proofs.Lemmas.Typing.Depends.{constant_alike, constant_same, den_parts, expression_alike, inner_same, sees_from, written_type_alike}
use Rattle.dslx_core.proofs.Lemmas.Typing.Laws.{and_true}
use Rattle.dslx_core.proofs.Lemmas.Typing.TypingRelations.{item_so_named}
use Rattle.dslx_core.specs.Typing.Depends.Alike.{GlobalsAgree, SeesAlike, in_globals}
use Rattle.dslx_core.specs.Typing.GlobalEnv.Filled.{refused}
use Rattle.dslx_total.specs.Instances.Denoted.{refused_default, with_calls}
use Rattle.dslx_total.proofs.OnExpressions.Joined.{seeing, seen}
use Rattle.dslx_total.proofs.OnFamilies.Reached.{ProcWithin, Within}
use Rattle.dslx_total.proofs.OnFamilies.Spawns.{proc_is}
use Rattle.dslx_total.proofs.OnFamilies.Tops.{top_instance}
use Rattle.dslx_total.proofs.OnOwn.OfTexts.{out_arg}

-- the law of blocks, as it is called
abbrev pub BlocksDepend : Type 0
BlocksDepend = (P : List ℕ → Bool) (b : Block) (bound : List (List ℕ)) (on_top : Bool) (context : TypeEnv) (other : GlobalEnv) → SeesAlike P bound context.owner context.known other (mentioned_in_block b bound)
    → (block_pair b).1 on_top context ≡ (block_pair b).1 on_top (in_globals context other)

-- ---- arguments

-- an argument is its expression, and mentions what that does
arg_is : (a : Arg) → (arg_pair a).1 ≡ expr_pair (out-Arg a).value
arg_is a = ap (λ (q : ArgPair). q.1) (out_arg seen seeing a)

arg_mentions : (a : Arg) → mentioned_in_arg a ≡ mentioned (out-Arg a).value
arg_mentions a =
    fold_out-Arg NamesBound Mentions NamesBound Mentions Mentions NamesBound Mentions Mentions Mentions Mentions Mentions Mentions NamesBound Mentions
    stmt_mentions node_mentions shape_mentions type_mentions block_mentions let_mentions (λ a. a.value) arm_mentions (λ e. e.node) field_mentions for_mentions (λ n. mentions_if n.ty) (λ p. p.shape) (λ t. t.node) a

-- ---- a proc that is mentioned

proc_mentioned : (P : List ℕ → Bool) (m : Module) (name : List ℕ) (p : Proc) → Within P m (mention AsProc name) → as_proc (item_named name m.items) ≡ Some p → P p.name.name ≡ true
proc_mentioned P m name p h e =
    let named = proc_is (item_named name m.items) p e in
    let own : (P name && true) ≡ true = (λ t. list_all P (if is_of_use AsProc (sym named t) then name ∷ [] else [])) ∙ h in
    ap P (item_so_named m.items name (d.Proc p) named) ∙ (and_true (P name) true own).0

-- ---- parametric arguments

module _ (P : List ℕ → Bool) (call : List ℕ → List DslxValue → List DslxValue → Option DslxValue) (known : GlobalEnv) (owner : List ℕ) (own : P owner ≡ true) where
  abbrev other : GlobalEnv
  other = with_calls P call known

  -- what is declared is the same
  parameter : (before : List (Option DslxValue)) → known.parameter_in owner before ≡ other.parameter_in owner before
  parameter before = λ t. if sym own t then known.parameter_in owner before else refused

  default : (before : List (Option DslxValue)) → known.default_in owner before ≡ other.default_in owner before
  default before = λ t. if sym own t then known.default_in owner before else refused_default

  abbrev default_from : DefaultSeen → Option DslxType → Expr → NotGiven
  default_from x t e = record {
    value = resolved_value (of_type t x.value);
    typing = record { faults = x.judgement.faults ++ wanted_faults (out-Expr e).span t x.judgement.ty; reached = x.judgement.reached };
  }

  type_alike : (before : Before) → parametric_type known owner before ≡ parametric_type other owner before
  type_alike before = λ t. unless_unit (parameter before.values t).ty

  there_alike : (before : Before) → type_there known owner before ≡ type_there other owner before
  there_alike before = λ t. if before.are_known then record { faults = (parameter before.values t).faults; reached = (parameter before.values t).reached } else nothing_there

  default_alike : (before : Before) (o : Option Expr) → default_value known owner before (parametric_type known owner before) o ≡ default_value other owner before (parametric_type other owner before) o
  default_alike before None = refl
  default_alike before (Some e) = λ t. if before.are_known then default_from (default before.values t) (type_alike before t) e else without_default Unknown

  not_given_alike : (before : Before) (p : Parametric) (b : Bool) (ns : List ℕ) → not_given known owner before p (parametric_type known owner before) b ns ≡ not_given other owner before p (parametric_type other owner before) b ns
  not_given_alike before p true ns = refl
  not_given_alike before p false [] = default_alike before p.default
  not_given_alike before p false (n ∷ ns) = λ t. without_default (if list_all (λ k. k == n) ns then in_type (type_alike before t) n else Wrong)

  pub args_alike : (before : Before) (ps : List Parametric) (gs : List ParametricArgument) → parametric_args_seen known owner [] [] before ps gs ≡ parametric_args_seen other owner [] [] before ps gs
  args_alike before [] [] = refl
  args_alike before [] (g ∷ gs) = refl
  args_alike before (p ∷ ps) (g ∷ gs) =
      let typed = type_alike before in
      let rest = args_alike (and_parametric before (resolved_value (of_type (parametric_type known owner before) g.seen.value))) ps gs
      ∙ (λ t. parametric_args_seen other owner [] [] (and_parametric before (resolved_value (of_type (typed t) g.seen.value))) ps gs) in
      λ t. number_before (resolved_value (of_type (typed t) g.seen.value)) (wanted_faults g.span (typed t) g.seen.judgement.ty) (there_alike before t) (rest t)
  args_alike before (p ∷ ps) [] =
      let given = not_given_alike before p false [] in
      let rest = args_alike (and_parametric before (not_given known owner before p (parametric_type known owner before) false []).value) ps [] ∙ (λ t. parametric_args_seen other owner [] [] (and_parametric before (given t).value) ps []) in
      λ t. number_before (given t).value [] (and_there (there_alike before t) (given t).typing) (rest t)

-- so is what the top comes to
pub top_alike : (P : List ℕ → Bool) (call : List ℕ → List DslxValue → List DslxValue → Option DslxValue) (known : GlobalEnv) (p : Proc) → P p.name.name ≡ true → top_found known (Some p) ≡ top_found (with_calls P call known) (Some p)
top_alike P call known p own =
    let n = args_alike P call known p.name.name own (known_before []) p.parametrics [] in
    λ t. record { faults = (n t).faults ++ (typing_there [] (n t)).faults; reached = (typing_there [] (n t)).reached ++ top_instance p (n t).values }

-- ---- a proc

module _ (P : List ℕ → Bool) (call : List ℕ → List DslxValue → List DslxValue → Option DslxValue) (m : Module) (known : GlobalEnv) (text : known.whole ≡ m) (agree : GlobalsAgree P known (with_calls P call known)) (p : Proc)
    (sees : (bound : List (List ℕ)) (ms : List Mention) → list_all P (names_mentioned m ms) ≡ true → SeesAlike P bound p.name.name known (with_calls P call known) ms) (blocks : BlocksDepend) where
  abbrev more : GlobalEnv
  more = with_calls P call known

  -- in its text
  abbrev env_in : GlobalEnv → List Given → List (List ℕ) → List Typed → List ChannelEnd → TypeEnv
  env_in k given ends locals members = record { known = k; owner = p.name.name; parametric_args = given; unknown = []; ends = ends; locals = locals; members = members; used = [] }

  abbrev plain_env : GlobalEnv → List Given → TypeEnv
  plain_env k given = env_in k given [] [] []

  -- ---- parts

  written_at : (given : List Given) (ends : List (List ℕ)) (t : TypeExpr) (bound : List (List ℕ)) → Within P m (mentioned_in_type t bound) → typing_of_type (env_in known given ends [] []) t ≡ typing_of_type (env_in more given ends [] []) t
  written_at given ends t bound h = written_type_alike P t bound (env_in known given ends [] []) more (sees_from P bound (env_in known given ends [] []) more (mentioned_in_type t bound) (sees bound (mentioned_in_type t bound) h))

  inner_at : (given : List Given) (ends : List (List ℕ)) (t : TypeExpr) (bound : List (List ℕ)) → Within P m (mentioned_in_type t bound) → typing_of_inner (env_in known given ends [] []) t ≡ typing_of_inner (env_in more given ends [] []) t
  inner_at given ends t bound h = inner_same (env_in known given ends [] []) more (type_pair t) (written_at given ends t bound h)

  abbrev with_word : TypeExpr → Judgement → Judgement
  with_word t j = record j { faults = j.faults ++ word_limit (out-TypeExpr t).span.to j.ty }

  word_at : (given : List Given) (ends : List (List ℕ)) (t : TypeExpr) (bound : List (List ℕ)) → Within P m (mentioned_in_type t bound) → channel_type (env_in known given ends [] []) t ≡ channel_type (env_in more given ends [] []) t
  word_at given ends t bound h = ap (with_word t) (inner_at given ends t bound h)

  expr_at : (given : List Given) (ends : List (List ℕ)) (e : Expr) (bound : List (List ℕ)) → Within P m (mentioned e bound) → constant_of (env_in known given ends [] []) (expr_pair e) ≡ constant_of (env_in more given ends [] []) (expr_pair e)
  expr_at given ends e bound h =
      constant_same P (env_in known given ends [] []) more (expr_pair e) agree (constant_alike P (expr_pair e) (mentioned e) (expression_alike P e) bound (env_in known given ends [] []) more (sees_from P bound (env_in known given ends [] []) more (mentioned e bound) (sees bound (mentioned e bound) h)))

  arg_at : (given : List Given) (ends : List (List ℕ)) (a : Arg) (bound : List (List ℕ)) → Within P m (mentioned_in_arg a bound) → constant_of (env_in known given ends [] []) (arg_pair a).1 ≡ constant_of (env_in more given ends [] []) (arg_pair a).1
  arg_at given ends a bound h =
      subst (λ (e : ExprPair). constant_of (env_in known given ends [] []) e ≡ constant_of (env_in more given ends [] []) e) (sym (arg_is a))
      (expr_at given ends (out-Arg a).value bound ((λ t. list_all P (names_mentioned m (sym (arg_mentions a) t bound))) ∙ h))

  abbrev seen_by : TypeEnv → ExprPair → Option UntypedLiteral → ConstantSeen
  seen_by context e None = constant_of context e
  seen_by context e (Some number) = record { judgement = untyped_typing; bare = Some number; value = None }

  count_at : (given : List Given) (ends : List (List ℕ)) (a : Arg) (bound : List (List ℕ)) → Within P m (mentioned_in_arg a bound) → count_of (env_in known given ends [] []) (arg_pair a).1 ≡ count_of (env_in more given ends [] []) (arg_pair a).1
  count_at given ends a bound h = ap (λ (c : ConstantSeen). count_with (span_of (arg_pair a).1) c (count_number c)) (by_untyped (untyped_of (arg_pair a).1))
    where
      by_untyped : (o : Option UntypedLiteral) → seen_by (env_in known given ends [] []) (arg_pair a).1 o ≡ seen_by (env_in more given ends [] []) (arg_pair a).1 o
      by_untyped None = arg_at given ends a bound h
      by_untyped (Some number) = refl

  body_at : (given : List Given) (locals : List Typed) (members : List ChannelEnd) (on_top : Bool) (wanted : Option DslxType) (body : Block) (bound : List (List ℕ)) → Within P m (mentioned_in_block body bound)
      → body_typing on_top (env_in known given [] locals members) wanted body ≡ body_typing on_top (env_in more given [] locals members) wanted body
  body_at given locals members on_top wanted body bound h =
      ap (λ (j : Judgement). with_size_limit more (out-Block body).span.to (record j { faults = j.faults ++ wanted_faults (out-Block body).span wanted j.ty }))
      (blocks P body bound on_top (env_in known given [] locals members) more (sees bound (mentioned_in_block body bound) h))

  -- ---- parametrics

  abbrev default_by : Option DslxType → Expr → ConstantSeen → Found
  default_by t e c = record { faults = c.judgement.faults ++ wanted_faults (out-Expr e).span t c.judgement.ty; reached = c.judgement.reached }

  default_at : (given : List Given) (t u : Option DslxType) → t ≡ u → (o : Option Expr) (bound : List (List ℕ)) → Within P m (expr_if o bound) → default_found (plain_env known given) t o ≡ default_found (plain_env more given) u o
  default_at given t u e None bound h = refl
  default_at given t u e (Some x) bound h = λ i. default_by (e i) x (expr_at given [] x bound h i)

  parametrics_at : (before : List (List ℕ)) (so_far : List Given) (ps : List Parametric) (values : List DslxValue) (bound : List (List ℕ)) → Within P m (parametrics_mentions ps bound)
      → parametrics_found known p.name.name before so_far ps values ≡ parametrics_found more p.name.name before so_far ps values
  parametrics_at before so_far [] values bound h = refl
  parametrics_at before so_far (q ∷ qs) values bound h =
      let front = den_parts P m (mentioned_in_type q.ty bound ++ expr_if q.default bound) (parametrics_mentions qs (q.name.name ∷ bound)) h in
      let both = den_parts P m (mentioned_in_type q.ty bound) (expr_if q.default bound) front.0 in
      let t = inner_at so_far [] q.ty bound both.0 in
      let default = default_at so_far _ _ (ap (λ (j : Judgement). j.ty) t) q.default bound both.1 in
      let rest = parametrics_at (q.name.name ∷ before) (bound_with so_far q (number_at values)) qs (parametric_args_behind values) (q.name.name ∷ bound) front.1 in
      λ i. and_found (only_faults (local_name (plain_env known so_far) before q.name)) (and_found (found_in (t i)) (and_found (default i) (rest i)))

  -- ---- ends

  ends_at : (given : List Given) (before : List (List ℕ)) (es : List End) (bound : List (List ℕ)) → Within P m (ends_mentions es bound) → ends_found (plain_env known given) before es ≡ ends_found (plain_env more given) before es
  ends_at given before [] bound h = refl
  ends_at given before (e ∷ es) bound h =
      let both = den_parts P m (mentioned_in_type e.word bound) (ends_mentions es bound) h in
      let word = word_at given [] e.word bound both.0 in
      let rest = ends_at given (e.name.name ∷ before) es bound both.1 in
      λ i. and_found (only_faults (local_name (plain_env known given) before e.name)) (and_found (found_in (word i)) (rest i))

  members_at : (given : List Given) (es : List End) (bound : List (List ℕ)) → Within P m (ends_mentions es bound) → map (channel_end_of (plain_env known given)) es ≡ map (channel_end_of (plain_env more given)) es
  members_at given [] bound h = refl
  members_at given (e ∷ es) bound h =
      let both = den_parts P m (mentioned_in_type e.word bound) (ends_mentions es bound) h in
      λ i. record { name = e.name.name; direction = e.direction; word = (inner_at given [] e.word bound both.0 i).ty } ∷ members_at given es bound both.1 i

  are_members_at : (given : List Given) (es : List End) (is : List Ident) (made : Made) (bound : List (List ℕ)) → Within P m (ends_mentions es bound) → is_members (plain_env known given) es is made ≡ is_members (plain_env more given) es is made
  are_members_at given [] [] made bound h = refl
  are_members_at given [] (x ∷ is) made bound h = refl
  are_members_at given (e ∷ es) [] made bound h = refl
  are_members_at given (e ∷ es) (x ∷ is) made bound h =
      let both = den_parts P m (mentioned_in_type e.word bound) (ends_mentions es bound) h in
      λ i. not (misfits e.direction (inner_at given [] e.word bound both.0 i).ty (channel_end_in x.name made.channel_ends)) && are_members_at given es is made bound both.1 i

  -- ---- channels

  depth_at : (given : List Given) (ends : List (List ℕ)) (o : Option Arg) (bound : List (List ℕ)) → Within P m (arg_if o bound) → depth_found (env_in known given ends [] []) o ≡ depth_found (env_in more given ends [] []) o
  depth_at given ends None bound h = refl
  depth_at given ends (Some a) bound h =
      let n = count_at given ends a bound h in
      λ i. record { faults = (n i).judgement.faults ++ depth_limit (out-Arg a).span.to (n i).count; reached = (n i).judgement.reached }

  channel_at : (given : List Given) (made : Made) (c : Channel) (bound : List (List ℕ)) → Within P m (mentioned_in_type c.word bound ++ arg_if c.depth bound) → channel_found (plain_env known given) made c ≡ channel_found (plain_env more given) made c
  channel_at given made c bound h =
      let both = den_parts P m (mentioned_in_type c.word bound) (arg_if c.depth bound) h in
      let context = plain_env known given in
      let names = (local_name context made.names c.sender ++ local_name context (c.sender.name ∷ made.names) c.receiver) ++ string_faults made.strings c.name in
      let word = word_at given made.names c.word bound both.0 in
      let depth = depth_at given made.names c.depth bound both.1 in
      λ i. and_found (only_faults names) (and_found (found_in (word i)) (depth i))

  abbrev made_by : Made → Channel → Option DslxType → Made
  made_by made c word = record {
    names = c.receiver.name ∷ c.sender.name ∷ made.names;
    channel_ends = record { name = c.sender.name; direction = Out; word = word } ∷ record { name = c.receiver.name; direction = In; word = word } ∷ made.channel_ends;
    strings = c.name.name ∷ made.strings;
  }

  made_with_at : (given : List Given) (made : Made) (c : Channel) (bound : List (List ℕ)) → Within P m (mentioned_in_type c.word bound ++ arg_if c.depth bound) → made_with (plain_env known given) made c ≡ made_with (plain_env more given) made c
  made_with_at given made c bound h =
      let both = den_parts P m (mentioned_in_type c.word bound) (arg_if c.depth bound) h in
      let word = inner_at given made.names c.word bound both.0 in
      λ i. made_by made c (word i).ty

  -- ---- spawns

  given_at : (given : List Given) (ends : List (List ℕ)) (as' : List Arg) (bound : List (List ℕ)) → Within P m (flat_map (λ (a : Arg). mentioned_in_arg a bound) as')
      → given_parametric_args (env_in known given ends [] []) (map arg_pair as') ≡ given_parametric_args (env_in more given ends [] []) (map arg_pair as')
  given_at given ends [] bound h = refl
  given_at given ends (a ∷ as') bound h =
      let both = den_parts P m (mentioned_in_arg a bound) (flat_map (λ (x : Arg). mentioned_in_arg x bound) as') h in
      λ i. record { span = span_of (arg_pair a).1; seen = arg_at given ends a bound both.0 i } ∷ given_at given ends as' bound both.1 i

  spawn_of_at : (given : List Given) (made : Made) (s : Spawn) (gs : List ParametricArgument) → Within P m (mention AsProc s.target.name) → (o : Option Proc) → as_proc (item_named s.target.name known.whole.items) ≡ o
      → spawn_of (plain_env known given) made s gs o ≡ spawn_of (plain_env more given) made s gs o
  spawn_of_at given made s gs h None q = refl
  spawn_of_at given made s gs h (Some target) q = by_count (length s.ends == length target.config.ends && not (nat_lt (length target.parametrics) (length gs)))
    where
      own : P target.name.name ≡ true
      own = proc_mentioned P m s.target.name target h ((λ t. as_proc (item_named s.target.name (sym text t).items)) ∙ q)

      cyclic : List Fault
      cyclic = breaks_if (known.is_cyclic p.name.name target.name.name) 3 s.span

      by_count : (b : Bool) → (if b then right_spawn (plain_env known given) made s target cyclic (proc_parametric_args known target gs) else only_faults (cyclic ++ breaks 10 s.span ∷ []))
          ≡ (if b then right_spawn (plain_env more given) made s target cyclic (proc_parametric_args more target gs) else only_faults (cyclic ++ breaks 10 s.span ∷ []))
      by_count true = ap (right_spawn (plain_env more given) made s target cyclic) (args_alike P call known target.name.name own (known_before []) target.parametrics gs)
      by_count false = refl

  spawn_at : (given : List Given) (made : Made) (s : Spawn) (bound : List (List ℕ)) → Within P m (mention AsProc s.target.name ++ flat_map (λ (a : Arg). mentioned_in_arg a bound) s.arguments)
      → spawn_found (plain_env known given) made s ≡ spawn_found (plain_env more given) made s
  spawn_at given made s bound h =
      let both = den_parts P m (mention AsProc s.target.name) (flat_map (λ (a : Arg). mentioned_in_arg a bound) s.arguments) h in
      let o = as_proc (item_named s.target.name known.whole.items) in
      let unknown = only_faults (unknown_ends made.names s.ends) in
      let gs = given_at given made.names s.arguments bound both.1 in
      let other = given_parametric_args (env_in more given made.names [] []) (map arg_pair s.arguments) in
      (λ i. and_found (given_found (gs i)) (and_found unknown (spawn_of (plain_env known given) made s (gs i) o)))
      ∙ ap (λ (x : Found). and_found (given_found other) (and_found unknown x)) (spawn_of_at given made s other both.0 o refl)

  -- ---- `config`

  statements_at : (given : List Given) (made : Made) (ms : List ConfigStatement) (bound : List (List ℕ)) → Within P m (flat_map (λ (x : ConfigStatement). config_statement_mentions x bound) ms)
      → config_statements_found (plain_env known given) made ms ≡ config_statements_found (plain_env more given) made ms
  statements_at given made [] bound h = refl
  statements_at given made (config_statement.Channel c ∷ ms) bound h =
      let both = den_parts P m (mentioned_in_type c.word bound ++ arg_if c.depth bound) (flat_map (λ (x : ConfigStatement). config_statement_mentions x bound) ms) h in
      let one = channel_at given made c bound both.0 in
      let rest = statements_at given (made_with (plain_env known given) made c) ms bound both.1 ∙ ap (λ (x : Made). config_statements_found (plain_env more given) x ms) (made_with_at given made c bound both.0) in
      λ i. and_found (one i) (rest i)
  statements_at given made (config_statement.Spawn s ∷ ms) bound h =
      let both = den_parts P m (mention AsProc s.target.name ++ flat_map (λ (a : Arg). mentioned_in_arg a bound) s.arguments) (flat_map (λ (x : ConfigStatement). config_statement_mentions x bound) ms) h in
      let one = spawn_at given made s bound both.0 in
      let rest = statements_at given made ms bound both.1 in
      λ i. and_found (one i) (rest i)

  end_at : (given : List Given) (made : Made) (ms : List ConfigStatement) (bound : List (List ℕ)) → Within P m (flat_map (λ (x : ConfigStatement). config_statement_mentions x bound) ms)
      → made_at_end (plain_env known given) made ms ≡ made_at_end (plain_env more given) made ms
  end_at given made [] bound h = refl
  end_at given made (config_statement.Channel c ∷ ms) bound h =
      let both = den_parts P m (mentioned_in_type c.word bound ++ arg_if c.depth bound) (flat_map (λ (x : ConfigStatement). config_statement_mentions x bound) ms) h in
      end_at given (made_with (plain_env known given) made c) ms bound both.1 ∙ ap (λ (x : Made). made_at_end (plain_env more given) x ms) (made_with_at given made c bound both.0)
  end_at given made (config_statement.Spawn s ∷ ms) bound h =
      end_at given made ms bound (den_parts P m (mention AsProc s.target.name ++ flat_map (λ (a : Arg). mentioned_in_arg a bound) s.arguments) (flat_map (λ (x : ConfigStatement). config_statement_mentions x bound) ms) h).1

  abbrev start_of : List ChannelEnd → Made
  start_of ends = record { names = end_names p.config.ends; channel_ends = ends; strings = [] }

  config_at : (given : List Given) → ProcWithin P m p → config_found (plain_env known given) p ≡ config_found (plain_env more given) p
  config_at given w =
      let bound = parametric_names p.parametrics in
      let ms = p.config.config_statements in
      let start = members_at given p.config.ends bound w.ends in
      let first = made_at_start (plain_env known given) p.config.ends in
      let outer = ends_at given [] p.config.ends bound w.ends in
      let statements = statements_at given first ms bound w.config_statements ∙ (λ i. config_statements_found (plain_env more given) (start_of (start i)) ms) in
      let last = made_at_end (plain_env known given) first ms in
      let end = end_at given first ms bound w.config_statements ∙ (λ i. made_at_end (plain_env more given) (start_of (start i)) ms) in
      let uses = ap (λ b. breaks_if (not (list_all (λ name. times_in name (used_ends ms p.config.result) == 1) last.names && b)) 30 p.config.span) (are_members_at given p.members p.config.result last bound w.members)
      ∙ ap (use_faults (plain_env more given) p) end in
      λ i. and_found (outer i) (and_found (statements i) (only_faults (unknown_ends (end i).names p.config.result ++ uses i)))

  -- ---- the whole

  pub proc_alike : ProcWithin P m p → (parametric_args : List DslxValue) → proc_seen known p parametric_args ≡ proc_seen more p parametric_args
  proc_alike w parametric_args =
      let bound = parametric_names p.parametrics in
      let given = parametric_args_bound [] p.parametrics parametric_args in
      let parametrics = parametrics_at [] [] p.parametrics parametric_args [] w.parametrics in
      let outer = ends_at given [] p.members bound w.members in
      let members = members_at given p.members bound w.members in
      let config = config_at given w in
      let state = written_at given [] p.next.ty bound w.state in
      let own = typing_of_type (plain_env known given) p.next.ty in
      let ends = map (channel_end_of (plain_env known given)) p.members in
      let init = body_at given [] ends false own.ty p.init bound w.init ∙ (λ i. body_typing false (env_in more given [] [] (members i)) (state i).ty p.init) in
      let next = body_at given (record { name = p.next.state.name; ty = own.ty } ∷ []) ends true own.ty p.next.body (p.next.state.name ∷ bound) w.next
      ∙ (λ i. body_typing true (env_in more given [] (record { name = p.next.state.name; ty = (state i).ty } ∷ []) (members i)) (state i).ty p.next.body) in
      let names = only_faults (local_name (plain_env known given) [] p.next.state) in
      let sites = only_faults (passes_count what.Sites 32 p.span.to (count_sites (out-Block p.next.body).statements)) in
      λ i. and_found (parametrics i) (and_found (outer i) (and_found (config i) (and_found (found_in (state i)) (and_found (found_in (init i)) (and_found names (and_found (found_in (next i)) sites))))))
