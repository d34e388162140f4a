-- What declarations and instances reach with which nothing is wrong.
use Rattle.std.proofs.Common.{◌≡◌, ◌++◌, Bool, true, false, if◌then◌else◌, ℕ, List, [], ◌∷◌, map, Option, Some, None, refl, sym, ap, subst, ◌∙◌}
use Rattle.std.specs.List.{list_all}
use Rattle.std.specs.Str.{bytes_eq}
use Rattle.xb_span.specs.declared.fault.Fault.{Fault}
use Rattle.xb_span.specs.declared.limit.What.TheVariants as what
use Rattle.dslx_tree.specs.declared.block.Block.{out-Block}
use Rattle.dslx_tree.specs.declared.expr.Expr.{Expr}
use Rattle.dslx_tree.specs.declared.item.Definition.{Definition}
use Rattle.dslx_tree.specs.declared.item.Definition.TheVariants as d
use Rattle.dslx_tree.specs.declared.item.Field.{Field}
use Rattle.dslx_tree.specs.declared.item.Function.{Function}
use Rattle.dslx_tree.specs.declared.item.Item.{Item}
use Rattle.dslx_tree.specs.declared.item.Member.{Member}
use Rattle.dslx_tree.specs.declared.item.Parametric.{Parametric}
use Rattle.dslx_tree.specs.declared.process.End.{End}
use Rattle.dslx_tree.specs.declared.process.Proc.{Proc}
use Rattle.dslx_tree.specs.declared.type_expr.TypeExpr.{TypeExpr, out-TypeExpr}
use Rattle.dslx_meaning.specs.Environment.{Env, Given, bind}
use Rattle.dslx_meaning.specs.Inference.{Inferred}
use Rattle.dslx_meaning.specs.Items.{item_named, parametric_args_bound, with_number}
use Rattle.dslx_meaning.specs.Lists.{and_then, is_in}
use Rattle.dslx_meaning.specs.declared.ty.DslxType.{DslxType}
use Rattle.dslx_meaning.specs.declared.value.DslxValue.{DslxValue}
use Rattle.dslx_meaning.specs.declared.value.UntypedLiteral.{UntypedLiteral}
use Rattle.dslx_meaning.specs.Rules.AggregateRules.{range_faults, untyped_value, wanted_faults}
use Rattle.dslx_meaning.specs.Rules.CallRules.{Number, ParametricArgsSeen, ParametricArgument, Resolved, Unknown, Wrong, and_parametric, default_value, known_before, not_given, of_type, parametric_args_for, parametric_args_seen, parametric_type, resolved_value, type_there, value_before, channel_end_in}
use Rattle.dslx_meaning.specs.Rules.ConstantRules.{ConstantSeen, constant_of, is_empty, size_faults}
use Rattle.dslx_meaning.specs.Rules.ItemRules.{ConstantFound, Found, and_found, annotation_typing, arguments_found, arguments_typed, base_if_bits, body_typing, default_found, fields_found, found_in, function_seen, function_type_env, item_type_env, member_constant, members_found, only_faults, parametrics_found, result_typing, typing_of_inner, typing_of_type}
use Rattle.dslx_meaning.specs.Rules.ModuleRules.{default_if, default_known, globals_over, item_found, items_found}
use Rattle.dslx_meaning.specs.Rules.NameRules.{listed_name, local_name}
use Rattle.dslx_meaning.specs.Rules.NodeRules.{block_pair, expr_pair, type_pair}
use Rattle.dslx_meaning.specs.Rules.OperatorRules.{is_bits, unless_type}
use Rattle.dslx_meaning.specs.Rules.ProcRules.{channel_end_of, channel_type, count_sites, ends_found, proc_type_env, word_limit}
use Rattle.dslx_meaning.specs.Rules.TypeEnvs.{ChannelEnd, DefaultSeen, ExprPair, GlobalEnv, Instance, Judgement, TypeEnv, Typed, breaks_if, passes_count, span_of, untyped_of, with_typed}
use Rattle.dslx_meaning.specs.Rules.TypeRules.{span_of_type, unit_faults}
use Rattle.dslx_core.proofs.Lemmas.Typing.Complete.{item_env, item_typed, none_own}
use Rattle.dslx_core.proofs.Lemmas.Typing.Depends.{Stands, default_is, parameter_is, stands_next}
use Rattle.dslx_core.proofs.Lemmas.Typing.Sound.{all_in, none_in, type_has_den}
use Rattle.dslx_core.proofs.Lemmas.Typing.Typed.{bound_keeps, none_some, own_bound, own_more, same_some}
use Rattle.dslx_core.specs.Typing.Complete.Acts.{acts_found}
use Rattle.dslx_core.specs.Typing.Complete.HasValue.{AreTyped}
use Rattle.dslx_core.specs.Typing.Depends.Alike.{DeclaredAlike}
use Rattle.dslx_core.specs.Typing.Typed.Complete.{IsComplete, IsWellTypedPart}
use Rattle.dslx_core.specs.Typing.Typed.Declared.{IsDeclared}
use Rattle.dslx_core.specs.Typing.Typed.Numbers.{AllOwn, AreOwn}
use Rattle.dslx_core.specs.Typing.Typed.WellTyped.{IsWellTypedEnv, types_at}
use Rattle.dslx_total.proofs.OnExpressions.Inhabited.{some_value}
use Rattle.dslx_total.proofs.OnExpressions.OfInstances.{plain_name}
use Rattle.dslx_total.proofs.OnExpressions.OfProcs.{typed_with}
use Rattle.dslx_total.proofs.OnExpressions.Parts.{all_sound}
use Rattle.dslx_total.proofs.OnOwn.AtTop.{next_block_passes}
use Rattle.dslx_total.proofs.OnOwn.Joined.{block_of_text_passes, expression_passes, written_type_passes}
use Rattle.dslx_total.proofs.OnOwn.Passing.{CalleesPass, Passes, alone_passes, before_more, behind_more, both_pass, constant_passes, join}

-- ---- what a call reaches in the text of its callee is what the callee's instance reaches by its parametrics

-- a value that is known, and those behind it
record KnownBefore (r : Resolved) (o : Option (List DslxValue)) (vs : List DslxValue) : Type 0 where
  first : DslxValue
  rest : List DslxValue
  known : r ≡ Number first
  others : o ≡ Some rest
  all : (first ∷ rest) ≡ vs

known_apart : (r : Resolved) (o : Option (List DslxValue)) (vs : List DslxValue) → value_before r o ≡ Some vs → KnownBefore r o vs
known_apart (Number v) (Some ws) vs e = record { first = v; rest = ws; known = refl; others = refl; all = same_some (v ∷ ws) vs e }
known_apart (Number v) None vs e = none_some vs e
known_apart Unknown o vs e = none_some vs e
known_apart Wrong o vs e = none_some vs e

module _ (test : Instance → Bool) (known : GlobalEnv) (owner : List ℕ) (x : Definition) (named : item_named owner known.whole.items ≡ Some x) (alike : DeclaredAlike known (globals_over known) owner) where
  parameter_at : (before : List (Option DslxValue)) (so_far : List Given) (p : Parametric) (ps : List Parametric) → Stands owner x before so_far (p ∷ ps) → known.parameter_in owner before ≡ typing_of_inner (item_type_env known owner so_far) p.ty
  parameter_at before so_far p ps st = alike.parameter before ∙ parameter_is owner x before so_far p ps st known named

  default_at : (before : List (Option DslxValue)) (so_far : List Given) (p : Parametric) (ps : List Parametric) → Stands owner x before so_far (p ∷ ps) → (e : Expr) → p.default ≡ Some e → known.default_in owner before ≡ default_known (item_type_env known owner so_far) e
  default_at before so_far p ps st e q = alike.default before ∙ default_is owner x before so_far p ps st known named ∙ ap (default_if (item_type_env known owner so_far)) q

  -- a default that is used
  default_there : (before : List (Option DslxValue)) (so_far : List Given) (p : Parametric) (ps : List Parametric) → Stands owner x before so_far (p ∷ ps) → (t u : Option DslxType) (maybe : Bool) (ns : List ℕ)
      → list_all test (default_found (item_type_env known owner so_far) u p.default).reached ≡ true → list_all test (not_given known owner (known_before before) p t maybe ns).typing.reached ≡ true
  default_there before so_far p ps st t u true ns h = refl
  default_there before so_far p ps st t u false (n ∷ ns) h = refl
  default_there before so_far p ps st t u false [] h = by_default p.default refl h
    where
      by_default : (o : Option Expr) → p.default ≡ o → list_all test (default_found (item_type_env known owner so_far) u o).reached ≡ true → list_all test (default_value known owner (known_before before) t o).typing.reached ≡ true
      by_default None q g = refl
      by_default (Some e) q g = ap (λ (s : DefaultSeen). list_all test s.judgement.reached) (default_at before so_far p ps st e q) ∙ g

  pub declared_pass : (inferred : List Inferred) (maybe : List (List ℕ)) (names : List (List ℕ)) (before : List (Option DslxValue)) (so_far : List Given) (ps : List Parametric) (gs : List ParametricArgument) (vs : List DslxValue) → Stands owner x before so_far ps
      → (parametric_args_seen known owner inferred maybe (known_before before) ps gs).values ≡ Some vs → list_all test (parametrics_found known owner names so_far ps vs).reached ≡ true
      → list_all test (parametric_args_seen known owner inferred maybe (known_before before) ps gs).declared.reached ≡ true
  declared_pass inferred maybe names before so_far [] [] vs st e h = refl
  declared_pass inferred maybe names before so_far [] (g ∷ gs) vs st e h = none_some vs e
  declared_pass inferred maybe names before so_far (p ∷ ps) (g ∷ gs) vs st e h =
      let t = parametric_type known owner (known_before before) in
      let r = resolved_value (of_type t g.seen.value) in
      let rest : Resolved → ParametricArgsSeen = λ r. parametric_args_seen known owner inferred maybe (and_parametric (known_before before) r) ps gs in
      let a = known_apart r (rest r).values vs e in
      let own = typing_of_inner (item_type_env known owner so_far) p.ty in
      let default = default_found (item_type_env known owner so_far) own.ty p.default in
      let behind = parametrics_found known owner (p.name.name ∷ names) (with_number so_far p a.first) ps a.rest in
      let parts = all_in test own.reached (default.reached ++ behind.reached) (ap (λ vs. list_all test (parametrics_found known owner names so_far (p ∷ ps) vs).reached) a.all ∙ h) in
      let more = declared_pass inferred maybe (p.name.name ∷ names) (Some a.first ∷ before) (with_number so_far p a.first) ps gs a.rest (stands_next owner x before so_far p ps a.first st)
      (ap (λ r. (rest r).values) (sym a.known) ∙ a.others) (all_in test default.reached behind.reached parts.1).1 in
      both_pass test (type_there known owner (known_before before)).reached (rest r).declared.reached (ap (λ (j : Judgement). list_all test j.reached) (parameter_at before so_far p ps st) ∙ parts.0)
      (ap (λ r. list_all test (rest r).declared.reached) a.known ∙ more)
  declared_pass inferred maybe names before so_far (p ∷ ps) [] vs st e h =
      let t = parametric_type known owner (known_before before) in
      let may_be = is_in p.name.name maybe in
      let ns = parametric_args_for p.name.name inferred in
      let r = not_given known owner (known_before before) p t may_be ns in
      let rest : Resolved → ParametricArgsSeen = λ r. parametric_args_seen known owner inferred maybe (and_parametric (known_before before) r) ps [] in
      let a = known_apart r.value (rest r.value).values vs e in
      let own = typing_of_inner (item_type_env known owner so_far) p.ty in
      let default = default_found (item_type_env known owner so_far) own.ty p.default in
      let behind = parametrics_found known owner (p.name.name ∷ names) (with_number so_far p a.first) ps a.rest in
      let parts = all_in test own.reached (default.reached ++ behind.reached) (ap (λ vs. list_all test (parametrics_found known owner names so_far (p ∷ ps) vs).reached) a.all ∙ h) in
      let both = all_in test default.reached behind.reached parts.1 in
      let more = declared_pass inferred maybe (p.name.name ∷ names) (Some a.first ∷ before) (with_number so_far p a.first) ps [] a.rest (stands_next owner x before so_far p ps a.first st)
      (ap (λ r. (rest r).values) (sym a.known) ∙ a.others) both.1 in
      both_pass test ((type_there known owner (known_before before)).reached ++ r.typing.reached) (rest r.value).declared.reached
      (both_pass test (type_there known owner (known_before before)).reached r.typing.reached (ap (λ (j : Judgement). list_all test j.reached) (parameter_at before so_far p ps st) ∙ parts.0)
      (default_there before so_far p ps st t own.ty may_be ns both.0))
      (ap (λ r. list_all test (rest r).declared.reached) a.known ∙ more)

-- ---- parts of items

-- a member of an enum, which may be a number without a type
abbrev of_base : Option DslxType → ConstantSeen → List Fault → ConstantFound
of_base base c wrong = record { found = record { faults = c.judgement.faults ++ wrong; reached = c.judgement.reached }; value = and_then base (λ t. if is_empty wrong then c.value else None) }

abbrev number_in : Option DslxType → UntypedLiteral → Option DslxValue
number_in None number = None
number_in (Some t) number = untyped_value t number

abbrev pub member_by : TypeEnv → Option DslxType → ExprPair → Option UntypedLiteral → ConstantFound
member_by context base pair None = of_base base (constant_of context pair) (wanted_faults (span_of pair) base (constant_of context pair).judgement.ty)
member_by context base pair (Some number) = record { found = only_faults (range_faults (span_of pair) base number); value = number_in base number }

pub member_is : (context : TypeEnv) (base : Option DslxType) (x : Member) → member_constant context base x ≡ member_by context base (expr_pair x.value) (untyped_of (expr_pair x.value))
member_is context base x = refl

module _ (here test : Instance → Bool) (known : GlobalEnv) (complete : IsComplete known) (typed : AreTyped known) (callees : CalleesPass here test known) where
  abbrev Pass : Found → Type 0
  Pass found = Passes here test found.faults found.reached

  abbrev PassJudged : Judgement → Type 0
  PassJudged j = Passes here test j.faults j.reached

  -- types, constants and bodies in an environment
  module _ (context : TypeEnv) (env : Env) (h : IsWellTypedEnv context env) (same : context.known ≡ known) where
    there : CalleesPass here test context.known
    there = subst (CalleesPass here test) (sym same) callees

    pub type_passes : (t : TypeExpr) → PassJudged (typing_of_type context t)
    type_passes t = written_type_passes here test t context env h there

    pub inner_passes : (t : TypeExpr) → PassJudged (typing_of_inner context t)
    inner_passes t = let j = typing_of_type context t in before_more here test j.faults _ j.reached (type_passes t)

    pub constant_in_passes : (e : Expr) → PassJudged (constant_of context (expr_pair e)).judgement
    constant_in_passes e = constant_passes here test context (expr_pair e) (alone_passes here test context (expr_pair e) (expression_passes here test e false context env h there))

    pub default_passes : (t : Option DslxType) (o : Option Expr) → Pass (default_found context t o)
    default_passes t None = λ f r. refl
    default_passes t (Some e) = let c = constant_of context (expr_pair e) in before_more here test c.judgement.faults _ c.judgement.reached (constant_in_passes e)

    pub arguments_pass : (before : List (List ℕ)) (fs : List Field) → Pass (arguments_found context before fs)
    arguments_pass before [] = λ f r. refl
    arguments_pass before (g ∷ fs) =
        let j = typing_of_inner context g.ty in
        let rest = arguments_found context (g.name.name ∷ before) fs in
        behind_more here test (local_name context before g.name) (j.faults ++ rest.faults) (j.reached ++ rest.reached) (join here test j.faults rest.faults j.reached rest.reached (inner_passes g.ty) (arguments_pass (g.name.name ∷ before) fs))

    pub result_passes : (o : Option TypeExpr) → PassJudged (result_typing context o)
    result_passes None = λ f r. refl
    result_passes (Some t) = type_passes t

    pub channel_passes : (t : TypeExpr) → PassJudged (channel_type context t)
    channel_passes t = let j = typing_of_inner context t in before_more here test j.faults (word_limit (out-TypeExpr t).span.to j.ty) j.reached (inner_passes t)

    pub ends_pass : (before : List (List ℕ)) (es : List End) → Pass (ends_found context before es)
    ends_pass before [] = λ f r. refl
    ends_pass before (e ∷ es) =
        let j = channel_type context e.word in
        let rest = ends_found context (e.name.name ∷ before) es in
        behind_more here test (local_name context before e.name) (j.faults ++ rest.faults) (j.reached ++ rest.reached) (join here test j.faults rest.faults j.reached rest.reached (channel_passes e.word) (ends_pass (e.name.name ∷ before) es))

    -- a type that is known
    pub inner_there : (t : TypeExpr) → IsWellTypedPart context.known (typing_of_inner context t) → (u : DslxType) × ((typing_of_inner context t).ty ≡ Some u) × IsDeclared (types_at context) u
    inner_there t well_typed =
        let j = typing_of_type context t in
        let k = (type_has_den t).known context env h (record { faults = (none_in j.faults (unit_faults (span_of_type (type_pair t)) j.ty) well_typed.faults).0; reached = well_typed.reached }) in
        (k.0, k.1, ((type_has_den t).means context env h k.0 k.1).1)

    -- behind arguments, each a local binding, the type environment is well typed
    pub behind_arguments : (before : List (List ℕ)) (fs : List Field) → (arguments_found context before fs).faults ≡ [] → list_all context.known.is_sound (arguments_found context before fs).reached ≡ true
        → (locals : List Typed) (inner : Env) → IsWellTypedEnv (with_typed context locals) inner → (last : Env) × IsWellTypedEnv (with_typed context (arguments_typed context locals fs)) last
    behind_arguments before [] f r locals inner at = (inner, at)
    behind_arguments before (g ∷ fs) f r locals inner at =
        let j = typing_of_inner context g.ty in
        let rest = arguments_found context (g.name.name ∷ before) fs in
        let a = none_in (local_name context before g.name) (j.faults ++ rest.faults) f in
        let b = none_in j.faults rest.faults a.1 in
        let k = all_in context.known.is_sound j.reached rest.reached r in
        let t = inner_there g.ty (record { faults = b.0; reached = k.0 }) in
        let v = some_value (types_at context) h.known.parts t.0 t.2 in
        let bound = bound_keeps context locals inner g.name.name t.0 v.0 at v.1 (plain_name context h.known before g.name a.0) in
        behind_arguments (g.name.name ∷ before) fs b.1 k.1 (record { name = g.name.name; ty = j.ty } ∷ locals) (bind g.name.name v.0 inner)
        (subst (λ o. IsWellTypedEnv (with_typed context (record { name = g.name.name; ty = o } ∷ locals)) (bind g.name.name v.0 inner)) (sym t.1) bound)

    -- the words of ends have types
    pub ends_typed : (before : List (List ℕ)) (es : List End) → (ends_found context before es).faults ≡ [] → list_all context.known.is_sound (ends_found context before es).reached ≡ true
        → (name : List ℕ) (o : ChannelEnd) → channel_end_in name (map (channel_end_of context) es) ≡ Some o → (t : DslxType) × (o.word ≡ Some t) × IsDeclared (types_at context) t
    ends_typed before [] f r name o q = none_some o q
    ends_typed before (e ∷ es) f r name o q =
        let j = channel_type context e.word in
        let own = typing_of_inner context e.word in
        let rest = ends_found context (e.name.name ∷ before) es in
        let a = none_in j.faults rest.faults (none_in (local_name context before e.name) (j.faults ++ rest.faults) f).1 in
        let k = all_in context.known.is_sound j.reached rest.reached r in
        let t = inner_there e.word (record { faults = (none_in own.faults (word_limit (out-TypeExpr e.word).span.to own.ty) a.0).0; reached = k.0 }) in
        by_name (bytes_eq name e.name.name) q t (ends_typed (e.name.name ∷ before) es a.1 k.1 name o)
      where
        by_name : (b : Bool) → (if b then Some (channel_end_of context e) else channel_end_in name (map (channel_end_of context) es)) ≡ Some o
            → (t : DslxType) × ((typing_of_inner context e.word).ty ≡ Some t) × IsDeclared (types_at context) t
            → (channel_end_in name (map (channel_end_of context) es) ≡ Some o → (t : DslxType) × (o.word ≡ Some t) × IsDeclared (types_at context) t) → (t : DslxType) × (o.word ≡ Some t) × IsDeclared (types_at context) t
        by_name true g t more = (t.0, ap (λ (c : ChannelEnd). c.word) (sym (same_some (channel_end_of context e) o g)) ∙ t.1, t.2)
        by_name false g t more = more g

  -- ---- instances

  -- the environment in the text of an item, outside all blocks
  placed : (owner : List ℕ) (so_far : List Given) → AreOwn known.items.type_named so_far → IsWellTypedEnv (item_type_env known owner so_far) (item_env known so_far)
  placed owner so_far own = item_typed known complete typed owner so_far own

  one_parametric : (owner : List ℕ) (before : List (List ℕ)) (so_far : List Given) → AreOwn known.items.type_named so_far → (p : Parametric) (rest : Found) → Pass rest
      → Passes here test (local_name (item_type_env known owner so_far) before p.name ++ ((typing_of_inner (item_type_env known owner so_far) p.ty).faults
      ++ ((default_found (item_type_env known owner so_far) (typing_of_inner (item_type_env known owner so_far) p.ty).ty p.default).faults ++ rest.faults)))
      ((typing_of_inner (item_type_env known owner so_far) p.ty).reached ++ ((default_found (item_type_env known owner so_far) (typing_of_inner (item_type_env known owner so_far) p.ty).ty p.default).reached ++ rest.reached))
  one_parametric owner before so_far own p rest more =
      let context = item_type_env known owner so_far in
      let env = item_env known so_far in
      let place = placed owner so_far own in
      let j = typing_of_inner context p.ty in
      let default = default_found context j.ty p.default in
      behind_more here test (local_name context before p.name) (j.faults ++ (default.faults ++ rest.faults)) (j.reached ++ (default.reached ++ rest.reached))
      (join here test j.faults (default.faults ++ rest.faults) j.reached (default.reached ++ rest.reached) (inner_passes context env place refl p.ty)
      (join here test default.faults rest.faults default.reached rest.reached (default_passes context env place refl j.ty p.default) more))

  pub parametrics_pass : (owner : List ℕ) (before : List (List ℕ)) (so_far : List Given) → AreOwn known.items.type_named so_far → (ps : List Parametric) (vs : List DslxValue) → AllOwn known.items.type_named vs → Pass (parametrics_found known owner before so_far ps vs)
  parametrics_pass owner before so_far own [] vs all = λ f r. refl
  parametrics_pass owner before so_far own (p ∷ ps) [] all =
      one_parametric owner before so_far own p (parametrics_found known owner (p.name.name ∷ before) so_far ps []) (parametrics_pass owner (p.name.name ∷ before) so_far own ps [] tt)
  parametrics_pass owner before so_far own (p ∷ ps) (v ∷ vs) all =
      one_parametric owner before so_far own p (parametrics_found known owner (p.name.name ∷ before) (with_number so_far p v) ps vs)
      (parametrics_pass owner (p.name.name ∷ before) (with_number so_far p v) (own_more known.items.type_named so_far p v own all.0) ps vs all.1)

  pub function_passes : (f : Function) (parametric_args : List DslxValue) → AllOwn known.items.type_named parametric_args → Pass (function_seen known f parametric_args).found
  function_passes f parametric_args own e0 r0 =
      let context = function_type_env known f parametric_args in
      let bound = parametric_args_bound [] f.parametrics parametric_args in
      let env = item_env known bound in
      let place = placed f.name.name bound (own_bound known.items.type_named [] f.parametrics parametric_args (none_own known) own) in
      let parametrics = parametrics_found known f.name.name [] [] f.parametrics parametric_args in
      let arguments = arguments_found context [] f.arguments in
      let result = result_typing context f.result in
      let inner = with_typed context (arguments_typed context [] f.arguments) in
      let body = body_typing false inner result.ty f.body in
      let a = none_in parametrics.faults (arguments.faults ++ (result.faults ++ body.faults)) e0 in
      let b = none_in arguments.faults (result.faults ++ body.faults) a.1 in
      let c = none_in result.faults body.faults b.1 in
      let p = all_in here parametrics.reached (arguments.reached ++ (result.reached ++ body.reached)) r0 in
      let q = all_in here arguments.reached (result.reached ++ body.reached) p.1 in
      let r = all_in here result.reached body.reached q.1 in
      let last = behind_arguments context env place refl [] f.arguments b.0 (all_sound here known.is_sound callees.sound arguments.reached q.0) [] env place in
      let j = (block_pair f.body).1 false inner in
      let wrong = wanted_faults (out-Block f.body).span result.ty j.ty in
      let size = size_faults known (out-Block f.body).span.to (record j { faults = j.faults ++ wrong }) in
      let faults = (none_in j.faults wrong (none_in (j.faults ++ wrong) size c.1).0).0 in
      both_pass test parametrics.reached (arguments.reached ++ (result.reached ++ body.reached)) (parametrics_pass f.name.name [] [] (none_own known) f.parametrics parametric_args own a.0 p.0)
      (both_pass test arguments.reached (result.reached ++ body.reached) (arguments_pass context env place refl [] f.arguments b.0 q.0)
      (both_pass test result.reached body.reached (result_passes context env place refl f.result c.0 r.0) (block_of_text_passes here test f.body inner last.0 last.1 callees faults r.1)))

  pub acts_pass : (p : Proc) (parametric_args : List DslxValue) → AllOwn known.items.type_named parametric_args → Pass (acts_found known p parametric_args)
  acts_pass p parametric_args own e0 r0 =
      let context = proc_type_env known p parametric_args in
      let bound = parametric_args_bound [] p.parametrics parametric_args in
      let env = item_env known bound in
      let place = placed p.name.name bound (own_bound known.items.type_named [] p.parametrics parametric_args (none_own known) own) in
      let name = p.next.state.name in
      let body = p.next.body in
      let state = typing_of_type context p.next.ty in
      let members = map (channel_end_of context) p.members in
      let inside : TypeEnv = record context { members = members } in
      let local : Typed = record { name = name; ty = state.ty } in
      let inner : TypeEnv = record inside { locals = local ∷ [] } in
      let typing = body_typing true inner state.ty body in
      let parametrics = parametrics_found known p.name.name [] [] p.parametrics parametric_args in
      let ends = ends_found context [] p.members in
      let init = body_typing false inside state.ty p.init in
      let names = local_name context [] p.next.state in
      let sites = only_faults (passes_count what.Sites 32 p.span.to (count_sites (out-Block body).statements)) in
      let f7 = and_found (found_in typing) sites in
      let f6 = and_found (found_in state) f7 in
      let f5 = and_found (only_faults names) f6 in
      let f4 = and_found (found_in init) f5 in
      let f2 = and_found ends f4 in
      let a1 = none_in parametrics.faults f2.faults e0 in
      let a2 = none_in ends.faults f4.faults a1.1 in
      let a4 = none_in init.faults f5.faults a2.1 in
      let a5 = none_in names f6.faults a4.1 in
      let a6 = none_in state.faults f7.faults a5.1 in
      let a7 = none_in typing.faults sites.faults a6.1 in
      let r1 = all_in here parametrics.reached f2.reached r0 in
      let r2 = all_in here ends.reached f4.reached r1.1 in
      let r4 = all_in here init.reached f5.reached r2.1 in
      let r6 = all_in here state.reached f7.reached r4.1 in
      let r7 = all_in here typing.reached sites.reached r6.1 in
      let sound = all_sound here known.is_sound callees.sound in
      let known_type = (type_has_den p.next.ty).known context env place (record { faults = a6.0; reached = sound state.reached r6.0 }) in
      let declared = ((type_has_den p.next.ty).means context env place known_type.0 known_type.1).1 in
      let v = some_value (types_at context) place.known.parts known_type.0 declared in
      let at = subst (λ o. IsWellTypedEnv (with_typed context (record { name = name; ty = o } ∷ [])) (bind name v.0 env)) (sym known_type.1) (bound_keeps context [] env name known_type.0 v.0 place v.1 (plain_name context complete [] p.next.state a5.0)) in
      let ends_there = ends_typed context env place refl [] p.members a2.0 (sound ends.reached r2.0) in
      let first = (block_pair p.init).1 false inside in
      let first_wrong = wanted_faults (out-Block p.init).span state.ty first.ty in
      let first_faults = (none_in first.faults first_wrong (none_in (first.faults ++ first_wrong) (size_faults known (out-Block p.init).span.to (record first { faults = first.faults ++ first_wrong })) a4.0).0).0 in
      let j = (block_pair body).1 true inner in
      let wrong = wanted_faults (out-Block body).span state.ty j.ty in
      let faults = (none_in j.faults wrong (none_in (j.faults ++ wrong) (size_faults known (out-Block body).span.to (record j { faults = j.faults ++ wrong })) a7.0).0).0 in
      both_pass test parametrics.reached f2.reached (parametrics_pass p.name.name [] [] (none_own known) p.parametrics parametric_args own a1.0 r1.0)
      (both_pass test ends.reached f4.reached (ends_pass context env place refl [] p.members a2.0 r2.0)
      (both_pass test init.reached f5.reached (block_of_text_passes here test p.init inside env (typed_with context members env place) callees first_faults r4.0)
      (both_pass test state.reached f7.reached (type_passes context env place refl p.next.ty a6.0 r6.0)
      (both_pass test typing.reached sites.reached
      (next_block_passes here test body inner (bind name v.0 env) (typed_with (with_typed context (local ∷ [])) members (bind name v.0 env) at) callees ends_there faults r7.0) refl))))

  -- ---- other items

  annotation_passes : (owner : List ℕ) (o : Option TypeExpr) → PassJudged (annotation_typing (item_type_env known owner []) o)
  annotation_passes owner None = λ f r. refl
  annotation_passes owner (Some t) = type_passes (item_type_env known owner []) (item_env known []) (placed owner [] (none_own known)) refl t

  fields_pass : (owner : List ℕ) (before : List (List ℕ)) (fs : List Field) → Pass (fields_found (item_type_env known owner []) before fs)
  fields_pass owner before [] = λ f r. refl
  fields_pass owner before (g ∷ fs) =
      let context = item_type_env known owner [] in
      let j = typing_of_inner context g.ty in
      let rest = fields_found context (g.name.name ∷ before) fs in
      behind_more here test (listed_name before g.name) (j.faults ++ rest.faults) (j.reached ++ rest.reached)
      (join here test j.faults rest.faults j.reached rest.reached (inner_passes context (item_env known []) (placed owner [] (none_own known)) refl g.ty) (fields_pass owner (g.name.name ∷ before) fs))

  member_passes : (owner : List ℕ) (base : Option DslxType) (x : Member) → Pass (member_constant (item_type_env known owner []) base x).found
  member_passes owner base x = subst (λ (c : ConstantFound). Pass c.found) (sym (member_is (item_type_env known owner []) base x)) (by_untyped (untyped_of (expr_pair x.value)))
    where
      by_untyped : (o : Option UntypedLiteral) → Pass (member_by (item_type_env known owner []) base (expr_pair x.value) o).found
      by_untyped None =
          let c = constant_of (item_type_env known owner []) (expr_pair x.value) in
          before_more here test c.judgement.faults _ c.judgement.reached (constant_in_passes (item_type_env known owner []) (item_env known []) (placed owner [] (none_own known)) refl x.value)
      by_untyped (Some number) = λ f r. refl

  members_pass : (owner : List ℕ) (base : Option DslxType) (before : List (List ℕ)) (ms : List Member) → Pass (members_found (item_type_env known owner []) base before ms)
  members_pass owner base before [] = λ f r. refl
  members_pass owner base before (x ∷ ms) =
      let context = item_type_env known owner [] in
      let found = (member_constant context base x).found in
      let rest = members_found context base (x.name.name ∷ before) ms in
      behind_more here test (listed_name before x.name) (found.faults ++ rest.faults) (found.reached ++ rest.reached)
      (join here test found.faults rest.faults found.reached rest.reached (member_passes owner base x) (members_pass owner base (x.name.name ∷ before) ms))

  item_passes : (x : Definition) → Pass (item_found known x)
  item_passes (d.Function f) = λ e r. refl
  item_passes (d.Proc p) = λ e r. refl
  item_passes (d.Constant c) =
      let context = item_type_env known c.name.name [] in
      let written = annotation_typing context c.ty in
      let value = (constant_of context (expr_pair c.value)).judgement in
      before_more here test (written.faults ++ value.faults) _ (written.reached ++ value.reached)
      (join here test written.faults value.faults written.reached value.reached (annotation_passes c.name.name c.ty) (constant_in_passes context (item_env known []) (placed c.name.name [] (none_own known)) refl c.value))
  item_passes (d.Alias a) = type_passes (item_type_env known a.name.name []) (item_env known []) (placed a.name.name [] (none_own known)) refl a.ty
  item_passes (d.Struct x) =
      let found = fields_found (item_type_env known x.name.name []) [] x.fields in
      let none = breaks_if (is_empty x.fields) 31 x.span in
      before_more here test (found.faults ++ none) _ found.reached (before_more here test found.faults none found.reached (fields_pass x.name.name [] x.fields))
  item_passes (d.Enum x) =
      let context = item_type_env known x.name.name [] in
      let base = typing_of_type context x.base in
      let members = members_found context (base_if_bits base.ty) [] x.members in
      let bits = unless_type is_bits 23 x.span base.ty in
      let reached = base.reached ++ members.reached in
      before_more here test ((base.faults ++ members.faults) ++ bits) _ reached
      (before_more here test (base.faults ++ members.faults) bits reached
      (join here test base.faults members.faults base.reached members.reached (type_passes context (item_env known []) (placed x.name.name [] (none_own known)) refl x.base) (members_pass x.name.name (base_if_bits base.ty) [] x.members)))

  pub items_pass : (is : List Item) → Pass (items_found known is)
  items_pass [] = λ f r. refl
  items_pass (i ∷ is) =
      let first = item_found known i.definition in
      let rest = items_found known is in
      join here test first.faults rest.faults first.reached rest.reached (item_passes i.definition) (items_pass is)
