-- Instances with which nothing is wrong: all that they declare is there, and their bodies have sizes.
use Rattle.std.proofs.Common.{◌≡◌, ◌++◌, ℕ, Bool, true, false, List, [], ◌∷◌, map, Option, Some, None, refl, sym, ap, subst, ◌∙◌}
use Rattle.std.specs.List.{list_all}
use Rattle.xb_span.specs.declared.limit.What.TheVariants as what
use Rattle.dslx_tree.specs.declared.block.Block.{out-Block}
use Rattle.dslx_tree.specs.declared.expr.Expr.{Expr, out-Expr}
use Rattle.dslx_tree.specs.declared.item.Field.{Field}
use Rattle.dslx_tree.specs.declared.item.Function.{Function}
use Rattle.dslx_tree.specs.declared.item.Parametric.{Parametric}
use Rattle.dslx_tree.specs.declared.process.End.{End}
use Rattle.dslx_tree.specs.declared.process.Proc.{Proc}
use Rattle.dslx_tree.specs.declared.type_expr.TypeExpr.{TypeExpr, out-TypeExpr}
use Rattle.dslx_meaning.specs.Environment.{Env, Given, bind}
use Rattle.dslx_meaning.specs.Items.{parametric_args_bound, with_number}
use Rattle.dslx_meaning.specs.Meaning.{denotation}
use Rattle.dslx_meaning.specs.declared.ty.DslxType.{DslxType}
use Rattle.dslx_meaning.specs.declared.value.DslxValue.{DslxValue}
use Rattle.dslx_meaning.specs.Rules.AggregateRules.{wanted_faults}
use Rattle.dslx_meaning.specs.Rules.ConstantRules.{constant_of, size_faults}
use Rattle.dslx_meaning.specs.Rules.ItemRules.{Found, and_found, arguments_found, arguments_typed, body_typing, default_found, found_in, function_seen, function_type_env, item_type_env, only_faults, parametrics_found, result_typing, typing_of_inner, typing_of_type}
use Rattle.dslx_meaning.specs.Rules.NameRules.{local_name}
use Rattle.dslx_meaning.specs.Rules.NodeRules.{block_pair, expr_pair}
use Rattle.dslx_meaning.specs.Rules.PatternRules.{is_there}
use Rattle.dslx_meaning.specs.Rules.ProcRules.{channel_end_of, channel_type, count_sites, ends_found, proc_type_env, word_limit}
use Rattle.dslx_meaning.specs.Rules.TypeEnvs.{GlobalEnv, Instance, TypeEnv, Typed, passes_count, with_typed}
use Rattle.dslx_core.proofs.Lemmas.Typing.Complete.{item_env, item_typed, none_own}
use Rattle.dslx_core.proofs.Lemmas.Typing.Sound.{all_in, block_of_text_has, constant_has, expression_gives, none_in, type_has_den}
use Rattle.dslx_core.proofs.Lemmas.Typing.Typed.{bound_keeps, none_some, own_bound, own_more, same_some}
use Rattle.dslx_core.specs.Typing.Complete.Acts.{acts_found}
use Rattle.dslx_core.specs.Typing.Complete.HasValue.{AreTyped}
use Rattle.dslx_core.specs.Typing.Typed.Complete.{IsComplete}
use Rattle.dslx_core.specs.Typing.Typed.Numbers.{AllOwn, AreOwn}
use Rattle.dslx_core.specs.Typing.Typed.WellTyped.{IsWellTypedEnv, types_at}
use Rattle.dslx_core.specs.Typing.TypingRelations.Whole.{ArgumentsThere, EndsThere, IsFunctionThere, ParametricsThere, behind_members, behind_state}
use Rattle.dslx_total.proofs.OnExpressions.Inhabited.{some_value}
use Rattle.dslx_total.proofs.OnExpressions.OfInstances.{plain_name}
use Rattle.dslx_total.proofs.OnExpressions.OfProcs.{typed_with}
use Rattle.dslx_total.proofs.OnExpressions.Parts.{all_sound}
use Rattle.dslx_total.proofs.OnOwn.AtTop.{next_block_sized}
use Rattle.dslx_total.proofs.OnOwn.OfItems.{behind_arguments, ends_typed, inner_there}
use Rattle.dslx_total.proofs.OnOwn.Passing.{CalleesPass}

module _ (here test : Instance → Bool) (known : GlobalEnv) (complete : IsComplete known) (typed : AreTyped known) (callees : CalleesPass here test known) where
  sound : (is : List Instance) → list_all here is ≡ true → list_all known.is_sound is ≡ true
  sound is h = all_sound here known.is_sound callees.sound is h

  -- ---- parts of items

  module _ (context : TypeEnv) (env : Env) (h : IsWellTypedEnv context env) (same : context.known ≡ known) where
    pub type_of : (t : TypeExpr) → (typing_of_inner context t).faults ≡ [] → list_all context.known.is_sound (typing_of_inner context t).reached ≡ true → is_there (typing_of_inner context t).ty ≡ true
    type_of t f r = ap is_there (inner_there here test known complete typed callees context env h same t (record { faults = f; reached = r })).1

    default_is_there : (t : Option DslxType) (o : Option Expr) → (default_found context t o).faults ≡ [] → list_all context.known.is_sound (default_found context t o).reached ≡ true → (e : Expr) → o ≡ Some e → is_there (constant_of context (expr_pair e)).value ≡ true
    default_is_there t None f r e q = none_some e q
    default_is_there t (Some x) f r e q =
        let c = constant_of context (expr_pair x) in
        let wrong = wanted_faults (out-Expr x).span t c.judgement.ty in
        let k = constant_has context env (expr_pair x) (denotation x) (expression_gives x) h (record { faults = (none_in c.judgement.faults wrong f).0; reached = r }) in
        ap (λ z. is_there (constant_of context (expr_pair z)).value) (sym (same_some x e q)) ∙ ap is_there k.known

    arguments_there : (before : List (List ℕ)) (fs : List Field) → (arguments_found context before fs).faults ≡ [] → list_all context.known.is_sound (arguments_found context before fs).reached ≡ true → ArgumentsThere context fs
    arguments_there before [] f r = tt
    arguments_there before (g ∷ fs) f r =
        let j = typing_of_inner context g.ty in
        let rest = arguments_found context (g.name.name ∷ before) fs in
        let a = none_in j.faults rest.faults (none_in (local_name context before g.name) (j.faults ++ rest.faults) f).1 in
        let k = all_in context.known.is_sound j.reached rest.reached r in
        (type_of g.ty a.0 k.0, arguments_there (g.name.name ∷ before) fs a.1 k.1)

    result_there : (o : Option TypeExpr) → (result_typing context o).faults ≡ [] → list_all context.known.is_sound (result_typing context o).reached ≡ true → is_there (result_typing context o).ty ≡ true
    result_there None f r = refl
    result_there (Some t) f r = ap is_there ((type_has_den t).known context env h (record { faults = f; reached = r })).1

    pub word_type : (t : TypeExpr) → (channel_type context t).faults ≡ [] → list_all context.known.is_sound (channel_type context t).reached ≡ true → is_there (typing_of_inner context t).ty ≡ true
    word_type t f r = let own = typing_of_inner context t in type_of t (none_in own.faults (word_limit (out-TypeExpr t).span.to own.ty) f).0 r

    pub ends_there : (before : List (List ℕ)) (es : List End) → (ends_found context before es).faults ≡ [] → list_all context.known.is_sound (ends_found context before es).reached ≡ true → EndsThere context es
    ends_there before [] f r = tt
    ends_there before (e ∷ es) f r =
        let j = channel_type context e.word in
        let rest = ends_found context (e.name.name ∷ before) es in
        let a = none_in j.faults rest.faults (none_in (local_name context before e.name) (j.faults ++ rest.faults) f).1 in
        let k = all_in context.known.is_sound j.reached rest.reached r in
        (word_type e.word a.0 k.0, ends_there (e.name.name ∷ before) es a.1 k.1)

  -- ---- parametrics

  placed : (owner : List ℕ) (so_far : List Given) → AreOwn known.items.type_named so_far → IsWellTypedEnv (item_type_env known owner so_far) (item_env known so_far)
  placed owner so_far own = item_typed known complete typed owner so_far own

  -- one of them, and what is behind it
  record OneThere (owner : List ℕ) (so_far : List Given) (p : Parametric) (rest : Found) : Type 0 where
    ty : is_there (typing_of_inner (item_type_env known owner so_far) p.ty).ty ≡ true
    default : (e : Expr) → p.default ≡ Some e → is_there (constant_of (item_type_env known owner so_far) (expr_pair e)).value ≡ true
    faults : rest.faults ≡ []
    reached : list_all known.is_sound rest.reached ≡ true

  abbrev with_rest : List ℕ → List (List ℕ) → List Given → Parametric → Found → Found
  with_rest owner before so_far p rest =
      let context = item_type_env known owner so_far in
      let t = typing_of_inner context p.ty in
      and_found (only_faults (local_name context before p.name)) (and_found (found_in t) (and_found (default_found context t.ty p.default) rest))

  one_there : (owner : List ℕ) (before : List (List ℕ)) (so_far : List Given) → AreOwn known.items.type_named so_far → (p : Parametric) (rest : Found) → (with_rest owner before so_far p rest).faults ≡ []
      → list_all known.is_sound (with_rest owner before so_far p rest).reached ≡ true → OneThere owner so_far p rest
  one_there owner before so_far own p rest f r =
      let context = item_type_env known owner so_far in
      let env = item_env known so_far in
      let place = placed owner so_far own in
      let t = typing_of_inner context p.ty in
      let default = default_found context t.ty p.default in
      let a = none_in t.faults (default.faults ++ rest.faults) (none_in (local_name context before p.name) (t.faults ++ (default.faults ++ rest.faults)) f).1 in
      let b = none_in default.faults rest.faults a.1 in
      let c = all_in known.is_sound t.reached (default.reached ++ rest.reached) r in
      let e = all_in known.is_sound default.reached rest.reached c.1 in
      record { ty = type_of context env place refl p.ty a.0 c.0; default = default_is_there context env place refl t.ty p.default b.0 e.0; faults = b.1; reached = e.1 }

  parametrics_there : (owner : List ℕ) (before : List (List ℕ)) (so_far : List Given) → AreOwn known.items.type_named so_far → (ps : List Parametric) (vs : List DslxValue) → AllOwn known.items.type_named vs → (parametrics_found known owner before so_far ps vs).faults ≡ []
      → list_all known.is_sound (parametrics_found known owner before so_far ps vs).reached ≡ true → ParametricsThere known owner so_far ps vs
  parametrics_there owner before so_far own [] vs all f r = tt
  parametrics_there owner before so_far own (p ∷ ps) [] all f r =
      let q = one_there owner before so_far own p (parametrics_found known owner (p.name.name ∷ before) so_far ps []) f r in
      ((q.ty, q.default), parametrics_there owner (p.name.name ∷ before) so_far own ps [] tt q.faults q.reached)
  parametrics_there owner before so_far own (p ∷ ps) (v ∷ vs) all f r =
      let q = one_there owner before so_far own p (parametrics_found known owner (p.name.name ∷ before) (with_number so_far p v) ps vs) f r in
      ((q.ty, q.default), parametrics_there owner (p.name.name ∷ before) (with_number so_far p v) (own_more known.items.type_named so_far p v own all.0) ps vs all.1 q.faults q.reached)

  -- ---- functions

  pub function_there : (f : Function) (parametric_args : List DslxValue) → AllOwn known.items.type_named parametric_args → (function_seen known f parametric_args).found.faults ≡ [] → list_all known.is_sound (function_seen known f parametric_args).found.reached ≡ true
      → IsFunctionThere known f parametric_args
  function_there f parametric_args own e0 r0 =
      let context = function_type_env known f parametric_args in
      let bound = parametric_args_bound [] f.parametrics parametric_args in
      let env = item_env known bound in
      let place = placed f.name.name bound (own_bound known.items.type_named [] f.parametrics parametric_args (none_own known) own) in
      let parametrics = parametrics_found known f.name.name [] [] f.parametrics parametric_args in
      let arguments = arguments_found context [] f.arguments in
      let result = result_typing context f.result in
      let inner = with_typed context (arguments_typed context [] f.arguments) in
      let body = body_typing false inner result.ty f.body in
      let a = none_in parametrics.faults (arguments.faults ++ (result.faults ++ body.faults)) e0 in
      let b = none_in arguments.faults (result.faults ++ body.faults) a.1 in
      let c = none_in result.faults body.faults b.1 in
      let p = all_in known.is_sound parametrics.reached (arguments.reached ++ (result.reached ++ body.reached)) r0 in
      let q = all_in known.is_sound arguments.reached (result.reached ++ body.reached) p.1 in
      let r = all_in known.is_sound result.reached body.reached q.1 in
      let last = behind_arguments here test known complete typed callees context env place refl [] f.arguments b.0 q.0 [] env place in
      let j = (block_pair f.body).1 false inner in
      let wrong = wanted_faults (out-Block f.body).span result.ty j.ty in
      let size = size_faults known (out-Block f.body).span.to (record j { faults = j.faults ++ wrong }) in
      let faults = (none_in j.faults wrong (none_in (j.faults ++ wrong) size c.1).0).0 in
      let g = block_of_text_has f.body inner last.0 last.1 (record { faults = faults; reached = r.1 }) in
      record {
        parametrics = parametrics_there f.name.name [] [] (none_own known) f.parametrics parametric_args own a.0 p.0;
        arguments = arguments_there context env place refl [] f.arguments b.0 q.0;
        result = result_there context env place refl f.result c.0 r.0;
        body = ap is_there g.3.1;
      }

  -- ---- procs, but for what `config` makes

  pub record ActsThere (p : Proc) (parametric_args : List DslxValue) : Type 0 where
    pub parametrics : ParametricsThere known p.name.name [] p.parametrics parametric_args
    pub members : EndsThere (proc_type_env known p parametric_args) p.members
    pub state : is_there (typing_of_type (proc_type_env known p parametric_args) p.next.ty).ty ≡ true
    pub init : is_there ((block_pair p.init).1 false (behind_members known p parametric_args)).size ≡ true
    pub next : is_there ((block_pair p.next.body).1 true (behind_state known p parametric_args)).size ≡ true

  pub acts_there : (p : Proc) (parametric_args : List DslxValue) → AllOwn known.items.type_named parametric_args → (acts_found known p parametric_args).faults ≡ [] → list_all here (acts_found known p parametric_args).reached ≡ true → ActsThere p parametric_args
  acts_there p parametric_args own e0 r0 =
      let context = proc_type_env known p parametric_args in
      let bound = parametric_args_bound [] p.parametrics parametric_args in
      let env = item_env known bound in
      let place = placed p.name.name bound (own_bound known.items.type_named [] p.parametrics parametric_args (none_own known) own) in
      let name = p.next.state.name in
      let body = p.next.body in
      let state = typing_of_type context p.next.ty in
      let members = map (channel_end_of context) p.members in
      let inside : TypeEnv = record context { members = members } in
      let local : Typed = record { name = name; ty = state.ty } in
      let inner : TypeEnv = record inside { locals = local ∷ [] } in
      let typing = body_typing true inner state.ty body in
      let parametrics = parametrics_found known p.name.name [] [] p.parametrics parametric_args in
      let ends = ends_found context [] p.members in
      let init = body_typing false inside state.ty p.init in
      let names = local_name context [] p.next.state in
      let sites = only_faults (passes_count what.Sites 32 p.span.to (count_sites (out-Block body).statements)) in
      let f7 = and_found (found_in typing) sites in
      let f6 = and_found (found_in state) f7 in
      let f5 = and_found (only_faults names) f6 in
      let f4 = and_found (found_in init) f5 in
      let f2 = and_found ends f4 in
      let a1 = none_in parametrics.faults f2.faults e0 in
      let a2 = none_in ends.faults f4.faults a1.1 in
      let a4 = none_in init.faults f5.faults a2.1 in
      let a5 = none_in names f6.faults a4.1 in
      let a6 = none_in state.faults f7.faults a5.1 in
      let a7 = none_in typing.faults sites.faults a6.1 in
      let r1 = all_in here parametrics.reached f2.reached r0 in
      let r2 = all_in here ends.reached f4.reached r1.1 in
      let r4 = all_in here init.reached f5.reached r2.1 in
      let r6 = all_in here state.reached f7.reached r4.1 in
      let r7 = all_in here typing.reached sites.reached r6.1 in
      let known_type = (type_has_den p.next.ty).known context env place (record { faults = a6.0; reached = sound state.reached r6.0 }) in
      let declared = ((type_has_den p.next.ty).means context env place known_type.0 known_type.1).1 in
      let v = some_value (types_at context) place.known.parts known_type.0 declared in
      let at = subst (λ o. IsWellTypedEnv (with_typed context (record { name = name; ty = o } ∷ [])) (bind name v.0 env)) (sym known_type.1) (bound_keeps context [] env name known_type.0 v.0 place v.1 (plain_name context complete [] p.next.state a5.0)) in
      let ends_known = ends_typed here test known complete typed callees context env place refl [] p.members a2.0 (sound ends.reached r2.0) in
      let first = (block_pair p.init).1 false inside in
      let first_wrong = wanted_faults (out-Block p.init).span state.ty first.ty in
      let first_faults = (none_in first.faults first_wrong (none_in (first.faults ++ first_wrong) (size_faults known (out-Block p.init).span.to (record first { faults = first.faults ++ first_wrong })) a4.0).0).0 in
      let j = (block_pair body).1 true inner in
      let wrong = wanted_faults (out-Block body).span state.ty j.ty in
      let faults = (none_in j.faults wrong (none_in (j.faults ++ wrong) (size_faults known (out-Block body).span.to (record j { faults = j.faults ++ wrong })) a7.0).0).0 in
      let g = block_of_text_has p.init inside env (typed_with context members env place) (record { faults = first_faults; reached = sound init.reached r4.0 }) in
      record {
        parametrics = parametrics_there p.name.name [] [] (none_own known) p.parametrics parametric_args own a1.0 (sound parametrics.reached r1.0);
        members = ends_there context env place refl [] p.members a2.0 (sound ends.reached r2.0);
        state = ap is_there known_type.1;
        init = ap is_there g.3.1;
        next = ap is_there (next_block_sized here test body inner (bind name v.0 env) (typed_with (with_typed context (local ∷ [])) members (bind name v.0 env) at) callees ends_known faults r7.0).1;
      }
