-- What the `next` of instances of procs is lowered to has types.
use Rattle.std.proofs.Common.{◌≡◌, ◌&&◌, ◌++◌, Bool, true, false, not, List, [], ◌∷◌, Option, Some, sym, ap, subst, ◌∙◌}
use Rattle.xb_span.specs.declared.limit.What.TheVariants as what
use Rattle.xb_value.specs.declared.ty.Ty.{Ty}
use Rattle.dslx_tree.specs.declared.block.Block.{out-Block}
use Rattle.dslx_tree.specs.declared.process.Proc.{Proc}
use Rattle.dslx_meaning.specs.Environment.{Env, bind}
use Rattle.dslx_meaning.specs.Lists.{and_then, where_true}
use Rattle.dslx_meaning.specs.Types.{plain_type}
use Rattle.dslx_meaning.specs.declared.value.DslxValue.{DslxValue}
use Rattle.dslx_meaning.specs.Rules.AggregateRules.{wanted_faults}
use Rattle.dslx_meaning.specs.Rules.ConstantRules.{size_faults}
use Rattle.dslx_meaning.specs.Rules.ItemRules.{and_found, body_typing, found_in, only_faults, parametrics_found, typing_of_type}
use Rattle.dslx_meaning.specs.Rules.NameRules.{local_name}
use Rattle.dslx_meaning.specs.Rules.NodeRules.{block_pair}
use Rattle.dslx_meaning.specs.Rules.ProcRules.{count_sites, ends_found, proc_type_env}
use Rattle.dslx_meaning.specs.Rules.TypeEnvs.{GlobalEnv, Instance, TypeEnv, Typed, passes_count, with_typed}
use Rattle.dslx_core.proofs.Lemmas.Lowering.{from_then, from_where}
use Rattle.dslx_core.proofs.Lemmas.Typing.Sound.{all_in, none_in}
use Rattle.dslx_core.proofs.Lemmas.Typing.Typed.{bound_keeps, same_some}
use Rattle.dslx_core.specs.Typing.Complete.Acts.{acts_found}
use Rattle.dslx_core.specs.Lowering.CoreScopes.{BodyEnv, with_local}
use Rattle.dslx_core.specs.Lowering.EqualTypes.{equal_type}
use Rattle.dslx_core.specs.Lowering.Functions.{outer_scope, parametric_args_are_well_typed}
use Rattle.dslx_core.specs.Lowering.Steps.{LoweredNext, LoweredSteps, is_sized, lower_next, member_in, statements_steps, steps_from}
use Rattle.dslx_core.specs.Lowering.Trees.{lower_type_of_text}
use Rattle.dslx_core.specs.Typing.Typed.Numbers.{AllOwn}
use Rattle.dslx_core.specs.Typing.Typed.WellTyped.{IsWellTypedEnv, types_at}
use Rattle.dslx_core.specs.Types.Designs.{WordTypes, steps_type}
use Rattle.dslx_core.specs.Types.Typing.{FunctionTypes}
use Rattle.dslx_total.proofs.Lemmas.Expressions.{local_beside, plain_name, some_value, stands_with, type_part_lowers_to, typed_with}
use Rattle.dslx_total.specs.Expressions.Beside.{ScopeMatchesEnv}
use Rattle.dslx_total.specs.Expressions.ExprLowering.{IsClean}
use Rattle.dslx_total.specs.Expressions.NextSteps.{MembersExist}
use Rattle.dslx_total.specs.Expressions.Nexts.{members_type_env}
use Rattle.dslx_total.specs.Typed.Functions.{NextIsTyped, WordsOf}
use Rattle.dslx_total.specs.Typed.Scopes.{TypedBody, is_sound_type}
use Rattle.dslx_total.proofs.OnTyped.Joined.{written_type_is_sound}
use Rattle.dslx_total.proofs.OnTyped.OfFunctions.{outer_typed}
use Rattle.dslx_total.proofs.OnTyped.OfSteps.{block_of_next_typed}
use Rattle.dslx_total.proofs.OnTyped.OnOneType.{one_by_test}
use Rattle.dslx_total.proofs.OnTyped.OnScopes.{local_typed}
use Rattle.dslx_total.proofs.OnTyped.OnSteps.{StepsIfThere}

steps_there : (fs : FunctionTypes) (words : WordTypes) (ts : List Ty) (o : Option LoweredSteps) (l : LoweredSteps) → StepsIfThere fs words ts o → o ≡ Some l → (steps_type fs words l.steps l.next.core ts ≡ Some (plain_type l.next.ty)) × (is_sound_type l.next.ty ≡ true)
steps_there fs words ts o l h is = subst (StepsIfThere fs words ts) is h

pub next_is_typed : (here : Instance → Bool) (known : GlobalEnv) (p : Proc) (parametric_args : List DslxValue) (env : Env) (core : BodyEnv) (functions : FunctionTypes) (words : WordTypes) → AllOwn known.items.type_named parametric_args
    → IsWellTypedEnv (proc_type_env known p parametric_args) env → ScopeMatchesEnv here (proc_type_env known p parametric_args) (outer_scope core) → MembersExist (members_type_env known p parametric_args) (outer_scope core) p.members
    → TypedBody functions core → WordsOf (member_in (outer_scope core) p.members) words
    → IsClean here (acts_found known p parametric_args).faults (acts_found known p parametric_args).reached → (l : LoweredNext) → lower_next core p ≡ Some l → NextIsTyped functions words l
next_is_typed here known p parametric_args env core functions words own h at members typed ws clean l is =
    let context = proc_type_env known p parametric_args in
    let outer = outer_scope core in
    let name = p.next.state.name in
    let body = p.next.body in
    let span = (out-Block body).span in
    let state = typing_of_type context p.next.ty in
    let inside = members_type_env known p parametric_args in
    let local : Typed = record { name = name; ty = state.ty } in
    let inner : TypeEnv = record inside { locals = local ∷ [] } in
    let typing = body_typing true inner state.ty body in
    let parametrics = parametrics_found known p.name.name [] [] p.parametrics parametric_args in
    let ends = ends_found context [] p.members in
    let init = body_typing false inside state.ty p.init in
    let names = local_name context [] p.next.state in
    let sites = only_faults (passes_count what.Sites 32 p.span.to (count_sites (out-Block body).statements)) in
    let f7 = and_found (found_in typing) sites in
    let f6 = and_found (found_in state) f7 in
    let f5 = and_found (only_faults names) f6 in
    let f4 = and_found (found_in init) f5 in
    let f2 = and_found ends f4 in
    let a1 = none_in parametrics.faults f2.faults clean.faults in
    let a2 = none_in ends.faults f4.faults a1.1 in
    let a4 = none_in init.faults f5.faults a2.1 in
    let a5 = none_in names f6.faults a4.1 in
    let a6 = none_in state.faults f7.faults a5.1 in
    let a7 = none_in typing.faults sites.faults a6.1 in
    let r1 = all_in here parametrics.reached f2.reached clean.reached in
    let r2 = all_in here ends.reached f4.reached r1.1 in
    let r4 = all_in here init.reached f5.reached r2.1 in
    let r6 = all_in here state.reached f7.reached r4.1 in
    let r7 = all_in here typing.reached sites.reached r6.1 in
    let t = type_part_lowers_to here context env outer p.next.ty h at (record { faults = a6.0; reached = r6.0 }) in
    let plain = plain_name context h.known [] p.next.state a5.0 in
    let v = some_value (types_at context) h.known.parts t.ty t.declared in
    let h' = subst (λ o. IsWellTypedEnv (with_typed context (record { name = name; ty = o } ∷ [])) (bind name v.0 env)) (sym t.typed) (bound_keeps context [] env name t.ty v.0 h v.1 plain) in
    let at' = subst (λ o. ScopeMatchesEnv here (with_typed context (record { name = name; ty = o } ∷ [])) (with_local name t.ty outer)) (sym t.typed) (local_beside here context [] outer name t.ty at) in
    let j = (block_pair body).1 true inner in
    let wrong = wanted_faults span state.ty j.ty in
    let size = size_faults known span.to (record j { faults = j.faults ++ wrong }) in
    let well_typed = none_in j.faults wrong (none_in (j.faults ++ wrong) size a7.0).0 in
    let sound = written_type_is_sound here context env outer p.next.ty h at (record { faults = a6.0; reached = r6.0 }) t.ty t.is in
    let scoped = local_typed functions [] outer name t.ty (outer_typed functions core typed) sound in
    let steps = block_of_next_typed body here inner (bind name v.0 env) outer (with_local name t.ty outer) p.members functions words (plain_type t.ty ∷ []) (typed_with (with_typed context (local ∷ [])) inside.members (bind name v.0 env) h')
    (stands_with here (with_typed context (local ∷ [])) inside.members (with_local name t.ty outer) at') members scoped ws (record { faults = well_typed.0; reached = r7.0 }) in
    let whole = from_where (parametric_args_are_well_typed core.items core.parametric_args && not (core.items.is_constant name)) (and_then (lower_type_of_text p.next.ty outer) (λ t. where_true (is_sized t) (steps_from outer p t))) l is in
    let own_type = from_then (lower_type_of_text p.next.ty outer) (λ t. where_true (is_sized t) (steps_from outer p t)) l whole.1 in
    let same : t.ty ≡ own_type.0 = same_some t.ty own_type.0 (sym t.is ∙ own_type.1) in
    let sized = from_where (is_sized own_type.0) (steps_from outer p own_type.0) l own_type.2 in
    let made = from_then (statements_steps outer p.members (out-Block body).statements (out-Block body).value (with_local name own_type.0 outer)) (λ s. where_true (equal_type own_type.0 s.next.ty) (Some (record { state = own_type.0; steps = s.steps; next = s.next.core }))) l sized.1 in
    let equal = from_where (equal_type own_type.0 made.0.next.ty) (Some (record { state = own_type.0; steps = made.0.steps; next = made.0.next.core })) l made.2 in
    let there : statements_steps outer p.members (out-Block body).statements (out-Block body).value (with_local name t.ty outer) ≡ Some made.0 =
    ap (λ u. statements_steps outer p.members (out-Block body).statements (out-Block body).value (with_local name u outer)) same ∙ made.1 in
    let g = steps_there functions words (plain_type t.ty ∷ []) (statements_steps outer p.members (out-Block body).statements (out-Block body).value (with_local name t.ty outer)) made.0 steps there in
    subst (NextIsTyped functions words) (same_some (record { state = own_type.0; steps = made.0.steps; next = made.0.next.core }) l equal.1)
    (record {
      state = ap is_sound_type (sym same) ∙ sound;
      steps = ap (λ u. steps_type functions words made.0.steps made.0.next.core (plain_type u ∷ [])) (sym same) ∙ g.0 ∙ ap (λ u. Some (plain_type u)) (sym (one_by_test own_type.0 made.0.next.ty equal.0));
    })
