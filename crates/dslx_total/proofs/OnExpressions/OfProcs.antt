-- The `next` of an instance of a proc becomes something.
use Rattle.dslx_meaning.specs.declared.ty.DslxType.TheVariants as rolls
use Rattle.dslx_meaning.specs.declared.ty.DslxType.TheOpen.{DslxType-F}
use Rattle.dslx_meaning.specs.declared.ty.DslxType.TheFolds.{fold-roll-DslxType}
use Rattle.std.specs.List.{list_all}
use Rattle.std.proofs.Common.{Bool, List, Some, [], ap, false, map, not, refl, subst, sym, true, ◌&&◌, ◌++◌, ◌∙◌, ◌∷◌, ◌≡◌}
use Rattle.xb_span.specs.declared.limit.What.TheVariants as what
use Rattle.dslx_tree.specs.declared.process.Proc.{Proc}
use Rattle.dslx_tree.specs.declared.block.Block.{out-Block}
use Rattle.dslx_meaning.specs.declared.ty.DslxType.{DslxType}
use Rattle.dslx_meaning.specs.declared.value.DslxValue.{DslxValue}
use Rattle.dslx_meaning.specs.Types.{same_type}
use Rattle.dslx_meaning.specs.Lists.{and_then, where_true}
use Rattle.dslx_meaning.specs.Environment.{Env, Meanings, bind}
use Rattle.dslx_meaning.specs.Rules.AggregateRules.{wanted_faults}
use Rattle.dslx_meaning.specs.Rules.ConstantRules.{size_faults}
use Rattle.dslx_meaning.specs.Rules.ItemRules.{and_found, body_typing, found_in, typing_of_type, only_faults, parametrics_found}
use Rattle.dslx_meaning.specs.Rules.TypeEnvs.{Instance, GlobalEnv, ChannelEnd, TypeEnv, Typed, passes_count, with_typed}
use Rattle.dslx_meaning.specs.Rules.NameRules.{local_name}
use Rattle.dslx_meaning.specs.Rules.NodeRules.{block_pair}
use Rattle.dslx_meaning.specs.Rules.ProcRules.{count_sites, ends_found, proc_type_env}
use Rattle.dslx_core.specs.Typing.Typed.WellTyped.{IsWellTypedEnv, types_at}
use Rattle.dslx_core.specs.Typing.Typed.Numbers.{AllOwn}
use Rattle.dslx_core.specs.Typing.Typed.Declared.{AllDeclared, Declarations, DeclaresParts, IsDeclared}
use Rattle.dslx_core.proofs.Lemmas.Typing.Typed.{bound_keeps, element_declared, parts_declared, struct_declared, type_induction}
use Rattle.dslx_core.specs.Typing.Complete.Acts.{acts_found}
use Rattle.dslx_core.proofs.Lemmas.Typing.Sound.{all_in, none_in, passed}
use Rattle.dslx_core.specs.Lowering.CoreScopes.{BodyEnv, CoreScope, with_local}
use Rattle.dslx_core.specs.Lowering.EqualTypes.{equal_type}
use Rattle.dslx_core.specs.Lowering.Functions.{parametric_args_are_well_typed, outer_scope}
use Rattle.dslx_core.specs.Lowering.Steps.{LoweredNext, is_sized, lower_next, sized_step, steps_from}
use Rattle.dslx_core.specs.Lowering.Trees.{lower_type_of_text}
use Rattle.dslx_total.specs.Expressions.Beside.{ScopeMatchesEnv}
use Rattle.dslx_total.specs.Expressions.ExprLowering.{IsClean}
use Rattle.dslx_total.specs.Expressions.NextSteps.{MembersExist}
use Rattle.dslx_total.specs.Expressions.Nexts.{NextLowersAsTyped, members_type_env}
use Rattle.dslx_total.proofs.OnExpressions.Equal.{equal_of_text}
use Rattle.dslx_total.proofs.OnExpressions.Inhabited.{some_value}
use Rattle.dslx_total.proofs.OnExpressions.Joined.{type_part_lowers_to}
use Rattle.dslx_total.proofs.OnExpressions.OfInstances.{parametric_args_are_well_typed_there, plain_name}
use Rattle.dslx_total.proofs.OnExpressions.OfNext.{block_of_next}
use Rattle.dslx_total.proofs.OnExpressions.OfPatterns.{local_beside}
use Rattle.xb_value.proofs.Lemmas.Types.{EachHas}

-- ---- each array in a type of the text has an element

abbrev IsSized : Declarations → DslxType → Type 0
IsSized types t = IsDeclared types t → is_sized t ≡ true

each_sized : (types : Declarations) (ts : List DslxType) → EachHas (IsSized types) ts → AllDeclared types ts → list_all (λ b. b) (map is_sized ts) ≡ true
each_sized types [] h d = refl
each_sized types (t ∷ ts) h d = λ i. h.0 d.0 i && each_sized types ts h.1 d.1 i

pub sized_there : (types : Declarations) → DeclaresParts types → (t : DslxType) → IsSized types t
sized_there types parts = type_induction (IsSized types)
    (λ s w d. ap is_sized (sym (rolls.rolls-Bits s w)) ∙ fold-roll-DslxType Bool sized_step (DslxType-F.Bits s w))
    (λ ts h d. ap is_sized (sym (rolls.rolls-Tuple ts)) ∙ fold-roll-DslxType Bool sized_step (DslxType-F.Tuple ts) ∙ each_sized types ts h (parts_declared types ts d))
    (λ t n h d.
    let e = element_declared types t n d in
    ap is_sized (sym (rolls.rolls-Array t n)) ∙ fold-roll-DslxType Bool sized_step (DslxType-F.Array t n) ∙ (λ i. e.1 i && h e.0 i))
    (λ name fields ts h d.
    ap is_sized (sym (rolls.rolls-Struct name fields ts)) ∙ fold-roll-DslxType Bool sized_step (DslxType-F.Struct name fields ts)
    ∙ each_sized types ts h (parts.fields name name fields ts (struct_declared types name fields ts d)))
    (λ name s w d. ap is_sized (sym (rolls.rolls-Enum name s w)) ∙ fold-roll-DslxType Bool sized_step (DslxType-F.Enum name s w))
    (λ d. ap is_sized (sym rolls.rolls-Token) ∙ fold-roll-DslxType Bool sized_step DslxType-F.Token)

-- ---- members in sight

-- types don't see the members of the proc
pub typed_with : (context : TypeEnv) (members : List ChannelEnd) (env : Env) → IsWellTypedEnv context env → IsWellTypedEnv (record context { members = members }) env
typed_with context members env h = record {
  locals = h.locals;
  parametric_args = h.parametric_args;
  constants = h.constants;
  members = h.members;
  kinds = h.kinds;
  typed = h.typed;
  valued = h.valued;
  place = record { others = h.place.others; hides = h.place.hides };
  items = h.items;
  known = h.known;
}

pub stands_with : (here : Instance → Bool) (context : TypeEnv) (members : List ChannelEnd) (scope : CoreScope) → ScopeMatchesEnv here context scope → ScopeMatchesEnv here (record context { members = members }) scope
stands_with here context members scope at =
    record { items = at.items; parametric_args = at.parametric_args; locals = at.locals; sound = at.sound; calls = at.calls; widths = at.widths; constants = at.constants }

-- ---- next

pub lower_total_next : (here : Instance → Bool) (known : GlobalEnv) (p : Proc) (parametric_args : List DslxValue) (env : Env) (core : BodyEnv) → AllOwn known.items.type_named parametric_args
    → IsWellTypedEnv (proc_type_env known p parametric_args) env → ScopeMatchesEnv here (proc_type_env known p parametric_args) (outer_scope core) → MembersExist (members_type_env known p parametric_args) (outer_scope core) p.members
    → IsClean here (acts_found known p parametric_args).faults (acts_found known p parametric_args).reached → NextLowersAsTyped known p parametric_args (lower_next core p)
lower_total_next here known p parametric_args env core own h at members clean =
    let context = proc_type_env known p parametric_args in
    let outer = outer_scope core in
    let name = p.next.state.name in
    let body = p.next.body in
    let span = (out-Block body).span in
    let state = typing_of_type context p.next.ty in
    let inside = members_type_env known p parametric_args in
    let local : Typed = record { name = name; ty = state.ty } in
    let inner : TypeEnv = record inside { locals = local ∷ [] } in
    let typing = body_typing true inner state.ty body in
    let parametrics = parametrics_found known p.name.name [] [] p.parametrics parametric_args in
    let ends = ends_found context [] p.members in
    let init = body_typing false inside state.ty p.init in
    let names = local_name context [] p.next.state in
    let sites = only_faults (passes_count what.Sites 32 p.span.to (count_sites (out-Block body).statements)) in
    let f7 = and_found (found_in typing) sites in
    let f6 = and_found (found_in state) f7 in
    let f5 = and_found (only_faults names) f6 in
    let f4 = and_found (found_in init) f5 in
    let f2 = and_found ends f4 in
    let a1 = none_in parametrics.faults f2.faults clean.faults in
    let a2 = none_in ends.faults f4.faults a1.1 in
    let a4 = none_in init.faults f5.faults a2.1 in
    let a5 = none_in names f6.faults a4.1 in
    let a6 = none_in state.faults f7.faults a5.1 in
    let a7 = none_in typing.faults sites.faults a6.1 in
    let r1 = all_in here parametrics.reached f2.reached clean.reached in
    let r2 = all_in here ends.reached f4.reached r1.1 in
    let r4 = all_in here init.reached f5.reached r2.1 in
    let r6 = all_in here state.reached f7.reached r4.1 in
    let r7 = all_in here typing.reached sites.reached r6.1 in
    let t = type_part_lowers_to here context env outer p.next.ty h at (record { faults = a6.0; reached = r6.0 }) in
    let plain = plain_name context h.known [] p.next.state a5.0 in
    let v = some_value (types_at context) h.known.parts t.ty t.declared in
    let h' = subst (λ o. IsWellTypedEnv (with_typed context (record { name = name; ty = o } ∷ [])) (bind name v.0 env)) (sym t.typed) (bound_keeps context [] env name t.ty v.0 h v.1 plain) in
    let at' = subst (λ o. ScopeMatchesEnv here (with_typed context (record { name = name; ty = o } ∷ [])) (with_local name t.ty outer)) (sym t.typed) (local_beside here context [] outer name t.ty at) in
    let j = (block_pair body).1 true inner in
    let wrong = wanted_faults span state.ty j.ty in
    let size = size_faults known span.to (record j { faults = j.faults ++ wrong }) in
    let well_typed = none_in j.faults wrong (none_in (j.faults ++ wrong) size a7.0).0 in
    let e = block_of_next body here inner (bind name v.0 env) outer (with_local name t.ty outer) p.members (typed_with (with_typed context (local ∷ [])) inside.members (bind name v.0 env) h')
    (stands_with here (with_typed context (local ∷ [])) inside.members (with_local name t.ty outer) at') members (record { faults = well_typed.0; reached = r7.0 }) in
    let same = passed (same_type t.ty e.steps.next.ty) 9 span ((λ i. wanted_faults span (sym t.typed i) (sym e.typed i)) ∙ well_typed.1) in
    let equal = equal_of_text (types_at context) t.ty e.steps.next.ty same t.declared e.declared in
    let stand = (λ i. parametric_args_are_well_typed (at.items i) (at.parametric_args i)) ∙ parametric_args_are_well_typed_there known h.known p.name.name [] [] p.parametrics parametric_args a1.0 own refl in
    let free = ap (λ (items : Meanings). not (items.is_constant name)) at.items ∙ ap not plain in
    let next : LoweredNext = record { state = t.ty; steps = e.steps.steps; next = e.steps.next.core } in
    record {
      next = next;
      is = ap (λ b. where_true b (and_then (lower_type_of_text p.next.ty outer) (λ t. where_true (is_sized t) (steps_from outer p t)))) (λ i. stand i && free i)
          ∙ ap (λ o. and_then o (λ t. where_true (is_sized t) (steps_from outer p t))) t.is
          ∙ ap (λ b. where_true b (steps_from outer p t.ty)) (sized_there (types_at context) h.known.parts t.ty t.declared)
          ∙ ap (λ o. and_then o (λ s. where_true (equal_type t.ty s.next.ty) (Some (record { state = t.ty; steps = s.steps; next = s.next.core })))) e.is
          ∙ ap (λ b. where_true b (Some next)) equal;
      state = t.typed;
    }
