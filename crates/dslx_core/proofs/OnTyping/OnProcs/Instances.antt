-- Instances of procs with whose text nothing is wrong.
use Rattle.std.proofs.Common.{◌≡◌, ◌||◌, true, false, List, [], ◌∷◌, Some, sym, ap, subst, ◌∙◌}
use Rattle.xb_span.specs.declared.fault.Fault.{Fault}
use Rattle.xb_span.specs.declared.limit.What.TheVariants as what
use Rattle.dslx_tree.specs.declared.block.Block.{out-Block}
use Rattle.dslx_tree.specs.declared.process.Proc.{Proc}
use Rattle.dslx_meaning.specs.Activation.{state_type_of}
use Rattle.dslx_meaning.specs.Callees.{is_own_name}
use Rattle.dslx_meaning.specs.Environment.{Env, Given}
use Rattle.dslx_meaning.specs.Items.{parametric_args_bound}
use Rattle.dslx_meaning.specs.Lists.{is_in}
use Rattle.dslx_meaning.specs.declared.ty.DslxType.{DslxType}
use Rattle.dslx_meaning.specs.declared.value.DslxValue.{DslxValue}
use Rattle.dslx_meaning.specs.Rules.ItemRules.{Found, and_found, body_typing, found_in, typing_of_type, only_faults, parametrics_found}
use Rattle.dslx_meaning.specs.Rules.TypeEnvs.{Judgement, GlobalEnv, TypeEnv, is_item, passes_count}
use Rattle.dslx_meaning.specs.Rules.NameRules.{local_name}
use Rattle.dslx_meaning.specs.Rules.ProcRules.{count_sites, ends_found, proc_type_env}
use Rattle.dslx_core.specs.Typing.Typed.Complete.{IsComplete, IsWellTypedPart}
use Rattle.dslx_core.specs.Typing.Typed.Declared.{IsDeclared}
use Rattle.dslx_core.specs.Typing.Typed.Numbers.{AllOwn}
use Rattle.dslx_core.specs.Typing.Typed.WellTyped.{IsWellTypedEnv}
use Rattle.dslx_core.proofs.Lemmas.Typing.Typed.{or_false, own_bound, same_some}
use Rattle.dslx_core.proofs.Lemmas.Typing.Sound.{not_broken, type_has_den}
use Rattle.dslx_core.specs.Typing.Complete.HasValue.{AreTyped, IsWellTypedFound}
use Rattle.dslx_core.proofs.Lemmas.Typing.Complete.{item_typed, no_constant, none_own}
use Rattle.dslx_core.specs.Typing.Activities.Members.{IsWellTypedNext, ProcMembersHaveValues, inner_env, inner_type_env}
use Rattle.dslx_core.specs.Typing.Complete.Acts.{acts_found}
use Rattle.dslx_core.specs.Typing.Procs.WordsOfEnds.{WordsAreValues}
use Rattle.dslx_core.proofs.OnTyping.OnProcs.Members.{both_well_typed, members_typed}

pub next_is_well_typed : (known : GlobalEnv) → IsComplete known → AreTyped known → (p : Proc) (parametric_args : List DslxValue) → AllOwn known.items.type_named parametric_args → IsWellTypedFound known (acts_found known p parametric_args)
    → WordsAreValues (proc_type_env known p parametric_args) p.members → (t : DslxType) → state_type_of known.items p parametric_args ≡ Some t → IsWellTypedNext known p parametric_args t
next_is_well_typed known complete typed p parametric_args own well_typed holds t is =
    let a = both_well_typed known (parametrics_found known p.name.name [] [] p.parametrics parametric_args) of_members well_typed in
    let b = both_well_typed known members of_init a.second in
    let d = both_well_typed known (found_in (body_typing false inside state.ty p.init)) of_name b.second in
    let e = both_well_typed known (only_faults name) of_state d.second in
    let f = both_well_typed known (found_in state) of_next e.second in
    let g = both_well_typed known (found_in next) sites f.second in
    let k = (type_has_den p.next.ty).known context env place (record { faults = f.first.faults; reached = f.first.reached }) in
    let m = (type_has_den p.next.ty).means context env place k.0 k.1 in
    let same = same_some k.0 t (sym m.0 ∙ is) in
    let state_is : state.ty ≡ Some t = k.1 ∙ ap Some same in
    record {
      typed = inner_typed;
      members = stand b.first;
      state = is;
      declared = subst (λ u. IsDeclared known.items.type_named u) same m.1;
      name = no_constant context complete p.next.state.name (not_item e.first.faults);
      body = subst (λ o. IsWellTypedPart known (body_typing true (record inside { locals = record { name = p.next.state.name; ty = o } ∷ [] }) o p.next.body)) state_is (record { faults = g.first.faults; reached = g.first.reached });
    }
  where
    bound : List Given
    bound = parametric_args_bound [] p.parametrics parametric_args

    context : TypeEnv
    context = proc_type_env known p parametric_args

    env : Env
    env = inner_env known p parametric_args

    place : IsWellTypedEnv context env
    place = item_typed known complete typed p.name.name bound (own_bound known.items.type_named [] p.parametrics parametric_args (none_own known) own)

    inside : TypeEnv
    inside = inner_type_env known p parametric_args

    inner_typed : IsWellTypedEnv inside env
    inner_typed = record {
      locals = place.locals;
      parametric_args = place.parametric_args;
      constants = place.constants;
      members = place.members;
      kinds = place.kinds;
      typed = place.typed;
      valued = place.valued;
      place = record { others = place.place.others; hides = place.place.hides };
      items = place.items;
      known = place.known;
    }

    state : Judgement
    state = typing_of_type context p.next.ty

    next : Judgement
    next = body_typing true (record inside { locals = record { name = p.next.state.name; ty = state.ty } ∷ [] }) state.ty p.next.body

    name : List Fault
    name = local_name context [] p.next.state

    sites : Found
    sites = only_faults (passes_count what.Sites 32 p.span.to (count_sites (out-Block p.next.body).statements))

    of_next : Found
    of_next = and_found (found_in next) sites

    of_state : Found
    of_state = and_found (found_in state) of_next

    of_name : Found
    of_name = and_found (only_faults name) of_state

    of_init : Found
    of_init = and_found (found_in (body_typing false inside state.ty p.init)) of_name

    members : Found
    members = ends_found context [] p.members

    of_members : Found
    of_members = and_found members of_init

    stand : IsWellTypedFound known members → ProcMembersHaveValues inside (record { members = p.members; env = env })
    stand f n o e = let w = members_typed context env place [] p.members f holds n o e in record { word = w.word; typed = w.typed; means = w.means; declared = w.declared; holds = w.holds }

    not_item : name ≡ [] → is_item context p.next.state.name ≡ false
    not_item e =
        let own_name = is_own_name p.next.state.name in
        let item = is_item context p.next.state.name in
        let q = or_false (own_name || item) (is_in p.next.state.name []) (not_broken ((own_name || item) || is_in p.next.state.name []) 2 p.next.state.span e) in
        (or_false own_name item q.0).1
