-- The `next` of an instance of a proc of a text without faults becomes steps, where its functions are at hand, and its `init` has a value.
use Rattle.std.proofs.Common.{◌≡◌, ◌≤◌, ◌&&◌, ◌++◌, ℕ, Bool, true, false, List, [], ◌∷◌, map, Option, Some, arith, refl, sym, subst, ◌∙◌}
use Rattle.std.specs.List.{list_all}
use Rattle.dslx_tree.specs.declared.block.Block.{out-Block}
use Rattle.dslx_tree.specs.declared.item.Module.{Module}
use Rattle.dslx_tree.specs.declared.process.End.{End}
use Rattle.dslx_tree.specs.declared.process.Proc.{Proc}
use Rattle.dslx_meaning.specs.Environment.{Env}
use Rattle.dslx_meaning.specs.Items.{meanings_of, parametric_args_bound}
use Rattle.dslx_meaning.specs.Meaning.{value_of_block}
use Rattle.dslx_meaning.specs.Types.{same_type}
use Rattle.dslx_meaning.specs.declared.ty.DslxType.{DslxType}
use Rattle.dslx_meaning.specs.declared.value.DslxValue.{DslxValue}
use Rattle.dslx_meaning.specs.Rules.AggregateRules.{wanted_faults}
use Rattle.dslx_meaning.specs.Rules.ConstantRules.{size_faults}
use Rattle.dslx_meaning.specs.Rules.ItemRules.{body_typing, typing_of_type, parametrics_found}
use Rattle.dslx_meaning.specs.Rules.TypeEnvs.{Instance, GlobalEnv, TypeEnv}
use Rattle.dslx_meaning.specs.Rules.ModuleRules.{is_reached}
use Rattle.dslx_meaning.specs.Rules.NodeRules.{block_pair}
use Rattle.dslx_meaning.specs.Rules.ProcRules.{ends_found, channel_end_of, proc_type_env}
use Rattle.dslx_core.proofs.Lemmas.Typing.Laws.{and_true}
use Rattle.dslx_core.specs.Typing.TypingRelations.Reached.{AllNamed}
use Rattle.dslx_core.proofs.Lemmas.Typing.Sound.{all_in, block_of_text_has, none_in, passed, type_has_den}
use Rattle.dslx_core.specs.Typing.Typed.Complete.{IsComplete}
use Rattle.dslx_core.specs.Typing.Typed.Numbers.{AllOwn}
use Rattle.dslx_core.specs.Typing.Typed.Kinds.{is_of}
use Rattle.dslx_core.specs.Typing.Typed.WellTyped.{IsWellTypedEnv, types_at}
use Rattle.dslx_core.proofs.Lemmas.Typing.Typed.{one_of_text}
use Rattle.dslx_core.specs.Typing.Complete.Acts.{acts_found}
use Rattle.dslx_core.specs.Typing.Complete.HasValue.{AreTyped, IsWellTypedFound}
use Rattle.dslx_core.proofs.Lemmas.Typing.Complete.{item_env}
use Rattle.dslx_core.specs.Lowering.CoreScopes.{BodyEnv, CoreScope}
use Rattle.dslx_core.specs.Lowering.Functions.{Instantiated, callee_in, outer_scope}
use Rattle.dslx_core.specs.Lowering.Steps.{lower_next}
use Rattle.dslx_total.specs.Expressions.Beside.{NamesAreFull, NamesHaveWidths, ScopeMatchesEnv}
use Rattle.dslx_total.specs.Expressions.InstanceLists.{AreThere, HaveTable}
use Rattle.dslx_total.specs.Expressions.ExprLowering.{IsClean}
use Rattle.dslx_total.specs.Expressions.Members.{EachHasWords}
use Rattle.dslx_total.specs.Expressions.NextSteps.{MembersExist}
use Rattle.dslx_total.specs.Expressions.Nexts.{NextLowersAsTyped, members_type_env}
use Rattle.dslx_core.proofs.Lemmas.Typing.Accepted.{IsAccepted, one_of_these}
use Rattle.dslx_total.specs.Families.EachElaborated.{NextLowers}
use Rattle.dslx_total.proofs.OnFamilies.Acts.{parts_well_typed}
use Rattle.dslx_total.proofs.OnFamilies.Knows.{Knows}
use Rattle.dslx_total.proofs.OnFamilies.Reached.{Listed, Passing, all, most}
use Rattle.dslx_total.proofs.OnFamilies.There.{IsThere, well}

-- the laws of parts of `next`
abbrev pub WordsHaveWidths : Type 0
WordsHaveWidths = (context : TypeEnv) (env : Env) → IsWellTypedEnv context env → NamesHaveWidths context.known → NamesAreFull context.known → (before : List (List ℕ)) (ends : List End) → (ends_found context before ends).faults ≡ []
    → EachHasWords context ends

abbrev pub MembersThere : Type 0
MembersThere = (here : Instance → Bool) (context : TypeEnv) (env : Env) (outer : CoreScope) (ends : List End) → IsWellTypedEnv context env → ScopeMatchesEnv here context outer → EachHasWords context ends
    → IsClean here (ends_found context [] ends).faults (ends_found context [] ends).reached → MembersExist (record context { members = map (channel_end_of context) ends }) outer ends

abbrev pub NextsLower : Type 0
NextsLower = (here : Instance → Bool) (known : GlobalEnv) (p : Proc) (parametric_args : List DslxValue) (env : Env) (core : BodyEnv) → AllOwn known.items.type_named parametric_args
    → IsWellTypedEnv (proc_type_env known p parametric_args) env → ScopeMatchesEnv here (proc_type_env known p parametric_args) (outer_scope core) → MembersExist (members_type_env known p parametric_args) (outer_scope core) p.members
    → IsClean here (acts_found known p parametric_args).faults (acts_found known p parametric_args).reached → NextLowersAsTyped known p parametric_args (lower_next core p)

module _ (known : GlobalEnv) where
  -- the value of `init`
  pub record Opens (p : Proc) (parametric_args : List DslxValue) (t : DslxType) : Type 0 where
    pub value : DslxValue
    pub is : value_of_block p.init (item_env known (parametric_args_bound [] p.parametrics parametric_args)) ≡ Some value
    pub of : is_of t value ≡ true

  pub opening_there : (p : Proc) (parametric_args : List DslxValue) → AllOwn known.items.type_named parametric_args → IsWellTypedEnv (proc_type_env known p parametric_args) (item_env known (parametric_args_bound [] p.parametrics parametric_args)) → IsWellTypedFound known (acts_found known p parametric_args)
      → (t : DslxType) → (typing_of_type (proc_type_env known p parametric_args) p.next.ty).ty ≡ Some t → Opens p parametric_args t
  opening_there p parametric_args own place acts t is =
      let context = proc_type_env known p parametric_args in
      let env = item_env known (parametric_args_bound [] p.parametrics parametric_args) in
      let inside = members_type_env known p parametric_args in
      let state = typing_of_type context p.next.ty in
      let span = (out-Block p.init).span in
      let j = (block_pair p.init).1 false inside in
      let wrong = wanted_faults span state.ty j.ty in
      let size = size_faults known span.to (record j { faults = j.faults ++ wrong }) in
      let init = body_typing false inside state.ty p.init in
      let parametrics = parametrics_found known p.name.name [] [] p.parametrics parametric_args in
      let ends = ends_found context [] p.members in
      let a = none_in init.faults _ (none_in ends.faults (init.faults ++ _) (none_in parametrics.faults (ends.faults ++ (init.faults ++ _)) acts.faults).1).1 in
      let b = all_in known.is_sound init.reached _ (all_in known.is_sound ends.reached (init.reached ++ _) (all_in known.is_sound parametrics.reached (ends.reached ++ (init.reached ++ _)) acts.reached).1).1 in
      let c = none_in j.faults wrong (none_in (j.faults ++ wrong) size a.0).0 in
      let within : IsWellTypedEnv inside env = record {
        locals = place.locals;
        parametric_args = place.parametric_args;
        constants = place.constants;
        members = place.members;
        kinds = place.kinds;
        typed = place.typed;
        valued = place.valued;
        place = record { others = place.place.others; hides = place.place.hides };
        items = place.items;
        known = place.known;
      } in
      let g = block_of_text_has p.init inside env within (record { faults = c.0; reached = b.0 }) in
      let alike = passed (same_type t g.0) 9 span ((λ i. wanted_faults span (sym is i) (sym g.1 i)) ∙ c.1) in
      let one = one_of_text (types_at context) t g.0 alike ((type_has_den p.next.ty).means context env place t is).1 g.2.declared in
      record { value = g.2.value; is = g.2.is; of = subst (λ u. is_of u g.2.value ≡ true) (sym one) g.2.of }

module _ (m : Module) (top : Option (List ℕ)) (s : IsAccepted m top) (known : GlobalEnv) (knows : Knows m top s known) (complete : IsComplete known) (typed : AreTyped known) (names : NamesHaveWidths known) (full : NamesAreFull known)
    (widths : WordsHaveWidths) (members : MembersThere) (nexts : NextsLower) (same : known.items ≡ meanings_of m) (instances : List Instantiated) (functions : HaveTable known instances)
    (stand : AreThere (λ i. is_reached i (all m top s)) known instances) where
  -- instances that are checked, and are of no proc
  abbrev here : Instance → Bool
  here j = is_reached j (all m top s) && Passing m top s j.name

  all_here : (is : List Instance) → AllNamed (Passing m top s) is → Listed m top s is → list_all here is ≡ true
  all_here [] named h = refl
  all_here (i ∷ is) named h =
      let q = and_true (is_reached i (all m top s)) (list_all (λ (i : Instance). is_reached i (all m top s)) is) h in
      λ t. (q.0 t && named.0 t) && all_here is named.1 q.1 t

  here_sound : (j : Instance) → here j ≡ true → known.is_sound j ≡ true
  here_sound j h =
      let q = and_true (is_reached j (all m top s)) (Passing m top s j.name) h in
      let enough : most m top s ≤ most m top s = omega arith in
      knows.sound (most m top s) enough j (one_of_these j (all m top s) q.0) q.1

  here_there : AreThere here known instances
  here_there i g n own h = stand i g n own (and_true (is_reached i (all m top s)) (Passing m top s i.name) h).0

  pub next_lowers_to : (p : Proc) (parametric_args : List DslxValue) → IsThere m top s known p parametric_args → NextLowers m functions.table p parametric_args
  next_lowers_to p parametric_args there =
      let context = proc_type_env known p parametric_args in
      let bound = parametric_args_bound [] p.parametrics parametric_args in
      let env = item_env known bound in
      let core : BodyEnv = record { items = known.items; parametric_args = bound; callee = callee_in known.whole known.items functions.table } in
      let parts = parts_well_typed m top s known knows p parametric_args there.checked in
      let elaborated = well m top s known complete typed p parametric_args there in
      let at : ScopeMatchesEnv here context (outer_scope core) = record {
        items = refl;
        parametric_args = refl;
        locals = refl;
        sound = here_sound;
        calls = functions.calls here here_there bound;
        widths = names;
        constants = λ name v q. (typed.constants name v q).declared;
      } in
      let whole = all_here (acts_found known p parametric_args).reached parts.passing parts.checked in
      let parametrics = parametrics_found known p.name.name [] [] p.parametrics parametric_args in
      let ends = ends_found context [] p.members in
      let listed = (all_in here ends.reached _ (all_in here parametrics.reached (ends.reached ++ _) whole).1).0 in
      let stands = members here context env (outer_scope core) p.members elaborated at (widths context env elaborated names full [] p.members parts.members) (record { faults = parts.members; reached = listed }) in
      let next = nexts here known p parametric_args env core there.own elaborated at stands (record { faults = parts.acts.faults; reached = whole }) in
      let first = opening_there known p parametric_args there.own elaborated parts.acts next.next.state next.state in
      record {
        next = next.next;
        is = (λ t. lower_next (record { items = sym same t; parametric_args = bound; callee = callee_in (sym knows.text t) (sym same t) functions.table }) p) ∙ next.is;
        opening = first.value;
        opens = (λ t. value_of_block p.init (record { items = sym same t; bound = bound })) ∙ first.is;
        of = first.of;
      }
