-- What procs of a checked text do is what those of the text do.
use Rattle.std.proofs.Common.{◌≡◌, ◌&&◌, not, ℕ, true, List, [], ◌∷◌, map, length, Option, Some, refl, sym, ap, subst, ◌∙◌}
use Rattle.std.specs.Prelude.{slice_get, unwrap_or}
use Rattle.xb_bits.specs.Word.{Word}
use Rattle.xb_value.specs.Typing.{IsOfType}
use Rattle.xb_value.specs.declared.value.Value.{Value}
use Rattle.net_core.specs.Behavior.{Turn}
use Rattle.net_core.specs.declared.net.Chan.{Chan}
use Rattle.net_core.specs.declared.net.ProcHead.{ProcHead}
use Rattle.dslx_tree.specs.declared.block.Block.{out-Block}
use Rattle.dslx_tree.specs.declared.item.Module.{Module}
use Rattle.dslx_tree.specs.declared.process.Proc.{Proc}
use Rattle.dslx_meaning.specs.Activation.{Activity, activation_of, site_names, state_of, turn_at}
use Rattle.dslx_meaning.specs.Items.{meanings_of}
use Rattle.dslx_meaning.specs.Lists.{and_then, where_true}
use Rattle.dslx_meaning.specs.Network.{Elaborated, behavior_at, behaviors_if, behaviors_of, chans_of_top, family_of, head_at, width_of_chan}
use Rattle.dslx_meaning.specs.Types.{plain_type}
use Rattle.dslx_meaning.specs.declared.ty.DslxType.{DslxType}
use Rattle.dslx_meaning.specs.declared.value.DslxValue.{DslxValue}
use Rattle.dslx_meaning.specs.Rules.TypeEnvs.{GlobalEnv}
use Rattle.dslx_core.proofs.Lemmas.Typing.Typed.{same_some}
use Rattle.dslx_core.specs.CoreOf.{BehavesAlike, CoreOf, EachBehavesAlike}
use Rattle.dslx_core.specs.Designs.{CoreActivity, CoreElaborated, core_activation, core_behavior, core_behaviors, core_chans, core_family, core_head, do_steps, functions_of, token}
use Rattle.dslx_core.specs.declared.design.Design.{Design}
use Rattle.dslx_core.specs.declared.design.Instance.{Instance}
use Rattle.dslx_core.specs.Lowering.Activities.{DoesTheSame}
use Rattle.dslx_core.specs.Lowering.CoreScopes.{BodyEnv, with_local}
use Rattle.dslx_core.specs.Lowering.EqualTypes.{equal_type}
use Rattle.dslx_core.specs.Lowering.Functions.{CoreInstance, Instantiated, instances_from, parametric_args_are_well_typed, outer_scope}
use Rattle.dslx_core.specs.Lowering.Instances.{CallsSettle, ItemsAreOwn, functions_of_instances}
use Rattle.dslx_core.specs.Lowering.Steps.{LoweredNext, is_sized, lower_next, proc_globals, statements_steps, steps_from}
use Rattle.dslx_core.specs.Lowering.Trees.{lower_type_of_text}
use Rattle.dslx_core.proofs.Lemmas.Lowering.{from_plain, from_then, from_where, next_of_instances, state_of_instances}
use Rattle.dslx_core.specs.Typing.Activities.ActivityGoesOn.{ActivityGoesOn, Ends, Waits}
use Rattle.dslx_core.specs.Typing.Activities.Members.{IsWellTypedNext}
use Rattle.dslx_core.proofs.Lemmas.Typing.Activities.{activation_goes}
use Rattle.dslx_core.specs.Networks.Assembly.{DesignEnds, IsDesignFrom}
use Rattle.dslx_core.proofs.Lemmas.Networks.{AllSimulate, LowersTo, CoreSimulates, chans_alike, design_made, family_simulates, head_alike, networks_alike}
use Rattle.dslx_core.specs.Behaviors.WellTypedNexts.{EachNextIsWellTyped, HasWellTypedNexts, NextIsWellTyped}
use Rattle.dslx_core.proofs.OnBehaviors.Waits.{WaitsThere, steps_wait}

-- ---- one activation

-- the same turns, and the same last value
pub record IsOneActivity (a : Activity) (c : CoreActivity) : Type 0 where
  pub turns : c.turns ≡ a.turns
  pub last : unwrap_or c.last token ≡ state_of a.last

one_activity : (t : DslxType) (n : ℕ) (words : List Word) (a : Activity) (c : CoreActivity) → DoesTheSame t a c → ActivityGoesOn t n words a → ((front : List Turn) → WaitsThere front words c) → IsOneActivity a c
one_activity t n words a c same (Ends v e of many) waits =
    let q = same.last v e in
    record { turns = q.1; last = ap (λ o. unwrap_or o token) q.2 ∙ sym (ap state_of e) }
one_activity t n words a c same (Waits front e last all) waits =
    let w = waits front (λ i turn q. same.turns i turn (ap (λ ts. slice_get ts i) e ∙ q)) all in
    record { turns = w.turns ∙ sym e; last = ap (λ o. unwrap_or o token) w.last ∙ sym (ap state_of last) }

-- the states of what is lowered have elements in each array
state_is_sized : (known : BodyEnv) (p : Proc) (l : LoweredNext) → lower_next known p ≡ Some l → is_sized l.state ≡ true
state_is_sized known p l low =
    let w = from_where (parametric_args_are_well_typed known.items known.parametric_args && not (known.items.is_constant p.next.state.name))
    (and_then (lower_type_of_text p.next.ty (outer_scope known)) (λ t. where_true (is_sized t) (steps_from (outer_scope known) p t))) l low in
    let t = from_then (lower_type_of_text p.next.ty (outer_scope known)) (λ t. where_true (is_sized t) (steps_from (outer_scope known) p t)) l w.1 in
    let z = from_where (is_sized t.0) (steps_from (outer_scope known) p t.0) l t.2 in
    let s = from_then (statements_steps (outer_scope known) p.members (out-Block p.next.body).statements (out-Block p.next.body).value (with_local p.next.state.name t.0 (outer_scope known)))
    (λ s. where_true (equal_type t.0 s.next.ty) (Some (record { state = t.0; steps = s.steps; next = s.next.core }))) l z.1 in
    let q = from_where (equal_type t.0 s.0.next.ty) (Some (record { state = t.0; steps = s.0.steps; next = s.0.next.core })) l s.2 in
    subst (λ (x : LoweredNext). is_sized x.state ≡ true) (same_some (record { state = t.0; steps = s.0.steps; next = s.0.next.core }) l q.1) z.0

-- ---- a proc

module _ (m : Module) (own : ItemsAreOwn (meanings_of m)) (known : GlobalEnv) (is : List Instantiated) (functions : List CoreInstance) (settled : CallsSettle m (meanings_of m) is)
    (each : instances_from m (meanings_of m) [] is ≡ Some functions) where
  activation_alike : (p : Proc) (parametric_args : List DslxValue) (l : LoweredNext) → lower_next (proc_globals m (meanings_of m) functions p parametric_args) p ≡ Some l → IsWellTypedNext known p parametric_args l.state
      → (state : Value) → IsOfType (plain_type l.state) state → (words : List Word) → activation_of known.items p parametric_args state words ≡ activation_of (meanings_of m) p parametric_args state words
      → IsOneActivity (activation_of (meanings_of m) p parametric_args state words) (do_steps (functions_of_instances functions) l.steps l.next (state ∷ []) words)
  activation_alike p parametric_args l low well_typed state typed words means =
      let of = (from_plain l.state (state_is_sized (proc_globals m (meanings_of m) functions p parametric_args) p l low) state typed).0 in
      let goes = activation_goes known p parametric_args l.state well_typed state of words in
      one_activity l.state (length (site_names p)) words (activation_of (meanings_of m) p parametric_args state words) (do_steps (functions_of_instances functions) l.steps l.next (state ∷ []) words)
      (next_of_instances m (meanings_of m) own is functions settled each p parametric_args l low state words typed)
      (subst (ActivityGoesOn l.state (length (site_names p)) words) means goes)
      (steps_wait (functions_of_instances functions) l.steps l.next (state ∷ []) words)

  -- a proc that is placed, in each design whose functions these are
  behavior_alike : (design : Design) → functions_of design ≡ functions_of_instances functions → (chans : List Chan) → core_chans design ≡ chans → (a : Elaborated) (c : CoreElaborated) → CoreSimulates (LowersTo m (meanings_of m) functions) a c
      → NextIsWellTyped m known a → BehavesAlike (core_behavior design c) (behavior_at (meanings_of m) chans a)
  behavior_alike design calls chans same a c stands well_typed = record {
    state = ap (λ (h : ProcHead). h.state) head;
    sites = ap (λ (h : ProcHead). h.sites) head;
    width = ap width_of_chan same;
    turn = λ state typed words i. let one = alike state typed words in ap (λ ts. turn_at (slice_get ts i)) one.turns;
    next_state = λ state typed words. (alike state typed words).last;
  }
    where
      b : LowersTo m (meanings_of m) functions a.proc a.parametric_args c.instance
      b = stands.instance

      head : core_head c ≡ head_at (meanings_of m) a
      head = head_alike m (meanings_of m) own is functions settled each a c stands

      own_well_typed : IsWellTypedNext known a.proc a.parametric_args b.next.state
      own_well_typed = well_typed.well_typed b.next.state (well_typed.state ∙ state_of_instances m (meanings_of m) own is functions settled each a.proc a.parametric_args b.next b.lowered)

      alike : (state : Value) → IsOfType c.instance.state state → (words : List Word) → IsOneActivity (activation_of (meanings_of m) a.proc a.parametric_args state words) (core_activation (functions_of design) c.instance state words)
      alike state typed words =
          subst (λ f. IsOneActivity (activation_of (meanings_of m) a.proc a.parametric_args state words) (core_activation f c.instance state words)) (sym calls)
          (subst (λ (i : Instance). IsOneActivity (activation_of (meanings_of m) a.proc a.parametric_args state words) (core_activation (functions_of_instances functions) i state words)) b.is
          (activation_alike a.proc a.parametric_args b.next b.lowered own_well_typed state (subst (λ (i : Instance). IsOfType i.state state) (sym b.is) typed) words (well_typed.means state words)))

  behaviors_alike : (design : Design) → functions_of design ≡ functions_of_instances functions → (chans : List Chan) → core_chans design ≡ chans → (as' : List Elaborated) (cs : List CoreElaborated) → AllSimulate (LowersTo m (meanings_of m) functions) as' cs
      → EachNextIsWellTyped m known as' → EachBehavesAlike (map (core_behavior design) cs) (map (behavior_at (meanings_of m) chans) as')
  behaviors_alike design calls chans same [] [] h well_typed = tt
  behaviors_alike design calls chans same [] (c ∷ cs) h well_typed = absurd h
  behaviors_alike design calls chans same (a ∷ as') [] h well_typed = absurd h
  behaviors_alike design calls chans same (a ∷ as') (c ∷ cs) h well_typed = (behavior_alike design calls chans same a c h.0 well_typed.0, behaviors_alike design calls chans same as' cs h.1 well_typed.1)

-- ---- the whole

pub texts_simulate : (m : Module) (top : Option (List ℕ)) (design : Design) → ItemsAreOwn (meanings_of m) → (h : IsDesignFrom m top design) → DesignEnds m top design h → HasWellTypedNexts m top → CoreOf m top design
texts_simulate m top design own h ends well_typed = record {
  network = networks_alike m top design own h ends;
  behaviors =
      subst (λ d. EachBehavesAlike (core_behaviors d) (behaviors_of m top)) (sym h.design_is)
      (subst (EachBehavesAlike (core_behaviors made)) (sym (ap (behaviors_if m) h.is_top))
      (behaviors_alike m own well_typed.known h.named_functions h.functions ends.functions h.each_function made refl (chans_of_top m h.proc) (chans_alike m top design own h ends) (family_of m h.proc).procs (core_family made).procs
      (family_simulates m top design own h ends).procs (well_typed.nexts h.proc h.is_top)));
}
  where
    made : Design
    made = design_made m top design own h ends
