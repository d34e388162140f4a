-- Each step of the machine keeps that what it opens, and what it adds to its table, is called, and that few calls lead there.
use Rattle.std.proofs.Common.{◌≡◌, ◌∙◌, ◌≤◌, ◌||◌, ℕ, zero, suc, Bool, true, false, not, List, [], ◌∷◌, ◌++◌, length, Option, Some, None, refl, sym, ap, subst, arith}
use Rattle.std.specs.Prelude.{nat_lt}
use Rattle.std.specs.Str.{bytes_eq}
use Rattle.std.proofs.lemmas.Bool.Decides.{nat_tests}
use Rattle.std.proofs.lemmas.List.Folds.{list_any-append}
use Rattle.std.proofs.lemmas.Slice.Eq.{bytes_eq-Decides}
use mathlib.Core.Bool.{true≢false}
use Rattle.dslx_tree.specs.declared.item.Module.{Module}
use Rattle.dslx_meaning.specs.Items.{as_function, item_named, meanings_of}
use Rattle.dslx_meaning.specs.Lists.{and_then, pairwise}
use Rattle.dslx_meaning.specs.Rules.EqualValues.{equal_value}
use Rattle.dslx_core.proofs.Lemmas.Lowering.{all_one_number}
use Rattle.dslx_core.proofs.Lemmas.Typing.Laws.{and_true}
use Rattle.dslx_core.proofs.Lemmas.Typing.Typed.{same_some}
use Rattle.dslx_core.specs.Lowering.CoreScopes.{BodyEnv, CoreScope}
use Rattle.dslx_core.specs.Lowering.Functions.{CoreInstance, Instantiated, argument_types, arguments_in_scope, is_instance, next_instance, outer_scope, parametric_args_are_well_typed}
use Rattle.dslx_core.specs.Machines.Machine.Bodies.{behind}
use Rattle.dslx_core.specs.Machines.Machine.Machines.{after_steps, body_open, by_opened, closes, function_open, globals_of, in_instance, in_root, instance_done, instance_open, instance_stepped, is_done, last_made, machine_at, machine_stepped, missing_for, opens, root_stepped, with_done}
use Rattle.dslx_core.specs.Machines.Machine.Reached.{IsTable, at_table}
use Rattle.dslx_core.specs.Machines.Machine.Steps.{stepped}
use Rattle.dslx_core.specs.Machines.Machine.Tasks.{InstanceEnv, InstanceMachine, LowerTask, OpenBody, OpenInstance}
use Rattle.dslx_core.specs.Machines.Alike.Tables.{has_instance}
use Rattle.dslx_core.proofs.Lemmas.Machines.Machine.Instances.{AllStand, MachineStands, OpenStands, stands_at_first, step_keeps}
use Rattle.dslx_core.proofs.Lemmas.Machines.Machine.Options.{from_then, from_where}
use Rattle.dslx_core.proofs.Lemmas.Machines.Machine.Scopes.{Spot, end_of, spot_of}
use Rattle.dslx_param.specs.Needed.{AreOfTable, AtOnce, IsCalled, IsCalledWithin, Through}
use Rattle.dslx_param.proofs.OnNeeded.Behind.{among_both}
use Rattle.dslx_param.proofs.OnNeeded.Lacking.{lacks}
use Rattle.dslx_param.proofs.OnNeeded.More.{FoundAmong, InstancesAreMono, knows_more}

-- ---- instances

-- by what an instance is found
abbrev key_of : CoreInstance → Instantiated
key_of c = record { name = c.name; parametric_args = c.parametric_args }

or_nothing : (a : Bool) → (a || false) ≡ true → a ≡ true
or_nothing true e = refl
or_nothing false e = e

is_key : (i : Instantiated) (c : CoreInstance) → is_instance i.name i.parametric_args c ≡ true → i ≡ key_of c
is_key i c e =
    let t = and_true (bytes_eq i.name c.name) (pairwise equal_value i.parametric_args c.parametric_args) e in
    λ k. record { name = (bytes_eq-Decides i.name c.name).0 t.0 k; parametric_args = all_one_number i.parametric_args c.parametric_args t.1 k }

same_instance : (o r : OpenInstance) → Some o ≡ Some r → r.instance ≡ o.instance
same_instance o r e = ap (λ (x : OpenInstance). x.instance) (sym (same_some o r e))

-- the instance that is opened is the one that was wanted
opened_as : (context : InstanceEnv) (i : Instantiated) (o : OpenInstance) → instance_open context i ≡ Some o → o.instance ≡ i
opened_as context i o e =
    let f = from_then (as_function (item_named i.name context.text.items)) (λ f. function_open (globals_of context f i) f i) o e in
    let known : BodyEnv = globals_of context f.0 i in
    let opening : List _ → CoreScope → OpenInstance = λ ts here. record { instance = i; arguments = ts; body = body_open f.0 i here } in
    let n = from_where (parametric_args_are_well_typed context.items known.parametric_args) (and_then (argument_types known f.0.arguments) (λ ts. and_then (arguments_in_scope f.0.arguments ts (outer_scope known)) (λ here. Some (opening ts here)))) o f.2 in
    let t = from_then (argument_types known f.0.arguments) (λ ts. and_then (arguments_in_scope f.0.arguments ts (outer_scope known)) (λ here. Some (opening ts here))) o n.1 in
    let p = from_then (arguments_in_scope f.0.arguments t.0 (outer_scope known)) (λ here. Some (opening t.0 here)) o t.2 in
    same_instance (opening t.0 p.0) o p.2

-- ---- numbers of open instances

room : (a b c : ℕ) → nat_lt a b ≡ true → b ≡ c → suc a ≤ c
room a b c h e = grind (arith, nat_tests, h, e)

one_less : (a c : ℕ) → suc a ≤ c → a ≤ c
one_less a c h = omega (arith, h)

-- within more, too
within_more : {A : Type 0} (m : Module) (meaning : List CoreInstance → Option A) (n : ℕ) (i : Instantiated) → IsCalledWithin m meaning n i → (k : ℕ) → n ≤ k → IsCalledWithin m meaning k i
within_more m meaning n i (AtOnce p j h) zero l = absurd (omega (arith, l))
within_more m meaning n i (AtOnce p j h) (suc k) l = AtOnce k j h
within_more m meaning n i (Through p j q within h) zero l = absurd (omega (arith, l))
within_more m meaning n i (Through p j q within h) (suc k) l = Through k j q (within_more m meaning p j within k (fewer p k l)) h
  where
    fewer : (p k : ℕ) → suc p ≤ suc k → p ≤ k
    fewer p k l = omega (arith, l)

-- ---- roots

-- where there is something by some instances, something comes of the root by others among which they are found
abbrev pub ComesOf : {A : Type 0} → Module → OpenBody → (List CoreInstance → Option A) → Type 0
ComesOf {A = A} m root meaning = (these more : List CoreInstance) → FoundAmong these more → (a : A) → meaning these ≡ Some a
    → (p : Spot) × (end_of (record { text = m; items = meanings_of m; table = more }) root ≡ Some p)

module _ {A : Type 0} (m : Module) (before : List CoreInstance) (limit : ℕ) (start : OpenBody) (meaning : List CoreInstance → Option A) (comes : ComesOf m start meaning) (mono : InstancesAreMono) where
  abbrev env : List CoreInstance → InstanceEnv
  env t = record { text = m; items = meanings_of m; table = t }

  abbrev Stands : InstanceMachine → Type 0
  Stands x = MachineStands (env before) start x

  same_env : (x : InstanceMachine) → Stands x → (t : List CoreInstance) → at_table x.context t ≡ env t
  same_env x stands t = λ i. record { text = stands.text i; items = stands.items i; table = t }

  -- instances of one table are found among those of the machine and themselves
  among : (x : InstanceMachine) → Stands x → (these : List CoreInstance) → AreOfTable m these → FoundAmong these (x.context.table ++ these)
  among x stands these are = among_both m x.context.table these (subst (λ (s : InstanceEnv). IsTable s.text s.items x.context.table) (same_env x stands x.context.table) stands.is_table) are

  -- what the root calls is called at once
  root_calls : (x : InstanceMachine) → Stands x → (d : LowerTask) (todo : List LowerTask) → x.root.todo ≡ d ∷ todo → (i : Instantiated) → missing_for d x.context ≡ Some i → IsCalled m meaning i
  root_calls x stands d todo is i e these are without = by (meaning these) refl
    where
      by : (o : Option A) → meaning these ≡ o → o ≡ None
      by None h = refl
      by (Some a) h =
          let both : List CoreInstance = x.context.table ++ these in
          let p = comes these both (among x stands these are) a h in
          lacks x.context these x.root.todo d todo (spot_of (at_table x.context both) x.root) p.0 i e without is
          (sym (stands.comes both (record { more = these; is = refl })) ∙ subst (λ (s : InstanceEnv). end_of s start ≡ Some p.0) (sym (same_env x stands both)) p.1)

  -- what an open instance calls is called in its body
  open_calls : (x : InstanceMachine) → Stands x → (o : OpenInstance) (rest : List OpenInstance) → x.opened ≡ o ∷ rest → (d : LowerTask) (todo : List LowerTask) → o.body.todo ≡ d ∷ todo
      → (i : Instantiated) → missing_for d x.context ≡ Some i → IsCalled m (λ t. next_instance m (meanings_of m) t o.instance) i
  open_calls x stands o rest there d todo is i e these are without = by (next_instance m (meanings_of m) these o.instance) refl
    where
      opens_to : OpenStands x.context o
      opens_to = (subst (AllStand x.context) there stands.opened).0

      by : (q : Option CoreInstance) → next_instance m (meanings_of m) these o.instance ≡ q → q ≡ None
      by None h = refl
      by (Some c) h =
          let both : List CoreInstance = x.context.table ++ these in
          let made = mono m (meanings_of m) these both (knows_more m (meanings_of m) these both (among x stands these are)) o.instance c h in
          let here : next_instance x.context.text x.context.items both o.instance ≡ Some made.0 = (λ k. next_instance (stands.text k) (stands.items k) both o.instance) ∙ made.1 in
          let p = from_then (end_of (at_table x.context both) o.body) (λ p. and_then (last_made p.made) (λ e. Some (instance_done o e))) made.0 (sym (opens_to both (record { more = these; is = refl })) ∙ here) in
          lacks x.context these o.body.todo d todo (spot_of (at_table x.context both) o.body) p.0 i e without is p.1

  -- ---- each step

  -- each open instance is called, through those that were opened before
  abbrev OpenCalled : List OpenInstance → Type 0
  OpenCalled [] = Unit {0}
  OpenCalled (o ∷ rest) = IsCalledWithin m meaning (suc (length rest)) o.instance × OpenCalled rest

  abbrev pub AddedCalled : List CoreInstance → Type 0
  AddedCalled table = (i : Instantiated) → has_instance i.name i.parametric_args table ≡ true → has_instance i.name i.parametric_args before ≡ false → IsCalledWithin m meaning limit i

  record AllCalled (x : InstanceMachine) : Type 0 where
    same_limit : x.limit ≡ limit
    few : length x.opened ≤ limit
    opened : OpenCalled x.opened
    added : AddedCalled x.context.table

  as_machine : (x r : InstanceMachine) → Some x ≡ Some r → AllCalled x → AllCalled r
  as_machine x r e called = subst AllCalled (same_some x r e) called

  opens_called : (i : Instantiated) (x r : InstanceMachine) → AllCalled x → IsCalledWithin m meaning (suc (length x.opened)) i → opens i x ≡ Some r → AllCalled r
  opens_called i x r called within e =
      let next : OpenInstance → InstanceMachine = λ o. record { context = x.context; limit = x.limit; root = x.root; opened = o ∷ x.opened } in
      let a = from_where (nat_lt (length x.opened) x.limit) (and_then (instance_open x.context i) (λ o. Some (next o))) r e in
      let o = from_then (instance_open x.context i) (λ o. Some (next o)) r a.1 in
      as_machine (next o.0) r o.2 (record {
        same_limit = called.same_limit;
        few = room (length x.opened) x.limit limit a.0 called.same_limit;
        opened = (subst (IsCalledWithin m meaning (suc (length x.opened))) (sym (opened_as x.context i o.0 o.1)) within, called.opened);
        added = called.added;
      })

  added_one : (table : List CoreInstance) (c : CoreInstance) → IsCalledWithin m meaning limit (key_of c) → AddedCalled table → AddedCalled (table ++ c ∷ [])
  added_one table c within added i has new = by (has_instance i.name i.parametric_args table) refl (sym (list_any-append (is_instance i.name i.parametric_args) table (c ∷ [])) ∙ has)
    where
      by : (b : Bool) → has_instance i.name i.parametric_args table ≡ b → (b || (is_instance i.name i.parametric_args c || false)) ≡ true → IsCalledWithin m meaning limit i
      by true h k = added i h new
      by false h k = subst (IsCalledWithin m meaning limit) (sym (is_key i c (or_nothing (is_instance i.name i.parametric_args c) k))) within

  closes_called : (o : OpenInstance) (rest : List OpenInstance) (x r : InstanceMachine) → x.opened ≡ o ∷ rest → AllCalled x → closes o rest x ≡ Some r → AllCalled r
  closes_called o rest x r there called h =
      let next : InstanceEnv → InstanceMachine = λ context. record { context = context; limit = x.limit; root = x.root; opened = rest } in
      let made = from_where (not (is_done x.context o.instance)) (and_then (last_made o.body.made) (λ e. Some (next (with_done x.context (instance_done o e))))) r h in
      let e = from_then (last_made o.body.made) (λ e. Some (next (with_done x.context (instance_done o e)))) r made.1 in
      let held : OpenCalled (o ∷ rest) = subst OpenCalled there called.opened in
      let few : suc (length rest) ≤ limit = subst (λ (l : List OpenInstance). length l ≤ limit) there called.few in
      as_machine (next (with_done x.context (instance_done o e.0))) r e.2 (record {
        same_limit = called.same_limit;
        few = one_less (length rest) limit few;
        opened = held.1;
        added = added_one x.context.table (instance_done o e.0) (within_more m meaning (suc (length rest)) o.instance held.0 limit few) called.added;
      })

  in_root_called : (i : Option Instantiated) (d : LowerTask) (todo : List LowerTask) (x r : InstanceMachine) → Stands x → x.opened ≡ [] → x.root.todo ≡ d ∷ todo → missing_for d x.context ≡ i
      → AllCalled x → in_root i d todo x ≡ Some r → AllCalled r
  in_root_called (Some i) d todo x r stands none is e called h =
      opens_called i x r called (subst (λ (l : List OpenInstance). IsCalledWithin m meaning (suc (length l)) i) (sym none) (AtOnce 0 i (root_calls x stands d todo is i e))) h
  in_root_called None d todo x r stands none is e called h =
      let next : OpenBody → InstanceMachine = λ body. record { context = x.context; limit = x.limit; root = body; opened = x.opened } in
      let b = from_then (stepped d x.context (behind todo x.root)) (λ body. Some (next body)) r h in
      as_machine (next b.0) r b.2 (record { same_limit = called.same_limit; few = called.few; opened = called.opened; added = called.added })

  root_called : (todo : List LowerTask) (x r : InstanceMachine) → Stands x → x.opened ≡ [] → x.root.todo ≡ todo → AllCalled x → root_stepped todo x ≡ Some r → AllCalled r
  root_called [] x r stands none is called e = as_machine x r e called
  root_called (d ∷ todo) x r stands none is called e = in_root_called (missing_for d x.context) d todo x r stands none is refl called e

  in_instance_called : (i : Option Instantiated) (d : LowerTask) (todo : List LowerTask) (o : OpenInstance) (rest : List OpenInstance) (x r : InstanceMachine) → Stands x → x.opened ≡ o ∷ rest → o.body.todo ≡ d ∷ todo
      → missing_for d x.context ≡ i → AllCalled x → in_instance i d todo o rest x ≡ Some r → AllCalled r
  in_instance_called (Some i) d todo o rest x r stands there is e called h =
      let held : OpenCalled (o ∷ rest) = subst OpenCalled there called.opened in
      opens_called i x r called (subst (λ (l : List OpenInstance). IsCalledWithin m meaning (suc (length l)) i) (sym there)
      (Through (suc (length rest)) o.instance i held.0 (open_calls x stands o rest there d todo is i e))) h
  in_instance_called None d todo o rest x r stands there is e called h =
      let next : OpenBody → InstanceMachine =
      λ body. record { context = x.context; limit = x.limit; root = x.root; opened = record { instance = o.instance; arguments = o.arguments; body = body } ∷ rest } in
      let b = from_then (stepped d x.context (behind todo o.body)) (λ body. Some (next body)) r h in
      let held : OpenCalled (o ∷ rest) = subst OpenCalled there called.opened in
      as_machine (next b.0) r b.2 (record {
        same_limit = called.same_limit;
        few = subst (λ (l : List OpenInstance). length l ≤ limit) there called.few;
        opened = held;
        added = called.added;
      })

  instance_called : (todo : List LowerTask) (o : OpenInstance) (rest : List OpenInstance) (x r : InstanceMachine) → Stands x → x.opened ≡ o ∷ rest → o.body.todo ≡ todo
      → AllCalled x → instance_stepped todo o rest x ≡ Some r → AllCalled r
  instance_called [] o rest x r stands there is called e = closes_called o rest x r there called e
  instance_called (d ∷ todo) o rest x r stands there is called e = in_instance_called (missing_for d x.context) d todo o rest x r stands there is refl called e

  opened_called : (opened : List OpenInstance) (x r : InstanceMachine) → Stands x → x.opened ≡ opened → AllCalled x → by_opened opened x ≡ Some r → AllCalled r
  opened_called [] x r stands there called e = root_called x.root.todo x r stands there refl called e
  opened_called (o ∷ rest) x r stands there called e = instance_called o.body.todo o rest x r stands there refl called e

  -- ---- all steps

  steps_called : (n : ℕ) (x r : InstanceMachine) → Stands x → AllCalled x → after_steps n x ≡ Some r → AllCalled r
  steps_called zero x r stands called e = as_machine x r e called
  steps_called (suc n) x r stands called e =
      let next = from_then (machine_stepped x) (after_steps n) r e in
      steps_called n next.0 r (step_keeps (env before) start x next.0 stands next.1) (opened_called x.opened x next.0 stands refl called next.1) next.2

  at_first : AllCalled (machine_at (env before) limit start)
  at_first = record { same_limit = refl; few = omega arith; opened = tt; added = λ i has new. absurd (true≢false (sym has ∙ new)) }

  pub machine_calls : (n : ℕ) (r : InstanceMachine) → IsTable m (meanings_of m) before → after_steps n (machine_at (env before) limit start) ≡ Some r → AddedCalled r.context.table
  machine_calls n r is e = (steps_called n (machine_at (env before) limit start) r (stands_at_first (env before) start limit is) at_first e).added
