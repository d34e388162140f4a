-- Each step of the machine keeps that its table is of instances, each of which calls those before it, and what comes of all
-- that is open.
use Rattle.std.proofs.Common.{◌≡◌, ℕ, zero, suc, Bool, true, false, not, if◌then◌else◌, List, [], ◌∷◌, ◌++◌, length, map, Option, Some, None, refl, sym, subst, ap, ◌∙◌}
use Rattle.std.specs.Prelude.{nat_lt}
use Rattle.std.proofs.lemmas.List.{append_assoc, append-nil}
use Rattle.dslx_tree.specs.declared.item.Field.{Field}
use Rattle.dslx_tree.specs.declared.item.Function.{Function}
use Rattle.dslx_tree.specs.declared.item.Module.{Module}
use Rattle.dslx_meaning.specs.Environment.{Meanings}
use Rattle.dslx_meaning.specs.Items.{as_function, item_named}
use Rattle.dslx_meaning.specs.Lists.{all_some, and_then, where_true}
use Rattle.dslx_meaning.specs.declared.ty.DslxType.{DslxType}
use Rattle.dslx_core.proofs.Lemmas.Typing.Typed.{same_some}
use Rattle.dslx_core.specs.Lowering.CoreScopes.{BoundSlot, BodyEnv, CoreScope}
use Rattle.dslx_core.specs.Lowering.Functions.{CoreInstance, Instantiated, LoweredFunction, argument_types, arguments_in_scope, lower_function_body, callee_in, instance_globals, lower_instance, instances_from, next_instance, parametric_args_are_well_typed, outer_scope}
use Rattle.dslx_core.specs.Lowering.Lowering.{LoweredExpr}
use Rattle.dslx_core.specs.Lowering.Trees.{lower_block_of_text}
use Rattle.dslx_core.specs.Machines.Machine.Tasks.{LowerTask, OpenBody, OpenInstance, InstanceEnv, InstanceMachine}
use Rattle.dslx_core.specs.Machines.Machine.Bodies.{behind, scope_in}
use Rattle.dslx_core.specs.Machines.Machine.Machines.{after_steps, body_open, by_opened, closes, function_open, in_instance, in_root, instance_done, instance_open, instance_stepped, is_done, globals_of, last_made, machine_at, machine_stepped, missing_for, opens, root_stepped, with_done}
use Rattle.dslx_core.specs.Machines.Machine.Reached.{ExtendsTable, IsTable, at_table}
use Rattle.dslx_core.specs.Machines.Machine.Steps.{stepped}
use Rattle.dslx_core.proofs.Lemmas.Machines.Machine.Keeps.{keeps}
use Rattle.dslx_core.proofs.Lemmas.Machines.Machine.Options.{from_then, from_where}
use Rattle.dslx_core.proofs.Lemmas.Machines.Machine.Scopes.{does_all, end_of, end_of_next, makes, spot_of}
use Rattle.dslx_core.specs.Machines.Machine.Callees.{CalleesByName}
use Rattle.dslx_core.proofs.Lemmas.Machines.Machine.Steady.{type_anywhere}

-- ---- tables that grow

pub begins_itself : (table : List CoreInstance) → ExtendsTable table table
begins_itself table = record { more = []; is = sym (append-nil table) }

pub begins_further : (a b c : List CoreInstance) → ExtendsTable b a → ExtendsTable c b → ExtendsTable c a
begins_further a b c g h = record { more = g.more ++ h.more; is = h.is ∙ ap (λ t. t ++ h.more) g.is ∙ append_assoc a g.more h.more }

pub begins_with_done : (table : List CoreInstance) (c : CoreInstance) → ExtendsTable (table ++ c ∷ []) table
begins_with_done table c = record { more = c ∷ []; is = refl }

pub instances_further : (m : Module) (items : Meanings) (before : List CoreInstance) (is js : List Instantiated)
    → instances_from m items before (is ++ js) ≡ and_then (instances_from m items before is) (λ table. instances_from m items table js)
instances_further m items before [] js = refl
instances_further m items before (i ∷ is) js = by (next_instance m items before i) (λ c. instances_further m items (before ++ c ∷ []) is js)
  where
    by : (o : Option CoreInstance)
        → ((c : CoreInstance) → instances_from m items (before ++ c ∷ []) (is ++ js) ≡ and_then (instances_from m items (before ++ c ∷ []) is) (λ table. instances_from m items table js))
        → and_then o (λ c. instances_from m items (before ++ c ∷ []) (is ++ js)) ≡ and_then (and_then o (λ c. instances_from m items (before ++ c ∷ []) is)) (λ table. instances_from m items table js)
    by None rest = refl
    by (Some c) rest = rest c

-- one more instance
pub table_further : (m : Module) (items : Meanings) (table : List CoreInstance) (i : Instantiated) (c : CoreInstance) → IsTable m items table → next_instance m items table i ≡ Some c → IsTable m items (table ++ c ∷ [])
table_further m items table i c is e = (
  is.0 ++ i ∷ [],
  instances_further m items [] is.0 (i ∷ []) ∙ ap (λ o. and_then o (λ table. instances_from m items table (i ∷ []))) is.1
      ∙ ap (λ o. and_then o (λ c. instances_from m items (table ++ c ∷ []) [])) e,
)

-- ---- what is so of an open instance

-- whatever instances are still to be done, it becomes what comes of its body
abbrev pub OpenStands : InstanceEnv → OpenInstance → Type 0
OpenStands context o = (table : List CoreInstance) → ExtendsTable table context.table
    → next_instance context.text context.items table o.instance ≡ and_then (end_of (at_table context table) o.body) (λ p. and_then (last_made p.made) (λ e. Some (instance_done o e)))

abbrev pub AllStand : InstanceEnv → List OpenInstance → Type 0
AllStand context [] = Unit {0}
AllStand context (o ∷ rest) = OpenStands context o × AllStand context rest

stand_further : (context : InstanceEnv) (c : CoreInstance) (opened : List OpenInstance) → AllStand context opened → AllStand (with_done context c) opened
stand_further context c [] stand = tt
stand_further context c (o ∷ rest) stand = (
  λ table begins. stand.0 table (begins_further context.table (context.table ++ c ∷ []) table (begins_with_done context.table c) begins),
  stand_further context c rest stand.1,
)

-- ---- an instance that is opened

abbrev pub calling : BodyEnv → CalleesByName → BodyEnv
calling known c = record { items = known.items; parametric_args = known.parametric_args; callee = c }

pub types_anywhere : (known : BodyEnv) (c : CalleesByName) (fields : List Field) → argument_types (calling known c) fields ≡ argument_types known fields
types_anywhere known c fields = λ i. all_some (map (λ (f : Field). type_anywhere f.ty (outer_scope known) c i) fields)

pub arguments_anywhere : (known : BodyEnv) (c : CalleesByName) (fields : List Field) (ts : List DslxType) (locals : List BoundSlot) (count : ℕ)
    → arguments_in_scope fields ts (record { known = calling known c; locals = locals; count = count })
    ≡ and_then (arguments_in_scope fields ts (record { known = known; locals = locals; count = count })) (λ p. Some (record { known = calling known c; locals = p.locals; count = p.count }))
arguments_anywhere known c [] [] locals count = refl
arguments_anywhere known c [] (t ∷ ts) locals count = refl
arguments_anywhere known c (f ∷ fs) [] locals count = refl
arguments_anywhere known c (f ∷ fs) (t ∷ ts) locals count =
    by (known.items.is_constant f.name.name) (arguments_anywhere known c fs ts (record { name = f.name.name; slot = count; ty = t } ∷ locals) (suc count))
  where
    here : BodyEnv → CoreScope
    here k = record { known = k; locals = record { name = f.name.name; slot = count; ty = t } ∷ locals; count = suc count }

    by : (b : Bool)
        → arguments_in_scope fs ts (here (calling known c)) ≡ and_then (arguments_in_scope fs ts (here known)) (λ p. Some (record { known = calling known c; locals = p.locals; count = p.count }))
        → (if b then None else arguments_in_scope fs ts (here (calling known c)))
        ≡ and_then (if b then None else arguments_in_scope fs ts (here known)) (λ p. Some (record { known = calling known c; locals = p.locals; count = p.count }))
    by true rest = refl
    by false rest = rest

body_stands : (context : InstanceEnv) (f : Function) (i : Instantiated) (ts : List DslxType) (here : CoreScope) → as_function (item_named i.name context.text.items) ≡ Some f
    → parametric_args_are_well_typed context.items (globals_of context f i).parametric_args ≡ true → argument_types (globals_of context f i) f.arguments ≡ Some ts
    → arguments_in_scope f.arguments ts (outer_scope (globals_of context f i)) ≡ Some here → OpenStands context (record { instance = i; arguments = ts; body = body_open f i here })
body_stands context f i ts here is_f parametric_args types in_scope table begins =
    ap (λ o. and_then o (λ f. and_then (lower_instance (instance_globals context.text context.items table f i.parametric_args) f) (λ l. Some (record { name = i.name; parametric_args = i.parametric_args; function = l })))) is_f
    ∙ ap (λ b. and_then (where_true b (and_then (argument_types (later f) f.arguments) (lower_function_body (later f) f))) (λ l. Some (record { name = i.name; parametric_args = i.parametric_args; function = l }))) parametric_args
    ∙ ap (λ o. and_then (and_then o (lower_function_body (later f) f)) (λ l. Some (record { name = i.name; parametric_args = i.parametric_args; function = l })))
    (types_anywhere (globals_of context f i) (callee_in context.text context.items table) f.arguments ∙ types)
    ∙ ap (λ o. and_then (and_then o (λ scope. and_then (lower_block_of_text f.body scope) (λ e. Some (record { arguments = ts; result = e.ty; body = e.core }))))
    (λ (l : LoweredFunction). Some (record { name = i.name; parametric_args = i.parametric_args; function = l })))
    (arguments_anywhere (globals_of context f i) (callee_in context.text context.items table) f.arguments ts [] 0
    ∙ ap (λ o. and_then o (λ p. Some (record { known = later f; locals = p.locals; count = p.count }))) in_scope)
    ∙ by (lower_block_of_text f.body (scope_in (at_table context table) (body_open f i here)))
  where
    later : Function → BodyEnv
    later f = instance_globals context.text context.items table f i.parametric_args

    by : (o : Option LoweredExpr)
        → and_then (and_then o (λ e. Some (record { arguments = ts; result = e.ty; body = e.core }))) (λ (l : LoweredFunction). Some (record { name = i.name; parametric_args = i.parametric_args; function = l }))
        ≡ and_then (and_then (makes o (spot_of (at_table context table) (body_open f i here))) (λ p. Some p))
        (λ p. and_then (last_made p.made) (λ e. Some (instance_done (record { instance = i; arguments = ts; body = body_open f i here }) e)))
    by None = refl
    by (Some e) = refl

stands_as : (context : InstanceEnv) (o r : OpenInstance) → Some o ≡ Some r → OpenStands context o → OpenStands context r
stands_as context o r e stands = subst (OpenStands context) (same_some o r e) stands

open_stands : (context : InstanceEnv) (i : Instantiated) (o : OpenInstance) → instance_open context i ≡ Some o → OpenStands context o
open_stands context i o e =
    let f = from_then (as_function (item_named i.name context.text.items)) (λ f. function_open (globals_of context f i) f i) o e in
    let known : BodyEnv = globals_of context f.0 i in
    let opening : List DslxType → CoreScope → OpenInstance = λ ts here. record { instance = i; arguments = ts; body = body_open f.0 i here } in
    let n = from_where (parametric_args_are_well_typed context.items known.parametric_args) (and_then (argument_types known f.0.arguments) (λ ts. and_then (arguments_in_scope f.0.arguments ts (outer_scope known)) (λ here. Some (opening ts here)))) o f.2 in
    let t = from_then (argument_types known f.0.arguments) (λ ts. and_then (arguments_in_scope f.0.arguments ts (outer_scope known)) (λ here. Some (opening ts here))) o n.1 in
    let p = from_then (arguments_in_scope f.0.arguments t.0 (outer_scope known)) (λ here. Some (opening t.0 here)) o t.2 in
    stands_as context (opening t.0 p.0) o p.2 (body_stands context f.0 i t.0 p.0 f.1 n.0 t.1 p.1)

-- ---- the whole machine

-- what is so of a machine that began with this table and this root
pub record MachineStands (began : InstanceEnv) (root : OpenBody) (m : InstanceMachine) : Type 0 where
  pub text : m.context.text ≡ began.text
  pub items : m.context.items ≡ began.items
  pub is_table : IsTable m.context.text m.context.items m.context.table
  pub begins : ExtendsTable m.context.table began.table
  -- whatever instances are still to be done
  pub comes : (table : List CoreInstance) → ExtendsTable table m.context.table → end_of (at_table m.context table) root ≡ end_of (at_table m.context table) m.root
  pub opened : AllStand m.context m.opened

module _ (began : InstanceEnv) (start : OpenBody) where
  abbrev pub machine : InstanceEnv → ℕ → OpenBody → List OpenInstance → InstanceMachine
  machine context limit root opened = record { context = context; limit = limit; root = root; opened = opened }

  as_machine : (m r : InstanceMachine) → Some m ≡ Some r → MachineStands began start m → MachineStands began start r
  as_machine m r e stands = subst (MachineStands began start) (same_some m r e) stands

  opens_keeps : (i : Instantiated) (m r : InstanceMachine) → MachineStands began start m → opens i m ≡ Some r → MachineStands began start r
  opens_keeps i m r stands e =
      let next : OpenInstance → InstanceMachine = λ o. machine m.context m.limit m.root (o ∷ m.opened) in
      let a = from_where (nat_lt (length m.opened) m.limit) (and_then (instance_open m.context i) (λ o. Some (next o))) r e in
      let o = from_then (instance_open m.context i) (λ o. Some (next o)) r a.1 in
      as_machine (next o.0) r o.2 (record {
        text = stands.text;
        items = stands.items;
        is_table = stands.is_table;
        begins = stands.begins;
        comes = stands.comes;
        opened = (open_stands m.context i o.0 o.1, stands.opened);
      })

  -- a step in a body, whatever instances are still to be done
  step_comes : (context : InstanceEnv) (d : LowerTask) (todo : List LowerTask) (body next : OpenBody) (table : List CoreInstance) → missing_for d context ≡ None → stepped d context (behind todo body) ≡ Some next
      → ExtendsTable table context.table → end_of (at_table context table) (behind (d ∷ todo) body) ≡ end_of (at_table context table) next
  step_comes context d todo body next table there e begins = sym (keeps context table d (behind todo body) begins there) ∙ ap (end_of_next (at_table context table)) e

  root_keeps : (context : InstanceEnv) (limit : ℕ) (todo : List LowerTask) (body : OpenBody) (r : InstanceMachine)
      → MachineStands began start (machine context limit (behind todo body) []) → root_stepped todo (machine context limit (behind todo body) []) ≡ Some r → MachineStands began start r
  root_keeps context limit [] body r stands e = as_machine (machine context limit (behind [] body) []) r e stands
  root_keeps context limit (d ∷ todo) body r stands e = by (missing_for d context) refl e
    where
      m : InstanceMachine
      m = machine context limit (behind (d ∷ todo) body) []

      by : (o : Option Instantiated) → missing_for d context ≡ o → in_root o d todo m ≡ Some r → MachineStands began start r
      by (Some i) there e = opens_keeps i m r stands e
      by None there e =
          let b = from_then (stepped d context (behind todo body)) (λ body. Some (machine context limit body [])) r e in
          as_machine (machine context limit b.0 []) r b.2 (record {
            text = stands.text;
            items = stands.items;
            is_table = stands.is_table;
            begins = stands.begins;
            comes = λ table begins. stands.comes table begins ∙ step_comes context d todo body b.0 table there b.1 begins;
            opened = tt;
          })

  closes_keeps : (context : InstanceEnv) (limit : ℕ) (root : OpenBody) (o : OpenInstance) (rest : List OpenInstance) (r : InstanceMachine) → o.body.todo ≡ []
      → MachineStands began start (machine context limit root (o ∷ rest)) → closes o rest (machine context limit root (o ∷ rest)) ≡ Some r → MachineStands began start r
  closes_keeps context limit root o rest r empty stands h =
      let made = from_where (not (is_done context o.instance)) (and_then (last_made o.body.made) (λ e. Some (machine (with_done context (instance_done o e)) limit root rest))) r h in
      let e = from_then (last_made o.body.made) (λ e. Some (machine (with_done context (instance_done o e)) limit root rest)) r made.1 in
      let c : CoreInstance = instance_done o e.0 in
      as_machine (machine (with_done context c) limit root rest) r e.2 (record {
        text = stands.text;
        items = stands.items;
        is_table = table_further context.text context.items context.table o.instance c stands.is_table
            (stands.opened.0 context.table (begins_itself context.table)
            ∙ ap (λ todo. and_then (does_all context todo (spot_of context o.body)) (λ p. and_then (last_made p.made) (λ e. Some (instance_done o e)))) empty
            ∙ ap (λ last. and_then last (λ e. Some (instance_done o e))) e.1);
        begins = begins_further began.table context.table (context.table ++ c ∷ []) stands.begins (begins_with_done context.table c);
        comes = λ table begins. stands.comes table (begins_further context.table (context.table ++ c ∷ []) table (begins_with_done context.table c) begins);
        opened = stand_further context c rest stands.opened.1;
      })

  -- the body of the instance that was opened last
  abbrev pub with_body : OpenInstance → OpenBody → OpenInstance
  with_body o body = record { instance = o.instance; arguments = o.arguments; body = body }

  instance_keeps : (context : InstanceEnv) (limit : ℕ) (root : OpenBody) (todo : List LowerTask) (o : OpenInstance) (rest : List OpenInstance) (r : InstanceMachine)
      → MachineStands began start (machine context limit root (with_body o (behind todo o.body) ∷ rest))
      → instance_stepped todo (with_body o (behind todo o.body)) rest (machine context limit root (with_body o (behind todo o.body) ∷ rest)) ≡ Some r → MachineStands began start r
  instance_keeps context limit root [] o rest r stands e = closes_keeps context limit root (with_body o (behind [] o.body)) rest r refl stands e
  instance_keeps context limit root (d ∷ todo) o rest r stands e = by (missing_for d context) refl e
    where
      here : OpenInstance
      here = with_body o (behind (d ∷ todo) o.body)

      m : InstanceMachine
      m = machine context limit root (here ∷ rest)

      by : (i : Option Instantiated) → missing_for d context ≡ i → in_instance i d todo here rest m ≡ Some r → MachineStands began start r
      by (Some i) there e = opens_keeps i m r stands e
      by None there e =
          let b = from_then (stepped d context (behind todo o.body)) (λ body. Some (machine context limit root (with_body o body ∷ rest))) r e in
          as_machine (machine context limit root (with_body o b.0 ∷ rest)) r b.2 (record {
            text = stands.text;
            items = stands.items;
            is_table = stands.is_table;
            begins = stands.begins;
            comes = stands.comes;
            opened = (
              λ table begins. stands.opened.0 table begins
                  ∙ ap (λ q. and_then q (λ p. and_then (last_made p.made) (λ e. Some (instance_done o e)))) (step_comes context d todo o.body b.0 table there b.1 begins),
              stands.opened.1,
            );
          })

  opened_keep : (context : InstanceEnv) (limit : ℕ) (root : OpenBody) (opened : List OpenInstance) (r : InstanceMachine)
      → MachineStands began start (machine context limit root opened) → by_opened opened (machine context limit root opened) ≡ Some r → MachineStands began start r
  opened_keep context limit root [] r stands e = root_keeps context limit root.todo root r stands e
  opened_keep context limit root (o ∷ rest) r stands e = instance_keeps context limit root o.body.todo o rest r stands e

  pub step_keeps : (m r : InstanceMachine) → MachineStands began start m → machine_stepped m ≡ Some r → MachineStands began start r
  step_keeps m r stands e = opened_keep m.context m.limit m.root m.opened r stands e

  pub steps_keep : (n : ℕ) (m r : InstanceMachine) → MachineStands began start m → after_steps n m ≡ Some r → MachineStands began start r
  steps_keep zero m r stands e = as_machine m r e stands
  steps_keep (suc n) m r stands e =
      let next = from_then (machine_stepped m) (after_steps n) r e in
      steps_keep n next.0 r (step_keeps m next.0 stands next.1) next.2

  pub stands_at_first : (limit : ℕ) → IsTable began.text began.items began.table → MachineStands began start (machine_at began limit start)
  stands_at_first limit is = record {
    text = refl;
    items = refl;
    is_table = is;
    begins = begins_itself began.table;
    comes = λ table begins. refl;
    opened = tt;
  }
