-- Each instance in a table of a text's instances of procs places the family that the text places.
use Rattle.std.proofs.Common.{◌≡◌, ◌++◌, ◌+◌, ◌&&◌, not, ℕ, zero, suc, Bool, true, false, if◌then◌else◌, List, [], ◌∷◌, length, Option, Some, None, refl, sym, ap, subst, ◌∙◌, ◌⊎◌, inl, inr, arith}
use Rattle.std.specs.Prelude.{slice_get, flat_map}
use Rattle.std.proofs.lemmas.Bool.Decides.{Decides-eqb}
use Rattle.std.proofs.lemmas.List.{length-map, map-append}
use Rattle.std.proofs.lemmas.Option.{slice_get_within}
use Rattle.dslx_tree.specs.declared.item.Module.{Module}
use Rattle.dslx_tree.specs.declared.item.Definition.{Definition}
use Rattle.dslx_tree.specs.declared.item.Definition.TheVariants as d
use Rattle.dslx_tree.specs.declared.process.Proc.{Proc}
use Rattle.dslx_tree.specs.declared.process.ConfigStatement.{ConfigStatement}
use Rattle.dslx_tree.specs.declared.process.ConfigStatement.TheVariants as config_statement
use Rattle.dslx_meaning.specs.Activation.{opening_state}
use Rattle.dslx_meaning.specs.Environment.{Meanings}
use Rattle.dslx_meaning.specs.Items.{item_named, parametric_args_bound}
use Rattle.dslx_meaning.specs.Lists.{and_then, where_true}
use Rattle.dslx_meaning.specs.Network.{as_proc, handed_over, elaborate_within}
use Rattle.dslx_meaning.specs.declared.value.DslxValue.{DslxValue}
use Rattle.dslx_meaning.specs.Rules.Mentions.{AsProc, Mention, ends_mentions, is_of_use, config_statement_mentions, mention, mentioned_in_arg, mentioned_in_block, mentioned_in_type, mentions_of, names_mentioned, parametric_names, parametrics_mentions, proc_mentions}
use Rattle.dslx_core.proofs.Lemmas.Typing.Laws.Chains.{Ends, OfEach}
use Rattle.dslx_core.proofs.Lemmas.Typing.Laws.{and_true}
use Rattle.dslx_core.specs.Typing.Typed.Kinds.{is_of}
use Rattle.dslx_core.proofs.Lemmas.Typing.Typed.{none_some, same_some}
use Rattle.dslx_core.specs.Designs.{CoreElaboration, and_instance, core_elaborate, no_function, no_elaboration, elaborations_from}
use Rattle.dslx_core.specs.declared.design.Instance.{Instance}
use Rattle.dslx_core.specs.Lowering.Correspondence.{SimulatesInScope}
use Rattle.dslx_core.specs.Lowering.Functions.{CoreInstance, Instantiated, parametric_args_are_well_typed, outer_scope}
use Rattle.dslx_core.specs.Lowering.Instances.{ItemsAreOwn}
use Rattle.dslx_core.specs.Lowering.Steps.{LoweredNext, lower_next, proc_globals, is_sized, steps_from}
use Rattle.dslx_core.specs.Lowering.Trees.{lower_type_of_text}
use Rattle.dslx_core.proofs.Lemmas.Lowering.{at_the_end, from_both, from_then, from_where, not_the_end, parametric_args_hide, parametric_args_own}
use Rattle.dslx_core.specs.Networks.Configs.{LoweredConfig, ProcInstance, lower_config, config_scope}
use Rattle.dslx_core.specs.Networks.Assembly.{instances_alone}
use Rattle.dslx_core.specs.Networks.Procs.{instance_of, next_proc, lower_proc, procs_from}
use Rattle.dslx_core.proofs.OnNetworks.Families.{FamilySimulates, ScopesAlike, SpawnsNamed, scope_simulates}

-- ---- an instance is lowered

-- an instance of a proc, by what it becomes
pub record LowersTo (m : Module) (items : Meanings) (functions : List CoreInstance) (p : Proc) (parametric_args : List DslxValue) (i : Instance) : Type 0 where
  pub next : LoweredNext
  pub config : LoweredConfig
  pub opening : DslxValue
  pub lowered : lower_next (proc_globals m items functions p parametric_args) p ≡ Some next
  pub opens : opening_state items p parametric_args ≡ Some opening
  pub is : instance_of p next config opening ≡ i

becomes : (m : Module) (items : Meanings) (functions : List CoreInstance) (procs : List ProcInstance) (p : Proc) (parametric_args : List DslxValue) (i : Instance) → lower_proc m items functions procs p parametric_args ≡ Some i
    → (b : LowersTo m items functions p parametric_args i) × (lower_config m items procs p parametric_args ≡ Some b.config)
becomes m items functions procs p parametric_args i e =
    let q = from_both (lower_next (proc_globals m items functions p parametric_args) p) (lower_config m items procs p parametric_args) (λ next config.
    and_then (opening_state items p parametric_args) (λ v. where_true (is_of next.state v) (Some (instance_of p next config v)))) i e in
    let v = from_then (opening_state items p parametric_args) (λ v. where_true (is_of q.0.state v) (Some (instance_of p q.0 q.1 v))) i q.4 in
    let w = from_where (is_of q.0.state v.0) (Some (instance_of p q.0 q.1 v.0)) i v.2 in
    (record { next = q.0; config = q.1; opening = v.0; lowered = q.2; opens = v.1; is = same_some (instance_of p q.0 q.1 v.0) i w.1 }, q.3)

-- where its `config` stands
pub config_simulates : (items : Meanings) → ItemsAreOwn items → (p : Proc) (parametric_args : List DslxValue) → parametric_args_are_well_typed items (parametric_args_bound [] p.parametrics parametric_args) ≡ true
    → SimulatesInScope (config_scope items p parametric_args) no_function (parametric_args_bound [] p.parametrics parametric_args) []
config_simulates items own p parametric_args test =
    let hides = parametric_args_hide items (parametric_args_bound [] p.parametrics parametric_args) test in
    record {
      known = record {
        parametric_args = parametric_args_own items (parametric_args_bound [] p.parametrics parametric_args) test;
        constants = own.constants;
        members = own.members;
        hides = hides;
        callees = λ name given operands types callee v e of value. none_some callee e;
      };
      count = refl;
      slots = refl;
      hides = hides;
    }

-- parametrics of what is lowered stand
pub parametric_args_of_next : (m : Module) (items : Meanings) (functions : List CoreInstance) (p : Proc) (parametric_args : List DslxValue) (l : LoweredNext) → lower_next (proc_globals m items functions p parametric_args) p ≡ Some l
    → parametric_args_are_well_typed items (parametric_args_bound [] p.parametrics parametric_args) ≡ true
parametric_args_of_next m items functions p parametric_args l e =
    let known = proc_globals m items functions p parametric_args in
    let w = from_where (parametric_args_are_well_typed items known.parametric_args && not (items.is_constant p.next.state.name))
    (and_then (lower_type_of_text p.next.ty (outer_scope known)) (λ t. where_true (is_sized t) (steps_from (outer_scope known) p t))) l e in
    (and_true (parametric_args_are_well_typed items known.parametric_args) (not (items.is_constant p.next.state.name)) w.0).0

-- ---- what a proc spawns, it mentions

den_join : (m : Module) (a b : List Mention) → names_mentioned m (a ++ b) ≡ names_mentioned m a ++ names_mentioned m b
den_join m [] b = refl
den_join m (n ∷ ns) b = by_use (is_of_use n.use_as (item_named n.name m.items)) (den_join m ns b)
  where
    by_use : (t : Bool) → names_mentioned m (ns ++ b) ≡ names_mentioned m ns ++ names_mentioned m b
        → (if t then n.name ∷ names_mentioned m (ns ++ b) else names_mentioned m (ns ++ b)) ≡ (if t then n.name ∷ names_mentioned m ns else names_mentioned m ns) ++ names_mentioned m b
    by_use true e = ap (λ xs. n.name ∷ xs) e
    by_use false e = e

each_first : (P : List ℕ → Type 0) (xs ys : List (List ℕ)) → OfEach P (xs ++ ys) → OfEach P xs
each_first P [] ys h = tt
each_first P (x ∷ xs) ys h = (h.0, each_first P xs ys h.1)

each_last : (P : List ℕ → Type 0) (xs ys : List (List ℕ)) → OfEach P (xs ++ ys) → OfEach P ys
each_last P [] ys h = h
each_last P (x ∷ xs) ys h = each_last P xs ys h.1

firsts : (P : List ℕ → Type 0) (m : Module) (a b : List Mention) → OfEach P (names_mentioned m (a ++ b)) → OfEach P (names_mentioned m a)
firsts P m a b h = each_first P (names_mentioned m a) (names_mentioned m b) (subst (OfEach P) (den_join m a b) h)

lasts : (P : List ℕ → Type 0) (m : Module) (a b : List Mention) → OfEach P (names_mentioned m (a ++ b)) → OfEach P (names_mentioned m b)
lasts P m a b h = each_last P (names_mentioned m a) (names_mentioned m b) (subst (OfEach P) (den_join m a b) h)

pub proc_of_use : (o : Option Definition) (q : Proc) → as_proc o ≡ Some q → is_of_use AsProc o ≡ true
proc_of_use None q e = none_some q e
proc_of_use (Some (d.Proc p)) q e = refl
proc_of_use (Some (d.Function f)) q e = none_some q e
proc_of_use (Some (d.Constant c)) q e = none_some q e
proc_of_use (Some (d.Alias a)) q e = none_some q e
proc_of_use (Some (d.Struct s)) q e = none_some q e
proc_of_use (Some (d.Enum n)) q e = none_some q e

proc_is : (o : Option Definition) (q : Proc) → as_proc o ≡ Some q → o ≡ Some (d.Proc q)
proc_is None q e = none_some q e
proc_is (Some (d.Proc p)) q e = ap (λ x. Some (d.Proc x)) (same_some p q e)
proc_is (Some (d.Function f)) q e = none_some q e
proc_is (Some (d.Constant c)) q e = none_some q e
proc_is (Some (d.Alias a)) q e = none_some q e
proc_is (Some (d.Struct s)) q e = none_some q e
proc_is (Some (d.Enum n)) q e = none_some q e

spawns_named : (P : List ℕ → Type 0) (m : Module) (bound : List (List ℕ)) (ms : List ConfigStatement) → OfEach P (names_mentioned m (flat_map (λ x. config_statement_mentions x bound) ms)) → SpawnsNamed m P ms
spawns_named P m bound [] h = tt
spawns_named P m bound (config_statement.Channel c ∷ ms) h = spawns_named P m bound ms (lasts P m (config_statement_mentions (config_statement.Channel c) bound) (flat_map (λ x. config_statement_mentions x bound) ms) h)
spawns_named P m bound (config_statement.Spawn s ∷ ms) h =
    (λ q e. target q e, spawns_named P m bound ms (lasts P m (config_statement_mentions (config_statement.Spawn s) bound) (flat_map (λ x. config_statement_mentions x bound) ms) h))
  where
    own : OfEach P (names_mentioned m (mention AsProc s.target.name))
    own = firsts P m (mention AsProc s.target.name) (flat_map (λ a. mentioned_in_arg a bound) s.arguments) (firsts P m (config_statement_mentions (config_statement.Spawn s) bound) (flat_map (λ x. config_statement_mentions x bound) ms) h)

    target : (q : Proc) → as_proc (item_named s.target.name m.items) ≡ Some q → P s.target.name
    target q e = (subst (λ t. OfEach P (if t then s.target.name ∷ [] else [])) (proc_of_use (item_named s.target.name m.items) q e) own).0

-- what is so of each item that a proc mentions is so of those that it spawns
proc_spawns : (P : List ℕ → Type 0) (m : Module) (name : List ℕ) (p : Proc) → as_proc (item_named name m.items) ≡ Some p → OfEach P (mentions_of m (item_named name m.items)) → SpawnsNamed m P p.config.config_statements
proc_spawns P m name p e h = spawns_named P m parametric_args p.config.config_statements (lasts P m front config_statements (firsts P m (front ++ config_statements) init (firsts P m ((front ++ config_statements) ++ init) state (firsts P m (((front ++ config_statements) ++ init) ++ state) body all))))
  where
    parametric_args : List (List ℕ)
    parametric_args = parametric_names p.parametrics

    front : List Mention
    front = (parametrics_mentions p.parametrics [] ++ ends_mentions p.members parametric_args) ++ ends_mentions p.config.ends parametric_args

    config_statements : List Mention
    config_statements = flat_map (λ x. config_statement_mentions x parametric_args) p.config.config_statements

    init : List Mention
    init = mentioned_in_block p.init parametric_args

    state : List Mention
    state = mentioned_in_type p.next.ty parametric_args

    body : List Mention
    body = mentioned_in_block p.next.body (p.next.state.name ∷ parametric_args)

    all : OfEach P (names_mentioned m (proc_mentions p))
    all = subst (λ o. OfEach P (mentions_of m o)) (proc_is (item_named name m.items) p e) h

-- ---- tables

-- what is known of a table: each instance is placed as the text places it, where no chain of items is longer than it may be
abbrev pub TableSimulates : Module → Meanings → List CoreInstance → List ProcInstance → CoreElaboration → Type 0
TableSimulates m items functions procs core = (n : ℕ) → ScopesAlike (LowersTo m items functions) m (Ends m n) procs (elaborate_within m items n) core

grown : (m : Module) (items : Meanings) → ItemsAreOwn items → (functions : List CoreInstance) (before : List ProcInstance) (core : CoreElaboration) → TableSimulates m items functions before core
    → (i : Instantiated) (c : ProcInstance) → next_proc m items functions before i ≡ Some c → TableSimulates m items functions (before ++ c ∷ []) (and_instance (length before) c.instance core)
grown m items own functions before core h i c e n j x there ends q named path given number many = by_scope (at_the_end before c j x there)
  where
    P : Proc → List DslxValue → Instance → Type 0
    P = LowersTo m items functions

    earlier : slice_get before j ≡ Some x → FamilySimulates P (elaborate_within m items n path q x.parametric_args (handed_over q.config.ends given) number) (and_instance (length before) c.instance core path j given number)
    earlier k =
        subst (λ b. FamilySimulates P (elaborate_within m items n path q x.parametric_args (handed_over q.config.ends given) number) (if b then core_elaborate core c.instance path given number else core path j given number))
        (sym (not_the_end j (length before) (slice_get_within before j x k))) (h n j x k ends q named path given number many)

    proc : (p : Proc) × (l : Instance) × (as_proc (item_named i.name m.items) ≡ Some p) × (lower_proc m items functions before p i.parametric_args ≡ Some l) × (record { name = i.name; parametric_args = i.parametric_args; instance = l } ≡ c)
    proc =
        let p = from_then (as_proc (item_named i.name m.items)) (λ p. and_then (lower_proc m items functions before p i.parametric_args) (λ l. Some (record { name = i.name; parametric_args = i.parametric_args; instance = l }))) c e in
        let l = from_then (lower_proc m items functions before p.0 i.parametric_args) (λ l. Some (record { name = i.name; parametric_args = i.parametric_args; instance = l })) c p.2 in
        (p.0, l.0, p.1, l.1, same_some (record { name = i.name; parametric_args = i.parametric_args; instance = l.0 }) c l.2)

    elaborated : (k : ℕ) (p : Proc) (l : Instance) → as_proc (item_named i.name m.items) ≡ Some p → lower_proc m items functions before p i.parametric_args ≡ Some l → Ends m k i.name → as_proc (item_named i.name m.items) ≡ Some q
        → FamilySimulates P (elaborate_within m items k path q i.parametric_args (handed_over q.config.ends given) number) (core_elaborate core l path given number)
    elaborated zero p l item low chain is = absurd chain
    elaborated (suc k) p l item low chain is =
        let same = same_some p q (sym item ∙ is) in
        let b = becomes m items functions before q i.parametric_args l (ap (λ y. lower_proc m items functions before y i.parametric_args) (sym same) ∙ low) in
        let stands = config_simulates items own q i.parametric_args (parametric_args_of_next m items functions q i.parametric_args b.0.next b.0.lowered) in
        scope_simulates P m items (Ends m k) before (elaborate_within m items k) core (h k) q i.parametric_args stands (proc_spawns (Ends m k) m i.name q is chain) b.0.config b.1 l
        (record { made = sym (ap (λ (y : Instance). y.made) b.0.is); children = sym (ap (λ (y : Instance). y.children) b.0.is); members = sym (ap (λ (y : Instance). y.members) b.0.is) })
        b.0 path given number many

    last : (x ≡ c) → FamilySimulates P (elaborate_within m items n path q x.parametric_args (handed_over q.config.ends given) number) (core_elaborate core c.instance path given number)
    last s =
        let p = proc in
        let is : x ≡ record { name = i.name; parametric_args = i.parametric_args; instance = p.1 } = s ∙ sym p.4 in
        let low = elaborated n p.0 p.1 p.2 p.3 (subst (λ (y : ProcInstance). Ends m n y.name) is ends) (subst (λ (y : ProcInstance). as_proc (item_named y.name m.items) ≡ Some q) is named) in
        subst (λ (y : ProcInstance). FamilySimulates P (elaborate_within m items n path q y.parametric_args (handed_over q.config.ends given) number) (core_elaborate core c.instance path given number)) (sym is)
        (subst (λ (y : ProcInstance). FamilySimulates P (elaborate_within m items n path q i.parametric_args (handed_over q.config.ends given) number) (core_elaborate core y.instance path given number)) p.4 low)

    by_scope : (slice_get before j ≡ Some x) ⊎ ((j ≡ length before) × (c ≡ x)) → FamilySimulates P (elaborate_within m items n path q x.parametric_args (handed_over q.config.ends given) number) (and_instance (length before) c.instance core path j given number)
    by_scope (inl k) = earlier k
    by_scope (inr k) =
        subst (λ b. FamilySimulates P (elaborate_within m items n path q x.parametric_args (handed_over q.config.ends given) number) (if b then core_elaborate core c.instance path given number else core path j given number))
        (sym ((Decides-eqb j (length before)).1 k.0)) (last (sym k.1))

scopes_join : (n : ℕ) (is : List Instance) (i : Instance) (core : CoreElaboration) → elaborations_from n (is ++ i ∷ []) core ≡ and_instance (n + length is) i (elaborations_from n is core)
scopes_join n [] i core = let z : n ≡ n + 0 = omega arith in ap (λ k. and_instance k i core) z
scopes_join n (x ∷ is) i core = let z : suc n + length is ≡ n + suc (length is) = omega arith in scopes_join (suc n) is i (and_instance n x core) ∙ ap (λ k. and_instance k i (elaborations_from n (x ∷ is) core)) z

table_grows : (m : Module) (items : Meanings) → ItemsAreOwn items → (functions : List CoreInstance) (is : List Instantiated) (before : List ProcInstance) → TableSimulates m items functions before (elaborations_from 0 (instances_alone before) no_elaboration)
    → (procs : List ProcInstance) → procs_from m items functions before is ≡ Some procs → TableSimulates m items functions procs (elaborations_from 0 (instances_alone procs) no_elaboration)
table_grows m items own functions [] before h procs e = subst (λ ps. TableSimulates m items functions ps (elaborations_from 0 (instances_alone ps) no_elaboration)) (same_some before procs e) h
table_grows m items own functions (i ∷ is) before h procs e =
    let c = from_then (next_proc m items functions before i) (λ c. procs_from m items functions (before ++ c ∷ []) is) procs e in
    let more = grown m items own functions before (elaborations_from 0 (instances_alone before) no_elaboration) h i c.0 c.1 in
    table_grows m items own functions is (before ++ c.0 ∷ []) (subst (TableSimulates m items functions (before ++ c.0 ∷ [])) (sym (joined before c.0)) more) procs c.2
  where
    none_added : (k : ℕ) → 0 + k ≡ k
    none_added k = omega arith

    joined : (before : List ProcInstance) (c : ProcInstance) → elaborations_from 0 (instances_alone (before ++ c ∷ [])) no_elaboration ≡ and_instance (length before) c.instance (elaborations_from 0 (instances_alone before) no_elaboration)
    joined before c =
        let count : 0 + length (instances_alone before) ≡ length before = none_added (length (instances_alone before)) ∙ length-map before (λ (i : ProcInstance). i.instance) in
        ap (λ is. elaborations_from 0 is no_elaboration) (map-append (λ (i : ProcInstance). i.instance) before (c ∷ []))
        ∙ scopes_join 0 (instances_alone before) c.instance no_elaboration ∙ ap (λ k. and_instance k c.instance (elaborations_from 0 (instances_alone before) no_elaboration)) count

-- the table of a text's instances
pub table_simulates : (m : Module) (items : Meanings) → ItemsAreOwn items → (functions : List CoreInstance) (is : List Instantiated) (procs : List ProcInstance) → procs_from m items functions [] is ≡ Some procs
    → TableSimulates m items functions procs (elaborations_from 0 (instances_alone procs) no_elaboration)
table_simulates m items own functions is procs e = table_grows m items own functions is [] (λ n j x there ends q named path given number many. none_some x there) procs e

-- ---- each instance of a table is what its proc becomes

abbrev pub EachLowersTo : Module → Meanings → List CoreInstance → List ProcInstance → Type 0
EachLowersTo m items functions procs = (j : ℕ) (x : ProcInstance) → slice_get procs j ≡ Some x → (q : Proc) → as_proc (item_named x.name m.items) ≡ Some q → LowersTo m items functions q x.parametric_args x.instance

last_lowers_to : (m : Module) (items : Meanings) (functions : List CoreInstance) (before : List ProcInstance) (i : Instantiated) (c : ProcInstance) → next_proc m items functions before i ≡ Some c
    → (q : Proc) → as_proc (item_named c.name m.items) ≡ Some q → LowersTo m items functions q c.parametric_args c.instance
last_lowers_to m items functions before i c e q named =
    let p = from_then (as_proc (item_named i.name m.items)) (λ p. and_then (lower_proc m items functions before p i.parametric_args) (λ l. Some (record { name = i.name; parametric_args = i.parametric_args; instance = l }))) c e in
    let l = from_then (lower_proc m items functions before p.0 i.parametric_args) (λ l. Some (record { name = i.name; parametric_args = i.parametric_args; instance = l })) c p.2 in
    let is = same_some (record { name = i.name; parametric_args = i.parametric_args; instance = l.0 }) c l.2 in
    let one = same_some p.0 q (sym p.1 ∙ ap (λ (y : ProcInstance). as_proc (item_named y.name m.items)) is ∙ named) in
    subst (λ (y : ProcInstance). LowersTo m items functions q y.parametric_args y.instance) is
    (becomes m items functions before q i.parametric_args l.0 (ap (λ y. lower_proc m items functions before y i.parametric_args) (sym one) ∙ l.1)).0

pub each_lowers_to : (m : Module) (items : Meanings) (functions : List CoreInstance) (is : List Instantiated) (before : List ProcInstance) → EachLowersTo m items functions before
    → (procs : List ProcInstance) → procs_from m items functions before is ≡ Some procs → EachLowersTo m items functions procs
each_lowers_to m items functions [] before h procs e = subst (EachLowersTo m items functions) (same_some before procs e) h
each_lowers_to m items functions (i ∷ is) before h procs e =
    let c = from_then (next_proc m items functions before i) (λ c. procs_from m items functions (before ++ c ∷ []) is) procs e in
    each_lowers_to m items functions is (before ++ c.0 ∷ []) (λ j x there q named. by_scope c.0 (last_lowers_to m items functions before i c.0 c.1) j x (at_the_end before c.0 j x there) q named) procs c.2
  where
    by_scope : (c : ProcInstance) → ((q : Proc) → as_proc (item_named c.name m.items) ≡ Some q → LowersTo m items functions q c.parametric_args c.instance) → (j : ℕ) (x : ProcInstance)
        → (slice_get before j ≡ Some x) ⊎ ((j ≡ length before) × (c ≡ x)) → (q : Proc) → as_proc (item_named x.name m.items) ≡ Some q → LowersTo m items functions q x.parametric_args x.instance
    by_scope c last j x (inl k) q named = h j x k q named
    by_scope c last j x (inr k) q named =
        subst (λ (y : ProcInstance). LowersTo m items functions q y.parametric_args y.instance) k.1 (last q (ap (λ (y : ProcInstance). as_proc (item_named y.name m.items)) k.1 ∙ named))
