-- The machine goes on, wherever something comes of its root where calls come to the instances of some table.
use Rattle.std.proofs.Common.{◌≡◌, ◌≤◌, ◌<◌, ◌+◌, ◌||◌, ℕ, zero, suc, not, nat_lt, true, List, [], ◌∷◌, ◌++◌, length, Option, Some, None, refl, sym, ap, subst, ◌∙◌, arith}
use Rattle.std.specs.Option.{is_some}
use Rattle.std.proofs.lemmas.Bool.Decides.{nat_tests}
use Rattle.std.proofs.Math.Bool.{or-true}
use Rattle.std.proofs.lemmas.List.{append-nil, length-append}
use Rattle.dslx_tree.specs.declared.item.Module.{Module}
use Rattle.dslx_meaning.specs.Environment.{Meanings}
use Rattle.dslx_meaning.specs.Lists.{and_then, where_true}
use Rattle.dslx_core.proofs.Lemmas.Typing.Typed.{same_some}
use Rattle.dslx_core.specs.Lowering.Functions.{CoreInstance, Instantiated, instance_in, next_instance}
use Rattle.dslx_core.specs.Lowering.Lowering.{LoweredExpr}
use Rattle.dslx_core.specs.Machines.Machine.Bodies.{behind}
use Rattle.dslx_core.specs.Machines.Machine.Machines.{after_steps, by_opened, in_instance, in_root, instance_done, instance_open, instance_stepped, last_made, machine_at, missing_for, opens, root_stepped, with_done}
use Rattle.dslx_core.specs.Machines.Machine.Reached.{ExtendsTable, IsTable, at_table}
use Rattle.dslx_core.specs.Machines.Machine.Steps.{instance_of}
use Rattle.dslx_core.specs.Machines.Machine.Tasks.{InstanceMachine, InstanceEnv, LowerTask, OpenBody, OpenInstance}
use Rattle.dslx_core.proofs.Lemmas.Machines.Machine.Instances.{MachineStands, begins_further, machine, stands_at_first, step_keeps, with_body}
use Rattle.dslx_core.proofs.Lemmas.Machines.Machine.Keeps.{found_longer}
use Rattle.dslx_core.proofs.Lemmas.Machines.Machine.Options.{from_then}
use Rattle.dslx_core.proofs.Lemmas.Machines.Machine.Scopes.{Spot, end_of}
use Rattle.dslx_core.specs.Machines.Alike.Alike.{OfOneType}
use Rattle.dslx_core.specs.Machines.Alike.Tables.{JoinedTable, has_instance}
use Rattle.dslx_core.proofs.Lemmas.Machines.Alike.{EachIsMade, FoundThere, HasThose, calls_by_tables, found_there, has_found, joined, made_table, more_tables_alike, next_alike, table_made, there_too}
use Rattle.dslx_core.proofs.OnMachines.OnProgress.Bodies.{TableResult, goes, needs}
use Rattle.dslx_core.proofs.OnMachines.OnProgress.Descent.{Descends, StandsAt, descends_on, not_too_many}
use Rattle.dslx_core.proofs.OnMachines.OnProgress.Opens.{may_open}

-- a joined table has the instances of the second
second_there : (m : Module) (items : Meanings) (first second : List CoreInstance) (both : JoinedTable m items first second) → HasThose second both.table
second_there m items first second both name parametric_args e = both.has name parametric_args ∙ ap (λ b. has_instance name parametric_args first || b) e ∙ or-true (has_instance name parametric_args first)

less_true : (a b : ℕ) → a < b → nat_lt a b ≡ true
less_true a b h = grind (arith, nat_tests)

-- the first instances of a table, so many
record ExtendsEach (m : Module) (items : Meanings) (table front : List CoreInstance) (k : ℕ) : Type 0 where
  back : List CoreInstance
  is : table ≡ front ++ back
  count : length front ≡ k
  each : EachIsMade m items [] front

-- what is given: another table, and that something comes of the root in each table that has its instances
pub record MayRun (before : List CoreInstance) (root : OpenBody) (table : List CoreInstance) (text : Module) (items : Meanings) : Type 0 where
  pub is_table : IsTable text items table
  pub comes : (longer : List CoreInstance) → IsTable text items longer → ExtendsTable longer before → HasThose table longer
      → (p : Spot) × (end_of (record { text = text; items = items; table = longer }) root ≡ Some p)

module _ (began : InstanceEnv) (start : OpenBody) (table : List CoreInstance) where
  -- what a step comes to is there, and what is open behind it stands in the table again
  record Goes (next : Option InstanceMachine) (limit : ℕ) : Type 0 where
    after : InstanceMachine
    is : next ≡ Some after
    same_limit : after.limit ≡ limit
    place : ℕ
    descends : Descends after.context table after.opened place

  -- ---- an instance is opened

  opening : (m : InstanceMachine) (i : Instantiated) (front : List CoreInstance) (k : ℕ) → length table ≤ m.limit → Descends m.context table m.opened k → ExtendsEach m.context.text m.context.items table front k
      → has_instance i.name i.parametric_args front ≡ true → instance_of m.context i ≡ None → Goes (opens i m) m.limit
  opening m i front k enough descends begins has new =
      let x = has_found i.name i.parametric_args 0 front has in
      let f = found_there m.context.text m.context.items [] front begins.each i 0 x.0 x.1 in
      let o = may_open m.context f.front i x.0.1 f.made in
      let less : x.0.0 < k = by_scope x.0.0 x.0.1 f.front f.back f.is f.place in
      let few = not_too_many m.context table m.opened k descends in
      let room : length m.opened < m.limit = omega (arith, less, few, enough) in
      let stands : StandsAt m.context table i x.0.0 k = record {
        there = x.0.1;
        found = ap (instance_in i.name i.parametric_args 0) begins.is ∙ found_longer i.name i.parametric_args 0 front begins.back x.0 x.1;
        less = less;
        new = new;
      } in
      record {
        after = machine began start m.context m.limit m.root (o.opened ∷ m.opened);
        is = ap (λ b. where_true b (and_then (instance_open m.context i) (λ o. Some (machine began start m.context m.limit m.root (o ∷ m.opened))))) (less_true (length m.opened) m.limit room)
            ∙ ap (λ o. and_then o (λ o. Some (machine began start m.context m.limit m.root (o ∷ m.opened)))) o.is;
        same_limit = refl;
        place = x.0.0;
        descends = (k, subst (λ j. StandsAt m.context table j x.0.0 k) (sym o.instance) stands, descends);
      }
    where
      by_scope : (n : ℕ) (c : CoreInstance) (before after : List CoreInstance) → front ≡ before ++ c ∷ after → n ≡ 0 + length before → n < k
      by_scope n c before after e p = let l = ap length e ∙ length-append before (c ∷ after) in let q = begins.count in omega (arith, l, p, q)

  module _ (context : InstanceEnv) (limit : ℕ) (enough : length table ≤ limit) (given : MayRun began.table start table context.text context.items) where
    -- ---- the root, which may need each instance of the table

    all_of_it : ExtendsEach context.text context.items table table (length table)
    all_of_it = record { back = []; is = sym (append-nil table); count = refl; each = table_made context.text context.items table given.is_table }

    root_goes : (todo : List LowerTask) (body : OpenBody) → MachineStands began start (machine began start context limit (behind todo body) [])
        → Goes (root_stepped todo (machine began start context limit (behind todo body) [])) limit
    root_goes [] body stands = record { after = machine began start context limit (behind [] body) []; is = refl; same_limit = refl; place = length table; descends = refl }
    root_goes (d ∷ todo) body stands = by (missing_for d context) refl
      where
        m : InstanceMachine
        m = machine began start context limit (behind (d ∷ todo) body) []

        both : JoinedTable context.text context.items context.table table
        both = joined context.text context.items context.table table stands.is_table given.is_table

        comes : TableResult context table both (behind (d ∷ todo) body)
        comes =
            let p = given.comes both.table both.is_table (begins_further began.table context.table both.table stands.begins both.begins) (second_there context.text context.items context.table table both) in
            (p.0, sym (stands.comes both.table both.begins) ∙ p.1)

        by : (o : Option Instantiated) → missing_for d context ≡ o → Goes (in_root o d todo m) limit
        by (Some i) e = let n = needs context table both d todo body i comes e in opening m i table (length table) enough refl all_of_it n.0 n.1
        by None e =
            let s = goes context table both d todo body comes e in
            record { after = machine began start context limit s.0 []; is = ap (λ o. and_then o (λ body. Some (machine began start context limit body []))) s.1; same_limit = refl; place = length table; descends = refl }

    -- ---- the instance that was opened last, which needs those of the table before it alone

    module _ (root : OpenBody) (o : OpenInstance) (rest : List OpenInstance) where
      -- with so much to be done in it
      abbrev here : List LowerTask → OpenInstance
      here todo = with_body began start o (behind todo o.body)

      abbrev at : List LowerTask → InstanceMachine
      at todo = machine began start context limit root (here todo ∷ rest)

      closing : (k : ℕ) → Descends context table (here [] ∷ rest) k → (e : LoweredExpr) → last_made o.body.made ≡ Some e → Goes (instance_stepped [] (here []) rest (at [])) limit
      closing k descends e last = record {
        after = done e;
        is = ap (λ x. where_true (not (is_some x)) (and_then (last_made o.body.made) (λ e. Some (done e)))) descends.1.new ∙ ap (λ x. and_then x (λ e. Some (done e))) last;
        same_limit = refl;
        place = descends.0;
        descends = descends_on context table (instance_done (here []) e) k descends.1.there descends.1.found rest descends.0 descends.1.less descends.2;
      }
        where
          done : LoweredExpr → InstanceMachine
          done e = machine began start (with_done context (instance_done (here []) e)) limit root rest

      -- something comes of its body where calls come to those that are done and to those before it
      body_goes : (todo : List LowerTask) (k : ℕ) → Descends context table (here todo ∷ rest) k → (front : List CoreInstance) → ExtendsEach context.text context.items table front k
          → (both : JoinedTable context.text context.items context.table front) (p : Spot) → end_of (at_table context both.table) (behind todo o.body) ≡ Some p → (e : LoweredExpr) → last_made p.made ≡ Some e
          → Goes (instance_stepped todo (here todo) rest (at todo)) limit
      body_goes [] k descends front begins both p comes e last = closing k descends e (ap (λ (p : Spot). last_made p.made) (same_some _ p comes) ∙ last)
      body_goes (d ∷ todo) k descends front begins both p comes e last = by (missing_for d context) refl
        where
          by : (i : Option Instantiated) → missing_for d context ≡ i → Goes (in_instance i d todo (here (d ∷ todo)) rest (at (d ∷ todo))) limit
          by (Some i) h = let n = needs context front both d todo o.body i (p, comes) h in opening (at (d ∷ todo)) i front k enough descends begins n.0 n.1
          by None h =
              let s = goes context front both d todo o.body (p, comes) h in
              record {
                after = machine began start context limit root (with_body began start o s.0 ∷ rest);
                is = ap (λ q. and_then q (λ body. Some (machine began start context limit root (with_body began start o body ∷ rest)))) s.1;
                same_limit = refl;
                place = k;
                descends = descends;
              }

      instance_goes : (todo : List LowerTask) → MachineStands began start (at todo) → (k : ℕ) → Descends context table (here todo ∷ rest) k → Goes (instance_stepped todo (here todo) rest (at todo)) limit
      instance_goes todo stands k descends =
          let p = from_then (end_of (at_table context both.table) (here todo).body) (λ p. and_then (last_made p.made) (λ e. Some (instance_done (here todo) e))) made.0 (sym (stands.opened.0 both.table both.begins) ∙ made.1) in
          let e = from_then (last_made p.0.made) (λ e. Some (instance_done (here todo) e)) made.0 p.2 in
          body_goes todo k descends x.front begins both p.0 p.1 e.0 e.1
        where
          x : FoundThere context.text context.items [] table o.instance 0 (k, descends.1.there)
          x = found_there context.text context.items [] table (table_made context.text context.items table given.is_table) o.instance 0 (k, descends.1.there) descends.1.found

          begins : ExtendsEach context.text context.items table x.front k
          begins = record { back = descends.1.there ∷ x.back; is = x.is; count = let place = x.place in omega (arith, place); each = x.each }

          both : JoinedTable context.text context.items context.table x.front
          both = joined context.text context.items context.table x.front stands.is_table (made_table context.text context.items [] x.front ([], refl) x.each)

          -- it is made where calls come to the instances of both
          made : (c : CoreInstance) × (next_instance context.text context.items both.table o.instance ≡ Some c) × OfOneType descends.1.there c
          made =
              let alike = more_tables_alike context.text context.items x.front both.table x.each (table_made context.text context.items both.table both.is_table) (second_there context.text context.items context.table x.front both) in
              there_too OfOneType _ _ (next_alike true context.text context.items x.front both.table (calls_by_tables true context.text context.items x.front both.table alike) o.instance) descends.1.there x.made

    -- ---- the whole machine

    machine_goes : (root : OpenBody) (opened : List OpenInstance) → MachineStands began start (machine began start context limit root opened) → (k : ℕ) → Descends context table opened k
        → Goes (by_opened opened (machine began start context limit root opened)) limit
    machine_goes root [] stands k descends = root_goes root.todo root stands
    machine_goes root (o ∷ rest) stands k descends = instance_goes root o rest o.body.todo stands k descends

  -- ---- each number of steps

  -- the text and the items are those with which the machine began
  given_there : (m : InstanceMachine) → MachineStands began start m → MayRun began.table start table began.text began.items → MayRun began.table start table m.context.text m.context.items
  given_there m stands given =
      subst (λ items. MayRun began.table start table m.context.text items) (sym stands.items) (subst (λ text. MayRun began.table start table text began.items) (sym stands.text) given)

  steps_there : (n : ℕ) (m : InstanceMachine) → MayRun began.table start table began.text began.items → MachineStands began start m → length table ≤ m.limit → (k : ℕ) → Descends m.context table m.opened k
      → (r : InstanceMachine) × (after_steps n m ≡ Some r)
  steps_there zero m given stands enough k descends = (m, refl)
  steps_there (suc n) m given stands enough k descends =
      let s = machine_goes m.context m.limit enough (given_there m stands given) m.root m.opened stands k descends in
      let r = steps_there n s.after given (step_keeps began start m s.after stands s.is) (subst (λ l. length table ≤ l) (sym s.same_limit) enough) s.place s.descends in
      (r.0, ap (λ o. and_then o (after_steps n)) s.is ∙ r.1)

  pub goes_on : (limit n : ℕ) → IsTable began.text began.items began.table → MayRun began.table start table began.text began.items → length table ≤ limit
      → (m : InstanceMachine) × (after_steps n (machine_at began limit start) ≡ Some m)
  goes_on limit n is given enough = steps_there n (machine_at began limit start) given (stands_at_first began start limit is) enough (length table) refl
