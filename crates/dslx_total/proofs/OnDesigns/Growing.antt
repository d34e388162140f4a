-- Tables of procs, one instance behind the other.
use Rattle.std.proofs.Common.{◌≡◌, ◌||◌, ◌++◌, ◌+◌, ℕ, suc, inl, inr, length, Bool, true, false, if◌then◌else◌, List, [], ◌∷◌, Option, Some, arith, refl, sym, ap, subst, ◌∙◌}
use mathlib.Core.Bool.{true≢false}
use Rattle.std.specs.Prelude.{slice_get}
use Rattle.std.specs.List.{list_any}
use Rattle.std.proofs.lemmas.List.{length-append, length-map}
use Rattle.std.proofs.lemmas.List.Folds.{list_any-append}
use Rattle.dslx_tree.specs.declared.item.Module.{Module}
use Rattle.dslx_tree.specs.declared.process.Proc.{Proc}
use Rattle.dslx_meaning.specs.Activation.{opening_state}
use Rattle.dslx_meaning.specs.Items.{item_named, meanings_of}
use Rattle.dslx_meaning.specs.Lists.{and_then, where_true, with_both}
use Rattle.dslx_meaning.specs.Network.{as_proc}
use Rattle.dslx_meaning.specs.declared.value.DslxValue.{DslxValue}
use Rattle.dslx_meaning.specs.Rules.TypeEnvs.{Instance}
use Rattle.dslx_core.specs.Typing.TypingRelations.Closed.{IsOneOf}
use Rattle.dslx_core.specs.Designs.{last_index}
use Rattle.dslx_core.specs.declared.design.Instance as core
use Rattle.dslx_core.specs.Typing.Typed.Kinds.{is_of}
use Rattle.dslx_core.proofs.Lemmas.Typing.Typed.{same_some}
use Rattle.dslx_core.specs.Lowering.Functions.{CoreInstance, Instantiated}
use Rattle.dslx_core.specs.Lowering.Steps.{LoweredNext}
use Rattle.dslx_core.proofs.Lemmas.Lowering.{from_then}
use Rattle.dslx_core.specs.Networks.Configs.{LoweredConfig, ProcInstance, lower_config, is_proc_instance, proc_instance_in}
use Rattle.dslx_core.specs.Networks.Assembly.{instances_alone}
use Rattle.dslx_core.specs.Networks.Procs.{instance_of, next_proc, lower_proc, procs_from}
use Rattle.dslx_total.proofs.OnTables.Lists.{as_named, chosen, equal_itself, or_second}
use Rattle.dslx_total.specs.Families.EachElaborated.{NextLowers}
use Rattle.dslx_total.proofs.OnDesigns.Lists.{or_first}

-- ---- what stands in a table

abbrev pub stands : List ProcInstance → List ℕ → List DslxValue → Bool
stands table name parametric_args = list_any (is_proc_instance name parametric_args) table

-- what stands in it is found
pub found_in : (name : List ℕ) (parametric_args : List DslxValue) (n : ℕ) (table : List ProcInstance) → stands table name parametric_args ≡ true → (k : ℕ) × (proc_instance_in name parametric_args n table ≡ Some k)
found_in name parametric_args n [] e = absurd (true≢false (sym e))
found_in name parametric_args n (i ∷ is) e = by_test (is_proc_instance name parametric_args i) e (found_in name parametric_args (suc n) is)
  where
    by_test : (b : Bool) → (b || stands is name parametric_args) ≡ true → (stands is name parametric_args ≡ true → (k : ℕ) × (proc_instance_in name parametric_args (suc n) is ≡ Some k))
        → (k : ℕ) × ((if b then Some n else proc_instance_in name parametric_args (suc n) is) ≡ Some k)
    by_test true q rest = (n, refl)
    by_test false q rest = rest q

abbrev pub Keeps : List ProcInstance → List ProcInstance → Type 0
Keeps before after = (name : List ℕ) (parametric_args : List DslxValue) → stands before name parametric_args ≡ true → stands after name parametric_args ≡ true

-- one more at the end keeps what stands
one_more : (before : List ProcInstance) (c : ProcInstance) → Keeps before (before ++ c ∷ [])
one_more before c name parametric_args e = list_any-append (is_proc_instance name parametric_args) before (c ∷ []) ∙ or_first (stands before name parametric_args) (stands (c ∷ []) name parametric_args) e

-- ---- one instance

-- it becomes something behind these
pub record IsNext (m : Module) (functions : List CoreInstance) (before : List ProcInstance) (i : Instantiated) : Type 0 where
  pub instance : ProcInstance
  pub is : next_proc m (meanings_of m) functions before i ≡ Some instance
  pub name : instance.name ≡ i.name
  pub parametric_args : instance.parametric_args ≡ i.parametric_args

-- it stands at the end then
at_end : (m : Module) (functions : List CoreInstance) (before : List ProcInstance) (i : Instance) (c : IsNext m functions before (as_named i)) → stands (before ++ c.instance ∷ []) i.name i.parametric_args ≡ true
at_end m functions before i c =
    list_any-append (is_proc_instance i.name i.parametric_args) before (c.instance ∷ [])
    ∙ or_second (stands before i.name i.parametric_args) (stands (c.instance ∷ []) i.name i.parametric_args)
    (or_first (is_proc_instance i.name i.parametric_args c.instance) false
    ((λ t. is_proc_instance i.name i.parametric_args (record { name = c.name t; parametric_args = c.parametric_args t; instance = c.instance.instance })) ∙ equal_itself i))

-- where its `next` and its `config` become something
pub lowers_to_next : (m : Module) (functions : List CoreInstance) (before : List ProcInstance) (i : Instantiated) (p : Proc) → as_proc (item_named i.name m.items) ≡ Some p → NextLowers m functions p i.parametric_args
    → (config : LoweredConfig) → lower_config m (meanings_of m) before p i.parametric_args ≡ Some config → IsNext m functions before i
lowers_to_next m functions before i p is n config lowered = record {
  instance = as_instance whole;
  is = ap (λ o. and_then o (λ q. and_then (lower_proc m (meanings_of m) functions before q i.parametric_args) (λ l. Some (as_instance l)))) is ∙ ap (λ o. and_then o (λ l. Some (as_instance l))) made;
  name = refl;
  parametric_args = refl;
}
  where
    as_instance : core.Instance → ProcInstance
    as_instance l = record { name = i.name; parametric_args = i.parametric_args; instance = l }

    whole : core.Instance
    whole = instance_of p n.next config n.opening

    opened : LoweredNext → LoweredConfig → Option core.Instance
    opened next config = and_then (opening_state (meanings_of m) p i.parametric_args) (λ v. where_true (is_of next.state v) (Some (instance_of p next config v)))

    made : lower_proc m (meanings_of m) functions before p i.parametric_args ≡ Some whole
    made =
        (λ t. with_both (n.is t) (lowered t) opened)
        ∙ ap (λ o. and_then o (λ v. where_true (is_of n.next.state v) (Some (instance_of p n.next config v)))) n.opens
        ∙ ap (λ b. where_true b (Some whole)) n.of

-- ---- several

-- what the instances of a list become behind these that pass a test
pub record Grown (m : Module) (functions : List CoreInstance) (before : List ProcInstance) (q : Instance → Bool) (is : List Instance) (named : List Instantiated) : Type 0 where
  pub table : List ProcInstance
  pub lowered : procs_from m (meanings_of m) functions before named ≡ Some table
  pub keeps : Keeps before table
  pub each : (i : Instance) → IsOneOf i is → q i ≡ true → stands table i.name i.parametric_args ≡ true
  pub many : length table ≡ length before + length named

pub all_grown : (m : Module) (functions : List CoreInstance) (before : List ProcInstance) (q : Instance → Bool) (is : List Instance)
    → ((i : Instance) → IsOneOf i is → q i ≡ true → (more : List ProcInstance) → Keeps before more → IsNext m functions more (as_named i)) → Grown m functions before q is (chosen q is)
all_grown m functions before q [] h = record { table = before; lowered = refl; keeps = λ name parametric_args e. e; each = λ i one. absurd one; many = omega arith }
all_grown m functions before q (x ∷ xs) h =
    by_kind (q x) refl
    (λ e c. all_grown m functions (before ++ c ∷ []) q xs (λ i one k more keeps. h i (inr one) k more (λ name parametric_args s. keeps name parametric_args (one_more before c name parametric_args s))))
    (all_grown m functions before q xs (λ i one. h i (inr one)))
  where
    by_kind : (b : Bool) → q x ≡ b → (q x ≡ true → (c : ProcInstance) → Grown m functions (before ++ c ∷ []) q xs (chosen q xs)) → Grown m functions before q xs (chosen q xs)
        → Grown m functions before q (x ∷ xs) (if b then as_named x ∷ chosen q xs else chosen q xs)
    by_kind true e further skipped =
        let c = h x (inl refl) e before (λ name parametric_args s. s) in
        let rest = further e c.instance in
        let one = length-append before (c.instance ∷ []) in
        let more = rest.many in
        record {
          table = rest.table;
          lowered = ap (λ o. and_then o (λ d. procs_from m (meanings_of m) functions (before ++ d ∷ []) (chosen q xs))) c.is ∙ rest.lowered;
          keeps = λ name parametric_args s. rest.keeps name parametric_args (one_more before c.instance name parametric_args s);
          each = λ i one k. at_first c rest i one k;
          many = omega (arith, one, more);
        }
      where
        at_first : (c : IsNext m functions before (as_named x)) (rest : Grown m functions (before ++ c.instance ∷ []) q xs (chosen q xs)) (i : Instance) → IsOneOf i (x ∷ xs) → q i ≡ true → stands rest.table i.name i.parametric_args ≡ true
        at_first c rest i (inl one) k = subst (λ (z : Instance). stands rest.table z.name z.parametric_args ≡ true) (sym one) (rest.keeps x.name x.parametric_args (at_end m functions before x c))
        at_first c rest i (inr one) k = rest.each i one k
    by_kind false e further skipped = record {
      table = skipped.table;
      lowered = skipped.lowered;
      keeps = skipped.keeps;
      each = later;
      many = skipped.many;
    }
      where
        later : (i : Instance) → IsOneOf i (x ∷ xs) → q i ≡ true → stands skipped.table i.name i.parametric_args ≡ true
        later i (inl one) k = absurd (true≢false (sym k ∙ ap q one ∙ e))
        later i (inr one) k = skipped.each i one k

-- one list behind another
pub appended : (m : Module) (functions : List CoreInstance) (before : List ProcInstance) (xs ys : List Instantiated) (table : List ProcInstance) → procs_from m (meanings_of m) functions before xs ≡ Some table
    → procs_from m (meanings_of m) functions before (xs ++ ys) ≡ procs_from m (meanings_of m) functions table ys
appended m functions before [] ys table e = ap (λ t. procs_from m (meanings_of m) functions t ys) (same_some before table e)
appended m functions before (x ∷ xs) ys table e =
    let q = from_then (next_proc m (meanings_of m) functions before x) (λ c. procs_from m (meanings_of m) functions (before ++ c ∷ []) xs) table e in
    ap (λ o. and_then o (λ c. procs_from m (meanings_of m) functions (before ++ c ∷ []) (xs ++ ys))) q.1 ∙ appended m functions (before ++ q.0 ∷ []) xs ys table q.2

-- ---- the last one

got_last : {A : Type 0} (xs : List A) (a : A) → slice_get (xs ++ a ∷ []) (length xs) ≡ Some a
got_last [] a = refl
got_last (x ∷ xs) a = got_last xs a

pub last_there : (before : List ProcInstance) (c : ProcInstance) → slice_get (before ++ c ∷ []) (last_index (instances_alone (before ++ c ∷ []))) ≡ Some c
last_there before c =
    let one = length-append before (c ∷ []) in
    let alone = length-map (before ++ c ∷ []) (λ (i : ProcInstance). i.instance) in
    let place : last_index (instances_alone (before ++ c ∷ [])) ≡ length before = omega (arith, one, alone) in
    ap (slice_get (before ++ c ∷ [])) place ∙ got_last before c
