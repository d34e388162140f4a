-- Instances of functions that are added for instances of procs that are checked are of checked functions.
use Rattle.std.proofs.Common.{◌≡◌, ◌≤◌, ◌++◌, ◌&&◌, ◌||◌, ◌∙◌, ℕ, List, [], ◌∷◌, length, Bool, true, false, Option, Some, None, refl, sym, ap, subst}
use mathlib.Core.Bool.{true≢false}
use Rattle.std.specs.Str.{bytes_eq}
use Rattle.std.proofs.lemmas.Slice.Eq.{bytes_eq-Decides}
use Rattle.dslx_tree.specs.declared.item.Module.{Module}
use Rattle.dslx_tree.specs.declared.process.Proc.{Proc}
use Rattle.dslx_meaning.specs.Items.{meanings_of}
use Rattle.dslx_meaning.specs.Lists.{pairwise}
use Rattle.dslx_meaning.specs.Network.{top_proc}
use Rattle.dslx_meaning.specs.Rules.EqualValues.{equal_value}
use Rattle.dslx_core.specs.Lowering.Functions.{CoreInstance, Instantiated, instances_from, is_instance, next_instance}
use Rattle.dslx_core.specs.Machines.Alike.Tables.{has_instance}
use Rattle.dslx_core.specs.Machines.Machine.Reached.{IsTable}
use Rattle.dslx_core.specs.Networks.Assembly.{IsDesignFrom}
use Rattle.dslx_core.specs.declared.design.Design.{Design}
use Rattle.dslx_core.proofs.Lemmas.Lowering.{from_then}
use Rattle.dslx_core.proofs.Lemmas.Typing.Laws.{and_true}
use Rattle.dslx_core.proofs.Lemmas.Typing.Laws.Chains.{same_name}
use Rattle.dslx_core.proofs.Lemmas.Typing.Typed.{none_some, same_some}
use Rattle.dslx_total.specs.Instances.Checked.{AreOfChecked, is_checked_item}
use Rattle.dslx_total.proofs.Lemmas.Tables.{of_its_key}
use Rattle.dslx_elab.specs.Adding.{AddsProc, IsAdded, IsAmong, IsOneMore}
use Rattle.dslx_elab.specs.Assembling.{AddsAll, AddsFrom, AllAdded, Assembles, IsAssembled, LacksInstance, LacksOuters, LacksTop, OneAdded, OneMissing}
use Rattle.dslx_elab.specs.Orders.{CanBeNext, IsSpawnOrder}
use Rattle.dslx_elab.specs.declared.adding.MadeInstances.{MadeInstances}
use Rattle.dslx_elab.proofs.OnOrders.{ConfigsLower, NextsLower, args_equal, can_make, names_of, one_named}

-- ---- tables

-- each instance of a table is of a checked item
abbrev pub InstancesChecked : Module → Option (List ℕ) → List CoreInstance → Type 0
InstancesChecked m top table = (i : Instantiated) → has_instance i.name i.parametric_args table ≡ true → is_checked_item m top i.name ≡ true

or_none : (b : Bool) → (b || false) ≡ true → b ≡ true
or_none true e = refl
or_none false e = e

has_either : {X : Type 0} (i : Instantiated) (before : List CoreInstance) (c : CoreInstance) → has_instance i.name i.parametric_args (before ++ c ∷ []) ≡ true → (has_instance i.name i.parametric_args before ≡ true → X)
    → (is_instance i.name i.parametric_args c ≡ true → X) → X
has_either i [] c h f g = g (or_none (is_instance i.name i.parametric_args c) h)
has_either {X = X} i (x ∷ xs) c h f g = by_first (is_instance i.name i.parametric_args x) h f (λ q k. has_either i xs c q k g)
  where
    by_first : (b : Bool) → (b || has_instance i.name i.parametric_args (xs ++ c ∷ [])) ≡ true → ((b || has_instance i.name i.parametric_args xs) ≡ true → X)
        → (has_instance i.name i.parametric_args (xs ++ c ∷ []) ≡ true → (has_instance i.name i.parametric_args xs ≡ true → X) → X) → X
    by_first true q k rest = k refl
    by_first false q k rest = rest q k

has_first : (i : Instantiated) (before : List CoreInstance) (c : CoreInstance) → has_instance i.name i.parametric_args before ≡ true → has_instance i.name i.parametric_args (before ++ c ∷ []) ≡ true
has_first i [] c h = absurd (true≢false (sym h))
has_first i (x ∷ xs) c h = by_first (is_instance i.name i.parametric_args x) h (has_first i xs c)
  where
    by_first : (b : Bool) → (b || has_instance i.name i.parametric_args xs) ≡ true → (has_instance i.name i.parametric_args xs ≡ true → has_instance i.name i.parametric_args (xs ++ c ∷ []) ≡ true)
        → (b || has_instance i.name i.parametric_args (xs ++ c ∷ [])) ≡ true
    by_first true q rest = refl
    by_first false q rest = rest q

has_last : (i : Instantiated) (before : List CoreInstance) (c : CoreInstance) → is_instance i.name i.parametric_args c ≡ true → has_instance i.name i.parametric_args (before ++ c ∷ []) ≡ true
has_last i [] c h = ap (λ b. b || false) h
has_last i (x ∷ xs) c h = by_first (is_instance i.name i.parametric_args x) (has_last i xs c h)
  where
    by_first : (b : Bool) → has_instance i.name i.parametric_args (xs ++ c ∷ []) ≡ true → (b || has_instance i.name i.parametric_args (xs ++ c ∷ [])) ≡ true
    by_first true q = refl
    by_first false q = q

module _ (m : Module) (top : Option (List ℕ)) where
  -- a table of instances of checked items
  pub table_checked : (before : List CoreInstance) (is : List Instantiated) (table : List CoreInstance) → instances_from m (meanings_of m) before is ≡ Some table → InstancesChecked m top before → AreOfChecked m top is → InstancesChecked m top table
  table_checked before [] table e h k = subst (InstancesChecked m top) (same_some before table e) h
  table_checked before (i ∷ is) table e h k =
      let c = from_then (next_instance m (meanings_of m) before i) (λ c. instances_from m (meanings_of m) (before ++ c ∷ []) is) table e in
      let key = of_its_key m (meanings_of m) before i c.0 c.1 in
      table_checked (before ++ c.0 ∷ []) is table c.2
      (λ j has. has_either j before c.0 has (h j)
      (λ same. ap (is_checked_item m top) (same_name j.name c.0.name (and_true (bytes_eq j.name c.0.name) (pairwise equal_value j.parametric_args c.0.parametric_args) same).0 ∙ key.0) ∙ k.0)) k.1

  stays : (before : List CoreInstance) (is : List Instantiated) (table : List CoreInstance) → instances_from m (meanings_of m) before is ≡ Some table → (i : Instantiated) → has_instance i.name i.parametric_args before ≡ true
      → has_instance i.name i.parametric_args table ≡ true
  stays before [] table e i h = subst (λ t. has_instance i.name i.parametric_args t ≡ true) (same_some before table e) h
  stays before (j ∷ is) table e i h =
      let c = from_then (next_instance m (meanings_of m) before j) (λ c. instances_from m (meanings_of m) (before ++ c ∷ []) is) table e in
      stays (before ++ c.0 ∷ []) is table c.2 i (has_first i before c.0 h)

  -- and those that it is made of, where its own are
  pub names_checked : (before : List CoreInstance) (is : List Instantiated) (table : List CoreInstance) → instances_from m (meanings_of m) before is ≡ Some table → InstancesChecked m top table → AreOfChecked m top is
  names_checked before [] table e h = tt
  names_checked before (i ∷ is) table e h =
      let c = from_then (next_instance m (meanings_of m) before i) (λ c. instances_from m (meanings_of m) (before ++ c ∷ []) is) table e in
      let key = of_its_key m (meanings_of m) before i c.0 c.1 in
      let itself : is_instance i.name i.parametric_args c.0 ≡ true =
      (λ t. bytes_eq i.name (key.0 t) && pairwise equal_value i.parametric_args (key.1 t)) ∙ (λ t. (bytes_eq-Decides i.name i.name).1 refl t && args_equal i.parametric_args t) in
      (h i (stays (before ++ c.0 ∷ []) is table c.2 i (has_last i before c.0 itself)), names_checked (before ++ c.0 ∷ []) is table c.2 h)

-- ---- what is added

module _ (m : Module) (top : Option (List ℕ)) (limit : ℕ) (table : List CoreInstance) (is_table : IsTable m (meanings_of m) table) (few : length table ≤ limit) (nexts : NextsLower m top table) (configs : ConfigsLower m top)
    (checked : InstancesChecked m top table) where
  -- what is needed is in the table
  one_more : (before after : MadeInstances) (i : Instantiated) → IsOneMore m limit before i after → CanBeNext m top (names_of before.procs.items) i → InstancesChecked m top before.functions → InstancesChecked m top after.functions
  one_more before after i added can h j has = by_before (has_instance j.name j.parametric_args before.functions) refl
    where
      by_before : (b : Bool) → has_instance j.name j.parametric_args before.functions ≡ b → is_checked_item m top j.name ≡ true
      by_before true q = h j q
      by_before false q = let c = can_make m top limit table is_table few nexts configs before.procs.items i can in checked j (added.adds.needed j has q table is_table c.0 c.1)

  one_added : (before : MadeInstances) (i : Instantiated) (o : Option MadeInstances) → AddsProc m limit before i o → CanBeNext m top (names_of before.procs.items) i → InstancesChecked m top before.functions
      → (after : MadeInstances) → o ≡ Some after → InstancesChecked m top after.functions
  one_added before i _ (IsAmong k e) can h after is = subst (λ (x : MadeInstances). InstancesChecked m top x.functions) (same_some before after is) h
  one_added before i _ (IsAdded None e missing) can h after is = none_some after is
  one_added before i _ (IsAdded (Some more) e added) can h after is = subst (λ (x : MadeInstances). InstancesChecked m top x.functions) (same_some more after is) (one_more before more i added can h)

  all_added : (before : MadeInstances) (is : List Instantiated) (o : Option MadeInstances) → AddsFrom m limit before is o → (names : List Instantiated) → names_of before.procs.items ≡ names → IsSpawnOrder m top names is
      → InstancesChecked m top before.functions → (made : MadeInstances) → o ≡ Some made → InstancesChecked m top made.functions
  all_added before _ _ (AllAdded _) names e order h made is = subst (λ (x : MadeInstances). InstancesChecked m top x.functions) (same_some before made is) h
  all_added before _ o (OneAdded _ mid i is _ one rest) names e order h made same =
      let can = subst (λ ns. CanBeNext m top ns i) (sym e) order.0 in
      let n = one_named m top limit table is_table few nexts configs before i (Some mid) one can in
      let named : names_of mid.procs.items ≡ names ++ i ∷ [] = ap (λ (x : MadeInstances). names_of x.procs.items) (same_some mid n.0 n.1) ∙ (n.2 ∙ ap (λ ns. ns ++ i ∷ []) e) in
      all_added mid is o rest (names ++ i ∷ []) named order.1 (one_added before i (Some mid) one can h mid refl) made same
  all_added before _ _ (OneMissing _ i is none) names e order h made same = none_some made same

  functions_checked : (wanted : List Instantiated) (made : MadeInstances) → AddsAll m limit wanted (Some made) → IsSpawnOrder m top [] wanted → InstancesChecked m top made.functions
  functions_checked wanted made h order =
      all_added h.0 wanted (Some made) h.2 [] (ap names_of (h.1).procs) order (λ j has. absurd (true≢false (sym has ∙ ap (has_instance j.name j.parametric_args) (h.1).functions))) made refl

  -- ---- the whole

  abbrev pub MadeOfChecked : Design → Type 0
  MadeOfChecked design = (made : IsDesignFrom m top design) × AreOfChecked m top made.named_functions

  assembled_if : (p : Proc) (wanted : List Instantiated) (o : Option Design) → Assembles m p limit wanted o → top_proc m top ≡ Some p → IsSpawnOrder m top [] wanted → (design : Design) → o ≡ Some design → MadeOfChecked design
  assembled_if p wanted _ (IsAssembled other made adds procs is) is_top order design same =
      let from = is top is_top in
      subst MadeOfChecked (same_some other design same)
      (from.0, names_checked m top [] (from.0).named_functions (from.0).functions (from.0).each_function (subst (InstancesChecked m top) (sym from.1) (functions_checked wanted made adds order)))
  assembled_if p wanted _ (LacksOuters none) is_top order design same = none_some design same
  assembled_if p wanted _ (LacksInstance missing) is_top order design same = none_some design same
  assembled_if p wanted _ (LacksTop made adds other) is_top order design same = none_some design same

  pub made_of_checked : (p : Proc) (wanted : List Instantiated) (design : Design) → Assembles m p limit wanted (Some design) → top_proc m top ≡ Some p → IsSpawnOrder m top [] wanted → MadeOfChecked design
  made_of_checked p wanted design h is_top order = assembled_if p wanted (Some design) h is_top order design refl
