-- Instances that are put behind a table.
use Rattle.std.proofs.Common.{◌≡◌, ◌∙◌, ◌||◌, ◌∷◌, ◌++◌, [], ℕ, suc, Bool, true, false, if◌then◌else◌, List, Option, Some, None, refl, sym, ap}
use Rattle.dslx_tree.specs.declared.item.Module.{Module}
use Rattle.dslx_meaning.specs.Environment.{Meanings}
use Rattle.dslx_meaning.specs.Items.{meanings_of}
use Rattle.dslx_meaning.specs.declared.value.DslxValue.{DslxValue}
use Rattle.dslx_core.proofs.Lemmas.Typing.Typed.{none_some, same_some}
use Rattle.dslx_core.specs.Lowering.Functions.{CoreInstance, instance_in, is_instance}
use Rattle.dslx_core.specs.Machines.Alike.Alike.{OfOneType}
use Rattle.dslx_core.specs.Machines.Alike.Tables.{JoinedTable, has_instance}
use Rattle.dslx_core.specs.Machines.Machine.Reached.{IsTable}
use Rattle.dslx_core.proofs.Lemmas.Machines.Alike.{HasThose, joined, more_tables_alike, table_made, there_too}
use Rattle.dslx_core.proofs.Lemmas.Machines.Machine.Keeps.{found_longer}
use Rattle.std.proofs.Math.Bool.{or-true}
use Rattle.dslx_param.specs.Needed.{AreOfTable}
use Rattle.dslx_param.proofs.OnNeeded.More.{FoundAmong}

-- an instance is found from whatever number on
found_from : (name : List ℕ) (parametric_args : List DslxValue) (table : List CoreInstance) (k n : ℕ) (p : ℕ × CoreInstance) → instance_in name parametric_args k table ≡ Some p
    → (r : ℕ) × (instance_in name parametric_args n table ≡ Some (r, p.1))
found_from name parametric_args [] k n p e = none_some p e
found_from name parametric_args (c ∷ table) k n p e = by (is_instance name parametric_args c) e (found_from name parametric_args table (suc k) (suc n) p)
  where
    by : (b : Bool) → (if b then Some (k, c) else instance_in name parametric_args (suc k) table) ≡ Some p
        → (instance_in name parametric_args (suc k) table ≡ Some p → (r : ℕ) × (instance_in name parametric_args (suc n) table ≡ Some (r, p.1)))
        → (r : ℕ) × ((if b then Some (n, c) else instance_in name parametric_args (suc n) table) ≡ Some (r, p.1))
    by true e rest = (n, ap (λ (q : ℕ × CoreInstance). Some (n, q.1)) (same_some (k, c) p e))
    by false e rest = rest e

-- one that isn't found in front is found behind
found_behind : (name : List ℕ) (parametric_args : List DslxValue) (front these : List CoreInstance) (n : ℕ) (p : ℕ × CoreInstance) → instance_in name parametric_args n front ≡ None
    → instance_in name parametric_args 0 these ≡ Some p → (r : ℕ) × (instance_in name parametric_args n (front ++ these) ≡ Some (r, p.1))
found_behind name parametric_args [] these n p none e = found_from name parametric_args these 0 n p e
found_behind name parametric_args (c ∷ front) these n p none e = by (is_instance name parametric_args c) none (λ h. found_behind name parametric_args front these (suc n) p h e)
  where
    by : (b : Bool) → (if b then Some (n, c) else instance_in name parametric_args (suc n) front) ≡ None
        → (instance_in name parametric_args (suc n) front ≡ None → (r : ℕ) × (instance_in name parametric_args (suc n) (front ++ these) ≡ Some (r, p.1)))
        → (r : ℕ) × ((if b then Some (n, c) else instance_in name parametric_args (suc n) (front ++ these)) ≡ Some (r, p.1))
    by true h rest = none_some (n, c) (sym h)
    by false h rest = rest h

-- an instance has one type in all tables
one_type : (m : Module) (items : Meanings) (a b : List CoreInstance) → IsTable m items a → IsTable m items b → (name : List ℕ) (parametric_args : List DslxValue) (p q : ℕ × CoreInstance)
    → instance_in name parametric_args 0 a ≡ Some p → instance_in name parametric_args 0 b ≡ Some q → OfOneType p.1 q.1
one_type m items a b is is' name parametric_args p q e h =
    let both : JoinedTable m items a b = joined m items a b is is' in
    let x = there_too (λ (p q : ℕ × CoreInstance). OfOneType p.1 q.1) _ _ (more_tables_alike m items a both.table (table_made m items a is) (table_made m items both.table both.is_table) (first_there both) name parametric_args) p e in
    let y = there_too (λ (p q : ℕ × CoreInstance). OfOneType p.1 q.1) _ _ (more_tables_alike m items b both.table (table_made m items b is') (table_made m items both.table both.is_table) (second_there both) name parametric_args) q h in
    let same : x.0 ≡ y.0 = same_some x.0 y.0 (sym x.1 ∙ y.1) in
    record {
      arguments = x.2.arguments ∙ ap (λ (r : ℕ × CoreInstance). r.1.function.arguments) same ∙ sym y.2.arguments;
      result = x.2.result ∙ ap (λ (r : ℕ × CoreInstance). r.1.function.result) same ∙ sym y.2.result;
    }
  where
    first_there : (both : JoinedTable m items a b) → HasThose a both.table
    first_there both name parametric_args e = both.has name parametric_args ∙ ap (λ c. c || has_instance name parametric_args b) e

    second_there : (both : JoinedTable m items a b) → HasThose b both.table
    second_there both name parametric_args e = both.has name parametric_args ∙ ap (λ c. has_instance name parametric_args a || c) e ∙ or-true (has_instance name parametric_args a)

-- instances of one table are found among those of another that they are put behind
pub among_both : (m : Module) (table these : List CoreInstance) → IsTable m (meanings_of m) table → AreOfTable m these → FoundAmong these (table ++ these)
among_both m table these is are name parametric_args p e = by (instance_in name parametric_args 0 table) refl
  where
    by : (o : Option (ℕ × CoreInstance)) → instance_in name parametric_args 0 table ≡ o → (q : ℕ × CoreInstance) × (instance_in name parametric_args 0 (table ++ these) ≡ Some q) × OfOneType p.1 q.1
    by None h = let r = found_behind name parametric_args table these 0 p h e in ((r.0, p.1), r.1, record { arguments = refl; result = refl })
    by (Some q) h =
        let r = are.found name parametric_args p e in
        (q, found_longer name parametric_args 0 table these q h, one_type m (meanings_of m) are.table table are.is_table is name parametric_args (r.0, p.1) q r.1 h)
