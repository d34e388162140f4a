-- Tables of instances, each of which is made of those before it.
use Rattle.std.proofs.Common.{◌≡◌, ◌≤◌, ◌+◌, ◌||◌, ◌&&◌, ℕ, zero, suc, Bool, true, false, if◌then◌else◌, List, [], ◌∷◌, ◌++◌, length, Some, refl, sym, ap, subst, ◌∙◌, arith}
use mathlib.Core.Bool.{true≢false}
use Rattle.std.specs.Str.{bytes_eq}
use Rattle.std.proofs.Math.Bool.{or_assoc}
use Rattle.std.proofs.lemmas.Slice.Eq.{bytes_eq-Decides}
use Rattle.std.proofs.lemmas.List.{append_assoc, append-nil, length-append}
use Rattle.std.proofs.lemmas.List.Folds.{list_any-append}
use Rattle.dslx_tree.specs.declared.item.Module.{Module}
use Rattle.dslx_meaning.specs.Environment.{Meanings}
use Rattle.dslx_meaning.specs.Items.{as_function, item_named}
use Rattle.dslx_meaning.specs.Lists.{and_then, pairwise}
use Rattle.dslx_meaning.specs.declared.value.DslxValue.{DslxValue}
use Rattle.dslx_meaning.specs.Rules.EqualValues.{equal_value}
use Rattle.dslx_core.proofs.Lemmas.Typing.Laws.{and_true}
use Rattle.dslx_core.proofs.Lemmas.Typing.Typed.{none_some, same_some}
use Rattle.dslx_core.specs.Lowering.Functions.{CoreInstance, Instantiated, LoweredFunction, instance_in, instance_globals, lower_instance, instances_from, is_instance, next_instance}
use Rattle.dslx_core.proofs.Lemmas.Lowering.{all_one_number, from_then}
use Rattle.dslx_core.specs.Machines.Machine.Reached.{IsTable}
use Rattle.dslx_core.proofs.Lemmas.Machines.Machine.Instances.{table_further}
use Rattle.dslx_core.specs.Machines.Alike.Alike.{OfOneType}
use Rattle.dslx_core.specs.Machines.Alike.Tables.{JoinedTable, has_instance}
use Rattle.dslx_core.proofs.OnMachines.OnAlike.OfInstances.{TablesAlike, calls_by_tables, next_alike}
use Rattle.dslx_core.proofs.OnMachines.OnAlike.Relation.{from_agreeing, from_more, there_too, where_both}

-- ---- the instances of a table

-- by what it is found
abbrev pub key_of : CoreInstance → Instantiated
key_of c = record { name = c.name; parametric_args = c.parametric_args }

-- each of the rest is made of those before it
abbrev pub EachIsMade : Module → Meanings → List CoreInstance → List CoreInstance → Type 0
EachIsMade m items before [] = Unit {0}
EachIsMade m items before (c ∷ rest) = (next_instance m items before (key_of c) ≡ Some c) × EachIsMade m items (before ++ c ∷ []) rest

module _ (m : Module) (items : Meanings) where
  -- what is made is the instance that was wanted
  pub made_as : (before : List CoreInstance) (i : Instantiated) (c : CoreInstance) → next_instance m items before i ≡ Some c → key_of c ≡ i
  made_as before i c e =
      let f = from_then (as_function (item_named i.name m.items)) (λ f. and_then (lower_instance (instance_globals m items before f i.parametric_args) f) (λ l. Some (record { name = i.name; parametric_args = i.parametric_args; function = l }))) c e in
      let l = from_then (lower_instance (instance_globals m items before f.0 i.parametric_args) f.0) (λ (l : LoweredFunction). Some (record { name = i.name; parametric_args = i.parametric_args; function = l })) c f.2 in
      ap key_of (sym (same_some (record { name = i.name; parametric_args = i.parametric_args; function = l.0 }) c l.2))

  record MadeBehind (before table : List CoreInstance) : Type 0 where
    rest : List CoreInstance
    is : table ≡ before ++ rest
    each : EachIsMade m items before rest

  made_behind : (before : List CoreInstance) (is : List Instantiated) (table : List CoreInstance) → instances_from m items before is ≡ Some table → MadeBehind before table
  made_behind before [] table e = record { rest = []; is = sym (same_some before table e) ∙ sym (append-nil before); each = tt }
  made_behind before (i ∷ is) table e =
      let c = from_then (next_instance m items before i) (λ c. instances_from m items (before ++ c ∷ []) is) table e in
      let r = made_behind (before ++ c.0 ∷ []) is table c.2 in
      record {
        rest = c.0 ∷ r.rest;
        is = r.is ∙ append_assoc before (c.0 ∷ []) r.rest;
        each = (ap (next_instance m items before) (made_as before i c.0 c.1) ∙ c.1, r.each);
      }

  pub table_made : (table : List CoreInstance) → IsTable m items table → EachIsMade m items [] table
  table_made table is = let r = made_behind [] is.0 table is.1 in subst (EachIsMade m items []) (sym r.is) r.each

  pub made_table : (before rest : List CoreInstance) → IsTable m items before → EachIsMade m items before rest → IsTable m items (before ++ rest)
  made_table before [] is each = subst (IsTable m items) (sym (append-nil before)) is
  made_table before (c ∷ rest) is each =
      subst (IsTable m items) (append_assoc before (c ∷ []) rest) (made_table (before ++ c ∷ []) rest (table_further m items before (key_of c) c is each.0) each.1)

  -- one more behind those that are made
  one_more_made : (before front : List CoreInstance) (c : CoreInstance) → EachIsMade m items before front → next_instance m items (before ++ front) (key_of c) ≡ Some c → EachIsMade m items before (front ++ c ∷ [])
  one_more_made before [] c made e = (ap (λ t. next_instance m items t (key_of c)) (sym (append-nil before)) ∙ e, tt)
  one_more_made before (x ∷ front) c made e =
      (made.0, one_more_made (before ++ x ∷ []) front c made.1 (ap (λ t. next_instance m items t (key_of c)) (append_assoc before (x ∷ []) front) ∙ e))

  -- ---- what is found

  -- the instance that is found, those before it of which it is made, and those behind it
  pub record FoundThere (before rest : List CoreInstance) (i : Instantiated) (n : ℕ) (p : ℕ × CoreInstance) : Type 0 where
    pub front : List CoreInstance
    pub back : List CoreInstance
    pub is : rest ≡ front ++ p.1 ∷ back
    pub place : p.0 ≡ n + length front
    pub made : next_instance m items (before ++ front) i ≡ Some p.1
    pub each : EachIsMade m items before front

  pub found_there : (before rest : List CoreInstance) → EachIsMade m items before rest → (i : Instantiated) (n : ℕ) (p : ℕ × CoreInstance) → instance_in i.name i.parametric_args n rest ≡ Some p → FoundThere before rest i n p
  found_there before [] each i n p e = none_some p e
  found_there before (c ∷ rest) each i n p e = by (is_instance i.name i.parametric_args c) refl e (found_there (before ++ c ∷ []) rest each.1 i (suc n) p)
    where
      by : (b : Bool) → is_instance i.name i.parametric_args c ≡ b → (if b then Some (n, c) else instance_in i.name i.parametric_args (suc n) rest) ≡ Some p
          → (instance_in i.name i.parametric_args (suc n) rest ≡ Some p → FoundThere (before ++ c ∷ []) rest i (suc n) p) → FoundThere before (c ∷ rest) i n p
      by true q e further =
          let t = and_true (bytes_eq i.name c.name) (pairwise equal_value i.parametric_args c.parametric_args) q in
          let key : i ≡ key_of c = λ k. record { name = (bytes_eq-Decides i.name c.name).0 t.0 k; parametric_args = all_one_number i.parametric_args c.parametric_args t.1 k } in
          subst (FoundThere before (c ∷ rest) i n) (same_some (n, c) p e)
          (record { front = []; back = rest; is = refl; place = omega arith; made = ap (λ t. next_instance m items t i) (append-nil before) ∙ ap (next_instance m items before) key ∙ each.0; each = tt })
      by false q e further =
          let f = further e in
          record {
            front = c ∷ f.front;
            back = f.back;
            is = ap (λ t. c ∷ t) f.is;
            place = f.place ∙ after n (length f.front);
            made = ap (λ t. next_instance m items t i) (sym (append_assoc before (c ∷ []) f.front)) ∙ f.made;
            each = (each.0, f.each);
          }
        where
          after : (n k : ℕ) → suc n + k ≡ n + suc k
          after n k = omega arith

  -- ---- an instance has one type in all tables

  shorter : (a front back : List CoreInstance) (c : CoreInstance) (k : ℕ) → a ≡ front ++ c ∷ back → length a ≤ suc k → length front ≤ k
  shorter a front back c k e l = let n = ap length e ∙ length-append front (c ∷ back) in omega (arith, n, l)

  -- by the number of instances before it
  one_type : (k : ℕ) (a b : List CoreInstance) → length a ≤ k → EachIsMade m items [] a → EachIsMade m items [] b → (i : Instantiated) (p q : ℕ × CoreInstance)
      → instance_in i.name i.parametric_args 0 a ≡ Some p → instance_in i.name i.parametric_args 0 b ≡ Some q → OfOneType p.1 q.1
  one_type zero [] b l made made' i p q e h = none_some p e
  one_type zero (c ∷ a) b l made made' i p q e h = absurd (omega (arith, l))
  one_type (suc k) a b l made made' i p q e h =
      let x = found_there [] a made i 0 p e in
      let y = found_there [] b made' i 0 q h in
      let agree : TablesAlike false x.front y.front =
      λ name parametric_args. from_agreeing (λ (p q : ℕ × CoreInstance). OfOneType p.1 q.1) (instance_in name parametric_args 0 x.front) (instance_in name parametric_args 0 y.front)
      (one_type k x.front y.front (shorter a x.front x.back p.1 k x.is l) x.each y.each (record { name = name; parametric_args = parametric_args })) in
      where_both OfOneType _ _ (next_alike false m items x.front y.front (calls_by_tables false m items x.front y.front agree) i) p.1 q.1 x.made y.made

  pub found_one_type : (a b : List CoreInstance) → EachIsMade m items [] a → EachIsMade m items [] b → (i : Instantiated) (p q : ℕ × CoreInstance)
      → instance_in i.name i.parametric_args 0 a ≡ Some p → instance_in i.name i.parametric_args 0 b ≡ Some q → OfOneType p.1 q.1
  found_one_type a b = one_type (length a) a b (omega arith)

-- ---- whether an instance is in a table

pub found_has : (name : List ℕ) (parametric_args : List DslxValue) (n : ℕ) (table : List CoreInstance) (p : ℕ × CoreInstance) → instance_in name parametric_args n table ≡ Some p → has_instance name parametric_args table ≡ true
found_has name parametric_args n [] p e = none_some p e
found_has name parametric_args n (c ∷ table) p e = by (is_instance name parametric_args c) e (found_has name parametric_args (suc n) table p)
  where
    by : (b : Bool) → (if b then Some (n, c) else instance_in name parametric_args (suc n) table) ≡ Some p → (instance_in name parametric_args (suc n) table ≡ Some p → has_instance name parametric_args table ≡ true)
        → (b || has_instance name parametric_args table) ≡ true
    by true e rest = refl
    by false e rest = rest e

pub has_found : (name : List ℕ) (parametric_args : List DslxValue) (n : ℕ) (table : List CoreInstance) → has_instance name parametric_args table ≡ true → (p : ℕ × CoreInstance) × (instance_in name parametric_args n table ≡ Some p)
has_found name parametric_args n [] e = absurd (true≢false (sym e))
has_found name parametric_args n (c ∷ table) e = by (is_instance name parametric_args c) e (has_found name parametric_args (suc n) table)
  where
    by : (b : Bool) → (b || has_instance name parametric_args table) ≡ true → (has_instance name parametric_args table ≡ true → (p : ℕ × CoreInstance) × (instance_in name parametric_args (suc n) table ≡ Some p))
        → (p : ℕ × CoreInstance) × ((if b then Some (n, c) else instance_in name parametric_args (suc n) table) ≡ Some p)
    by true e rest = ((n, c), refl)
    by false e rest = rest e

-- ---- tables that are joined

-- the second has the instances of the first
abbrev pub HasThose : List CoreInstance → List CoreInstance → Type 0
HasThose before table = (name : List ℕ) (parametric_args : List DslxValue) → has_instance name parametric_args before ≡ true → has_instance name parametric_args table ≡ true

module _ (m : Module) (items : Meanings) where
  pub more_tables_alike : (before table : List CoreInstance) → EachIsMade m items [] before → EachIsMade m items [] table → HasThose before table → TablesAlike true before table
  more_tables_alike before table made made' has name parametric_args =
      from_more (λ (p q : ℕ × CoreInstance). OfOneType p.1 q.1) (instance_in name parametric_args 0 before) (instance_in name parametric_args 0 table)
      (λ p e. let q = has_found name parametric_args 0 table (has name parametric_args (found_has name parametric_args 0 before p e)) in
      (q.0, q.1, found_one_type m items before table made made' (record { name = name; parametric_args = parametric_args }) p q.0 e q.1))

  -- a table behind which the instances of another were made again
  record Extended (table rest : List CoreInstance) : Type 0 where
    more : List CoreInstance
    is_table : IsTable m items (table ++ more)
    has : (name : List ℕ) (parametric_args : List DslxValue) → has_instance name parametric_args (table ++ more) ≡ (has_instance name parametric_args table || has_instance name parametric_args rest)

  or_nothing : (a : Bool) → (a || false) ≡ a
  or_nothing true = refl
  or_nothing false = refl

  either : (a b c d : Bool) → (a ≡ true → c ≡ true) → (b ≡ true → d ≡ true) → (a || b) ≡ true → (c || d) ≡ true
  either true b c d h k e = ap (λ x. x || d) (h refl)
  either false true true d h k e = refl
  either false true false d h k e = k refl
  either false false c d h k e = absurd (true≢false (sym e))

  -- the instances of `before` are in the table, the rest is still to be made again
  extended : (before rest table : List CoreInstance) → EachIsMade m items [] before → EachIsMade m items before rest → IsTable m items table → HasThose before table → Extended table rest
  extended before [] table made each is has = record {
    more = [];
    is_table = subst (IsTable m items) (sym (append-nil table)) is;
    has = λ name parametric_args. ap (has_instance name parametric_args) (append-nil table) ∙ sym (or_nothing (has_instance name parametric_args table));
  }
  extended before (c ∷ rest) table made each is has =
      let alike = next_alike true m items before table (calls_by_tables true m items before table (more_tables_alike before table made (table_made m items table is) has)) (key_of c) in
      let d = there_too OfOneType _ _ alike c each.0 in
      let key : key_of d.0 ≡ key_of c = made_as m items table (key_of c) d.0 d.1 in
      let same : (name : List ℕ) (parametric_args : List DslxValue) → is_instance name parametric_args c ≡ is_instance name parametric_args d.0 =
      λ name parametric_args. ap (λ (i : Instantiated). bytes_eq name i.name && pairwise equal_value parametric_args i.parametric_args) (sym key) in
      let r = extended (before ++ c ∷ []) rest (table ++ d.0 ∷ []) (one_more_made m items [] before c made each.0) each.1 (table_further m items table (key_of c) d.0 is d.1)
      (λ name parametric_args e. list_any-append (is_instance name parametric_args) table (d.0 ∷ [])
      ∙ either _ _ _ _ (has name parametric_args) (λ k. ap (λ b. b || false) (sym (same name parametric_args)) ∙ k) (sym (list_any-append (is_instance name parametric_args) before (c ∷ [])) ∙ e)) in
      record {
        more = d.0 ∷ r.more;
        is_table = subst (IsTable m items) (append_assoc table (d.0 ∷ []) r.more) r.is_table;
        has = λ name parametric_args. ap (has_instance name parametric_args) (sym (append_assoc table (d.0 ∷ []) r.more)) ∙ r.has name parametric_args
            ∙ ap (λ b. b || has_instance name parametric_args rest) (list_any-append (is_instance name parametric_args) table (d.0 ∷ []))
            ∙ or_assoc (has_instance name parametric_args table) (is_instance name parametric_args d.0 || false) (has_instance name parametric_args rest)
            ∙ ap (λ b. has_instance name parametric_args table || (b || has_instance name parametric_args rest)) (or_nothing (is_instance name parametric_args d.0) ∙ sym (same name parametric_args));
      }

  pub joined : (first second : List CoreInstance) → IsTable m items first → IsTable m items second → JoinedTable m items first second
  joined first second is is' =
      let r = extended [] second first tt (table_made m items second is') is (λ name parametric_args e. absurd (true≢false (sym e))) in
      record { table = first ++ r.more; is_table = r.is_table; begins = record { more = r.more; is = refl }; has = r.has }
