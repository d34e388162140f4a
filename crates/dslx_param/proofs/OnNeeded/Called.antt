-- What is called is needed.
use Rattle.std.proofs.Common.{◌≡◌, ◌∙◌, ◌||◌, ◌∷◌, [], ℕ, Bool, true, false, List, Option, refl, sym, ap}
use Rattle.std.proofs.lemmas.List.Folds.{list_any-append}
use Rattle.dslx_tree.specs.declared.item.Module.{Module}
use Rattle.dslx_meaning.specs.Items.{meanings_of}
use Rattle.dslx_core.proofs.Lemmas.Typing.Typed.{none_some}
use Rattle.dslx_core.specs.Lowering.Functions.{CoreInstance, Instantiated, is_instance, next_instance}
use Rattle.dslx_core.specs.Machines.Alike.Tables.{has_instance}
use Rattle.dslx_core.specs.Machines.Machine.Reached.{IsTable}
use Rattle.dslx_core.proofs.Lemmas.Machines.Alike.{FoundThere, found_there, has_found, made_table, table_made}
use Rattle.dslx_core.specs.Machines.Once.Once.{OccursOnce}
use Rattle.dslx_param.specs.Needed.{AddsNeeded, AreOfTable, AtOnce, IsCalled, IsCalledWithin, IsNeeded, Through}

-- all instances of a table are some of them
pub are_all : (m : Module) (table : List CoreInstance) → IsTable m (meanings_of m) table → AreOfTable m table
are_all m table is = record { table = table; is_table = is; found = λ name parametric_args p e. (p.0, e) }

called_needed : {A : Type 0} (m : Module) (meaning : List CoreInstance → Option A) (i : Instantiated) → IsCalled m meaning i → IsNeeded m meaning i
called_needed m meaning i called table is a e = by (has_instance i.name i.parametric_args table) refl
  where
    by : (b : Bool) → has_instance i.name i.parametric_args table ≡ b → b ≡ true
    by true h = refl
    by false h = none_some a (sym (called table (are_all m table is) h) ∙ e)

-- what an instance of a table needs stands in the table, too
in_front : (m : Module) (table : List CoreInstance) → IsTable m (meanings_of m) table → (i j : Instantiated) → IsNeeded m (λ t. next_instance m (meanings_of m) t i) j → has_instance i.name i.parametric_args table ≡ true
    → has_instance j.name j.parametric_args table ≡ true
in_front m table is i j needed has =
    let x = has_found i.name i.parametric_args 0 table has in
    let f : FoundThere m (meanings_of m) [] table i 0 x.0 = found_there m (meanings_of m) [] table (table_made m (meanings_of m) table is) i 0 x.0 x.1 in
    let h = needed f.front (made_table m (meanings_of m) [] f.front ([], refl) f.each) x.0.1 f.made in
    ap (has_instance j.name j.parametric_args) f.is ∙ list_any-append (is_instance j.name j.parametric_args) f.front (x.0.1 ∷ f.back) ∙ ap (λ b. b || has_instance j.name j.parametric_args (x.0.1 ∷ f.back)) h

pub within_needed : {A : Type 0} (m : Module) (meaning : List CoreInstance → Option A) (n : ℕ) (i : Instantiated) → IsCalledWithin m meaning n i → IsNeeded m meaning i
within_needed m meaning n i (AtOnce p j h) = called_needed m meaning j h
within_needed m meaning n i (Through p j q within h) =
    λ table is a e. in_front m table is j q (called_needed m (λ t. next_instance m (meanings_of m) t j) q h) (within_needed m meaning p j within table is a e)

-- what was added, from how it is called
pub adds_by : {A : Type 0} (m : Module) (limit : ℕ) (before after : List CoreInstance) (meaning : List CoreInstance → Option A) → (OccursOnce before → OccursOnce after)
    → ((i : Instantiated) → has_instance i.name i.parametric_args after ≡ true → has_instance i.name i.parametric_args before ≡ false → IsCalledWithin m meaning limit i) → AddsNeeded m limit before after meaning
adds_by m limit before after meaning once called = record { once = once; needed = λ i has new. within_needed m meaning limit i (called i has new); called = called }
