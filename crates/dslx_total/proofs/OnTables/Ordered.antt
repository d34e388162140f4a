-- Instances of functions by the ranks of their items: each reaches those of lower ranks alone.
use Rattle.std.proofs.Common.{◌*◌, ◌≡◌, ◌≤◌, ◌&&◌, ◌++◌, ℕ, zero, suc, length, Bool, true, false, not, if◌then◌else◌, List, [], ◌∷◌, Option, Some, None, arith, inl, inr, refl, sym, ap, ◌∙◌}
use mathlib.Core.Bool.{true≢false}
use Rattle.std.specs.List.{list_all}
use Rattle.std.proofs.lemmas.List.{length-append}
use Rattle.dslx_tree.specs.declared.item.Definition.{Definition}
use Rattle.dslx_tree.specs.declared.item.Definition.TheVariants as d
use Rattle.dslx_tree.specs.declared.item.Function.{Function}
use Rattle.dslx_tree.specs.declared.item.Module.{Module}
use Rattle.dslx_meaning.specs.Items.{as_function, item_named}
use Rattle.dslx_meaning.specs.Rules.ItemRules.{Found, function_seen}
use Rattle.dslx_meaning.specs.Rules.TypeEnvs.{Instance, GlobalEnv}
use Rattle.dslx_meaning.specs.Rules.Mentions.{AsFunction, is_of_use}
use Rattle.dslx_meaning.specs.Rules.ModuleRules.{found_of_instance, found_of_item, instances_of, is_reached, globals_of, globals_over}
use Rattle.dslx_core.proofs.Lemmas.Typing.Laws.{and_true}
use Rattle.dslx_core.specs.Typing.Typed.Numbers.{AllOwn}
use Rattle.dslx_core.specs.Typing.TypingRelations.Closed.{IsOneOf}
use Rattle.dslx_core.proofs.Lemmas.Typing.TypingRelations.{function_is, item_so_named}
use Rattle.dslx_core.proofs.Lemmas.Typing.Depends.{every_item_settles, reached_below, settles, settles_longer}
use Rattle.dslx_core.proofs.Lemmas.Typing.Accepted.{IsAccepted, all_empty, all_so, instance_faults, one_of_these}
use Rattle.dslx_core.specs.Lowering.Functions.{Instantiated}
use Rattle.dslx_core.specs.Typing.Depends.Alike.{DeclaredAlike}
use Rattle.dslx_total.specs.Instances.Checked.{AreOfChecked, is_checked_item}
use Rattle.dslx_total.specs.Expressions.InstanceLists.{AreThere, EachReachesThoseBefore, ReachesThese, is_among}
use Rattle.dslx_total.proofs.OnClosed.OfTexts.{checked_named}
use Rattle.dslx_total.proofs.OnFamilies.Knows.{Knows}
use Rattle.dslx_total.proofs.OnTables.Knowing.{types_typing}
use Rattle.dslx_total.proofs.OnTables.Lists.{AreApart, among_first, among_second, as_named, both_chosen, chosen, chosen_among, each_behind, each_chosen, no_more}
use Rattle.dslx_total.proofs.OnTables.Own.{all_own_pass, all_own_there, are_own}

module _ (m : Module) (top : Option (List ℕ)) (s : IsAccepted m top) (known : GlobalEnv) (knows : Knows m top s known)
    (functions : (f : Function) → item_named f.name.name m.items ≡ Some (d.Function f) → is_checked_item m top f.name.name ≡ true → DeclaredAlike known (globals_over known) f.name.name) where
  abbrev own : GlobalEnv
  own = globals_of m

  abbrev all : List Instance
  all = instances_of m top

  -- an instance of a function whose parametrics have values of their own types
  abbrev is_function : Instance → Bool
  is_function i = is_of_use AsFunction (item_named i.name m.items) && are_own known.items.type_named i.parametric_args

  -- of this rank, and of no lower one
  abbrev is_next : ℕ → Instance → Bool
  is_next k i = settles m (suc k) i.name && not (settles m k i.name)

  abbrev due : ℕ → Instance → Bool
  due k i = is_next k i && is_function i

  -- those of the lowest ranks first
  abbrev pub in_order : ℕ → List Instantiated
  in_order zero = []
  in_order (suc k) = in_order k ++ chosen (due k) all

  -- ---- what stands in it

  known_item : (name : List ℕ) → item_named name known.whole.items ≡ item_named name m.items
  known_item name = λ i. item_named name (knows.text i).items

  named_function : (i : Instance) (f : Function) → as_function (item_named i.name known.whole.items) ≡ Some f → item_named i.name m.items ≡ Some (d.Function f)
  named_function i f e = function_is (item_named i.name m.items) f (ap as_function (sym (known_item i.name)) ∙ e)

  is_function_there : (i : Instance) (f : Function) → item_named i.name m.items ≡ Some (d.Function f) → AllOwn known.items.type_named i.parametric_args → is_function i ≡ true
  is_function_there i f e args = λ t. is_of_use AsFunction (e t) && all_own_pass known.items.type_named i.parametric_args args t

  stands : (k : ℕ) (i : Instance) → IsOneOf i all → is_function i ≡ true → settles m k i.name ≡ true → is_among (in_order k) i ≡ true
  stands zero i one e p = absurd (true≢false (sym p))
  stands (suc k) i one e p = by_shorter (settles m k i.name) refl (stands k i one e)
    where
      by_shorter : (b : Bool) → settles m k i.name ≡ b → (settles m k i.name ≡ true → is_among (in_order k) i ≡ true) → is_among (in_order k ++ chosen (due k) all) i ≡ true
      by_shorter true q rest = among_first i (in_order k) (chosen (due k) all) (rest q)
      by_shorter false q rest = among_second i (in_order k) (chosen (due k) all) (chosen_among (due k) i all one (λ t. (p t && not (q t)) && e t))

  pub functions_stand : AreThere (λ i. is_reached i all) known (in_order (length m.items))
  functions_stand i f e args r =
      let named = named_function i f e in
      stands (length m.items) i (one_of_these i all r) (is_function_there i f named args) (every_item_settles m i.name (d.Function f) named refl)

  -- ---- what each reaches

  -- the function of an instance
  function_there : (i : Instance) → is_of_use AsFunction (item_named i.name m.items) ≡ true → (f : Function) × (item_named i.name m.items ≡ Some (d.Function f))
  function_there i e = by_item (item_named i.name m.items) refl e
    where
      by_item : (o : Option Definition) → item_named i.name m.items ≡ o → is_of_use AsFunction o ≡ true → (f : Function) × (item_named i.name m.items ≡ Some (d.Function f))
      by_item (Some (d.Function f)) q h = (f, q)
      by_item (Some (d.Proc p)) q h = absurd (true≢false (sym h))
      by_item (Some (d.Constant c)) q h = absurd (true≢false (sym h))
      by_item (Some (d.Alias a)) q h = absurd (true≢false (sym h))
      by_item (Some (d.Struct x)) q h = absurd (true≢false (sym h))
      by_item (Some (d.Enum x)) q h = absurd (true≢false (sym h))
      by_item None q h = absurd (true≢false (sym h))

  reaches : (k : ℕ) → suc k ≤ length m.items → (i : Instance) → IsOneOf i all → due k i ≡ true → ReachesThese known (in_order k) (as_named i)
  reaches k l i one e =
      let a = and_true (is_next k i) (is_function i) e in
      let b = and_true (settles m (suc k) i.name) (not (settles m k i.name)) a.0 in
      let c = and_true (is_of_use AsFunction (item_named i.name m.items)) (are_own known.items.type_named i.parametric_args) a.1 in
      let f = function_there i c.0 in
      let seen : found_of_instance own i ≡ (function_seen known f.0 i.parametric_args).found = sym (knows.found i one) ∙ ap (found_of_item known i.parametric_args) (known_item i.name ∙ f.1) in
      let named = reached_below m k (2 * length m.items) i b.0 in
      let shorter : k ≤ length m.items = omega (arith, l) in
      let same : f.0.name.name ≡ i.name = item_so_named m.items i.name (d.Function f.0) f.1 in
      let there : item_named f.0.name.name m.items ≡ Some (d.Function f.0) = (λ t. item_named (same t) m.items) ∙ f.1 in
      record {
        function = f.0;
        is = ap as_function (known_item i.name ∙ f.1);
        types = types_typing known f.0 (known_item f.0.name.name ∙ there) (functions f.0 there (ap (is_checked_item m top) same ∙ checked_named m top i one));
        own = all_own_there known.items.type_named i.parametric_args c.1;
        here = here;
        clean = record {
          faults = ap (λ (x : Found). x.faults) (sym seen) ∙ instance_faults own i all one (all_empty m top s).1;
          reached = ap (λ (x : Found). list_all here x.reached) (sym seen) ∙ all_so here (settles m k) (found_of_instance own i).reached named (λ j r p t. s.among i j one r t && p t);
        };
        sound = λ j h. let q = and_true (is_reached j all) (settles m k j.name) h in knows.sound k shorter j (one_of_these j all q.0) q.1;
        there = λ j g n args h.
            let q = and_true (is_reached j all) (settles m k j.name) h in
            stands k j (one_of_these j all q.0) (is_function_there j g (named_function j g n) args) q.1;
      }
    where
      here : Instance → Bool
      here j = is_reached j all && settles m k j.name

  pub each_reaches : (k : ℕ) → k ≤ length m.items → EachReachesThoseBefore known [] (in_order k)
  each_reaches zero l = tt
  each_reaches (suc k) l = each_behind known [] (in_order k) (chosen (due k) all) (each_reaches k (omega (arith, l))) (each_chosen known (in_order k) (due k) all (reaches k l))

  -- ---- all are checked

  chosen_checked : (p : Instance → Bool) (is : List Instance) → ((i : Instance) → IsOneOf i is → is_checked_item m top i.name ≡ true) → AreOfChecked m top (chosen p is)
  chosen_checked p [] h = tt
  chosen_checked p (i ∷ is) h = by_kind (p i) (h i (inl refl)) (chosen_checked p is (λ j one. h j (inr one)))
    where
      by_kind : (b : Bool) → is_checked_item m top i.name ≡ true → AreOfChecked m top (chosen p is) → AreOfChecked m top (if b then as_named i ∷ chosen p is else chosen p is)
      by_kind true q rest = (q, rest)
      by_kind false q rest = rest

  both_checked : (xs ys : List Instantiated) → AreOfChecked m top xs → AreOfChecked m top ys → AreOfChecked m top (xs ++ ys)
  both_checked [] ys h k = k
  both_checked (x ∷ xs) ys h k = (h.0, both_checked xs ys h.1 k)

  pub all_checked : (k : ℕ) → AreOfChecked m top (in_order k)
  all_checked zero = tt
  all_checked (suc k) = both_checked (in_order k) (chosen (due k) all) (all_checked k) (chosen_checked (due k) all (checked_named m top))

  -- ---- how many they are

  apart : (k : ℕ) (i : Instance) → AreApart (λ (j : Instance). settles m k j.name) (due k) (λ (j : Instance). settles m (suc k) j.name) i
  apart k i = record {
    first = settles_longer m k i.name;
    second = λ e. (and_true (settles m (suc k) i.name) (not (settles m k i.name)) (and_true (is_next k i) (is_function i) e).0).0;
    apart = λ p e. true≢false (sym (and_true (settles m (suc k) i.name) (not (settles m k i.name)) (and_true (is_next k i) (is_function i) e).0).1 ∙ ap not p);
  }

  no_more_than : (k : ℕ) → length (in_order k) ≤ length (chosen (λ (i : Instance). settles m k i.name) all)
  no_more_than zero = omega arith
  no_more_than (suc k) =
      let shorter = no_more_than k in
      let one = both_chosen (λ (i : Instance). settles m k i.name) (due k) (λ (i : Instance). settles m (suc k) i.name) (apart k) all in
      let both = length-append (in_order k) (chosen (due k) all) in
      omega (arith, shorter, one, both)

  pub few_in_order : length (in_order (length m.items)) ≤ length all
  few_in_order =
      let passing = no_more_than (length m.items) in
      let rest = no_more (λ (i : Instance). settles m (length m.items) i.name) all in
      omega (arith, passing, rest)
