-- The checked text of instances of a text's procs.
use Rattle.std.proofs.Common.{◌≡◌, ◌<◌, ◌++◌, ◌+◌, ◌-◌, ◌∙◌, ℕ, suc, List, [], ◌∷◌, map, drop, get_or, length, true, Option, Some, None, refl, sym, ap, subst, append_assoc, arith}
use mathlib.Core.Bool.{true≢false}
use Rattle.std.specs.Prelude.{slice_get}
use Rattle.std.specs.Str.{bytes_eq}
use Rattle.std.proofs.lemmas.List.{append-nil, length-map}
use Rattle.std.proofs.Math.Seq.{drop-cons}
use Rattle.dslx_tree.specs.declared.item.Module.{Module}
use Rattle.dslx_tree.specs.declared.process.Proc.{Proc}
use Rattle.dslx_meaning.specs.Items.{item_named, meanings_of}
use Rattle.dslx_meaning.specs.Lists.{and_then, pairwise}
use Rattle.dslx_meaning.specs.Network.{as_proc, top_parametric_args, top_proc}
use Rattle.dslx_meaning.specs.Rules.EqualValues.{equal_value}
use Rattle.dslx_meaning.specs.declared.value.DslxValue.{DslxValue}
use Rattle.dslx_core.specs.Lowering.Functions.{CoreInstance, Instantiated, core_function}
use Rattle.dslx_core.specs.Machines.Machine.Reached.{ExtendsTable, IsTable}
use Rattle.dslx_core.specs.Networks.Assembly.{IsDesignFrom, instances_alone, lower_outers}
use Rattle.dslx_core.specs.Networks.Configs.{ProcInstance}
use Rattle.dslx_core.specs.Networks.Procs.{next_proc, procs_from}
use Rattle.dslx_core.specs.declared.design.Design.{Design}
use Rattle.dslx_core.specs.declared.design.Outer.{Outer}
use Rattle.dslx_core.proofs.Lemmas.Typing.Laws.{and_true, one_value_by_test}
use Rattle.dslx_core.proofs.Lemmas.Typing.Laws.Chains.{same_name}
use Rattle.dslx_core.proofs.Lemmas.Typing.Typed.{none_some, same_some}
use Rattle.dslx_elab.specs.Adding.{AddsProc, IsAdded, IsAmong}
use Rattle.dslx_elab.specs.Assembling.{AddsAll, AddsFrom, AllAdded, IsEmpty, OneAdded, OneMissing, is_last_of, is_of_found}
use Rattle.dslx_elab.specs.declared.adding.MadeInstances.{MadeInstances}

-- ---- what is made comes of names, by each table that extends the one there

pub record Comes (m : Module) (made : MadeInstances) : Type 0 where
  pub named : List Instantiated
  pub all : (table : List CoreInstance) → ExtendsTable table made.functions → procs_from m (meanings_of m) table [] named ≡ Some made.procs.items

nothing_comes : (m : Module) (first : MadeInstances) → IsEmpty first → Comes m first
nothing_comes m first h = record { named = []; all = λ table e. ap Some (sym h.procs) }

extends_both : (a b c : List CoreInstance) → ExtendsTable c b → ExtendsTable b a → ExtendsTable c a
extends_both a b c h k = record { more = k.more ++ h.more; is = h.is ∙ ap (λ xs. xs ++ h.more) k.is ∙ append_assoc a k.more h.more }

-- instances behind others
behind : (m : Module) (table : List CoreInstance) (before : List ProcInstance) (is : List Instantiated) (i : Instantiated) (found : List ProcInstance) (c : ProcInstance)
    → procs_from m (meanings_of m) table before is ≡ Some found → next_proc m (meanings_of m) table found i ≡ Some c
    → procs_from m (meanings_of m) table before (is ++ i ∷ []) ≡ Some (found ++ c ∷ [])
behind m table before [] i found c e h =
    ap (λ xs. and_then (next_proc m (meanings_of m) table xs i) (λ x. Some (xs ++ x ∷ []))) (same_some before found e) ∙ ap (λ o. and_then o (λ x. Some (found ++ x ∷ []))) h
behind m table before (j ∷ is) i found c e h = by_next (next_proc m (meanings_of m) table before j) e (λ x q. behind m table (before ++ x ∷ []) is i found c q h)
  where
    by_next : (o : Option ProcInstance) → and_then o (λ x. procs_from m (meanings_of m) table (before ++ x ∷ []) is) ≡ Some found
        → ((x : ProcInstance) → procs_from m (meanings_of m) table (before ++ x ∷ []) is ≡ Some found → procs_from m (meanings_of m) table (before ++ x ∷ []) (is ++ i ∷ []) ≡ Some (found ++ c ∷ []))
        → and_then o (λ x. procs_from m (meanings_of m) table (before ++ x ∷ []) (is ++ i ∷ [])) ≡ Some (found ++ c ∷ [])
    by_next None q rest = none_some found q
    by_next (Some x) q rest = rest x q

one_comes : (m : Module) (limit : ℕ) (before : MadeInstances) (i : Instantiated) (o : Option MadeInstances) → AddsProc m limit before i o → Comes m before → (made : MadeInstances) → o ≡ Some made → Comes m made
one_comes m limit before i _ (IsAmong k e) h made is = subst (Comes m) (same_some before made is) h
one_comes m limit before i _ (IsAdded None e missing) h made is = none_some made is
one_comes m limit before i _ (IsAdded (Some after) e added) h made is =
    subst (Comes m) (same_some after made is)
    (record {
      named = h.named ++ i ∷ [];
      all = λ table extends.
          behind m table [] h.named i before.procs.items added.made (h.all table (extends_both before.functions after.functions table extends added.comes.grows.begins)) (added.comes.some table extends)
          ∙ ap Some (sym added.procs);
    })

all_come : (m : Module) (limit : ℕ) (before : MadeInstances) (is : List Instantiated) (o : Option MadeInstances) → AddsFrom m limit before is o → Comes m before → (made : MadeInstances) → o ≡ Some made → Comes m made
all_come m limit before _ _ (AllAdded _) h made e = subst (Comes m) (same_some before made e) h
all_come m limit before _ o (OneAdded _ mid i is _ one rest) h made e = all_come m limit mid is o rest (one_comes m limit before i (Some mid) one h mid refl) made e
all_come m limit before _ _ (OneMissing _ i is none) h made e = none_some made e

pub made_come : (m : Module) (limit : ℕ) (wanted : List Instantiated) (made : MadeInstances) → AddsAll m limit wanted (Some made) → Comes m made
made_come m limit wanted made h = all_come m limit h.0 wanted (Some made) h.2 (nothing_comes m h.0 h.1) made refl

-- ---- the last one

pub same_args : (vs ws : List DslxValue) → pairwise equal_value vs ws ≡ true → vs ≡ ws
same_args [] [] e = refl
same_args [] (w ∷ ws) e = absurd (true≢false (sym e))
same_args (v ∷ vs) [] e = absurd (true≢false (sym e))
same_args (v ∷ vs) (w ∷ ws) e = let r = and_true (equal_value v w) (pairwise equal_value vs ws) e in λ i. one_value_by_test v w r.0 i ∷ same_args vs ws r.1 i

record IsLast (is : List ProcInstance) (name : List ℕ) (parametric_args : List DslxValue) : Type 0 where
  last : ProcInstance
  there : slice_get is (length is - 1) ≡ Some last
  name_is : last.name ≡ name
  args_are : last.parametric_args ≡ parametric_args

last_is : (name : List ℕ) (parametric_args : List DslxValue) (is : List ProcInstance) → is_last_of name parametric_args is ≡ true → IsLast is name parametric_args
last_is name parametric_args is e = by_found (slice_get is (length is - 1)) refl e
  where
    by_found : (o : Option ProcInstance) → slice_get is (length is - 1) ≡ o → is_of_found name parametric_args o ≡ true → IsLast is name parametric_args
    by_found None q h = absurd (true≢false (sym h))
    by_found (Some i) q h =
        let both = and_true (bytes_eq i.name name) (pairwise equal_value i.parametric_args parametric_args) h in
        record { last = i; there = q; name_is = same_name i.name name both.0; args_are = same_args i.parametric_args parametric_args both.1 }

-- ---- the whole

pub assembled : (m : Module) (limit : ℕ) (top : Proc) (wanted : List Instantiated) (made : MadeInstances) (outer : List Outer) (design : Design) → as_proc (item_named top.name.name m.items) ≡ Some top
    → lower_outers (meanings_of m) top ≡ Some outer → AddsAll m limit wanted (Some made) → IsTable m (meanings_of m) made.functions
    → is_last_of top.name.name (top_parametric_args (meanings_of m) top) made.procs.items ≡ true
    → design ≡ record { name = top.name.name; outer = outer; functions = map core_function made.functions; procs = instances_alone made.procs.items }
    → (name : Option (List ℕ)) → top_proc m name ≡ Some top → (from : IsDesignFrom m name design) × (from.functions ≡ made.functions)
assembled m limit top wanted made outer design item outers adds table last is name is_top =
    let come = made_come m limit wanted made adds in
    let l = last_is top.name.name (top_parametric_args (meanings_of m) top) made.procs.items last in
    let index : length (instances_alone made.procs.items) - 1 ≡ length made.procs.items - 1 = ap (λ n. n - 1) (length-map made.procs.items (λ (i : ProcInstance). i.instance)) in (
      record {
        proc = top;
        is_top = is_top;
        is_item = item;
        outer = outer;
        functions = made.functions;
        procs = made.procs.items;
        last = l.last;
        named_functions = table.0;
        named_procs = come.named;
        outers = outers;
        each_function = table.1;
        each_proc = come.all made.functions (record { more = []; is = sym (append-nil made.functions) });
        is_last = ap (slice_get made.procs.items) index ∙ l.there;
        of_name = l.name_is;
        of_parametric_args = l.args_are;
        design_is = is;
      },
      refl,
    )

-- ---- the loop

-- those that are left, with the first of them
pub left_from : (is : List Instantiated) (k : ℕ) (i : Instantiated) → k < length is → i ≡ get_or is k i → drop k is ≡ i ∷ drop (k + 1) is
left_from is k i within at = drop-cons is k i within ∙ (λ j. sym at j ∷ drop (next j) is)
  where
    next : suc k ≡ k + 1
    next = omega arith

-- one more is added
pub step_added : (m : Module) (limit : ℕ) (first before mid : MadeInstances) (all left : List Instantiated) (i : Instantiated) (is : List Instantiated) → ((o : Option MadeInstances) → AddsFrom m limit before left o → AddsFrom m limit first all o)
    → left ≡ i ∷ is → AddsProc m limit before i (Some mid) → (o : Option MadeInstances) → AddsFrom m limit mid is o → AddsFrom m limit first all o
step_added m limit first before mid all left i is whole split one o rest = whole o (subst (λ l. AddsFrom m limit before l o) (sym split) (OneAdded before mid i is o one rest))

-- the first of those that are left isn't there
pub step_missing : (m : Module) (limit : ℕ) (first before : MadeInstances) (all left : List Instantiated) (i : Instantiated) (is : List Instantiated) → ((o : Option MadeInstances) → AddsFrom m limit before left o → AddsFrom m limit first all o)
    → left ≡ i ∷ is → AddsProc m limit before i None → AddsFrom m limit first all None
step_missing m limit first before all left i is whole split none = whole None (subst (λ l. AddsFrom m limit before l None) (sym split) (OneMissing before i is none))

-- all are added
pub steps_added : (m : Module) (limit : ℕ) (first made : MadeInstances) (all left : List Instantiated) → ((o : Option MadeInstances) → AddsFrom m limit made left o → AddsFrom m limit first all o) → left ≡ []
    → AddsFrom m limit first all (Some made)
steps_added m limit first made all left whole none = whole (Some made) (subst (λ l. AddsFrom m limit made l (Some made)) (sym none) (AllAdded made))
