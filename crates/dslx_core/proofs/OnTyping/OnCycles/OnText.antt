-- A text without faults: nothing that is checked of it reaches itself.
use Rattle.std.proofs.Common.{◌≡◌, ◌*◌, ◌++◌, ◌||◌, ℕ, zero, suc, length, Bool, true, false, List, [], Option, Some, None, refl, sym, ap, subst, ◌∙◌}
use mathlib.Core.Bool.{true≢false}
use Rattle.std.specs.Prelude.{flat_map}
use Rattle.std.specs.Str.{bytes_eq}
use Rattle.std.specs.List.{list_any}
use Rattle.xb_span.specs.declared.fault.Fault.{Fault}
use Rattle.dslx_tree.specs.declared.expr.Expr.{out-Expr}
use Rattle.dslx_tree.specs.declared.item.Definition.{Definition}
use Rattle.dslx_tree.specs.declared.item.Definition.TheVariants as d
use Rattle.dslx_tree.specs.declared.item.Member.{Member}
use Rattle.dslx_tree.specs.declared.item.Module.{Module}
use Rattle.dslx_meaning.specs.Items.{as_function, item_named, name_of_definition}
use Rattle.dslx_meaning.specs.Network.{as_proc, top_proc}
use Rattle.dslx_meaning.specs.Rules.AggregateRules.{wanted_faults}
use Rattle.dslx_meaning.specs.Rules.ConstantRules.{constant_of, is_empty}
use Rattle.dslx_meaning.specs.Rules.ItemRules.{annotation_typing, base_if_bits, fields_found, has_equal_values, item_type_env, member_values, members_found, typing_of_type}
use Rattle.dslx_meaning.specs.Rules.NodeRules.{expr_pair}
use Rattle.dslx_meaning.specs.Rules.OperatorRules.{is_bits, unless_type}
use Rattle.dslx_meaning.specs.Rules.ModuleRules.{faults_of, found_of_instance, globals_of, globals_within, instances_faults, instances_of, item_found, items_found, outside_instances, top_faults, top_found}
use Rattle.dslx_meaning.specs.Rules.Mentions.{definition_mentions, item_reaches, mentioned, mentioned_in_type, mentions_of, reaches_within, type_if}
use Rattle.dslx_meaning.specs.Rules.TypeEnvs.{Instance, breaks_if, has_broken}
use Rattle.dslx_core.specs.Typing.TypingRelations.Closed.{IsOneOf}
use Rattle.dslx_core.specs.Typing.TypingRelations.Cycles.{AllUsed}
use Rattle.dslx_core.proofs.OnTyping.OnAccepted.Namesakes.{own_faults}
use Rattle.dslx_core.proofs.OnTyping.OnAccepted.Sound.{both_empty, instance_faults, item_faults}
use Rattle.dslx_core.proofs.OnTyping.OnCycles.OfItems.{annotation_passes, constant_passes, fields_pass, instance_broken, members_pass, not_all_pass, stands, uses_freely}
use Rattle.dslx_core.proofs.OnTyping.OnCycles.OfProcs.{proc_broken}
use Rattle.dslx_core.proofs.OnTyping.OnCycles.Joined.{written_type_judged}
use Rattle.dslx_core.proofs.OnTyping.OnCycles.Parts.{front, join}
use Rattle.dslx_core.proofs.OnTyping.OnTyped.TypingRelations.{none_some, three_unbroken, unbroken_parts}
use Rattle.dslx_core.proofs.OnTyping.OnTyping.OfItems.{item_so_named}

-- what the outside of instances and the instances break
parts_empty : (m : Module) (top : Option (List ℕ)) → faults_of m top ≡ [] → ((outside_instances m top).faults ≡ []) × (instances_faults (globals_of m) (instances_of m top) ≡ [])
parts_empty m top e = both_empty (outside_instances m top).faults (instances_faults (globals_of m) (instances_of m top)) (own_faults m top e)

items_empty : (m : Module) (top : Option (List ℕ)) → faults_of m top ≡ [] → (items_found (globals_of m) m.items).faults ≡ []
items_empty m top e =
    let own = top_faults m top (top_proc m top) in
    let items = items_found (globals_of m) m.items in
    let tops = top_found (globals_of m) (top_proc m top) in
    (both_empty items.faults tops.faults (both_empty own (items.faults ++ tops.faults) (parts_empty m top e).0).1).0

whole : (fs : List Fault) → fs ≡ [] → has_broken fs ≡ false
whole fs e = ap has_broken e

not_broken : {X : Type 0} (fs : List Fault) → fs ≡ [] → has_broken fs ≡ true → X
not_broken fs e h = absurd (true≢false (sym h ∙ whole fs e))

-- nothing reaches itself that has no item
nameless : (m : Module) (n : ℕ) (name : List ℕ) → item_named name m.items ≡ None → reaches_within m n name name ≡ false
nameless m zero name e = refl
nameless m (suc n) name e = λ i. list_any (λ next. bytes_eq next name || reaches_within m n next name) (mentions_of m (e i))

-- where an item's mentions pass it reaches itself nowhere
passes_free : (m : Module) (name : List ℕ) (x : Definition) → item_named name m.items ≡ Some x → AllUsed (uses_freely m (name_of_definition x)) (definition_mentions x) → item_reaches m name name ≡ false
passes_free m name x e h = by_test (item_reaches m name name) refl
  where
    same : name_of_definition x ≡ name
    same = item_so_named m.items name x e

    by_test : (b : Bool) → item_reaches m name name ≡ b → item_reaches m name name ≡ false
    by_test false q = q
    by_test true q = not_all_pass m (name_of_definition x) x (subst (λ z. item_named z m.items ≡ Some x) (sym same) e) (subst (λ z. item_reaches m z z ≡ true) (sym same) q) h

-- constants and types are judged by themselves, functions and procs in their instances
abbrev pub is_judged_alone : Definition → Bool
is_judged_alone (d.Function f) = false
is_judged_alone (d.Proc p) = false
is_judged_alone _ = true

-- what is judged by itself and breaks no rule doesn't reach itself
pub item_free : (m : Module) (n : ℕ) (name : List ℕ) (x : Definition) → item_named name m.items ≡ Some x → has_broken (item_found (globals_within m n) x).faults ≡ false → is_judged_alone x ≡ true → item_reaches m name name ≡ false
item_free m n name (d.Function f) e w alone = absurd (true≢false (sym alone))
item_free m n name (d.Proc p) e w alone = absurd (true≢false (sym alone))
item_free m n name (d.Alias a) e w alone =
    passes_free m name (d.Alias a) e (written_type_judged (uses_freely m a.name.name) a.ty [] (item_type_env (globals_within m n) a.name.name []) (stands m n a.name.name [] [] (λ z q. refl)) w)
item_free m n name (d.Struct s) e w alone =
    let found = fields_found (item_type_env (globals_within m n) s.name.name []) [] s.fields in
    let empty = breaks_if (is_empty s.fields) 31 s.span in
    passes_free m name (d.Struct s) e (fields_pass m n s.name.name s.fields [] (front found.faults empty (front (found.faults ++ empty) _ w)))
item_free m n name (d.Enum x) e w alone =
    let context = item_type_env (globals_within m n) x.name.name [] in
    let base = typing_of_type context x.base in
    let members = members_found context (base_if_bits base.ty) [] x.members in
    let one = unless_type is_bits 23 x.span base.ty in
    let two = breaks_if (is_empty x.members || has_equal_values (member_values context (base_if_bits base.ty) x.members)) 23 x.span in
    let r = unbroken_parts base.faults members.faults (front (base.faults ++ members.faults) one (front ((base.faults ++ members.faults) ++ one) two w)) in
    passes_free m name (d.Enum x) e (join (uses_freely m x.name.name) (mentioned_in_type x.base []) (flat_map (λ (y : Member). mentioned y.value []) x.members)
    (written_type_judged (uses_freely m x.name.name) x.base [] context (stands m n x.name.name [] [] (λ z q. refl)) r.0) (members_pass m n x.name.name x.members (base_if_bits base.ty) [] r.1))
item_free m n name (d.Constant c) e w alone =
    let context = item_type_env (globals_within m n) c.name.name [] in
    let written = annotation_typing context c.ty in
    let value = constant_of context (expr_pair c.value) in
    let wrong = wanted_faults (out-Expr c.value).span written.ty value.judgement.ty in
    let r = three_unbroken written.faults value.judgement.faults wrong w in
    passes_free m name (d.Constant c) e (join (uses_freely m c.name.name) (type_if c.ty []) (mentioned c.value []) (annotation_passes m n c.name.name c.ty r.0) (constant_passes m n c.name.name [] [] (λ z q. refl) c.value r.1))

judged : (x : Definition) → as_function (Some x) ≡ None → as_proc (Some x) ≡ None → is_judged_alone x ≡ true
judged (d.Function f) no_function no_proc = none_some f (sym no_function)
judged (d.Proc p) no_function no_proc = none_some p (sym no_proc)
judged (d.Constant c) no_function no_proc = refl
judged (d.Alias a) no_function no_proc = refl
judged (d.Struct s) no_function no_proc = refl
judged (d.Enum x) no_function no_proc = refl

module _ (m : Module) (top : Option (List ℕ)) (accepted : faults_of m top ≡ []) where
  abbrev n : ℕ
  n = 2 * length m.items

  -- an item's own text breaks no rule
  item_whole : (name : List ℕ) (x : Definition) → item_named name m.items ≡ Some x → has_broken (item_found (globals_of m) x).faults ≡ false
  item_whole name x e = whole (item_found (globals_of m) x).faults (item_faults (globals_of m) name x m.items e (items_empty m top accepted))

  pub items_free : (name : List ℕ) (x : Definition) → item_named name m.items ≡ Some x → as_function (Some x) ≡ None → as_proc (Some x) ≡ None → item_reaches m name name ≡ false
  items_free name x e no_function no_proc = item_free m n name x e (item_whole name x e) (judged x no_function no_proc)

  pub instances_free : (i : Instance) → IsOneOf i (instances_of m top) → item_reaches m i.name i.name ≡ false
  instances_free i one = by_item (item_named i.name m.items) refl
    where
      none : (found_of_instance (globals_of m) i).faults ≡ []
      none = instance_faults (globals_of m) i (instances_of m top) one (parts_empty m top accepted).1

      broken : ((item_reaches m i.name i.name ≡ true) → has_broken (found_of_instance (globals_of m) i).faults ≡ true) → (b : Bool) → item_reaches m i.name i.name ≡ b → item_reaches m i.name i.name ≡ false
      broken h false q = q
      broken h true q = not_broken (found_of_instance (globals_of m) i).faults none (h q)

      by_item : (o : Option Definition) → item_named i.name m.items ≡ o → item_reaches m i.name i.name ≡ false
      by_item None e = nameless m (length m.items) i.name e
      by_item (Some (d.Function f)) e = broken (instance_broken m n i f e) (item_reaches m i.name i.name) refl
      by_item (Some (d.Proc p)) e = broken (proc_broken m n i p e) (item_reaches m i.name i.name) refl
      by_item (Some (d.Constant c)) e = items_free i.name (d.Constant c) e refl refl
      by_item (Some (d.Alias a)) e = items_free i.name (d.Alias a) e refl refl
      by_item (Some (d.Struct s)) e = items_free i.name (d.Struct s) e refl refl
      by_item (Some (d.Enum x)) e = items_free i.name (d.Enum x) e refl refl
