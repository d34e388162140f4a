-- Items and instances of a text without faults: all that they reach is sound, by induction on chains of items.
use Rattle.std.proofs.Common.{◌*◌, ◌≡◌, ◌≤◌, inl, inr, ◌&&◌, ◌||◌, ◌++◌, ℕ, zero, suc, length, Bool, true, false, if◌then◌else◌, List, [], ◌∷◌, Option, Some, arith, refl, sym, ap, subst, ◌∙◌}
use mathlib.Core.Bool.{true≢false}
use Rattle.std.specs.Str.{bytes_eq}
use Rattle.std.specs.List.{list_all}
use Rattle.dslx_tree.specs.declared.item.Definition.{Definition}
use Rattle.dslx_tree.specs.declared.item.Definition.TheVariants as d
use Rattle.dslx_tree.specs.declared.item.Item.{Item}
use Rattle.dslx_tree.specs.declared.item.Module.{Module}
use Rattle.dslx_meaning.specs.Items.{item_named, name_of_definition}
use Rattle.dslx_meaning.specs.Network.{top_proc}
use Rattle.dslx_meaning.specs.Rules.ConstantRules.{is_empty}
use Rattle.dslx_meaning.specs.Rules.TypeEnvs.{Instance, GlobalEnv, same_instance}
use Rattle.dslx_meaning.specs.Rules.Mentions.{mentions_of}
use Rattle.dslx_meaning.specs.Rules.ModuleRules.{faults_of, found_of_instance, instances_faults, instances_of, is_reached, item_found, items_found, globals_of, outside_instances, top_faults, top_found}
use Rattle.dslx_core.proofs.Lemmas.Typing.Typed.{none_some, same_some}
use Rattle.dslx_core.specs.Typing.TypingRelations.Closed.{IsOneOf, ReachOneAnother}
use Rattle.dslx_core.specs.Typing.TypingRelations.Reached.{AllNamed}
use Rattle.dslx_core.proofs.Lemmas.Typing.TypingRelations.{in_first, in_second, items_reach}
use Rattle.dslx_core.proofs.Lemmas.Typing.Depends.{every_item_settles, is_proc_item, ranks_settle, reached_below, settles, settles_closed}
use Rattle.dslx_core.specs.Typing.Complete.HasValue.{IsWellTypedFound}
use Rattle.dslx_core.specs.Typing.GlobalEnv.WellTypedParts.{EachItemWellTyped}
use Rattle.dslx_core.proofs.OnTyping.OnAccepted.Namesakes.{own_faults}
use Rattle.dslx_core.proofs.OnTyping.OnAccepted.OneInstance.{one_instance}

-- ---- lists

pub both_empty : {X : Type 0} (xs ys : List X) → xs ++ ys ≡ [] → (xs ≡ []) × (ys ≡ [])
both_empty [] ys e = (refl, e)
both_empty (x ∷ xs) ys e = absurd (true≢false (sym (ap is_empty e)))

-- what is so of each one whose name passes a test is so of all, where their names pass it
pub all_so : (f : Instance → Bool) (P : List ℕ → Bool) (is : List Instance) → AllNamed P is → ((i : Instance) → IsOneOf i is → P i.name ≡ true → f i ≡ true) → list_all f is ≡ true
all_so f P [] named h = refl
all_so f P (x ∷ xs) named h = λ t. h x (inl refl) named.0 t && all_so f P xs named.1 (λ i one p. h i (inr one) p) t

-- an instance that is the same as one of these is one of these
pub one_of_these : (i : Instance) (is : List Instance) → is_reached i is ≡ true → IsOneOf i is
one_of_these i [] e = absurd (true≢false (sym e))
one_of_these i (x ∷ xs) e = by_first (same_instance i x) refl e (one_of_these i xs)
  where
    by_first : (b : Bool) → same_instance i x ≡ b → (b || is_reached i xs) ≡ true → (is_reached i xs ≡ true → IsOneOf i xs) → IsOneOf i (x ∷ xs)
    by_first true q g rest = inl (one_instance i x q)
    by_first false q g rest = inr (rest g)

-- ---- what an item comes to is among what all come to

pub item_faults : (known : GlobalEnv) (name : List ℕ) (x : Definition) (is : List Item) → item_named name is ≡ Some x → (items_found known is).faults ≡ [] → (item_found known x).faults ≡ []
item_faults known name x [] q e = none_some x q
item_faults known name x (i ∷ is) q e =
    let parts = both_empty (item_found known i.definition).faults (items_found known is).faults e in
    by_name (bytes_eq name (name_of_definition i.definition)) q parts.0 (λ r. item_faults known name x is r parts.1)
  where
    by_name : (b : Bool) → (if b then Some i.definition else item_named name is) ≡ Some x → (item_found known i.definition).faults ≡ []
        → (item_named name is ≡ Some x → (item_found known x).faults ≡ []) → (item_found known x).faults ≡ []
    by_name true r own rest = subst (λ z. (item_found known z).faults ≡ []) (same_some i.definition x r) own
    by_name false r own rest = rest r

item_reached : (known : GlobalEnv) (name : List ℕ) (x : Definition) (j : Instance) (is : List Item) → item_named name is ≡ Some x → IsOneOf j (item_found known x).reached → IsOneOf j (items_found known is).reached
item_reached known name x j [] q h = none_some x q
item_reached known name x j (i ∷ is) q h = by_name (bytes_eq name (name_of_definition i.definition)) q (λ r. item_reached known name x j is r h)
  where
    by_name : (b : Bool) → (if b then Some i.definition else item_named name is) ≡ Some x → (item_named name is ≡ Some x → IsOneOf j (items_found known is).reached)
        → IsOneOf j ((item_found known i.definition).reached ++ (items_found known is).reached)
    by_name true r rest = in_first j (item_found known i.definition).reached (items_found known is).reached (subst (λ z. IsOneOf j (item_found known z).reached) (sym (same_some i.definition x r)) h)
    by_name false r rest = in_second j (item_found known i.definition).reached (items_found known is).reached (rest r)

pub instance_faults : (known : GlobalEnv) (i : Instance) (is : List Instance) → IsOneOf i is → instances_faults known is ≡ [] → (found_of_instance known i).faults ≡ []
instance_faults known i [] h e = absurd h
instance_faults known i (x ∷ xs) (inl q) e = ap (λ z. (found_of_instance known z).faults) q ∙ (both_empty (found_of_instance known x).faults (instances_faults known xs) e).0
instance_faults known i (x ∷ xs) (inr h) e = instance_faults known i xs h (both_empty (found_of_instance known x).faults (instances_faults known xs) e).1

-- ---- a text without faults

pub record IsAccepted (m : Module) (top : Option (List ℕ)) : Type 0 where
  pub faults : faults_of m top ≡ []
  pub among : ReachOneAnother (globals_of m) (instances_of m top)
  pub outside : (i : Instance) → IsOneOf i (outside_instances m top).reached → is_reached i (instances_of m top) ≡ true

module _ (m : Module) (top : Option (List ℕ)) (s : IsAccepted m top) where
  abbrev K : GlobalEnv
  K = globals_of m

  abbrev instances : List Instance
  instances = instances_of m top

  -- nothing is found outside instances, nor in them
  pub all_empty : ((outside_instances m top).faults ≡ []) × (instances_faults K instances ≡ [])
  all_empty = both_empty (outside_instances m top).faults (instances_faults K instances) (own_faults m top s.faults)

  items_empty : (items_found K m.items).faults ≡ []
  items_empty =
      let own = top_faults m top (top_proc m top) in
      let rest = both_empty own ((items_found K m.items).faults ++ (top_found K (top_proc m top)).faults) all_empty.0 in
      (both_empty (items_found K m.items).faults (top_found K (top_proc m top)).faults rest.1).0

  -- an instance that is checked is sound, whatever its item's rank
  pub sound : (k : ℕ) → k ≤ length m.items → (i : Instance) → IsOneOf i instances → settles m k i.name ≡ true → K.is_sound i ≡ true
  sound zero l i one p = absurd (true≢false (sym p))
  sound (suc k) l i one p =
      let named = reached_below m k (2 * length m.items) i p in
      let reached = all_so K.is_sound (settles m k) (found_of_instance K i).reached named (λ j r q. sound k (omega (arith, l)) j (one_of_these j instances (s.among i j one r)) q) in
      let settled = (ranks_settle m (suc k) (2 * length m.items) (suc (2 * length m.items)) (omega (arith, l)) (omega (arith, l))).known.sound i p in
      settled ∙ (λ t. is_empty (instance_faults K i instances one all_empty.1 t) && reached t)

  pub outside : (i : Instance) → IsOneOf i (outside_instances m top).reached → IsOneOf i instances
  outside i h = one_of_these i instances (s.outside i h)

  -- an item that is no proc
  well_typed_item : (name : List ℕ) (x : Definition) → item_named name m.items ≡ Some x → is_proc_item (Some x) ≡ false → IsWellTypedFound K (item_found K x)
  well_typed_item name x e other =
      let P = settles m (length m.items) in
      let closed = settles_closed m (length m.items) in
      let mentions = (λ t. list_all P (mentions_of m (sym e t))) ∙ closed name (every_item_settles m name x e other) in
      record {
        faults = item_faults K name x m.items e items_empty;
        reached = all_so K.is_sound P (item_found K x).reached (items_reach P m closed (2 * length m.items) x mentions)
            (λ j h p. sound (length m.items) (omega arith) j (outside j (in_first j (items_found K m.items).reached (top_found K (top_proc m top)).reached (item_reached K name x j m.items e h))) p);
      }

  pub each_well_typed : EachItemWellTyped m
  each_well_typed name (d.Proc p) e = record { faults = refl; reached = refl }
  each_well_typed name (d.Function f) e = well_typed_item name (d.Function f) e refl
  each_well_typed name (d.Constant c) e = well_typed_item name (d.Constant c) e refl
  each_well_typed name (d.Alias a) e = well_typed_item name (d.Alias a) e refl
  each_well_typed name (d.Struct x) e = well_typed_item name (d.Struct x) e refl
  each_well_typed name (d.Enum x) e = well_typed_item name (d.Enum x) e refl
