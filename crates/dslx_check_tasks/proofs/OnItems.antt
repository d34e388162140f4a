-- An item that was walked over, and missed nothing, is told.
use Rattle.std.proofs.Common.{◌≡◌, ◌∙◌, ℕ, Bool, true, false, List, [], length, drop, Option, Some, sym, ap, subst}
use Rattle.std.specs.Prelude.{MatchBool}
use Rattle.dslx_tree.specs.declared.item.Definition.{Definition}
use Rattle.dslx_tree.specs.declared.item.Definition.TheVariants as d
use Rattle.dslx_tree.specs.declared.item.Module.{Module}
use Rattle.dslx_meaning.specs.Items.{name_of_definition}
use Rattle.dslx_meaning.specs.Rules.ModuleRules.{item_found}
use Rattle.dslx_check_facts.specs.declared.facts.Facts.{Facts}
use Rattle.dslx_check_facts.specs.declared.walk.Walk.{Walk}
use Rattle.dslx_check_facts.specs.Known.{FactsHold, is_judged, item_at, item_names, text_of}
use Rattle.dslx_check_facts.specs.Names.{definition_at}
use Rattle.dslx_check_facts.specs.Walks.{HasTables, WalkShown, instances_at, shown}
use Rattle.dslx_check_facts.proofs.Lemmas.Walks.{tables_trans}
use Rattle.dslx_check_declarations.specs.Tops.{named_as}
use Rattle.dslx_check_declarations.specs.declared.items.ItemSeen.{ItemSeen}
use Rattle.dslx_check_declarations.proofs.Lemmas.Told.{told_at}
use Rattle.dslx_check_judge.specs.Items.Judged.{FindsAs, JudgesItem, MayLearn, is_learnt}
use Rattle.dslx_check_declarations.specs.Work.Comes.{ItemComesTo}
use Rattle.dslx_check_declarations.specs.Work.Learnt.{LearnsItem, PutsThere}
use Rattle.dslx_check_declarations.specs.Work.Tables.{KnowsBy}
use Rattle.dslx_check_tasks.specs.Laws.{ItemIsKnown, ItemIsThere, KnownHolds, KnownStays}
use Rattle.dslx_check_tasks.specs.declared.work.Reaches.{Reaches}
use Rattle.dslx_check_tasks.specs.declared.work.Work.{Work}
use Rattle.dslx_check_tasks.specs.Standing.{AreFound, WorkGoesOn, IsItemFound, IsSettledText, Stands, own_globals}
use Rattle.dslx_check_tasks.specs.Told.{TellsItem}
use Rattle.dslx_check_tasks.proofs.Lemmas.Standing.{begun, by_put, found_stays, stands_begun, tables_begun}

-- an item that is learnt is called as the text calls it
may_learn : (f : Facts) (item : ℕ) (is_first : Bool) (own : Definition) → (is_first ≡ true → (item_names f).item item ≡ name_of_definition own) → is_learnt is_first own ≡ true → MayLearn f item is_first own
may_learn f item is_first (d.Alias a) called e = tt
may_learn f item is_first (d.Struct s) called e = tt
may_learn f item is_first (d.Enum x) called e = (e, called e)
may_learn f item is_first (d.Constant c) called e = tt
may_learn f item is_first (d.Function o) called e = tt
may_learn f item is_first (d.Proc p) called e = tt

module _ (holds : KnownHolds) (f : Facts) (v1 v2 : WalkShown) (item : ℕ) (is_first : Bool) (own : Definition) (j : ItemSeen) (known : KnowsBy f v1 (own_globals (text_of f)))
    (judges : JudgesItem f v1 v2 item is_first own j) (none : v2.missing ≡ []) (fresh : is_judged f item ≡ false) (own_at : definition_at (text_of f).items item ≡ Some own) where
  later_holds : (later : WalkShown) → HasTables v2 later → FactsHold f later (own_globals (text_of f))
  later_holds later t = holds f v1 later (own_globals (text_of f)) known (tables_trans v1 v2 later judges.grows.tables t)

  finds : (x : Definition) → item_at f item ≡ Some x → FindsAs f v1 v2 j.faults (item_found (own_globals (text_of f)) x)
  finds x at = judges.finds (own_globals (text_of f)) later_holds known.rows none x own_at at (known.fresh item fresh)

  found_here : v1.reached ≡ [] → (is : Reaches) → is.faults ≡ j.faults → is.reached.items ≡ v2.reached → IsItemFound (text_of f) v2 item is
  found_here nothing is faults reached = λ x at. record {
    faults = faults ∙ (finds x at).faults_are;
    reached = λ later t. ap (instances_at (item_names f) later.met) (reached ∙ ap (λ (l : List ℕ). drop (length l) v2.reached) (sym nothing)) ∙ (finds x at).reaches later t;
  }

  comes : (is_first ≡ true → (item_names f).item item ≡ name_of_definition own) → is_learnt is_first own ≡ true → (x : Definition) → item_at f item ≡ Some x → ItemComesTo f v2 (own_globals (text_of f)) x j
  comes called learns x at = judges.comes (own_globals (text_of f)) later_holds known.rows none x own_at at (known.fresh item fresh) (may_learn f item is_first own called learns)

  -- the item where those of one name are told apart
  there : (x : Definition) × (item_at f item ≡ Some x)
  there = let t = told_at [] (text_of f).items item own own_at in (named_as t.0 own, t.2)

  known_now : ItemIsKnown → ItemIsThere → IsSettledText (text_of f) → (is_first ≡ true → (item_names f).item item ≡ name_of_definition own) → is_learnt is_first own ≡ true
      → (new : Facts) → LearnsItem f new item j → KnowsBy new v2 (own_globals (text_of f))
  known_now is_known is_there settled called learns new l =
      is_known f new v1 v2 (own_globals (text_of f)) item j known judges.grows l
      (is_there f v2 (own_globals (text_of f)) item there.0 j known.text settled.items there.1 (comes called learns there.0 there.1))

-- it is the same text
same_text : (old new : Facts) (item : ℕ) (j : ItemSeen) → LearnsItem old new item j → text_of new ≡ text_of old
same_text old new item j l = ap text_of l.notes.rest ∙ ap text_of l.puts.rest

-- what is so of a text is so of the same text
pub stands_for : (old new : Facts) (v : WalkShown) (items instances : List (Option Reaches)) → text_of new ≡ text_of old → IsSettledText (text_of old) → KnowsBy new v (own_globals (text_of old))
    → AreFound (text_of old) v items instances → Stands new v items instances
stands_for old new v items instances e settled known found = record {
  settled = subst IsSettledText (sym e) settled;
  knows = subst (λ (t : Module). KnowsBy new v (own_globals t)) (sym e) known;
  found = subst (λ (t : Module). AreFound t v items instances) (sym e) found;
}

put_found : (text : Module) (v : WalkShown) (items new instances : List (Option Reaches)) (item : ℕ) (is : Reaches) → PutsThere items new item is → AreFound text v items instances → IsItemFound text v item is
    → AreFound text v new instances
put_found text v items new instances item is put f here = record {
  items_are = λ i r e. by_put (IsItemFound text v) put here i r (f.items_are i r) e;
  instances_are = f.instances_are;
}

module _ (holds : KnownHolds) (stays : KnownStays) (is_known : ItemIsKnown) (is_there : ItemIsThere) (f : Facts) (v1 v2 : WalkShown) (item : ℕ) (is_first : Bool) (own : Definition) (j : ItemSeen)
    (judges : JudgesItem f v1 v2 item is_first own j) (nothing : v1.reached ≡ []) (none : v2.missing ≡ []) (fresh : is_judged f item ≡ false) (own_at : definition_at (text_of f).items item ≡ Some own)
    (called : is_first ≡ true → (item_names f).item item ≡ name_of_definition own) (items instances : List (Option Reaches)) (s : Stands f v1 items instances) (is : Reaches) (new_items : List (Option Reaches))
    (faults : is.faults ≡ j.faults) (reached : is.reached.items ≡ v2.reached) (put : PutsThere items new_items item is) where
  found_now : AreFound (text_of f) v2 new_items instances
  found_now = put_found (text_of f) v2 items new_items instances item is put (found_stays (text_of f) v1 v2 items instances judges.grows.tables s.found)
      (found_here holds f v1 v2 item is_first own j s.knows judges none fresh own_at nothing is faults reached)

  pub told : (learns : Bool) → learns ≡ is_learnt is_first own → (new : Facts) → MatchBool learns (LearnsItem f new item j) (new ≡ f) → Stands new v2 new_items instances
  told true e new l =
      stands_for f new v2 new_items instances (same_text f new item j l) s.settled
      (known_now holds f v1 v2 item is_first own j s.knows judges none fresh own_at is_known is_there s.settled called (sym e) new l) found_now
  told false e new l = subst (λ (g : Facts). Stands g v2 new_items instances) (sym l)
      (record { settled = s.settled; knows = stays f v1 v2 (own_globals (text_of f)) (judges.only_found (sym e)) s.knows; found = found_now })

-- an item that was walked over from where a walk began, and is told
pub item_goes : KnownHolds → KnownStays → ItemIsKnown → ItemIsThere → (w new : Work) (walk1 walk2 : Walk) (item : ℕ) (is_first : Bool) (own : Definition) (j : ItemSeen) → shown walk1 ≡ begun (shown w.walk)
    → JudgesItem w.facts (shown walk1) (shown walk2) item is_first own j → (shown walk2).missing ≡ [] → is_judged w.facts item ≡ false → definition_at (text_of w.facts).items item ≡ Some own
    → (is_first ≡ true → (item_names w.facts).item item ≡ name_of_definition own) → (learns : Bool) → learns ≡ is_learnt is_first own → TellsItem (record w { walk = walk2 }) new item learns j → WorkGoesOn w new
item_goes holds stays is_known is_there w new walk1 walk2 item is_first own j e judges none fresh own_at called learns learns_is tells = record {
  text = text_is learns tells.learnt;
  tables = subst (λ (x : Work). HasTables (shown w.walk) (shown x.walk)) (sym tells.rest) (tables_begun (shown w.walk) (shown walk1) (shown walk2) e judges.grows.tables);
  right = λ r. subst (λ (x : Work). Stands x.facts (shown x.walk) x.items.items x.instances.items) (sym tells.rest)
      (told holds stays is_known is_there w.facts (shown walk1) (shown walk2) item is_first own j judges (ap (λ (v : WalkShown). v.reached) e) none fresh own_at called w.items.items w.instances.items
      (stands_begun w.facts (shown w.walk) (shown walk1) w.items.items w.instances.items e r) tells.is new.items.items tells.faults tells.reached tells.put learns learns_is new.facts tells.learnt);
}
  where
    text_is : (b : Bool) → MatchBool b (LearnsItem w.facts new.facts item j) (new.facts ≡ w.facts) → text_of new.facts ≡ text_of w.facts
    text_is true l = same_text w.facts new.facts item j l
    text_is false l = ap text_of l
