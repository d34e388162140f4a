-- What is found outside all instances.
use denote.Ref.{Bor}
use Rattle.std.proofs.Common.{◌≡◌, ◌∙◌, ◌++◌, ◌<◌, ◌+◌, ℕ, zero, suc, Bool, true, false, not, List, [], ◌∷◌, length, take, Option, Some, None, refl, sym, ap, subst, arith, append_assoc, if◌then◌else◌}
use mathlib.Core.Bool.{true≢false}
use Rattle.std.proofs.lemmas.List.{append-nil, map-append}
use Rattle.std.proofs.lemmas.Option.{none-some, same_Some}
use Rattle.base.specs.Lists.Prefix.{IsPrefix}
use Rattle.base.proofs.Lemmas.Lists.Prefixes.{IsPrefix-refl}
use Rattle.dslx_tree.specs.declared.ident.Ident.{Ident}
use Rattle.dslx_tree.specs.declared.item.Definition.{Definition}
use Rattle.dslx_tree.specs.declared.item.Definition.TheVariants as d
use Rattle.dslx_tree.specs.declared.item.Item.{Item}
use Rattle.dslx_tree.specs.declared.item.Module.{Module}
use Rattle.dslx_tree.specs.declared.process.Proc.{Proc}
use Rattle.dslx_meaning.specs.Items.{name_of_definition}
use Rattle.dslx_meaning.specs.Rules.ConstantRules.{is_empty}
use Rattle.dslx_meaning.specs.Rules.ItemRules.{Found, and_found, nothing_found}
use Rattle.dslx_meaning.specs.Rules.ModuleRules.{item_found, items_found, own_instance, own_instances, top_found}
use Rattle.dslx_meaning.specs.Rules.Namesakes.{told_apart}
use Rattle.dslx_meaning.specs.Rules.TypeEnvs.{GlobalEnv, Instance}
use Rattle.dslx_check_rules.specs.Seen.{seen}
use Rattle.dslx_check_rules.specs.Interned.{ItemNames}
use Rattle.dslx_check_facts.specs.declared.instances.InstanceKey.{InstanceKey}
use Rattle.dslx_check_facts.specs.declared.facts.Facts.{Facts}
use Rattle.dslx_check_facts.specs.declared.walk.Walk.{Walk}
use Rattle.dslx_check_facts.specs.Known.{at_place, text_of}
use Rattle.dslx_check_facts.specs.Names.{definition_at, names_of}
use Rattle.dslx_check_facts.specs.Walks.{HasTables, WalkGrows, WalkShown, instance_at, instances_at, shown}
use Rattle.dslx_check_facts.proofs.Lemmas.Walks.{instance_is, tables_trans}
use Rattle.dslx_check_declarations.specs.Tops.{IsProcIf, named_as}
use Rattle.dslx_check_declarations.proofs.Lemmas.Told.{told_at, told_long}
use Rattle.dslx_check_declarations.specs.Work.Settled.{told_item}
use Rattle.dslx_check_declarations.proofs.Lemmas.Work.Firsts.{name_is}
use Rattle.dslx_check_tasks.specs.Laws.{KnownStays}
use Rattle.dslx_check_tasks.specs.declared.work.Reaches.{Reaches}
use Rattle.dslx_check_tasks.specs.declared.work.Work.{Work}
use Rattle.dslx_check.specs.Finds.{AddsItem, AddsOwn, AddsTo, AreNumbersOf, FindsFirst, FindsFirstOwn, FindsItems, FindsOutside, FindsOwn, MeetsInstance}
use Rattle.dslx_check_tasks.specs.Standing.{FindsTop, WorkGoesOn, IsFoundBy, own_globals, text_in}
use Rattle.dslx_check_tasks.proofs.Lemmas.Standing.{same_top, stands_on}

next_is : (n : ℕ) → n + 1 ≡ suc n
next_is n = omega arith

-- ---- what is found of several

pub added : (names : ItemNames) (v : WalkShown) (old more new : Reaches) (a b : Found) → AddsTo old new more → IsFoundBy names v old a → IsFoundBy names v more b → IsFoundBy names v new (and_found a b)
added names v old more new a b adds f g = record {
  faults = adds.faults a.faults b.faults f.faults g.faults;
  reached = λ later t. ap (instances_at names later.met) adds.reached ∙ map-append (instance_at names later.met) old.reached.items more.reached.items ∙ (λ i. f.reached later t i ++ g.reached later t i);
}

pub moved : (names : ItemNames) (v0 v1 : WalkShown) (r : Reaches) (a : Found) → HasTables v0 v1 → IsFoundBy names v0 r a → IsFoundBy names v1 r a
moved names v0 v1 r a tables f = record { faults = f.faults; reached = λ later t. f.reached later (tables_trans v0 v1 later tables t) }

no_more_found : (a : Found) → and_found a nothing_found ≡ a
no_more_found a = λ t. record { faults = append-nil a.faults t; reached = append-nil a.reached t }

found_assoc : (a b c : Found) → and_found (and_found a b) c ≡ and_found a (and_found b c)
found_assoc a b c = λ t. record { faults = append_assoc a.faults b.faults c.faults t; reached = append_assoc a.reached b.reached c.reached t }

-- an item behind others
found_behind : (known : GlobalEnv) (is : List Item) (n : ℕ) (x : Definition) → definition_at is n ≡ Some x → items_found known (take (suc n) is) ≡ and_found (items_found known (take n is)) (item_found known x)
found_behind known [] n x e = absurd (none-some x e)
found_behind known (i ∷ is) zero x e = no_more_found (item_found known i.definition) ∙ ap (item_found known) (same_Some i.definition x e)
found_behind known (i ∷ is) (suc n) x e = ap (and_found (item_found known i.definition)) (found_behind known is n x e) ∙ sym (found_assoc (item_found known i.definition) (items_found known (take n is)) (item_found known x))

-- where no item is there yet
pub none_found : (w : Work) (r : Reaches) → r.faults ≡ seen [] → r.reached.items ≡ [] → FindsFirst 0 w w r
none_found w r faults reached right = record { faults = faults; reached = λ later t. ap (instances_at (names_of (text_in w)) later.met) reached }

-- there is an item of each number
pub item_there : (is : List Item) (n : ℕ) → n < length is → (x : Definition) × (definition_at is n ≡ Some x)
item_there [] n h = absurd (omega (arith, h))
item_there (i ∷ is) zero h = (i.definition, refl)
item_there (i ∷ is) (suc n) h = item_there is n (omega (arith, h))

pub told_there : (text : Module) (n : ℕ) → n < length text.items → (x : Definition) × (told_item text n ≡ Some x)
told_there text n h = item_there (told_apart text).items n (subst (λ k. n < k) (sym (told_long [] text.items)) h)

-- one item more is judged, and what it comes to is added
pub one_found : (a b c : Work) (n : ℕ) (old new : Reaches) → WorkGoesOn a b → WorkGoesOn b c → n < length (text_in a).items → FindsFirst n a b old → AddsItem c n old new → FindsFirst (n + 1) a c new
one_found a b c n old new g h within found adds right =
    let text = text_in a in
    let same : text_in c ≡ text = h.text ∙ g.text in
    let x = told_there text n within in
    let before = moved (names_of text) (shown b.walk) (shown c.walk) old (items_found (own_globals text) (take n (told_apart text).items)) h.tables (found right) in
    let there = adds (h.right (g.right right)) (items_found (own_globals text) (take n (told_apart text).items))
    (subst (λ (t : Module). IsFoundBy (names_of t) (shown c.walk) old (items_found (own_globals text) (take n (told_apart text).items))) (sym same) before)
    x.0 (ap (λ (t : Module). told_item t n) same ∙ x.1) in
    subst (λ (f : Found). IsFoundBy (names_of text) (shown c.walk) new f)
    (sym (ap (λ k. items_found (own_globals text) (take k (told_apart text).items)) (next_is n) ∙ found_behind (own_globals text) (told_apart text).items n x.0 x.1))
    (subst (λ (t : Module). IsFoundBy (names_of t) (shown c.walk) new (and_found (items_found (own_globals text) (take n (told_apart text).items)) (item_found (own_globals t) x.0))) same there)

take_whole : {A : Type 0} (xs : List A) (n : ℕ) → n ≡ length xs → take n xs ≡ xs
take_whole {A} [] n e = ap {B = List A} (λ k. take k []) e
take_whole {A} (x ∷ xs) n e = ap (λ k. take k (x ∷ xs)) e ∙ ap (λ l. x ∷ l) (take_whole xs (length xs) refl)

all_told : (text : Module) (n : ℕ) → n ≡ length text.items → take n (told_apart text).items ≡ (told_apart text).items
all_told text n e = take_whole (told_apart text).items n (e ∙ sym (told_long [] text.items))

pub all_items : (a b : Work) (n : ℕ) (r : Reaches) → n ≡ length (text_in a).items → FindsFirst n a b r → FindsItems a b r
all_items a b n r e found right = subst (λ (is : List Item). IsFoundBy (names_of (text_in a)) (shown b.walk) r (items_found (own_globals (text_in a)) is)) (all_told (text_in a) n e) (found right)

-- what a judged item comes to
pub item_added : (w : Work) (item : ℕ) (old new more : Reaches) → at_place w.items.items item ≡ Some more → AddsTo old new more → AddsItem w item old new
item_added w item old new more at adds right found f x e =
    added (names_of (text_in w)) (shown w.walk) old more new found (item_found (own_globals (text_in w)) x) adds f (right.found.items_are item more at x e)

-- items, and the top
pub outside_added : (a b c : Work) (top : Option Proc) (items of_top all : Reaches) → WorkGoesOn a b → WorkGoesOn b c → FindsItems a b items → FindsTop b c top of_top → AddsTo items all of_top → FindsOutside a c top all
outside_added a b c top items of_top all g h items_are top_is adds right =
    let text = text_in a in
    let first = moved (names_of text) (shown b.walk) (shown c.walk) items (items_found (own_globals text) (told_apart text).items) h.tables (items_are right) in
    let last = subst (λ (t : Module). IsFoundBy (names_of t) (shown c.walk) of_top (top_found (own_globals t) top)) g.text (top_is (g.right right)) in
    added (names_of text) (shown c.walk) items of_top all (items_found (own_globals text) (told_apart text).items) (top_found (own_globals text) top) adds first last

-- the top of a text is that of the same text
pub same_if : (old new : Facts) (o : Option Proc) (t : Option (ℕ × Bor Proc)) → text_of new ≡ text_of old → IsProcIf old o t → IsProcIf new o t
same_if old new None None e h = tt
same_if old new (Some p) (Some q) e h = same_top old new q.0 q.1.now p e h
same_if old new None (Some q) e h = absurd h
same_if old new (Some p) None e h = absurd h

-- ---- the instances of functions and procs without parametrics

own_behind : (is : List Item) (n : ℕ) (x : Definition) → definition_at is n ≡ Some x → own_instances (take (suc n) is) ≡ own_instances (take n is) ++ own_instance x
own_behind [] n x e = absurd (none-some x e)
own_behind (i ∷ is) zero x e = append-nil (own_instance i.definition) ∙ ap own_instance (same_Some i.definition x e)
own_behind (i ∷ is) (suc n) x e = ap (λ l. own_instance i.definition ++ l) (own_behind is n x e) ∙ sym (append_assoc (own_instance i.definition) (own_instances (take n is)) (own_instance x))

pub no_own : (w : Work) (ns : List ℕ) → ns ≡ [] → FindsFirstOwn 0 w w ns
no_own w ns e later t = ap (instances_at (names_of (text_in w)) later.met) e

pub one_own : (a b c : Work) (n : ℕ) (old new : List ℕ) → WorkGoesOn a b → WorkGoesOn b c → n < length (text_in a).items → FindsFirstOwn n a b old → AddsOwn (text_in b) (shown c.walk) n old new → FindsFirstOwn (n + 1) a c new
one_own a b c n old new g h within found adds =
    let text = text_in a in
    let x = told_there text n within in
    let before : AreNumbersOf text (shown c.walk) old (own_instances (take n (told_apart text).items)) = λ later t. found later (tables_trans (shown b.walk) (shown c.walk) later h.tables t) in
    let there : AddsOwn text (shown c.walk) n old new = subst (λ (t : Module). AddsOwn t (shown c.walk) n old new) g.text adds in
    subst (AreNumbersOf text (shown c.walk) new)
    (sym (ap (λ k. own_instances (take k (told_apart text).items)) (next_is n) ∙ own_behind (told_apart text).items n x.0 x.1))
    (there (own_instances (take n (told_apart text).items)) before x.0 x.1)

pub all_own : (a b : Work) (n : ℕ) (ns : List ℕ) → n ≡ length (text_in a).items → FindsFirstOwn n a b ns → FindsOwn a b ns
all_own a b n ns e found = subst (λ (is : List Item). AreNumbersOf (text_in a) (shown b.walk) ns (own_instances is)) (all_told (text_in a) n e) found

abbrev own_if : Bool → List ℕ → List Instance
own_if b name = if b then record { name = name; parametric_args = [] } ∷ [] else []

own_if_some : (b : Bool) (name : List ℕ) → not (is_empty (own_if b name)) ≡ true → own_if b name ≡ record { name = name; parametric_args = [] } ∷ []
own_if_some true name e = refl
own_if_some false name e = absurd (true≢false (sym e))

own_if_alike : (b : Bool) (n m : List ℕ) → is_empty (own_if b n) ≡ is_empty (own_if b m)
own_if_alike true n m = refl
own_if_alike false n m = refl

-- its own instance has the item's name
own_named : (x : Definition) → not (is_empty (own_instance x)) ≡ true → own_instance x ≡ record { name = name_of_definition x; parametric_args = [] } ∷ []
own_named (d.Function f) e = own_if_some (is_empty f.parametrics) f.name.name e
own_named (d.Proc p) e = own_if_some (is_empty p.parametrics) p.name.name e
own_named (d.Constant c) e = absurd (true≢false (sym e))
own_named (d.Alias a) e = absurd (true≢false (sym e))
own_named (d.Struct s) e = absurd (true≢false (sym e))
own_named (d.Enum e') e = absurd (true≢false (sym e))

none_own : (x : Definition) → not (is_empty (own_instance x)) ≡ false → own_instance x ≡ []
none_own x e = by (own_instance x) e
  where
    by : (is : List Instance) → not (is_empty is) ≡ false → is ≡ []
    by [] q = refl
    by (i ∷ is) q = absurd (true≢false q)

-- whether it has one doesn't depend on its name
own_by_kind : (x : Definition) (name : Ident) → is_empty (own_instance (named_as name x)) ≡ is_empty (own_instance x)
own_by_kind (d.Function f) name = own_if_alike (is_empty f.parametrics) name.name f.name.name
own_by_kind (d.Proc p) name = own_if_alike (is_empty p.parametrics) name.name p.name.name
own_by_kind (d.Constant c) name = refl
own_by_kind (d.Alias a) name = refl
own_by_kind (d.Struct s) name = refl
own_by_kind (d.Enum e) name = refl

-- it is the same where items of one name are told apart
told_own : (text : Module) (item : ℕ) (own : Definition) → definition_at text.items item ≡ Some own → (x : Definition) → told_item text item ≡ Some x → is_empty (own_instance x) ≡ is_empty (own_instance own)
told_own text item own at x e =
    let t = told_at [] text.items item own at in
    let same : named_as t.0 own ≡ x = same_Some (named_as t.0 own) x (sym t.2 ∙ e) in
    ap (λ y. is_empty (own_instance y)) (sym same) ∙ own_by_kind own t.0

pub own_added : (text : Module) (before walk : WalkShown) (item : ℕ) (own : Definition) → definition_at text.items item ≡ Some own → (old new : List ℕ) → not (is_empty (own_instance own)) ≡ true → MeetsInstance before walk item old new
    → AddsOwn text walk item old new
own_added text before walk item own at old new has m is are x e = λ later t.
    let one : instance_at (names_of text) later.met m.number ≡ record { name = name_of_definition x; parametric_args = [] } =
    instance_is (names_of text) walk.met later.met m.number (record { item = item; parametric_args = [] }) t.met m.met ∙ (λ i. record { name = name_is text item x e i; parametric_args = [] }) in
    ap (instances_at (names_of text) later.met) m.is
    ∙ map-append (instance_at (names_of text) later.met) old (m.number ∷ [])
    ∙ (λ i. are later t i ++ one i ∷ [])
    ∙ ap (λ l. is ++ l) (sym (own_named x (ap not (told_own text item own at x e) ∙ has)))

pub none_added : (text : Module) (walk : WalkShown) (item : ℕ) (own : Definition) → definition_at text.items item ≡ Some own → (old : List ℕ) → not (is_empty (own_instance own)) ≡ false → AddsOwn text walk item old old
none_added text walk item own at old has is are x e = λ later t. are later t ∙ sym (append-nil is) ∙ ap (λ l. is ++ l) (sym (none_own x (ap not (told_own text item own at x e) ∙ has)))

-- an instance that is met
pub met_grows : (old : WalkShown) (met : List InstanceKey) → IsPrefix old.met met → WalkGrows old (record old { met = met })
met_grows old met p = record {
  tables = record { rows = IsPrefix-refl old.rows; met = p; prefixes = IsPrefix-refl old.prefixes; asked = IsPrefix-refl old.asked };
  items = λ k r at h. at;
  reached = IsPrefix-refl old.reached;
  missing = IsPrefix-refl old.missing;
}

pub met_more : KnownStays → (w : Work) (walk2 : Walk) → WalkGrows (shown w.walk) (shown walk2) → WorkGoesOn w (record w { walk = walk2 })
met_more law w walk2 g = record { text = refl; tables = g.tables; right = λ r. stands_on law w.facts (shown w.walk) (shown walk2) w.items.items w.instances.items g r }
