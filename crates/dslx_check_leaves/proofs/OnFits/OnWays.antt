-- Ways from items to those that they reach, and what is put behind others on them.
use Rattle.std.proofs.Common.{◌≡◌, ◌∙◌, ◌++◌, ℕ, zero, suc, Bool, true, false, List, [], ◌∷◌, ◌<◌, ◌⊎◌, inl, inr, length, get_or, map, Option, Some, None, append_assoc, refl, sym, ap, subst}
use Rattle.std.specs.Prelude.{◌||◌, IfOk, OnOk, Result, Ok, Err, if◌then◌else◌, slice_get, unwrap_or}
use Rattle.std.specs.List.{AllByRecursion, list_any}
use Rattle.std.specs.Option.{option_map}
use Rattle.std.specs.Str.{bytes_eq}
use Rattle.std.proofs.lemmas.Option.{none-some, same_Some, slice_get-get_or}
use Rattle.std.proofs.lemmas.Slice.Eq.{bytes_eq-Decides}
use Rattle.base.specs.TopoOrder.Needs.{Needs, Reaches, needs_of, itself, by_way}
use Rattle.dslx_tree.specs.declared.item.Definition.{Definition}
use Rattle.dslx_tree.specs.declared.item.Definition.TheVariants as d
use Rattle.dslx_tree.specs.declared.item.Item.{Item}
use Rattle.dslx_tree.specs.declared.item.Module.{Module}
use Rattle.dslx_meaning.specs.Items.{item_named, name_of_definition}
use Rattle.dslx_meaning.specs.Lists.{times_in}
use Rattle.dslx_meaning.specs.Rules.Mentions.{Mention, definition_mentions, is_of_use, item_reaches, mentions_of, names_mentioned}
use Rattle.dslx_meaning.specs.Rules.Namesakes.{marked_definition, told_apart, told_apart_behind}
use Rattle.dslx_meaning.specs.Rules.TypeEnvs.{GlobalEnv}
use Rattle.dslx_core.proofs.Lemmas.Typing.Laws.Reaching.{reaches_mentioned, reaches_on}
use Rattle.dslx_check_items.specs.Items.{definition_of, item_number}
use Rattle.dslx_check_items.specs.Reaching.{definition_needs, item_needs, number_and, numbers_named}
use Rattle.dslx_check_rules.specs.Interned.{AreDistinct}
use Rattle.dslx_check_facts.specs.Known.{FactsHold, item_names, text_of}
use Rattle.dslx_check_facts.specs.Names.{definition_at, name_at, name_or, names_of}
use Rattle.dslx_check_facts.specs.Walks.{WalkShown}
use Rattle.dslx_check_facts.specs.declared.facts.Facts.{Facts}
use Rattle.dslx_check_facts.proofs.Lemmas.Firsts.{stands_first}
use Rattle.dslx_check_leaves.specs.Fits.Ways.{PutsBehind}

-- ---- what is put behind others

append_nil : {A : Type 0} (ys : List A) → ys ++ [] ≡ ys
append_nil [] = refl
append_nil (y ∷ ys) = ap (λ zs. y ∷ zs) (append_nil ys)

all_join : (P : ℕ → Type 0) (xs ys : List ℕ) → AllByRecursion P xs → AllByRecursion P ys → AllByRecursion P (xs ++ ys)
all_join P [] ys h k = k
all_join P (x ∷ xs) ys h k = (h.0, all_join P xs ys h.1 k)

all_weaker : (P Q : ℕ → Type 0) (xs : List ℕ) → ((x : ℕ) → P x → Q x) → AllByRecursion P xs → AllByRecursion Q xs
all_weaker P Q [] w h = tt
all_weaker P Q (x ∷ xs) w h = (w x h.0, all_weaker P Q xs w h.1)

pub puts_nothing : (P : ℕ → Type 0) (xs : List ℕ) → PutsBehind P xs xs
puts_nothing P xs = record { more = []; is = sym (append_nil xs); each = tt }

pub puts_one : (P : ℕ → Type 0) (xs ys : List ℕ) (x : ℕ) → ys ≡ xs ++ x ∷ [] → P x → PutsBehind P xs ys
puts_one P xs ys x e h = record { more = x ∷ []; is = e; each = (h, tt) }

pub puts_on : (P Q : ℕ → Type 0) (xs ys zs : List ℕ) → ((x : ℕ) → Q x → P x) → PutsBehind P xs ys → PutsBehind Q ys zs → PutsBehind P xs zs
puts_on P Q xs ys zs w a b = record {
  more = a.more ++ b.more;
  is = b.is ∙ ap (λ l. l ++ b.more) a.is ∙ append_assoc xs a.more b.more;
  each = all_join P a.more b.more a.each (all_weaker Q P b.more w b.each);
}

-- all of them are so
pub all_put : (P Q : ℕ → Type 0) (xs ys : List ℕ) → AllByRecursion P xs → ((x : ℕ) → Q x → P x) → PutsBehind Q xs ys → AllByRecursion P ys
all_put P Q xs ys h w a = subst (AllByRecursion P) (sym a.is) (all_join P xs a.more h (all_weaker Q P a.more w a.each))

all_at : (P : ℕ → Type 0) (xs : List ℕ) (k x : ℕ) → AllByRecursion P xs → slice_get xs k ≡ Some x → P x
all_at P [] k x h e = absurd (none-some x e)
all_at P (y ∷ ys) zero x h e = subst P (same_Some y x e) h.0
all_at P (y ∷ ys) (suc k) x h e = all_at P ys k x h.1 e

-- what a thing needs is put behind others
pub stands_at : (own : List ℕ) (i d y : ℕ) → i < length own → y ≡ get_or own i d → (k : ℕ) × (slice_get own k ≡ Some y)
stands_at own i d y h e = (i, slice_get-get_or own i d h ∙ ap Some (sym e))

pub needs_own : (needs : List (List ℕ)) (i : ℕ) (own : List ℕ) → slice_get needs i ≡ Some own → (x : ℕ) → (k : ℕ) × (slice_get own k ≡ Some x) → Needs needs i x
needs_own needs i own e x h = (h.0, ap (λ (o : Option (List ℕ)). slice_get (unwrap_or o []) h.0) e ∙ h.1)

pub puts_weaker : (P Q : ℕ → Type 0) (xs ys : List ℕ) → ((x : ℕ) → P x → Q x) → PutsBehind P xs ys → PutsBehind Q xs ys
puts_weaker P Q xs ys w a = record { more = a.more; is = a.is; each = all_weaker P Q a.more w a.each }

pub found_own : {E : Type 0} (r : Result Bool E) (needs : List (List ℕ)) (i : ℕ) (own : List ℕ) (to : ℕ) → slice_get needs i ≡ Some own → IfOk r (λ b. b ≡ true → (k : ℕ) × (slice_get own k ≡ Some to))
    → IfOk r (λ b. b ≡ true → Needs needs i to)
found_own (Ok b) needs i own to at h = λ e. needs_own needs i own at to (h e)
found_own (Err x) needs i own to at h = tt

pub puts_own : {E : Type 0} (r : Result Bool E) (needs : List (List ℕ)) (i : ℕ) (own xs ys : List ℕ) → slice_get needs i ≡ Some own → OnOk r (PutsBehind (λ x. (k : ℕ) × (slice_get own k ≡ Some x)) xs ys)
    → OnOk r (PutsBehind (Needs needs i) xs ys)
puts_own (Ok b) needs i own xs ys at h = puts_weaker (λ x. (k : ℕ) × (slice_get own k ≡ Some x)) (Needs needs i) xs ys (needs_own needs i own at) h
puts_own (Err x) needs i own xs ys at h = tt

-- what stands in a slice of them
pub held : (slice queue : List ℕ) (k x : ℕ) → slice ≡ queue → slice_get slice k ≡ Some x → slice_get queue k ≡ Some x
held slice queue k x e at = subst (λ (l : List ℕ). slice_get l k ≡ Some x) e at

-- the things met on ways from one
abbrev pub IsMet : List (List ℕ) → ℕ → ℕ → Type 0
IsMet needs from x = (x ≡ from) ⊎ Reaches needs from x

reaches_then : (needs : List (List ℕ)) (i k j : ℕ) → Reaches needs i k → Needs needs k j → Reaches needs i j
reaches_then needs i k j (itself _ _ need) m = by_way i k j need (itself k j m)
reaches_then needs i k j (by_way _ x _ need on) m = by_way i x j need (reaches_then needs x k j on m)

pub way_on : (needs : List (List ℕ)) (from item j : ℕ) → IsMet needs from item → Needs needs item j → Reaches needs from j
way_on needs from item j (inl e) m = subst (λ (i : ℕ). Reaches needs i j) e (itself item j m)
way_on needs from item j (inr way) m = reaches_then needs from item j way m

pub met_first : (needs : List (List ℕ)) (from : ℕ) (queue : List ℕ) → queue ≡ from ∷ [] → AllByRecursion (IsMet needs from) queue
met_first needs from queue e = subst (AllByRecursion (IsMet needs from)) (sym e) (inl refl, tt)

pub met_at : (needs : List (List ℕ)) (from : ℕ) (queue : List ℕ) (k item : ℕ) → AllByRecursion (IsMet needs from) queue → slice_get queue k ≡ Some item → IsMet needs from item
met_at needs from queue k item h e = all_at (IsMet needs from) queue k item h e

pub met_on : (needs : List (List ℕ)) (from item : ℕ) (old new : List ℕ) → AllByRecursion (IsMet needs from) old → IsMet needs from item → PutsBehind (Needs needs item) old new → AllByRecursion (IsMet needs from) new
met_on needs from item old new h met a = all_put (IsMet needs from) (Needs needs item) old new h (λ x need. inr (way_on needs from item x met need)) a

-- ---- ways by names

-- what an item mentions doesn't depend on its name
unmarked_mentions : (n : ℕ) (x : Definition) → definition_mentions (marked_definition n x) ≡ definition_mentions x
unmarked_mentions n (d.Function f) = refl
unmarked_mentions n (d.Proc p) = refl
unmarked_mentions n (d.Constant c) = refl
unmarked_mentions n (d.Alias a) = refl
unmarked_mentions n (d.Struct s) = refl
unmarked_mentions n (d.Enum e) = refl

pub record StandsMarked (before : List (List ℕ)) (is : List Item) (i : ℕ) (x : Definition) : Type 0 where
  pub marks : ℕ
  pub at : definition_at (told_apart_behind before is) i ≡ Some (marked_definition marks x)

stands_marked : (before : List (List ℕ)) (is : List Item) (i : ℕ) (x : Definition) → definition_at is i ≡ Some x → StandsMarked before is i x
stands_marked before [] i x e = absurd (none-some x e)
stands_marked before (y ∷ is) zero x e = record {
  marks = times_in (name_of_definition y.definition) before;
  at = ap (λ z. Some (marked_definition (times_in (name_of_definition y.definition) before) z)) (same_Some y.definition x e);
}
stands_marked before (y ∷ is) (suc i) x e = let q = stands_marked (name_of_definition y.definition ∷ before) is i x e in record { marks = q.marks; at = q.at }

-- the item of a number is the one that its name means, where no two have one name
numbered : (is : List Item) (i : ℕ) (x : Definition) → definition_at is i ≡ Some x → (k : ℕ) × (item_number (name_of_definition x) is ≡ Some k)
numbered [] i x e = absurd (none-some x e)
numbered (y ∷ is) zero x e =
    (0, ap (λ b. if b then Some 0 else option_map suc (item_number (name_of_definition x) is)) ((bytes_eq-Decides (name_of_definition x) (name_of_definition y.definition)).1 (ap name_of_definition (sym (same_Some y.definition x e)))))
numbered (y ∷ is) (suc i) x e = by (bytes_eq (name_of_definition x) (name_of_definition y.definition)) (numbered is i x e)
  where
    by : (b : Bool) → (k : ℕ) × (item_number (name_of_definition x) is ≡ Some k) → (k : ℕ) × ((if b then Some 0 else option_map suc (item_number (name_of_definition x) is)) ≡ Some k)
    by true h = (0, refl)
    by false h = (suc h.0, ap (option_map suc) h.1)

named_is : (m : Module) → AreDistinct (names_of m) → (i : ℕ) (x : Definition) → definition_at (told_apart m).items i ≡ Some x → item_named (name_at (told_apart m).items i) (told_apart m).items ≡ Some x
named_is m distinct i x e =
    let items : List Item = (told_apart m).items in
    let called : name_at items i ≡ name_of_definition x = ap (name_or i) e in
    let q = numbered items i x e in
    let first = stands_first (name_of_definition x) [] items q.0 refl q.1 in
    let one : q.0 ≡ i = distinct q.0 i (ap (name_or q.0) first.plain ∙ first.called ∙ sym called) in
    ap (λ n. item_named n items) called ∙ first.named ∙ sym first.plain ∙ ap (definition_at items) one ∙ e

-- a mention that means the item of this number
in_front : (b : Bool) (c : Bool) → c ≡ true → (b || c) ≡ true
in_front true c e = refl
in_front false c e = e

found_among : (m : Module) → AreDistinct (names_of m) → (ns : List Mention) (k j : ℕ) → slice_get (numbers_named m.items (names_mentioned m ns)) k ≡ Some j
    → list_any (bytes_eq (name_at (told_apart m).items j)) (names_mentioned (told_apart m) ns) ≡ true
found_among m distinct [] k j e = absurd (none-some j e)
found_among m distinct (n ∷ ns) k j e = by (λ l. found_among m distinct ns l j) (is_of_use n.use_as (item_named n.name m.items)) refl e
  where
    b : List ℕ
    b = name_at (told_apart m).items j

    IsRest : Type 0
    IsRest = (l : ℕ) → slice_get (numbers_named m.items (names_mentioned m ns)) l ≡ Some j → list_any (bytes_eq b) (names_mentioned (told_apart m) ns) ≡ true

    later : IsRest → (c : Bool) (l : ℕ) → slice_get (numbers_named m.items (names_mentioned m ns)) l ≡ Some j → list_any (bytes_eq b) (if c then n.name ∷ names_mentioned (told_apart m) ns else names_mentioned (told_apart m) ns) ≡ true
    later on true l e = in_front (bytes_eq b n.name) (list_any (bytes_eq b) (names_mentioned (told_apart m) ns)) (on l e)
    later on false l e = on l e

    here : item_number n.name m.items ≡ Some j → is_of_use n.use_as (item_named n.name m.items) ≡ true
        → list_any (bytes_eq b) (if is_of_use n.use_as (item_named n.name (told_apart m).items) then n.name ∷ names_mentioned (told_apart m) ns else names_mentioned (told_apart m) ns) ≡ true
    here at used =
        let first = stands_first n.name [] m.items j refl at in
        let called : b ≡ n.name = ap (name_or j) first.at ∙ first.called in
        let same : item_named n.name (told_apart m).items ≡ item_named n.name m.items = ap (λ x. item_named x (told_apart m).items) (sym called) ∙ named_is m distinct j first.definition first.at ∙ sym first.named in
        ap (λ c. list_any (bytes_eq b) (if c then n.name ∷ names_mentioned (told_apart m) ns else names_mentioned (told_apart m) ns)) (ap (is_of_use n.use_as) same ∙ used)
        ∙ ap (λ c. c || list_any (bytes_eq b) (names_mentioned (told_apart m) ns)) ((bytes_eq-Decides b n.name).1 called)

    placed : IsRest → (o : Option ℕ) (l : ℕ) → item_number n.name m.items ≡ o → is_of_use n.use_as (item_named n.name m.items) ≡ true → slice_get (number_and o (numbers_named m.items (names_mentioned m ns))) l ≡ Some j
        → list_any (bytes_eq b) (if is_of_use n.use_as (item_named n.name (told_apart m).items) then n.name ∷ names_mentioned (told_apart m) ns else names_mentioned (told_apart m) ns) ≡ true
    placed on None l q used e = later on (is_of_use n.use_as (item_named n.name (told_apart m).items)) l e
    placed on (Some i) zero q used e = here (q ∙ e) used
    placed on (Some i) (suc l) q used e = later on (is_of_use n.use_as (item_named n.name (told_apart m).items)) l e

    by : IsRest → (c : Bool) → is_of_use n.use_as (item_named n.name m.items) ≡ c → slice_get (numbers_named m.items (if c then n.name ∷ names_mentioned m ns else names_mentioned m ns)) k ≡ Some j
        → list_any (bytes_eq b) (if is_of_use n.use_as (item_named n.name (told_apart m).items) then n.name ∷ names_mentioned (told_apart m) ns else names_mentioned (told_apart m) ns) ≡ true
    by on true used e = placed on (item_number n.name m.items) k refl used e
    by on false used e = later on (is_of_use n.use_as (item_named n.name (told_apart m).items)) k e

-- one step
needs_at : (m : Module) (is : List Item) (i : ℕ) (k j : ℕ) → slice_get (needs_of (map (definition_needs m) (map definition_of is)) i) k ≡ Some j
    → (x : Definition) × (definition_at is i ≡ Some x) × (slice_get (definition_needs m x) k ≡ Some j)
needs_at m [] i k j e = absurd (none-some j e)
needs_at m (y ∷ is) zero k j e = (y.definition, refl, e)
needs_at m (y ∷ is) (suc i) k j e = needs_at m is i k j e

step_named : (m : Module) → AreDistinct (names_of m) → (i j : ℕ) → Needs (item_needs m) i j → item_reaches (told_apart m) (name_at (told_apart m).items i) (name_at (told_apart m).items j) ≡ true
step_named m distinct i j need =
    let q = needs_at m m.items i need.0 j need.1 in
    let at = stands_marked [] m.items i q.0 q.1 in
    let a : List ℕ = name_at (told_apart m).items i in
    let b : List ℕ = name_at (told_apart m).items j in
    reaches_mentioned (told_apart m) a b
    (ap (λ o. list_any (bytes_eq b) (mentions_of (told_apart m) o)) (named_is m distinct i (marked_definition at.marks q.0) at.at)
    ∙ ap (λ ns. list_any (bytes_eq b) (names_mentioned (told_apart m) ns)) (unmarked_mentions at.marks q.0)
    ∙ found_among m distinct (definition_mentions q.0) need.0 j q.2)

way_named : (m : Module) → AreDistinct (names_of m) → (i j : ℕ) → Reaches (item_needs m) i j → item_reaches (told_apart m) (name_at (told_apart m).items i) (name_at (told_apart m).items j) ≡ true
way_named m distinct i j (itself _ _ need) = step_named m distinct i j need
way_named m distinct i j (by_way _ k _ need on) =
    reaches_on (told_apart m) (name_at (told_apart m).items i) (name_at (told_apart m).items k) (name_at (told_apart m).items j) (step_named m distinct i k need) (way_named m distinct k j on)

pub way_known : (f : Facts) (i j : ℕ) → Reaches f.reaching.needs.items i j → (known : GlobalEnv) (later : WalkShown) → FactsHold f later known → item_reaches known.whole ((item_names f).item i) ((item_names f).item j) ≡ true
way_known f i j way known later agrees =
    ap (λ m. item_reaches m ((item_names f).item i) ((item_names f).item j)) agrees.whole
    ∙ way_named (text_of f) agrees.distinct i j (subst (λ (needs : List (List ℕ)). Reaches needs i j) agrees.needs way)
