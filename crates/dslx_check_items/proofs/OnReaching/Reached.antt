-- The items that an item's text mentions, by number.
use Rattle.std.proofs.Common.{◌≡◌, ◌<◌, ◌≤◌, ◌+◌, ℕ, zero, suc, Bool, true, false, if◌then◌else◌, List, [], ◌∷◌, ◌++◌, Option, Some, None, length, map, take, drop, get_or, refl, sym, ap, ◌∙◌, subst, arith}
use Rattle.std.specs.Prelude.{◌==◌, slice_get, unwrap_or, flat_map, MatchBool}
use Rattle.std.proofs.lemmas.Bool.{eqb-true, eq-eqb}
use Rattle.std.proofs.lemmas.List.{append_assoc, append-nil, length-map}
use Rattle.base.specs.TopoOrder.Needs.{AreClosed, AreGroups, AreMutual}
use Rattle.dslx_tree.specs.declared.item.Definition.{Definition}
use Rattle.dslx_tree.specs.declared.item.Item.{Item}
use Rattle.dslx_tree.specs.declared.item.Module.{Module}
use Rattle.dslx_meaning.specs.Items.{item_named}
use Rattle.dslx_meaning.specs.Rules.Mentions.{Use, AsValue, AsPattern, AsType, AsFunction, AsProc, AsEnum, AsStruct, Mention, is_of_use, mentions_of, names_mentioned}
use Rattle.dslx_check_items.specs.Items.{definition_of, item_number}
use Rattle.dslx_check_items.specs.Reaching.{definition_needs, item_needs, number_and, numbers_named}
use Rattle.dslx_check_items.specs.Inner.Targets.{targets_of}
use Rattle.dslx_check_items.proofs.OnItems.Numbered.{numbered}
use Rattle.dslx_check_items.proofs.OnMentions.Bounds.{at_item}

pub none_of_use : (u : Use) → is_of_use u None ≡ false
none_of_use AsValue = refl
none_of_use AsPattern = refl
none_of_use AsType = refl
none_of_use AsFunction = refl
none_of_use AsProc = refl
none_of_use AsEnum = refl
none_of_use AsStruct = refl

-- ---- what is pushed, one mention after another

number_first : (o : Option ℕ) (numbers : List ℕ) → number_and o numbers ≡ number_and o [] ++ numbers
number_first None numbers = refl
number_first (Some n) numbers = refl

pub targets_are : (m : Module) (ms : List Mention) → flat_map (targets_of m) ms ≡ numbers_named m.items (names_mentioned m ms)
targets_are m [] = refl
targets_are m (n ∷ ns) = by (is_of_use n.use_as (item_named n.name m.items)) (targets_are m ns)
  where
    by : (b : Bool) → flat_map (targets_of m) ns ≡ numbers_named m.items (names_mentioned m ns)
        → number_and (if b then item_number n.name m.items else None) [] ++ flat_map (targets_of m) ns
        ≡ numbers_named m.items (if b then n.name ∷ names_mentioned m ns else names_mentioned m ns)
    by true e = ap (λ (numbers : List ℕ). number_and (item_number n.name m.items) [] ++ numbers) e ∙ sym (number_first (item_number n.name m.items) (numbers_named m.items (names_mentioned m ns)))
    by false e = e

pub pushed : {X : Type 0} (f : X → List ℕ) (xs : List X) (i : ℕ) (x : X) (old new all : List ℕ) → i < length xs → x ≡ get_or xs i x
    → old ++ flat_map f (drop i xs) ≡ all → new ≡ old ++ f x → new ++ flat_map f (drop (i + 1) xs) ≡ all
pushed f xs i x old new all inside is so on =
    ap (λ (numbers : List ℕ). numbers ++ flat_map f (drop (i + 1) xs)) on ∙ append_assoc old (f x) (flat_map f (drop (i + 1) xs))
    ∙ ap (λ ys. old ++ flat_map f ys) (sym (at_item xs i x inside is)) ∙ so

pub all_pushed : {X : Type 0} (f : X → List ℕ) (xs : List X) (i : ℕ) (old : List ℕ) → length xs ≤ i → old ++ flat_map f (drop i xs) ≡ flat_map f xs → old ≡ flat_map f xs
all_pushed f xs i old past so = sym (append-nil old) ∙ ap (λ ys. old ++ flat_map f ys) (sym (none_behind xs i past)) ∙ so
  where
    none_behind : {X : Type 0} (ys : List X) (k : ℕ) → length ys ≤ k → drop k ys ≡ []
    none_behind [] zero h = refl
    none_behind [] (suc k) h = refl
    none_behind (y ∷ ys) zero h = absurd (omega arith)
    none_behind (y ∷ ys) (suc k) h = none_behind ys k (omega (arith, h))

pub flat_of_map : {X Y : Type 0} (f : Y → List ℕ) (g : X → Y) (xs : List X) → flat_map (λ x. f (g x)) xs ≡ flat_map f (map g xs)
flat_of_map f g [] = refl
flat_of_map f g (x ∷ xs) = ap (λ (ns : List ℕ). f (g x) ++ ns) (flat_of_map f g xs)

-- ---- one item after another

one_more : {X Y : Type 0} (f : X → Y) (xs : List X) (i : ℕ) (x : X) → slice_get xs i ≡ Some x → map f (take (i + 1) xs) ≡ map f (take i xs) ++ f x ∷ []
one_more f [] i x h = cc
one_more f (y ∷ xs) zero x h = let same : y ≡ x = cc in let one : 0 + 1 ≡ suc 0 = omega arith in ap (λ (n : ℕ). map f (take n (y ∷ xs))) one ∙ ap (λ z. f z ∷ []) same
one_more f (y ∷ xs) (suc i) x h =
    let next : suc i + 1 ≡ suc (i + 1) = omega arith in
    ap (λ (n : ℕ). map f (take n (y ∷ xs))) next ∙ ap (λ zs. f y ∷ zs) (one_more f xs i x h)

pub one_after : {X : Type 0} (f : X → List ℕ) (xs : List X) (i : ℕ) (x : X) (old new : List (List ℕ)) (y : List ℕ)
    → slice_get xs i ≡ Some x → old ≡ map f (take i xs) → y ≡ f x → new ≡ old ++ y ∷ [] → new ≡ map f (take (i + 1) xs)
one_after f xs i x old new y at so is on =
    on ∙ ap (λ (os : List (List ℕ)). os ++ y ∷ []) so ∙ ap (λ (z : List ℕ). map f (take i xs) ++ z ∷ []) is ∙ sym (one_more f xs i x at)

pub taken_all : {X : Type 0} (xs : List X) (i : ℕ) → length xs ≤ i → take i xs ≡ xs
taken_all [] zero h = refl
taken_all [] (suc i) h = refl
taken_all (x ∷ xs) zero h = absurd (omega arith)
taken_all (x ∷ xs) (suc i) h = ap (λ ys. x ∷ ys) (taken_all xs i (omega (arith, h)))

-- ---- what is mentioned is among the items

named_inside : (items : List Item) (names : List (List ℕ)) (k j : ℕ) → slice_get (numbers_named items names) k ≡ Some j → j < length items
named_inside items [] k j h = cc
named_inside items (name ∷ names) k j h = by (item_number name items) (λ i e. (numbered name items i e).inside) (λ l at. named_inside items names l j at) k h
  where
    by : (o : Option ℕ) → ((i : ℕ) → o ≡ Some i → i < length items) → ((l : ℕ) → slice_get (numbers_named items names) l ≡ Some j → j < length items)
        → (k : ℕ) → slice_get (number_and o (numbers_named items names)) k ≡ Some j → j < length items
    by None here more k at = more k at
    by (Some i) here more zero at = let same : i ≡ j = cc in subst (λ m. m < length items) same (here i refl)
    by (Some i) here more (suc k) at = more k at

needs_inside : (m : Module) (xs : List Definition) (i k j : ℕ) → slice_get (unwrap_or (slice_get (map (definition_needs m) xs) i) []) k ≡ Some j → j < length m.items
needs_inside m [] i k j h = cc
needs_inside m (x ∷ xs) zero k j h = named_inside m.items (mentions_of m (Some x)) k j h
needs_inside m (x ∷ xs) (suc i) k j h = needs_inside m xs i k j h

pub as_many : (m : Module) → length (item_needs m) ≡ length m.items
as_many m = length-map (map definition_of m.items) (definition_needs m) ∙ length-map m.items definition_of

pub needs_closed : (m : Module) → AreClosed (item_needs m)
needs_closed m i j (k, at) = rw (as_many m) (needs_inside m (map definition_of m.items) i k j at)

-- ---- answers

pub by_groups : (needs : List (List ℕ)) (groups : List ℕ) (i j g h : ℕ) (b : Bool) → AreGroups needs groups → slice_get groups i ≡ Some g → slice_get groups j ≡ Some h → b ≡ (g == h)
    → MatchBool b (AreMutual needs i j) (¬ (AreMutual needs i j))
by_groups needs groups i j g h b are x y e = by b (sym e)
  where
    by : (b : Bool) → (g == h) ≡ b → MatchBool b (AreMutual needs i j) (¬ (AreMutual needs i j))
    by true is = are.only i j g x (y ∙ ap Some (sym (eqb-true g h is)))
    by false is = λ m. let wrong : true ≡ false = sym (eq-eqb g h (are.one i j g h x y m)) ∙ is in absurd (cc)
