-- Where no item reaches itself, no chain of items each of which mentions the next is longer than the list of items.
use Rattle.std.proofs.Common.{◌≡◌, ◌+◌, ◌⊎◌, inl, inr, ◌&&◌, ◌||◌, ℕ, zero, suc, Bool, true, false, if◌then◌else◌, List, [], ◌∷◌, map, length, Option, Some, None, refl, sym, ap, subst, ◌∙◌, arith}
use mathlib.Core.Bool.{true≢false}
use Rattle.std.specs.Str.{bytes_eq}
use Rattle.std.specs.List.{list_any}
use Rattle.std.proofs.lemmas.Slice.Eq.{bytes_eq-Decides}
use Rattle.std.proofs.lemmas.List.{length-map}
use Rattle.dslx_tree.specs.declared.item.Module.{Module}
use Rattle.dslx_tree.specs.declared.item.Item.{Item}
use Rattle.dslx_tree.specs.declared.item.Definition.{Definition}
use Rattle.dslx_meaning.specs.Items.{item_named, name_of_definition}
use Rattle.dslx_meaning.specs.Rules.Mentions.{Use, AsValue, AsPattern, AsType, AsFunction, AsProc, AsEnum, AsStruct, Mention, is_of_use, names_mentioned, mentions_of, reaches_within, item_reaches, is_cyclic, definition_mentions}
use Rattle.dslx_core.specs.Typing.Laws.Recursion.{HasNoCycle}

-- ---- tests of lists

pub or_first : (p q : Bool) → p ≡ true → (p || q) ≡ true
or_first p q e = ap (λ t. t || q) e

pub or_second : (p q : Bool) → q ≡ true → (p || q) ≡ true
or_second true q e = refl
or_second false q e = e

pub or_cases : {X : Type 0} (p q : Bool) → (p || q) ≡ true → (p ≡ true → X) → (q ≡ true → X) → X
or_cases true q e f g = f refl
or_cases false q e f g = g e

-- what one test says another says
pub any_weaker : {X : Type 0} (f g : X → Bool) (xs : List X) → ((x : X) → f x ≡ true → g x ≡ true) → list_any f xs ≡ true → list_any g xs ≡ true
any_weaker f g [] h e = e
any_weaker f g (x ∷ xs) h e = or_cases (f x) (list_any f xs) e (λ q. or_first (g x) (list_any g xs) (h x q)) (λ q. or_second (g x) (list_any g xs) (any_weaker f g xs h q))

pub same_name : (x y : List ℕ) → bytes_eq x y ≡ true → x ≡ y
same_name x y e = (bytes_eq-Decides x y).0 e

pub itself : (x : List ℕ) → bytes_eq x x ≡ true
itself x = (bytes_eq-Decides x x).1 refl

turned : (x y : List ℕ) → bytes_eq x y ≡ true → bytes_eq y x ≡ true
turned x y e = subst (λ z. bytes_eq z x ≡ true) (same_name x y e) (itself x)

-- the name is one of these
abbrev pub IsIn : List ℕ → List (List ℕ) → Type 0
IsIn x xs = list_any (bytes_eq x) xs ≡ true

-- it holds of each of these names
abbrev pub OfEach : (List ℕ → Type 0) → List (List ℕ) → Type 0
OfEach P [] = Unit {0}
OfEach P (x ∷ xs) = P x × OfEach P xs

pub of_each : (P : List ℕ → Type 0) (xs : List (List ℕ)) → ((x : List ℕ) → IsIn x xs → P x) → OfEach P xs
of_each P [] h = tt
of_each P (x ∷ xs) h = (h x (or_first (bytes_eq x x) (list_any (bytes_eq x) xs) (itself x)), of_each P xs (λ y q. h y (or_second (bytes_eq y x) (list_any (bytes_eq y) xs) q)))

-- what one test says of each of these names another says
pub any_of_each : (f g : List ℕ → Bool) (xs : List (List ℕ)) → ((x : List ℕ) → IsIn x xs → f x ≡ true → g x ≡ true) → list_any f xs ≡ true → list_any g xs ≡ true
any_of_each f g [] h e = e
any_of_each f g (x ∷ xs) h e =
    or_cases (f x) (list_any f xs) e (λ q. or_first (g x) (list_any g xs) (h x (or_first (bytes_eq x x) (list_any (bytes_eq x) xs) (itself x)) q))
    (λ q. or_second (g x) (list_any g xs) (any_of_each f g xs (λ y there. h y (or_second (bytes_eq y x) (list_any (bytes_eq y) xs) there)) q))

-- ---- items

abbrev pub item_names : List Item → List (List ℕ)
item_names is = map (λ (i : Item). name_of_definition i.definition) is

-- an item has this name
abbrev pub IsItem : Module → List ℕ → Type 0
IsItem m name = IsIn name (item_names m.items)

pub item_listed : (is : List Item) (name : List ℕ) (u : Use) → is_of_use u (item_named name is) ≡ true → IsIn name (item_names is)
item_listed [] name AsValue e = absurd (true≢false (sym e))
item_listed [] name AsPattern e = absurd (true≢false (sym e))
item_listed [] name AsType e = absurd (true≢false (sym e))
item_listed [] name AsFunction e = absurd (true≢false (sym e))
item_listed [] name AsProc e = absurd (true≢false (sym e))
item_listed [] name AsEnum e = absurd (true≢false (sym e))
item_listed [] name AsStruct e = absurd (true≢false (sym e))
item_listed (i ∷ is) name u e = pick (bytes_eq name (name_of_definition i.definition)) e (item_listed is name u)
  where
    pick : (t : Bool) → is_of_use u (if t then Some i.definition else item_named name is) ≡ true → (is_of_use u (item_named name is) ≡ true → IsIn name (item_names is))
        → (t || list_any (bytes_eq name) (item_names is)) ≡ true
    pick true e rest = refl
    pick false e rest = rest e

denoted_is_item : (m : Module) (ms : List Mention) (name : List ℕ) → IsIn name (names_mentioned m ms) → IsItem m name
denoted_is_item m [] name e = absurd (true≢false (sym e))
denoted_is_item m (n ∷ ns) name e = pick (is_of_use n.use_as (item_named n.name m.items)) refl e (denoted_is_item m ns name)
  where
    pick : (t : Bool) → is_of_use n.use_as (item_named n.name m.items) ≡ t → IsIn name (if t then n.name ∷ names_mentioned m ns else names_mentioned m ns)
        → (IsIn name (names_mentioned m ns) → IsItem m name) → IsItem m name
    pick true q e rest =
        or_cases (bytes_eq name n.name) (list_any (bytes_eq name) (names_mentioned m ns)) e
        (λ s. subst (λ z. IsItem m z) (sym (same_name name n.name s)) (item_listed m.items n.name n.use_as q)) rest
    pick false q e rest = rest e

pub mentioned_is_item : (m : Module) (d : Option Definition) (name : List ℕ) → IsIn name (mentions_of m d) → IsItem m name
mentioned_is_item m None name e = absurd (true≢false (sym e))
mentioned_is_item m (Some d) name e = denoted_is_item m (definition_mentions d) name e

-- ---- reaching

-- the first mentions the second
abbrev MentionsItem : Module → List ℕ → List ℕ → Type 0
MentionsItem m a b = IsIn b (mentions_of m (item_named a m.items))

reaches_more : (m : Module) (n : ℕ) (a b : List ℕ) → reaches_within m n a b ≡ true → reaches_within m (suc n) a b ≡ true
reaches_more m zero a b e = absurd (true≢false (sym e))
reaches_more m (suc n) a b e =
    any_weaker (λ next. bytes_eq next b || reaches_within m n next b) (λ next. bytes_eq next b || reaches_within m (suc n) next b) (mentions_of m (item_named a m.items))
    (λ x q. or_cases (bytes_eq x b) (reaches_within m n x b) q (or_first (bytes_eq x b) (reaches_within m (suc n) x b)) (λ s. or_second (bytes_eq x b) (reaches_within m (suc n) x b) (reaches_more m n x b s))) e

pub reaches_up : (m : Module) (k n : ℕ) (a b : List ℕ) → reaches_within m n a b ≡ true → reaches_within m (k + n) a b ≡ true
reaches_up m zero n a b e = let q : zero + n ≡ n = omega arith in subst (λ j. reaches_within m j a b ≡ true) (sym q) e
reaches_up m (suc k) n a b e = let q : suc k + n ≡ suc (k + n) = omega arith in subst (λ j. reaches_within m j a b ≡ true) (sym q) (reaches_more m (k + n) a b (reaches_up m k n a b e))

-- what is mentioned is reached
pub reaches_next : (m : Module) (n : ℕ) (a b : List ℕ) → MentionsItem m a b → reaches_within m (suc n) a b ≡ true
reaches_next m n a b e =
    any_weaker (bytes_eq b) (λ next. bytes_eq next b || reaches_within m n next b) (mentions_of m (item_named a m.items)) (λ x q. or_first (bytes_eq x b) (reaches_within m n x b) (turned b x q)) e

-- what it mentions, from all that reach it
reaches_then : (m : Module) (n : ℕ) (a b c : List ℕ) → reaches_within m n a b ≡ true → MentionsItem m b c → reaches_within m (suc n) a c ≡ true
reaches_then m zero a b c e h = absurd (true≢false (sym e))
reaches_then m (suc n) a b c e h =
    any_weaker (λ next. bytes_eq next b || reaches_within m n next b) (λ next. bytes_eq next c || reaches_within m (suc n) next c) (mentions_of m (item_named a m.items))
    (λ x q. or_cases (bytes_eq x b) (reaches_within m n x b) q
    (λ s. or_second (bytes_eq x c) (reaches_within m (suc n) x c) (reaches_next m n x c (subst (λ z. MentionsItem m z c) (sym (same_name x b s)) h)))
    (λ s. or_second (bytes_eq x c) (reaches_within m (suc n) x c) (reaches_then m n x b c s h))) e

-- nothing reaches itself
never_itself : (m : Module) → HasNoCycle m → (n k : ℕ) (a : List ℕ) → k + n ≡ length m.items → reaches_within m n a a ≡ true → ⊥
never_itself m free zero k a s e = true≢false (sym e)
never_itself m free (suc n) k a s e =
    true≢false (sym (any_of_each (λ next. bytes_eq next a || reaches_within m n next a) (is_cyclic m a) (mentions_of m (item_named a m.items))
    (λ x there q. or_cases (bytes_eq x a) (reaches_within m n x a) q (or_first (bytes_eq x a) (item_reaches m x a && item_reaches m a x))
    (λ r. or_second (bytes_eq x a) (item_reaches m x a && item_reaches m a x) (λ i. up x r i && down x there i))) e) ∙ free a)
  where
    down : (x : List ℕ) → MentionsItem m a x → item_reaches m a x ≡ true
    down x there = let q : suc (k + n) ≡ length m.items = omega (arith, s) in subst (λ j. reaches_within m j a x ≡ true) q (reaches_next m (k + n) a x there)

    up : (x : List ℕ) → reaches_within m n x a ≡ true → item_reaches m x a ≡ true
    up x r = let q : suc k + n ≡ length m.items = omega arith in subst (λ j. reaches_within m j x a ≡ true) q (reaches_up m (suc k) n x a r)

pub never_loops : (m : Module) → HasNoCycle m → (a : List ℕ) → item_reaches m a a ≡ false
never_loops m free a = by_test (item_reaches m a a) refl
  where
    by_test : (t : Bool) → item_reaches m a a ≡ t → item_reaches m a a ≡ false
    by_test true q = absurd (never_itself m free (length m.items) zero a (omega arith) q)
    by_test false q = q

-- ---- chains

-- no chain from this item has more than so many items
abbrev pub Ends : Module → ℕ → List ℕ → Type 0
Ends m zero name = ⊥
Ends m (suc k) name = OfEach (Ends m k) (mentions_of m (item_named name m.items))

-- each of these reaches it
abbrev AllReach : Module → List (List ℕ) → ℕ → List ℕ → Type 0
AllReach m [] n name = Unit {0}
AllReach m (v ∷ vs) n name = (reaches_within m n v name ≡ true) × AllReach m vs n name

all_reach_then : (m : Module) (vs : List (List ℕ)) (n : ℕ) (name next : List ℕ) → AllReach m vs n name → MentionsItem m name next → AllReach m vs (suc n) next
all_reach_then m [] n name next h e = tt
all_reach_then m (v ∷ vs) n name next h e = (reaches_then m n v name next h.0 e, all_reach_then m vs n name next h.1 e)

-- it is none of those that reach it
not_among : (m : Module) → HasNoCycle m → (vs : List (List ℕ)) (n k : ℕ) (name : List ℕ) → k + n ≡ length m.items → AllReach m vs n name → IsIn name vs → ⊥
not_among m free [] n k name s h e = true≢false (sym e)
not_among m free (v ∷ vs) n k name s h e =
    or_cases (bytes_eq name v) (list_any (bytes_eq name) vs) e
    (λ q. never_itself m free n k name s (subst (λ z. reaches_within m n z name ≡ true) (sym (same_name name v q)) h.0)) (not_among m free vs n k name s h.1)

-- the names without the first that is this one
abbrev pub without : List ℕ → List (List ℕ) → List (List ℕ)
without name [] = []
without name (n ∷ ns) = if bytes_eq name n then ns else n ∷ without name ns

pub one_fewer : (name : List ℕ) (ns : List (List ℕ)) → IsIn name ns → suc (length (without name ns)) ≡ length ns
one_fewer name [] e = absurd (true≢false (sym e))
one_fewer name (n ∷ ns) e = pick (bytes_eq name n) e (one_fewer name ns)
  where
    pick : (t : Bool) → (t || list_any (bytes_eq name) ns) ≡ true → (IsIn name ns → suc (length (without name ns)) ≡ length ns)
        → suc (length (if t then ns else n ∷ without name ns)) ≡ suc (length ns)
    pick true e rest = refl
    pick false e rest = ap suc (rest e)

others_stay : (name z : List ℕ) (ns : List (List ℕ)) → bytes_eq z name ≡ false → IsIn z ns → IsIn z (without name ns)
others_stay name z [] q e = e
others_stay name z (n ∷ ns) q e = pick (bytes_eq name n) refl (others_stay name z ns q)
  where
    pick : (t : Bool) → bytes_eq name n ≡ t → (IsIn z ns → IsIn z (without name ns)) → list_any (bytes_eq z) (if t then ns else n ∷ without name ns) ≡ true
    pick true s rest =
        or_cases (bytes_eq z n) (list_any (bytes_eq z) ns) e
        (λ r. absurd (true≢false (sym (subst (λ x. bytes_eq z x ≡ true) (sym (same_name name n s)) r) ∙ q))) (λ r. r)
    pick false s rest =
        or_cases (bytes_eq z n) (list_any (bytes_eq z) ns) e (or_first (bytes_eq z n) (list_any (bytes_eq z) (without name ns))) (λ r. or_second (bytes_eq z n) (list_any (bytes_eq z) (without name ns)) (rest r))

pub cover_moves : (name z : List ℕ) (trail left : List (List ℕ)) → IsIn z trail ⊎ IsIn z left → IsIn z (name ∷ trail) ⊎ IsIn z (without name left)
cover_moves name z trail left (inl e) = inl (or_second (bytes_eq z name) (list_any (bytes_eq z) trail) e)
cover_moves name z trail left (inr e) = pick (bytes_eq z name) refl
  where
    pick : (t : Bool) → bytes_eq z name ≡ t → IsIn z (name ∷ trail) ⊎ IsIn z (without name left)
    pick true q = inl (or_first (bytes_eq z name) (list_any (bytes_eq z) trail) q)
    pick false q = inr (others_stay name z left q e)

-- an item, those on the way to it, and those that are left
chain_ends : (m : Module) → HasNoCycle m → (k : ℕ) (trail left : List (List ℕ)) (name : List ℕ) → length left ≡ k → k + length trail ≡ length m.items
    → ((z : List ℕ) → IsItem m z → IsIn z trail ⊎ IsIn z left) → AllReach m trail (length trail) name → IsItem m name → Ends m k name
chain_ends m free zero trail left name c s cover h item = elim (cover name item) [
  | inl e ↦ absurd (not_among m free trail (length trail) zero name s h e)
  | inr e ↦ (let q : suc (length (without name left)) ≡ zero = one_fewer name left e ∙ c in absurd (omega (arith, q)))
]
chain_ends m free (suc k) trail left name c s cover h item = elim (cover name item) [
  | inl e ↦ absurd (not_among m free trail (length trail) (suc k) name s h e)
  | inr e ↦ of_each (Ends m k) (mentions_of m (item_named name m.items)) (λ next q. chain_ends m free k (name ∷ trail) (without name left) next
      (let f : suc (length (without name left)) ≡ suc k = one_fewer name left e ∙ c in omega (arith, f))
      (let f : suc k + length trail ≡ length m.items = s in omega (arith, f))
      (λ z i. cover_moves name z trail left (cover z i))
      (reaches_next m (length trail) name next q, all_reach_then m trail (length trail) name next h q)
      (mentioned_is_item m (item_named name m.items) next q))
]

-- no chain from an item is longer than the list of items
pub item_ends : (m : Module) → HasNoCycle m → (name : List ℕ) (u : Use) → is_of_use u (item_named name m.items) ≡ true → Ends m (length m.items) name
item_ends m free name u e =
    let names = length-map m.items (λ (i : Item). name_of_definition i.definition) in
    chain_ends m free (length m.items) [] (item_names m.items) name names (omega arith) (λ z i. inr i) tt (item_listed m.items name u e)
