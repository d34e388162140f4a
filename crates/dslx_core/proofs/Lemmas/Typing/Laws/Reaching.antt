-- Reaching takes no more mentions than there are items, so that it goes on, and each item has a rank.
use Rattle.std.proofs.Common.{◌≡◌, ◌≤◌, ◌+◌, ◌⊎◌, inl, inr, ◌&&◌, ◌||◌, ℕ, zero, suc, Bool, true, false, not, if◌then◌else◌, List, [], ◌∷◌, length, Option, Some, None, refl, sym, ap, subst, ◌∙◌, arith}
use mathlib.Core.Bool.{true≢false}
use Rattle.std.specs.Str.{bytes_eq}
use Rattle.std.specs.List.{list_any}
use Rattle.std.proofs.lemmas.List.{length-map}
use Rattle.dslx_tree.specs.declared.item.Module.{Module}
use Rattle.dslx_tree.specs.declared.item.Item.{Item}
use Rattle.dslx_tree.specs.declared.item.Definition.{Definition}
use Rattle.dslx_meaning.specs.Items.{item_named, name_of_definition}
use Rattle.dslx_meaning.specs.Rules.Mentions.{mentions_of, reaches_within, item_reaches}
use Rattle.dslx_core.specs.Typing.Laws.Ranks.{Ranked, is_above}
use Rattle.dslx_core.proofs.Lemmas.Typing.Laws.Chains.{IsIn, IsItem, cover_moves, item_names, itself, mentioned_is_item, one_fewer, or_cases, or_first, or_second, reaches_next, reaches_up, same_name, without}

-- ---- tests of lists

pub any_elim : {X : Type 0} (f : List ℕ → Bool) (xs : List (List ℕ)) → list_any f xs ≡ true → ((x : List ℕ) → IsIn x xs → f x ≡ true → X) → X
any_elim f [] e h = absurd (true≢false (sym e))
any_elim f (x ∷ xs) e h =
    or_cases (f x) (list_any f xs) e (h x (or_first (bytes_eq x x) (list_any (bytes_eq x) xs) (itself x)))
    (λ q. any_elim f xs q (λ y i. h y (or_second (bytes_eq y x) (list_any (bytes_eq y) xs) i)))

any_in : (f g : List ℕ → Bool) (xs : List (List ℕ)) → ((x : List ℕ) → IsIn x xs → f x ≡ true → g x ≡ true) → list_any f xs ≡ true → list_any g xs ≡ true
any_in f g [] h e = e
any_in f g (x ∷ xs) h e =
    or_cases (f x) (list_any f xs) e (λ q. or_first (g x) (list_any g xs) (h x (or_first (bytes_eq x x) (list_any (bytes_eq x) xs) (itself x)) q))
    (λ q. or_second (g x) (list_any g xs) (any_in f g xs (λ y i. h y (or_second (bytes_eq y x) (list_any (bytes_eq y) xs) i)) q))

none_of_both : (p q : Bool) → (p || q) ≡ false → (p ≡ false) × (q ≡ false)
none_of_both true q e = absurd (true≢false e)
none_of_both false q e = (refl, e)

pub both_of : (p q : Bool) → (p && q) ≡ true → (p ≡ true) × (q ≡ true)
both_of true q e = (refl, e)
both_of false q e = absurd (true≢false (sym e))

-- ---- what is reached

-- is an item
pub reached_is_item : (m : Module) (n : ℕ) (a b : List ℕ) → reaches_within m n a b ≡ true → IsItem m b
reached_is_item m zero a b e = absurd (true≢false (sym e))
reached_is_item m (suc n) a b e =
    any_elim (λ next. bytes_eq next b || reaches_within m n next b) (mentions_of m (item_named a m.items)) e
    (λ x i q. or_cases (bytes_eq x b) (reaches_within m n x b) q (λ s. subst (λ z. IsItem m z) (same_name x b s) (mentioned_is_item m (item_named a m.items) x i)) (reached_is_item m n x b))

reaches_join : (m : Module) (n k : ℕ) (a b c : List ℕ) → reaches_within m n a b ≡ true → reaches_within m k b c ≡ true → reaches_within m (n + k) a c ≡ true
reaches_join m zero k a b c e f = absurd (true≢false (sym e))
reaches_join m (suc n) k a b c e f =
    let more : suc n + k ≡ suc (n + k) = omega arith in
    subst (λ j. reaches_within m j a c ≡ true) (sym more)
    (any_in (λ next. bytes_eq next b || reaches_within m n next b) (λ next. bytes_eq next c || reaches_within m (n + k) next c) (mentions_of m (item_named a m.items))
    (λ x i q. or_second (bytes_eq x c) (reaches_within m (n + k) x c)
    (or_cases (bytes_eq x b) (reaches_within m n x b) q (λ s. reaches_up m n k x c (subst (λ z. reaches_within m k z c ≡ true) (sym (same_name x b s)) f)) (λ s. reaches_join m n k x b c s f))) e)

-- ---- where one mention more reaches nothing new

-- so it is from each item
abbrev Stable : Module → List ℕ → ℕ → Type 0
Stable m b n = (x : List ℕ) → IsItem m x → reaches_within m (suc n) x b ≡ true → reaches_within m n x b ≡ true

stable_next : (m : Module) (b : List ℕ) (n : ℕ) → Stable m b n → Stable m b (suc n)
stable_next m b n h x i e =
    any_in (λ next. bytes_eq next b || reaches_within m (suc n) next b) (λ next. bytes_eq next b || reaches_within m n next b) (mentions_of m (item_named x m.items))
    (λ y r q. or_cases (bytes_eq y b) (reaches_within m (suc n) y b) q (or_first (bytes_eq y b) (reaches_within m n y b))
    (λ s. or_second (bytes_eq y b) (reaches_within m n y b) (h y (mentioned_is_item m (item_named x m.items) y r) s))) e

-- by so many more
goes_down : (m : Module) (b : List ℕ) (n k : ℕ) → Stable m b n → (x : List ℕ) → IsItem m x → reaches_within m (k + n) x b ≡ true → reaches_within m n x b ≡ true
goes_down m b n zero h x i e = let q : zero + n ≡ n = omega arith in subst (λ j. reaches_within m j x b ≡ true) q e
goes_down m b n (suc k) h x i e =
    let q : suc k + n ≡ k + suc n = omega arith in
    h x i (goes_down m b (suc n) k (stable_next m b n h) x i (subst (λ j. reaches_within m j x b ≡ true) q e))

-- ---- how many reach it

-- how many of these names pass the test
abbrev count : (List ℕ → Bool) → List (List ℕ) → ℕ
count f [] = 0
count f (x ∷ xs) = if f x then suc (count f xs) else count f xs

count_most : (f : List ℕ → Bool) (xs : List (List ℕ)) → count f xs ≤ length xs
count_most f [] = omega arith
count_most f (x ∷ xs) = by_test (f x) (count_most f xs)
  where
    by_test : (t : Bool) → count f xs ≤ length xs → (if t then suc (count f xs) else count f xs) ≤ suc (length xs)
    by_test true h = omega (arith, h)
    by_test false h = omega (arith, h)

-- where as many pass as there are, all do
count_all : (f : List ℕ → Bool) (xs : List (List ℕ)) → length xs ≤ count f xs → (x : List ℕ) → IsIn x xs → f x ≡ true
count_all f [] h x i = absurd (true≢false (sym i))
count_all f (y ∷ ys) h x i = by_test (f y) refl h (λ more. count_all f ys more x)
  where
    by_test : (t : Bool) → f y ≡ t → suc (length ys) ≤ (if t then suc (count f ys) else count f ys) → (length ys ≤ count f ys → IsIn x ys → f x ≡ true) → f x ≡ true
    by_test true e g rest = or_cases (bytes_eq x y) (list_any (bytes_eq x) ys) i (λ s. ap f (same_name x y s) ∙ e) (rest (omega (arith, g)))
    by_test false e g rest = let most = count_most f ys in absurd (omega (arith, g, most))

-- a test that passes more
count_more : (f g : List ℕ → Bool) (xs : List (List ℕ)) → ((x : List ℕ) → f x ≡ true → g x ≡ true) → count f xs ≤ count g xs
count_more f g [] h = omega arith
count_more f g (x ∷ xs) h = by_tests (f x) (g x) refl refl (count_more f g xs h)
  where
    by_tests : (s t : Bool) → f x ≡ s → g x ≡ t → count f xs ≤ count g xs → (if s then suc (count f xs) else count f xs) ≤ (if t then suc (count g xs) else count g xs)
    by_tests true true p q k = omega (arith, k)
    by_tests true false p q k = absurd (true≢false (sym (h x p) ∙ q))
    by_tests false true p q k = omega (arith, k)
    by_tests false false p q k = k

count_new : (f g : List ℕ → Bool) (xs : List (List ℕ)) → ((x : List ℕ) → f x ≡ true → g x ≡ true) → (x : List ℕ) → IsIn x xs → g x ≡ true → f x ≡ false → suc (count f xs) ≤ count g xs
count_new f g [] h x i p q = absurd (true≢false (sym i))
count_new f g (y ∷ ys) h x i p q = by_tests (f y) (g y) refl refl (λ r. count_new f g ys h x r p q)
  where
    at_first : (s t : Bool) → f y ≡ s → g y ≡ t → bytes_eq x y ≡ true → suc (if s then suc (count f ys) else count f ys) ≤ (if t then suc (count g ys) else count g ys)
    at_first true t u v e = absurd (true≢false (sym u ∙ ap f (sym (same_name x y e)) ∙ q))
    at_first false true u v e = let k = count_more f g ys h in omega (arith, k)
    at_first false false u v e = absurd (true≢false (sym p ∙ ap g (same_name x y e) ∙ v))

    at_others : (s t : Bool) → f y ≡ s → g y ≡ t → suc (count f ys) ≤ count g ys → suc (if s then suc (count f ys) else count f ys) ≤ (if t then suc (count g ys) else count g ys)
    at_others true true u v k = omega (arith, k)
    at_others true false u v k = absurd (true≢false (sym (h y u) ∙ v))
    at_others false true u v k = omega (arith, k)
    at_others false false u v k = k

    by_tests : (s t : Bool) → f y ≡ s → g y ≡ t → (IsIn x ys → suc (count f ys) ≤ count g ys) → suc (if s then suc (count f ys) else count f ys) ≤ (if t then suc (count g ys) else count g ys)
    by_tests s t u v rest = or_cases (bytes_eq x y) (list_any (bytes_eq x) ys) i (at_first s t u v) (λ r. at_others s t u v (rest r))

-- some name passes the second test alone, or none does
record IsNew (f g : List ℕ → Bool) (xs : List (List ℕ)) : Type 0 where
  name : List ℕ
  among : IsIn name xs
  passes : g name ≡ true
  fails : f name ≡ false

new_or_none : (f g : List ℕ → Bool) (xs : List (List ℕ)) → IsNew f g xs ⊎ ((x : List ℕ) → IsIn x xs → g x ≡ true → f x ≡ true)
new_or_none f g [] = inr (λ x i p. absurd (true≢false (sym i)))
new_or_none f g (y ∷ ys) = by_tests (f y) (g y) refl refl (new_or_none f g ys)
  where
    later : IsNew f g ys → IsNew f g (y ∷ ys)
    later n = record { name = n.name; among = or_second (bytes_eq n.name y) (list_any (bytes_eq n.name) ys) n.among; passes = n.passes; fails = n.fails }

    by_rest : (g y ≡ true → f y ≡ true) → IsNew f g ys ⊎ ((x : List ℕ) → IsIn x ys → g x ≡ true → f x ≡ true) → IsNew f g (y ∷ ys) ⊎ ((x : List ℕ) → IsIn x (y ∷ ys) → g x ≡ true → f x ≡ true)
    by_rest own (inl n) = inl (later n)
    by_rest own (inr h) = inr (λ x i p. or_cases (bytes_eq x y) (list_any (bytes_eq x) ys) i (λ s. ap f (same_name x y s) ∙ own (ap g (sym (same_name x y s)) ∙ p)) (λ r. h x r p))

    by_tests : (s t : Bool) → f y ≡ s → g y ≡ t → IsNew f g ys ⊎ ((x : List ℕ) → IsIn x ys → g x ≡ true → f x ≡ true) → IsNew f g (y ∷ ys) ⊎ ((x : List ℕ) → IsIn x (y ∷ ys) → g x ≡ true → f x ≡ true)
    by_tests true t u v rest = by_rest (λ p. u) rest
    by_tests false true u v rest = inl (record { name = y; among = or_first (bytes_eq y y) (list_any (bytes_eq y) ys) (itself y); passes = v; fails = u })
    by_tests false false u v rest = by_rest (λ p. absurd (true≢false (sym p ∙ v))) rest

-- ---- as many mentions as there are items

abbrev reach : Module → List ℕ → ℕ → List ℕ → Bool
reach m b n x = reaches_within m n x b

one_up : (m : Module) (b : List ℕ) (n : ℕ) (x : List ℕ) → reach m b n x ≡ true → reach m b (suc n) x ≡ true
one_up m b n x e = let q : suc zero + n ≡ suc n = omega arith in subst (λ j. reaches_within m j x b ≡ true) q (reaches_up m (suc zero) n x b e)

-- so many items reach it by so many mentions, or one mention more reaches nothing new
growing : (m : Module) (b : List ℕ) (n : ℕ) → (n ≤ count (reach m b n) (item_names m.items)) ⊎ Stable m b n
growing m b zero = inl (omega arith)
growing m b (suc n) = elim (growing m b n) [
  | inl c ↦ elim (new_or_none (reach m b n) (reach m b (suc n)) (item_names m.items)) [
    | inl w ↦ (let more = count_new (reach m b n) (reach m b (suc n)) (item_names m.items) (one_up m b n) w.name w.among w.passes w.fails in inl (omega (arith, c, more)))
    | inr h ↦ inr (stable_next m b n h)
  ]
  | inr h ↦ inr (stable_next m b n h)
]

stable_there : (m : Module) (b : List ℕ) → Stable m b (length m.items)
stable_there m b = elim (growing m b (length m.items)) [
  | inl c ↦ (let many = length-map m.items (λ (i : Item). name_of_definition i.definition) in λ x i e. count_all (reach m b (length m.items)) (item_names m.items) (omega (arith, c, many)) x i)
  | inr h ↦ h
]

-- a name that no item has
no_item_named : (is : List Item) (name : List ℕ) → list_any (bytes_eq name) (item_names is) ≡ false → item_named name is ≡ None
no_item_named [] name e = refl
no_item_named (i ∷ is) name e =
    let q = none_of_both (bytes_eq name (name_of_definition i.definition)) (list_any (bytes_eq name) (item_names is)) e in
    (λ j. if q.0 j then Some i.definition else item_named name is) ∙ no_item_named is name q.1

-- what is reached at all is reached by as many mentions as there are items
pub reaches_bounded : (m : Module) (k : ℕ) (a b : List ℕ) → reaches_within m k a b ≡ true → item_reaches m a b ≡ true
reaches_bounded m k a b e = by_item (list_any (bytes_eq a) (item_names m.items)) refl
  where
    n : ℕ
    n = length m.items

    no_mention : (j : ℕ) → item_named a m.items ≡ None → reaches_within m j a b ≡ true → item_reaches m a b ≡ true
    no_mention zero q f = absurd (true≢false (sym f))
    no_mention (suc j) q f = absurd (true≢false (sym ((λ t. list_any (λ next. bytes_eq next b || reaches_within m j next b) (mentions_of m (sym q t))) ∙ f)))

    by_item : (t : Bool) → list_any (bytes_eq a) (item_names m.items) ≡ t → item_reaches m a b ≡ true
    by_item true i = let q : n + k ≡ k + n = omega arith in goes_down m b n k (stable_there m b) a i (subst (λ j. reaches_within m j a b ≡ true) q (reaches_up m n k a b e))
    by_item false i = no_mention k (no_item_named m.items a i) e

-- what is mentioned is reached
pub reaches_mentioned : (m : Module) (a b : List ℕ) → IsIn b (mentions_of m (item_named a m.items)) → item_reaches m a b ≡ true
reaches_mentioned m a b e = reaches_bounded m (suc zero) a b (reaches_next m zero a b e)

-- reaching goes on
pub reaches_on : (m : Module) (a b c : List ℕ) → item_reaches m a b ≡ true → item_reaches m b c ≡ true → item_reaches m a c ≡ true
reaches_on m a b c e f = reaches_bounded m (length m.items + length m.items) a c (reaches_join m (length m.items) (length m.items) a b c e f)

-- ---- ranks

pub above_on : (m : Module) (a b c : List ℕ) → is_above m a b ≡ true → is_above m b c ≡ true → is_above m a c ≡ true
above_on m a b c e f =
    let q = both_of (item_reaches m b c) (not (item_reaches m c b)) f in
    λ i. reaches_on m a b c p.0 q.0 i && not_back (item_reaches m c a) refl q.1 i
  where
    p : (item_reaches m a b ≡ true) × (not (item_reaches m b a) ≡ true)
    p = both_of (item_reaches m a b) (not (item_reaches m b a)) e

    not_back : (t : Bool) → item_reaches m c a ≡ t → not (item_reaches m c b) ≡ true → not t ≡ true
    not_back true g h = absurd (true≢false (sym h ∙ ap not (reaches_on m c a b g p.0)))
    not_back false g h = refl

never_above_itself : (m : Module) (a : List ℕ) → is_above m a a ≡ true → ⊥
never_above_itself m a e = by_test (item_reaches m a a) e
  where
    by_test : (t : Bool) → (t && not t) ≡ true → ⊥
    by_test true q = true≢false (sym q)
    by_test false q = true≢false (sym q)

-- each of these is above it
abbrev AllAbove : Module → List (List ℕ) → List ℕ → Type 0
AllAbove m [] name = Unit {0}
AllAbove m (v ∷ vs) name = (is_above m v name ≡ true) × AllAbove m vs name

all_above_on : (m : Module) (vs : List (List ℕ)) (name below : List ℕ) → AllAbove m vs name → is_above m name below ≡ true → AllAbove m vs below
all_above_on m [] name below h e = tt
all_above_on m (v ∷ vs) name below h e = (above_on m v name below h.0 e, all_above_on m vs name below h.1 e)

not_among_above : (m : Module) (vs : List (List ℕ)) (name : List ℕ) → AllAbove m vs name → IsIn name vs → ⊥
not_among_above m [] name h e = true≢false (sym e)
not_among_above m (v ∷ vs) name h e =
    or_cases (bytes_eq name v) (list_any (bytes_eq name) vs) e (λ q. never_above_itself m name (subst (λ z. is_above m z name ≡ true) (sym (same_name name v q)) h.0)) (not_among_above m vs name h.1)

-- an item, those above it on the way, and those that are left
ranked_from : (m : Module) (k : ℕ) (trail left : List (List ℕ)) (name : List ℕ) → length left ≡ k → ((z : List ℕ) → IsItem m z → IsIn z trail ⊎ IsIn z left) → AllAbove m trail name → IsItem m name → Ranked m k name
ranked_from m zero trail left name c cover h item = elim (cover name item) [
  | inl e ↦ absurd (not_among_above m trail name h e)
  | inr e ↦ (let q : suc (length (without name left)) ≡ zero = one_fewer name left e ∙ c in absurd (omega (arith, q)))
]
ranked_from m (suc k) trail left name c cover h item = elim (cover name item) [
  | inl e ↦ absurd (not_among_above m trail name h e)
  | inr e ↦ λ below q. ranked_from m k (name ∷ trail) (without name left) below
      (let f : suc (length (without name left)) ≡ suc k = one_fewer name left e ∙ c in omega (arith, f))
      (λ z i. cover_moves name z trail left (cover z i))
      (q, all_above_on m trail name below h q)
      (reached_is_item m (length m.items) name below (both_of (item_reaches m name below) (not (item_reaches m below name)) q).0)
]

-- an item has its name
named_is_item : (is : List Item) (name : List ℕ) (x : Definition) → item_named name is ≡ Some x → IsIn name (item_names is)
named_is_item is name x e = by_test (list_any (bytes_eq name) (item_names is)) refl
  where
    there : Option Definition → Bool
    there None = false
    there (Some d) = true

    by_test : (t : Bool) → list_any (bytes_eq name) (item_names is) ≡ t → list_any (bytes_eq name) (item_names is) ≡ true
    by_test true q = q
    by_test false q = absurd (true≢false (ap there (sym e ∙ no_item_named is name q)))

pub item_ranked : (m : Module) (name : List ℕ) (x : Definition) → item_named name m.items ≡ Some x → Ranked m (length m.items) name
item_ranked m name x e =
    let names = length-map m.items (λ (i : Item). name_of_definition i.definition) in
    ranked_from m (length m.items) [] (item_names m.items) name names (λ z i. inr i) tt (named_is_item m.items name x e)
