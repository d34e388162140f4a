-- What instances reach by as many calls and spawns as there are items, with those that they reach, reaches nothing more.
use Rattle.std.proofs.Common.{◌≡◌, ◌⊎◌, inl, inr, ◌&&◌, ◌||◌, ◌++◌, ℕ, zero, suc, length, Bool, true, false, if◌then◌else◌, List, [], ◌∷◌, Option, Some, None, refl, sym, ap, subst, ◌∙◌}
use mathlib.Core.Bool.{true≢false}
use Rattle.std.specs.Prelude.{flat_map}
use Rattle.std.specs.List.{list_all}
use Rattle.std.proofs.lemmas.Slice.Eq.{bytes_eq-Decides}
use Rattle.dslx_tree.specs.declared.item.Definition.{Definition}
use Rattle.dslx_tree.specs.declared.item.Definition.TheVariants as d
use Rattle.dslx_tree.specs.declared.item.Module.{Module}
use Rattle.dslx_meaning.specs.Items.{item_named}
use Rattle.dslx_meaning.specs.Lists.{pairwise}
use Rattle.dslx_meaning.specs.declared.value.DslxValue.{DslxValue}
use Rattle.dslx_meaning.specs.Rules.EqualValues.{equal_value}
use Rattle.dslx_meaning.specs.Rules.TypeEnvs.{Instance, GlobalEnv, same_instance}
use Rattle.dslx_meaning.specs.Rules.Mentions.{AsFunction, AsProc, AsType, AsValue, is_of_use, mentions_of}
use Rattle.dslx_meaning.specs.Rules.ModuleRules.{add_new, found_of_instance, found_of_item, instances_of, is_reached, globals_of, globals_within, outside_instances, own_instances, reached_next, reached_within}
use Rattle.dslx_core.specs.Typing.Laws.Recursion.{HasNoCycle}
use Rattle.dslx_core.proofs.Lemmas.Typing.Laws.{value_equals_itself}
use Rattle.dslx_core.proofs.Lemmas.Typing.Laws.Chains.{Ends, OfEach, item_ends}
use Rattle.dslx_core.specs.Typing.TypingRelations.Closed.{ReachOneAnother, IsOneOf, ends_within}
use Rattle.dslx_core.specs.Typing.TypingRelations.Reached.{AllNamed, IsClosed}
use Rattle.dslx_core.proofs.Lemmas.Typing.Laws.Reaching.{item_ranked}
use Rattle.dslx_core.specs.Typing.Laws.Ranks.{Ranked, is_above}
use Rattle.dslx_core.proofs.OnTyping.OnTyping.OfItems.{instances_reach_down, whole_is}

-- ---- lists of instances

pub in_first : (i : Instance) (xs ys : List Instance) → IsOneOf i xs → IsOneOf i (xs ++ ys)
in_first i [] ys h = absurd h
in_first i (x ∷ xs) ys (inl e) = inl e
in_first i (x ∷ xs) ys (inr h) = inr (in_first i xs ys h)

pub in_second : (i : Instance) (xs ys : List Instance) → IsOneOf i ys → IsOneOf i (xs ++ ys)
in_second i [] ys h = h
in_second i (x ∷ xs) ys h = inr (in_second i xs ys h)

pub in_either : (i : Instance) (xs ys : List Instance) → IsOneOf i (xs ++ ys) → IsOneOf i xs ⊎ IsOneOf i ys
in_either i [] ys h = inr h
in_either i (x ∷ xs) ys (inl e) = inl (inl e)
in_either i (x ∷ xs) ys (inr h) = elim (in_either i xs ys h) [
  | inl p ↦ inl (inr p)
  | inr q ↦ inr q
]

in_flat : (f : Instance → List Instance) (i j : Instance) (is : List Instance) → IsOneOf i is → IsOneOf j (f i) → IsOneOf j (flat_map f is)
in_flat f i j [] h k = absurd h
in_flat f i j (x ∷ xs) (inl e) k = in_first j (f x) (flat_map f xs) (subst (λ z. IsOneOf j (f z)) e k)
in_flat f i j (x ∷ xs) (inr h) k = in_second j (f x) (flat_map f xs) (in_flat f i j xs h k)

-- the one by which it is there
pub record IsReachedBy (f : Instance → List Instance) (j : Instance) (is : List Instance) : Type 0 where
  pub by : Instance
  pub among : IsOneOf by is
  pub reached : IsOneOf j (f by)

pub from_flat : (f : Instance → List Instance) (j : Instance) (is : List Instance) → IsOneOf j (flat_map f is) → IsReachedBy f j is
from_flat f j [] h = absurd h
from_flat f j (x ∷ xs) h = elim (in_either j (f x) (flat_map f xs) h) [
  | inl p ↦ record { by = x; among = inl refl; reached = p }
  | inr q ↦ (let r = from_flat f j xs q in record { by = r.by; among = inr r.among; reached = r.reached })
]

-- ---- what is reached

or_first : (p q : Bool) → p ≡ true → (p || q) ≡ true
or_first p q e = ap (λ t. t || q) e

or_second : (p q : Bool) → q ≡ true → (p || q) ≡ true
or_second true q e = refl
or_second false q e = e

parametric_args_itself : (vs : List DslxValue) → pairwise equal_value vs vs ≡ true
parametric_args_itself [] = refl
parametric_args_itself (v ∷ vs) = λ i. value_equals_itself v i && parametric_args_itself vs i

pub itself : (i : Instance) → same_instance i i ≡ true
itself i = λ k. (bytes_eq-Decides i.name i.name).1 refl k && parametric_args_itself i.parametric_args k

pub one_reached : (i : Instance) (is : List Instance) → IsOneOf i is → is_reached i is ≡ true
one_reached i [] h = absurd h
one_reached i (x ∷ xs) (inl e) = or_first (same_instance i x) (is_reached i xs) (subst (λ z. same_instance i z ≡ true) e (itself i))
one_reached i (x ∷ xs) (inr h) = or_second (same_instance i x) (is_reached i xs) (one_reached i xs h)

reached_before : (i : Instance) (xs ys : List Instance) → is_reached i xs ≡ true → is_reached i (xs ++ ys) ≡ true
reached_before i [] ys e = absurd (true≢false (sym e))
reached_before i (x ∷ xs) ys e = by_first (same_instance i x) e (reached_before i xs ys)
  where
    by_first : (b : Bool) → (b || is_reached i xs) ≡ true → (is_reached i xs ≡ true → is_reached i (xs ++ ys) ≡ true) → (b || is_reached i (xs ++ ys)) ≡ true
    by_first true q rest = refl
    by_first false q rest = rest q

-- what isn't reached by more isn't by fewer
not_before : (i : Instance) (xs ys : List Instance) → is_reached i (xs ++ ys) ≡ false → is_reached i xs ≡ false
not_before i xs ys e = by_xs (is_reached i xs) refl
  where
    by_xs : (b : Bool) → is_reached i xs ≡ b → b ≡ false
    by_xs true q = absurd (true≢false (sym (reached_before i xs ys q) ∙ e))
    by_xs false q = refl

-- ---- adding

abbrev with_one : List Instance → Instance → Bool → List Instance
with_one found i b = if b then found else found ++ i ∷ []

pub still_reached : (i : Instance) (found is : List Instance) → is_reached i found ≡ true → is_reached i (add_new found is) ≡ true
still_reached i found [] e = e
still_reached i found (x ∷ is) e = still_reached i (with_one found x (is_reached x found)) is (by_test (is_reached x found))
  where
    by_test : (b : Bool) → is_reached i (with_one found x b) ≡ true
    by_test true = e
    by_test false = reached_before i found (x ∷ []) e

pub all_added : (i : Instance) (found is : List Instance) → IsOneOf i is → is_reached i (add_new found is) ≡ true
all_added i found [] h = absurd h
all_added i found (x ∷ is) (inl e) = still_reached i (with_one found x (is_reached x found)) is (subst (λ z. is_reached z (with_one found x (is_reached x found)) ≡ true) (sym e) (by_test (is_reached x found) refl))
  where
    by_test : (b : Bool) → is_reached x found ≡ b → is_reached x (with_one found x b) ≡ true
    by_test true q = q
    by_test false q = one_reached x (found ++ x ∷ []) (in_second x found (x ∷ []) (inl refl))
all_added i found (x ∷ is) (inr h) = all_added i (with_one found x (is_reached x found)) is h

-- one that is there was there, or is new
abbrev pub IsOldOrNew : Instance → List Instance → List Instance → Type 0
IsOldOrNew i found is = IsOneOf i found ⊎ (IsOneOf i is × (is_reached i found ≡ false))

pub old_or_new : (i : Instance) (found is : List Instance) → IsOneOf i (add_new found is) → IsOldOrNew i found is
old_or_new i found [] h = inl h
old_or_new i found (x ∷ is) h = by_test (is_reached x found) refl (old_or_new i (with_one found x (is_reached x found)) is h)
  where
    by_test : (b : Bool) → is_reached x found ≡ b → IsOldOrNew i (with_one found x b) is → IsOldOrNew i found (x ∷ is)
    by_test true q (inl p) = inl p
    by_test true q (inr p) = inr (inr p.0, p.1)
    by_test false q (inl p) = elim (in_either i found (x ∷ []) p) [
      | inl o ↦ inl o
      | inr n ↦ elim n [
        | inl e ↦ inr (inl e, ap (λ z. is_reached z found) e ∙ q)
        | inr z ↦ absurd z
      ]
    ]
    by_test false q (inr p) = inr (inr p.0, not_before i found (x ∷ []) p.1)

-- ---- chains of items

pub all_weaker : (P Q : List ℕ → Bool) → ((x : List ℕ) → P x ≡ true → Q x ≡ true) → (xs : List (List ℕ)) → list_all P xs ≡ true → list_all Q xs ≡ true
all_weaker P Q f [] e = refl
all_weaker P Q f (x ∷ xs) e = by_first (P x) refl e (all_weaker P Q f xs)
  where
    by_first : (b : Bool) → P x ≡ b → (b && list_all P xs) ≡ true → (list_all P xs ≡ true → list_all Q xs ≡ true) → (Q x && list_all Q xs) ≡ true
    by_first true q g rest = λ i. f x q i && rest g i
    by_first false q g rest = absurd (true≢false (sym g))

pub longer : (m : Module) (k : ℕ) (name : List ℕ) → ends_within m k name ≡ true → ends_within m (suc k) name ≡ true
longer m zero name e = absurd (true≢false (sym e))
longer m (suc k) name e = all_weaker (ends_within m k) (ends_within m (suc k)) (longer m k) (mentions_of m (item_named name m.items)) e

pub closed : (m : Module) (k : ℕ) → IsClosed (ends_within m k) m
closed m zero name e = absurd (true≢false (sym e))
closed m (suc k) name e = all_weaker (ends_within m k) (ends_within m (suc k)) (longer m k) (mentions_of m (item_named name m.items)) e

each_within : (m : Module) (k : ℕ) → ((name : List ℕ) → Ends m k name → ends_within m k name ≡ true) → (names : List (List ℕ)) → OfEach (Ends m k) names → list_all (ends_within m k) names ≡ true
each_within m k f [] h = refl
each_within m k f (n ∷ ns) h = λ i. f n h.0 i && each_within m k f ns h.1 i

pub ends_so : (m : Module) (k : ℕ) (name : List ℕ) → Ends m k name → ends_within m k name ≡ true
ends_so m zero name h = absurd h
ends_so m (suc k) name h = each_within m k (ends_so m k) (mentions_of m (item_named name m.items)) h

pub every_item : (m : Module) → HasNoCycle m → (name : List ℕ) (x : Definition) → item_named name m.items ≡ Some x → ends_within m (length m.items) name ≡ true
every_item m free name x e = ends_so m (length m.items) name (by_kind x e)
  where
    by_kind : (x : Definition) → item_named name m.items ≡ Some x → Ends m (length m.items) name
    by_kind (d.Function f) q = item_ends m free name AsFunction (ap (is_of_use AsFunction) q)
    by_kind (d.Proc p) q = item_ends m free name AsProc (ap (is_of_use AsProc) q)
    by_kind (d.Constant c) q = item_ends m free name AsValue (ap (is_of_use AsValue) q)
    by_kind (d.Alias a) q = item_ends m free name AsType (ap (is_of_use AsType) q)
    by_kind (d.Struct s) q = item_ends m free name AsType (ap (is_of_use AsType) q)
    by_kind (d.Enum n) q = item_ends m free name AsType (ap (is_of_use AsType) q)

-- ---- what is reached in so many steps

abbrev pub reached_from : GlobalEnv → Instance → List Instance
reached_from known i = (found_of_instance known i).reached

-- each one reaches none but these, or has a low rank
abbrev IsDone : Module → GlobalEnv → ℕ → List Instance → Type 0
IsDone m known n found = (i : Instance) → IsOneOf i found → ((j : Instance) → IsOneOf j (reached_from known i) → is_reached j found ≡ true) ⊎ Ranked m n i.name

named_one : (P : List ℕ → Bool) (i : Instance) (is : List Instance) → AllNamed P is → IsOneOf i is → P i.name ≡ true
named_one P i [] h k = absurd k
named_one P i (x ∷ xs) h (inl e) = ap (λ (z : Instance). P z.name) e ∙ h.0
named_one P i (x ∷ xs) h (inr k) = named_one P i xs h.1 k

one_step : (m : Module) (a n : ℕ) (found : List Instance) → IsDone m (globals_within m a) (suc n) found → IsDone m (globals_within m a) n (reached_next (globals_within m a) found)
one_step m a n found done i h = elim (old_or_new i found (flat_map (reached_from (globals_within m a)) found) h) [
  | inl old ↦ inl (λ j q. all_added j found (flat_map (reached_from (globals_within m a)) found) (in_flat (reached_from (globals_within m a)) i j found old q))
  | inr new ↦ (let by = from_flat (reached_from (globals_within m a)) i found new.0 in elim (done by.by by.among) [
    | inl all ↦ absurd (true≢false (sym (all i by.reached) ∙ new.1))
    | inr low ↦ inr (low i.name (named_one (is_above m by.by.name) i (reached_from (globals_within m a) by.by) (instances_reach_down m a by.by) by.reached))
  ])
]

steps_end : (m : Module) (a n : ℕ) (found : List Instance) → IsDone m (globals_within m a) n found → ReachOneAnother (globals_within m a) (reached_within (globals_within m a) n found)
steps_end m a zero found done = λ i j h k. elim (done i h) [
  | inl all ↦ all j k
  | inr low ↦ absurd low
]
steps_end m a (suc n) found done = steps_end m a n (reached_next (globals_within m a) found) (one_step m a n found done)

-- at the start no rank is higher than the list of items is long
at_start : (m : Module) (a : ℕ) (start : List Instance) → IsDone m (globals_within m a) (length m.items) start
at_start m a start i h = by_item (item_named i.name m.items) refl
  where
    by_item : (o : Option Definition) → item_named i.name m.items ≡ o → ((j : Instance) → IsOneOf j (reached_from (globals_within m a) i) → is_reached j start ≡ true) ⊎ Ranked m (length m.items) i.name
    by_item None q = inl (λ j k. absurd (subst (λ o. IsOneOf j (found_of_item (globals_within m a) i.parametric_args o).reached) ((λ p. item_named i.name (whole_is m a p).items) ∙ q) k))
    by_item (Some x) q = inr (item_ranked m i.name x q)

pub reaching_ends : (m : Module) (a : ℕ) (start : List Instance) → ReachOneAnother (globals_within m a) (reached_within (globals_within m a) (length m.items) start)
reaching_ends m a start = steps_end m a (length m.items) start (at_start m a start)

-- what is there stays there
pub steps_keep : (known : GlobalEnv) (i : Instance) (n : ℕ) (found : List Instance) → is_reached i found ≡ true → is_reached i (reached_within known n found) ≡ true
steps_keep known i zero found e = e
steps_keep known i (suc n) found e = steps_keep known i n (reached_next known found) (still_reached i found (flat_map (reached_from known) found) e)

pub outside_reached : (m : Module) (top : Option (List ℕ)) (i : Instance) → IsOneOf i (outside_instances m top).reached → is_reached i (instances_of m top) ≡ true
outside_reached m top i h =
    let own = add_new [] (own_instances m.items) in
    steps_keep (globals_of m) i (length m.items) (add_new own (outside_instances m top).reached) (all_added i own (outside_instances m top).reached h)
