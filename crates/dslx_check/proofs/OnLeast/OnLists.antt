-- Lists of instances, each found once.
use Rattle.std.proofs.Common.{◌≡◌, ◌∙◌, ◌≤◌, ◌++◌, ◌||◌, ◌⊎◌, inl, inr, ℕ, zero, suc, Bool, true, false, List, [], ◌∷◌, length, length-append, Option, if◌then◌else◌, refl, sym, ap, subst, arith}
use mathlib.Core.Bool.{true≢false}
use Rattle.std.specs.List.{flat_map}
use Rattle.xb_span.specs.declared.fault.Fault.{Fault}
use Rattle.dslx_tree.specs.declared.item.Module.{Module}
use Rattle.dslx_meaning.specs.Rules.ModuleRules.{add_new, found_of_instance, globals_of, instances_faults, instances_of, is_reached, outside_instances, own_instances, reached_next, reached_within}
use Rattle.dslx_meaning.specs.Rules.TypeEnvs.{GlobalEnv, Instance, same_instance}
use Rattle.dslx_core.specs.Typing.Laws.Least.{HaveSameFaults, IsAmong}
use Rattle.dslx_core.specs.Typing.TypingRelations.Closed.{IsLeastClosed, IsOneOf}
use Rattle.dslx_core.proofs.Lemmas.Typing.Accepted.{one_instance, one_of_these}
use Rattle.dslx_core.proofs.Lemmas.Typing.TypingRelations.{in_first, in_second, itself}
use Rattle.dslx_check.specs.Least.Starts.{AreInstancesApart, AreStarted}

-- ---- what is there, by the test

pub there : (i : Instance) (is : List Instance) → IsOneOf i is → is_reached i is ≡ true
there i [] h = absurd h
there i (x ∷ xs) (inl e) = ap (λ b. b || is_reached i xs) (subst (λ z. same_instance i z ≡ true) e (itself i))
there i (x ∷ xs) (inr h) = or_second (same_instance i x) (there i xs h)
  where
    or_second : (b : Bool) → is_reached i xs ≡ true → (b || is_reached i xs) ≡ true
    or_second true q = refl
    or_second false q = q

not_there : (i : Instance) (is : List Instance) → is_reached i is ≡ false → IsOneOf i is → ⊥
not_there i is e h = true≢false (sym (there i is h) ∙ e)

-- ---- no more than those among which they are

-- what stands around one of them
record Around (i : Instance) (all : List Instance) : Type 0 where
  before : List Instance
  behind : List Instance
  is : all ≡ before ++ i ∷ behind

around : (i : Instance) (is : List Instance) → IsOneOf i is → Around i is
around i [] h = absurd h
around i (x ∷ xs) (inl e) = record { before = []; behind = xs; is = ap (λ z. z ∷ xs) (sym e) }
around i (x ∷ xs) (inr h) = let a = around i xs h in record { before = x ∷ a.before; behind = a.behind; is = ap (λ l. x ∷ l) a.is }

either : (i : Instance) (xs ys : List Instance) → IsOneOf i (xs ++ ys) → IsOneOf i xs ⊎ IsOneOf i ys
either i [] ys h = inr h
either i (x ∷ xs) ys (inl e) = inl (inl e)
either i (x ∷ xs) ys (inr h) = elim (either i xs ys h) [
  | inl p ↦ inl (inr p)
  | inr q ↦ inr q
]

-- one among them that is another is among the rest
but_for : (i j : Instance) (xs ys : List Instance) → (j ≡ i → ⊥) → IsOneOf j (xs ++ i ∷ ys) → IsOneOf j (xs ++ ys)
but_for i j xs ys other h = elim (either j xs (i ∷ ys) h) [
  | inl p ↦ in_first j xs ys p
  | inr q ↦ elim q [
    | inl e ↦ absurd (other e)
    | inr r ↦ in_second j xs ys r
  ]
]

pub no_more : (is all : List Instance) → AreInstancesApart is → ((i : Instance) → IsOneOf i is → IsOneOf i all) → length is ≤ length all
no_more [] all apart among = omega arith
no_more (i ∷ is) all apart among =
    let a = around i all (among i (inl refl)) in
    let rest : length is ≤ length (a.before ++ a.behind) =
    no_more is (a.before ++ a.behind) apart.1 (λ j h. but_for i j a.before a.behind (λ e. not_there i is apart.0 (subst (λ z. IsOneOf z is) e h)) (subst (IsOneOf j) a.is (among j (inr h)))) in
    omega (arith, rest, ap length a.is, length-append a.before (i ∷ a.behind), length-append a.before a.behind)

-- ---- those of a text are apart

other_way : (i x : Instance) → same_instance i x ≡ false → same_instance x i ≡ false
other_way i x e = by (same_instance x i) refl
  where
    by : (b : Bool) → same_instance x i ≡ b → b ≡ false
    by true q = absurd (true≢false (sym (subst (λ z. same_instance i z ≡ true) (sym (one_instance x i q)) (itself i)) ∙ e))
    by false q = refl

first_not : (a b : Bool) → (a || b) ≡ false → a ≡ false
first_not true b e = absurd (true≢false e)
first_not false b e = refl

second_not : (a b : Bool) → (a || b) ≡ false → b ≡ false
second_not true b e = absurd (true≢false e)
second_not false b e = e

neither : (i : Instance) (xs : List Instance) (y : Instance) → is_reached i xs ≡ false → same_instance i y ≡ false → is_reached i (xs ++ y ∷ []) ≡ false
neither i [] y h e = ap (λ b. b || false) e
neither i (x ∷ xs) y h e = λ t. first_not (same_instance i x) (is_reached i xs) h t || neither i xs y (second_not (same_instance i x) (is_reached i xs) h) e t

one_more_apart : (xs : List Instance) (i : Instance) → AreInstancesApart xs → is_reached i xs ≡ false → AreInstancesApart (xs ++ i ∷ [])
one_more_apart [] i apart e = (refl, tt)
one_more_apart (x ∷ xs) i apart e =
    (neither x xs i apart.0 (other_way i x (first_not (same_instance i x) (is_reached i xs) e)), one_more_apart xs i apart.1 (second_not (same_instance i x) (is_reached i xs) e))

added_apart : (found is : List Instance) → AreInstancesApart found → AreInstancesApart (add_new found is)
added_apart found [] apart = apart
added_apart found (i ∷ is) apart = added_apart (if is_reached i found then found else found ++ i ∷ []) is (by (is_reached i found) refl)
  where
    by : (b : Bool) → is_reached i found ≡ b → AreInstancesApart (if b then found else found ++ i ∷ [])
    by true e = apart
    by false e = one_more_apart found i apart e

within_apart : (known : GlobalEnv) (n : ℕ) (found : List Instance) → AreInstancesApart found → AreInstancesApart (reached_within known n found)
within_apart known zero found apart = apart
within_apart known (suc n) found apart = within_apart known n (reached_next known found) (added_apart found (flat_map (λ i. (found_of_instance known i).reached) found) apart)

pub instances_apart : (m : Module) (top : Option (List ℕ)) → AreInstancesApart (instances_of m top)
instances_apart m top =
    within_apart (globals_of m) (length m.items) (add_new (add_new [] (own_instances m.items)) (outside_instances m top).reached)
    (added_apart (add_new [] (own_instances m.items)) (outside_instances m top).reached (added_apart [] (own_instances m.items) tt))

-- ---- least lists

-- what is started is among all that are started from and reach one another
pub among_all : (known : GlobalEnv) (start is all : List Instance) → AreStarted known start is → IsLeastClosed known start all → (i : Instance) → IsOneOf i is → IsOneOf i all
among_all known start is all started closed i h =
    one_of_these i all (started (λ j. is_reached j all) closed.starts (λ j k p r. closed.closed j k (one_of_these j all p) r) i h)

-- ---- their faults

fault_in_first : (f : Fault) (fs gs : List Fault) → IsAmong f fs → IsAmong f (fs ++ gs)
fault_in_first f [] gs h = absurd h
fault_in_first f (x ∷ fs) gs (inl e) = inl e
fault_in_first f (x ∷ fs) gs (inr h) = inr (fault_in_first f fs gs h)

fault_in_second : (f : Fault) (fs gs : List Fault) → IsAmong f gs → IsAmong f (fs ++ gs)
fault_in_second f [] gs h = h
fault_in_second f (x ∷ fs) gs h = inr (fault_in_second f fs gs h)

fault_in_either : (f : Fault) (fs gs : List Fault) → IsAmong f (fs ++ gs) → IsAmong f fs ⊎ IsAmong f gs
fault_in_either f [] gs h = inr h
fault_in_either f (x ∷ fs) gs (inl e) = inl (inl e)
fault_in_either f (x ∷ fs) gs (inr h) = elim (fault_in_either f fs gs h) [
  | inl p ↦ inl (inr p)
  | inr q ↦ inr q
]

fault_of_one : (known : GlobalEnv) (f : Fault) (i : Instance) (is : List Instance) → IsOneOf i is → IsAmong f (found_of_instance known i).faults → IsAmong f (instances_faults known is)
fault_of_one known f i [] h a = absurd h
fault_of_one known f i (x ∷ xs) (inl e) a = fault_in_first f (found_of_instance known x).faults (instances_faults known xs) (subst (λ z. IsAmong f (found_of_instance known z).faults) e a)
fault_of_one known f i (x ∷ xs) (inr h) a = fault_in_second f (found_of_instance known x).faults (instances_faults known xs) (fault_of_one known f i xs h a)

pub faults_among : (known : GlobalEnv) (is all : List Instance) → ((i : Instance) → IsOneOf i is → IsOneOf i all) → (f : Fault) → IsAmong f (instances_faults known is) → IsAmong f (instances_faults known all)
faults_among known [] all among f h = absurd h
faults_among known (x ∷ xs) all among f h = elim (fault_in_either f (found_of_instance known x).faults (instances_faults known xs) h) [
  | inl p ↦ fault_of_one known f x all (among x (inl refl)) p
  | inr q ↦ faults_among known xs all (λ i k. among i (inr k)) f q
]

-- the same behind other faults
pub faults_behind : (fs gs hs : List Fault) → HaveSameFaults gs hs → HaveSameFaults (fs ++ gs) (fs ++ hs)
faults_behind fs gs hs same = record {
  there = λ f h. elim (fault_in_either f fs gs h) [
    | inl p ↦ fault_in_first f fs hs p
    | inr q ↦ fault_in_second f fs hs (same.there f q)
  ];
  back = λ f h. elim (fault_in_either f fs hs h) [
    | inl p ↦ fault_in_first f fs gs p
    | inr q ↦ fault_in_second f fs gs (same.back f q)
  ];
}
