-- Names at their numbers, and constants, which see no local.
use Rattle.std.proofs.Common.{◌≡◌, ◌++◌, ℕ, zero, suc, length, Bool, true, false, if◌then◌else◌, List, [], ◌∷◌, Option, Some, None, refl, sym, ap, ◌∙◌}
use mathlib.Core.Bool.{true≢false}
use Rattle.std.specs.Prelude.{slice_get}
use Rattle.std.specs.Str.{bytes_eq}
use Rattle.std.specs.List.{list_any}
use Rattle.std.proofs.lemmas.Slice.Eq.{bytes_eq-Decides}
use Rattle.xb_value.specs.declared.value.Value.{Value}
use Rattle.dslx_tree.specs.declared.expr.Expr.{Expr}
use Rattle.dslx_meaning.specs.Lists.{is_in}
use Rattle.dslx_meaning.specs.Values.{plain_value}
use Rattle.dslx_meaning.specs.Environment.{Given, given_in}
use Rattle.dslx_meaning.specs.Meaning.{denotation, value_of, size_of, bound_of, count_in, bound_in, some_count}
use Rattle.dslx_meaning.specs.Lists.{and_then}
use Rattle.dslx_meaning.specs.declared.ty.DslxType.{DslxType}
use Rattle.dslx_meaning.specs.declared.value.DslxValue.{DslxValue}
use Rattle.dslx_meaning.specs.Rules.Mentions.{mentioned, free_names}
use Rattle.dslx_core.specs.Typing.Laws.Agreement.{AreBoundAlike}
use Rattle.dslx_core.proofs.Lemmas.Typing.Laws.{value_depends, bound_alike}
use Rattle.dslx_core.specs.Typing.Typed.Kinds.{is_of}
use Rattle.dslx_core.proofs.Lemmas.Typing.Typed.{none_some, or_false, same_some}
use Rattle.dslx_core.specs.CoreValues.{Bindings, Functions}
use Rattle.dslx_core.specs.Lowering.CoreScopes.{BoundSlot, CoreScope, bound_at, constant_at, globals_env, local_in, sees_a_local, size_at, slot_names, unless_local, with_local, with_unnamed}
use Rattle.dslx_core.specs.Lowering.Correspondence.{SlotsSimulate, SimulatesInScope, env_at}

-- ---- lists that grow at their end

before_end : {A : Type 0} (as' : List A) (b : A) (k : ℕ) (a : A) → slice_get as' k ≡ Some a → slice_get (as' ++ b ∷ []) k ≡ Some a
before_end [] b k a e = none_some a e
before_end (x ∷ xs) b zero a e = e
before_end (x ∷ xs) b (suc k) a e = before_end xs b k a e

pub at_end : {A : Type 0} (as' : List A) (b : A) → slice_get (as' ++ b ∷ []) (length as') ≡ Some b
at_end [] b = refl
at_end (x ∷ xs) b = at_end xs b

one_longer : {A : Type 0} (as' : List A) (b : A) → length (as' ++ b ∷ []) ≡ suc (length as')
one_longer [] b = refl
one_longer (x ∷ xs) b = ap suc (one_longer xs b)

-- ---- one more value

slots_before : (ls : List BoundSlot) (parametric_args given : List Given) (bound : Bindings) (w : Value) → SlotsSimulate ls parametric_args given bound → SlotsSimulate ls parametric_args given (bound ++ w ∷ [])
slots_before [] parametric_args given bound w h = h
slots_before (l ∷ ls) parametric_args [] bound w h = h
slots_before (l ∷ ls) parametric_args (g ∷ gs) bound w h = (h.0, h.1, before_end bound w l.slot (plain_value g.value) h.2, slots_before ls parametric_args gs bound w h.3)

-- to no name
pub unnamed_simulates : (scope : CoreScope) (calls : Functions) (given : List Given) (bound : Bindings) (w : Value) → SimulatesInScope scope calls given bound → SimulatesInScope (with_unnamed scope) calls given (bound ++ w ∷ [])
unnamed_simulates scope calls given bound w h = record {
  known = h.known;
  count = one_longer bound w ∙ ap suc h.count;
  slots = slots_before scope.locals scope.known.parametric_args given bound w h.slots;
  hides = h.hides;
}

-- to a name that is no constant's
pub named_simulates : (scope : CoreScope) (calls : Functions) (given : List Given) (bound : Bindings) (name : List ℕ) (t : DslxType) (v : DslxValue) → scope.known.items.is_constant name ≡ false
    → is_of t v ≡ true → SimulatesInScope scope calls given bound → SimulatesInScope (with_local name t scope) calls (record { name = name; value = v } ∷ given) (bound ++ plain_value v ∷ [])
named_simulates scope calls given bound name t v free of h = record {
  known = h.known;
  count = one_longer bound (plain_value v) ∙ ap suc h.count;
  slots = (refl, of, ap (slice_get (bound ++ plain_value v ∷ [])) (sym h.count) ∙ at_end bound (plain_value v), slots_before scope.locals scope.known.parametric_args given bound (plain_value v) h.slots);
  hides = λ n c. hidden n (bytes_eq n name) refl c (h.hides n c);
}
  where
    hidden : (n : List ℕ) (b : Bool) → bytes_eq n name ≡ b → scope.known.items.is_constant n ≡ true → given_in n given ≡ None → (if b then Some v else given_in n given) ≡ None
    hidden n true q c rest = absurd (true≢false (sym c ∙ ap scope.known.items.is_constant ((bytes_eq-Decides n name).0 q) ∙ free))
    hidden n false q c rest = rest

-- ---- names

-- a bound name has a value of its type, which stands at its number
pub record LocalSimulates (l : BoundSlot) (name : List ℕ) (given : List Given) (bound : Bindings) : Type 0 where
  pub value : DslxValue
  pub is : given_in name given ≡ Some value
  pub of : is_of l.ty value ≡ true
  pub stands : slice_get bound l.slot ≡ Some (plain_value value)

pub local_simulates : (ls : List BoundSlot) (parametric_args given : List Given) (bound : Bindings) (name : List ℕ) (l : BoundSlot) → SlotsSimulate ls parametric_args given bound → local_in name ls ≡ Some l
    → LocalSimulates l name given bound
local_simulates [] parametric_args given bound name l h e = none_some l e
local_simulates (k ∷ ls) parametric_args [] bound name l h e = absurd h
local_simulates (k ∷ ls) parametric_args (g ∷ gs) bound name l h e = by_name (bytes_eq name k.name) refl e (local_simulates ls parametric_args gs bound name l h.3)
  where
    by_name : (b : Bool) → bytes_eq name k.name ≡ b → (if b then Some k else local_in name ls) ≡ Some l → (local_in name ls ≡ Some l → LocalSimulates l name gs bound)
        → LocalSimulates l name (g ∷ gs) bound
    by_name true q r others =
        let is = same_some k l r in
        record {
          value = g.value;
          is = ap (λ b. if b then Some g.value else given_in name gs) (ap (bytes_eq name) h.0 ∙ q);
          of = ap (λ (s : BoundSlot). is_of s.ty g.value) (sym is) ∙ h.1;
          stands = ap (λ (s : BoundSlot). slice_get bound s.slot) (sym is) ∙ h.2;
        }
    by_name false q r others =
        let rest = others r in
        record {
          value = rest.value;
          is = ap (λ b. if b then Some g.value else given_in name gs) (ap (bytes_eq name) h.0 ∙ q) ∙ rest.is;
          of = rest.of;
          stands = rest.stands;
        }

-- what is no local is a parametric, if one has the name
pub other_stands : (ls : List BoundSlot) (parametric_args given : List Given) (bound : Bindings) (name : List ℕ) → SlotsSimulate ls parametric_args given bound → local_in name ls ≡ None
    → given_in name given ≡ given_in name parametric_args
other_stands [] parametric_args given bound name h e = ap (given_in name) h
other_stands (k ∷ ls) parametric_args [] bound name h e = absurd h
other_stands (k ∷ ls) parametric_args (g ∷ gs) bound name h e = by_name (bytes_eq name k.name) refl e (other_stands ls parametric_args gs bound name h.3)
  where
    by_name : (b : Bool) → bytes_eq name k.name ≡ b → (if b then Some k else local_in name ls) ≡ None → (local_in name ls ≡ None → given_in name gs ≡ given_in name parametric_args)
        → given_in name (g ∷ gs) ≡ given_in name parametric_args
    by_name true q r others = none_some k (sym r)
    by_name false q r others = ap (λ b. if b then Some g.value else given_in name gs) (ap (bytes_eq name) h.0 ∙ q) ∙ others r

-- ---- constants

not_local : (ls : List BoundSlot) (name : List ℕ) → is_in name (slot_names ls) ≡ false → local_in name ls ≡ None
not_local [] name e = refl
not_local (k ∷ ls) name e = by_name (bytes_eq name k.name) e (not_local ls name)
  where
    by_name : (b : Bool) → (if b then true else is_in name (slot_names ls)) ≡ false → (is_in name (slot_names ls) ≡ false → local_in name ls ≡ None) → (if b then Some k else local_in name ls) ≡ None
    by_name true r others = absurd (true≢false r)
    by_name false r others = others r

free_alike : (scope : CoreScope) (calls : Functions) (given : List Given) (bound : Bindings) → SimulatesInScope scope calls given bound → (names : List (List ℕ))
    → list_any (λ name. is_in name (slot_names scope.locals)) names ≡ false → AreBoundAlike names given scope.known.parametric_args
free_alike scope calls given bound h [] e = tt
free_alike scope calls given bound h (n ∷ ns) e =
    let q = or_false (is_in n (slot_names scope.locals)) (list_any (λ name. is_in name (slot_names scope.locals)) ns) e in
    (other_stands scope.locals scope.known.parametric_args given bound n h.slots (not_local scope.locals n q.0), free_alike scope calls given bound h ns q.1)

-- an expression that names no local has in its scope the value that it has where constants are evaluated
pub same_where_known : (scope : CoreScope) (calls : Functions) (given : List Given) (bound : Bindings) → SimulatesInScope scope calls given bound → (e : Expr) → sees_a_local scope e ≡ false
    → value_of e (env_at scope given) ≡ value_of e (globals_env scope.known)
same_where_known scope calls given bound h e f =
    value_depends e [] (env_at scope given) (globals_env scope.known) tt
    (bound_alike scope.known.items given scope.known.parametric_args (λ name c. h.hides name c ∙ sym (h.known.hides name c)) (mentioned e []) (free_alike scope calls given bound h (free_names e) f))

from_unless : {A : Type 0} (t : Bool) (o : Option A) (a : A) → unless_local t o ≡ Some a → (t ≡ false) × (o ≡ Some a)
from_unless true o a e = none_some a e
from_unless false o a e = (refl, e)

pub constant_means : (scope : CoreScope) (calls : Functions) (given : List Given) (bound : Bindings) → SimulatesInScope scope calls given bound → (e : Expr) (v : DslxValue) → constant_at scope e ≡ Some v
    → value_of e (env_at scope given) ≡ Some v
constant_means scope calls given bound h e v k =
    let q = from_unless (sees_a_local scope e) (value_of e (globals_env scope.known)) v k in
    same_where_known scope calls given bound h e q.0 ∙ q.1

pub size_means : (scope : CoreScope) (calls : Functions) (given : List Given) (bound : Bindings) → SimulatesInScope scope calls given bound → (e : Expr) (n : ℕ) → size_at scope e ≡ Some n
    → size_of (denotation e) (env_at scope given) ≡ Some n
size_means scope calls given bound h e n k =
    let q = from_unless (sees_a_local scope e) (size_of (denotation e) (globals_env scope.known)) n k in
    ap (λ o. and_then (count_in (denotation e).bare o) some_count) (same_where_known scope calls given bound h e q.0) ∙ q.1

pub bound_means : (scope : CoreScope) (calls : Functions) (given : List Given) (bound : Bindings) → SimulatesInScope scope calls given bound → (e : Expr) (n : ℕ) → bound_at scope e ≡ Some n
    → bound_of (denotation e) (env_at scope given) ≡ Some n
bound_means scope calls given bound h e n k =
    let q = from_unless (sees_a_local scope e) (bound_of (denotation e) (globals_env scope.known)) n k in
    ap (bound_in (denotation e).bare) (same_where_known scope calls given bound h e q.0) ∙ q.1
