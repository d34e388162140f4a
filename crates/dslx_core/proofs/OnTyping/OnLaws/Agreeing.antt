-- Environments that agree on what a part of a text mentions, also behind what its patterns bind.
use Rattle.std.proofs.Common.{◌≡◌, ◌&&◌, ℕ, Bool, true, false, List, [], ◌∷◌, ◌++◌, Option, Some, None, if◌then◌else◌, refl, sym, ap, subst, ◌∙◌}
use mathlib.Core.Bool.{true≢false}
use Rattle.std.specs.Str.{bytes_eq}
use Rattle.std.specs.List.{list_all}
use Rattle.std.proofs.lemmas.Slice.Eq.{bytes_eq-Decides}
use Rattle.dslx_meaning.specs.Lists.{is_in, or_else, and_then}
use Rattle.dslx_meaning.specs.Values.{same_value}
use Rattle.dslx_meaning.specs.Environment.{Env, given_in, value_of_name, bind}
use Rattle.dslx_meaning.specs.Meaning.{fit_value}
use Rattle.dslx_meaning.specs.declared.value.DslxValue.{DslxValue}
use Rattle.dslx_meaning.specs.Rules.Mentions.{Use, AsValue, AsPattern, AsType, AsFunction, AsProc, AsEnum, AsStruct, Mention, mention, value_mention}
use Rattle.dslx_core.specs.Typing.Laws.Agreement.{NamesOneConstant, MeansOne, AgreeOn}

-- each of these names has one value in both
abbrev pub NamesAgree : List (List ℕ) → Env → Env → Type 0
NamesAgree [] a b = Unit {0}
NamesAgree (n ∷ ns) a b = (value_of_name n a ≡ value_of_name n b) × NamesAgree ns a b

-- each is a constant of one value in both, or none in either
abbrev pub ConstantsAgree : List (List ℕ) → Env → Env → Type 0
ConstantsAgree [] a b = Unit {0}
ConstantsAgree (n ∷ ns) a b = NamesOneConstant a b n × ConstantsAgree ns a b

-- ---- lists of mentions and names

pub parts : (a b : Env) (xs ys : List Mention) → AgreeOn (xs ++ ys) a b → AgreeOn xs a b × AgreeOn ys a b
parts a b [] ys h = (tt, h)
parts a b (x ∷ xs) ys h = let r = parts a b xs ys h.1 in ((h.0, r.0), r.1)

pub three_parts : (a b : Env) (xs ys zs : List Mention) → AgreeOn ((xs ++ ys) ++ zs) a b → AgreeOn xs a b × AgreeOn ys a b × AgreeOn zs a b
three_parts a b xs ys zs h =
    let r = parts a b (xs ++ ys) zs h in
    let q = parts a b xs ys r.0 in
    (q.0, q.1, r.1)

pub names_join : (a b : Env) (xs ys : List (List ℕ)) → NamesAgree xs a b → NamesAgree ys a b → NamesAgree (xs ++ ys) a b
names_join a b [] ys h k = k
names_join a b (x ∷ xs) ys h k = (h.0, names_join a b xs ys h.1 k)

pub names_first : (a b : Env) (xs ys : List (List ℕ)) → NamesAgree (xs ++ ys) a b → NamesAgree xs a b
names_first a b [] ys h = tt
names_first a b (x ∷ xs) ys h = (h.0, names_first a b xs ys h.1)

pub constants_join : (a b : Env) (xs ys : List (List ℕ)) → ConstantsAgree xs a b → ConstantsAgree ys a b → ConstantsAgree (xs ++ ys) a b
constants_join a b [] ys h k = k
constants_join a b (x ∷ xs) ys h k = (h.0, constants_join a b xs ys h.1 k)

pub all_constants_same : (a b : Env) (ns : List (List ℕ)) → ConstantsAgree ns a b → list_all a.items.is_constant ns ≡ list_all b.items.is_constant ns
all_constants_same a b [] h = refl
all_constants_same a b (n ∷ ns) h = λ i. h.0.kind i && all_constants_same a b ns h.1 i

-- names that all are constants have one value
pub constants_values : (a b : Env) (ns : List (List ℕ)) → ConstantsAgree ns a b → list_all a.items.is_constant ns ≡ true → NamesAgree ns a b
constants_values a b [] h e = tt
constants_values a b (n ∷ ns) h e = both (a.items.is_constant n) refl e (constants_values a b ns h.1)
  where
    both : (t : Bool) → a.items.is_constant n ≡ t → (t && list_all a.items.is_constant ns) ≡ true → (list_all a.items.is_constant ns ≡ true → NamesAgree ns a b)
        → (value_of_name n a ≡ value_of_name n b) × NamesAgree ns a b
    both true q e rest = (h.0.value q, rest e)
    both false q e rest = absurd (true≢false (sym e))

-- ---- names

pub in_bound : (name : List ℕ) (bound : List (List ℕ)) (a b : Env) → is_in name bound ≡ true → NamesAgree bound a b → value_of_name name a ≡ value_of_name name b
in_bound name [] a b e h = absurd (true≢false (sym e))
in_bound name (n ∷ ns) a b e h = pick (bytes_eq name n) refl e (λ q. in_bound name ns a b q h.1)
  where
    pick : (t : Bool) → bytes_eq name n ≡ t → (if t then true else is_in name ns) ≡ true → (is_in name ns ≡ true → value_of_name name a ≡ value_of_name name b)
        → value_of_name name a ≡ value_of_name name b
    pick true q e rest = subst (λ x. value_of_name x a ≡ value_of_name x b) (sym ((bytes_eq-Decides name n).0 q)) h.0
    pick false q e rest = rest e

pub name_same : (name : List ℕ) (bound : List (List ℕ)) (a b : Env) → NamesAgree bound a b → AgreeOn (value_mention name bound) a b → value_of_name name a ≡ value_of_name name b
name_same name bound a b n h = pick (is_in name bound) refl h
  where
    pick : (t : Bool) → is_in name bound ≡ t → AgreeOn (if t then [] else mention AsValue name) a b → value_of_name name a ≡ value_of_name name b
    pick true q h = in_bound name bound a b q n
    pick false q h = h.0

-- ---- what patterns bind

-- two environments behind two others: with the same items, and each name that had one value in those has one in these, as
-- these names have
pub record Extend (names : List (List ℕ)) (a b a' b' : Env) : Type 0 where
  pub first_items : a'.items ≡ a.items
  pub second_items : b'.items ≡ b.items
  pub kept : (n : List ℕ) → value_of_name n a ≡ value_of_name n b → value_of_name n a' ≡ value_of_name n b'
  pub bound : NamesAgree names a' b'

-- neither fits, or both do
abbrev pub FitAlike : List (List ℕ) → Env → Env → Option Env → Option Env → Type 0
FitAlike names a b None None = Unit {0}
FitAlike names a b (Some a') (Some b') = Extend names a b a' b'
FitAlike names a b None (Some b') = ⊥
FitAlike names a b (Some a') None = ⊥

pub unchanged : (names : List (List ℕ)) (a b : Env) → NamesAgree names a b → Extend names a b a b
unchanged names a b h = record { first_items = refl; second_items = refl; kept = λ n e. e; bound = h }

pub names_move : (names ns : List (List ℕ)) (a b a' b' : Env) → Extend names a b a' b' → NamesAgree ns a b → NamesAgree ns a' b'
names_move names [] a b a' b' x h = tt
names_move names (n ∷ ns) a b a' b' x h = (x.kept n h.0, names_move names ns a b a' b' x h.1)

pub meaning_moves : (names : List (List ℕ)) (a b a' b' : Env) → Extend names a b a' b' → (u : Use) (name : List ℕ) → MeansOne a b u name → MeansOne a' b' u name
meaning_moves names a b a' b' x AsValue name h = x.kept name h
meaning_moves names a b a' b' x AsPattern name h = record {
  kind = ap (λ i. i.is_constant name) x.first_items ∙ h.kind ∙ sym (ap (λ i. i.is_constant name) x.second_items);
  constant = λ c. ap (λ i. i.constant name) x.first_items ∙ h.constant (sym (ap (λ i. i.is_constant name) x.first_items) ∙ c) ∙ sym (ap (λ i. i.constant name) x.second_items);
  value = λ c. x.kept name (h.value (sym (ap (λ i. i.is_constant name) x.first_items) ∙ c));
}
meaning_moves names a b a' b' x AsType name h = ap (λ i. i.type_named name) x.first_items ∙ h ∙ sym (ap (λ i. i.type_named name) x.second_items)
meaning_moves names a b a' b' x AsFunction name h =
    λ parametric_args operands. ap (λ i. i.call name parametric_args operands) x.first_items ∙ h parametric_args operands ∙ sym (ap (λ i. i.call name parametric_args operands) x.second_items)
meaning_moves names a b a' b' x AsProc name h = tt
meaning_moves names a b a' b' x AsEnum name h = λ m. ap (λ i. i.member name m) x.first_items ∙ h m ∙ sym (ap (λ i. i.member name m) x.second_items)
meaning_moves names a b a' b' x AsStruct name h = ap (λ i. i.struct_named name) x.first_items ∙ h ∙ sym (ap (λ i. i.struct_named name) x.second_items)

pub mentions_move : (names : List (List ℕ)) (a b a' b' : Env) → Extend names a b a' b' → (ms : List Mention) → AgreeOn ms a b → AgreeOn ms a' b'
mentions_move names a b a' b' x [] h = tt
mentions_move names a b a' b' x (m ∷ ms) h = (meaning_moves names a b a' b' x m.use_as m.name h.0, mentions_move names a b a' b' x ms h.1)

-- what is bound around a pattern and in it
pub bound_moves : (names bound : List (List ℕ)) (a b a' b' : Env) → Extend names a b a' b' → NamesAgree bound a b → NamesAgree (names ++ bound) a' b'
bound_moves names bound a b a' b' x h = names_join a' b' names bound x.bound (names_move names bound a b a' b' x h)

-- one pattern, and another behind it
pub one_behind : (ns ms : List (List ℕ)) (a b a' b' a'' b'' : Env) → Extend ns a b a' b' → Extend ms a' b' a'' b'' → Extend (ns ++ ms) a b a'' b''
one_behind ns ms a b a' b' a'' b'' x y = record {
  first_items = y.first_items ∙ x.first_items;
  second_items = y.second_items ∙ x.second_items;
  kept = λ n e. y.kept n (x.kept n e);
  bound = names_join a'' b'' ns ms (names_move ms ns a' b' a'' b'' y x.bound) y.bound;
}

pub fits_behind : (ns ms : List (List ℕ)) (a b : Env) (oa ob : Option Env) (fa fb : Env → Option Env) → FitAlike ns a b oa ob
    → ((a' b' : Env) → Extend ns a b a' b' → FitAlike ms a' b' (fa a') (fb b')) → FitAlike (ns ++ ms) a b (and_then oa fa) (and_then ob fb)
fits_behind ns ms a b None None fa fb h rest = tt
fits_behind ns ms a b None (Some b') fa fb h rest = absurd h
fits_behind ns ms a b (Some a') None fa fb h rest = absurd h
fits_behind ns ms a b (Some a') (Some b') fa fb h rest = widen (fa a') (fb b') (rest a' b' h)
  where
    widen : (oa ob : Option Env) → FitAlike ms a' b' oa ob → FitAlike (ns ++ ms) a b oa ob
    widen None None k = tt
    widen None (Some b'') k = absurd k
    widen (Some a'') None k = absurd k
    widen (Some a'') (Some b'') k = one_behind ns ms a b a' b' a'' b'' h k

-- whatever else is bound there
pub whatever_is_bound : (ns : List (List ℕ)) (a b a' b' : Env) → Extend ns a b a' b' → Extend [] a b a' b'
whatever_is_bound ns a b a' b' h = record { first_items = h.first_items; second_items = h.second_items; kept = h.kept; bound = tt }

pub binds_nothing : (ns : List (List ℕ)) (a b : Env) (oa ob : Option Env) → FitAlike ns a b oa ob → FitAlike [] a b oa ob
binds_nothing ns a b None None h = tt
binds_nothing ns a b None (Some b') h = absurd h
binds_nothing ns a b (Some a') None h = absurd h
binds_nothing ns a b (Some a') (Some b') h = whatever_is_bound ns a b a' b' h

pub first_or_rest : (ns : List (List ℕ)) (a b : Env) (oa ob ra rb : Option Env) → FitAlike ns a b oa ob → FitAlike ns a b ra rb → FitAlike ns a b (or_else oa ra) (or_else ob rb)
first_or_rest ns a b None None ra rb h k = k
first_or_rest ns a b None (Some b') ra rb h k = absurd h
first_or_rest ns a b (Some a') None ra rb h k = absurd h
first_or_rest ns a b (Some a') (Some b') ra rb h k = h

-- what is made of an environment in which a pattern has bound
pub made_alike : {X : Type 0} (ns : List (List ℕ)) (a b : Env) (oa ob : Option Env) (fa fb : Env → Option X) → FitAlike ns a b oa ob
    → ((a' b' : Env) → Extend ns a b a' b' → fa a' ≡ fb b') → and_then oa fa ≡ and_then ob fb
made_alike ns a b None None fa fb h rest = refl
made_alike ns a b None (Some b') fa fb h rest = absurd h
made_alike ns a b (Some a') None fa fb h rest = absurd h
made_alike ns a b (Some a') (Some b') fa fb h rest = rest a' b' h

-- ---- patterns that are one value, and names

pub value_fits : (ns : List (List ℕ)) (v : DslxValue) (a b : Env) → NamesAgree ns a b → (w w' : Option DslxValue) → w ≡ w' → FitAlike ns a b (fit_value w v a) (fit_value w' v b)
value_fits ns v a b h w w' e = subst (λ x. FitAlike ns a b (fit_value w v a) (fit_value x v b)) e (itself w)
  where
    pick : (t : Bool) → FitAlike ns a b (if t then Some a else None) (if t then Some b else None)
    pick true = unchanged ns a b h
    pick false = tt

    itself : (o : Option DslxValue) → FitAlike ns a b (fit_value o v a) (fit_value o v b)
    itself None = tt
    itself (Some u) = pick (same_value v u)

pub bound_value : (name : List ℕ) (v : DslxValue) (a : Env) → value_of_name name (bind name v a) ≡ Some v
bound_value name v a = ap (λ t. or_else (if t then Some v else given_in name a.bound) (a.items.constant name)) ((bytes_eq-Decides name name).1 refl)

pub binding : (name : List ℕ) (v : DslxValue) (a b : Env) → Extend (name ∷ []) a b (bind name v a) (bind name v b)
binding name v a b = record {
  first_items = refl;
  second_items = refl;
  kept = λ n e. other n (bytes_eq n name) e;
  bound = (bound_value name v a ∙ sym (bound_value name v b), tt);
}
  where
    other : (n : List ℕ) (t : Bool) → value_of_name n a ≡ value_of_name n b
        → or_else (if t then Some v else given_in n a.bound) (a.items.constant n) ≡ or_else (if t then Some v else given_in n b.bound) (b.items.constant n)
    other n true e = refl
    other n false e = e

pub name_fits : (name : List ℕ) (v : DslxValue) (a b : Env) → NamesOneConstant a b name
    → FitAlike (name ∷ []) a b (if a.items.is_constant name then fit_value (a.items.constant name) v a else Some (bind name v a))
    (if b.items.is_constant name then fit_value (b.items.constant name) v b else Some (bind name v b))
name_fits name v a b h =
    subst (λ t. FitAlike (name ∷ []) a b (if a.items.is_constant name then fit_value (a.items.constant name) v a else Some (bind name v a))
    (if t then fit_value (b.items.constant name) v b else Some (bind name v b))) h.kind (pick (a.items.is_constant name) refl)
  where
    pick : (t : Bool) → a.items.is_constant name ≡ t
        → FitAlike (name ∷ []) a b (if t then fit_value (a.items.constant name) v a else Some (bind name v a)) (if t then fit_value (b.items.constant name) v b else Some (bind name v b))
    pick true q = value_fits (name ∷ []) v a b (h.value q, tt) (a.items.constant name) (b.items.constant name) (h.constant q)
    pick false q = binding name v a b
