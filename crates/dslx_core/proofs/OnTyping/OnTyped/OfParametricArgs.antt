-- A call finds the parametrics that the rules find.
use Rattle.std.proofs.Common.{◌≡◌, ◌==◌, ◌++◌, ℕ, Bool, true, false, if◌then◌else◌, List, [], ◌∷◌, map, Option, Some, None, refl, sym, ap, subst, ◌∙◌}
use Rattle.std.specs.Str.{bytes_eq}
use Rattle.std.specs.List.{list_all}
use Rattle.dslx_tree.specs.declared.expr.Expr.{Expr}
use Rattle.dslx_tree.specs.declared.item.Field.{Field}
use Rattle.dslx_tree.specs.declared.item.Parametric.{Parametric}
use Rattle.dslx_meaning.specs.Lists.{and_then, is_in, where_true}
use Rattle.dslx_meaning.specs.Types.{bits_in, same_type, is_unit}
use Rattle.dslx_meaning.specs.Values.{type_of_value}
use Rattle.dslx_meaning.specs.Operators.{number_value}
use Rattle.dslx_meaning.specs.Environment.{Meanings, Given, given_in}
use Rattle.dslx_meaning.specs.Meaning.{value_of, written_type}
use Rattle.dslx_meaning.specs.Inference.{Inferred, inferred_in, inferred_for}
use Rattle.dslx_meaning.specs.Items.{with_number, parametric_args_bound, inferred_value, put_first, all_parametric_args, inferred_from}
use Rattle.dslx_meaning.specs.declared.ty.DslxType.{DslxType}
use Rattle.dslx_meaning.specs.declared.value.DslxValue.{DslxValue}
use Rattle.dslx_meaning.specs.Rules.TypeEnvs.{GlobalEnv}
use Rattle.dslx_meaning.specs.Rules.AggregateRules.{is_narrow}
use Rattle.dslx_meaning.specs.Rules.PatternRules.{is_there}
use Rattle.dslx_meaning.specs.Rules.TypeRules.{unless_unit}
use Rattle.dslx_meaning.specs.Rules.CallRules.{ParametricArgument, Resolved, Number, Unknown, Wrong, resolved_value, in_type, of_type, parametric_type, default_value, not_given, parametric_args_for, inferred_by, known_before, and_parametric, value_before, parametric_args_seen}
use Rattle.dslx_core.specs.Typing.Typed.Declared.{Declarations, IsDeclared}
use Rattle.dslx_core.specs.Typing.Typed.Given.{GivesOf}
use Rattle.dslx_core.specs.Typing.Typed.Kinds.{is_of}
use Rattle.dslx_core.specs.Typing.Typed.Numbers.{FitParametricArgs, ParametricMeans, ParametricsMean, GivenMean, AllOwn, AreOwn}
use Rattle.dslx_core.proofs.OnTyping.OnTyped.TypingRelations.{none_some, same_some}
use Rattle.dslx_core.proofs.OnTyping.OnTyped.OfAggregates.{and_then_type}
use Rattle.dslx_core.proofs.OnTyping.OnTyped.OfTypes.{one_type}

-- ---- what is resolved

-- the value that is known of a parameter
abbrev number_of : Resolved → Option DslxValue
number_of (Number v) = Some v
number_of Unknown = None
number_of Wrong = None

of_resolved : (o : Option DslxValue) → number_of (resolved_value o) ≡ o
of_resolved None = refl
of_resolved (Some v) = refl

-- a parameter and those behind it
record AllParametricArgs (r : Resolved) (o : Option (List DslxValue)) (ws : List DslxValue) : Type 0 where
  first : DslxValue
  rest : List DslxValue
  known : r ≡ Number first
  others : o ≡ Some rest
  all : (first ∷ rest) ≡ ws

taken_apart : (r : Resolved) (o : Option (List DslxValue)) (ws : List DslxValue) → value_before r o ≡ Some ws → AllParametricArgs r o ws
taken_apart (Number v) (Some vs) ws e = record { first = v; rest = vs; known = refl; others = refl; all = same_some (v ∷ vs) ws e }
taken_apart (Number v) None ws e = none_some ws e
taken_apart Unknown o ws e = none_some ws e
taken_apart Wrong o ws e = none_some ws e

of_its_type : (t : Option DslxType) (o : Option DslxValue) (v : DslxValue) → of_type t o ≡ Some v → o ≡ Some v
of_its_type None o v e = none_some v e
of_its_type (Some t) None v e = none_some v e
of_its_type (Some t) (Some w) v e = by_test (same_type t (type_of_value w)) e
  where
    by_test : (b : Bool) → (if b then Some w else None) ≡ Some v → Some w ≡ Some v
    by_test true h = h
    by_test false h = none_some v h

pub not_unit_is : (o : Option DslxType) (t : DslxType) → unless_unit o ≡ Some t → o ≡ Some t
not_unit_is o t e =
    let q = and_then_type o (λ t. if is_unit t then None else Some t) t e in
    q.1 ∙ by_test q.0 (is_unit q.0) q.2
  where
    by_test : (u : DslxType) (b : Bool) → (if b then None else Some u) ≡ Some t → Some u ≡ Some t
    by_test u true h = none_some t h
    by_test u false h = h

pub parametric_is : (known : GlobalEnv) (owner : List ℕ) (before : List (Option DslxValue)) (t : DslxType) → parametric_type known owner (known_before before) ≡ Some t → (known.parameter_in owner before).ty ≡ Some t
parametric_is known owner before t e = not_unit_is (known.parameter_in owner before).ty t e

-- ---- what is inferred

abbrev first_of : List ℕ → Option ℕ
first_of [] = None
first_of (n ∷ ns) = Some n

-- the first number for a name
first_for : (name : List ℕ) (is : List Inferred) (ns : List ℕ) → parametric_args_for name is ≡ ns → inferred_for name is ≡ first_of ns
first_for name [] ns e = ap first_of e
first_for name (i ∷ is) ns e = by_name (bytes_eq name i.name) e (first_for name is)
  where
    by_name : (b : Bool) → (if b then i.number ∷ parametric_args_for name is else parametric_args_for name is) ≡ ns → ((ms : List ℕ) → parametric_args_for name is ≡ ms → inferred_for name is ≡ first_of ms)
        → (if b then Some i.number else inferred_for name is) ≡ first_of ns
    by_name true h rest = ap first_of h
    by_name false h rest = rest ns h

-- operands that all have types
pub inferred_alike : (fs : List Field) (ts : List DslxType) → inferred_by fs (map Some ts) ≡ inferred_from fs ts
inferred_alike [] ts = by_types ts
  where
    by_types : (ts : List DslxType) → inferred_by [] (map Some ts) ≡ inferred_from [] ts
    by_types [] = refl
    by_types (t ∷ ts) = refl
inferred_alike (f ∷ fs) [] = refl
inferred_alike (f ∷ fs) (t ∷ ts) = ap (λ is. inferred_in f.ty t ++ is) (inferred_alike fs ts)

-- a number in the type of a parameter
in_its_type : (t : DslxType) (n : ℕ) (v : DslxValue) → number_of (in_type (Some t) n) ≡ Some v → number_value t (record { is_negative = false; value = n }) ≡ Some v
in_its_type t n v e = by_test (number_value t (record { is_negative = false; value = n })) (is_narrow (bits_in t)) e
  where
    by_test : (o : Option DslxValue) (b : Bool) → number_of (if is_there o then resolved_value (where_true b o) else Wrong) ≡ Some v → o ≡ Some v
    by_test None b h = none_some v h
    by_test (Some w) true h = h
    by_test (Some w) false h = none_some v h

-- a parameter that isn't given
found_otherwise : (known : GlobalEnv) (items : Meanings) (owner : List ℕ) (inferred : List Inferred) (before : List (Option DslxValue)) (so_far : List Given) (p : Parametric) (maybe : Bool) (v : DslxValue)
    → ParametricMeans known items owner before so_far p
    → number_of (not_given known owner (known_before before) p (parametric_type known owner (known_before before)) maybe (parametric_args_for p.name.name inferred)).value ≡ Some v
    → inferred_value (record { items = items; bound = so_far }) p (inferred_for p.name.name inferred) ≡ Some v
found_otherwise known items owner inferred before so_far p maybe v means e =
    ap (inferred_value (record { items = items; bound = so_far }) p) (first_for p.name.name inferred (parametric_args_for p.name.name inferred) refl) ∙ by_maybe maybe (parametric_args_for p.name.name inferred) e
  where
    by_default : (o : Option Expr) → p.default ≡ o → number_of (default_value known owner (known_before before) (parametric_type known owner (known_before before)) o).value ≡ Some v
        → and_then o (λ e. value_of e (record { items = items; bound = so_far })) ≡ Some v
    by_default None d h = none_some v h
    by_default (Some x) d h = means.defaults x v d
        (of_its_type (parametric_type known owner (known_before before)) (known.default_in owner before).value v (sym (of_resolved (of_type (parametric_type known owner (known_before before)) (known.default_in owner before).value)) ∙ h))

    by_type : (n : ℕ) (t : Option DslxType) → parametric_type known owner (known_before before) ≡ t → number_of (in_type t n) ≡ Some v
        → and_then (written_type p.ty (record { items = items; bound = so_far })) (λ t. number_value t (record { is_negative = false; value = n })) ≡ Some v
    by_type n None q h = none_some v h
    by_type n (Some t) q h =
        ap (λ o. and_then o (λ t. number_value t (record { is_negative = false; value = n }))) (means.types t (parametric_is known owner before t q))
        ∙ in_its_type t n v h

    by_one : (n : ℕ) (b : Bool) → number_of (if b then in_type (parametric_type known owner (known_before before)) n else Wrong) ≡ Some v
        → and_then (written_type p.ty (record { items = items; bound = so_far })) (λ t. number_value t (record { is_negative = false; value = n })) ≡ Some v
    by_one n true h = by_type n (parametric_type known owner (known_before before)) refl h
    by_one n false h = none_some v h

    by_maybe : (b : Bool) (ns : List ℕ) → number_of (not_given known owner (known_before before) p (parametric_type known owner (known_before before)) b ns).value ≡ Some v
        → inferred_value (record { items = items; bound = so_far }) p (first_of ns) ≡ Some v
    by_maybe true ns h = none_some v h
    by_maybe false [] h = by_default p.default refl h
    by_maybe false (n ∷ ns) h = by_one n (list_all (λ k. k == n) ns) h

-- ---- values of their own types

-- a value of a type is of its own
pub own_value : (types : Declarations) (t : DslxType) (o : Option DslxValue) (v : DslxValue) → o ≡ Some v → GivesOf types t o → GivesOf types (type_of_value v) (Some v)
own_value types t o v q g =
    let same : g.value ≡ v = same_some g.value v (sym g.is ∙ q) in
    let of : is_of t v ≡ true = ap (is_of t) (sym same) ∙ g.of in
    let one : type_of_value v ≡ t = one_type t v of in
    record { value = v; is = refl; of = ap (λ u. is_of u v) one ∙ of; declared = subst (IsDeclared types) (sym one) g.declared }

pub own_more : (types : Declarations) (so_far : List Given) (p : Parametric) (v : DslxValue) → AreOwn types so_far → GivesOf types (type_of_value v) (Some v) → AreOwn types (with_number so_far p v)
own_more types so_far p v h g name w e = by_name (bytes_eq name p.name.name) e
  where
    by_name : (b : Bool) → (if b then Some v else given_in name so_far) ≡ Some w → GivesOf types (type_of_value w) (Some w)
    by_name true q = subst (λ x. GivesOf types (type_of_value x) (Some x)) (same_some v w q) g
    by_name false q = h name w q

-- all parameters with their values
pub own_bound : (types : Declarations) (so_far : List Given) (ps : List Parametric) (vs : List DslxValue) → AreOwn types so_far → AllOwn types vs → AreOwn types (parametric_args_bound so_far ps vs)
own_bound types so_far [] vs h k = h
own_bound types so_far (p ∷ ps) [] h k = h
own_bound types so_far (p ∷ ps) (v ∷ vs) h k = own_bound types (with_number so_far p v) ps vs (own_more types so_far p v h k.0) k.1

-- ---- all parameters

pub parametric_args_found : (known : GlobalEnv) (items : Meanings) (owner : List ℕ) (inferred : List Inferred) (maybe : List (List ℕ)) (before : List (Option DslxValue)) (so_far : List Given) (ps : List Parametric)
    (gs : List ParametricArgument) (vs ws : List DslxValue) → ParametricsMean known items owner before so_far ps → FitParametricArgs known owner before ps ws → GivenMean gs vs
    → (parametric_args_seen known owner inferred maybe (known_before before) ps gs).values ≡ Some ws → all_parametric_args items inferred so_far ps vs ≡ Some ws
parametric_args_found known items owner inferred maybe before so_far [] [] [] ws means fit h e = e
parametric_args_found known items owner inferred maybe before so_far [] [] (v ∷ vs) ws means fit h e = absurd h
parametric_args_found known items owner inferred maybe before so_far [] (g ∷ gs) vs ws means fit h e = none_some ws e
parametric_args_found known items owner inferred maybe before so_far (p ∷ ps) (g ∷ gs) [] ws means fit h e = absurd h
parametric_args_found known items owner inferred maybe before so_far (p ∷ ps) [] (v ∷ vs) ws means fit h e = absurd h
parametric_args_found known items owner inferred maybe before so_far (p ∷ ps) (g ∷ gs) (v ∷ vs) ws means fit h e =
    let t = parametric_type known owner (known_before before) in
    let r = resolved_value (of_type t g.seen.value) in
    let a = taken_apart r (parametric_args_seen known owner inferred maybe (and_parametric (known_before before) r) ps gs).values ws e in
    let one = of_its_type t g.seen.value a.first (sym (of_resolved (of_type t g.seen.value)) ∙ ap number_of a.known) in
    let same = h.0 a.first one in
    let fits = subst (FitParametricArgs known owner before (p ∷ ps)) (sym a.all) fit in
    let more = parametric_args_found known items owner inferred maybe (Some a.first ∷ before) (with_number so_far p a.first) ps gs vs a.rest (means.1 fits.0.0 a.first fits.0.1 fits.0.2) fits.1 h.1
    (ap (λ r. (parametric_args_seen known owner inferred maybe (and_parametric (known_before before) r) ps gs).values) (sym a.known) ∙ a.others) in
    (λ i. put_first (same i) (all_parametric_args items inferred (with_number so_far p (same i)) ps vs)) ∙ ap (put_first a.first) more ∙ ap Some a.all
parametric_args_found known items owner inferred maybe before so_far (p ∷ ps) [] [] ws means fit h e =
    let r = not_given known owner (known_before before) p (parametric_type known owner (known_before before)) (is_in p.name.name maybe) (parametric_args_for p.name.name inferred) in
    let a = taken_apart r.value (parametric_args_seen known owner inferred maybe (and_parametric (known_before before) r.value) ps []).values ws e in
    let one = found_otherwise known items owner inferred before so_far p (is_in p.name.name maybe) a.first means.0 (ap number_of a.known) in
    let fits = subst (FitParametricArgs known owner before (p ∷ ps)) (sym a.all) fit in
    let more = parametric_args_found known items owner inferred maybe (Some a.first ∷ before) (with_number so_far p a.first) ps [] [] a.rest (means.1 fits.0.0 a.first fits.0.1 fits.0.2) fits.1 tt
    (ap (λ r. (parametric_args_seen known owner inferred maybe (and_parametric (known_before before) r) ps []).values) (sym a.known) ∙ a.others) in
    ap (λ o. and_then o (λ v. put_first v (all_parametric_args items inferred (with_number so_far p v) ps []))) one ∙ ap (put_first a.first) more ∙ ap Some a.all
