-- Parametrics of calls with which nothing is wrong: all of them have values.
use Rattle.std.proofs.Common.{◌≡◌, ◌==◌, ◌++◌, ◌||◌, ℕ, Bool, true, false, if◌then◌else◌, List, [], ◌∷◌, map, Option, Some, None, refl, sym, ap, subst, ◌∙◌}
use mathlib.Core.Bool.{true≢false}
use Rattle.std.specs.List.{list_all}
use Rattle.xb_span.specs.declared.fault.Fault.{Fault}
use Rattle.xb_span.specs.declared.span.Span.{Span}
use Rattle.dslx_tree.specs.declared.expr.Expr.{Expr, out-Expr}
use Rattle.dslx_tree.specs.declared.item.Parametric.{Parametric}
use Rattle.dslx_meaning.specs.Lists.{and_then}
use Rattle.dslx_meaning.specs.Types.{is_unit, same_type}
use Rattle.dslx_meaning.specs.Values.{type_of_value}
use Rattle.dslx_meaning.specs.Environment.{Env}
use Rattle.dslx_meaning.specs.Inference.{Inferred}
use Rattle.dslx_meaning.specs.Meaning.{ExprDen}
use Rattle.dslx_meaning.specs.Operators.{number_value}
use Rattle.dslx_meaning.specs.declared.ty.DslxType.{DslxType}
use Rattle.dslx_meaning.specs.declared.value.UntypedLiteral.{UntypedLiteral}
use Rattle.dslx_meaning.specs.declared.value.DslxValue.{DslxValue}
use Rattle.dslx_meaning.specs.Rules.AggregateRules.{wanted_faults}
use Rattle.dslx_meaning.specs.Rules.CallRules.{ParametricArgument, Number, ParametricArgsSeen, Resolved, JudgedThere, Wrong, and_parametric, and_there, parametric_type, default_value, given_judgements, given_parametric_args, in_type, is_wrong_parametric, typing_there, known_before, not_given, nothing_there, number_before, parametric_args_for, parametric_args_seen, of_type, resolved_value, type_there, value_before}
use Rattle.dslx_meaning.specs.Rules.ConstantRules.{constant_of}
use Rattle.dslx_meaning.specs.Rules.TypeEnvs.{GlobalEnv, TypeEnv, faults_of_all, has_broken, reached_of_all}
use Rattle.dslx_meaning.specs.Rules.Typings.{ArgPair}
use Rattle.dslx_meaning.specs.Rules.PatternRules.{is_there}
use Rattle.dslx_core.specs.Typing.Typed.Complete.{EachParametricKnown, IsWellTypedPart, IsParametricKnown, IsTypeKnown}
use Rattle.dslx_core.specs.Typing.Typed.Declared.{Declarations}
use Rattle.dslx_core.specs.Typing.Typed.Given.{GivesOf}
use Rattle.dslx_core.specs.Typing.Typed.Numbers.{FitParametricArgs, GivenMean, values_behind}
use Rattle.dslx_core.specs.Typing.Typed.WellTyped.{IsWellTypedEnv, types_at}
use Rattle.dslx_core.proofs.Lemmas.Typing.Typed.{parametric_is, none_some, number_given, one_type, one_of_text, or_false, own_value, same_some, untyped_there}
use Rattle.dslx_core.specs.Typing.Sound.Sound.{EachExprGives}
use Rattle.dslx_core.proofs.OnTyping.OnSound.OfConstants.{constant_has}
use Rattle.dslx_core.proofs.OnTyping.OnSound.WellTypedParts.{all_in, none_in, passed}

-- ---- types of parameters

abbrev declared_if : Bool → DslxType → Option DslxType
declared_if b t = if b then None else Some t

type_is_known : (known : GlobalEnv) (owner : List ℕ) (before : List (Option DslxValue)) → IsTypeKnown (known.parameter_in owner before).ty → (t : DslxType) × (parametric_type known owner (known_before before) ≡ Some t)
type_is_known known owner before k = (k.0, ap (λ o. and_then o (λ t. declared_if (is_unit t) t)) k.1 ∙ ap (λ b. declared_if b k.0) k.2)

-- a parameter whose type is unknown
untyped : {X : Type 0} (known : GlobalEnv) (owner : List ℕ) (before : List (Option DslxValue)) (p : Parametric) → IsParametricKnown known owner before p → parametric_type known owner (known_before before) ≡ None
    → IsWellTypedPart known (known.parameter_in owner before) → X
untyped known owner before p k q well_typed =
    let t = type_is_known known owner before (k.typed well_typed) in
    none_some t.0 (sym q ∙ t.1)

-- the value of a parameter, of the type that is known of it
record Found (known : GlobalEnv) (owner : List ℕ) (before : List (Option DslxValue)) (r : Resolved) : Type 0 where
  value : DslxValue
  is : r ≡ Number value
  ty : DslxType
  typed : parametric_type known owner (known_before before) ≡ Some ty
  gives : GivesOf known.items.type_named ty (Some value)

-- a value of the type of its parameter
resolved_given : (known : GlobalEnv) (owner : List ℕ) (before : List (Option DslxValue)) (p : Parametric) → IsParametricKnown known owner before p → (span : Span) (v : DslxValue) → GivesOf known.items.type_named (type_of_value v) (Some v)
    → (o : Option DslxType) → parametric_type known owner (known_before before) ≡ o → IsWellTypedPart known (known.parameter_in owner before) → wanted_faults span o (Some (type_of_value v)) ≡ []
    → Found known owner before (resolved_value (of_type o (Some v)))
resolved_given known owner before p k span v own None q well_typed wanted = untyped known owner before p k q well_typed
resolved_given known owner before p k span v own (Some t) q well_typed wanted =
    let same = passed (same_type t (type_of_value v)) 9 span wanted in
    let one = one_of_text known.items.type_named t (type_of_value v) same (k.declared t (parametric_is known owner before t q)) own.declared in
    record {
      value = v;
      is = ap (λ b. resolved_value (if b then Some v else None)) same;
      ty = t;
      typed = q;
      gives = subst (λ u. GivesOf known.items.type_named u (Some v)) (sym one) own;
    }

-- ---- parameters that aren't given

abbrev or_wrong : Option DslxValue → Resolved
or_wrong o = if is_there o then resolved_value o else Wrong

number_in_type : (known : GlobalEnv) (owner : List ℕ) (before : List (Option DslxValue)) (p : Parametric) → IsParametricKnown known owner before p → (n : ℕ) (o : Option DslxType) → parametric_type known owner (known_before before) ≡ o
    → IsWellTypedPart known (known.parameter_in owner before) → is_wrong_parametric (in_type o n) ≡ false → Found known owner before (in_type o n)
number_in_type known owner before p k n None q well_typed right = untyped known owner before p k q well_typed
number_in_type known owner before p k n (Some t) q well_typed right = subst (Found known owner before) (sym same) (by_value (number_value t number) refl (ap is_wrong_parametric (sym same) ∙ right))
  where
    number : UntypedLiteral
    number = record { is_negative = false; value = n }

    same : in_type (Some t) n ≡ or_wrong (number_value t number)
    same = ap (λ o. if is_there (number_value t number) then resolved_value o else Wrong) (untyped_there t (k.narrow well_typed.faults t (parametric_is known owner before t q)) number)

    by_value : (o : Option DslxValue) → number_value t number ≡ o → is_wrong_parametric (or_wrong o) ≡ false → Found known owner before (or_wrong o)
    by_value None r e = absurd (true≢false e)
    by_value (Some v) r e =
        let d = k.declared t (parametric_is known owner before t q) in
        record { value = v; is = refl; ty = t; typed = q; gives = subst (GivesOf known.items.type_named t) r (number_given known.items.type_named t number (ap is_there r) d) }

found_default : (known : GlobalEnv) (owner : List ℕ) (before : List (Option DslxValue)) (p : Parametric) → IsParametricKnown known owner before p → (o : Option DslxType) → parametric_type known owner (known_before before) ≡ o → (e : Option Expr) → p.default ≡ e
    → IsWellTypedPart known (known.parameter_in owner before) → (default_value known owner (known_before before) o e).typing.faults ≡ []
    → list_all known.is_sound (default_value known owner (known_before before) o e).typing.reached ≡ true → is_wrong_parametric (default_value known owner (known_before before) o e).value ≡ false
    → Found known owner before (default_value known owner (known_before before) o e).value
found_default known owner before p k o q None is well_typed f r right = absurd (true≢false right)
found_default known owner before p k o q (Some e) is well_typed f r right =
    let seen = known.default_in owner before in
    let span = (out-Expr e).span in
    let s = none_in seen.judgement.faults (wanted_faults span o seen.judgement.ty) f in
    let d = k.default e is (record { faults = s.0; reached = r }) in
    let found = resolved_given known owner before p k span d.value d.own o q well_typed (ap (wanted_faults span o) (sym d.typed) ∙ s.1) in
    record { value = found.value; is = ap (λ v. resolved_value (of_type o v)) d.is ∙ found.is; ty = found.ty; typed = found.typed; gives = found.gives }

found_otherwise : (known : GlobalEnv) (owner : List ℕ) (before : List (Option DslxValue)) (p : Parametric) → IsParametricKnown known owner before p → (o : Option DslxType) → parametric_type known owner (known_before before) ≡ o → (ns : List ℕ)
    → IsWellTypedPart known (known.parameter_in owner before) → (not_given known owner (known_before before) p o false ns).typing.faults ≡ []
    → list_all known.is_sound (not_given known owner (known_before before) p o false ns).typing.reached ≡ true → is_wrong_parametric (not_given known owner (known_before before) p o false ns).value ≡ false
    → Found known owner before (not_given known owner (known_before before) p o false ns).value
found_otherwise known owner before p k o q [] well_typed f r right = found_default known owner before p k o q p.default refl well_typed f r right
found_otherwise known owner before p k o q (n ∷ ns) well_typed f r right = by_one (list_all (λ k. k == n) ns) right
  where
    by_one : (b : Bool) → is_wrong_parametric (if b then in_type o n else Wrong) ≡ false → Found known owner before (if b then in_type o n else Wrong)
    by_one true e = number_in_type known owner before p k n o q well_typed e
    by_one false e = absurd (true≢false e)

-- ---- all parameters

-- numbers that are given, with their values
pub record IsGiven (types : Declarations) (g : ParametricArgument) : Type 0 where
  pub value : DslxValue
  pub is : g.seen.value ≡ Some value
  pub typed : g.seen.judgement.ty ≡ Some (type_of_value value)
  pub own : GivesOf types (type_of_value value) (Some value)

abbrev pub EachGiven : Declarations → List ParametricArgument → Type 0
EachGiven types [] = Unit {0}
EachGiven types (g ∷ gs) = IsGiven types g × EachGiven types gs

pub record ParametricArgsKnown (known : GlobalEnv) (owner : List ℕ) (n : ParametricArgsSeen) (before : List (Option DslxValue)) (ps : List Parametric) : Type 0 where
  pub parametric_args : List DslxValue
  pub fit : FitParametricArgs known owner before ps parametric_args
  pub all : n.values ≡ Some parametric_args
  pub shown : n.bound ≡ known_before (values_behind before parametric_args)

-- what is given breaks no rule, nor does what is judged of the other declaration, and all that it reaches is sound
pub record NumbersWellTyped (known : GlobalEnv) (n : ParametricArgsSeen) : Type 0 where
  pub given : n.faults ≡ []
  pub declared : n.declared.faults ≡ []
  pub reached : list_all known.is_sound n.declared.reached ≡ true
  pub right : n.is_wrong ≡ false

-- where neither rule 3 nor rule 10 is broken, all that is judged of the other declaration is
pub typing_right : (cyclic : List Fault) (n : ParametricArgsSeen) → cyclic ≡ [] → n.is_wrong ≡ false → typing_there cyclic n ≡ n.declared
typing_right cyclic n no_cycle right = λ i. if (has_broken (no_cycle i) || right i) then nothing_there else n.declared

-- a parameter that has a value, and those behind it
behind_number : (known : GlobalEnv) (owner : List ℕ) (inferred : List Inferred) (before : List (Option DslxValue)) (p : Parametric) (ps : List Parametric) (gs : List ParametricArgument) (r : Resolved) (v : DslxValue) (t : DslxType) (faults : List Fault) (typing : JudgedThere)
    → r ≡ Number v → parametric_type known owner (known_before before) ≡ Some t → GivesOf known.items.type_named t (Some v)
    → (NumbersWellTyped known (parametric_args_seen known owner inferred [] (known_before (Some v ∷ before)) ps gs) → ParametricArgsKnown known owner (parametric_args_seen known owner inferred [] (known_before (Some v ∷ before)) ps gs) (Some v ∷ before) ps)
    → NumbersWellTyped known (number_before r faults typing (parametric_args_seen known owner inferred [] (and_parametric (known_before before) r) ps gs))
    → ParametricArgsKnown known owner (number_before r faults typing (parametric_args_seen known owner inferred [] (and_parametric (known_before before) r) ps gs)) before (p ∷ ps)
behind_number known owner inferred before p ps gs r v t faults typing e typed gives more = subst Behind (sym e) at_number
  where
    rest : Resolved → ParametricArgsSeen
    rest r = parametric_args_seen known owner inferred [] (and_parametric (known_before before) r) ps gs

    Behind : Resolved → Type 0
    Behind r = NumbersWellTyped known (number_before r faults typing (rest r)) → ParametricArgsKnown known owner (number_before r faults typing (rest r)) before (p ∷ ps)

    at_number : Behind (Number v)
    at_number f =
        let n = rest (Number v) in
        let k = more (record {
          given = (none_in faults n.faults f.given).1;
          declared = (none_in typing.faults n.declared.faults f.declared).1;
          reached = (all_in known.is_sound typing.reached n.declared.reached f.reached).1;
          right = f.right;
        }) in
        record { parametric_args = v ∷ k.parametric_args; fit = ((t, typed, gives), k.fit); all = ap (value_before (Number v)) k.all; shown = k.shown }

pub parametric_args_known : (known : GlobalEnv) (owner : List ℕ) (inferred : List Inferred) (before : List (Option DslxValue)) (ps : List Parametric) (gs : List ParametricArgument) → EachParametricKnown known owner before ps → EachGiven known.items.type_named gs
    → NumbersWellTyped known (parametric_args_seen known owner inferred [] (known_before before) ps gs) → ParametricArgsKnown known owner (parametric_args_seen known owner inferred [] (known_before before) ps gs) before ps
parametric_args_known known owner inferred before [] [] c k f = record { parametric_args = []; fit = tt; all = refl; shown = refl }
parametric_args_known known owner inferred before [] (g ∷ gs) c k f = absurd (true≢false f.right)
parametric_args_known known owner inferred before (p ∷ ps) (g ∷ gs) c k f =
    let t = parametric_type known owner (known_before before) in
    let v = resolved_value (of_type t g.seen.value) in
    let written = known.parameter_in owner before in
    let rest = parametric_args_seen known owner inferred [] (and_parametric (known_before before) v) ps gs in
    let wanted = wanted_faults g.span t g.seen.judgement.ty in
    let well_typed : IsWellTypedPart known written = record { faults = (none_in written.faults rest.declared.faults f.declared).0; reached = (all_in known.is_sound written.reached rest.declared.reached f.reached).0 } in
    let found = resolved_given known owner before p c.0 g.span k.0.value k.0.own t refl well_typed (ap (wanted_faults g.span t) (sym k.0.typed) ∙ (none_in wanted rest.faults f.given).0) in
    behind_number known owner inferred before p ps gs v found.value found.ty wanted (type_there known owner (known_before before)) (ap (λ o. resolved_value (of_type t o)) k.0.is ∙ found.is) found.typed found.gives
    (parametric_args_known known owner inferred (Some found.value ∷ before) ps gs (c.1 found.ty found.value found.typed found.gives) k.1) f
parametric_args_known known owner inferred before (p ∷ ps) [] c k f =
    let t = parametric_type known owner (known_before before) in
    let v = not_given known owner (known_before before) p t false (parametric_args_for p.name.name inferred) in
    let written = known.parameter_in owner before in
    let rest = parametric_args_seen known owner inferred [] (and_parametric (known_before before) v.value) ps [] in
    let q = none_in written.faults v.typing.faults (none_in (written.faults ++ v.typing.faults) rest.declared.faults f.declared).0 in
    let s = all_in known.is_sound written.reached v.typing.reached (all_in known.is_sound (written.reached ++ v.typing.reached) rest.declared.reached f.reached).0 in
    let right = or_false (is_wrong_parametric v.value) rest.is_wrong f.right in
    let found = found_otherwise known owner before p c.0 t refl (parametric_args_for p.name.name inferred) (record { faults = q.0; reached = s.0 }) q.1 s.1 right.0 in
    behind_number known owner inferred before p ps [] v.value found.value found.ty [] (and_there (type_there known owner (known_before before)) v.typing) found.is found.typed found.gives
    (parametric_args_known known owner inferred (Some found.value ∷ before) ps [] (c.1 found.ty found.value found.typed found.gives) tt) f

-- ---- parametric arguments that are written

pub record AreGiven (context : TypeEnv) (env : Env) (as' : List ArgPair) (ns : List ExprDen) : Type 0 where
  pub values : List DslxValue
  pub are : map (λ (x : ExprDen). x.value env) ns ≡ map Some values
  pub each : EachGiven (types_at context) (given_parametric_args context as')
  pub mean : GivenMean (given_parametric_args context as') values

pub parametric_args_given : (context : TypeEnv) (env : Env) → IsWellTypedEnv context env → (as' : List ArgPair) (ns : List ExprDen) → EachExprGives (map (λ (a : ArgPair). a.1) as') ns
    → faults_of_all (given_judgements (given_parametric_args context as')) ≡ [] → list_all context.known.is_sound (reached_of_all (given_judgements (given_parametric_args context as'))) ≡ true → AreGiven context env as' ns
parametric_args_given context env h [] [] k f r = record { values = []; are = refl; each = tt; mean = tt }
parametric_args_given context env h [] (x ∷ xs) k f r = absurd k
parametric_args_given context env h (a ∷ as') [] k f r = absurd k
parametric_args_given context env h (a ∷ as') (x ∷ xs) k f r =
    let j = (constant_of context a.1).judgement in
    let p = none_in j.faults (faults_of_all (given_judgements (given_parametric_args context as'))) f in
    let s = all_in context.known.is_sound j.reached (reached_of_all (given_judgements (given_parametric_args context as'))) r in
    let g = constant_has context env a.1 x k.0 h (record { faults = p.0; reached = s.0 }) in
    let more = parametric_args_given context env h as' xs k.1 p.1 s.1 in
    record {
      values = g.gives.value ∷ more.values;
      are = λ i. g.gives.is i ∷ more.are i;
      each = (
        record {
          value = g.gives.value;
          is = g.known;
          typed = g.typed ∙ ap Some (sym (one_type g.ty g.gives.value g.gives.of));
          own = own_value (types_at context) g.ty (x.value env) g.gives.value g.gives.is g.gives;
        },
        more.each,
      );
      mean = ((λ w e. same_some g.gives.value w (sym g.known ∙ e)), more.mean);
    }
