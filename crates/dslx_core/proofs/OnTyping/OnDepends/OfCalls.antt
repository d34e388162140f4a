-- Calls by what is known in two ways.
use Rattle.std.proofs.Common.{◌≡◌, ◌++◌, ◌+◌, ℕ, suc, Bool, true, false, if◌then◌else◌, List, [], ◌∷◌, length, map, Option, Some, None, arith, refl, ap, ◌∙◌, ◌||◌, sym, subst}
use Rattle.xb_span.specs.declared.fault.Fault.{Fault}
use Rattle.xb_span.specs.declared.span.Span.{Span}
use Rattle.dslx_tree.specs.declared.expr.Expr.{Expr, out-Expr}
use Rattle.dslx_tree.specs.declared.ident.Ident.{Ident}
use Rattle.dslx_tree.specs.declared.item.Definition.TheVariants as d
use Rattle.dslx_tree.specs.declared.item.Function.{Function}
use Rattle.dslx_tree.specs.declared.item.Parametric.{Parametric}
use Rattle.dslx_meaning.specs.Callees.{AllOnes, CallKind, Calls, CountsLeading, CountsTrailing, Joins, Parity, Receives, ReceivesIf, Reverses, Sends, SendsIf, SomeOne, Updates}
use Rattle.dslx_meaning.specs.Inference.{Inferred}
use Rattle.dslx_meaning.specs.Items.{as_function, item_named}
use Rattle.dslx_meaning.specs.Lists.{and_then, is_in}
use Rattle.dslx_meaning.specs.Types.{bool_type}
use Rattle.dslx_meaning.specs.declared.ty.DslxType.{DslxType}
use Rattle.dslx_meaning.specs.declared.ty.DslxType as ty
use Rattle.dslx_meaning.specs.declared.value.DslxValue.{DslxValue}
use Rattle.dslx_meaning.specs.Rules.AggregateRules.{wanted_faults, when_all}
use Rattle.dslx_meaning.specs.Rules.CallRules as c
use Rattle.dslx_meaning.specs.Rules.CallRules.{Before, parametric_type, ParametricArgument, NotGiven, ParametricArgsSeen, Number, Resolved, Unknown, Wrong, and_parametric, and_there, builtin_typing, call_typing, call_parametric_args, call_parts_faults, call_parts_reached, callee_size, channel_seen, default_value, function_call, given_parametric_args, has_right_count, inferred_by, is_refused, typing_there, known_before, maybe_inferred, not_given, nothing_there, number_before, parametric_args_for, parametric_args_seen, of_type, operand_faults, reached_by, resolved_value, right_call, token_typing, type_there, without_default, without_parametric_args, wrong_call, JudgedThere, call_type, default_there, is_wrong_parametric, value_before}
use Rattle.dslx_meaning.specs.Rules.ConstantRules.{constant_of}
use Rattle.dslx_meaning.specs.Rules.ModuleRules.{parametrics_of}
use Rattle.dslx_meaning.specs.Rules.TypeRules.{unless_unit}
use Rattle.dslx_meaning.specs.Rules.TypeEnvs.{ExprPair, Judgement, GlobalEnv, TypeEnv, all_alone, breaks_if, faults_of_all, name_of_expr, one_and, plus_size, reached_of_all, settled, size_of_all, span_of, types_of, Instance, Signature, breaks, has_broken, limited, size_if_typed, unless_broken}
use Rattle.dslx_meaning.specs.Rules.Typings.{ArgPair}
use Rattle.dslx_core.specs.Typing.Depends.Alike.{CalleeAlikeFrom, DeclaredAlike, FunctionAlike, GlobalsAgree, OfAllParametrics, TypesAlike, in_globals}
use Rattle.dslx_core.proofs.OnTyping.OnTyped.TypingRelations.{broken_first, broken_there, none_some, same_some}
use Rattle.dslx_core.proofs.Lemmas.Typing.TypingRelations.{function_is, item_so_named}
use Rattle.dslx_core.proofs.OnTyping.OnDepends.Same.{EachSame, PartSame, all_alone_same, alone_same, frozen}

-- ---- parametrics

type_known_same : (a b : GlobalEnv) (owner : List ℕ) → DeclaredAlike a b owner → (before : Before) → parametric_type a owner before ≡ parametric_type b owner before
type_known_same a b owner h before = λ i. unless_unit (h.parameter before.values i).ty

default_same : (a b : GlobalEnv) (owner : List ℕ) → DeclaredAlike a b owner → (before : Before) (t : Option DslxType) (o : Option Expr) → default_value a owner before t o ≡ default_value b owner before t o
default_same a b owner h before t None = refl
default_same a b owner h before t (Some e) = λ i.
    if before.are_known
    then record {
      value = resolved_value (of_type t (h.default before.values i).value);
      typing = record {
        faults = (h.default before.values i).judgement.faults ++ wanted_faults (out-Expr e).span t (h.default before.values i).judgement.ty;
        reached = (h.default before.values i).judgement.reached;
      };
    }
    else without_default Unknown

not_given_same : (a b : GlobalEnv) (owner : List ℕ) → DeclaredAlike a b owner → (before : Before) (p : Parametric) (t : Option DslxType) (maybe : Bool) (ns : List ℕ) → not_given a owner before p t maybe ns ≡ not_given b owner before p t maybe ns
not_given_same a b owner h before p t true ns = refl
not_given_same a b owner h before p t false [] = default_same a b owner h before t p.default
not_given_same a b owner h before p t false (n ∷ ns) = refl

type_same : (a b : GlobalEnv) (owner : List ℕ) → DeclaredAlike a b owner → (before : Before) → type_there a owner before ≡ type_there b owner before
type_same a b owner h before = λ i. if before.are_known then record { faults = (h.parameter before.values i).faults; reached = (h.parameter before.values i).reached } else nothing_there

-- a parameter with its argument, by its type and those behind it
abbrev with_given : GlobalEnv → List ℕ → List Inferred → List (List ℕ) → Before → List Parametric → ParametricArgument → List ParametricArgument → Option DslxType → ParametricArgsSeen
with_given known owner inferred maybe before ps g gs t =
    let r = resolved_value (of_type t g.seen.value) in
    number_before r (wanted_faults g.span t g.seen.judgement.ty) (type_there known owner before) (parametric_args_seen known owner inferred maybe (and_parametric before r) ps gs)

abbrev without_given : GlobalEnv → List ℕ → List Inferred → List (List ℕ) → Before → List Parametric → NotGiven → ParametricArgsSeen
without_given known owner inferred maybe before ps r =
    number_before r.value [] (and_there (type_there known owner before) r.typing) (parametric_args_seen known owner inferred maybe (and_parametric before r.value) ps [])

parametric_args_same : (a b : GlobalEnv) (owner : List ℕ) (inferred : List Inferred) (maybe : List (List ℕ)) (before : Before) (ps : List Parametric) (gs : List ParametricArgument)
    → DeclaredAlike a b owner → parametric_args_seen a owner inferred maybe before ps gs ≡ parametric_args_seen b owner inferred maybe before ps gs
parametric_args_same a b owner inferred maybe before [] [] h = refl
parametric_args_same a b owner inferred maybe before [] (g ∷ gs) h = refl
parametric_args_same a b owner inferred maybe before (p ∷ ps) (g ∷ gs) h =
    by_type (parametric_type a owner before) (λ r. parametric_args_same a b owner inferred maybe (and_parametric before r) ps gs h) ∙ ap (with_given b owner inferred maybe before ps g gs) (type_known_same a b owner h before)
  where
    by_type : (t : Option DslxType) → ((r : Resolved) → parametric_args_seen a owner inferred maybe (and_parametric before r) ps gs ≡ parametric_args_seen b owner inferred maybe (and_parametric before r) ps gs)
        → with_given a owner inferred maybe before ps g gs t ≡ with_given b owner inferred maybe before ps g gs t
    by_type t rest =
        let r = resolved_value (of_type t g.seen.value) in
        λ i. number_before r (wanted_faults g.span t g.seen.judgement.ty) (type_same a b owner h before i) (rest r i)
parametric_args_same a b owner inferred maybe before (p ∷ ps) [] h =
    by_value (not_given a owner before p (parametric_type a owner before) (is_in p.name.name maybe) (parametric_args_for p.name.name inferred))
    (λ r. parametric_args_same a b owner inferred maybe (and_parametric before r) ps [] h)
    ∙ ap (without_given b owner inferred maybe before ps)
    (not_given_same a b owner h before p (parametric_type a owner before) (is_in p.name.name maybe) (parametric_args_for p.name.name inferred)
    ∙ ap (λ t. not_given b owner before p t (is_in p.name.name maybe) (parametric_args_for p.name.name inferred)) (type_known_same a b owner h before))
  where
    by_value : (r : NotGiven) → ((r : Resolved) → parametric_args_seen a owner inferred maybe (and_parametric before r) ps [] ≡ parametric_args_seen b owner inferred maybe (and_parametric before r) ps [])
        → without_given a owner inferred maybe before ps r ≡ without_given b owner inferred maybe before ps r
    by_value r rest = λ i. number_before r.value [] (and_there (type_same a b owner h before i) r.typing) (rest r.value i)

-- ---- calls of functions

-- a call's parametrics are as many as the item's
bound_many : (known : GlobalEnv) (owner : List ℕ) (inferred : List Inferred) (maybe : List (List ℕ)) (before : Before) (ps : List Parametric) (gs : List ParametricArgument)
    → length (parametric_args_seen known owner inferred maybe before ps gs).bound.values ≡ length ps + length before.values
bound_many known owner inferred maybe before [] [] = omega arith
bound_many known owner inferred maybe before [] (g ∷ gs) = omega arith
bound_many known owner inferred maybe before (p ∷ ps) (g ∷ gs) =
    let r = resolved_value (of_type (parametric_type known owner before) g.seen.value) in
    let rest = bound_many known owner inferred maybe (and_parametric before r) ps gs in
    rest ∙ one_more_value r
  where
    one_more_value : (r : Resolved) → length ps + length (and_parametric before r).values ≡ length (p ∷ ps) + length before.values
    one_more_value (Number v) = omega arith
    one_more_value Unknown = omega arith
    one_more_value Wrong = omega arith
bound_many known owner inferred maybe before (p ∷ ps) [] =
    let r = (not_given known owner before p (parametric_type known owner before) (is_in p.name.name maybe) (parametric_args_for p.name.name inferred)).value in
    let rest = bound_many known owner inferred maybe (and_parametric before r) ps [] in
    rest ∙ one_more_value r
  where
    one_more_value : (r : Resolved) → length ps + length (and_parametric before r).values ≡ length (p ∷ ps) + length before.values
    one_more_value (Number v) = omega arith
    one_more_value Unknown = omega arith
    one_more_value Wrong = omega arith

-- so are its values, where all are known
first_value : (r : Resolved) (o : Option (List DslxValue)) (vs : List DslxValue) (n : ℕ) → ((ws : List DslxValue) → o ≡ Some ws → length ws ≡ n) → value_before r o ≡ Some vs → length vs ≡ suc n
first_value (Number v) (Some ws) vs n h e = sym (ap length (same_some (v ∷ ws) vs e)) ∙ ap suc (h ws refl)
first_value (Number v) None vs n h e = none_some vs e
first_value Unknown o vs n h e = none_some vs e
first_value Wrong o vs n h e = none_some vs e

values_many : (known : GlobalEnv) (owner : List ℕ) (inferred : List Inferred) (maybe : List (List ℕ)) (before : Before) (ps : List Parametric) (gs : List ParametricArgument) (vs : List DslxValue)
    → (parametric_args_seen known owner inferred maybe before ps gs).values ≡ Some vs → length vs ≡ length ps
values_many known owner inferred maybe before [] [] vs e = sym (ap length (same_some [] vs e))
values_many known owner inferred maybe before [] (g ∷ gs) vs e = none_some vs e
values_many known owner inferred maybe before (p ∷ ps) (g ∷ gs) vs e =
    let r = resolved_value (of_type (parametric_type known owner before) g.seen.value) in
    first_value r (parametric_args_seen known owner inferred maybe (and_parametric before r) ps gs).values vs (length ps) (values_many known owner inferred maybe (and_parametric before r) ps gs) e
values_many known owner inferred maybe before (p ∷ ps) [] vs e =
    let r = (not_given known owner before p (parametric_type known owner before) (is_in p.name.name maybe) (parametric_args_for p.name.name inferred)).value in
    first_value r (parametric_args_seen known owner inferred maybe (and_parametric before r) ps []).values vs (length ps) (values_many known owner inferred maybe (and_parametric before r) ps []) e

-- what a call needs of its parametrics
record AreMany (known : GlobalEnv) (f : Function) (parametric_args : ParametricArgsSeen) : Type 0 where
  all : OfAllParametrics known f.name.name parametric_args.bound.values
  values : (vs : List DslxValue) → parametric_args.values ≡ Some vs → length vs ≡ length f.parametrics

are_many : (known : GlobalEnv) (f : Function) (given : List ParametricArgument) (ts : List (Option DslxType)) → item_named f.name.name known.whole.items ≡ Some (d.Function f) → AreMany known f (call_parametric_args known f given ts)
are_many known f given ts named = record {
  all =
      let none_before : length f.parametrics + 0 ≡ length f.parametrics = omega arith in
      bound_many known f.name.name (inferred_by f.arguments ts) (maybe_inferred f.arguments ts) (known_before []) f.parametrics given ∙ none_before ∙ ap (λ o. length (parametrics_of o)) (sym named);
  values = λ vs e. values_many known f.name.name (inferred_by f.arguments ts) (maybe_inferred f.arguments ts) (known_before []) f.parametrics given vs e;
}

size_same : (a b : GlobalEnv) (f : Function) → FunctionAlike a b f → (o : Option (List DslxValue)) → ((vs : List DslxValue) → o ≡ Some vs → length vs ≡ length f.parametrics) → callee_size a f.name.name o ≡ callee_size b f.name.name o
size_same a b f h None k = refl
size_same a b f h (Some vs) k = h.size vs (k vs refl)

abbrev right_by : Span → Function → List ParametricArgument → List Judgement → List Fault → ParametricArgsSeen → Option DslxType → List Fault → Option ℕ → Judgement
right_by span f given js cyclic parametric_args result operands size =
    settled span (and_then parametric_args.values (λ vs. when_all (types_of js) result))
    (call_parts_faults given js ++ cyclic ++ parametric_args.faults ++ (typing_there cyclic parametric_args).faults ++ breaks_if parametric_args.is_wrong 10 span ++ (if parametric_args.is_wrong then [] else operands))
    (call_parts_reached given js ++ (typing_there cyclic parametric_args).reached ++ reached_by (is_refused cyclic parametric_args) f.name.name parametric_args.values)
    (one_and (plus_size (size_of_all js) size))

right_same : (span : Span) (context : TypeEnv) (other : GlobalEnv) (f : Function) (given : List ParametricArgument) (es : List ExprPair) (js : List Judgement) (cyclic : List Fault) (parametric_args : ParametricArgsSeen) → FunctionAlike context.known other f → AreMany context.known f parametric_args
    → right_call span context f given es js cyclic parametric_args ≡ right_call span (in_globals context other) f given es js cyclic parametric_args
right_same span context other f given es js cyclic parametric_args h k = λ i.
    right_by span f given js cyclic parametric_args (h.declared.signature parametric_args.bound.values k.all i).result (operand_faults (h.declared.signature parametric_args.bound.values k.all i).arguments es js) (size_same context.known other f h parametric_args.values k.values i)

abbrev cyclic_call : Bool → Span → List Fault
cyclic_call cyclic span = breaks_if cyclic 3 span

-- ---- calls that rule 3 refuses see types and values alone

-- parametrics of a call, without what is judged of the other declaration
record ArgsAlike (x y : ParametricArgsSeen) : Type 0 where
  values : x.values ≡ y.values
  bound : x.bound ≡ y.bound
  is_wrong : x.is_wrong ≡ y.is_wrong
  faults : x.faults ≡ y.faults

default_value_same : (a b : GlobalEnv) (owner : List ℕ) → TypesAlike a b owner → (before : Before) (t : Option DslxType) (o : Option Expr) → (default_value a owner before t o).value ≡ (default_value b owner before t o).value
default_value_same a b owner h before t None = refl
default_value_same a b owner h before t (Some e) = by_known before.are_known
  where
    by_known : (k : Bool) → (if k then default_there a owner before.values t e else without_default Unknown).value ≡ (if k then default_there b owner before.values t e else without_default Unknown).value
    by_known true = λ i. resolved_value (of_type t (h.default before.values i))
    by_known false = refl

value_same : (a b : GlobalEnv) (owner : List ℕ) → TypesAlike a b owner → (before : Before) (p : Parametric) (t : Option DslxType) (maybe : Bool) (ns : List ℕ) → (not_given a owner before p t maybe ns).value ≡ (not_given b owner before p t maybe ns).value
value_same a b owner h before p t true ns = refl
value_same a b owner h before p t false [] = default_value_same a b owner h before t p.default
value_same a b owner h before p t false (n ∷ ns) = refl

one_more : (r : Resolved) (faults : List Fault) (d e : JudgedThere) (x y : ParametricArgsSeen) → ArgsAlike x y → ArgsAlike (number_before r faults d x) (number_before r faults e y)
one_more r faults d e x y h = record {
  values = ap (value_before r) h.values;
  bound = h.bound;
  is_wrong = ap (λ w. is_wrong_parametric r || w) h.is_wrong;
  faults = ap (λ fs. faults ++ fs) h.faults;
}

args_alike : (a b : GlobalEnv) (owner : List ℕ) (inferred : List Inferred) (maybe : List (List ℕ)) (before : Before) (ps : List Parametric) (gs : List ParametricArgument)
    → TypesAlike a b owner → ArgsAlike (parametric_args_seen a owner inferred maybe before ps gs) (parametric_args_seen b owner inferred maybe before ps gs)
args_alike a b owner inferred maybe before [] [] h = record { values = refl; bound = refl; is_wrong = refl; faults = refl }
args_alike a b owner inferred maybe before [] (g ∷ gs) h = record { values = refl; bound = refl; is_wrong = refl; faults = refl }
args_alike a b owner inferred maybe before (p ∷ ps) (g ∷ gs) h =
    subst (λ t. ArgsAlike (with_given a owner inferred maybe before ps g gs (parametric_type a owner before)) (with_given b owner inferred maybe before ps g gs t)) (ap unless_unit (h.parameter before.values))
    (by_type (parametric_type a owner before) (λ r. args_alike a b owner inferred maybe (and_parametric before r) ps gs h))
  where
    by_type : (t : Option DslxType) → ((r : Resolved) → ArgsAlike (parametric_args_seen a owner inferred maybe (and_parametric before r) ps gs) (parametric_args_seen b owner inferred maybe (and_parametric before r) ps gs))
        → ArgsAlike (with_given a owner inferred maybe before ps g gs t) (with_given b owner inferred maybe before ps g gs t)
    by_type t rest =
        let r = resolved_value (of_type t g.seen.value) in
        one_more r (wanted_faults g.span t g.seen.judgement.ty) (type_there a owner before) (type_there b owner before) (parametric_args_seen a owner inferred maybe (and_parametric before r) ps gs) (parametric_args_seen b owner inferred maybe (and_parametric before r) ps gs) (rest r)
args_alike a b owner inferred maybe before (p ∷ ps) [] h =
    let x = not_given a owner before p (parametric_type a owner before) (is_in p.name.name maybe) (parametric_args_for p.name.name inferred) in
    let y = not_given b owner before p (parametric_type b owner before) (is_in p.name.name maybe) (parametric_args_for p.name.name inferred) in
    let same : x.value ≡ y.value = value_same a b owner h before p (parametric_type a owner before) (is_in p.name.name maybe) (parametric_args_for p.name.name inferred)
    ∙ ap (λ t. (not_given b owner before p t (is_in p.name.name maybe) (parametric_args_for p.name.name inferred)).value) (ap unless_unit (h.parameter before.values)) in
    by_value x.value y.value same (and_there (type_there a owner before) x.typing) (and_there (type_there b owner before) y.typing) (λ r. args_alike a b owner inferred maybe (and_parametric before r) ps [] h)
  where
    by_value : (v w : Resolved) → v ≡ w → (d e : JudgedThere) → ((r : Resolved) → ArgsAlike (parametric_args_seen a owner inferred maybe (and_parametric before r) ps []) (parametric_args_seen b owner inferred maybe (and_parametric before r) ps []))
        → ArgsAlike (number_before v [] d (parametric_args_seen a owner inferred maybe (and_parametric before v) ps [])) (number_before w [] e (parametric_args_seen b owner inferred maybe (and_parametric before w) ps []))
    by_value v w q d e rest =
        subst (λ z. ArgsAlike (number_before v [] d (parametric_args_seen a owner inferred maybe (and_parametric before v) ps [])) (number_before z [] e (parametric_args_seen b owner inferred maybe (and_parametric before z) ps []))) q
        (one_more v [] d e (parametric_args_seen a owner inferred maybe (and_parametric before v) ps []) (parametric_args_seen b owner inferred maybe (and_parametric before v) ps []) (rest v))

-- what breaks a rule has neither type nor size, whatever else would give them
broken_same : (span : Span) (t u : Option DslxType) (faults : List Fault) (reached : List Instance) (n k : Option ℕ) → has_broken faults ≡ true → settled span t faults reached n ≡ settled span u faults reached k
broken_same span t u faults reached n k e =
    ap (λ own. limited span (record { ty = own; faults = faults; reached = reached; size = size_if_typed own n })) (none t)
    ∙ sym (ap (λ own. limited span (record { ty = own; faults = faults; reached = reached; size = size_if_typed own k })) (none u))
  where
    none : (t : Option DslxType) → unless_broken faults t ≡ None
    none t = λ i. if e i then None else t

-- what a call that breaks rule 3 breaks
abbrev refused_faults : Span → List ParametricArgument → List ExprPair → List Judgement → List Fault → Bool → Signature → List Fault
refused_faults span given es js faults wrong signature =
    ((((call_parts_faults given js ++ breaks 3 span ∷ []) ++ faults) ++ []) ++ breaks_if wrong 10 span) ++ (if wrong then [] else operand_faults signature.arguments es js)

refused_broken : (span : Span) (given : List ParametricArgument) (es : List ExprPair) (js : List Judgement) (faults : List Fault) (wrong : Bool) (signature : Signature) → has_broken (refused_faults span given es js faults wrong signature) ≡ true
refused_broken span given es js faults wrong signature =
    let parts = call_parts_faults given js ++ breaks 3 span ∷ [] in
    let operands = if◌then◌else◌ {A = List Fault} wrong [] (operand_faults signature.arguments es js) in
    broken_first (((parts ++ faults) ++ []) ++ breaks_if wrong 10 span) operands (broken_first ((parts ++ faults) ++ []) (breaks_if wrong 10 span)
    (broken_first (parts ++ faults) [] (broken_first parts faults (broken_there (call_parts_faults given js) [] 3 span))))

refused_same : (span : Span) (context : TypeEnv) (other : GlobalEnv) (f : Function) (given : List ParametricArgument) (es : List ExprPair) (js : List Judgement) (x y : ParametricArgsSeen) → TypesAlike context.known other f.name.name → ArgsAlike x y → AreMany context.known f x
    → right_call span context f given es js (breaks 3 span ∷ []) x ≡ right_call span (in_globals context other) f given es js (breaks 3 span ∷ []) y
refused_same span context other f given es js x y h k l =
    let known = context.known in
    let owner = f.name.name in
    let reached = (call_parts_reached given js ++ []) ++ [] in
    let signature : known.signature_in owner x.bound.values ≡ other.signature_in owner y.bound.values = h.signature x.bound.values l.all ∙ ap (λ (b : Before). other.signature_in owner b.values) k.bound in
    broken_same span (call_type known f x js) None (refused_faults span given es js x.faults x.is_wrong (known.signature_in owner x.bound.values)) reached (one_and (plus_size (size_of_all js) (callee_size known owner x.values))) None
    (refused_broken span given es js x.faults x.is_wrong (known.signature_in owner x.bound.values))
    ∙ (λ i. settled span None (refused_faults span given es js (k.faults i) (k.is_wrong i) (signature i)) reached None)
    ∙ broken_same span None (call_type other f y js) (refused_faults span given es js y.faults y.is_wrong (other.signature_in owner y.bound.values)) reached None (one_and (plus_size (size_of_all js) (callee_size other owner y.values)))
    (refused_broken span given es js y.faults y.is_wrong (other.signature_in owner y.bound.values))

-- a call of a function, with what its parts come to
function_same : (P : List ℕ → Bool) (span : Span) (context : TypeEnv) (other : GlobalEnv) (name : Ident) (given : List ParametricArgument) (es : List ExprPair) (js : List Judgement) → GlobalsAgree P context.known other
    → CalleeAlikeFrom context.known other context.owner name.name
    → function_call span context name given es js (as_function (item_named name.name context.known.whole.items))
    ≡ function_call span (in_globals context other) name given es js (as_function (item_named name.name other.whole.items))
function_same P span context other name given es js k h =
    by_function (as_function (item_named name.name context.known.whole.items)) refl
    ∙ ap (function_call span (in_globals context other) name given es js) (λ i. as_function (item_named name.name (k.whole i).items))
  where
    seen : GlobalEnv → Function → ParametricArgsSeen
    seen known f = call_parametric_args known f given (types_of js)

    many : (f : Function) → as_function (item_named name.name context.known.whole.items) ≡ Some f → AreMany context.known f (seen context.known f)
    many f q =
        let is = function_is (item_named name.name context.known.whole.items) f q in
        let so_named : f.name.name ≡ name.name = item_so_named context.known.whole.items name.name (d.Function f) is in
        are_many context.known f given (types_of js) (ap (λ n. item_named n context.known.whole.items) so_named ∙ is)

    cyclic : GlobalEnv → List Fault
    cyclic known = breaks_if (known.is_cyclic context.owner name.name) 3 span

    cyclic_same : cyclic context.known ≡ cyclic other
    cyclic_same = ap (λ b. breaks_if b 3 span) (k.cyclic context.owner name.name)

    by_cycle : (f : Function) → as_function (item_named name.name context.known.whole.items) ≡ Some f → (c : Bool) → context.known.is_cyclic context.owner name.name ≡ c
        → right_call span context f given es js (breaks_if c 3 span) (seen context.known f) ≡ right_call span (in_globals context other) f given es js (breaks_if c 3 span) (seen other f)
    by_cycle f q true e =
        refused_same span context other f given es js (seen context.known f) (seen other f) (h.types f q)
        (args_alike context.known other f.name.name (inferred_by f.arguments (types_of js)) (maybe_inferred f.arguments (types_of js)) (known_before []) f.parametrics given (h.types f q)) (many f q)
    by_cycle f q false e =
        let r = h.function e f q in
        right_same span context other f given es js [] (seen context.known f) r (many f q)
        ∙ (λ i. right_call span (in_globals context other) f given es js [] (parametric_args_same context.known other f.name.name (inferred_by f.arguments (types_of js)) (maybe_inferred f.arguments (types_of js)) (known_before []) f.parametrics given r.declared i))

    by_count : (f : Function) → as_function (item_named name.name context.known.whole.items) ≡ Some f → (b : Bool)
        → (if b then right_call span context f given es js (cyclic context.known) (seen context.known f) else wrong_call span given js (cyclic context.known))
        ≡ (if b then right_call span (in_globals context other) f given es js (cyclic other) (seen other f) else wrong_call span given js (cyclic other))
    by_count f q false = ap (wrong_call span given js) cyclic_same
    by_count f q true =
        by_cycle f q (context.known.is_cyclic context.owner name.name) refl ∙ (λ i. right_call span (in_globals context other) f given es js (cyclic_same i) (seen other f))

    by_function : (o : Option Function) → as_function (item_named name.name context.known.whole.items) ≡ o → function_call span context name given es js o ≡ function_call span (in_globals context other) name given es js o
    by_function None q = refl
    by_function (Some f) q = by_count f q (has_right_count f given es)

-- ---- parametric arguments

-- each is judged alike as a constant
abbrev pub EachGivenSame : TypeEnv → GlobalEnv → List ArgPair → Type 0
EachGivenSame context other [] = Unit {0}
EachGivenSame context other (a ∷ as') = (constant_of context a.1 ≡ constant_of (in_globals context other) a.1) × EachGivenSame context other as'

given_same : (context : TypeEnv) (other : GlobalEnv) (as' : List ArgPair) → EachGivenSame context other as' → given_parametric_args context as' ≡ given_parametric_args (in_globals context other) as'
given_same context other [] h = refl
given_same context other (a ∷ as') h = λ i. record { span = span_of a.1; seen = h.0 i } ∷ given_same context other as' h.1 i

-- ---- builtins and effects

tokens_same : (context : TypeEnv) (other : GlobalEnv) (es : List ExprPair) → EachSame context other es → map (token_typing context) es ≡ map (token_typing (in_globals context other)) es
tokens_same context other [] h = refl
tokens_same context other (e ∷ es) h = λ i. token_typing context (frozen e (h.0 i)) ∷ tokens_same context other es h.1 i

joining_same : (span : Span) (context : TypeEnv) (other : GlobalEnv) (es : List ExprPair) → EachSame context other es → c.joining span context es ≡ c.joining span (in_globals context other) es
joining_same span context other es h =
    ap (λ js. settled span (when_all (types_of js) (Some ty.Token)) (faults_of_all js) (reached_of_all js) (one_and (size_of_all js))) (tokens_same context other es h)

builtin_same : (kind : CallKind) (span : Span) (context : TypeEnv) (other : GlobalEnv) (es : List ExprPair) → EachSame context other es → builtin_typing kind span es context ≡ builtin_typing kind span es (in_globals context other)
builtin_same Joins span context other es h = joining_same span context other es h
builtin_same CountsLeading span context other es h = ap (λ js. c.counting span es js (c.first_operand_type js)) (all_alone_same context other es h)
builtin_same CountsTrailing span context other es h = ap (λ js. c.counting span es js (c.first_operand_type js)) (all_alone_same context other es h)
builtin_same Reverses span context other es h = ap (λ js. c.counting span es js (c.first_operand_type js)) (all_alone_same context other es h)
builtin_same Updates span context other es h = ap (c.updating span es) (all_alone_same context other es h)
builtin_same AllOnes span context other es h = ap (λ js. c.counting span es js (Some bool_type)) (all_alone_same context other es h)
builtin_same SomeOne span context other es h = ap (λ js. c.counting span es js (Some bool_type)) (all_alone_same context other es h)
builtin_same Parity span context other es h = ap (λ js. c.counting span es js (Some bool_type)) (all_alone_same context other es h)
builtin_same Calls span context other es h = ap (λ js. c.counting span es js (Some bool_type)) (all_alone_same context other es h)
builtin_same Receives span context other es h = ap (λ js. c.counting span es js (Some bool_type)) (all_alone_same context other es h)
builtin_same ReceivesIf span context other es h = ap (λ js. c.counting span es js (Some bool_type)) (all_alone_same context other es h)
builtin_same Sends span context other es h = ap (λ js. c.counting span es js (Some bool_type)) (all_alone_same context other es h)
builtin_same SendsIf span context other es h = ap (λ js. c.counting span es js (Some bool_type)) (all_alone_same context other es h)

channel_same : (context : TypeEnv) (other : GlobalEnv) (e : ExprPair) → PartSame context other e → channel_seen context e ≡ channel_seen (in_globals context other) e
channel_same context other e h = by_name (name_of_expr e)
  where
    by_name : (o : Option (List ℕ)) → c.channel_named context e o ≡ c.channel_named (in_globals context other) e o
    by_name None = λ i. record { judgement = alone_same context other e h i; channel_end = None; name = None }
    by_name (Some name) = refl

held_same : (context : TypeEnv) (other : GlobalEnv) (e : ExprPair) → PartSame context other e → c.held_typing context e ≡ c.held_typing (in_globals context other) e
held_same context other e h = λ i. c.held_typing context (frozen e (h i))

token_same : (context : TypeEnv) (other : GlobalEnv) (e : ExprPair) → PartSame context other e → token_typing context e ≡ token_typing (in_globals context other) e
token_same context other e h = λ i. token_typing context (frozen e (h i))

wrong_effect_same : (span : Span) (context : TypeEnv) (other : GlobalEnv) (given : List ParametricArgument) (es : List ExprPair) → EachSame context other es → c.wrong_effect span context given es ≡ c.wrong_effect span (in_globals context other) given es
wrong_effect_same span context other given [] h = refl
wrong_effect_same span context other given (t ∷ []) h = λ i. wrong_call span given (held_same context other t h.0 i ∷ []) []
wrong_effect_same span context other given (t ∷ x ∷ es) h = λ i. wrong_call span given (held_same context other t h.0 i ∷ (channel_same context other x h.1.0 i).judgement ∷ all_alone_same context other es h.1.1 i) []

receiving_same : (span : Span) (context : TypeEnv) (other : GlobalEnv) (es : List ExprPair) → EachSame context other es → c.receiving span context es ≡ c.receiving span (in_globals context other) es
receiving_same span context other [] h = wrong_effect_same span context other [] [] h
receiving_same span context other (t ∷ []) h = wrong_effect_same span context other [] (t ∷ []) h
receiving_same span context other (t ∷ x ∷ []) h = λ i. c.receiving span context (frozen t (h.0 i) ∷ frozen x (h.1.0 i) ∷ [])
receiving_same span context other (t ∷ x ∷ e ∷ es) h = wrong_effect_same span context other [] (t ∷ x ∷ e ∷ es) h

sending_same : (span : Span) (context : TypeEnv) (other : GlobalEnv) (es : List ExprPair) → EachSame context other es → c.sending span context es ≡ c.sending span (in_globals context other) es
sending_same span context other [] h = wrong_effect_same span context other [] [] h
sending_same span context other (t ∷ []) h = wrong_effect_same span context other [] (t ∷ []) h
sending_same span context other (t ∷ x ∷ []) h = wrong_effect_same span context other [] (t ∷ x ∷ []) h
sending_same span context other (t ∷ x ∷ e ∷ []) h = λ i. c.sending span context (frozen t (h.0 i) ∷ frozen x (h.1.0 i) ∷ frozen e (h.1.1.0 i) ∷ [])
sending_same span context other (t ∷ x ∷ e ∷ f ∷ es) h = wrong_effect_same span context other [] (t ∷ x ∷ e ∷ f ∷ es) h

receiving_if_same : (span : Span) (context : TypeEnv) (other : GlobalEnv) (es : List ExprPair) → EachSame context other es → c.receiving_if span context es ≡ c.receiving_if span (in_globals context other) es
receiving_if_same span context other [] h = wrong_effect_same span context other [] [] h
receiving_if_same span context other (t ∷ []) h = wrong_effect_same span context other [] (t ∷ []) h
receiving_if_same span context other (t ∷ x ∷ []) h = wrong_effect_same span context other [] (t ∷ x ∷ []) h
receiving_if_same span context other (t ∷ x ∷ p ∷ []) h = wrong_effect_same span context other [] (t ∷ x ∷ p ∷ []) h
receiving_if_same span context other (t ∷ x ∷ p ∷ e ∷ []) h = λ i. c.receiving_if span context (frozen t (h.0 i) ∷ frozen x (h.1.0 i) ∷ frozen p (h.1.1.0 i) ∷ frozen e (h.1.1.1.0 i) ∷ [])
receiving_if_same span context other (t ∷ x ∷ p ∷ e ∷ f ∷ es) h = wrong_effect_same span context other [] (t ∷ x ∷ p ∷ e ∷ f ∷ es) h

sending_if_same : (span : Span) (context : TypeEnv) (other : GlobalEnv) (es : List ExprPair) → EachSame context other es → c.sending_if span context es ≡ c.sending_if span (in_globals context other) es
sending_if_same span context other [] h = wrong_effect_same span context other [] [] h
sending_if_same span context other (t ∷ []) h = wrong_effect_same span context other [] (t ∷ []) h
sending_if_same span context other (t ∷ x ∷ []) h = wrong_effect_same span context other [] (t ∷ x ∷ []) h
sending_if_same span context other (t ∷ x ∷ p ∷ []) h = wrong_effect_same span context other [] (t ∷ x ∷ p ∷ []) h
sending_if_same span context other (t ∷ x ∷ p ∷ e ∷ []) h = λ i. c.sending_if span context (frozen t (h.0 i) ∷ frozen x (h.1.0 i) ∷ frozen p (h.1.1.0 i) ∷ frozen e (h.1.1.1.0 i) ∷ [])
sending_if_same span context other (t ∷ x ∷ p ∷ e ∷ f ∷ es) h = wrong_effect_same span context other [] (t ∷ x ∷ p ∷ e ∷ f ∷ es) h

-- ---- any call

unnumbered : (span : Span) (context : TypeEnv) (other : GlobalEnv) (as' : List ArgPair) (es : List ExprPair) (j k : Judgement) → EachGivenSame context other as' → EachSame context other es → j ≡ k
    → without_parametric_args span context as' es j ≡ without_parametric_args span (in_globals context other) as' es k
unnumbered span context other [] es j k h g e = e
unnumbered span context other (a ∷ as') es j k h g e = λ i. wrong_call span (given_same context other (a ∷ as') h i) (all_alone_same context other es g i) []

effect_unnumbered : (span : Span) (context : TypeEnv) (other : GlobalEnv) (as' : List ArgPair) (es : List ExprPair) (j k : Judgement) → EachGivenSame context other as' → EachSame context other es → j ≡ k
    → c.unnumbered_effect span context as' es j ≡ c.unnumbered_effect span (in_globals context other) as' es k
effect_unnumbered span context other [] es j k h g e = e
effect_unnumbered span context other (a ∷ as') es j k h g e =
    ap (λ given. c.wrong_effect span context given es) (given_same context other (a ∷ as') h) ∙ wrong_effect_same span context other (given_parametric_args (in_globals context other) (a ∷ as')) es g

-- the kind is a function of the text, and then the same is known of it
abbrev pub IfCalled : CallKind → Type 0 → Type 0
IfCalled Calls X = X
IfCalled _ X = Unit {0}

pub call_same : (P : List ℕ → Bool) (kind : CallKind) (span : Span) (name : Ident) (as' : List ArgPair) (es : List ExprPair) (on_top : Bool) (context : TypeEnv) (other : GlobalEnv) → GlobalsAgree P context.known other
    → EachGivenSame context other as' → EachSame context other es → IfCalled kind (CalleeAlikeFrom context.known other context.owner name.name)
    → call_typing kind span name as' es on_top context ≡ call_typing kind span name as' es on_top (in_globals context other)
call_same P Calls span name as' es on_top context other k g h f =
    function_same P span context other name (given_parametric_args context as') es (all_alone context es) k f
    ∙ (λ i. function_call span (in_globals context other) name (given_same context other as' g i) es (all_alone_same context other es h i) (as_function (item_named name.name other.whole.items)))
call_same P Receives span name as' es on_top context other k g h f = ap (c.only_on_top on_top span) (effect_unnumbered span context other as' es _ _ g h (receiving_same span context other es h))
call_same P ReceivesIf span name as' es on_top context other k g h f = ap (c.only_on_top on_top span) (effect_unnumbered span context other as' es _ _ g h (receiving_if_same span context other es h))
call_same P Sends span name as' es on_top context other k g h f = ap (c.only_on_top on_top span) (effect_unnumbered span context other as' es _ _ g h (sending_same span context other es h))
call_same P SendsIf span name as' es on_top context other k g h f = ap (c.only_on_top on_top span) (effect_unnumbered span context other as' es _ _ g h (sending_if_same span context other es h))
call_same P Joins span name as' es on_top context other k g h f = unnumbered span context other as' es _ _ g h (builtin_same Joins span context other es h)
call_same P CountsLeading span name as' es on_top context other k g h f = unnumbered span context other as' es _ _ g h (builtin_same CountsLeading span context other es h)
call_same P CountsTrailing span name as' es on_top context other k g h f = unnumbered span context other as' es _ _ g h (builtin_same CountsTrailing span context other es h)
call_same P Reverses span name as' es on_top context other k g h f = unnumbered span context other as' es _ _ g h (builtin_same Reverses span context other es h)
call_same P AllOnes span name as' es on_top context other k g h f = unnumbered span context other as' es _ _ g h (builtin_same AllOnes span context other es h)
call_same P SomeOne span name as' es on_top context other k g h f = unnumbered span context other as' es _ _ g h (builtin_same SomeOne span context other es h)
call_same P Parity span name as' es on_top context other k g h f = unnumbered span context other as' es _ _ g h (builtin_same Parity span context other es h)
call_same P Updates span name as' es on_top context other k g h f = unnumbered span context other as' es _ _ g h (builtin_same Updates span context other es h)
