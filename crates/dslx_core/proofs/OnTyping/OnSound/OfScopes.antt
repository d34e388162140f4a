-- What types and patterns mean is one at two places at which all but locals are bound alike.
use Rattle.std.proofs.Common.{◌≡◌, ◌++◌, ℕ, length, Bool, true, false, not, if◌then◌else◌, List, [], ◌∷◌, map, Option, Some, None, refl, sym, ap, subst, ◌∙◌}
use Rattle.std.specs.Str.{bytes_eq}
use Rattle.std.specs.List.{list_all, list_any}
use Rattle.xb_span.specs.declared.span.Span.{Span}
use Rattle.dslx_tree.specs.declared.expr.Expr.{Expr}
use Rattle.dslx_tree.specs.declared.ident.Ident.{Ident}
use Rattle.dslx_meaning.specs.Lists.{all_some, and_then, is_in, with_both}
use Rattle.dslx_meaning.specs.Values.{elements_of, same_value}
use Rattle.dslx_meaning.specs.Environment.{Env, bind, given_in}
use Rattle.dslx_meaning.specs.Items.{item_named}
use Rattle.dslx_meaning.specs.Meaning as m
use Rattle.dslx_meaning.specs.Meaning.{ValueDen, ExprDen, PatternDen, TypeDen, all_names, count_in, fit_each, fit_value, size_of, some_count, value_of}
use Rattle.dslx_meaning.specs.Operators.{number_value}
use Rattle.dslx_meaning.specs.declared.ty.DslxType as ty
use Rattle.dslx_meaning.specs.declared.ty.DslxType.{DslxType}
use Rattle.dslx_meaning.specs.declared.value.UntypedLiteral.{UntypedLiteral}
use Rattle.dslx_meaning.specs.declared.value.DslxValue.{DslxValue}
use Rattle.dslx_meaning.specs.Rules.AggregateRules.{number_typing, range_faults}
use Rattle.dslx_meaning.specs.Rules.ConstantRules.{ConstantSeen, CountSeen, untyped_typing, constant_of, count_faults, count_number, count_of, count_type_faults, count_with, names_a_bound, names_a_local, names_a_member, number_of_value, size_faults}
use Rattle.dslx_meaning.specs.Rules.TypeEnvs.{ExprPair, Judgement, TypeEnv, Typed, alone, untyped_of, breaks_if, faults_of_all, reached_of_all, settled, span_of, types_of}
use Rattle.dslx_meaning.specs.Rules.Typings.{PatternPair, TypeExprTyping, TypePair}
use Rattle.dslx_meaning.specs.Rules.Mentions.{AsType, free_names, is_of_use, mentioned}
use Rattle.dslx_meaning.specs.Rules.NameRules.{member_typing}
use Rattle.dslx_meaning.specs.Rules.PatternRules.{first_part_type, is_there, name_pattern, nothing_bound, one_value, other_part_types, part_types, parts_typing, shape_faults, tuple_faults, tuple_pattern}
use Rattle.dslx_meaning.specs.Rules.TypeRules.{array_of, counted_type, inner_type, inner_types, named_type, span_of_type, unit_faults}
use Rattle.dslx_core.specs.Typing.Laws.Agreement.{AreBoundAlike}
use Rattle.dslx_core.proofs.Lemmas.Typing.Laws.{bound_alike, value_depends}
use Rattle.dslx_core.specs.Typing.Typed.Complete.{IsWellTypedPart}
use Rattle.dslx_core.specs.Typing.Typed.InTypeEnv.{local_names}
use Rattle.dslx_core.proofs.Lemmas.Typing.Typed.{or_false}
use Rattle.dslx_core.specs.Typing.Sound.Scopes.{EachPatternSeesAlike, FitsAlike, IsWellTypedPattern, PatternSeesAlike, SeeAlike, TypeSeesAlike}
use Rattle.dslx_core.proofs.OnTyping.OnSound.WellTypedParts.{all_in, none_in, none_in_three, not_broken, settled_well_typed}

-- ---- expressions that name no local

free_alike : (context : TypeEnv) (a b : Env) → SeeAlike context a b → (names : List (List ℕ)) → list_any (λ name. is_in name (local_names context)) names ≡ false → AreBoundAlike names a.bound b.bound
free_alike context a b h [] e = tt
free_alike context a b h (n ∷ ns) e =
    let q = or_false (is_in n (local_names context)) (list_any (λ name. is_in name (local_names context)) ns) e in
    (h.outside n q.0, free_alike context a b h ns q.1)

value_alike : (context : TypeEnv) (a b : Env) (e : Expr) → SeeAlike context a b → list_any (λ name. is_in name (local_names context)) (free_names e) ≡ false → value_of e a ≡ value_of e b
value_alike context a b e h f =
    let at : Env = record { items = context.known.items; bound = a.bound } in
    let to : Env = record { items = context.known.items; bound = b.bound } in
    (λ i. value_of e (record { items = h.items i; bound = a.bound }))
    ∙ value_depends e [] at to tt (bound_alike context.known.items a.bound b.bound h.constants (mentioned e []) (free_alike context a b h (free_names e) f))
    ∙ (λ i. value_of e (record { items = sym h.others i; bound = b.bound }))

-- ---- widths and sizes

abbrev seen_by : TypeEnv → ExprPair → Option UntypedLiteral → ConstantSeen
seen_by context e None = constant_of context e
seen_by context e (Some number) = record { judgement = untyped_typing; bare = Some number; value = None }

abbrev counted_by : TypeEnv → ExprPair → Option UntypedLiteral → CountSeen
counted_by context e o = count_with (span_of e) (seen_by context e o) (count_number (seen_by context e o))

count_alike : (context : TypeEnv) (a b : Env) (e : ExprPair) (x : ExprDen) → m.denotation e.0 ≡ x → SeeAlike context a b → IsWellTypedPart context.known (count_of context e).judgement → size_of x a ≡ size_of x b
count_alike context a b e x is h well_typed = subst (λ (y : ExprDen). size_of y a ≡ size_of y b) is (by_untyped (untyped_of e) refl well_typed)
  where
    by_untyped : (o : Option UntypedLiteral) → untyped_of e ≡ o → IsWellTypedPart context.known (counted_by context e o).judgement → size_of (m.denotation e.0) a ≡ size_of (m.denotation e.0) b
    by_untyped None q f =
        let c = constant_of context e in
        let j = alone context e in
        let local = breaks_if (names_a_local context e) 5 (span_of e) in
        let size = size_faults context.known (span_of e).to (record j { faults = j.faults ++ local }) in
        let p = none_in_three c.judgement.faults (count_type_faults (span_of e) c.judgement.ty) (count_faults (span_of e) (number_of_value c.value)) f.faults in
        let names = (or_false (names_a_bound context e) (names_a_member context e) (not_broken (names_a_local context e) 5 (span_of e) (none_in_three j.faults local size p.0).1)).0 in
        ap (λ v. and_then (count_in (untyped_of e) v) some_count) (value_alike context a b e.0 h names)
    by_untyped (Some number) q f =
        ap (λ o. and_then (count_in o (value_of e.0 a)) some_count) q ∙ sym (ap (λ o. and_then (count_in o (value_of e.0 b)) some_count) q)

-- ---- types

pub wide_alike : (span : Span) (s : Bool) (e : ExprPair) (x : ExprDen) → m.denotation e.0 ≡ x
    → TypeSeesAlike (λ context. counted_type span (and_then (count_of context e).count (λ w. Some (ty.Bits s w))) [] (count_of context e)) (λ env. and_then (size_of x env) (λ w. Some (ty.Bits s w)))
wide_alike span s e x is context a b h well_typed =
    let n = count_of context e in
    let q = settled_well_typed context.known span (and_then n.count (λ w. Some (ty.Bits s w))) n.judgement.faults n.judgement.reached (Some 0) well_typed in
    ap (λ o. and_then o (λ w. Some (ty.Bits s w))) (count_alike context a b e x is h (record { faults = q.faults; reached = q.reached }))

pub name_alike : (span : Span) (name : List ℕ) → TypeSeesAlike (λ context. named_type span context name (is_of_use AsType (item_named name context.known.whole.items))) (λ env. env.items.type_named name)
name_alike span name context a b h well_typed = (λ i. (h.items i).type_named name) ∙ (λ i. (sym h.others i).type_named name)

abbrev pub EachTypeSeesAlike : List TypePair → List TypeDen → Type 0
EachTypeSeesAlike [] [] = Unit {0}
EachTypeSeesAlike (p ∷ ps) (f ∷ fs) = TypeSeesAlike p.1 f × EachTypeSeesAlike ps fs
EachTypeSeesAlike [] (f ∷ fs) = ⊥
EachTypeSeesAlike (p ∷ ps) [] = ⊥

inner_alike : (context : TypeEnv) (a b : Env) → SeeAlike context a b → (p : TypePair) (f : TypeDen) → TypeSeesAlike p.1 f → IsWellTypedPart context.known (inner_type context p) → f a ≡ f b
inner_alike context a b h p f k well_typed =
    let j = p.1 context in
    k context a b h (record { faults = (none_in j.faults (unit_faults (span_of_type p) j.ty) well_typed.faults).0; reached = well_typed.reached })

each_alike : (context : TypeEnv) (a b : Env) → SeeAlike context a b → (ps : List TypePair) (fs : List TypeDen) → EachTypeSeesAlike ps fs → faults_of_all (inner_types context ps) ≡ []
    → list_all context.known.is_sound (reached_of_all (inner_types context ps)) ≡ true → map (λ (t : TypeDen). t a) fs ≡ map (λ (t : TypeDen). t b) fs
each_alike context a b h [] [] k f r = refl
each_alike context a b h [] (g ∷ gs) k f r = absurd k
each_alike context a b h (p ∷ ps) [] k f r = absurd k
each_alike context a b h (p ∷ ps) (g ∷ gs) k f r =
    let first = inner_type context p in
    let q = none_in first.faults (faults_of_all (inner_types context ps)) f in
    let s = all_in context.known.is_sound first.reached (reached_of_all (inner_types context ps)) r in
    let one = inner_alike context a b h p g k.0 (record { faults = q.0; reached = s.0 }) in
    let more = each_alike context a b h ps gs k.1 q.1 s.1 in
    λ i. one i ∷ more i

pub tuple_alike : (span : Span) (ps : List TypePair) (fs : List TypeDen) → EachTypeSeesAlike ps fs
    → TypeSeesAlike (λ context. settled span (and_then (all_some (types_of (inner_types context ps))) (λ ts. Some (ty.Tuple ts))) (faults_of_all (inner_types context ps)) (reached_of_all (inner_types context ps)) (Some 0))
    (λ env. and_then (all_some (map (λ (t : TypeDen). t env) fs)) (λ ts. Some (ty.Tuple ts)))
tuple_alike span ps fs k context a b h well_typed =
    let js = inner_types context ps in
    let q = settled_well_typed context.known span (and_then (all_some (types_of js)) (λ ts. Some (ty.Tuple ts))) (faults_of_all js) (reached_of_all js) (Some 0) well_typed in
    ap (λ os. and_then (all_some os) (λ ts. Some (ty.Tuple ts))) (each_alike context a b h ps fs k q.faults q.reached)

pub array_alike : (span : Span) (p : TypePair) (f : TypeDen) (e : ExprPair) (x : ExprDen) → TypeSeesAlike p.1 f → m.denotation e.0 ≡ x
    → TypeSeesAlike (λ context. array_of span (inner_type context p) (count_of context e)) (λ env. with_both (f env) (size_of x env) (λ t n. Some (ty.Array t n)))
array_alike span p f e x k is context a b h well_typed =
    let element = inner_type context p in
    let n = count_of context e in
    let r = all_in context.known.is_sound element.reached n.judgement.reached well_typed.reached in
    let own = with_both element.ty n.count (λ t n. Some (ty.Array t n)) in
    let q = settled_well_typed context.known span own (element.faults ++ n.judgement.faults) n.judgement.reached (Some 0) (record { faults = well_typed.faults; reached = r.1 }) in
    let s = none_in element.faults n.judgement.faults q.faults in
    let one = inner_alike context a b h p f k (record { faults = s.0; reached = r.0 }) in
    let size = count_alike context a b e x is h (record { faults = s.1; reached = r.1 }) in
    λ i. with_both (one i) (size i) (λ t n. Some (ty.Array t n))

-- a number with a type
pub number_alike : (span : Span) (j : TypeExprTyping) (f : TypeDen) (number : UntypedLiteral) → TypeSeesAlike j f → (context : TypeEnv) (a b : Env) → SeeAlike context a b → IsWellTypedPart context.known (number_typing span (Some (j context)) number)
    → and_then (f a) (λ t. number_value t number) ≡ and_then (f b) (λ t. number_value t number)
number_alike span j f number k context a b h well_typed =
    let written = j context in
    let wrong = range_faults span written.ty number in
    ap (λ o. and_then o (λ t. number_value t number)) (k context a b h (record { faults = (none_in written.faults wrong well_typed.faults).0; reached = well_typed.reached }))

-- ---- patterns

value_fits_alike : (context : TypeEnv) (a b : Env) (v : DslxValue) (x y : Option DslxValue) → SeeAlike context a b → x ≡ y → FitsAlike context (fit_value x v a) (fit_value y v b)
value_fits_alike context a b v x y h e = subst (λ z. FitsAlike context (fit_value x v a) (fit_value z v b)) e (by_value x)
  where
    by_test : (t : Bool) → FitsAlike context (if t then Some a else None) (if t then Some b else None)
    by_test true = h
    by_test false = tt

    by_value : (o : Option DslxValue) → FitsAlike context (fit_value o v a) (fit_value o v b)
    by_value None = tt
    by_value (Some w) = by_test (same_value v w)

pub wild_alike : PatternSeesAlike (λ may_fail context t names locals. record (nothing_bound names locals) { size = 1 }) (record { names = []; fits = λ place v env. Some env })
wild_alike may_fail context t names locals place other a b v at h well_typed = h

pub one_value_alike : (span : Span) (own : TypeEnv → Judgement) (known : TypeEnv → Bool) (value : Env → ValueDen)
    → ((context : TypeEnv) (place other a b : Env) → SeeAlike context place other → SeeAlike context a b → IsWellTypedPart context.known (own context) → value place a ≡ value other b)
    → PatternSeesAlike (λ may_fail context t names locals. one_value span may_fail t names locals (own context) (known context)) (record { names = []; fits = λ place v env. fit_value (value place env) v env })
one_value_alike span own known value is may_fail context t names locals place other a b v at h well_typed =
    value_fits_alike context a b v (value place a) (value other b) h
    (is context place other a b at h (record { faults = (none_in_three (own context).faults (shape_faults span t (own context).ty) (breaks_if (not may_fail) 8 span) well_typed.faults).0; reached = well_typed.reached }))

pub member_alike : (span : Span) (e a : Ident)
    → PatternSeesAlike (λ may_fail context t names locals. one_value span may_fail t names locals (member_typing context e a) (is_there (context.known.items.member e.name a.name)))
    (record { names = []; fits = λ place v env. fit_value (env.items.member e.name a.name) v env })
member_alike span e a = one_value_alike span (λ context. member_typing context e a) (λ context. is_there (context.known.items.member e.name a.name)) (λ place env. env.items.member e.name a.name)
    (λ context place other x y at h well_typed. (λ i. (h.items i).member e.name a.name) ∙ (λ i. (sym h.others i).member e.name a.name))

-- one more name, bound alike
bound_more : (context : TypeEnv) (a b : Env) (name : List ℕ) (v : DslxValue) → SeeAlike context a b → SeeAlike context (bind name v a) (bind name v b)
bound_more context a b name v h = record {
  items = h.items;
  others = h.others;
  outside = λ n e. same n (bytes_eq n name) (h.outside n e);
  constants = λ n c. same n (bytes_eq n name) (h.constants n c);
}
  where
    same : (n : List ℕ) (t : Bool) → given_in n a.bound ≡ given_in n b.bound → (if t then Some v else given_in n a.bound) ≡ (if t then Some v else given_in n b.bound)
    same n true e = refl
    same n false e = e

pub name_pattern_alike : (span : Span) (name : List ℕ)
    → PatternSeesAlike (λ may_fail context t names locals. name_pattern span may_fail context t names locals name (context.known.items.is_constant name))
    (record { names = name ∷ []; fits = λ place v env. if env.items.is_constant name then fit_value (env.items.constant name) v env else Some (bind name v env) })
name_pattern_alike span name may_fail context t names locals place other a b v at h well_typed =
    subst (λ x. FitsAlike context x (fits b)) (sym (ap (λ k. by_kind k a) (λ i. (h.items i).is_constant name)))
    (subst (λ y. FitsAlike context (by_kind (context.known.items.is_constant name) a) y) (sym (ap (λ k. by_kind k b) (λ i. (h.others i).is_constant name)))
    (alike (context.known.items.is_constant name) refl))
  where
    by_kind : Bool → Env → Option Env
    by_kind k env = if k then fit_value (env.items.constant name) v env else Some (bind name v env)

    fits : Env → Option Env
    fits env = by_kind (env.items.is_constant name) env

    alike : (k : Bool) → context.known.items.is_constant name ≡ k → FitsAlike context (by_kind k a) (by_kind k b)
    alike true q = value_fits_alike context a b v (a.items.constant name) (b.items.constant name) h ((λ i. (h.items i).constant name) ∙ (λ i. (sym h.others i).constant name))
    alike false q = bound_more context a b name v h

-- parts, each behind those before it
parts_alike : (ps : List PatternPair) (ms : List PatternDen) → EachPatternSeesAlike ps ms → (may_fail : Bool) (context : TypeEnv) (ts : Option (List DslxType)) (names : List (List ℕ)) (locals : List Typed) (place other a b : Env) (vs : List DslxValue)
    → SeeAlike context place other → SeeAlike context a b → IsWellTypedPattern context (parts_typing may_fail context ps ts names locals) → FitsAlike context (fit_each place ms vs a) (fit_each other ms vs b)
parts_alike [] [] k may_fail context ts names locals place other a b [] at h well_typed = h
parts_alike [] [] k may_fail context ts names locals place other a b (v ∷ vs) at h well_typed = tt
parts_alike [] (x ∷ ms) k may_fail context ts names locals place other a b vs at h well_typed = absurd k
parts_alike (p ∷ ps) [] k may_fail context ts names locals place other a b vs at h well_typed = absurd k
parts_alike (p ∷ ps) (x ∷ ms) k may_fail context ts names locals place other a b [] at h well_typed = tt
parts_alike (p ∷ ps) (x ∷ ms) k may_fail context ts names locals place other a b (v ∷ vs) at h well_typed =
    let first = p.1 may_fail context (first_part_type ts) names locals in
    let rest = parts_typing may_fail context ps (other_part_types ts) first.names first.locals in
    let q = none_in first.faults rest.faults well_typed.faults in
    let r = all_in context.known.is_sound first.reached rest.reached well_typed.reached in
    by_first (x.fits place v a) (x.fits other v b) (k.0.1 may_fail context (first_part_type ts) names locals place other a b v at h (record { faults = q.0; reached = r.0 }))
    (λ c d more. parts_alike ps ms k.1 may_fail context (other_part_types ts) first.names first.locals place other c d vs at more (record { faults = q.1; reached = r.1 }))
  where
    by_first : (c d : Option Env) → FitsAlike context c d → ((c d : Env) → SeeAlike context c d → FitsAlike context (fit_each place ms vs c) (fit_each other ms vs d))
        → FitsAlike context (and_then c (fit_each place ms vs)) (and_then d (fit_each other ms vs))
    by_first None None e go = tt
    by_first (Some c) (Some d) e go = go c d e
    by_first None (Some d) e go = absurd e
    by_first (Some c) None e go = absurd e

pub tuple_pattern_alike : (span : Span) (ps : List PatternPair) (ms : List PatternDen) → EachPatternSeesAlike ps ms
    → PatternSeesAlike (λ may_fail context t names locals. tuple_pattern span t (part_types (length ps) t) (parts_typing may_fail context ps (part_types (length ps) t) names locals))
    (record { names = all_names ms; fits = λ place v env. and_then (elements_of v) (λ vs. fit_each place ms vs env) })
tuple_pattern_alike span ps ms k may_fail context t names locals place other a b v at h well_typed = by_elements (elements_of v)
  where
    by_elements : (o : Option (List DslxValue)) → FitsAlike context (and_then o (λ vs. fit_each place ms vs a)) (and_then o (λ vs. fit_each other ms vs b))
    by_elements None = tt
    by_elements (Some vs) =
        parts_alike ps ms k may_fail context (part_types (length ps) t) names locals place other a b vs at h
        (record { faults = (none_in (tuple_faults span t (part_types (length ps) t)) (parts_typing may_fail context ps (part_types (length ps) t) names locals).faults well_typed.faults).1; reached = well_typed.reached })
