-- What written types mean.
use Rattle.std.proofs.Common.{◌≡◌, ◌++◌, ℕ, zero, suc, Bool, true, false, not, List, [], ◌∷◌, map, Option, Some, None, refl, sym, ap, subst, ◌∙◌}
use mathlib.Core.Bool.{true≢false}
use Rattle.xb_span.specs.declared.span.Span.{Span}
use Rattle.dslx_meaning.specs.Lists.{all_some, and_then, with_both}
use Rattle.dslx_meaning.specs.Meaning.{some_count}
use Rattle.dslx_meaning.specs.declared.ty.DslxType.{DslxType}
use Rattle.dslx_meaning.specs.declared.ty.DslxType as ty
use Rattle.dslx_meaning.specs.Rules.TypeEnvs.{TypeEnv, Judgement, ExprPair, breaks, breaks_if, settled, types_of, faults_of_all, reached_of_all}
use Rattle.dslx_meaning.specs.Rules.Typings.{TypePair}
use Rattle.dslx_meaning.specs.Rules.ConstantRules.{is_zero, CountSeen, constant_or_untyped, count_faults, count_number, count_of}
use Rattle.dslx_meaning.specs.Rules.TypeRules.{inner_type, inner_types, named_bits, counted_type, named_type, array_of}
use Rattle.dslx_core.specs.Typing.Typed.Declared.{Declarations, IsDeclared, AllDeclared}
use Rattle.dslx_core.specs.Typing.Typed.Given.{TypeMeans, EachTypeMeans}
use Rattle.dslx_core.specs.Typing.Typed.WellTyped.{types_at}
use Rattle.dslx_core.proofs.OnTyping.OnTyped.TypingRelations.{none_some, same_some, settled_type}
use Rattle.dslx_core.proofs.OnTyping.OnTyped.OneName.{list_parts, tuple_declared, array_declared}
use Rattle.dslx_core.proofs.Lemmas.Typing.Typed.OfLists.{all_there, all_are}
use Rattle.dslx_core.proofs.OnTyping.OnTyped.OfOperators.{bits_declared}
use Rattle.dslx_core.proofs.OnTyping.OnTyped.OfAggregates.{and_then_type}
use Rattle.dslx_core.proofs.OnTyping.OnTyped.OfParts.{with_both_type}

pub bits_mean : (types : Declarations) (span : Span) (s : Bool) (w : ℕ) → TypeMeans types (named_bits span s w) (Some (ty.Bits s w))
bits_mean types span s w t e =
    let q = settled_type (Some (ty.Bits s w)) (count_faults span (Some w)) t e in
    (q.1, subst (IsDeclared types) (same_some (ty.Bits s w) t q.1) (bits_declared types s w))

pub wide_means : (types : Declarations) (span : Span) (s : Bool) (n : CountSeen) (m : Option ℕ) → ((k : ℕ) → n.count ≡ Some k → m ≡ Some k)
    → TypeMeans types (counted_type span (and_then n.count (λ w. Some (ty.Bits s w))) [] n) (and_then m (λ w. Some (ty.Bits s w)))
wide_means types span s n m size t e =
    let q = settled_type (and_then n.count (λ w. Some (ty.Bits s w))) ([] ++ n.judgement.faults) t e in
    let k = and_then_type n.count (λ w. Some (ty.Bits s w)) t q.1 in
    (ap (λ o. and_then o (λ w. Some (ty.Bits s w))) (size k.0 k.1) ∙ k.2, subst (IsDeclared types) (same_some (ty.Bits s k.0) t k.2) (bits_declared types s k.0))

pub name_means : (span : Span) (context : TypeEnv) (name : List ℕ) (b : Bool) → ((t : DslxType) → types_at context name ≡ Some t → IsDeclared (types_at context) t)
    → TypeMeans (types_at context) (named_type span context name b) (types_at context name)
name_means span context name false declared t e = none_some t (settled_type None (breaks 1 span ∷ []) t e).1
name_means span context name true declared t e =
    let q = settled_type (types_at context name) (breaks_if (context.known.is_cyclic context.owner name) 3 span) t e in
    (q.1, declared t q.1)

-- the parts of a tuple
parts_mean : (types : Declarations) (context : TypeEnv) (ps : List TypePair) (us : List (Option DslxType)) (ts : List DslxType) → EachTypeMeans types context ps us → types_of (inner_types context ps) ≡ map Some ts
    → (us ≡ map Some ts) × AllDeclared types ts
parts_mean types context [] [] [] h e = (refl, tt)
parts_mean types context [] [] (t ∷ ts) h e = absurd (true≢false (sym (ap some e)))
  where
    some : List (Option DslxType) → Bool
    some [] = false
    some (x ∷ xs) = true
parts_mean types context [] (u ∷ us) ts h e = absurd h
parts_mean types context (p ∷ ps) [] ts h e = absurd h
parts_mean types context (p ∷ ps) (u ∷ us) [] h e = absurd (true≢false (ap some e))
  where
    some : List (Option DslxType) → Bool
    some [] = false
    some (x ∷ xs) = true
parts_mean types context (p ∷ ps) (u ∷ us) (t ∷ ts) h e =
    let q = list_parts (inner_type context p).ty (Some t) (types_of (inner_types context ps)) (map Some ts) e in
    let one = h.0 t q.0 in
    let more = parts_mean types context ps us ts h.1 q.1 in
    ((λ i. one.0 i ∷ more.0 i), (one.1, more.1))

pub tuple_means : (types : Declarations) (span : Span) (context : TypeEnv) (ps : List TypePair) (us : List (Option DslxType)) → EachTypeMeans types context ps us
    → TypeMeans types (settled span (and_then (all_some (types_of (inner_types context ps))) (λ ts. Some (ty.Tuple ts))) (faults_of_all (inner_types context ps)) (reached_of_all (inner_types context ps)) (Some 0))
    (and_then (all_some us) (λ ts. Some (ty.Tuple ts)))
tuple_means types span context ps us h t e =
    let typed = settled_type (and_then (all_some (types_of (inner_types context ps))) (λ ts. Some (ty.Tuple ts))) (faults_of_all (inner_types context ps)) t e in
    let k = and_then_type (all_some (types_of (inner_types context ps))) (λ ts. Some (ty.Tuple ts)) t typed.1 in
    let q = parts_mean types context ps us k.0 h (all_there (types_of (inner_types context ps)) k.0 k.1) in (
      ap (λ os. and_then (all_some os) (λ ts. Some (ty.Tuple ts))) q.0 ∙ ap (λ o. and_then o (λ ts. Some (ty.Tuple ts))) (all_are k.0) ∙ k.2,
      subst (IsDeclared types) (same_some (ty.Tuple k.0) t k.2) (tuple_declared types k.0 q.1),
    )

-- a count is no 0
counts : (o : Option ℕ) (k : ℕ) → and_then o some_count ≡ Some k → not (is_zero k) ≡ true
counts None k e = none_some k e
counts (Some zero) k e = none_some k e
counts (Some (suc n)) k e = ap (λ x. not (is_zero x)) (sym (same_some (suc n) k e))

pub array_means : (types : Declarations) (span : Span) (context : TypeEnv) (element : Judgement) (e : ExprPair) (u : Option DslxType) (m : Option ℕ) → TypeMeans types element u
    → ((k : ℕ) → (count_of context e).count ≡ Some k → m ≡ Some k)
    → TypeMeans types (array_of span element (count_of context e)) (with_both u m (λ t n. Some (ty.Array t n)))
array_means types span context element e u m means size t h =
    let n = count_of context e in
    let q = settled_type (with_both element.ty n.count (λ t n. Some (ty.Array t n))) (element.faults ++ n.judgement.faults) t h in
    let k = with_both_type element.ty n.count (λ t n. Some (ty.Array t n)) t q.1 in
    let own = means k.0 k.2 in (
      (λ i. with_both (own.0 i) (size k.1 k.3 i) (λ t n. Some (ty.Array t n))) ∙ k.4,
      subst (IsDeclared types) (same_some (ty.Array k.0 k.1) t k.4) (array_declared types k.0 k.1 (counts (count_number (constant_or_untyped context e)) k.1 k.3) own.1),
    )
