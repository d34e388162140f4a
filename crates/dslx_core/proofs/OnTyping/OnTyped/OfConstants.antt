-- What the rules know of a constant is the value that it has at its place.
use Rattle.std.proofs.Common.{◌≡◌, ◌&&◌, ◌++◌, ℕ, Bool, true, false, if◌then◌else◌, List, [], ◌∷◌, map, Option, Some, None, refl, sym, ap, ◌∙◌}
use mathlib.Core.Bool.{true≢false}
use Rattle.std.specs.Str.{bytes_eq}
use Rattle.std.specs.List.{list_any, list_all}
use Rattle.std.proofs.lemmas.Slice.Eq.{bytes_eq-Decides}
use Rattle.xb_span.specs.declared.span.Span.{Span}
use Rattle.xb_span.specs.declared.fault.Fault.{Fault}
use Rattle.dslx_tree.specs.declared.expr.Expr.{Expr}
use Rattle.dslx_meaning.specs.Lists.{and_then, is_in}
use Rattle.dslx_meaning.specs.Values.{unsigned_of}
use Rattle.dslx_meaning.specs.Operators.{index_number}
use Rattle.dslx_meaning.specs.Environment.{Given, given_in}
use Rattle.dslx_meaning.specs.Meaning.{denotation, value_of, count_in, some_count, size_of, bound_in, bound_of}
use Rattle.dslx_meaning.specs.declared.ty.DslxType.{DslxType}
use Rattle.dslx_meaning.specs.declared.value.DslxValue.{DslxValue}
use Rattle.dslx_meaning.specs.declared.value.UntypedLiteral.{UntypedLiteral}
use Rattle.dslx_meaning.specs.Rules.Mentions.{mentioned, free_names}
use Rattle.dslx_meaning.specs.Rules.TypeEnvs.{TypeEnv, Typed, Judgement, ExprPair, breaks_if, alone, span_of, untyped_of, constant_env, unhidden, with_typed}
use Rattle.dslx_meaning.specs.Rules.ConstantRules.{is_empty, is_sound_here, names_a_bound, names_a_local, names_a_member, ConstantSeen, constant_typing, value_if_whole, constant_of, untyped_typing, constant_or_untyped, size_faults, number_of_value, untyped_count, count_of}
use Rattle.dslx_meaning.specs.Rules.OperatorRules.{bound_number}
use Rattle.dslx_core.specs.Typing.Laws.Agreement.{AreBoundAlike}
use Rattle.dslx_core.proofs.Lemmas.Typing.Laws.{and_true}
use Rattle.dslx_core.proofs.Lemmas.Typing.Laws.{value_depends, bound_alike}
use Rattle.dslx_core.specs.Typing.Typed.Complete.{IsWellTypedPart}
use Rattle.dslx_core.specs.Typing.Typed.InTypeEnv.{local_names, IsInTypeEnv, env_there}
use Rattle.dslx_core.proofs.OnTyping.OnTyped.TypingRelations.{none_some, or_false}

-- ---- names that constants see

-- of the parametrics that no local hides
pub shown : (locals : List Typed) (parametric_args : List Given) (name : List ℕ) → is_in name (map (λ (l : Typed). l.name) locals) ≡ false → given_in name (unhidden locals parametric_args) ≡ given_in name parametric_args
shown locals [] name e = refl
shown locals (g ∷ gs) name e = by_hidden (is_in g.name (map (λ (l : Typed). l.name) locals)) refl (shown locals gs name e)
  where
    same : (b : Bool) → is_in g.name (map (λ (l : Typed). l.name) locals) ≡ b → bytes_eq name g.name ≡ true → b ≡ false
    same b q h = sym q ∙ ap (λ n. is_in n (map (λ (l : Typed). l.name) locals)) (sym ((bytes_eq-Decides name g.name).0 h)) ∙ e

    hidden : (b : Bool) → bytes_eq name g.name ≡ b → is_in g.name (map (λ (l : Typed). l.name) locals) ≡ true → given_in name (unhidden locals gs) ≡ given_in name gs
        → given_in name (unhidden locals gs) ≡ (if b then Some g.value else given_in name gs)
    hidden true h q rest = absurd (true≢false (same true q h))
    hidden false h q rest = rest

    by_hidden : (b : Bool) → is_in g.name (map (λ (l : Typed). l.name) locals) ≡ b → given_in name (unhidden locals gs) ≡ given_in name gs
        → given_in name (if b then unhidden locals gs else g ∷ unhidden locals gs) ≡ given_in name (g ∷ gs)
    by_hidden true q rest = hidden (bytes_eq name g.name) refl q rest
    by_hidden false q rest = ap (λ o. if bytes_eq name g.name then Some g.value else o) rest

-- what no parametric is, no shown one is
pub none_shown : (locals : List Typed) (parametric_args : List Given) (name : List ℕ) → given_in name parametric_args ≡ None → given_in name (unhidden locals parametric_args) ≡ None
none_shown locals [] name e = refl
none_shown locals (g ∷ gs) name e = by_name (bytes_eq name g.name) refl e (none_shown locals gs name)
  where
    by_name : (b : Bool) → bytes_eq name g.name ≡ b → (if b then Some g.value else given_in name gs) ≡ None → (given_in name gs ≡ None → given_in name (unhidden locals gs) ≡ None)
        → given_in name (unhidden locals (g ∷ gs)) ≡ None
    by_name true q h rest = none_some g.value (sym h)
    by_name false q h rest = by_hidden (is_in g.name (map (λ (l : Typed). l.name) locals)) (rest h)
      where
        by_hidden : (b : Bool) → given_in name (unhidden locals gs) ≡ None → given_in name (if b then unhidden locals gs else g ∷ unhidden locals gs) ≡ None
        by_hidden true k = k
        by_hidden false k = ap (λ b. if b then Some g.value else given_in name (unhidden locals gs)) q ∙ k

-- free names that are no locals
free_alike : (context : TypeEnv) (bound : List Given) → IsInTypeEnv context bound → (names : List (List ℕ)) → list_any (λ name. is_in name (local_names context)) names ≡ false
    → AreBoundAlike names (unhidden context.locals context.parametric_args) bound
free_alike context bound h [] e = tt
free_alike context bound h (n ∷ ns) e =
    let q = or_false (is_in n (local_names context)) (list_any (λ name. is_in name (local_names context)) ns) e in
    (shown context.locals context.parametric_args n q.0 ∙ sym (h.others n q.0), free_alike context bound h ns q.1)

-- a value that depends on no local is the same where only parametrics are in sight
pub same_at_place : (context : TypeEnv) (bound : List Given) (e : Expr) → IsInTypeEnv context bound → list_any (λ name. is_in name (local_names context)) (free_names e) ≡ false
    → value_of e (constant_env context) ≡ value_of e (env_there context bound)
same_at_place context bound e h f =
    value_depends e [] (constant_env context) (env_there context bound) tt
    (bound_alike context.known.items (unhidden context.locals context.parametric_args) bound
    (λ name c. shown context.locals context.parametric_args name (h.hides name c) ∙ sym (h.others name (h.hides name c))) (mentioned e [])
    (free_alike context bound h (free_names e) f))

-- ---- constants

empty_parts : (fs gs : List Fault) → is_empty (fs ++ gs) ≡ true → (is_empty fs ≡ true) × (is_empty gs ≡ true)
empty_parts [] gs e = (refl, e)
empty_parts (f ∷ fs) gs e = absurd (true≢false (sym e))

no_rule : (p : Bool) (rule : ℕ) (span : Span) → is_empty (breaks_if p rule span) ≡ true → p ≡ false
no_rule true rule span e = absurd (true≢false (sym e))
no_rule false rule span e = refl

pub constant_is_denoted : (context : TypeEnv) (bound : List Given) (e : ExprPair) (v : DslxValue) → IsInTypeEnv context bound → (constant_of context e).value ≡ Some v → value_of e.0 (env_there context bound) ≡ Some v
constant_is_denoted context bound e v h k = by_test (is_sound_here context.known j) refl k
  where
    j : Judgement
    j = constant_typing context e

    whole : (o : Option DslxType) (size : Option ℕ) → and_then o (λ t. and_then size (λ n. value_of e.0 (constant_env context))) ≡ Some v → value_of e.0 (constant_env context) ≡ Some v
    whole None size q = none_some v q
    whole (Some t) None q = none_some v q
    whole (Some t) (Some n) q = q

    by_test : (b : Bool) → is_sound_here context.known j ≡ b → (if b then value_if_whole j (value_of e.0 (constant_env context)) else None) ≡ Some v → value_of e.0 (env_there context bound) ≡ Some v
    by_test false q r = none_some v r
    by_test true q r =
        let own = (alone context e).faults ++ breaks_if (names_a_local context e) 5 (span_of e) in
        let none = and_true (is_empty j.faults) (list_all context.known.is_sound j.reached) q in
        let first = empty_parts own (size_faults context.known (span_of e).to (record (alone context e) { faults = own })) none.0 in
        let names = (or_false (names_a_bound context e) (names_a_member context e) (no_rule (names_a_local context e) 5 (span_of e) (empty_parts (alone context e).faults (breaks_if (names_a_local context e) 5 (span_of e)) first.0).1)).0 in
        sym (same_at_place context bound e.0 h names) ∙ whole j.ty j.size r

-- what breaks nothing and has a type, a size and a value at its place is known
pub denoted_is_known : (context : TypeEnv) (bound : List Given) (e : ExprPair) (t : DslxType) (n : ℕ) (v : DslxValue) → IsInTypeEnv context bound → IsWellTypedPart context.known (constant_of context e).judgement
    → (constant_typing context e).ty ≡ Some t → (constant_typing context e).size ≡ Some n → value_of e.0 (env_there context bound) ≡ Some v → (constant_of context e).value ≡ Some v
denoted_is_known context bound e t n v h well_typed own size k =
    let j = constant_typing context e in
    let faults = (alone context e).faults ++ breaks_if (names_a_local context e) 5 (span_of e) in
    let more = size_faults context.known (span_of e).to (record (alone context e) { faults = faults }) in
    let empty = ap is_empty well_typed.faults in
    let names = (or_false (names_a_bound context e) (names_a_member context e) (no_rule (names_a_local context e) 5 (span_of e) (empty_parts (alone context e).faults (breaks_if (names_a_local context e) 5 (span_of e)) (empty_parts faults more empty).0).1)).0 in
    (λ i. if (empty i && well_typed.reached i) then and_then (own i) (λ t. and_then (size i) (λ n. same_at_place context bound e.0 h names i)) else None) ∙ k

-- ---- sizes and bounds

-- a count, by the number that the expression may be
abbrev count_by : ConstantSeen → Option UntypedLiteral → Option ℕ
count_by c None = number_of_value c.value
count_by c (Some number) = Some (untyped_count number)

abbrev bound_by : ConstantSeen → Option UntypedLiteral → Option ℕ
bound_by c None = and_then c.value index_number
bound_by c (Some number) = if number.is_negative then None else (Some number.value)

abbrev seen_by : TypeEnv → ExprPair → Option UntypedLiteral → ConstantSeen
seen_by context e None = constant_of context e
seen_by context e (Some number) = record { judgement = untyped_typing; bare = Some number; value = None }

seen_is : (context : TypeEnv) (e : ExprPair) → constant_or_untyped context e ≡ seen_by context e (untyped_of e)
seen_is context e = refl

-- what a known value gives, its place gives
through : {A : Type 0} (f : DslxValue → Option A) (o p : Option DslxValue) (a : A) → ((v : DslxValue) → o ≡ Some v → p ≡ Some v) → and_then o f ≡ Some a → and_then p f ≡ Some a
through f None p a h e = none_some a e
through f (Some v) p a h e = ap (λ q. and_then q f) (h v refl) ∙ e

counted_through : (o p : Option DslxValue) (n : ℕ) → ((v : DslxValue) → o ≡ Some v → p ≡ Some v) → and_then (number_of_value o) some_count ≡ Some n
    → and_then (and_then p (λ v. and_then (unsigned_of v) (λ w. Some w.value))) some_count ≡ Some n
counted_through None p n h e = none_some n e
counted_through (Some v) p n h e = ap (λ q. and_then (and_then q (λ v. and_then (unsigned_of v) (λ w. Some w.value))) some_count) (h v refl) ∙ e

pub size_is_denoted : (context : TypeEnv) (bound : List Given) (e : ExprPair) (n : ℕ) → IsInTypeEnv context bound → (count_of context e).count ≡ Some n → size_of (denotation e.0) (env_there context bound) ≡ Some n
size_is_denoted context bound e n h k = by_untyped (untyped_of e) refl k
  where
    number : (b : Bool) (number : UntypedLiteral) → number.is_negative ≡ b → and_then (Some (if b then 0 else number.value)) some_count ≡ Some n
        → and_then (if b then None else (Some number.value)) some_count ≡ Some n
    number true x q e = none_some n e
    number false x q e = e

    by_untyped : (o : Option UntypedLiteral) → untyped_of e ≡ o → and_then (count_by (seen_by context e o) (seen_by context e o).bare) some_count ≡ Some n
        → size_of (denotation e.0) (env_there context bound) ≡ Some n
    by_untyped None q r =
        ap (λ b. and_then (count_in b (value_of e.0 (env_there context bound))) some_count) q
        ∙ counted_through (constant_of context e).value (value_of e.0 (env_there context bound)) n (λ v. constant_is_denoted context bound e v h) r
    by_untyped (Some x) q r =
        ap (λ b. and_then (count_in b (value_of e.0 (env_there context bound))) some_count) q ∙ number x.is_negative x refl r

pub bound_is_denoted : (context : TypeEnv) (bound : List Given) (e : ExprPair) (n : ℕ) → IsInTypeEnv context bound → bound_number (constant_or_untyped context e) ≡ Some n → bound_of (denotation e.0) (env_there context bound) ≡ Some n
bound_is_denoted context bound e n h k = by_untyped (untyped_of e) refl k
  where
    by_untyped : (o : Option UntypedLiteral) → untyped_of e ≡ o → bound_by (seen_by context e o) (seen_by context e o).bare ≡ Some n → bound_of (denotation e.0) (env_there context bound) ≡ Some n
    by_untyped None q r =
        ap (λ b. bound_in b (value_of e.0 (env_there context bound))) q
        ∙ through index_number (constant_of context e).value (value_of e.0 (env_there context bound)) n (λ v. constant_is_denoted context bound e v h) r
    by_untyped (Some x) q r = ap (λ b. bound_in b (value_of e.0 (env_there context bound))) q ∙ r

-- ---- binding

-- one more name that is no constant's
pub bound_in_type_env : (context : TypeEnv) (locals : List Typed) (bound : List Given) (name : List ℕ) (t : Option DslxType) (v : DslxValue) → context.known.items.is_constant name ≡ false
    → IsInTypeEnv (with_typed context locals) bound → IsInTypeEnv (with_typed context (record { name = name; ty = t } ∷ locals)) (record { name = name; value = v } ∷ bound)
bound_in_type_env context locals bound name t v plain h = record {
  others = λ n e. other n (bytes_eq n name) e (h.others n);
  hides = λ n c. plain_name n (bytes_eq n name) refl c (h.hides n c);
}
  where
    other : (n : List ℕ) (b : Bool) → (if b then true else is_in n (map (λ (l : Typed). l.name) locals)) ≡ false
        → (is_in n (map (λ (l : Typed). l.name) locals) ≡ false → given_in n bound ≡ given_in n context.parametric_args) → (if b then Some v else given_in n bound) ≡ given_in n context.parametric_args
    other n true e rest = absurd (true≢false e)
    other n false e rest = rest e

    plain_name : (n : List ℕ) (b : Bool) → bytes_eq n name ≡ b → context.known.items.is_constant n ≡ true → is_in n (map (λ (l : Typed). l.name) locals) ≡ false
        → (if b then true else is_in n (map (λ (l : Typed). l.name) locals)) ≡ false
    plain_name n true q c rest = absurd (true≢false (sym c ∙ ap context.known.items.is_constant ((bytes_eq-Decides n name).0 q) ∙ plain))
    plain_name n false q c rest = rest
