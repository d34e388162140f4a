-- Written types become what is known of them, and all bits in them have a width.
use Rattle.std.proofs.Common.{◌≡◌, ◌&&◌, ◌++◌, ℕ, zero, suc, Bool, true, false, List, [], ◌∷◌, map, Option, Some, None, refl, sym, ap, ◌∙◌, arith}
use Rattle.std.specs.Prelude.{nat_lt}
use Rattle.std.specs.List.{list_all}
use Rattle.std.proofs.lemmas.Bool.Decides.{Decides-ltb}
use Rattle.xb_span.specs.declared.span.Span.{Span}
use Rattle.dslx_tree.specs.declared.type_expr.TypeExpr.{TypeExpr}
use Rattle.dslx_meaning.specs.Lists.{all_some, and_then, with_both}
use Rattle.dslx_meaning.specs.Meaning.{ExprDen, some_count}
use Rattle.dslx_meaning.specs.Environment.{Env, Meanings}
use Rattle.dslx_meaning.specs.declared.ty.DslxType.{DslxType, out-DslxType}
use Rattle.dslx_meaning.specs.declared.ty.DslxType as ty
use Rattle.dslx_meaning.specs.Rules.ConstantRules.{count_faults, count_number, count_of, constant_or_untyped}
use Rattle.dslx_meaning.specs.Rules.TypeEnvs.{ExprPair, Instance, TypeEnv, breaks, breaks_if, faults_of_all, reached_of_all, settled, types_of}
use Rattle.dslx_meaning.specs.Rules.Typings.{TypePair}
use Rattle.dslx_meaning.specs.Rules.TypeRules.{array_of, counted_type, inner_type, inner_types, named_bits, named_type, span_of_type, unit_faults}
use Rattle.dslx_core.specs.Typing.Typed.Complete.{IsWellTypedPart}
use Rattle.dslx_core.specs.Typing.Typed.WellTyped.{IsWellTypedEnv}
use Rattle.dslx_core.proofs.Lemmas.Typing.Typed.{all_there, list_parts, none_some, same_some, settled_type}
use Rattle.dslx_core.specs.Typing.Sound.Sound.{ExprGives}
use Rattle.dslx_core.proofs.Lemmas.Typing.Sound.{all_in, none_in, settled_well_typed, some_fault}
use Rattle.dslx_core.specs.Lowering.CoreScopes.{CoreScope, size_at}
use Rattle.dslx_core.specs.Lowering.Trees.{TypeLowering}
use Rattle.dslx_total.specs.Expressions.Beside.{NamesHaveWidths, ScopeMatchesEnv, has_widths}
use Rattle.dslx_total.specs.Expressions.ExprLowering.{IsWide, TypeLowers, reaching}
use Rattle.dslx_total.proofs.OnExpressions.Constants.{size_there}
use Rattle.dslx_total.proofs.OnExpressions.InTypes.{in_array, in_bits, in_tuple}

-- ---- bits

bits_wide : (s : Bool) (w : ℕ) (t : DslxType) → nat_lt 0 w ≡ true → Some (ty.Bits s w) ≡ Some t → has_widths t ≡ true
bits_wide s w t some e = ap has_widths (sym (same_some (ty.Bits s w) t e)) ∙ in_bits s w ∙ some

pub lower_total_bits_type : (span : Span) (s : Bool) (w : ℕ) → TypeLowers (λ context. named_bits span s w) (λ scope. Some (ty.Bits s w))
lower_total_bits_type span s w here context env scope h at well_typed = sym (settled_well_typed (reaching context.known here) span (Some (ty.Bits s w)) (count_faults span (Some w)) [] (Some 0) well_typed).ty

-- no type has the width 0
pub bits_type_wide : (span : Span) (s : Bool) (w : ℕ) → IsWide (λ context. named_bits span s w)
bits_type_wide span s zero context names t e = none_some t e
bits_type_wide span s (suc n) context names t e = bits_wide s (suc n) t ((Decides-ltb 0 (suc n)).1 (omega arith)) e

pub lower_total_wide : (span : Span) (s : Bool) (e : ExprPair) (x : ExprDen) → ExprGives e x
    → TypeLowers (λ context. counted_type span (and_then (count_of context e).count (λ w. Some (ty.Bits s w))) [] (count_of context e)) (λ scope. and_then (size_at scope e.0) (λ w. Some (ty.Bits s w)))
lower_total_wide span s e x gives here context env scope h at well_typed =
    let n = count_of context e in
    let q = settled_well_typed (reaching context.known here) span (and_then n.count (λ w. Some (ty.Bits s w))) n.judgement.faults n.judgement.reached (Some 0) well_typed in
    ap (λ o. and_then o (λ w. Some (ty.Bits s w))) (size_there here context env scope e x gives h at (record { faults = q.faults; reached = q.reached })) ∙ sym q.ty

pub wide_wide : (span : Span) (s : Bool) (e : ExprPair) → IsWide (λ context. counted_type span (and_then (count_of context e).count (λ w. Some (ty.Bits s w))) [] (count_of context e))
wide_wide span s e context names t q =
    let n = count_of context e in
    by_number (count_number (constant_or_untyped context e)) (settled_type (and_then n.count (λ w. Some (ty.Bits s w))) n.judgement.faults t q).1
  where
    by_number : (o : Option ℕ) → and_then (and_then o some_count) (λ w. Some (ty.Bits s w)) ≡ Some t → has_widths t ≡ true
    by_number None r = none_some t r
    by_number (Some zero) r = none_some t r
    by_number (Some (suc n)) r = bits_wide s (suc n) t ((Decides-ltb 0 (suc n)).1 (omega arith)) r

-- ---- names

pub lower_total_named : (span : Span) (name : List ℕ) (test : TypeEnv → Bool) → TypeLowers (λ context. named_type span context name (test context)) (λ scope. scope.known.items.type_named name)
lower_total_named span name test here context env scope h at well_typed = by_test (test context) well_typed
  where
    by_test : (b : Bool) → IsWellTypedPart (reaching context.known here) (named_type span context name b) → scope.known.items.type_named name ≡ (named_type span context name b).ty
    by_test false f = some_fault (breaks 1 span) [] (settled_well_typed (reaching context.known here) span None (breaks 1 span ∷ []) [] (Some 0) f).faults
    by_test true f =
        ap (λ (items : Meanings). items.type_named name) at.items
        ∙ sym (settled_well_typed (reaching context.known here) span (context.known.items.type_named name) (breaks_if (context.known.is_cyclic context.owner name) 3 span) [] (Some 0) f).ty

pub named_wide : (span : Span) (name : List ℕ) (test : TypeEnv → Bool) → IsWide (λ context. named_type span context name (test context))
named_wide span name test context names t e = by_test (test context) e
  where
    by_test : (b : Bool) → (named_type span context name b).ty ≡ Some t → has_widths t ≡ true
    by_test false q = none_some t q
    by_test true q = names name t (settled_type (context.known.items.type_named name) (breaks_if (context.known.is_cyclic context.owner name) 3 span) t q).1

-- ---- types of types

abbrev pub LoweredType : Type 0
LoweredType = TypeExpr × TypeLowering

abbrev pub EachTypeLowers : List TypePair → List LoweredType → Type 0
EachTypeLowers [] [] = Unit {0}
EachTypeLowers (p ∷ ps) (l ∷ ls) = TypeLowers p.1 l.1 × EachTypeLowers ps ls
EachTypeLowers [] (l ∷ ls) = ⊥
EachTypeLowers (p ∷ ps) [] = ⊥

abbrev types_there : CoreScope → List LoweredType → List (Option DslxType)
types_there scope ls = map (λ (t : LoweredType). t.1 scope) ls

each_there : (here : Instance → Bool) (context : TypeEnv) (env : Env) (scope : CoreScope) → IsWellTypedEnv context env → ScopeMatchesEnv here context scope → (ps : List TypePair) (ls : List LoweredType) → EachTypeLowers ps ls
    → faults_of_all (inner_types context ps) ≡ [] → list_all here (reached_of_all (inner_types context ps)) ≡ true → types_there scope ls ≡ types_of (inner_types context ps)
each_there here context env scope h at [] [] k f r = refl
each_there here context env scope h at [] (l ∷ ls) k f r = absurd k
each_there here context env scope h at (p ∷ ps) [] k f r = absurd k
each_there here context env scope h at (p ∷ ps) (l ∷ ls) k f r =
    let own = inner_type context p in
    let q = none_in own.faults (faults_of_all (inner_types context ps)) f in
    let m = all_in here own.reached (reached_of_all (inner_types context ps)) r in
    let first = k.0 here context env scope h at (record { faults = (none_in (p.1 context).faults (unit_faults (span_of_type p) (p.1 context).ty) q.0).0; reached = m.0 }) in
    λ i. first i ∷ each_there here context env scope h at ps ls k.1 q.1 m.1 i

pub lower_total_tuple_type : (span : Span) (ps : List TypePair) (ls : List LoweredType) → EachTypeLowers ps ls
    → TypeLowers (λ context. settled span (and_then (all_some (types_of (inner_types context ps))) (λ ts. Some (ty.Tuple ts))) (faults_of_all (inner_types context ps)) (reached_of_all (inner_types context ps)) (Some 0))
    (λ scope. and_then (all_some (types_there scope ls)) (λ ts. Some (ty.Tuple ts)))
lower_total_tuple_type span ps ls k here context env scope h at well_typed =
    let js = inner_types context ps in
    let q = settled_well_typed (reaching context.known here) span (and_then (all_some (types_of js)) (λ ts. Some (ty.Tuple ts))) (faults_of_all js) (reached_of_all js) (Some 0) well_typed in
    ap (λ os. and_then (all_some os) (λ ts. Some (ty.Tuple ts))) (each_there here context env scope h at ps ls k q.faults q.reached) ∙ sym q.ty

abbrev pub EachIsWide : List TypePair → Type 0
EachIsWide [] = Unit {0}
EachIsWide (p ∷ ps) = IsWide p.1 × EachIsWide ps

each_wide : (context : TypeEnv) → NamesHaveWidths context.known → (ps : List TypePair) → EachIsWide ps → (ts : List DslxType) → types_of (inner_types context ps) ≡ map Some ts → list_all (λ b. b) (map has_widths ts) ≡ true
each_wide context names [] k [] e = refl
each_wide context names [] k (t ∷ ts) e = some_fault (Some t) (map Some ts) (sym e)
each_wide context names (p ∷ ps) k [] e = some_fault (inner_type context p).ty (types_of (inner_types context ps)) e
each_wide context names (p ∷ ps) k (t ∷ ts) e =
    let both = list_parts (inner_type context p).ty (Some t) (types_of (inner_types context ps)) (map Some ts) e in
    λ i. k.0 context names t both.0 i && each_wide context names ps k.1 ts both.1 i

pub tuple_type_wide : (span : Span) (ps : List TypePair) → EachIsWide ps
    → IsWide (λ context. settled span (and_then (all_some (types_of (inner_types context ps))) (λ ts. Some (ty.Tuple ts))) (faults_of_all (inner_types context ps)) (reached_of_all (inner_types context ps)) (Some 0))
tuple_type_wide span ps each context names t e =
    let js = inner_types context ps in
    by_parts (all_some (types_of js)) refl (settled_type (and_then (all_some (types_of js)) (λ ts. Some (ty.Tuple ts))) (faults_of_all js) t e).1
  where
    by_parts : (o : Option (List DslxType)) → all_some (types_of (inner_types context ps)) ≡ o → and_then o (λ ts. Some (ty.Tuple ts)) ≡ Some t → has_widths t ≡ true
    by_parts None r q = none_some t q
    by_parts (Some ts) r q = ap has_widths (sym (same_some (ty.Tuple ts) t q)) ∙ in_tuple ts ∙ each_wide context names ps each ts (all_there (types_of (inner_types context ps)) ts r)

pub lower_total_array_type : (span : Span) (p : TypePair) (l : TypeLowering) (e : ExprPair) (x : ExprDen) → TypeLowers p.1 l → ExprGives e x
    → TypeLowers (λ context. array_of span (inner_type context p) (count_of context e)) (λ scope. with_both (l scope) (size_at scope e.0) (λ t n. Some (ty.Array t n)))
lower_total_array_type span p l e x k gives here context env scope h at well_typed =
    let t = inner_type context p in
    let n = count_of context e in
    let own = with_both t.ty n.count (λ t n. Some (ty.Array t n)) in
    let q = settled_well_typed (reaching context.known here) span own (t.faults ++ n.judgement.faults) (t.reached ++ n.judgement.reached) (Some 0) (record { faults = well_typed.faults; reached = well_typed.reached }) in
    let f = none_in t.faults n.judgement.faults q.faults in
    let r = all_in here t.reached n.judgement.reached q.reached in
    let part = k here context env scope h at (record { faults = (none_in (p.1 context).faults (unit_faults (span_of_type p) (p.1 context).ty) f.0).0; reached = r.0 }) in
    let size = size_there here context env scope e x gives h at (record { faults = f.1; reached = r.1 }) in
    (λ i. with_both (part i) (size i) (λ t n. Some (ty.Array t n))) ∙ sym q.ty

pub array_type_wide : (span : Span) (p : TypePair) (e : ExprPair) → IsWide p.1 → IsWide (λ context. array_of span (inner_type context p) (count_of context e))
array_type_wide span p e wide context names t q =
    let a = inner_type context p in
    let n = count_of context e in
    by_parts a.ty refl n.count (settled_type (with_both a.ty n.count (λ t n. Some (ty.Array t n))) (a.faults ++ n.judgement.faults) t q).1
  where
    by_parts : (o : Option DslxType) → (p.1 context).ty ≡ o → (n : Option ℕ) → with_both o n (λ t n. Some (ty.Array t n)) ≡ Some t → has_widths t ≡ true
    by_parts None is n r = none_some t r
    by_parts (Some u) is None r = none_some t r
    by_parts (Some u) is (Some n) r = ap has_widths (sym (same_some (ty.Array u n) t r)) ∙ in_array u n ∙ wide context names u is
