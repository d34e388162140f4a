-- The parts of patterns that are tuples break nothing against the types in their places.
use Rattle.std.proofs.Common.{ℕ, ◌≡◌, ◌∙◌, ◌<◌, zero, suc, Bool, true, false, List, [], ◌∷◌, map, length, get_or, slice_get, Option, Some, None, arith, refl, sym, ap, subst}
use mathlib.Core.Bool.{true≢false}
use Rattle.std.specs.Prelude.{◌==◌, if◌then◌else◌}
use Rattle.std.proofs.lemmas.Option.{none-some, same_Some}
use Rattle.std.proofs.lemmas.Bool.Decides.{Decides-eqb}
use Rattle.xb_span.specs.declared.span.Span.{Span}
use Rattle.xb_span.specs.declared.fault.Fault.{Fault}
use Rattle.dslx_tree.specs.declared.block.Stmt.TheOpen.{Shape-F}
use Rattle.dslx_tree.specs.declared.pattern.Pattern.{Pattern, out-Pattern}
use Rattle.dslx_tree.specs.declared.pattern.Shape.{roll-Shape}
use Rattle.dslx_meaning.specs.declared.ty.DslxType.{DslxType, out-DslxType}
use Rattle.dslx_meaning.specs.declared.ty.DslxType.TheOpen.{DslxType-F}
use Rattle.dslx_meaning.specs.Rules.PatternRules.{part_types, part_types_in, parts_typing, tuple_pattern}
use Rattle.dslx_meaning.specs.Rules.TypeEnvs.{TypeEnv, Typed}
use Rattle.dslx_meaning.specs.Rules.Typings.{PatternSeen}
use Rattle.dslx_check_leaves.specs.Fits.Fits.{AreFine, IsFine}
use Rattle.dslx_check_leaves.specs.Fits.Typed.{PatternFrom, pattern_typed}
use Rattle.dslx_check_leaves.proofs.OnFits.Among.{both_true, nothing_both}
use Rattle.dslx_check_leaves.proofs.Lemmas.Fits.Levels.{pattern_at}

patterns_length : (ps : List Pattern) → length (map pattern_typed ps) ≡ length ps
patterns_length [] = refl
patterns_length (p ∷ ps) = ap suc (patterns_length ps)

so_many : (n : ℕ) (l : DslxType-F DslxType) (ts : List DslxType) → part_types_in n l ≡ Some ts → length ts ≡ n
so_many n (DslxType-F.Tuple us) ts e = by (length us == n) refl e
  where
    by : (b : Bool) → (length us == n) ≡ b → (if b then Some us else None) ≡ Some ts → length ts ≡ n
    by true q e = ap length (sym (same_Some us ts e)) ∙ (Decides-eqb (length us) n).0 q
    by false q e = absurd (none-some ts e)
so_many n (DslxType-F.Bits s w) ts e = absurd (none-some ts e)
so_many n (DslxType-F.Array t k) ts e = absurd (none-some ts e)
so_many n (DslxType-F.Struct name fields us) ts e = absurd (none-some ts e)
so_many n (DslxType-F.Enum name s w) ts e = absurd (none-some ts e)
so_many n DslxType-F.Token ts e = absurd (none-some ts e)

parts_fine : (context : TypeEnv) (ps : List Pattern) (ts : List DslxType) (names : List (List ℕ)) (locals : List Typed) → length ts ≡ length ps
    → (parts_typing true context (map pattern_typed ps) (Some ts) names locals).faults ≡ [] → (parts_typing true context (map pattern_typed ps) (Some ts) names locals).is_known ≡ true → AreFine context ts ps
parts_fine context [] [] names locals same f k = tt
parts_fine context [] (t ∷ ts) names locals same f k = absurd (omega arith)
parts_fine context (p ∷ ps) [] names locals same f k = absurd (omega arith)
parts_fine context (p ∷ ps) (t ∷ ts) names locals same f k =
    let first : PatternSeen = (pattern_typed p).1 true context (Some t) names locals in
    let rest : PatternSeen = parts_typing true context (map pattern_typed ps) (Some ts) first.names first.locals in
    let faults = nothing_both first.faults rest.faults f in
    let known = both_true first.is_known rest.is_known k in
    (record { names = names; locals = locals; faults = faults.0; known = known.0 }, parts_fine context ps ts first.names first.locals (omega arith) faults.1 known.1)

pub record FineTuple (context : TypeEnv) (t : DslxType) (ps : List Pattern) : Type 0 where
  pub types : List DslxType
  pub are : part_types (length ps) (Some t) ≡ Some types
  pub fine : AreFine context types ps

tuple_by : (context : TypeEnv) (t : DslxType) (ps : List Pattern) (span : Span) (names : List (List ℕ)) (locals : List Typed) (o : Option (List DslxType)) → part_types (length ps) (Some t) ≡ o
    → (tuple_pattern span (Some t) o (parts_typing true context (map pattern_typed ps) o names locals)).faults ≡ []
    → (tuple_pattern span (Some t) o (parts_typing true context (map pattern_typed ps) o names locals)).is_known ≡ true → FineTuple context t ps
tuple_by context t ps span names locals None e f k = absurd (true≢false (ap some f))
  where
    some : List Fault → Bool
    some [] = false
    some (x ∷ xs) = true
tuple_by context t ps span names locals (Some ts) e f k = record { types = ts; are = e; fine = parts_fine context ps ts names locals (so_many (length ps) (out-DslxType t) ts e) f k }

pub tuple_fine : (context : TypeEnv) (t : DslxType) (p : Pattern) (ps : List Pattern) → (out-Pattern p).shape ≡ roll-Shape (Shape-F.Shape::Tuple ps) → IsFine context t p → FineTuple context t ps
tuple_fine context t p ps is fine =
    let span : Span = (out-Pattern p).span in
    let e = sym (pattern_at p true (Shape-F.Shape::Tuple ps) is) in
    let count : length (map pattern_typed ps) ≡ length ps = patterns_length ps in
    tuple_by context t ps span fine.names fine.locals (part_types (length (map pattern_typed ps)) (Some t)) (ap (λ (k : ℕ). part_types k (Some t)) (sym count))
    (subst (λ (D : PatternFrom). (D context (Some t) fine.names fine.locals).faults ≡ []) e fine.faults) (subst (λ (D : PatternFrom). (D context (Some t) fine.names fine.locals).is_known ≡ true) e fine.known)

-- the part in one place
pub part_fine : (context : TypeEnv) (ts : List DslxType) (ps : List Pattern) (i : ℕ) (p : Pattern) → AreFine context ts ps → i < length ps → p ≡ get_or ps i p
    → (t : DslxType) × (slice_get ts i ≡ Some t) × IsFine context t p
part_fine context [] [] i p h l e = absurd (omega arith)
part_fine context [] (q ∷ ps) i p h l e = absurd h
part_fine context (t ∷ ts) [] i p h l e = absurd h
part_fine context (t ∷ ts) (q ∷ ps) zero p h l e = (t, refl, subst (IsFine context t) (sym e) h.0)
part_fine context (t ∷ ts) (q ∷ ps) (suc i) p h l e = part_fine context ts ps i p h.1 (omega arith) e
