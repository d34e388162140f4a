-- Types within the limits: what a part that is settled says of its own.
use Rattle.std.proofs.Common.{◌≡◌, ◌++◌, ℕ, Bool, true, false, List, [], ◌∷◌, Option, Some, None, if◌then◌else◌, refl, sym, ap, ◌∙◌}
use Rattle.std.specs.Prelude.{nat_le, nat_lt}
use Rattle.std.proofs.lemmas.Bool.{le-leb, ltb-false}
use Rattle.xb_span.specs.declared.span.Span.{Span}
use Rattle.xb_span.specs.declared.fault.Fault.{Fault}
use Rattle.xb_span.specs.declared.fault.Fault.TheVariants.{Passed}
use Rattle.xb_span.specs.declared.limit.What.TheVariants as what
use Rattle.dslx_meaning.specs.Types.{bits_step, leaves_of, levels_of}
use Rattle.dslx_meaning.specs.declared.ty.BitKind.{BitKind}
use Rattle.dslx_meaning.specs.declared.ty.DslxType.{DslxType, out-DslxType}
use Rattle.dslx_meaning.specs.declared.ty.DslxType as ty
use Rattle.dslx_meaning.specs.declared.ty.DslxType.TheOpen.{DslxType-F}
use Rattle.dslx_meaning.specs.declared.ty.DslxType.TheViews as views
use Rattle.dslx_meaning.specs.declared.ty.DslxType.TheFolds.{fold-roll-DslxType, map-DslxType}
use Rattle.dslx_meaning.specs.Rules.TypeEnvs.{Instance, Judgement, found_number, leaf_widths, passes, passes_widths, settled, type_limits, unless_broken, unlimited, widths_in}
use Rattle.dslx_meaning.specs.Rules.OperatorRules.{width_of_type}
use Rattle.dslx_core.proofs.Lemmas.Typing.Sound.{none_in, none_in_three, some_fault}
use Rattle.dslx_total.specs.Expressions.ExprLowering.{KeepsLimits}

leaves_at : (t : DslxType) (l : DslxType-F DslxType) → out-DslxType t ≡ l → leaf_widths t ≡ widths_in (map-DslxType DslxType (List ℕ) leaf_widths l)
leaves_at t l e = ap leaf_widths (sym (views.roll-out-DslxType t) ∙ ap views.roll-DslxType e) ∙ fold-roll-DslxType (List ℕ) widths_in l

abbrev width_at : Option BitKind → ℕ
width_at None = 0
width_at (Some kind) = kind.width

abbrev width_of_level : DslxType-F DslxType → ℕ
width_of_level l = width_at (bits_step l)

pub not_passed : (at w : ℕ) → passes what.Width 128 at w ≡ [] → nat_le w 128 ≡ true
not_passed at w e = by_test (nat_lt 128 w) refl e
  where
    by_test : (b : Bool) → nat_lt 128 w ≡ b → (if b then Passed at (record { what = what.Width; found = found_number w; most = 128 }) ∷ [] else []) ≡ [] → nat_le w 128 ≡ true
    by_test true q f = some_fault (Passed at (record { what = what.Width; found = found_number w; most = 128 })) [] f
    by_test false q f = le-leb w 128 (ltb-false 128 w q)

-- within the limits a word has at most 128 bits
pub narrow : (at : ℕ) (t : DslxType) → type_limits at (Some t) ≡ [] → nat_le (width_of_type t) 128 ≡ true
narrow at t e = by_level (out-DslxType t) refl
  where
    widths : passes_widths at (leaf_widths t) ≡ []
    widths = (none_in_three (passes_widths at (leaf_widths t)) (passes what.Leaves 256 at (leaves_of t)) (passes what.Levels 64 at (levels_of t)) e).0

    by_level : (l : DslxType-F DslxType) → out-DslxType t ≡ l → nat_le (width_of_type t) 128 ≡ true
    by_level (DslxType-F.Bits s w) q =
        ap (λ l. nat_le (width_of_level l) 128) q
        ∙ not_passed at w (none_in (passes what.Width 128 at w) [] (sym (ap (passes_widths at) (leaves_at t (DslxType-F.Bits s w) q)) ∙ widths)).0
    by_level (DslxType-F.Tuple ts) q = ap (λ l. nat_le (width_of_level l) 128) q ∙ refl
    by_level (DslxType-F.Array v n) q = ap (λ l. nat_le (width_of_level l) 128) q ∙ refl
    by_level (DslxType-F.Struct name fields ts) q = ap (λ l. nat_le (width_of_level l) 128) q ∙ refl
    by_level (DslxType-F.Enum name s w) q = ap (λ l. nat_le (width_of_level l) 128) q ∙ refl
    by_level DslxType-F.Token q = ap (λ l. nat_le (width_of_level l) 128) q ∙ refl

-- so has the type of what is settled without a fault
pub settled_limits : (span : Span) (own : Option DslxType) (named : List Fault) (found : List Instance) (size : Option ℕ) → (settled span own named found size).faults ≡ [] → type_limits span.to own ≡ []
settled_limits span own named found size well_typed =
    let q = none_in named (type_limits span.to (unless_broken named own)) well_typed in
    sym (λ i. type_limits span.to (unless_broken (q.0 i) own)) ∙ q.1

-- what is judged with the limits on its type keeps them
pub limited_keeps : (span : Span) (j : Judgement) → KeepsLimits (j.faults ++ type_limits span.to j.ty) j.ty
limited_keeps span j well_typed t e =
    let q = none_in j.faults (type_limits span.to j.ty) well_typed in
    narrow span.to t (sym (ap (type_limits span.to) e) ∙ q.1)

pub settled_keeps : (span : Span) (own : Option DslxType) (named : List Fault) → KeepsLimits (named ++ type_limits span.to (unless_broken named own)) (unless_broken named own)
settled_keeps span own named = limited_keeps span (unlimited own named [] None)

-- the width of bits
pub bits_width : (s : Bool) (w : ℕ) → width_of_type (ty.Bits s w) ≡ w
bits_width s w = ap width_of_level (views.outs-Bits s w)
