-- The widths of all bits in a type.
use Rattle.std.proofs.Common.{◌≡◌, ℕ, Bool, true, List, map, Some, sym, ap, ◌∙◌}
use Rattle.std.specs.Prelude.{nat_lt}
use Rattle.std.specs.List.{list_all}
use Rattle.dslx_meaning.specs.Types.{bits_in, bits_step}
use Rattle.dslx_meaning.specs.declared.ty.BitKind.{BitKind}
use Rattle.dslx_meaning.specs.declared.ty.DslxType.{DslxType}
use Rattle.dslx_meaning.specs.declared.ty.DslxType as ty
use Rattle.dslx_meaning.specs.declared.ty.DslxType.TheFolds.{fold-roll-DslxType}
use Rattle.dslx_meaning.specs.declared.ty.DslxType.TheOpen.{DslxType-F}
use Rattle.dslx_meaning.specs.declared.ty.DslxType.TheVariants as rolls
use Rattle.dslx_meaning.specs.declared.ty.DslxType.TheViews as views
use Rattle.dslx_core.proofs.Lemmas.Typing.Typed.{none_some, same_some, type_induction}
use Rattle.dslx_total.specs.Expressions.Beside.{has_widths, has_widths_step}

pub in_bits : (s : Bool) (w : ℕ) → has_widths (ty.Bits s w) ≡ nat_lt 0 w
in_bits s w = ap has_widths (sym (rolls.rolls-Bits s w)) ∙ fold-roll-DslxType Bool has_widths_step (DslxType-F.Bits s w)

pub in_tuple : (ts : List DslxType) → has_widths (ty.Tuple ts) ≡ list_all (λ b. b) (map has_widths ts)
in_tuple ts = ap has_widths (sym (rolls.rolls-Tuple ts)) ∙ fold-roll-DslxType Bool has_widths_step (DslxType-F.Tuple ts)

pub in_array : (t : DslxType) (n : ℕ) → has_widths (ty.Array t n) ≡ has_widths t
in_array t n = ap has_widths (sym (rolls.rolls-Array t n)) ∙ fold-roll-DslxType Bool has_widths_step (DslxType-F.Array t n)

pub in_struct : (name : List ℕ) (fields : List (List ℕ)) (ts : List DslxType) → has_widths (ty.Struct name fields ts) ≡ list_all (λ b. b) (map has_widths ts)
in_struct name fields ts = ap has_widths (sym (rolls.rolls-Struct name fields ts)) ∙ fold-roll-DslxType Bool has_widths_step (DslxType-F.Struct name fields ts)

pub in_enum : (name : List ℕ) (s : Bool) (w : ℕ) → has_widths (ty.Enum name s w) ≡ nat_lt 0 w
in_enum name s w = ap has_widths (sym (rolls.rolls-Enum name s w)) ∙ fold-roll-DslxType Bool has_widths_step (DslxType-F.Enum name s w)

-- a type that is bits
abbrev HasOwnWidth : DslxType → Type 0
HasOwnWidth t = has_widths t ≡ true → (kind : BitKind) → bits_in t ≡ Some kind → nat_lt 0 kind.width ≡ true

pub own_width : (t : DslxType) → HasOwnWidth t
own_width = type_induction HasOwnWidth
    (λ s w h kind e.
    let same = same_some (record { signed = s; width = w }) kind (sym (ap bits_step (views.outs-Bits s w)) ∙ e) in
    ap (λ (k : BitKind). nat_lt 0 k.width) (sym same) ∙ sym (in_bits s w) ∙ h)
    (λ ts each h kind e. none_some kind (sym (ap bits_step (views.outs-Tuple ts)) ∙ e))
    (λ t n one h kind e. none_some kind (sym (ap bits_step (views.outs-Array t n)) ∙ e))
    (λ name fields ts each h kind e. none_some kind (sym (ap bits_step (views.outs-Struct name fields ts)) ∙ e))
    (λ name s w h kind e. none_some kind (sym (ap bits_step (views.outs-Enum name s w)) ∙ e))
    (λ h kind e. none_some kind (sym (ap bits_step views.outs-Token) ∙ e))
