-- The widths of a type are those of the type without signs and names.
use Rattle.std.proofs.Common.{◌≡◌, ◌∙◌, ◌&&◌, ◌∷◌, ◌-◌, ◌^◌, ℕ, [], Bool, true, false, List, map, min, nat_le, arith, refl, ap, sym}
use Rattle.std.specs.List.{list_all}
use Rattle.std.proofs.lemmas.Bool.{le-leb, leb-false, leb-true, lt-leb}
use Rattle.xb_value.specs.Width.{width_of, widths_step}
use Rattle.xb_value.specs.declared.ty.Ty.{Ty, fold-Ty}
use Rattle.xb_value.proofs.Lemmas.Types.{EachHas, fold-Array, fold-Bits, fold-Tuple}
use Rattle.dslx_meaning.specs.Types.{plain_step, plain_type}
use Rattle.dslx_meaning.specs.declared.ty.DslxType.{DslxType}
use Rattle.dslx_meaning.specs.declared.ty.DslxType as ty
use Rattle.dslx_meaning.specs.declared.ty.DslxType.TheOpen.{DslxType-F}
use Rattle.dslx_meaning.specs.declared.ty.DslxType.TheVariants as type_rolls
use Rattle.dslx_meaning.specs.declared.ty.DslxType.TheFolds.{fold-roll-DslxType, map-DslxType}
use Rattle.dslx_meaning.specs.declared.ty.DslxType.TheViews as type_views
use Rattle.dslx_core.proofs.Lemmas.Typing.Typed.{type_induction}
use Rattle.dslx_core.specs.Lowering.Steps.{can_travel, is_sized}
use Rattle.dslx_config.specs.Channels.Widths.{has_word_widths, word_widths_step}

abbrev plain_widths : Ty → Bool
plain_widths = fold-Ty Bool widths_step

abbrev IsAlike : DslxType → Type 0
IsAlike t = plain_widths (plain_type t) ≡ has_word_widths t

-- by what stands at the top
by_level : (l : DslxType-F DslxType) (t : DslxType) → type_views.roll-DslxType l ≡ t
    → plain_widths (plain_step (map-DslxType DslxType Ty plain_type l)) ≡ word_widths_step (map-DslxType DslxType Bool has_word_widths l) → IsAlike t
by_level l t e alike =
    ap plain_widths (ap plain_type (sym e) ∙ fold-roll-DslxType Ty plain_step l) ∙ alike ∙ sym (ap has_word_widths (sym e) ∙ fold-roll-DslxType Bool word_widths_step l)

each : (ts : List DslxType) → EachHas IsAlike ts → map plain_widths (map plain_type ts) ≡ map has_word_widths ts
each [] h = refl
each (t ∷ ts) h = λ i. h.0 i ∷ each ts h.1 i

parts : (ts : List DslxType) → EachHas IsAlike ts → plain_widths (plain_step (DslxType-F.Tuple (map plain_type ts))) ≡ list_all (λ b. b) (map has_word_widths ts)
parts ts h = fold-Tuple Bool widths_step (map plain_type ts) ∙ ap (list_all (λ b. b)) (each ts h)

alike : (t : DslxType) → IsAlike t
alike = type_induction IsAlike
    (λ s w. by_level (DslxType-F.Bits s w) (ty.Bits s w) (type_rolls.rolls-Bits s w) (fold-Bits Bool widths_step w))
    (λ ts h. by_level (DslxType-F.Tuple ts) (ty.Tuple ts) (type_rolls.rolls-Tuple ts) (parts ts h))
    (λ t n h. by_level (DslxType-F.Array t n) (ty.Array t n) (type_rolls.rolls-Array t n) (fold-Array Bool widths_step (plain_type t) n ∙ h))
    (λ name fields ts h. by_level (DslxType-F.Struct name fields ts) (ty.Struct name fields ts) (type_rolls.rolls-Struct name fields ts) (parts ts h))
    (λ name s w. by_level (DslxType-F.Enum name s w) (ty.Enum name s w) (type_rolls.rolls-Enum name s w) (fold-Bits Bool widths_step w))
    (by_level DslxType-F.Token ty.Token type_rolls.rolls-Token (fold-Tuple Bool widths_step []))

abbrev few : Ty → Bool
few t = nat_le 1 (width_of t) && nat_le (width_of t) 128

pub travels_by_widths : (t : DslxType) → can_travel t ≡ (is_sized t && (has_word_widths t && few (plain_type t)))
travels_by_widths t = ap (λ b. is_sized t && (b && few (plain_type t))) (alike t)

-- a number that is cut down to a larger one says the same
pub least_says : (w n : ℕ) → n ≡ min w (2 ^ 64 - 1) → (nat_le 1 n && nat_le n 128) ≡ (nat_le 1 w && nat_le w 128)
least_says w n e = λ i. some i && most i
  where
    some : nat_le 1 n ≡ nat_le 1 w
    some = by (nat_le 1 w) refl
      where
        by : (b : Bool) → nat_le 1 w ≡ b → nat_le 1 n ≡ b
        by true q = let more = leb-true 1 w q in le-leb 1 n (omega (arith, more, e))
        by false q = let less = leb-false 1 w q in lt-leb 1 n (omega (arith, less, e))

    most : nat_le n 128 ≡ nat_le w 128
    most = by (nat_le w 128) refl
      where
        by : (b : Bool) → nat_le w 128 ≡ b → nat_le n 128 ≡ b
        by true q = let less = leb-true w 128 q in le-leb n 128 (omega (arith, less, e))
        by false q = let more = leb-false w 128 q in lt-leb n 128 (omega (arith, more, e))
