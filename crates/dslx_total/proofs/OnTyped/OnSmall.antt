-- Sound types: the plain value that a number holds is that of a value, and types without signs and names have as many bits.
use Rattle.std.proofs.Common.{◌≡◌, ◌&&◌, ◌≤◌, ◌<◌, ◌*◌, ℕ, Bool, true, not, List, [], ◌∷◌, map, refl, sym, ap, ◌∙◌, arith}
use Rattle.std.specs.Prelude.{nat_le, nat_lt, sum}
use Rattle.std.specs.List.{list_all}
use Rattle.std.proofs.lemmas.Bool.Decides.{nat_tests}
use Rattle.std.proofs.lemmas.List.Sums.{sum_by-cons}
use Rattle.xb_bits.specs.Word.{word}
use Rattle.xb_value.specs.declared.ty.Ty.{fold-Ty}
use Rattle.xb_value.specs.Unflat.{unflat_of}
use Rattle.xb_value.specs.Width.{width_of, widths_step}
use Rattle.xb_value.proofs.Lemmas.Flat.{gives_typed}
use Rattle.xb_value.proofs.Lemmas.Types as types
use Rattle.xb_value.proofs.Lemmas.Types.{EachHas, width_of-Array, width_of-Bits, width_of-Tuple}
use Rattle.dslx_meaning.specs.Types.{flat_bits, flat_bits_in, plain_type}
use Rattle.dslx_meaning.specs.Values.{from_word, plain_value}
use Rattle.dslx_meaning.specs.declared.ty.DslxType.{DslxType}
use Rattle.dslx_meaning.specs.declared.ty.DslxType.TheFolds.{fold-roll-DslxType}
use Rattle.dslx_meaning.specs.declared.ty.DslxType.TheOpen.{DslxType-F}
use Rattle.dslx_meaning.specs.declared.ty.DslxType.TheVariants as rolls
use Rattle.dslx_meaning.specs.Rules.ConstantRules.{is_zero}
use Rattle.dslx_core.proofs.Lemmas.Lowering.{from_plain}
use Rattle.dslx_core.proofs.Lemmas.Typing.Laws.{and_true}
use Rattle.dslx_core.proofs.Lemmas.Typing.Typed.{type_induction}
use Rattle.dslx_core.specs.CoreValues.{is_width}
use Rattle.dslx_core.specs.Lowering.Steps.{is_sized, sized_step}
use Rattle.dslx_core.specs.Typing.Typed.Kinds.{is_of}
use Rattle.dslx_total.specs.Typed.Scopes.{is_sound_type}
use Rattle.dslx_total.proofs.OnTyped.OnTypes.{plain_array, plain_bits, plain_enum, plain_struct, plain_token, plain_tuple, sound_array, sound_bits, sound_enum, sound_struct, sound_tuple}

-- ---- sound types are sized and wide enough

abbrev pub Goes : DslxType → Type 0
Goes t = is_sound_type t ≡ true → (is_sized t ≡ true) × (fold-Ty Bool widths_step (plain_type t) ≡ true)

wide_enough : (w : ℕ) → is_width w ≡ true → (nat_le 1 w && nat_le w 128) ≡ true
wide_enough w e =
    let q = and_true (nat_lt 0 w) (nat_le w 128) e in
    let some : 0 < w = grind (arith, nat_tests, q.0) in
    let one : 1 ≤ w = omega (arith, some) in
    let test : nat_le 1 w ≡ true = grind (arith, nat_tests, one) in
    λ i. test i && q.1 i

each_goes : (ts : List DslxType) → EachHas Goes ts → list_all (λ b. b) (map is_sound_type ts) ≡ true
    → (list_all (λ b. b) (map is_sized ts) ≡ true) × (list_all (λ b. b) (map (fold-Ty Bool widths_step) (map plain_type ts)) ≡ true)
each_goes [] h e = (refl, refl)
each_goes (t ∷ ts) h e =
    let a = and_true (is_sound_type t) (list_all (λ b. b) (map is_sound_type ts)) e in
    let b = h.0 a.0 in
    let c = each_goes ts h.1 a.1 in
    ((λ i. b.0 i && c.0 i), (λ i. b.1 i && c.1 i))

goes : (t : DslxType) → Goes t
goes = type_induction Goes
    (λ s w e. (
      ap is_sized (sym (rolls.rolls-Bits s w)) ∙ fold-roll-DslxType Bool sized_step (DslxType-F.Bits s w),
      ap (fold-Ty Bool widths_step) (plain_bits s w) ∙ types.fold-Bits Bool widths_step w ∙ wide_enough w (sym (sound_bits s w) ∙ e),
    ))
    (λ ts h e.
    let q = each_goes ts h (sym (sound_tuple ts) ∙ e) in (
      ap is_sized (sym (rolls.rolls-Tuple ts)) ∙ fold-roll-DslxType Bool sized_step (DslxType-F.Tuple ts) ∙ q.0,
      ap (fold-Ty Bool widths_step) (plain_tuple ts) ∙ types.fold-Tuple Bool widths_step (map plain_type ts) ∙ q.1,
    ))
    (λ t n h e.
    let a = and_true (not (is_zero n)) (is_sound_type t) (sym (sound_array t n) ∙ e) in
    let q = h a.1 in (
      ap is_sized (sym (rolls.rolls-Array t n)) ∙ fold-roll-DslxType Bool sized_step (DslxType-F.Array t n) ∙ (λ i. a.0 i && q.0 i),
      ap (fold-Ty Bool widths_step) (plain_array t n) ∙ types.fold-Array Bool widths_step (plain_type t) n ∙ q.1,
    ))
    (λ name fields ts h e.
    let q = each_goes ts h (sym (sound_struct name fields ts) ∙ e) in (
      ap is_sized (sym (rolls.rolls-Struct name fields ts)) ∙ fold-roll-DslxType Bool sized_step (DslxType-F.Struct name fields ts) ∙ q.0,
      ap (fold-Ty Bool widths_step) (plain_struct name fields ts) ∙ types.fold-Tuple Bool widths_step (map plain_type ts) ∙ q.1,
    ))
    (λ name s w e. (
      ap is_sized (sym (rolls.rolls-Enum name s w)) ∙ fold-roll-DslxType Bool sized_step (DslxType-F.Enum name s w),
      ap (fold-Ty Bool widths_step) (plain_enum name s w) ∙ types.fold-Bits Bool widths_step w ∙ wide_enough w (sym (sound_enum name s w) ∙ e),
    ))
    (λ e. (
      ap is_sized (sym rolls.rolls-Token) ∙ fold-roll-DslxType Bool sized_step DslxType-F.Token,
      ap (fold-Ty Bool widths_step) plain_token ∙ types.fold-Tuple Bool widths_step [],
    ))

-- what a number holds is a value of the type
pub held_of : (t : DslxType) → is_sound_type t ≡ true → (w n : ℕ) → (is_of t (from_word t (word w n)) ≡ true) × (plain_value (from_word t (word w n)) ≡ unflat_of (plain_type t) n)
held_of t sound w n =
    let q = goes t sound in
    from_plain t q.0 (unflat_of (plain_type t) n) (gives_typed (plain_type t) q.1 n)

-- ---- bits

abbrev pub AsManyBits : DslxType → Type 0
AsManyBits t = width_of (plain_type t) ≡ flat_bits t

parts_bits : (ts : List DslxType) → EachHas AsManyBits ts → sum (map width_of (map plain_type ts)) ≡ sum (map flat_bits ts)
parts_bits [] h = refl
parts_bits (t ∷ ts) h =
    let a = sum_by-cons (λ n. n) (width_of (plain_type t)) (map width_of (map plain_type ts)) in
    let b = sum_by-cons (λ n. n) (flat_bits t) (map flat_bits ts) in
    let first = h.0 in
    let rest = parts_bits ts h.1 in
    omega (arith, a, b, first, rest)

-- as many without signs and names
pub as_many_bits : (t : DslxType) → AsManyBits t
as_many_bits = type_induction AsManyBits
    (λ s w. ap width_of (plain_bits s w) ∙ width_of-Bits w ∙ sym (ap flat_bits (sym (rolls.rolls-Bits s w)) ∙ fold-roll-DslxType ℕ flat_bits_in (DslxType-F.Bits s w)))
    (λ ts h. ap width_of (plain_tuple ts) ∙ width_of-Tuple (map plain_type ts) ∙ parts_bits ts h ∙ sym (ap flat_bits (sym (rolls.rolls-Tuple ts)) ∙ fold-roll-DslxType ℕ flat_bits_in (DslxType-F.Tuple ts)))
    (λ t n h. ap width_of (plain_array t n) ∙ width_of-Array (plain_type t) n ∙ ap (λ k. n * k) h ∙ sym (ap flat_bits (sym (rolls.rolls-Array t n)) ∙ fold-roll-DslxType ℕ flat_bits_in (DslxType-F.Array t n)))
    (λ name fields ts h. ap width_of (plain_struct name fields ts) ∙ width_of-Tuple (map plain_type ts) ∙ parts_bits ts h
    ∙ sym (ap flat_bits (sym (rolls.rolls-Struct name fields ts)) ∙ fold-roll-DslxType ℕ flat_bits_in (DslxType-F.Struct name fields ts)))
    (λ name s w. ap width_of (plain_enum name s w) ∙ width_of-Bits w ∙ sym (ap flat_bits (sym (rolls.rolls-Enum name s w)) ∙ fold-roll-DslxType ℕ flat_bits_in (DslxType-F.Enum name s w)))
    (ap width_of plain_token ∙ width_of-Tuple [] ∙ sym (ap flat_bits (sym rolls.rolls-Token) ∙ fold-roll-DslxType ℕ flat_bits_in DslxType-F.Token))
