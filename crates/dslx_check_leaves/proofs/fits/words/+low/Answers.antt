use Rattle.std.proofs.Common.{◌≡◌, ◌∙◌, ◌<◌, ◌+◌, ◌-◌, ◌/◌, ◌%◌, ◌^◌, ℕ, arith, max, refl, sym, ap, subst, length}
use Rattle.std.proofs.lemmas.Result.{IfOk-weaker}
use Rattle.xb_bits.specs.Word.{word}
use Rattle.dslx_meaning.specs.declared.value.DslxValue as value
use Rattle.dslx_check_facts.specs.Known.{item_names}
use Rattle.dslx_check_rules.specs.declared.table.row.TypeId.{TypeId}
use Rattle.dslx_check_rules.specs.declared.table.row.TypeRow.{TypeRow}
use Rattle.dslx_check_rules.specs.declared.table.row.TypeRow.TheVariants as row
use Rattle.dslx_check_rules.specs.Rows.{parts_of}
use Rattle.dslx_check_leaves.proofs.fits.words.+low.Goals as goal
use Rattle.dslx_check_leaves.specs.Fits.Words.{IsLowOfRow}
use Rattle.dslx_check_leaves.proofs.OnFits.OnWords.{TimesSoFar, array_row, bits_low, both_ok, bound_of, bound_within, element_below, enum_low, low_of_number, lows_back, lows_begin, lows_end, row_is, struct_row, times_begin, times_next, token_low, tuple_row}

pub low_value-returns-in-Some : goal.low_value-returns-in-Some
low_value-returns-in-Some t c = IfOk-weaker c.low_of_row.result _ _ (λ low h. low_of_number (λ later p. c.in-Some.ensures.is (item_names c.args.f.now) later p) c.in-Some.ensures.earlier h) c.low_of_row.ensures

pub low_of_row-returns-in-Bits : goal.low_of_row-returns-in-Bits
low_of_row-returns-in-Bits t c = both_ok c.low_word.result c.low_word.ensures.value c.low_word.ensures.rest (λ low e f.
    subst (λ (r : TypeRow). IsLowOfRow (item_names c.args.f.now) c.args.types.now r c.args.number low) (sym c.in-Bits.is)
    (row_is (value.Bits c.in-Bits.kind.signed (word c.in-Bits.kind.width (c.args.number % 2 ^ c.in-Bits.kind.width))) (c.args.number / 2 ^ c.in-Bits.kind.width)
    (λ types. bits_low c.in-Bits.kind.signed c.in-Bits.kind.width c.args.number) e f))

pub low_of_row-returns-in-Enum : goal.low_of_row-returns-in-Enum
low_of_row-returns-in-Enum t c = both_ok c.low_enum.result c.low_enum.ensures.value c.low_enum.ensures.rest (λ low e f.
    subst (λ (r : TypeRow). IsLowOfRow (item_names c.args.f.now) c.args.types.now r c.args.number low) (sym c.in-Enum.is)
    (row_is (value.Enum ((item_names c.args.f.now).item c.in-Enum.item) c.in-Enum.kind.signed (word c.in-Enum.kind.width (c.args.number % 2 ^ c.in-Enum.kind.width))) (c.args.number / 2 ^ c.in-Enum.kind.width)
    (λ types. enum_low ((item_names c.args.f.now).item c.in-Enum.item) c.in-Enum.kind.signed c.in-Enum.kind.width c.args.number) e f))

pub low_of_row-returns-in-Token : goal.low_of_row-returns-in-Token
low_of_row-returns-in-Token t c =
    let none : TypeRow → Type 0 = λ r. IsLowOfRow (item_names c.args.f.now) c.args.types.now r c.args.number (record { value = value.Token; rest = c.args.number }) in
    subst none (sym c.in-Token.is) (row_is value.Token c.args.number (λ types. token_low c.args.number) refl refl)

pub low_of_row-returns-in-Tuple : goal.low_of_row-returns-in-Tuple
low_of_row-returns-in-Tuple t c = IfOk-weaker c.low_tuple.result _ _ (λ low h.
    subst (λ (r : TypeRow). IsLowOfRow (item_names c.args.f.now) c.args.types.now r c.args.number low) (ap row.Tuple c.as_slice.ensures ∙ sym c.in-Tuple.is) h) c.low_tuple.ensures

pub low_of_row-returns-in-Struct : goal.low_of_row-returns-in-Struct
low_of_row-returns-in-Struct t c = IfOk-weaker c.low_struct.result _ _ (λ low h.
    subst (λ (r : TypeRow). IsLowOfRow (item_names c.args.f.now) c.args.types.now r c.args.number low) (ap (row.Struct c.in-Struct.item) c.as_slice-in-Struct.ensures ∙ sym c.in-Struct.is) h) c.low_struct.ensures

pub low_of_row-returns-in-Array : goal.low_of_row-returns-in-Array
low_of_row-returns-in-Array t c = IfOk-weaker c.low_array.result _ _ (λ low h.
    subst (λ (r : TypeRow). IsLowOfRow (item_names c.args.f.now) c.args.types.now r c.args.number low) (sym c.in-Array.is) h) c.low_array.ensures

pub low_tuple-returns : goal.low_tuple-returns
low_tuple-returns t c = tuple_row c.in_ok-lows.ensures (ap value.Tuple c.from_vec.ensures) refl

pub low_struct-returns : goal.low_struct-returns
low_struct-returns t c = struct_row c.in_ok-name.name c.in_ok-fields.fields c.in_ok-name.ensures c.in_ok-fields.ensures c.in_ok-lows.ensures (ap (value.Struct c.in_ok-name.name c.in_ok-fields.fields) c.from_vec.ensures) refl

pub low_parts-parts-init : goal.low_parts-parts-init
low_parts-parts-init t c = lows_begin _ c.new-values.ensures.items (omega arith)

pub low_parts-parts-preserved : goal.low_parts-parts-preserved
low_parts-parts-preserved t c = lows_back (length c.args.parts.now) c.parts.i _ _ c.parts.invariant (omega arith) refl refl c.in_ok-low.ensures c.in_ok-push.ensures.items

pub low_parts-returns : goal.low_parts-returns
low_parts-returns t c = lows_end (omega arith) c.parts.invariant c.reverse.ensures.items

pub low_array-turns-init : goal.low_array-turns-init
low_array-turns-init t c = times_begin c.new-values.ensures.items

pub low_array-turns-preserved : goal.low_array-turns-preserved
low_array-turns-preserved t c = times_next c.turns.counter c.turns.invariant c.in_ok-low.ensures c.in_ok-push.ensures.items

pub low_array-returns : goal.low_array-returns
low_array-returns t c = array_row (subst (λ (n : ℕ). TimesSoFar (item_names c.args.f.now) c.args.types.now c.args.part c.args.number n c.turns.values.items c.turns.rest) (omega arith) c.turns.invariant)
    (ap value.Array (c.from_vec.ensures ∙ c.reverse.ensures.items))

pub low_value-low_of_row-requires : goal.low_value-low_of_row-requires
low_value-low_of_row-requires t c = let within = bound_within (parts_of c.in-Some.row.now) c.args.ty.0 c.in-Some.ensures.earlier in omega (arith, within)

pub low_of_row-low_tuple-requires : goal.low_of_row-low_tuple-requires
low_of_row-low_tuple-requires t c =
    let same : bound_of c.as_slice.result.now ≡ bound_of (parts_of c.args.row.now) = ap (λ r. bound_of (parts_of r)) (ap row.Tuple c.as_slice.ensures ∙ sym c.in-Tuple.is) in
    omega (arith, same)

pub low_of_row-low_struct-requires : goal.low_of_row-low_struct-requires
low_of_row-low_struct-requires t c =
    let same : bound_of c.as_slice-in-Struct.result.now ≡ bound_of (parts_of c.args.row.now) = ap (λ r. bound_of (parts_of r)) (ap (row.Struct c.in-Struct.item) c.as_slice-in-Struct.ensures ∙ sym c.in-Struct.is) in
    omega (arith, same)

pub low_of_row-low_array-requires : goal.low_of_row-low_array-requires
low_of_row-low_array-requires t c =
    let same : bound_of (parts_of c.args.row.now) ≡ max (c.in-Array.part.0 + 1) 0 = ap (λ r. bound_of (parts_of r)) c.in-Array.is in
    omega (arith, same)

pub low_parts-low_value-requires : goal.low_parts-low_value-requires
low_parts-low_value-requires t c =
    let first : TypeId = record { 0 = 0 } in
    let inside : length c.args.parts.now - 1 - c.parts.i < length c.args.parts.now = omega arith in
    let below = element_below c.args.parts.now (length c.args.parts.now - 1 - c.parts.i) first inside in
    (omega (arith, below), tt)
