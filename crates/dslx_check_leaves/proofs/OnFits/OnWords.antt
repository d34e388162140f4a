-- The values of types in the low bits of numbers.
use Rattle.std.proofs.Common.{◌≡◌, ◌∙◌, ◌++◌, ◌<◌, ◌≤◌, ◌+◌, ◌*◌, ◌-◌, ◌/◌, ◌%◌, ◌^◌, ℕ, zero, suc, Bool, List, [], ◌∷◌, map, length, drop, reverse, get_or, max, arith, refl, sym, ap, subst}
use Rattle.std.specs.List.{All}
use Rattle.std.specs.Prelude.{Result, Ok, Err, IfOk}
use Rattle.std.proofs.lemmas.List.{reverse-append}
use Rattle.base.specs.Lists.Prefix.{IsPrefix}
use Rattle.xb_bits.specs.Word.{word}
use Rattle.xb_value.specs.Unflat.{Taker, take_step, taken_by, taken_low, taken_times}
use Rattle.xb_value.specs.declared.ty.Ty.{Ty}
use Rattle.xb_value.specs.declared.ty.Ty as pty
use Rattle.xb_value.specs.declared.ty.Ty.TheFolds.{fold-roll-Ty, map-Ty}
use Rattle.xb_value.specs.declared.ty.Ty.TheOpen.{Ty-F}
use Rattle.xb_value.specs.declared.ty.Ty.TheVariants as plain_rolls
use Rattle.xb_value.specs.declared.ty.Ty.TheViews as plain_type_views
use Rattle.xb_value.specs.declared.value.Value.{Value}
use Rattle.xb_value.specs.declared.value.Value as plain
use Rattle.xb_value.specs.declared.value.Value.TheViews as plain_views
use Rattle.dslx_meaning.specs.Lists.{apply_each}
use Rattle.dslx_meaning.specs.Types.{plain_step, plain_type}
use Rattle.dslx_meaning.specs.Values.{at_type, at_type_step, parts_in_step, word_in_step}
use Rattle.dslx_meaning.specs.declared.ty.DslxType as ty
use Rattle.dslx_meaning.specs.declared.ty.DslxType.{DslxType}
use Rattle.dslx_meaning.specs.declared.ty.DslxType.TheFolds.{fold-roll-DslxType, map-DslxType}
use Rattle.dslx_meaning.specs.declared.ty.DslxType.TheOpen.{DslxType-F}
use Rattle.dslx_meaning.specs.declared.ty.DslxType.TheVariants as type_rolls
use Rattle.dslx_meaning.specs.declared.ty.DslxType.TheViews as type_views
use Rattle.dslx_meaning.specs.declared.value.DslxValue as value
use Rattle.dslx_meaning.specs.declared.value.DslxValue.{DslxValue}
use Rattle.dslx_check_rules.specs.Interned.{HasRow, ItemNames, row_type, type_at, types_in}
use Rattle.dslx_check_rules.specs.Rows.{parts_of}
use Rattle.dslx_check_rules.specs.declared.table.row.TypeId.{TypeId}
use Rattle.dslx_check_rules.specs.declared.table.row.TypeRow.{TypeRow}
use Rattle.dslx_check_rules.specs.declared.table.row.TypeRow.TheVariants as row
use Rattle.dslx_check_leaves.specs.declared.fits.words.Low.{Low}
use Rattle.dslx_check_leaves.specs.declared.fits.words.Lows.{Lows}
use Rattle.dslx_check_leaves.specs.Fits.Words.{AreLows, IsLow, IsLowOfRow, low_of, lows_of, repeated_type}
use Rattle.dslx_check_leaves.proofs.OnFits.Among.{no_rest, rest_at}

-- ---- the kinds of types

plain_is : (l : DslxType-F DslxType) (t : DslxType) → type_views.roll-DslxType l ≡ t → plain_type t ≡ plain_step (map-DslxType DslxType Ty plain_type l)
plain_is l t e = ap plain_type (sym e) ∙ fold-roll-DslxType Ty plain_step l

at_is : (l : DslxType-F DslxType) (t : DslxType) → type_views.roll-DslxType l ≡ t → at_type t ≡ at_type_step (map-DslxType DslxType (Value → DslxValue) at_type l)
at_is l t e = ap at_type (sym e) ∙ fold-roll-DslxType (Value → DslxValue) at_type_step l

taken_is : (l : Ty-F Ty) (t : Ty) → plain_type_views.roll-Ty l ≡ t → taken_low t ≡ take_step (map-Ty Ty Taker taken_low l)
taken_is l t e = ap taken_low (sym e) ∙ fold-roll-Ty Taker take_step l

-- from what is taken and how it is read
low_by : (t : DslxType) (n : ℕ) (p : Ty) (v : Value) (rest : ℕ) (u : DslxValue) → plain_type t ≡ p → taken_low p n ≡ (v, rest) → at_type t v ≡ u → low_of t n ≡ (u, rest)
low_by t n p v rest u is taken read =
    let whole : taken_low (plain_type t) n ≡ (v, rest) = ap (λ q. taken_low q n) is ∙ taken in
    (λ i. (at_type t (whole i).0, (whole i).1)) ∙ (λ i. (read i, rest))

pub bits_low : (s : Bool) (w n : ℕ) → low_of (ty.Bits s w) n ≡ (value.Bits s (word w (n % 2 ^ w)), n / 2 ^ w)
bits_low s w n = low_by (ty.Bits s w) n (pty.Bits w) (plain.Bits (word w (n % 2 ^ w))) (n / 2 ^ w) (value.Bits s (word w (n % 2 ^ w)))
    (plain_is (DslxType-F.Bits s w) (ty.Bits s w) (type_rolls.rolls-Bits s w)) (ap (λ f. f n) (taken_is (Ty-F.Bits w) (pty.Bits w) (plain_rolls.rolls-Bits w)))
    (ap (λ f. f (plain.Bits (word w (n % 2 ^ w)))) (at_is (DslxType-F.Bits s w) (ty.Bits s w) (type_rolls.rolls-Bits s w)) ∙ ap (λ l. value.Bits s (word_in_step l)) (plain_views.outs-Bits (word w (n % 2 ^ w))))

pub enum_low : (name : List ℕ) (s : Bool) (w n : ℕ) → low_of (ty.Enum name s w) n ≡ (value.Enum name s (word w (n % 2 ^ w)), n / 2 ^ w)
enum_low name s w n = low_by (ty.Enum name s w) n (pty.Bits w) (plain.Bits (word w (n % 2 ^ w))) (n / 2 ^ w) (value.Enum name s (word w (n % 2 ^ w)))
    (plain_is (DslxType-F.Enum name s w) (ty.Enum name s w) (type_rolls.rolls-Enum name s w)) (ap (λ f. f n) (taken_is (Ty-F.Bits w) (pty.Bits w) (plain_rolls.rolls-Bits w)))
    (ap (λ f. f (plain.Bits (word w (n % 2 ^ w)))) (at_is (DslxType-F.Enum name s w) (ty.Enum name s w) (type_rolls.rolls-Enum name s w)) ∙ ap (λ l. value.Enum name s (word_in_step l)) (plain_views.outs-Bits (word w (n % 2 ^ w))))

-- the parts as they are taken, and then read
fused : (ts : List DslxType) (n : ℕ) → ◌≡◌ {A = List DslxValue × ℕ} (apply_each (map at_type ts) (taken_by (map taken_low (map plain_type ts)) n).0, (taken_by (map taken_low (map plain_type ts)) n).1) (lows_of ts n)
fused [] n = refl
fused (t ∷ ts) n = λ i. ((low_of t (fused ts n i).1).0 ∷ (fused ts n i).0, (low_of t (fused ts n i).1).1)

fused_times : (t : DslxType) (k n : ℕ) → ◌≡◌ {A = List DslxValue × ℕ} (map (at_type t) (taken_times k (taken_low (plain_type t)) n).0, (taken_times k (taken_low (plain_type t)) n).1) (lows_of (repeated_type k t) n)
fused_times t zero n = refl
fused_times t (suc k) n = λ i. ((low_of t (fused_times t k n i).1).0 ∷ (fused_times t k n i).0, (low_of t (fused_times t k n i).1).1)

pub tuple_low : (ts : List DslxType) (n : ℕ) → low_of (ty.Tuple ts) n ≡ (value.Tuple (lows_of ts n).0, (lows_of ts n).1)
tuple_low ts n =
    let all = taken_by (map taken_low (map plain_type ts)) n in
    low_by (ty.Tuple ts) n (pty.Tuple (map plain_type ts)) (plain.Tuple all.0) all.1 (value.Tuple (apply_each (map at_type ts) all.0))
    (plain_is (DslxType-F.Tuple ts) (ty.Tuple ts) (type_rolls.rolls-Tuple ts)) (ap (λ f. f n) (taken_is (Ty-F.Tuple (map plain_type ts)) (pty.Tuple (map plain_type ts)) (plain_rolls.rolls-Tuple (map plain_type ts))))
    (ap (λ f. f (plain.Tuple all.0)) (at_is (DslxType-F.Tuple ts) (ty.Tuple ts) (type_rolls.rolls-Tuple ts)) ∙ ap (λ l. value.Tuple (apply_each (map at_type ts) (parts_in_step l))) (plain_views.outs-Tuple all.0))
    ∙ (λ i. (value.Tuple (fused ts n i).0, (fused ts n i).1))

pub struct_low : (name : List ℕ) (fields : List (List ℕ)) (ts : List DslxType) (n : ℕ) → low_of (ty.Struct name fields ts) n ≡ (value.Struct name fields (lows_of ts n).0, (lows_of ts n).1)
struct_low name fields ts n =
    let all = taken_by (map taken_low (map plain_type ts)) n in
    low_by (ty.Struct name fields ts) n (pty.Tuple (map plain_type ts)) (plain.Tuple all.0) all.1 (value.Struct name fields (apply_each (map at_type ts) all.0))
    (plain_is (DslxType-F.Struct name fields ts) (ty.Struct name fields ts) (type_rolls.rolls-Struct name fields ts))
    (ap (λ f. f n) (taken_is (Ty-F.Tuple (map plain_type ts)) (pty.Tuple (map plain_type ts)) (plain_rolls.rolls-Tuple (map plain_type ts))))
    (ap (λ f. f (plain.Tuple all.0)) (at_is (DslxType-F.Struct name fields ts) (ty.Struct name fields ts) (type_rolls.rolls-Struct name fields ts))
    ∙ ap (λ l. value.Struct name fields (apply_each (map at_type ts) (parts_in_step l))) (plain_views.outs-Tuple all.0))
    ∙ (λ i. (value.Struct name fields (fused ts n i).0, (fused ts n i).1))

pub array_low : (t : DslxType) (k n : ℕ) → low_of (ty.Array t k) n ≡ (value.Array (lows_of (repeated_type k t) n).0, (lows_of (repeated_type k t) n).1)
array_low t k n =
    let all = taken_times k (taken_low (plain_type t)) n in
    low_by (ty.Array t k) n (pty.Array (plain_type t) k) (plain.Array all.0) all.1 (value.Array (map (at_type t) all.0))
    (plain_is (DslxType-F.Array t k) (ty.Array t k) (type_rolls.rolls-Array t k)) (ap (λ f. f n) (taken_is (Ty-F.Array (plain_type t) k) (pty.Array (plain_type t) k) (plain_rolls.rolls-Array (plain_type t) k)))
    (ap (λ f. f (plain.Array all.0)) (at_is (DslxType-F.Array t k) (ty.Array t k) (type_rolls.rolls-Array t k)) ∙ ap (λ l. value.Array (map (at_type t) (parts_in_step l))) (plain_views.outs-Array all.0))
    ∙ (λ i. (value.Array (fused_times t k n i).0, (fused_times t k n i).1))

pub token_low : (n : ℕ) → low_of ty.Token n ≡ (value.Token, n)
token_low n = low_by ty.Token n (pty.Tuple []) (plain.Tuple []) n value.Token (plain_is DslxType-F.Token ty.Token type_rolls.rolls-Token)
    (ap (λ f. f n) (taken_is (Ty-F.Tuple []) (pty.Tuple []) (plain_rolls.rolls-Tuple []))) (ap (λ f. f (plain.Tuple [])) (at_is DslxType-F.Token ty.Token type_rolls.rolls-Token))

-- ---- rows

-- a row that is a type without parts
pub row_is : {names : ItemNames} {rows : List TypeRow} {r : TypeRow} {n : ℕ} {low : Low} (v : DslxValue) (rest : ℕ) → ((types : ℕ → DslxType) → low_of (row_type names types r) n ≡ (v, rest)) → low.value ≡ v → low.rest ≡ rest
    → IsLowOfRow names rows r n low
row_is {names} {rows} {r} {n} {low} v rest is e f = record {
  value = λ later p all. e ∙ sym (ap (λ (q : DslxValue × ℕ). q.0) (is (types_in names later)));
  rest = λ later p all. f ∙ sym (ap (λ (q : DslxValue × ℕ). q.1) (is (types_in names later)));
}

pub tuple_row : {names : ItemNames} {rows : List TypeRow} {parts : List TypeId} {n : ℕ} {low : Low} {lows : Lows} → AreLows names rows parts n lows → low.value ≡ value.Tuple lows.values.items → low.rest ≡ lows.rest
    → IsLowOfRow names rows (row.Tuple parts) n low
tuple_row {names} {rows} {parts} {n} {low} {lows} h e f = record {
  value = λ later p all. e ∙ ap value.Tuple (h.values later p all) ∙ sym (ap (λ (q : DslxValue × ℕ). q.0) (tuple_low (map (type_at names later) parts) n));
  rest = λ later p all. f ∙ h.rest later p all ∙ sym (ap (λ (q : DslxValue × ℕ). q.1) (tuple_low (map (type_at names later) parts) n));
}

pub struct_row : {names : ItemNames} {rows : List TypeRow} {item : ℕ} {parts : List TypeId} {n : ℕ} {low : Low} {lows : Lows} (name : List ℕ) (fields : List (List ℕ)) → name ≡ names.item item → fields ≡ names.fields item
    → AreLows names rows parts n lows → low.value ≡ value.Struct name fields lows.values.items → low.rest ≡ lows.rest → IsLowOfRow names rows (row.Struct item parts) n low
struct_row {names} {rows} {item} {parts} {n} {low} {lows} name fields e1 e2 h e f = record {
  value = λ later p all. e ∙ (λ i. value.Struct (e1 i) (e2 i) (h.values later p all i)) ∙ sym (ap (λ (q : DslxValue × ℕ). q.0) (struct_low (names.item item) (names.fields item) (map (type_at names later) parts) n));
  rest = λ later p all. f ∙ h.rest later p all ∙ sym (ap (λ (q : DslxValue × ℕ). q.1) (struct_low (names.item item) (names.fields item) (map (type_at names later) parts) n));
}

-- the type of a number is what its row is
pub low_of_number : {names : ItemNames} {rows : List TypeRow} {t : TypeId} {r : TypeRow} {n : ℕ} {low : Low} → ((later : List TypeRow) → IsPrefix rows later → type_at names later t ≡ row_type names (types_in names later) r)
    → All (λ (p : TypeId). p.0 < t.0) (parts_of r) → IsLowOfRow names rows r n low → IsLow names rows t n low
low_of_number {names} {rows} {t} {r} {n} {low} is earlier h = record {
  value = λ later p there. h.value later p (below there) ∙ ap (λ (u : DslxType). (low_of u n).0) (sym (is later p));
  rest = λ later p there. h.rest later p (below there) ∙ ap (λ (u : DslxType). (low_of u n).1) (sym (is later p));
}
  where
    below : HasRow rows t → All (HasRow rows) (parts_of r)
    below there k p l = let q = earlier k p l in omega (arith, q, there)

-- ---- parts, from the last one on

-- the parts from a place on
pub record LowsFrom (names : ItemNames) (rows : List TypeRow) (parts : List TypeId) (number at : ℕ) (values : List DslxValue) (left : ℕ) : Type 0 where
  pub are : (later : List TypeRow) → IsPrefix rows later → All (HasRow rows) parts → reverse values ≡ (lows_of (map (type_at names later) (drop at parts)) number).0
  pub rest : (later : List TypeRow) → IsPrefix rows later → All (HasRow rows) parts → left ≡ (lows_of (map (type_at names later) (drop at parts)) number).1

pub lows_next : {names : ItemNames} {rows : List TypeRow} {parts : List TypeId} {number left : ℕ} {values more : List DslxValue} {low : Low} (at : ℕ) (p : TypeId) → LowsFrom names rows parts number (at + 1) values left
    → at < length parts → p ≡ get_or parts at p → IsLow names rows p left low → more ≡ values ++ low.value ∷ [] → LowsFrom names rows parts number at more low.rest
lows_next {names} {rows} {parts} {number} {left} {values} {more} {low} at p far within here h pushed = record {
  are = λ later q all.
      ap reverse pushed ∙ reverse-append values (low.value ∷ [])
      ∙ (λ i. (h.value later q (row all) ∙ ap (λ k. (low_of (type_at names later p) k).0) (far.rest later q all)) i ∷ far.are later q all i)
      ∙ sym (ap (λ (ps : List TypeId). (lows_of (map (type_at names later) ps) number).0) (rest_at parts at p within here));
  rest = λ later q all.
      h.rest later q (row all) ∙ ap (λ k. (low_of (type_at names later p) k).1) (far.rest later q all)
      ∙ sym (ap (λ (ps : List TypeId). (lows_of (map (type_at names later) ps) number).1) (rest_at parts at p within here));
}
  where
    row : All (HasRow rows) parts → HasRow rows p
    row all = subst (HasRow rows) (sym here) (all at p within)

pub lows_begin : {names : ItemNames} {rows : List TypeRow} {parts : List TypeId} {number : ℕ} {values : List DslxValue} (at : ℕ) → values ≡ [] → length parts ≤ at → LowsFrom names rows parts number at values number
lows_begin {names} {rows} {parts} {number} {values} at none h = record {
  are = λ later q all. ap reverse none ∙ sym (ap (λ (ps : List TypeId). (lows_of (map (type_at names later) ps) number).0) (no_rest parts at h));
  rest = λ later q all. sym (ap (λ (ps : List TypeId). (lows_of (map (type_at names later) ps) number).1) (no_rest parts at h));
}

read_again : {A : Type 0} (xs : List A) (i : ℕ) (x d : A) → i < length xs → x ≡ get_or xs i d → x ≡ get_or xs i x
read_again [] i x d h e = absurd (omega arith)
read_again (y ∷ xs) zero x d h e = e
read_again (y ∷ xs) (suc i) x d h e = read_again xs i x d (omega arith) e

-- where turns are counted from the first one on
pub lows_back : {names : ItemNames} {rows : List TypeRow} {parts : List TypeId} {number left : ℕ} {values more : List DslxValue} {low : Low} (count i : ℕ) (p d : TypeId) → LowsFrom names rows parts number (count - i) values left
    → i < count → count ≡ length parts → p ≡ get_or parts (count - 1 - i) d → IsLow names rows p left low → more ≡ values ++ low.value ∷ [] → LowsFrom names rows parts number (count - (i + 1)) more low.rest
lows_back {names} {rows} {parts} {number} {left} {values} {more} {low} count i p d far within size here h pushed =
    let at : ℕ = count - 1 - i in
    let before : count - i ≡ at + 1 = omega (arith, within) in
    let after : at ≡ count - (i + 1) = omega (arith, within) in
    let inside : at < length parts = omega (arith, within, size) in
    subst (λ (k : ℕ). LowsFrom names rows parts number k more low.rest) after
    (lows_next at p (subst (λ (k : ℕ). LowsFrom names rows parts number k values left) before far) inside (read_again parts at p d inside here) h pushed)

pub lows_end : {names : ItemNames} {rows : List TypeRow} {parts : List TypeId} {number at : ℕ} {values : List DslxValue} {lows : Lows} → at ≡ 0 → LowsFrom names rows parts number at values lows.rest → lows.values.items ≡ reverse values
    → AreLows names rows parts number lows
lows_end {names} {rows} {parts} {number} {at} {values} {lows} first far e =
    let all : LowsFrom names rows parts number 0 values lows.rest = subst (λ (k : ℕ). LowsFrom names rows parts number k values lows.rest) first far in
    record { values = λ later q there. e ∙ all.are later q there; rest = λ later q there. all.rest later q there }

-- as many of one type
pub record TimesSoFar (names : ItemNames) (rows : List TypeRow) (part : TypeId) (number count : ℕ) (values : List DslxValue) (left : ℕ) : Type 0 where
  pub are : (later : List TypeRow) → IsPrefix rows later → HasRow rows part → reverse values ≡ (lows_of (repeated_type count (type_at names later part)) number).0
  pub rest : (later : List TypeRow) → IsPrefix rows later → HasRow rows part → left ≡ (lows_of (repeated_type count (type_at names later part)) number).1

pub times_begin : {names : ItemNames} {rows : List TypeRow} {part : TypeId} {number : ℕ} {values : List DslxValue} → values ≡ [] → TimesSoFar names rows part number 0 values number
times_begin {names} {rows} {part} {number} {values} none = record { are = λ later q there. ap reverse none; rest = λ later q there. refl }

pub times_next : {names : ItemNames} {rows : List TypeRow} {part : TypeId} {number left : ℕ} {values more : List DslxValue} {low : Low} (count : ℕ) → TimesSoFar names rows part number count values left
    → IsLow names rows part left low → more ≡ values ++ low.value ∷ [] → TimesSoFar names rows part number (count + 1) more low.rest
times_next {names} {rows} {part} {number} {left} {values} {more} {low} count far h pushed = record {
  are = λ later q there.
      ap reverse pushed ∙ reverse-append values (low.value ∷ [])
      ∙ (λ i. (h.value later q there ∙ ap (λ k. (low_of (type_at names later part) k).0) (far.rest later q there)) i ∷ far.are later q there i)
      ∙ ap (λ (k : ℕ). (lows_of (repeated_type k (type_at names later part)) number).0) on;
  rest = λ later q there.
      h.rest later q there ∙ ap (λ k. (low_of (type_at names later part) k).1) (far.rest later q there) ∙ ap (λ (k : ℕ). (lows_of (repeated_type k (type_at names later part)) number).1) on;
}
  where
    on : suc count ≡ count + 1
    on = omega arith

pub array_row : {names : ItemNames} {rows : List TypeRow} {part : TypeId} {number count : ℕ} {values : List DslxValue} {low : Low} → TimesSoFar names rows part number count values low.rest → low.value ≡ value.Array (reverse values)
    → IsLowOfRow names rows (row.Array part count) number low
array_row {names} {rows} {part} {number} {count} {values} {low} far e = record {
  value = λ later q all. e ∙ ap value.Array (far.are later q (all 0 part (omega arith))) ∙ sym (ap (λ (x : DslxValue × ℕ). x.0) (array_low (type_at names later part) count number));
  rest = λ later q all. far.rest later q (all 0 part (omega arith)) ∙ sym (ap (λ (x : DslxValue × ℕ). x.1) (array_low (type_at names later part) count number));
}

-- ---- how far a recursion goes

abbrev pub bound_of : List TypeId → ℕ
bound_of [] = 0
bound_of (p ∷ ps) = max (p.0 + 1) (bound_of ps)

pub bound_within : (ps : List TypeId) (n : ℕ) → All (λ (p : TypeId). p.0 < n) ps → bound_of ps ≤ n
bound_within [] n h = omega arith
bound_within (p ∷ ps) n h = let first = h 0 p (omega arith) in let rest = bound_within ps n (λ k q l. h (suc k) q (omega arith)) in omega (arith, first, rest)

first_below : (a b : ℕ) → 4 * a + 3 < 4 * max (a + 1) b
first_below a b = omega arith

below_others : (a b c : ℕ) → 4 * a + 3 < 4 * b → 4 * a + 3 < 4 * max c b
below_others a b c h = omega (arith, h)

pub element_below : (ps : List TypeId) (i : ℕ) (d : TypeId) → i < length ps → 4 * (get_or ps i d).0 + 3 < 4 * bound_of ps
element_below [] i d h = absurd (omega arith)
element_below (p ∷ ps) zero d h = first_below p.0 (bound_of ps)
element_below (p ∷ ps) (suc i) d h = below_others (get_or ps i d).0 (bound_of ps) (p.0 + 1) (element_below ps i d (omega arith))

pub both_ok : {T E : Type 0} (r : Result T E) {P Q R : T → Type 0} → IfOk r P → IfOk r Q → ((t : T) → P t → Q t → R t) → IfOk r R
both_ok (Ok t) p q h = h t p q
both_ok (Err e) p q h = tt
