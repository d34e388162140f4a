-- Rows that pass the test are one but for what hangs off the item of a struct or an enum, so the test is an equivalence, and they are
-- hashed alike.
use Rattle.std.proofs.Common.{◌≡◌, ◌&&◌, ◌==◌, ◌∙◌, ℕ, Bool, true, false, List, [], ◌∷◌, refl, sym, ap}
use mathlib.Core.Bool.{true≢false}
use Rattle.std.specs.Cmp.{IsEquivalence, both_ways, first_so, second_so}
use Rattle.std.specs.Cmp.Lexicographic.{pointwise}
use Rattle.std.proofs.lemmas.Bool.Decides.{Decides-eqb}
use Rattle.dslx_meaning.specs.Types.{same_bool}
use Rattle.dslx_meaning.specs.declared.ty.BitKind.{BitKind}
use Rattle.dslx_check_rules.specs.declared.table.row.TypeId.{TypeId}
use Rattle.dslx_check_rules.specs.declared.table.row.TypeRow.{TypeRow}
use Rattle.dslx_check_rules.specs.declared.table.row.TypeRow.TheVariants.{Bits, Tuple, Array, Struct, Enum, Token}
use Rattle.dslx_check_rules.specs.Rows.{fed_of, same_id, same_kind, same_row, is_bits_row, is_tuple_row, is_array_row, is_struct_row, is_enum_row, is_token_row}

-- a row without what hangs off its item
abbrev pub bare_row : TypeRow → TypeRow
bare_row (Struct i ts) = Struct i []
bare_row (Enum i k) = Enum i (record { signed = false; width = 0 })
bare_row r = r

-- ---- numbers, signs and kinds

one_number : (m n : ℕ) → (m == n) ≡ true → m ≡ n
one_number m n e = (Decides-eqb m n).0 e

number_itself : (n : ℕ) → (n == n) ≡ true
number_itself n = (Decides-eqb n n).1 refl

one_sign : (s t : Bool) → same_bool s t ≡ true → s ≡ t
one_sign true true e = refl
one_sign true false e = absurd (true≢false (sym e))
one_sign false true e = absurd (true≢false (sym e))
one_sign false false e = refl

sign_itself : (s : Bool) → same_bool s s ≡ true
sign_itself true = refl
sign_itself false = refl

one_kind : (k l : BitKind) → same_kind k l ≡ true → k ≡ l
one_kind k l e =
    let s : k.signed ≡ l.signed = one_sign k.signed l.signed (first_so (same_bool k.signed l.signed) (k.width == l.width) e) in
    let w : k.width ≡ l.width = one_number k.width l.width (second_so (same_bool k.signed l.signed) (k.width == l.width) e) in
    λ i. record { signed = s i; width = w i }

kind_itself : (k : BitKind) → same_kind k k ≡ true
kind_itself k = λ i. sign_itself k.signed i && number_itself k.width i

one_id : (t u : TypeId) → same_id t u ≡ true → t ≡ u
one_id t u e = λ i. record { 0 = one_number t.0 u.0 e i }

one_list : (ts us : List TypeId) → pointwise same_id ts us ≡ true → ts ≡ us
one_list [] [] e = refl
one_list [] (u ∷ us) e = absurd (true≢false (sym e))
one_list (t ∷ ts) [] e = absurd (true≢false (sym e))
one_list (t ∷ ts) (u ∷ us) e = λ i. one_id t u (first_so (same_id t u) (pointwise same_id ts us) e) i ∷ one_list ts us (second_so (same_id t u) (pointwise same_id ts us) e) i

list_itself : (ts : List TypeId) → pointwise same_id ts ts ≡ true
list_itself [] = refl
list_itself (t ∷ ts) = λ i. number_itself t.0 i && list_itself ts i

-- ---- rows that pass the test are one but for what hangs off their items

pub bits_one : (k : BitKind) (r : TypeRow) → is_bits_row k r ≡ true → Bits k ≡ r
bits_one k (Bits l) e = ap Bits (one_kind k l e)
bits_one k (Tuple us) e = absurd (true≢false (sym e))
bits_one k (Array u n) e = absurd (true≢false (sym e))
bits_one k (Struct j us) e = absurd (true≢false (sym e))
bits_one k (Enum j l) e = absurd (true≢false (sym e))
bits_one k Token e = absurd (true≢false (sym e))

pub tuple_one : (ts : List TypeId) (r : TypeRow) → is_tuple_row ts r ≡ true → Tuple ts ≡ r
tuple_one ts (Bits l) e = absurd (true≢false (sym e))
tuple_one ts (Tuple us) e = ap Tuple (one_list ts us e)
tuple_one ts (Array u n) e = absurd (true≢false (sym e))
tuple_one ts (Struct j us) e = absurd (true≢false (sym e))
tuple_one ts (Enum j l) e = absurd (true≢false (sym e))
tuple_one ts Token e = absurd (true≢false (sym e))

pub array_one : (t : TypeId) (m : ℕ) (r : TypeRow) → is_array_row t m r ≡ true → Array t m ≡ r
array_one t m (Bits l) e = absurd (true≢false (sym e))
array_one t m (Tuple us) e = absurd (true≢false (sym e))
array_one t m (Array u n) e = λ i. Array (one_id t u (first_so (t.0 == u.0) (m == n) e) i) (one_number m n (second_so (t.0 == u.0) (m == n) e) i)
array_one t m (Struct j us) e = absurd (true≢false (sym e))
array_one t m (Enum j l) e = absurd (true≢false (sym e))
array_one t m Token e = absurd (true≢false (sym e))

pub struct_one : (i : ℕ) (r : TypeRow) → is_struct_row i r ≡ true → (ts : List TypeId) × (Struct i ts ≡ r)
struct_one i (Bits l) e = absurd (true≢false (sym e))
struct_one i (Tuple us) e = absurd (true≢false (sym e))
struct_one i (Array u n) e = absurd (true≢false (sym e))
struct_one i (Struct j us) e = (us, ap (λ k. Struct k us) (one_number i j e))
struct_one i (Enum j l) e = absurd (true≢false (sym e))
struct_one i Token e = absurd (true≢false (sym e))

pub enum_one : (i : ℕ) (r : TypeRow) → is_enum_row i r ≡ true → (k : BitKind) × (Enum i k ≡ r)
enum_one i (Bits l) e = absurd (true≢false (sym e))
enum_one i (Tuple us) e = absurd (true≢false (sym e))
enum_one i (Array u n) e = absurd (true≢false (sym e))
enum_one i (Struct j us) e = absurd (true≢false (sym e))
enum_one i (Enum j l) e = (l, ap (λ k. Enum k l) (one_number i j e))
enum_one i Token e = absurd (true≢false (sym e))

pub token_one : (r : TypeRow) → is_token_row r ≡ true → Token ≡ r
token_one (Bits l) e = absurd (true≢false (sym e))
token_one (Tuple us) e = absurd (true≢false (sym e))
token_one (Array u n) e = absurd (true≢false (sym e))
token_one (Struct j us) e = absurd (true≢false (sym e))
token_one (Enum j l) e = absurd (true≢false (sym e))
token_one Token e = refl

pub one_row : (a b : TypeRow) → same_row a b ≡ true → bare_row a ≡ bare_row b
one_row (Bits k) b e = ap bare_row (bits_one k b e)
one_row (Tuple ts) b e = ap bare_row (tuple_one ts b e)
one_row (Array t n) b e = ap bare_row (array_one t n b e)
one_row (Struct i ts) b e = ap bare_row (struct_one i b e).1
one_row (Enum i k) b e = ap bare_row (enum_one i b e).1
one_row Token b e = ap bare_row (token_one b e)

-- ---- and the other way round

passes_itself : (a : TypeRow) → same_row a (bare_row a) ≡ true
passes_itself (Bits k) = kind_itself k
passes_itself (Tuple ts) = list_itself ts
passes_itself (Array t n) = λ i. number_itself t.0 i && number_itself n i
passes_itself (Struct i ts) = number_itself i
passes_itself (Enum i k) = number_itself i
passes_itself Token = refl

struct_any : (a : TypeRow) (i : ℕ) (ts us : List TypeId) → same_row a (Struct i ts) ≡ same_row a (Struct i us)
struct_any (Bits k) i ts us = refl
struct_any (Tuple vs) i ts us = refl
struct_any (Array t n) i ts us = refl
struct_any (Struct j vs) i ts us = refl
struct_any (Enum j k) i ts us = refl
struct_any Token i ts us = refl

enum_any : (a : TypeRow) (i : ℕ) (k l : BitKind) → same_row a (Enum i k) ≡ same_row a (Enum i l)
enum_any (Bits m) i k l = refl
enum_any (Tuple vs) i k l = refl
enum_any (Array t n) i k l = refl
enum_any (Struct j vs) i k l = refl
enum_any (Enum j m) i k l = refl
enum_any Token i k l = refl

by_bare : (a b : TypeRow) → same_row a (bare_row b) ≡ same_row a b
by_bare a (Bits k) = refl
by_bare a (Tuple ts) = refl
by_bare a (Array t n) = refl
by_bare a (Struct i ts) = struct_any a i [] ts
by_bare a (Enum i k) = enum_any a i (record { signed = false; width = 0 }) k
by_bare a Token = refl

pub passes_where_one : (a b : TypeRow) → bare_row a ≡ bare_row b → same_row a b ≡ true
passes_where_one a b e = sym (by_bare a b) ∙ ap (same_row a) (sym e) ∙ passes_itself a

pub rows_equivalence : IsEquivalence same_row
rows_equivalence = record {
  refl = λ a. passes_where_one a a refl;
  symm = λ a b. both_ways (same_row a b) (same_row b a) (λ e. passes_where_one b a (sym (one_row a b e))) (λ e. passes_where_one a b (sym (one_row b a e)));
  congr = λ a b c e. both_ways (same_row a c) (same_row b c)
      (λ f. passes_where_one b c (sym (one_row a b e) ∙ one_row a c f)) (λ f. passes_where_one a c (one_row a b e ∙ one_row b c f));
}

fed_bare : (a : TypeRow) → fed_of (bare_row a) ≡ fed_of a
fed_bare (Bits k) = refl
fed_bare (Tuple ts) = refl
fed_bare (Array t n) = refl
fed_bare (Struct i ts) = refl
fed_bare (Enum i k) = refl
fed_bare Token = refl

pub rows_fed_alike : (a b : TypeRow) → same_row a b ≡ true → fed_of a ≡ fed_of b
rows_fed_alike a b e = sym (fed_bare a) ∙ ap fed_of (one_row a b e) ∙ fed_bare b
