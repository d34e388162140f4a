-- One type is one number: types of an interning table are one where their numbers are.
use Rattle.std.proofs.Common.{◌≡◌, ◌<◌, ◌==◌, ◌&&◌, ℕ, zero, suc, Bool, true, false, List, [], ◌∷◌, length, map, slice_get, Some, refl, sym, ap, ◌∙◌, arith, eq-eqb}
use Rattle.std.specs.Cmp.{both_ways}
use Rattle.std.specs.Cmp.Lexicographic.{pointwise}
use Rattle.std.specs.List.{All, AllByRecursion, IsDistinct}
use Rattle.std.specs.Str.{bytes_eq}
use Rattle.std.proofs.lemmas.Bool.Decides.{Decides-eqb}
use Rattle.std.proofs.lemmas.List.Elements.{recursion_from_All}
use Rattle.std.proofs.lemmas.Option.{none-some, same_Some}
use Rattle.std.proofs.lemmas.Slice.Eq.{bytes_eq-Decides}
use mathlib.Core.Bool.{true≢false}
use Rattle.dslx_meaning.specs.Types.{array_is, bits_are, each_is, enum_is, same_type, same_type_step, struct_is, token_is, tuple_is}
use Rattle.dslx_meaning.specs.declared.ty.BitKind.{BitKind}
use Rattle.dslx_meaning.specs.declared.ty.DslxType.{DslxType, out-DslxType}
use Rattle.dslx_meaning.specs.declared.ty.DslxType.TheOpen.{DslxType-F}
use Rattle.dslx_meaning.specs.declared.ty.DslxType.TheViews as views
use Rattle.dslx_check_rules.specs.declared.table.row.TypeId.{TypeId}
use Rattle.dslx_check_rules.specs.declared.table.row.TypeRow.{TypeRow}
use Rattle.dslx_check_rules.specs.declared.table.row.TypeRow.TheVariants as row
use Rattle.dslx_check_rules.specs.Rows.{is_array_row, is_bits_row, is_enum_row, is_struct_row, is_token_row, is_tuple_row, parts_of, same_id, same_row}
use Rattle.dslx_check_rules.specs.RowLaws.{rows_equivalence}
use Rattle.dslx_check_rules.specs.Interned.{AreDistinct, ItemNames, row_type, types_in}
use Rattle.dslx_check_rules.proofs.Lemmas.Types.{type_of_row}
use Rattle.dslx_check_rules.proofs.OnTable.Measured.{fold-Array, fold-Bits, fold-Enum, fold-Struct, fold-Token, fold-Tuple}

-- ---- places of distinct rows

no_other : {K : Type 0} (p : K → Bool) (xs : List K) (j : ℕ) (y : K) → AllByRecursion (λ x. p x ≡ false) xs → slice_get xs j ≡ Some y → p y ≡ true → ⊥
no_other p [] j y all e t = none-some y e
no_other p (x ∷ xs) zero y all e t = true≢false (sym t ∙ ap p (sym (same_Some x y e)) ∙ all.0)
no_other p (x ∷ xs) (suc j) y all e t = no_other p xs j y all.1 e t

pub one_place : (xs : List TypeRow) (i j : ℕ) (x y : TypeRow) → IsDistinct same_row xs → slice_get xs i ≡ Some x → slice_get xs j ≡ Some y → same_row x y ≡ true → i ≡ j
unfolding IsDistinct
one_place [] i j x y d p q e = absurd (none-some x p)
one_place (r ∷ rs) zero zero x y d p q e = refl
one_place (r ∷ rs) zero (suc j) x y d p q e = absurd (no_other (same_row r) rs j y d.0 q (ap (λ z. same_row z y) (same_Some r x p) ∙ e))
one_place (r ∷ rs) (suc i) zero x y d p q e =
    absurd (no_other (same_row r) rs i x d.0 p (ap (λ z. same_row z x) (same_Some r y q) ∙ rows_equivalence.symm y x ∙ e))
one_place (r ∷ rs) (suc i) (suc j) x y d p q e = ap suc (one_place rs i j x y d.1 p q e)

there : {A : Type 0} (xs : List A) (n : ℕ) → n < length xs → (x : A) × (slice_get xs n ≡ Some x)
there [] n h = absurd (omega (arith, h))
there (x ∷ xs) zero h = (x, refl)
there (x ∷ xs) (suc n) h = there xs n (omega (arith, h))

-- ---- types of rows are one where the rows are

abbrev pub row_level : ItemNames → (ℕ → DslxType) → TypeRow → DslxType-F DslxType
row_level names f (row.Bits k) = DslxType-F.Bits k.signed k.width
row_level names f (row.Tuple ts) = DslxType-F.Tuple (map (λ (t : TypeId). f t.0) ts)
row_level names f (row.Array t n) = DslxType-F.Array (f t.0) n
row_level names f (row.Struct i ts) = DslxType-F.Struct (names.item i) (names.fields i) (map (λ (t : TypeId). f t.0) ts)
row_level names f (row.Enum i k) = DslxType-F.Enum (names.item i) k.signed k.width
row_level names f row.Token = DslxType-F.Token

pub level_of_row : (names : ItemNames) (f : ℕ → DslxType) (r : TypeRow) → out-DslxType (row_type names f r) ≡ row_level names f r
level_of_row names f (row.Bits k) = views.outs-Bits k.signed k.width
level_of_row names f (row.Tuple ts) = views.outs-Tuple (map (λ (t : TypeId). f t.0) ts)
level_of_row names f (row.Array t n) = views.outs-Array (f t.0) n
level_of_row names f (row.Struct i ts) = views.outs-Struct (names.item i) (names.fields i) (map (λ (t : TypeId). f t.0) ts)
level_of_row names f (row.Enum i k) = views.outs-Enum (names.item i) k.signed k.width
level_of_row names f row.Token = views.outs-Token

item_told : (names : ItemNames) → AreDistinct names → (i j : ℕ) → bytes_eq (names.item i) (names.item j) ≡ (i == j)
item_told names apart i j = both_ways (bytes_eq (names.item i) (names.item j)) (i == j)
    (λ e. eq-eqb i j (apart i j ((bytes_eq-Decides (names.item i) (names.item j)).0 e)))
    (λ e. (bytes_eq-Decides (names.item i) (names.item j)).1 (ap names.item ((Decides-eqb i j).0 e)))

bits_told : (names : ItemNames) (f : ℕ → DslxType) (k : BitKind) (q : TypeRow) → bits_are k.signed k.width (row_level names f q) ≡ is_bits_row k q
bits_told names f k (row.Bits l) = refl
bits_told names f k (row.Tuple us) = refl
bits_told names f k (row.Array u m) = refl
bits_told names f k (row.Struct j us) = refl
bits_told names f k (row.Enum j l) = refl
bits_told names f k row.Token = refl

struct_told : (names : ItemNames) → AreDistinct names → (f : ℕ → DslxType) (i : ℕ) (q : TypeRow) → struct_is (names.item i) (row_level names f q) ≡ is_struct_row i q
struct_told names apart f i (row.Bits l) = refl
struct_told names apart f i (row.Tuple us) = refl
struct_told names apart f i (row.Array u m) = refl
struct_told names apart f i (row.Struct j us) = item_told names apart i j
struct_told names apart f i (row.Enum j l) = refl
struct_told names apart f i row.Token = refl

enum_told : (names : ItemNames) → AreDistinct names → (f : ℕ → DslxType) (i : ℕ) (q : TypeRow) → enum_is (names.item i) (row_level names f q) ≡ is_enum_row i q
enum_told names apart f i (row.Bits l) = refl
enum_told names apart f i (row.Tuple us) = refl
enum_told names apart f i (row.Array u m) = refl
enum_told names apart f i (row.Struct j us) = refl
enum_told names apart f i (row.Enum j l) = item_told names apart i j
enum_told names apart f i row.Token = refl

token_told : (names : ItemNames) (f : ℕ → DslxType) (q : TypeRow) → token_is (row_level names f q) ≡ is_token_row q
token_told names f (row.Bits l) = refl
token_told names f (row.Tuple us) = refl
token_told names f (row.Array u m) = refl
token_told names f (row.Struct j us) = refl
token_told names f (row.Enum j l) = refl
token_told names f row.Token = refl

-- numbers below the first bound are told from those below the second
abbrev AreTold : (ℕ → DslxType) → ℕ → ℕ → Type 0
AreTold f n bound = (t u : ℕ) → t < n → u < bound → same_type (f t) (f u) ≡ (t == u)

lists_told : (f : ℕ → DslxType) (n bound : ℕ) → AreTold f n bound → (ts us : List TypeId) → AllByRecursion (λ (p : TypeId). p.0 < n) ts → AllByRecursion (λ (p : TypeId). p.0 < bound) us
    → each_is (map same_type (map (λ (t : TypeId). f t.0) ts)) (map (λ (t : TypeId). f t.0) us) ≡ pointwise same_id ts us
lists_told f n bound told [] [] h g = refl
lists_told f n bound told [] (u ∷ us) h g = refl
lists_told f n bound told (t ∷ ts) [] h g = refl
lists_told f n bound told (t ∷ ts) (u ∷ us) h g = λ i. told t.0 u.0 h.0 g.0 i && lists_told f n bound told ts us h.1 g.1 i

tuple_told : (names : ItemNames) (f : ℕ → DslxType) (n bound : ℕ) → AreTold f n bound → (ts : List TypeId) (q : TypeRow) → All (λ (p : TypeId). p.0 < n) ts → All (λ (p : TypeId). p.0 < bound) (parts_of q)
    → tuple_is (map same_type (map (λ (t : TypeId). f t.0) ts)) (row_level names f q) ≡ is_tuple_row ts q
tuple_told names f n bound told ts (row.Bits l) h g = refl
tuple_told names f n bound told ts (row.Tuple us) h g =
    lists_told f n bound told ts us (recursion_from_All (λ (p : TypeId). p.0 < n) ts h) (recursion_from_All (λ (p : TypeId). p.0 < bound) us g)
tuple_told names f n bound told ts (row.Array u m) h g = refl
tuple_told names f n bound told ts (row.Struct j us) h g = refl
tuple_told names f n bound told ts (row.Enum j l) h g = refl
tuple_told names f n bound told ts row.Token h g = refl

array_told : (names : ItemNames) (f : ℕ → DslxType) (n bound : ℕ) → AreTold f n bound → (t : TypeId) (m : ℕ) (q : TypeRow) → t.0 < n → All (λ (p : TypeId). p.0 < bound) (parts_of q)
    → array_is (same_type (f t.0)) m (row_level names f q) ≡ is_array_row t m q
array_told names f n bound told t m (row.Bits l) h g = refl
array_told names f n bound told t m (row.Tuple us) h g = refl
array_told names f n bound told t m (row.Array u k) h g = ap (λ b. b && m == k) (told t.0 u.0 h (g 0 u (omega arith)))
array_told names f n bound told t m (row.Struct j us) h g = refl
array_told names f n bound told t m (row.Enum j l) h g = refl
array_told names f n bound told t m row.Token h g = refl

rows_told : (names : ItemNames) → AreDistinct names → (f : ℕ → DslxType) (n bound : ℕ) → AreTold f n bound → (r q : TypeRow)
    → All (λ (p : TypeId). p.0 < n) (parts_of r) → All (λ (p : TypeId). p.0 < bound) (parts_of q) → same_type (row_type names f r) (row_type names f q) ≡ same_row r q
rows_told names apart f n bound told (row.Bits k) q h g =
    ap (λ (p : DslxType → Bool). p (row_type names f q)) (fold-Bits (DslxType → Bool) same_type_step k.signed k.width)
    ∙ ap (bits_are k.signed k.width) (level_of_row names f q) ∙ bits_told names f k q
rows_told names apart f n bound told (row.Tuple ts) q h g =
    ap (λ (p : DslxType → Bool). p (row_type names f q)) (fold-Tuple (DslxType → Bool) same_type_step (map (λ (t : TypeId). f t.0) ts))
    ∙ ap (tuple_is (map same_type (map (λ (t : TypeId). f t.0) ts))) (level_of_row names f q) ∙ tuple_told names f n bound told ts q h g
rows_told names apart f n bound told (row.Array t m) q h g =
    ap (λ (p : DslxType → Bool). p (row_type names f q)) (fold-Array (DslxType → Bool) same_type_step (f t.0) m)
    ∙ ap (array_is (same_type (f t.0)) m) (level_of_row names f q) ∙ array_told names f n bound told t m q (h 0 t (omega arith)) g
rows_told names apart f n bound told (row.Struct i ts) q h g =
    ap (λ (p : DslxType → Bool). p (row_type names f q)) (fold-Struct (DslxType → Bool) same_type_step (names.item i) (names.fields i) (map (λ (t : TypeId). f t.0) ts))
    ∙ ap (struct_is (names.item i)) (level_of_row names f q) ∙ struct_told names apart f i q
rows_told names apart f n bound told (row.Enum i k) q h g =
    ap (λ (p : DslxType → Bool). p (row_type names f q)) (fold-Enum (DslxType → Bool) same_type_step (names.item i) k.signed k.width)
    ∙ ap (enum_is (names.item i)) (level_of_row names f q) ∙ enum_told names apart f i q
rows_told names apart f n bound told row.Token q h g =
    ap (λ (p : DslxType → Bool). p (row_type names f q)) (fold-Token (DslxType → Bool) same_type_step)
    ∙ ap token_is (level_of_row names f q) ∙ token_told names f q

-- ---- types are one where their numbers are

module _ (names : ItemNames) (apart : AreDistinct names) (rows : List TypeRow) (distinct : IsDistinct same_row rows)
    (earlier : (k : ℕ) (r : TypeRow) → slice_get rows k ≡ Some r → All (λ (p : TypeId). p.0 < k) (parts_of r)) where
  below_told : (b n k : ℕ) → n < b → n < length rows → k < length rows → same_type (types_in names rows n) (types_in names rows k) ≡ (n == k)
  below_told zero n k l hn hk = absurd (omega (arith, l))
  below_told (suc b) n k l hn hk =
      let r = there rows n hn in
      let q = there rows k hk in
      (λ i. same_type (type_of_row names rows (record { 0 = n }) r.0 r.1 (earlier n r.0 r.1) i) (type_of_row names rows (record { 0 = k }) q.0 q.1 (earlier k q.0 q.1) i))
      ∙ rows_told names apart (types_in names rows) n (length rows) (λ t u ht hu. below_told b t u (omega (arith, l, ht)) (omega (arith, hn, ht)) hu) r.0 q.0
      (earlier n r.0 r.1) (λ i d h. omega (arith, earlier k q.0 q.1 i d h, hk))
      ∙ both_ways (same_row r.0 q.0) (n == k)
      (λ e. eq-eqb n k (one_place rows n k r.0 q.0 distinct r.1 q.1 e))
      (λ e. let one : r.0 ≡ q.0 = same_Some r.0 q.0 (sym r.1 ∙ ap (slice_get rows) ((Decides-eqb n k).0 e) ∙ q.1) in ap (same_row r.0) (sym one) ∙ rows_equivalence.refl r.0)

  pub one_number : (n k : ℕ) → n < length rows → k < length rows → same_type (types_in names rows n) (types_in names rows k) ≡ (n == k)
  one_number n k hn hk = below_told (suc n) n k (omega arith) hn hk
