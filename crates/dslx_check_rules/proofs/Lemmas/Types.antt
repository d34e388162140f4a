-- A number keeps its type in every later table, and it is what its row says.
use Rattle.std.proofs.Common.{◌≡◌, ◌<◌, ◌+◌, ◌++◌, ℕ, zero, suc, List, [], ◌∷◌, length, map, slice_get, Some, refl, sym, ap, ◌∙◌, arith, eq-eqb, ne_eqb}
use Rattle.std.specs.Prelude.{if◌then◌else◌}
use Rattle.std.specs.List.{All, AllByRecursion}
use Rattle.std.proofs.lemmas.List.Elements.{recursion_from_All}
use Rattle.std.proofs.lemmas.Option.{none-some, same_Some}
use Rattle.base.specs.Lists.Prefix.{IsPrefix}
use Rattle.base.proofs.Lemmas.Lists.Prefixes.{rest_of}
use Rattle.dslx_meaning.specs.Types.{unit_type}
use Rattle.dslx_meaning.specs.declared.ty.DslxType.{DslxType}
use Rattle.dslx_meaning.specs.declared.ty.DslxType as ty
use Rattle.dslx_check_rules.specs.declared.table.row.TypeId.{TypeId}
use Rattle.dslx_check_rules.specs.declared.table.row.TypeRow.{TypeRow}
use Rattle.dslx_check_rules.specs.declared.table.row.TypeRow.TheVariants as row
use Rattle.dslx_check_rules.specs.Rows.{parts_of}
use Rattle.dslx_check_rules.specs.Interned.{ItemNames, HasRow, row_type, type_at, types_from, types_in, with_type}

-- ---- one type more

module _ (f : ℕ → DslxType) (a : ℕ) (t : DslxType) where
  pub other_type : (n : ℕ) → (n ≡ a → ⊥) → with_type f a t n ≡ f n
  other_type n h = ap (λ b. if b then t else f n) (ne_eqb n a h)

  own_type : (n : ℕ) → n ≡ a → with_type f a t n ≡ t
  own_type n e = ap (λ b. if b then t else f n) (eq-eqb n a e)

-- ---- a row over types that agree below it

list_alike : (f g : ℕ → DslxType) (n : ℕ) → ((k : ℕ) → k < n → f k ≡ g k) → (ts : List TypeId) → AllByRecursion (λ (p : TypeId). p.0 < n) ts
    → map (λ (t : TypeId). f t.0) ts ≡ map (λ (t : TypeId). g t.0) ts
list_alike f g n same [] h = refl
list_alike f g n same (t ∷ ts) h = λ i. same t.0 h.0 i ∷ list_alike f g n same ts h.1 i

parts_alike : (f g : ℕ → DslxType) (n : ℕ) → ((k : ℕ) → k < n → f k ≡ g k) → (ts : List TypeId) → All (λ (p : TypeId). p.0 < n) ts
    → map (λ (t : TypeId). f t.0) ts ≡ map (λ (t : TypeId). g t.0) ts
parts_alike f g n same ts h = list_alike f g n same ts (recursion_from_All (λ (p : TypeId). p.0 < n) ts h)

pub row_alike : (names : ItemNames) (f g : ℕ → DslxType) (n : ℕ) → ((k : ℕ) → k < n → f k ≡ g k) → (r : TypeRow) → All (λ (p : TypeId). p.0 < n) (parts_of r)
    → row_type names f r ≡ row_type names g r
row_alike names f g n same (row.Bits k) h = refl
row_alike names f g n same (row.Tuple ts) h = ap ty.Tuple (parts_alike f g n same ts h)
row_alike names f g n same (row.Array t m) h = ap (λ u. ty.Array u m) (same t.0 (h 0 t (omega arith)))
row_alike names f g n same (row.Struct i ts) h = ap (ty.Struct (names.item i) (names.fields i)) (parts_alike f g n same ts h)
row_alike names f g n same (row.Enum i k) h = refl
row_alike names f g n same row.Token h = refl

-- ---- the types of rows

module _ (names : ItemNames) where
  low : (f : ℕ → DslxType) (a : ℕ) (rs : List TypeRow) (n : ℕ) → n < a → types_from names f a rs n ≡ f n
  low f a [] n h = refl
  low f a (r ∷ rs) n h = low (with_type f a (row_type names f r)) (suc a) rs n (omega arith) ∙ other_type f a (row_type names f r) n (λ e. absurd (omega arith))

  extended : (f : ℕ → DslxType) (a : ℕ) (rs more : List TypeRow) (n : ℕ) → n < a + length rs → types_from names f a (rs ++ more) n ≡ types_from names f a rs n
  extended f a [] more n h = low f a more n (omega arith)
  extended f a (r ∷ rs) more n h = extended (with_type f a (row_type names f r)) (suc a) rs more n (omega arith)

  of_row : (f : ℕ → DslxType) (a : ℕ) (rs : List TypeRow) (k n : ℕ) (r : TypeRow) → n ≡ a + k → slice_get rs k ≡ Some r → All (λ (p : TypeId). p.0 < n) (parts_of r)
      → types_from names f a rs n ≡ row_type names (types_from names f a rs) r
  of_row f a [] k n r is e h = absurd (none-some r e)
  of_row f a (q ∷ rs) zero n r is e h =
      low (with_type f a (row_type names f q)) (suc a) rs n (omega arith)
      ∙ own_type f a (row_type names f q) n (omega arith)
      ∙ ap (row_type names f) (same_Some q r e)
      ∙ row_alike names f (types_from names f a (q ∷ rs)) n (λ k s. sym (low f a (q ∷ rs) k (omega arith))) r h
  of_row f a (q ∷ rs) (suc k) n r is e h = of_row (with_type f a (row_type names f q)) (suc a) rs k n r (omega arith) e h

  pub types_extended : (rows more : List TypeRow) (n : ℕ) → n < length rows → types_in names (rows ++ more) n ≡ types_in names rows n
  types_extended rows more n h = extended (λ n. unit_type) 0 rows more n (omega arith)

  -- a number keeps its type
  pub types_stay : (rows later : List TypeRow) (t : TypeId) → IsPrefix rows later → HasRow rows t → type_at names later t ≡ type_at names rows t
  types_stay rows later t p h = let r = rest_of rows later p in ap (λ l. types_in names l t.0) r.1 ∙ types_extended rows r.0 t.0 h

  pub type_of_row : (rows : List TypeRow) (t : TypeId) (r : TypeRow) → slice_get rows t.0 ≡ Some r → All (λ (p : TypeId). p.0 < t.0) (parts_of r)
      → type_at names rows t ≡ row_type names (types_in names rows) r
  type_of_row rows t r e h = of_row (λ n. unit_type) 0 rows t.0 t.0 r (omega arith) e h

pub get_in_prefix : {A : Type 0} (xs ys : List A) (k : ℕ) (x : A) → IsPrefix xs ys → slice_get xs k ≡ Some x → slice_get ys k ≡ Some x
get_in_prefix [] ys k x p e = absurd (none-some x e)
get_in_prefix (x' ∷ xs) [] k x p e = absurd p
get_in_prefix (x' ∷ xs) (y ∷ ys) zero x p e = ap Some (sym p.0) ∙ e
get_in_prefix (x' ∷ xs) (y ∷ ys) (suc k) x p e = get_in_prefix xs ys k x p.1 e

-- the type of a number in a later table is what its row says there
pub type_in_later : (names : ItemNames) (rows later : List TypeRow) (t : TypeId) (r : TypeRow) → IsPrefix rows later → slice_get rows t.0 ≡ Some r
    → All (λ (p : TypeId). p.0 < t.0) (parts_of r) → type_at names later t ≡ row_type names (types_in names later) r
type_in_later names rows later t r p e h = type_of_row names later t r (get_in_prefix rows later t.0 r p e) h
