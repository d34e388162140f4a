-- Rows that are put into a table.
use Rattle.std.proofs.Common.{◌≡◌, ◌<◌, ⊎_elim, ◌++◌, ◌||◌, ℕ, zero, suc, Bool, true, false, cond, is_some, List, [], ◌∷◌, length, slice_get, get_or, Option, Some, None, refl, sym, ap, subst, ◌∙◌, arith, true≢false, if◌then◌else◌}
use Rattle.std.specs.Prelude.{Result, Ok, Err, IfOk, OnOk, OnErr, IfSome}
use Rattle.std.specs.declared.alloc.AllocError.{AllocError}
use Rattle.std.specs.List.{All, IsDistinct, list_any, position}
use Rattle.std.specs.Map.{keys_of, lookup}
use Rattle.std.proofs.lemmas.List.Quantifiers.{position-Some}
use Rattle.std.proofs.lemmas.Option.{none-some, slice_get-get_or}
use Rattle.indexmap.specs.IndexMap.{insert_entry}
use Rattle.base.specs.Lists.Prefix.{IsPrefix}
use Rattle.base.proofs.Lemmas.Lists.Prefixes.{IsPrefix-append, IsPrefix-refl}
use Rattle.dslx_meaning.specs.declared.ty.BitKind.{BitKind}
use Rattle.dslx_check_rules.specs.declared.table.measures.TypeMeasures.{TypeMeasures}
use Rattle.dslx_check_rules.specs.declared.table.row.TypeId.{TypeId}
use Rattle.dslx_check_rules.specs.declared.table.row.TypeRow.{TypeRow}
use Rattle.dslx_check_rules.specs.declared.table.row.TypeRow.TheVariants as row
use Rattle.dslx_check_rules.specs.Rows.{parts_of, same_row}
use Rattle.dslx_check_rules.specs.RowLaws.{array_one, bits_one, enum_one, rows_equivalence, struct_one, token_one, tuple_one}
use Rattle.dslx_check_rules.specs.Measures.{measures_of}
use Rattle.dslx_check_rules.specs.Interned.{HasBase, HasFields, HasRow, IsInterned, ItemNames, KeepsItems, is_item_row, HasNumber, row_type, type_at, types_in, with_row}
use Rattle.dslx_check_rules.proofs.Lemmas.Rows.{get_push, in_with_row, items_stay, items_themselves}
use Rattle.dslx_check_rules.proofs.Lemmas.Types.{row_alike, type_in_later, type_of_row, types_extended}

-- ---- lists with one more

get_last : {A : Type 0} (xs : List A) (x : A) → slice_get (xs ++ x ∷ []) (length xs) ≡ Some x
get_last [] x = refl
get_last (x' ∷ xs) x = get_last xs x

pub within : {A : Type 0} (xs : List A) (k : ℕ) (x : A) → slice_get xs k ≡ Some x → k < length xs
within [] k x e = absurd (none-some x e)
within (x' ∷ xs) zero x e = omega arith
within (x' ∷ xs) (suc k) x e = omega (arith, within xs k x e)

keys_push : {K X : Type 0} (es : List (K × X)) (k : K) (x : X) → keys_of (es ++ (k, x) ∷ []) ≡ keys_of es ++ k ∷ []
keys_push [] k x = refl
keys_push (e ∷ es) k x = ap (λ ks. e.0 ∷ ks) (keys_push es k x)

pub keys_long : {K X : Type 0} (es : List (K × X)) → length (keys_of es) ≡ length es
keys_long [] = refl
keys_long (e ∷ es) = ap suc (keys_long es)

-- ---- what is found

or_none : (a b : Bool) → (a || b) ≡ false → (a ≡ false) × (b ≡ false)
or_none true b e = absurd (true≢false e)
or_none false b e = (refl, e)

pub goes_last : (es : List (TypeRow × TypeMeasures)) (r : TypeRow) (m : TypeMeasures) → list_any (same_row r) (keys_of es) ≡ false → insert_entry same_row es r m ≡ es ++ (r, m) ∷ []
goes_last [] r m none = refl
goes_last (e ∷ es) r m none =
    let p = or_none (same_row r e.0) (list_any (same_row r) (keys_of es)) none in
    ap (λ b. if b then (e.0, m) ∷ es else e ∷ insert_entry same_row es r m) p.0 ∙ ap (λ rest. e ∷ rest) (goes_last es r m p.1)

there_or_later : (b : Bool) (m : TypeMeasures) (found : Option TypeMeasures) (rest : Bool) → is_some found ≡ rest → is_some (cond b (Some m) found) ≡ (b || rest)
there_or_later true m found rest e = refl
there_or_later false m found rest e = e

pub is_among : (p : TypeRow → Bool) (es : List (TypeRow × TypeMeasures)) → is_some (lookup p es) ≡ list_any p (keys_of es)
is_among p [] = refl
is_among p (e ∷ es) = there_or_later (p e.0) e.1 (lookup p es) (list_any p (keys_of es)) (is_among p es)

-- the row at a place that was found
pub found_at : (es : List (TypeRow × TypeMeasures)) (r : TypeRow) (t : TypeId) → IsInterned es → position (same_row r) (keys_of es) ≡ Some t.0 → HasNumber (keys_of es) r t
found_at es r t ok e =
    let p = position-Some (same_row r) (keys_of es) t.0 r e in
    let at : slice_get (keys_of es) t.0 ≡ Some (get_or (keys_of es) t.0 r) = slice_get-get_or (keys_of es) t.0 r p.0 in
    record { found = get_or (keys_of es) t.0 r; at = at; same = p.1; earlier = ok.earlier t.0 (get_or (keys_of es) t.0 r) at }

-- ---- one row more

module _ (es : List (TypeRow × TypeMeasures)) (r : TypeRow) (m : TypeMeasures) (ok : IsInterned es) (parts : All (HasRow (keys_of es)) (parts_of r)) where
  earlier_push : (k : ℕ) (q : TypeRow) → slice_get (keys_of (es ++ (r, m) ∷ [])) k ≡ Some q → All (λ (p : TypeId). p.0 < k) (parts_of q)
  earlier_push k q e =
      ⊎_elim (λ h. ok.earlier k q h)
      (λ h. subst (λ x. All (λ (p : TypeId). p.0 < k) (parts_of x)) h.1 (λ i d l. omega (arith, parts i d l, h.0)))
      (get_push (keys_of es) r k q (ap (λ ks. slice_get ks k) (sym (keys_push es r m)) ∙ e))

  last_type : (names : ItemNames) → types_in names (keys_of es ++ r ∷ []) (length (keys_of es)) ≡ row_type names (types_in names (keys_of es)) r
  last_type names =
      type_of_row names (keys_of es ++ r ∷ []) (record { 0 = length (keys_of es) }) r (get_last (keys_of es) r) parts
      ∙ row_alike names (types_in names (keys_of es ++ r ∷ [])) (types_in names (keys_of es)) (length (keys_of es)) (λ k h. types_extended names (keys_of es) (r ∷ []) k h) r parts

  measured_push : ((names : ItemNames) → m ≡ measures_of (row_type names (types_in names (keys_of es)) r))
      → (names : ItemNames) (k : ℕ) (e : TypeRow × TypeMeasures) → slice_get (es ++ (r, m) ∷ []) k ≡ Some e → e.1 ≡ measures_of (types_in names (keys_of (es ++ (r, m) ∷ [])) k)
  measured_push is names k e at =
      ⊎_elim
      (λ h. ok.measured names k e h
      ∙ ap measures_of (sym (types_extended names (keys_of es) (r ∷ []) k (omega (arith, within es k e h, keys_long es))) ∙ ap (λ ks. types_in names ks k) (sym (keys_push es r m))))
      (λ h. ap (λ x. x.1) (sym h.1) ∙ is names
      ∙ ap measures_of (sym (last_type names)
      ∙ ap (types_in names (keys_of es ++ r ∷ [])) (keys_long es ∙ sym h.0)
      ∙ ap (λ ks. types_in names ks k) (sym (keys_push es r m))))
      (get_push es (r, m) k e at)

  pub interned_push : ((names : ItemNames) → m ≡ measures_of (row_type names (types_in names (keys_of es)) r)) → IsDistinct same_row (keys_of (es ++ (r, m) ∷ [])) → IsInterned (es ++ (r, m) ∷ [])
  interned_push is distinct = record { distinct = distinct; earlier = earlier_push; measured = measured_push is }

-- ---- the rows with one more

pub with_new : (rows : List TypeRow) (r : TypeRow) → list_any (same_row r) rows ≡ false → rows ++ r ∷ [] ≡ with_row rows r
with_new rows r e = sym (ap (λ b. if b then rows else rows ++ r ∷ []) e)

pub with_old : (rows : List TypeRow) (r : TypeRow) → list_any (same_row r) rows ≡ true → rows ≡ with_row rows r
with_old rows r e = sym (ap (λ b. if b then rows else rows ++ r ∷ []) e)

pub with_row_grows : (rows : List TypeRow) (r : TypeRow) → IsPrefix rows (with_row rows r)
with_row_grows rows r = by (list_any (same_row r) rows)
  where
    by : (b : Bool) → IsPrefix rows (if b then rows else rows ++ r ∷ [])
    by true = IsPrefix-refl rows
    by false = IsPrefix-append rows (r ∷ [])

-- a row that was put at the end stands there
pub stands_last : (rows : List TypeRow) (r : TypeRow) (t : TypeId) → t.0 ≡ length rows → All (HasRow rows) (parts_of r) → HasNumber (rows ++ r ∷ []) r t
stands_last rows r t n parts = record {
  found = r;
  at = ap (slice_get (rows ++ r ∷ [])) n ∙ get_last rows r;
  same = rows_equivalence.refl r;
  earlier = λ i d l. omega (arith, parts i d l, n);
}

pub stands_within : (rows : List TypeRow) (r : TypeRow) (t : TypeId) → HasNumber rows r t → HasRow rows t
stands_within rows r t s = within rows t.0 s.found s.at

-- ---- the type of a row that stands there

-- rows that are like this one are this one
abbrev pub IsOnly : List TypeRow → TypeRow → Type 0
IsOnly rows r = (k : ℕ) (q : TypeRow) → slice_get rows k ≡ Some q → same_row r q ≡ true → r ≡ q

only_still : (rows : List TypeRow) (r : TypeRow) → IsOnly rows r → IsOnly (with_row rows r) r
only_still rows r only k q at e = ⊎_elim (λ h. only k q h e) (λ h. h) (in_with_row rows r k q at)

pub bits_only : (rows : List TypeRow) (kind : BitKind) → IsOnly rows (row.Bits kind)
bits_only rows kind k q at e = bits_one kind q e

pub tuple_only : (rows : List TypeRow) (ts : List TypeId) → IsOnly rows (row.Tuple ts)
tuple_only rows ts k q at e = tuple_one ts q e

pub array_only : (rows : List TypeRow) (t : TypeId) (n : ℕ) → IsOnly rows (row.Array t n)
array_only rows t n k q at e = array_one t n q e

pub token_only : (rows : List TypeRow) → IsOnly rows row.Token
token_only rows k q at e = token_one q e

pub struct_only : (rows : List TypeRow) (item : ℕ) (parts : List TypeId) → HasFields rows item parts → IsOnly rows (row.Struct item parts)
struct_only rows item parts fields k q at e =
    let s = struct_one item q e in
    ap (row.Struct item) (sym (fields k s.0 (at ∙ ap Some (sym s.1)))) ∙ s.1

pub enum_only : (rows : List TypeRow) (item : ℕ) (base : BitKind) → HasBase rows item base → IsOnly rows (row.Enum item base)
enum_only rows item base has k q at e =
    let s = enum_one item q e in
    ap (row.Enum item) (sym (has k s.0 (at ∙ ap Some (sym s.1)))) ∙ s.1

module _ (old new : List TypeRow) (r : TypeRow) (is : new ≡ with_row old r) where
  pub grown : IsPrefix old new
  grown = subst (IsPrefix old) (sym is) (with_row_grows old r)

  pub stands_as : IsOnly old r → (t : TypeId) → HasNumber new r t → (names : ItemNames) (later : List TypeRow) → IsPrefix new later → type_at names later t ≡ row_type names (types_in names later) r
  stands_as only t s names later p =
      let only_new : IsOnly new r = subst (λ rows. IsOnly rows r) (sym is) (only_still old r only) in
      type_in_later names new later t s.found p s.at s.earlier ∙ ap (row_type names (types_in names later)) (sym (only_new t.0 s.found s.at s.same))

-- ---- by what comes of putting it there

module _ (r : Result TypeId AllocError) (old new : List TypeRow) where
  pub made : (row' : TypeRow) → IsOnly old row' → OnOk r (new ≡ with_row old row') → IfOk r (HasNumber new row')
      → IfOk r (λ t. (names : ItemNames) (later : List TypeRow) → IsPrefix new later → type_at names later t ≡ row_type names (types_in names later) row')
  made row' only rows number = by r rows number
    where
      by : (s : Result TypeId AllocError) → OnOk s (new ≡ with_row old row') → IfOk s (HasNumber new row')
          → IfOk s (λ t. (names : ItemNames) (later : List TypeRow) → IsPrefix new later → type_at names later t ≡ row_type names (types_in names later) row')
      by (Ok t) is n = stands_as old new row' is only t n
      by (Err e) is n = tt

  pub made_if : (P : Type 0) (row' : TypeRow) → (P → IsOnly old row') → OnOk r (new ≡ with_row old row') → IfOk r (HasNumber new row')
      → IfOk r (λ t. (names : ItemNames) (later : List TypeRow) → P → IsPrefix new later → type_at names later t ≡ row_type names (types_in names later) row')
  made_if P row' only rows number = by r rows number
    where
      by : (s : Result TypeId AllocError) → OnOk s (new ≡ with_row old row') → IfOk s (HasNumber new row')
          → IfOk s (λ t. (names : ItemNames) (later : List TypeRow) → P → IsPrefix new later → type_at names later t ≡ row_type names (types_in names later) row')
      by (Ok t) is n = λ names later h p. stands_as old new row' is (only h) t n names later p
      by (Err e) is n = tt

  pub last_number : (row' : TypeRow) → All (HasRow old) (parts_of row') → OnOk r (new ≡ old ++ row' ∷ []) → IfOk r (λ t. t.0 ≡ length old) → IfOk r (HasNumber new row')
  last_number row' parts rows number = by r rows number
    where
      by : (s : Result TypeId AllocError) → OnOk s (new ≡ old ++ row' ∷ []) → IfOk s (λ t. t.0 ≡ length old) → IfOk s (HasNumber new row')
      by (Ok t) is n = subst (λ rows. HasNumber rows row' t) (sym is) (stands_last old row' t n parts)
      by (Err e) is n = tt

  pub last_there : (row' : TypeRow) → OnOk r (new ≡ old ++ row' ∷ []) → IfOk r (λ t. t.0 ≡ length old) → IfOk r (HasRow new)
  last_there row' rows number = by r rows number
    where
      long : (xs : List TypeRow) → length (xs ++ row' ∷ []) ≡ suc (length xs)
      long [] = refl
      long (x ∷ xs) = ap suc (long xs)

      by : (s : Result TypeId AllocError) → OnOk s (new ≡ old ++ row' ∷ []) → IfOk s (λ t. t.0 ≡ length old) → IfOk s (HasRow new)
      by (Ok t) is n = omega (arith, ap length is, long old, n)
      by (Err e) is n = tt

  pub last_grows : (row' : TypeRow) → OnOk r (new ≡ old ++ row' ∷ []) → OnOk r (IsPrefix old new)
  last_grows row' rows = by r rows
    where
      by : (s : Result TypeId AllocError) → OnOk s (new ≡ old ++ row' ∷ []) → OnOk s (IsPrefix old new)
      by (Ok t) is = subst (IsPrefix old) (sym is) (IsPrefix-append old (row' ∷ []))
      by (Err e) is = tt

pub found_there : (r : Result TypeId AllocError) (rows : List TypeRow) (row' : TypeRow) (at : ℕ) → HasNumber rows row' (record { 0 = at }) → IfOk r (λ t. t.0 ≡ at) → IfOk r (HasRow rows)
found_there (Ok t) rows row' at h e = omega (arith, within rows at h.found h.at, e)
found_there (Err x) rows row' at h e = tt

pub unchanged : (r : Result TypeId AllocError) (rows : List TypeRow) → OnOk r (IsPrefix rows rows)
unchanged (Ok t) rows = IsPrefix-refl rows
unchanged (Err e) rows = tt

pub found_if : (es : List (TypeRow × TypeMeasures)) (rows : List TypeRow) → keys_of es ≡ rows → IsInterned es → (r : TypeRow) (o : Option ℕ) → o ≡ position (same_row r) (keys_of es)
    → IfSome o (λ at. HasNumber rows r (record { 0 = at }))
found_if es rows is ok r None e = tt
found_if es rows is ok r (Some at) e = subst (λ ks. HasNumber ks r (record { 0 = at })) is (found_at es r (record { 0 = at }) ok (sym e))

pub items_kept : (r : Result TypeId AllocError) (old new : List TypeRow) (row' : TypeRow) → is_item_row row' ≡ false → OnOk r (new ≡ with_row old row') → OnErr r (new ≡ old) → KeepsItems old new
items_kept (Ok t) old new row' none rows stays = subst (KeepsItems old) (sym rows) (items_stay old row' none)
items_kept (Err e) old new row' none rows stays = subst (KeepsItems old) (sym stays) (items_themselves old)

-- ---- a row that is put at the end

module _ (es new : List (TypeRow × TypeMeasures)) (rows : List TypeRow) (is : keys_of es ≡ rows) (r : TypeRow) (m : TypeMeasures) (absent : list_any (same_row r) rows ≡ false)
    (put : new ≡ insert_entry same_row es r m) where
  at_the_end : new ≡ es ++ (r, m) ∷ []
  at_the_end = put ∙ goes_last es r m (ap (list_any (same_row r)) is ∙ absent)

  pub pushed_rows : keys_of new ≡ rows ++ r ∷ []
  pushed_rows = ap keys_of at_the_end ∙ keys_push es r m ∙ ap (λ ks. ks ++ r ∷ []) is

  pub pushed : IsInterned es → All (HasRow rows) (parts_of r) → ((names : ItemNames) → m ≡ measures_of (row_type names (types_in names rows) r)) → IsDistinct same_row (keys_of new) → IsInterned new
  pushed ok parts measured distinct =
      subst IsInterned (sym at_the_end)
      (interned_push es r m ok (subst (λ ks. All (HasRow ks) (parts_of r)) (sym is) parts)
      (λ names. measured names ∙ ap (λ ks. measures_of (row_type names (types_in names ks) r)) (sym is))
      (subst (λ x. IsDistinct same_row (keys_of x)) at_the_end distinct))
