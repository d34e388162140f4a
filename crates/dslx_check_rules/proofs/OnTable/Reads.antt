-- What a table says of a number. The rows are those that its entries are seen as.
use Rattle.std.proofs.Common.{◌≡◌, ◌<◌, ◌≤◌, ◌+◌, ◌==◌, ℕ, zero, suc, List, [], ◌∷◌, length, slice_get, Some, None, refl, sym, ap, subst, ◌∙◌, arith}
use Rattle.std.specs.List.{All, IsDistinct}
use Rattle.std.specs.Map.{keys_of}
use Rattle.std.specs.Option.{option_map}
use Rattle.std.proofs.lemmas.Option.{none-some, slice_get-map}
use Rattle.base.specs.Lists.Prefix.{IsPrefix}
use Rattle.dslx_meaning.specs.Types.{same_type, unit_type}
use Rattle.dslx_meaning.specs.declared.ty.DslxType.{DslxType}
use Rattle.dslx_check_rules.specs.declared.table.measures.TypeMeasures.{TypeMeasures}
use Rattle.dslx_check_rules.specs.declared.table.row.TypeId.{TypeId}
use Rattle.dslx_check_rules.specs.declared.table.row.TypeRow.{TypeRow}
use Rattle.dslx_check_rules.specs.Rows.{parts_of}
use Rattle.dslx_check_rules.specs.Measures.{measures_of}
use Rattle.dslx_check_rules.specs.Inner.Measured.{of_nothing, raised}
use Rattle.dslx_check_rules.specs.Interned.{AreDistinct, HasRow, IsInterned, ItemNames, row_type, type_at, types_from, types_in, with_type}
use Rattle.dslx_check_rules.proofs.Lemmas.Types.{other_type, type_in_later, types_stay}
use Rattle.dslx_check_rules.proofs.OnTable.Measured.{unit_measured}
use Rattle.dslx_check_rules.proofs.OnTable.OneNumber.{one_number}
use Rattle.dslx_check_rules.proofs.OnTable.Puts.{keys_long, within}

abbrev Entries : Type 0
Entries = List (TypeRow × TypeMeasures)

pub key_at : (es : Entries) (k : ℕ) (e : TypeRow × TypeMeasures) → Some e ≡ slice_get es k → slice_get (keys_of es) k ≡ Some e.0
key_at es k e h = slice_get-map (λ (x : TypeRow × TypeMeasures). x.0) es k ∙ ap (option_map (λ (x : TypeRow × TypeMeasures). x.0)) (sym h)

past_all : {A : Type 0} (xs : List A) (k : ℕ) → None ≡ slice_get xs k → length xs ≤ k
past_all [] k h = omega arith
past_all (x ∷ xs) zero h = absurd (none-some x h)
past_all (x ∷ xs) (suc k) h = omega (arith, past_all xs k h)

-- past the rows stands what stood there before
module _ (names : ItemNames) where
  high : (f : ℕ → DslxType) (a : ℕ) (rs : List TypeRow) (n : ℕ) → a + length rs ≤ n → types_from names f a rs n ≡ f n
  high f a [] n h = refl
  high f a (r ∷ rs) n h =
      high (with_type f a (row_type names f r)) (suc a) rs n (omega arith) ∙ other_type f a (row_type names f r) n (λ e. absurd (omega arith))

module _ (es : Entries) (rows : List TypeRow) (is : keys_of es ≡ rows) (ok : IsInterned es) where
  pub row_there : (t : TypeId) (e : TypeRow × TypeMeasures) → Some e ≡ slice_get es t.0 → slice_get rows t.0 ≡ Some e.0
  row_there t e h = ap (λ ks. slice_get ks t.0) (sym is) ∙ key_at es t.0 e h

  pub row_within : (t : TypeId) (e : TypeRow × TypeMeasures) → Some e ≡ slice_get es t.0 → HasRow rows t
  row_within t e h = within rows t.0 e.0 (row_there t e h)

  pub row_missing : (t : TypeId) → None ≡ slice_get es t.0 → length rows ≤ t.0
  row_missing t h = omega (arith, past_all es t.0 h, keys_long es, ap length is)

  pub missing : (k : ℕ) → None ≡ slice_get es k → None ≡ slice_get rows k
  missing k h =
      sym (ap (λ ks. slice_get ks k) (sym is) ∙ slice_get-map (λ (x : TypeRow × TypeMeasures). x.0) es k ∙ ap (option_map (λ (x : TypeRow × TypeMeasures). x.0)) (sym h))

  pub row_earlier : (t : TypeId) (e : TypeRow × TypeMeasures) → Some e ≡ slice_get es t.0 → All (λ (p : TypeId). p.0 < t.0) (parts_of e.0)
  row_earlier t e h = ok.earlier t.0 e.0 (key_at es t.0 e h)

  pub row_is : (t : TypeId) (e : TypeRow × TypeMeasures) → Some e ≡ slice_get es t.0 → (names : ItemNames) (later : List TypeRow) → IsPrefix rows later
      → type_at names later t ≡ row_type names (types_in names later) e.0
  row_is t e h names later p = type_in_later names rows later t e.0 p (row_there t e h) (row_earlier t e h)

  pub measured_there : (t : TypeId) (e : TypeRow × TypeMeasures) → Some e ≡ slice_get es t.0 → (names : ItemNames) → e.1 ≡ measures_of (type_at names rows t)
  measured_there t e h names = ok.measured names t.0 e (sym h) ∙ ap (λ ks. measures_of (types_in names ks t.0)) is

  pub measured_past : (t : TypeId) → None ≡ slice_get es t.0 → (names : ItemNames) → raised of_nothing ≡ measures_of (type_at names rows t)
  measured_past t h names = sym unit_measured ∙ ap measures_of (sym (high names (λ n. unit_type) 0 rows t.0 (omega (arith, row_missing t h))))

  pub same_by_number : (names : ItemNames) (later : List TypeRow) → AreDistinct names → IsPrefix rows later → (a b : TypeId) → HasRow rows a → HasRow rows b
      → (a.0 == b.0) ≡ same_type (type_at names later a) (type_at names later b)
  same_by_number names later apart p a b ha hb =
      let long : length rows ≡ length (keys_of es) = sym (ap length is) in
      sym (one_number names apart (keys_of es) ok.distinct ok.earlier a.0 b.0 (omega (arith, ha, long)) (omega (arith, hb, long)))
      ∙ (λ i. same_type (types_in names (is i) a.0) (types_in names (is i) b.0))
      ∙ (λ i. same_type (sym (types_stay names rows later a p ha) i) (sym (types_stay names rows later b p hb) i))

pub interned_empty : (es : Entries) → es ≡ [] → IsInterned es
unfolding IsDistinct
interned_empty es e = subst IsInterned (sym e) (record {
  distinct = tt;
  earlier = λ k r h. absurd (none-some r h);
  measured = λ names k x h. absurd (none-some x h);
})
