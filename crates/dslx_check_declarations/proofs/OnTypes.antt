-- The types of structs and enums, which are put where their items are judged.
use Rattle.std.proofs.Common.{◌≡◌, ◌∙◌, ◌==◌, ◌&&◌, ◌++◌, ℕ, Bool, true, false, not, List, [], ◌∷◌, Option, Some, None, map, length, slice_get, inl, inr, refl, sym, ap, subst}
use Rattle.std.specs.Prelude.{if◌then◌else◌}
use Rattle.std.specs.Option.{option_map}
use Rattle.std.proofs.lemmas.Bool.Decides.{Decides-eqb}
use mathlib.Core.Bool.{true≢false}
use Rattle.base.specs.Lists.Prefix.{IsPrefix}
use Rattle.base.proofs.Lemmas.Lists.Prefixes.{IsPrefix-refl, IsPrefix-trans}
use Rattle.dslx_meaning.specs.Lists.{all_some, and_then}
use Rattle.dslx_meaning.specs.Types.{bits_in}
use Rattle.dslx_meaning.specs.declared.ty.BitKind.{BitKind}
use Rattle.dslx_meaning.specs.declared.ty.DslxType.{DslxType}
use Rattle.dslx_meaning.specs.declared.ty.DslxType as ty
use Rattle.dslx_check_rules.specs.declared.faults.Faults.{Faults}
use Rattle.dslx_check_rules.specs.declared.table.row.TypeId.{TypeId}
use Rattle.dslx_check_rules.specs.declared.table.row.TypeRow.{TypeRow}
use Rattle.dslx_check_rules.specs.declared.table.row.TypeRow.TheVariants as row
use Rattle.dslx_check_rules.specs.Interned.{HasBase, HasFields, HasRow, HasRowIf, ItemNames, is_item_row, type_at, type_if, with_row}
use Rattle.dslx_check_rules.proofs.Lemmas.Rows.{in_with_row}
use Rattle.dslx_check_rules.proofs.Lemmas.Nodes.Lists.{some_before}
use Rattle.dslx_check_facts.specs.Walks.{WalkShown}
use Rattle.dslx_check_declarations.specs.Items.{FindsEnum, FindsStruct, HasNoRow, ItemGrows, is_row_of}
use Rattle.dslx_check_declarations.proofs.Lemmas.Items.{nothing_put}

itself : (n : ℕ) → (n == n) ≡ true
itself n = (Decides-eqb n n).1 refl

all_mapped : (names : ItemNames) (later : List TypeRow) (os : List (Option TypeId)) → all_some (map (type_if names later) os) ≡ option_map (map (type_at names later)) (all_some os)
all_mapped names later [] = refl
all_mapped names later (None ∷ os) = refl
all_mapped names later (Some a ∷ os) =
    some_before (type_at names later a) (map (type_if names later) os) ∙ ap (option_map (λ more. type_at names later a ∷ more)) (all_mapped names later os) ∙ by (all_some os)
    ∙ ap (option_map (map (type_at names later))) (sym (some_before a os))
  where
    by : (q : Option (List TypeId)) → option_map (λ more. type_at names later a ∷ more) (option_map (map (type_at names later)) q) ≡ option_map (map (type_at names later)) (option_map (λ more. a ∷ more) q)
    by None = refl
    by (Some more) = refl

none_else : {A : Type 0} (b : Bool) (o : Option A) → o ≡ None → (if b then None else o) ≡ None
none_else true o e = refl
none_else false o e = e

-- ---- where a row is put

-- a row of the item is put, if there is none
row_put : {old : WalkShown} {rows : List TypeRow} {item : ℕ} (r : TypeRow) → is_row_of item r ≡ true → rows ≡ with_row old.rows r → IsPrefix old.rows rows → ItemGrows item old (record old { rows = rows })
row_put {old} {rows} {item} r own put grows = record {
  tables = record { rows = grows; met = IsPrefix-refl old.met; prefixes = IsPrefix-refl old.prefixes; asked = IsPrefix-refl old.asked };
  others = λ k q at there other. elim (in_with_row old.rows r k q (ap (λ rs. slice_get rs k) (sym put) ∙ at)) [
    | inl before ↦ before
    | inr same ↦ absurd (true≢false (sym own ∙ ap (is_row_of item) same ∙ other))
  ];
  reached = IsPrefix-refl old.reached;
  missing = IsPrefix-refl old.missing;
}

no_fields : {rows : List TypeRow} {item : ℕ} (parts : List TypeId) → HasNoRow rows item → HasFields rows item parts
no_fields {rows} {item} parts h k ts at = absurd (true≢false (sym (itself item) ∙ h.none k (row.Struct item ts) at))

no_base : {rows : List TypeRow} {item : ℕ} (kind : BitKind) → HasNoRow rows item → HasBase rows item kind
no_base {rows} {item} kind h k other at = absurd (true≢false (sym (itself item) ∙ h.none k (row.Enum item other) at))

-- ---- where none is

-- a rule is broken or something is missing
refused : (b : Bool) (n : ℕ) → (not b && (n == 0)) ≡ false → (n ≡ 0) → b ≡ true
refused true n e z = refl
refused false n e z = absurd (true≢false (sym ((Decides-eqb n 0).1 z) ∙ e))

-- the first test holds, and so does the second
whole : (b : Bool) (n : ℕ) → (not b && (n == 0)) ≡ true → b ≡ false
whole true n e = absurd (true≢false (sym e))
whole false n e = refl

pub no_struct : {w : WalkShown} {item : ℕ} {faults : Faults} {types : List (Option TypeId)} {b : Bool} → b ≡ (not faults.broken && (length w.missing == 0)) → b ≡ false → FindsStruct w w item faults types None
no_struct {w} {item} {faults} {types} {b} is fails = record {
  grows = nothing_put w item;
  same = (refl, refl);
  row = tt;
  is = λ none missing names later p. sym (ap (λ (c : Bool). if c then None else and_then (all_some (map (type_if names later) types)) (λ ts. Some (ty.Struct (names.item item) (names.fields item) ts)))
      (refused faults.broken (length w.missing) (sym is ∙ fails) (ap length missing)));
}

pub unknown_struct : {w : WalkShown} {item : ℕ} {faults : Faults} {types : List (Option TypeId)} {all : Option (List TypeId)} → all ≡ all_some types → all ≡ None → FindsStruct w w item faults types None
unknown_struct {w} {item} {faults} {types} {all} is none = record {
  grows = nothing_put w item;
  same = (refl, refl);
  row = tt;
  is = λ lacks missing names later p.
      let nothing : all_some (map (type_if names later) types) ≡ None = all_mapped names later types ∙ ap (option_map (map (type_at names later))) (sym is ∙ none) in
      sym (none_else faults.broken (and_then (all_some (map (type_if names later) types)) (λ ts. Some (ty.Struct (names.item item) (names.fields item) ts)))
      (ap (λ (o : Option (List DslxType)). and_then o (λ ts. Some (ty.Struct (names.item item) (names.fields item) ts))) nothing));
}

pub some_struct : {w : WalkShown} {rows : List TypeRow} {item : ℕ} {faults : Faults} {types : List (Option TypeId)} {all : Option (List TypeId)} {b : Bool} {t : TypeId} (parts : List TypeId)
    → b ≡ (not faults.broken && (length w.missing == 0)) → b ≡ true → all ≡ all_some types → all ≡ Some parts
    → rows ≡ with_row w.rows (row.Struct item parts) → HasRow rows t → IsPrefix w.rows rows
    → ((names : ItemNames) (later : List TypeRow) → HasFields w.rows item parts → IsPrefix rows later → type_at names later t ≡ ty.Struct (names.item item) (names.fields item) (map (type_at names later) parts))
    → FindsStruct w (record w { rows = rows }) item faults types (Some t)
some_struct {w} {rows} {item} {faults} {types} {all} {b} {t} parts may so is some put there grows typed = record {
  grows = row_put (row.Struct item parts) (itself item) put grows;
  same = (refl, refl);
  row = there;
  is = λ lacks missing names later p.
      let known : all_some (map (type_if names later) types) ≡ Some (map (type_at names later) parts) = all_mapped names later types ∙ ap (option_map (map (type_at names later))) (sym is ∙ some) in
      ap Some (typed names later (no_fields parts lacks) p)
      ∙ sym ((λ i. if whole faults.broken (length w.missing) (sym may ∙ so) i then None else and_then (known i) (λ ts. Some (ty.Struct (names.item item) (names.fields item) ts))));
}

-- ---- enums

pub no_enum : {w : WalkShown} {item : ℕ} {faults : Faults} {base : Option TypeId} {b : Bool} → b ≡ (not faults.broken && (length w.missing == 0)) → b ≡ false → FindsEnum w w item faults base None
no_enum {w} {item} {faults} {base} {b} is fails = record {
  grows = nothing_put w item;
  same = (refl, refl);
  row = tt;
  is = λ none missing row names later p. sym (ap (λ (c : Bool). if c then None else and_then (and_then (type_if names later base) bits_in) (λ kind. Some (ty.Enum (names.item item) kind.signed kind.width)))
      (refused faults.broken (length w.missing) (sym is ∙ fails) (ap length missing)));
}

pub unknown_enum : {w : WalkShown} {item : ℕ} {faults : Faults} {base : Option TypeId} {kind : Option BitKind}
    → ((names : ItemNames) (later : List TypeRow) → IsPrefix w.rows later → HasRowIf w.rows base → kind ≡ and_then (type_if names later base) bits_in) → kind ≡ None → FindsEnum w w item faults base None
unknown_enum {w} {item} {faults} {base} {kind} is none = record {
  grows = nothing_put w item;
  same = (refl, refl);
  row = tt;
  is = λ lacks missing there names later p.
      sym (none_else faults.broken (and_then (and_then (type_if names later base) bits_in) (λ kind. Some (ty.Enum (names.item item) kind.signed kind.width)))
      (ap (λ (o : Option BitKind). and_then o (λ kind. Some (ty.Enum (names.item item) kind.signed kind.width))) (sym (is names later p there) ∙ none)));
}

pub some_enum : {w : WalkShown} {rows : List TypeRow} {item : ℕ} {faults : Faults} {base : Option TypeId} {found : Option BitKind} {b : Bool} {t : TypeId} (kind : BitKind)
    → b ≡ (not faults.broken && (length w.missing == 0)) → b ≡ true
    → ((names : ItemNames) (later : List TypeRow) → IsPrefix w.rows later → HasRowIf w.rows base → found ≡ and_then (type_if names later base) bits_in) → found ≡ Some kind
    → rows ≡ with_row w.rows (row.Enum item kind) → HasRow rows t → IsPrefix w.rows rows
    → ((names : ItemNames) (later : List TypeRow) → HasBase w.rows item kind → IsPrefix rows later → type_at names later t ≡ ty.Enum (names.item item) kind.signed kind.width)
    → FindsEnum w (record w { rows = rows }) item faults base (Some t)
some_enum {w} {rows} {item} {faults} {base} {found} {b} {t} kind may so is some put there grows typed = record {
  grows = row_put (row.Enum item kind) (itself item) put grows;
  same = (refl, refl);
  row = there;
  is = λ lacks missing own names later p.
      let known : and_then (type_if names later base) bits_in ≡ Some kind = sym (is names later (IsPrefix-trans w.rows rows later grows p) own) ∙ some in
      ap Some (typed names later (no_base kind lacks) p)
      ∙ sym ((λ i. if whole faults.broken (length w.missing) (sym may ∙ so) i then None else and_then (known i) (λ k. Some (ty.Enum (names.item item) k.signed k.width))));
}
