-- The types of values.
use Rattle.std.proofs.Common.{◌≡◌, ◌∙◌, ◌++◌, ◌∷◌, ◌&&◌, ◌==◌, ◌<◌, ◌+◌, ℕ, Bool, true, false, List, [], Option, Some, ◌≤◌, suc, map, length, get_or, arith, refl, sym, ap, subst}
use Rattle.std.specs.List.{All}
use Rattle.std.specs.Str.{bytes_eq}
use Rattle.std.specs.Cmp.{first_so, second_so}
use Rattle.std.proofs.lemmas.Bool.Decides.{Decides-eqb}
use Rattle.std.proofs.lemmas.List.{map-append}
use Rattle.std.proofs.lemmas.List.Elements.{All-append, All-cons, All-nil}
use Rattle.std.proofs.lemmas.Slice.Eq.{bytes_eq-Decides}
use mathlib.Core.Bool.{true≢false}
use Rattle.base.specs.Lists.Prefix.{IsPrefix}
use Rattle.base.proofs.Lemmas.Lists.Prefixes.{IsPrefix-refl, IsPrefix-trans}
use Rattle.dslx_tree.specs.declared.item.Definition.{Definition}
use Rattle.dslx_tree.specs.declared.item.Definition.TheVariants as d
use Rattle.dslx_tree.specs.declared.item.Struct.{Struct}
use Rattle.dslx_meaning.specs.Items.{as_struct, name_of_field}
use Rattle.dslx_meaning.specs.Lists.{pairwise}
use Rattle.dslx_meaning.specs.Types.{same_bool, unit_type}
use Rattle.dslx_meaning.specs.Values.{array_type, type_of_value, type_step}
use Rattle.dslx_meaning.specs.declared.value.DslxValue.{DslxValue}
use Rattle.dslx_meaning.specs.declared.value.DslxValue as value
use Rattle.dslx_meaning.specs.declared.value.DslxValue.TheVariants as rolls
use Rattle.dslx_meaning.specs.declared.value.DslxValue.TheOpen.{DslxValue-F}
use Rattle.dslx_meaning.specs.declared.value.DslxValue.TheFolds.{fold-roll-DslxValue}
use Rattle.xb_bits.specs.Word.{Word}
use Rattle.dslx_meaning.specs.declared.ty.BitKind.{BitKind}
use Rattle.dslx_meaning.specs.declared.ty.DslxType.{DslxType}
use Rattle.dslx_meaning.specs.declared.ty.DslxType as ty
use Rattle.dslx_check_rules.specs.Rows.{same_id, same_kind}
use Rattle.dslx_check_rules.specs.Interned.{HasRow, ItemNames, KeepsItems, is_item_row, row_type, type_at, types_in, with_row}
use Rattle.dslx_check_rules.specs.declared.table.row.TypeId.{TypeId}
use Rattle.dslx_check_rules.specs.declared.table.row.TypeRow.{TypeRow}
use Rattle.dslx_check_rules.specs.declared.table.row.TypeRow.TheVariants as row
use Rattle.dslx_check_rules.proofs.Lemmas.Rows.{items_stay_on, items_themselves, rows_stay}
use Rattle.dslx_check_rules.proofs.Lemmas.Nodes.Lists.{with_row_kept}
use Rattle.dslx_check_facts.specs.declared.facts.Facts.{Facts}
use Rattle.dslx_check_facts.specs.Firsts.{IsMeant}
use Rattle.dslx_check_facts.specs.Known.{item_names}
use Rattle.dslx_check_facts.specs.Names.{field_names}
use Rattle.dslx_check_declarations.specs.Rows.{is_enum_of, is_struct_of}
use Rattle.dslx_check_declarations.specs.Types.{AreTypesOf, IsTypeOf, IsTypeThere}

-- ---- lists that are one

pub one_list : {A : Type 0} (same : A → A → Bool) → ((a b : A) → same a b ≡ true → a ≡ b) → (as' bs : List A) → pairwise same as' bs ≡ true → as' ≡ bs
one_list same one [] [] e = refl
one_list same one [] (b ∷ bs) e = absurd (true≢false (sym e))
one_list same one (a ∷ as') [] e = absurd (true≢false (sym e))
one_list same one (a ∷ as') (b ∷ bs) e = λ i. one a b (first_so (same a b) (pairwise same as' bs) e) i ∷ one_list same one as' bs (second_so (same a b) (pairwise same as' bs) e) i

pub one_number : (m n : ℕ) → (m == n) ≡ true → m ≡ n
one_number m n e = (Decides-eqb m n).0 e

one_id : (t u : TypeId) → same_id t u ≡ true → t ≡ u
one_id t u e = λ i. record { 0 = one_number t.0 u.0 e i }

pub one_name : (m n : List ℕ) → bytes_eq m n ≡ true → m ≡ n
one_name m n e = (bytes_eq-Decides m n).0 e

one_sign : (s t : Bool) → same_bool s t ≡ true → s ≡ t
one_sign true true e = refl
one_sign true false e = absurd (true≢false (sym e))
one_sign false true e = absurd (true≢false (sym e))
one_sign false false e = refl

pub one_kind : (k l : BitKind) → same_kind k l ≡ true → k ≡ l
one_kind k l e =
    let s : k.signed ≡ l.signed = one_sign k.signed l.signed (first_so (same_bool k.signed l.signed) (k.width == l.width) e) in
    let w : k.width ≡ l.width = one_number k.width l.width (second_so (same_bool k.signed l.signed) (k.width == l.width) e) in
    λ i. record { signed = s i; width = w i }

-- ---- rows that pass the tests

struct_is : (item : ℕ) (parts : List TypeId) (r : TypeRow) → is_struct_of item parts r ≡ true → r ≡ row.Struct item parts
struct_is item parts (row.Bits k) e = absurd (true≢false (sym e))
struct_is item parts (row.Tuple ts) e = absurd (true≢false (sym e))
struct_is item parts (row.Array t n) e = absurd (true≢false (sym e))
struct_is item parts (row.Struct i ts) e =
    let number : i ≡ item = one_number i item (first_so (i == item) (pairwise same_id ts parts) e) in
    let types : ts ≡ parts = one_list same_id one_id ts parts (second_so (i == item) (pairwise same_id ts parts) e) in
    λ j. row.Struct (number j) (types j)
struct_is item parts (row.Enum i k) e = absurd (true≢false (sym e))
struct_is item parts row.Token e = absurd (true≢false (sym e))

enum_is : (item : ℕ) (kind : BitKind) (r : TypeRow) → is_enum_of item kind r ≡ true → r ≡ row.Enum item kind
enum_is item kind (row.Bits k) e = absurd (true≢false (sym e))
enum_is item kind (row.Tuple ts) e = absurd (true≢false (sym e))
enum_is item kind (row.Array t n) e = absurd (true≢false (sym e))
enum_is item kind (row.Struct i ts) e = absurd (true≢false (sym e))
enum_is item kind (row.Enum i k) e =
    let number : i ≡ item = one_number i item (first_so (i == item) (same_kind k kind) e) in
    let base : k ≡ kind = one_kind k kind (second_so (i == item) (same_kind k kind) e) in
    λ j. row.Enum (number j) (base j)
enum_is item kind row.Token e = absurd (true≢false (sym e))

pub struct_row : {rows : List TypeRow} {t : TypeId} {b : Bool} (item : ℕ) (parts : List TypeId) (r : TypeRow) → HasRow rows t
    → ((names : ItemNames) (later : List TypeRow) → IsPrefix rows later → type_at names later t ≡ row_type names (types_in names later) r) → b ≡ is_struct_of item parts r → b ≡ true
    → (names : ItemNames) → IsTypeThere names rows t (λ later. ty.Struct (names.item item) (names.fields item) (map (type_at names later) parts))
struct_row {rows} {t} {b} item parts r there is test so names = record {
  is = λ later p. is names later p ∙ ap (row_type names (types_in names later)) (struct_is item parts r (sym test ∙ so));
  there = there;
}

pub enum_row : {rows : List TypeRow} {t : TypeId} {b : Bool} (item : ℕ) (kind : BitKind) (r : TypeRow) → HasRow rows t
    → ((names : ItemNames) (later : List TypeRow) → IsPrefix rows later → type_at names later t ≡ row_type names (types_in names later) r) → b ≡ is_enum_of item kind r → b ≡ true
    → (names : ItemNames) → IsTypeThere names rows t (λ later. ty.Enum (names.item item) kind.signed kind.width)
enum_row {rows} {t} {b} item kind r there is test so names = record {
  is = λ later p. is names later p ∙ ap (row_type names (types_in names later)) (enum_is item kind r (sym test ∙ so));
  there = there;
}

-- ---- types of names

pub struct_named : {f : Facts} {rows : List TypeRow} {t : TypeId} {item : ℕ} {b : Bool} (parts : List TypeId) (name : List ℕ) (fields : List (List ℕ)) (s : Struct) → IsMeant f name item (d.Struct s)
    → b ≡ pairwise bytes_eq fields (map name_of_field s.fields) → b ≡ true
    → ((names : ItemNames) → IsTypeThere names rows t (λ later. ty.Struct (names.item item) (names.fields item) (map (type_at names later) parts)))
    → IsTypeThere (item_names f) rows t (λ later. ty.Struct name fields (map (type_at (item_names f) later) parts))
struct_named {f} {rows} {t} {item} {b} parts name fields s meant test so h =
    let names = item_names f in
    let k = h names in
    let own : names.fields item ≡ fields =
    ap (λ (o : Option Definition). field_names (as_struct o)) meant.at ∙ sym (one_list bytes_eq one_name fields (map name_of_field s.fields) (sym test ∙ so)) in
    record {
      is = λ later p. k.is later p ∙ (λ i. ty.Struct (meant.called i) (own i) (map (type_at names later) parts));
      there = k.there;
    }

pub enum_named : {f : Facts} {rows : List TypeRow} {t : TypeId} {item : ℕ} {definition : Definition} {kind : BitKind} (name : List ℕ) (signed : Bool) (width : ℕ) → IsMeant f name item definition
    → kind ≡ record { signed = signed; width = width }
    → ((names : ItemNames) → IsTypeThere names rows t (λ later. ty.Enum (names.item item) kind.signed kind.width))
    → IsTypeThere (item_names f) rows t (λ later. ty.Enum name signed width)
enum_named {f} {rows} {t} {item} {definition} {kind} name signed width meant is h =
    let k = h (item_names f) in
    record {
      is = λ later p. k.is later p ∙ (λ i. ty.Enum (meant.called i) (is i).signed (is i).width);
      there = k.there;
    }

-- ---- types of values

-- one that is put
pub type_put : {rows new : List TypeRow} {t : TypeId} (names : ItemNames) (r : TypeRow) (u : DslxType) → is_item_row r ≡ false → new ≡ with_row rows r → ((later : List TypeRow) → IsPrefix new later → type_at names later t ≡ u)
    → HasRow new t → IsPrefix rows new → IsTypeOf names rows new t u
type_put {rows} {new} {t} names r u plain put is there grows = record { is = is; there = there; items = with_row_kept rows new r plain put; grows = grows }

-- one that was there
pub type_there : {names : ItemNames} {rows : List TypeRow} {t : TypeId} (u : DslxType) → IsTypeThere names rows t (λ later. u) → IsTypeOf names rows rows t u
type_there {names} {rows} {t} u h = record { is = h.is; there = h.there; items = items_themselves rows; grows = IsPrefix-refl rows }

pub no_types : {names : ItemNames} {rows : List TypeRow} → AreTypesOf names rows rows [] []
no_types {names} {rows} = record { are = λ later p. refl; there = All-nil (HasRow rows); items = items_themselves rows; grows = IsPrefix-refl rows }

pub types_next : {names : ItemNames} {a b c : List TypeRow} {ts : List TypeId} {us : List DslxType} {t : TypeId} {u : DslxType} → AreTypesOf names a b ts us → IsTypeOf names b c t u
    → AreTypesOf names a c (ts ++ t ∷ []) (us ++ u ∷ [])
types_next {names} {a} {b} {c} {ts} {us} {t} {u} g h = record {
  are = λ later p. map-append (type_at names later) ts (t ∷ []) ∙ (λ i. g.are later (IsPrefix-trans b c later h.grows p) i ++ h.is later p i ∷ []);
  there = All-append (HasRow c) ts (t ∷ []) (λ k e lt. rows_stay b c _ h.grows (g.there k e lt)) (All-cons (HasRow c) t [] h.there (All-nil (HasRow c)));
  items = items_stay_on a b c g.items h.items;
  grows = IsPrefix-trans a b c g.grows h.grows;
}

-- a type over these
pub over_types : {names : ItemNames} {a b c : List TypeRow} {ts : List TypeId} {us : List DslxType} {t : TypeId} (T : List DslxType → DslxType) (r : TypeRow) → AreTypesOf names a b ts us → is_item_row r ≡ false → c ≡ with_row b r
    → ((later : List TypeRow) → IsPrefix c later → type_at names later t ≡ T (map (type_at names later) ts)) → HasRow c t → IsPrefix b c → IsTypeOf names a c t (T us)
over_types {names} {a} {b} {c} {ts} {us} {t} T r g plain put is there grows = record {
  is = λ later p. is later p ∙ ap T (g.are later (IsPrefix-trans b c later grows p));
  there = there;
  items = items_stay_on a b c g.items (with_row_kept b c r plain put);
  grows = IsPrefix-trans a b c g.grows grows;
}

pub over_type : {names : ItemNames} {a b c : List TypeRow} {p t : TypeId} {u : DslxType} (T : DslxType → DslxType) (r : TypeRow) → IsTypeOf names a b p u → is_item_row r ≡ false → c ≡ with_row b r
    → ((later : List TypeRow) → IsPrefix c later → type_at names later t ≡ T (type_at names later p)) → HasRow c t → IsPrefix b c → IsTypeOf names a c t (T u)
over_type {names} {a} {b} {c} {p} {t} {u} T r g plain put is there grows = record {
  is = λ later q. is later q ∙ ap T (g.is later (IsPrefix-trans b c later grows q));
  there = there;
  items = items_stay_on a b c g.items (with_row_kept b c r plain put);
  grows = IsPrefix-trans a b c g.grows grows;
}

-- a struct that was there, over types that are put
pub struct_over : {names : ItemNames} {a b : List TypeRow} {ts : List TypeId} {us : List DslxType} {t : TypeId} (name : List ℕ) (fields : List (List ℕ)) → AreTypesOf names a b ts us
    → IsTypeThere names b t (λ later. ty.Struct name fields (map (type_at names later) ts)) → IsTypeOf names a b t (ty.Struct name fields us)
struct_over {names} {a} {b} {ts} {us} {t} name fields g h = record {
  is = λ later p. h.is later p ∙ ap (ty.Struct name fields) (g.are later p);
  there = h.there;
  items = g.items;
  grows = g.grows;
}

-- bits
pub bits_put : {rows new : List TypeRow} {t : TypeId} {kind : BitKind} (names : ItemNames) (signed : Bool) (width : ℕ) → kind ≡ record { signed = signed; width = width } → new ≡ with_row rows (row.Bits kind)
    → ((later : List TypeRow) → IsPrefix new later → type_at names later t ≡ ty.Bits kind.signed kind.width) → HasRow new t → IsPrefix rows new → IsTypeOf names rows new t (ty.Bits signed width)
bits_put {rows} {new} {t} {kind} names signed width same put is there grows =
    type_put names (row.Bits kind) (ty.Bits signed width) refl put (λ later p. is later p ∙ ap (λ (k : BitKind). ty.Bits k.signed k.width) same) there grows

-- ---- the types of values of each kind

pub bits_typed : (s : Bool) (x : Word) → type_of_value (value.Bits s x) ≡ ty.Bits s x.width
bits_typed s x = ap type_of_value (sym (rolls.rolls-Bits s x)) ∙ fold-roll-DslxValue DslxType type_step (DslxValue-F.Bits s x)

pub tuple_typed : (vs : List DslxValue) → type_of_value (value.Tuple vs) ≡ ty.Tuple (map type_of_value vs)
tuple_typed vs = ap type_of_value (sym (rolls.rolls-Tuple vs)) ∙ fold-roll-DslxValue DslxType type_step (DslxValue-F.Tuple vs)

pub array_typed : (vs : List DslxValue) → type_of_value (value.Array vs) ≡ array_type (map type_of_value vs)
array_typed vs = ap type_of_value (sym (rolls.rolls-Array vs)) ∙ fold-roll-DslxValue DslxType type_step (DslxValue-F.Array vs)

pub struct_typed : (name : List ℕ) (fields : List (List ℕ)) (vs : List DslxValue) → type_of_value (value.Struct name fields vs) ≡ ty.Struct name fields (map type_of_value vs)
struct_typed name fields vs = ap type_of_value (sym (rolls.rolls-Struct name fields vs)) ∙ fold-roll-DslxValue DslxType type_step (DslxValue-F.Struct name fields vs)

pub enum_typed : (name : List ℕ) (s : Bool) (x : Word) → type_of_value (value.Enum name s x) ≡ ty.Enum name s x.width
enum_typed name s x = ap type_of_value (sym (rolls.rolls-Enum name s x)) ∙ fold-roll-DslxValue DslxType type_step (DslxValue-F.Enum name s x)

pub token_typed : type_of_value value.Token ≡ ty.Token
token_typed = ap type_of_value (sym rolls.rolls-Token) ∙ fold-roll-DslxValue DslxType type_step DslxValue-F.Token

-- the type of a value is that of what it is
pub type_as : {names : ItemNames} {rows new : List TypeRow} {t : TypeId} {u : DslxType} (v w : DslxValue) → v ≡ w → type_of_value w ≡ u → IsTypeOf names rows new t u → IsTypeOf names rows new t (type_of_value v)
type_as {names} {rows} {new} {t} v w is typed h = subst (IsTypeOf names rows new t) (sym (ap type_of_value is ∙ typed)) h

-- ---- arrays

pub no_elements : (vs : List DslxValue) → length vs < 1 → array_type (map type_of_value vs) ≡ unit_type
no_elements [] h = refl
no_elements (v ∷ vs) h = absurd (omega (arith, h))

pub some_elements : (vs : List DslxValue) (d : DslxValue) → 1 ≤ length vs → array_type (map type_of_value vs) ≡ ty.Array (type_of_value (get_or vs 0 d)) (length vs)
some_elements [] d h = absurd (omega (arith, h))
some_elements (v ∷ vs) d h = ap (λ n. ty.Array (type_of_value v) (suc n)) (long vs)
  where
    long : (us : List DslxValue) → length (map type_of_value us) ≡ length us
    long [] = refl
    long (u ∷ us) = ap suc (long us)
