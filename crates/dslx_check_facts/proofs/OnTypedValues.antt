-- Rows that are the types of values.
use Rattle.std.proofs.Common.{◌≡◌, ◌∙◌, ◌==◌, ◌<◌, ◌≤◌, ◌+◌, ◌++◌, ℕ, zero, suc, Bool, true, false, List, [], ◌∷◌, Option, Some, None, length, map, take, drop, get_or, refl, sym, ap, subst, arith}
use mathlib.Core.Bool.{true≢false}
use Rattle.std.specs.Str.{bytes_eq}
use Rattle.std.specs.Cmp.{first_so, second_so}
use Rattle.std.proofs.lemmas.Bool.Decides.{Decides-eqb}
use Rattle.std.proofs.lemmas.List.{map-append}
use Rattle.std.proofs.lemmas.Slice.Eq.{bytes_eq-Decides}
use Rattle.xb_bits.specs.Word.{Word}
use Rattle.base.specs.Lists.Prefix.{IsPrefix}
use Rattle.dslx_tree.specs.declared.item.Definition.{Definition}
use Rattle.dslx_tree.specs.declared.item.Definition.TheVariants as d
use Rattle.dslx_tree.specs.declared.item.Struct.{Struct}
use Rattle.dslx_meaning.specs.Items.{as_struct, name_of_field}
use Rattle.dslx_meaning.specs.Lists.{pairwise}
use Rattle.dslx_meaning.specs.Types.{same_bool}
use Rattle.dslx_meaning.specs.Values.{array_type, type_of_value, type_step}
use Rattle.dslx_meaning.specs.declared.ty.BitKind.{BitKind}
use Rattle.dslx_meaning.specs.declared.ty.DslxType.{DslxType}
use Rattle.dslx_meaning.specs.declared.ty.DslxType as ty
use Rattle.dslx_meaning.specs.declared.value.DslxValue.{DslxValue}
use Rattle.dslx_meaning.specs.declared.value.DslxValue as value
use Rattle.dslx_meaning.specs.declared.value.DslxValue.TheVariants as rolls
use Rattle.dslx_meaning.specs.declared.value.DslxValue.TheOpen.{DslxValue-F}
use Rattle.dslx_meaning.specs.declared.value.DslxValue.TheFolds.{fold-roll-DslxValue}
use Rattle.dslx_check_rules.specs.Rows.{same_kind}
use Rattle.dslx_check_rules.specs.Interned.{ItemNames, row_type, type_at, types_in}
use Rattle.dslx_check_rules.specs.declared.table.row.TypeId.{TypeId}
use Rattle.dslx_check_rules.specs.declared.table.row.TypeRow.{TypeRow}
use Rattle.dslx_check_rules.specs.declared.table.row.TypeRow.TheVariants as row
use Rattle.dslx_check_facts.specs.declared.facts.Facts.{Facts}
use Rattle.dslx_check_facts.specs.Firsts.{IsMeant}
use Rattle.dslx_check_facts.specs.Inner.TypedValues.{IsStructNamed, RowIs}
use Rattle.dslx_check_facts.specs.Known.{item_names}
use Rattle.dslx_check_facts.specs.Names.{field_names}

-- ---- what is one

one_number : (m n : ℕ) → (m == n) ≡ true → m ≡ n
one_number m n e = (Decides-eqb m n).0 e

one_sign : (s t : Bool) → same_bool s t ≡ true → s ≡ t
one_sign true true e = refl
one_sign true false e = absurd (true≢false (sym e))
one_sign false true e = absurd (true≢false (sym e))
one_sign false false e = refl

pub one_kind : (k l : BitKind) → same_kind k l ≡ true → k ≡ l
one_kind k l e =
    let s : k.signed ≡ l.signed = one_sign k.signed l.signed (first_so (same_bool k.signed l.signed) (k.width == l.width) e) in
    let w : k.width ≡ l.width = one_number k.width l.width (second_so (same_bool k.signed l.signed) (k.width == l.width) e) in
    λ i. record { signed = s i; width = w i }

one_list : (ms ns : List (List ℕ)) → pairwise bytes_eq ms ns ≡ true → ms ≡ ns
one_list [] [] e = refl
one_list [] (n ∷ ns) e = absurd (true≢false (sym e))
one_list (m ∷ ms) [] e = absurd (true≢false (sym e))
one_list (m ∷ ms) (n ∷ ns) e =
    λ i. (bytes_eq-Decides m n).0 (first_so (bytes_eq m n) (pairwise bytes_eq ms ns) e) i ∷ one_list ms ns (second_so (bytes_eq m n) (pairwise bytes_eq ms ns) e) i

-- the struct of a name, with these fields
pub struct_named : {f : Facts} {found item : ℕ} {same is : Bool} (name : List ℕ) (fields : List (List ℕ)) (s : Struct) → IsMeant f name found (d.Struct s) → same ≡ (found == item) → same ≡ true
    → is ≡ pairwise bytes_eq fields (map name_of_field s.fields) → is ≡ true → IsStructNamed f item name fields
struct_named {f} {found} {item} {same} {is} name fields s meant here so test all =
    let one : item ≡ found = sym (one_number found item (sym here ∙ so)) in
    record {
      called = ap (item_names f).item one ∙ meant.called;
      fields_are = ap (item_names f).fields one ∙ ap (λ (o : Option Definition). field_names (as_struct o)) meant.at ∙ sym (one_list fields (map name_of_field s.fields) (sym test ∙ all));
    }

-- ---- the types of values of each kind

pub bits_typed : (s : Bool) (x : Word) → type_of_value (value.Bits s x) ≡ ty.Bits s x.width
bits_typed s x = ap type_of_value (sym (rolls.rolls-Bits s x)) ∙ fold-roll-DslxValue DslxType type_step (DslxValue-F.Bits s x)

pub tuple_typed : (vs : List DslxValue) → type_of_value (value.Tuple vs) ≡ ty.Tuple (map type_of_value vs)
tuple_typed vs = ap type_of_value (sym (rolls.rolls-Tuple vs)) ∙ fold-roll-DslxValue DslxType type_step (DslxValue-F.Tuple vs)

pub array_typed : (vs : List DslxValue) → type_of_value (value.Array vs) ≡ array_type (map type_of_value vs)
array_typed vs = ap type_of_value (sym (rolls.rolls-Array vs)) ∙ fold-roll-DslxValue DslxType type_step (DslxValue-F.Array vs)

pub struct_typed : (name : List ℕ) (fields : List (List ℕ)) (vs : List DslxValue) → type_of_value (value.Struct name fields vs) ≡ ty.Struct name fields (map type_of_value vs)
struct_typed name fields vs = ap type_of_value (sym (rolls.rolls-Struct name fields vs)) ∙ fold-roll-DslxValue DslxType type_step (DslxValue-F.Struct name fields vs)

pub enum_typed : (name : List ℕ) (s : Bool) (x : Word) → type_of_value (value.Enum name s x) ≡ ty.Enum name s x.width
enum_typed name s x = ap type_of_value (sym (rolls.rolls-Enum name s x)) ∙ fold-roll-DslxValue DslxType type_step (DslxValue-F.Enum name s x)

pub token_typed : type_of_value value.Token ≡ ty.Token
token_typed = ap type_of_value (sym rolls.rolls-Token) ∙ fold-roll-DslxValue DslxType type_step DslxValue-F.Token

pub some_elements : (vs : List DslxValue) (v : DslxValue) → 1 ≤ length vs → array_type (map type_of_value vs) ≡ ty.Array (type_of_value (get_or vs 0 v)) (length vs)
some_elements [] v h = absurd (omega (arith, h))
some_elements (x ∷ xs) v h = ap (λ n. ty.Array (type_of_value x) (suc n)) (long xs)
  where
    long : (us : List DslxValue) → length (map type_of_value us) ≡ length us
    long [] = refl
    long (u ∷ us) = ap suc (long us)

-- ---- rows of them

-- the row is a type, and that is the value's
pub row_is : (f : Facts) (rows : List TypeRow) (r : TypeRow) (t : DslxType) (v w : DslxValue) → v ≡ w → type_of_value w ≡ t → RowIs f rows r t → RowIs f rows r (type_of_value v)
row_is f rows r t v w is typed h = λ later p. h later p ∙ sym (ap type_of_value is ∙ typed)

pub bits_row : (f : Facts) (rows : List TypeRow) (r : TypeRow) (kind : BitKind) (s : Bool) (width : ℕ) → kind ≡ record { signed = s; width = width } → r ≡ row.Bits kind → RowIs f rows r (ty.Bits s width)
bits_row f rows r kind s width is so = λ later p. ap (row_type (item_names f) (types_in (item_names f) later)) so ∙ ap (λ (k : BitKind). ty.Bits k.signed k.width) is

pub enum_row : (f : Facts) (rows : List TypeRow) (r : TypeRow) (kind : BitKind) (name : List ℕ) (s : Bool) (width : ℕ) → kind ≡ record { signed = s; width = width } → RowIs f rows r (ty.Enum name kind.signed kind.width)
    → RowIs f rows r (ty.Enum name s width)
enum_row f rows r kind name s width is h = λ later p. h later p ∙ ap (λ (k : BitKind). ty.Enum name k.signed k.width) is

-- ---- lists of them

pub take_all : {A : Type 0} (xs : List A) (n : ℕ) → length xs ≤ n → take n xs ≡ xs
take_all [] zero h = refl
take_all [] (suc n) h = refl
take_all (x ∷ xs) zero h = absurd (omega (arith, h))
take_all (x ∷ xs) (suc n) h = ap (λ ys. x ∷ ys) (take_all xs n (omega (arith, h)))

taken : {A : Type 0} (xs : List A) (i : ℕ) (d : A) → i < length xs → take (suc i) xs ≡ take i xs ++ get_or xs i d ∷ []
taken [] i d h = absurd (omega (arith, h))
taken (x ∷ xs) zero d h = refl
taken (x ∷ xs) (suc i) d h = ap (λ ys. x ∷ ys) (taken xs i d (omega (arith, h)))

take_at : {A : Type 0} (xs : List A) (i : ℕ) (d : A) → i < length xs → take (i + 1) xs ≡ take i xs ++ get_or xs i d ∷ []
take_at xs i d h = let more : i + 1 ≡ suc i = omega arith in ap (λ k. take k xs) more ∙ taken xs i d h

-- one more
pub types_next : (names : ItemNames) (later : List TypeRow) (parts : List TypeId) (values : List DslxValue) (i : ℕ) (t : TypeId) (v : DslxValue) → length parts ≡ length values → i < length values
    → type_at names later (get_or parts i t) ≡ type_of_value (get_or values i v) → map (type_at names later) (take i parts) ≡ map type_of_value (take i values)
    → map (type_at names later) (take (i + 1) parts) ≡ map type_of_value (take (i + 1) values)
types_next names later parts values i t v same within one before =
    let there : i < length parts = omega (arith, same, within) in
    ap (map (type_at names later)) (take_at parts i t there) ∙ map-append (type_at names later) (take i parts) (get_or parts i t ∷ [])
    ∙ (λ j. before j ++ one j ∷ [])
    ∙ sym (map-append type_of_value (take i values) (get_or values i v ∷ [])) ∙ sym (ap (map type_of_value) (take_at values i v within))
