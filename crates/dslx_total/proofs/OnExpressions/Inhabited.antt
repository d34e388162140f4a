-- Each type of a text has a value.
use Rattle.std.proofs.Common.{◌≡◌, ◌&&◌, ◌^◌, ℕ, zero, suc, length, Bool, true, List, [], ◌∷◌, map, Some, refl, ap, ◌∙◌}
use Rattle.std.specs.List.{list_all}
use Rattle.std.proofs.lemmas.Bool.Decides.{Decides-eqb, Decides-ltb}
use Rattle.std.proofs.lemmas.Nat.{pow_pos}
use Rattle.xb_bits.specs.Word.{Word}
use Rattle.xb_value.proofs.Lemmas.Types.{EachHas}
use Rattle.dslx_meaning.specs.Lists.{repeated}
use Rattle.dslx_meaning.specs.declared.ty.DslxType.{DslxType}
use Rattle.dslx_meaning.specs.declared.value.DslxValue.{DslxValue}
use Rattle.dslx_meaning.specs.declared.value.DslxValue as value
use Rattle.dslx_meaning.specs.declared.value.DslxValue.TheViews as views
use Rattle.dslx_core.specs.Typing.Typed.Declared.{AllDeclared, Declarations, DeclaresParts, IsDeclared}
use Rattle.dslx_core.specs.Typing.Typed.Given.{GivesOf}
use Rattle.dslx_core.specs.Typing.Typed.Kinds.{each_of, elements_all_of, enum_of_kind, is_of, is_some_token, lies_in, struct_of, tuple_of}
use Rattle.dslx_core.proofs.Lemmas.Typing.Typed.{bits_of_width, element_declared, of_array, of_enum, of_struct, of_token, of_tuple, parts_declared, struct_declared, type_induction}
use Rattle.dslx_total.proofs.OnExpressions.Equal.{bits_itself, name_itself, names_themselves}

abbrev HasValue : Declarations → DslxType → Type 0
HasValue types t = IsDeclared types t → (v : DslxValue) × (is_of t v ≡ true)

each_value : (types : Declarations) (ts : List DslxType) → EachHas (HasValue types) ts → AllDeclared types ts → (vs : List DslxValue) × (each_of (map is_of ts) vs ≡ true)
each_value types [] h d = ([], refl)
each_value types (t ∷ ts) h d =
    let v = h.0 d.0 in
    let more = each_value types ts h.1 d.1 in
    (v.0 ∷ more.0, λ i. v.1 i && more.1 i)

abbrev zero_word : ℕ → Word
zero_word w = record { width = w; value = 0 }

zero_lies : (w : ℕ) → lies_in (zero_word w) ≡ true
zero_lies w = (Decides-ltb 0 (2 ^ w)).1 (pow_pos w)

all_repeated : (test : DslxValue → Bool) (n : ℕ) (v : DslxValue) → test v ≡ true → list_all test (repeated n v) ≡ true
all_repeated test zero v e = refl
all_repeated test (suc n) v e = λ i. e i && all_repeated test n v e i

as_many : (n : ℕ) (v : DslxValue) → n ≡ length (repeated n v)
as_many zero v = refl
as_many (suc n) v = ap suc (as_many n v)

has_value : (types : Declarations) → DeclaresParts types → (t : DslxType) → HasValue types t
has_value types parts = type_induction (HasValue types)
    (λ s w d. (value.Bits s (zero_word w), bits_of_width s (zero_word w) w refl (zero_lies w)))
    (λ ts h d.
    let vs = each_value types ts h (parts_declared types ts d) in
    (value.Tuple vs.0, of_tuple ts (value.Tuple vs.0) ∙ ap (tuple_of (map is_of ts)) (views.outs-Tuple vs.0) ∙ vs.1))
    (λ t n h d.
    let e = element_declared types t n d in
    let v = h e.0 in
    let vs = repeated n v.0 in
    (value.Array vs, of_array t n (value.Array vs) ∙ ap (elements_all_of (is_of t) n) (views.outs-Array vs) ∙ (λ i. (e.1 i && (Decides-eqb n (length vs)).1 (as_many n v.0) i) && all_repeated (is_of t) n v.0 v.1 i)))
    (λ name fields ts h d.
    let vs = each_value types ts h (parts.fields name name fields ts (struct_declared types name fields ts d)) in (
      value.Struct name fields vs.0,
      of_struct name fields ts (value.Struct name fields vs.0) ∙ ap (struct_of name fields (map is_of ts)) (views.outs-Struct name fields vs.0)
          ∙ (λ i. (name_itself name i && names_themselves fields i) && vs.1 i),
    ))
    (λ name s w d. (
      value.Enum name s (zero_word w),
      of_enum name s w (value.Enum name s (zero_word w)) ∙ ap (enum_of_kind name s w) (views.outs-Enum name s (zero_word w))
          ∙ (λ i. name_itself name i && (bits_itself s w i && zero_lies w i)),
    ))
    (λ d. (value.Token, of_token value.Token ∙ ap is_some_token views.outs-Token))

-- a value of a type of the text
pub some_value : (types : Declarations) → DeclaresParts types → (t : DslxType) → IsDeclared types t → (v : DslxValue) × GivesOf types t (Some v)
some_value types parts t d = let v = has_value types parts t d in (v.0, record { value = v.0; is = refl; of = v.1; declared = d })
