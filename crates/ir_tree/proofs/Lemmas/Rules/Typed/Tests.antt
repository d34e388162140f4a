-- What the tests of written types tell.
use Rattle.std.proofs.Common.{◌≡◌, ℕ, zero, suc, ◌+◌, ◌*◌, ◌-◌, ◌^◌, ◌<◌, ◌≤◌, min, List, [], ◌∷◌, map, sum, Bool, true, false, ◌&&◌, IsTrue, refl, sym, ap, ap₂, subst, ◌∙◌, arith}
use Rattle.std.specs.Prelude.{nat_eq, nat_lt, nat_le, ◌||◌, ◌⊎◌, not}
use Rattle.std.proofs.Common.{inl, inr, ⊎_elim}
use Rattle.std.specs.List.{list_all}
use Rattle.std.proofs.lemmas.Bool.Decides.{nat_tests}
use Rattle.std.proofs.lemmas.List.Folds.{list_all-append}
use Rattle.std.proofs.lemmas.List.Sums.{sum_by-cons}
use Rattle.ir_tree.specs.declared.ir_type.IrType.{IrType, Bits, Token, Tuple, out-IrType}
use Rattle.ir_tree.specs.declared.ir_type.IrType.TheVariants.{rolls-Bits, rolls-Token, rolls-Tuple}
use Rattle.ir_tree.specs.declared.ir_type.IrType.TheOpen.{IrType-F}
use Rattle.ir_tree.specs.declared.ir_type.IrType.TheViews.{roll-IrType, outs-Bits, outs-Token, outs-Tuple}
use Rattle.ir_tree.specs.declared.ir_type.IrType.TheFolds.{ind-IrType, map-IrType}
use Rattle.xb_value.specs.declared.ty.Ty.{Ty}
use Rattle.xb_value.specs.declared.ty.Ty as ty
use Rattle.xb_value.specs.declared.ty.Ty.TheOpen.{Ty-F}
use Rattle.xb_value.specs.declared.ty.Ty.TheViews as ty_views
use Rattle.xb_value.specs.Width.{width_of, leaf_count, HasWidths, HasAllWidths}
use Rattle.xb_value.specs.Width as width
use Rattle.xb_value.proofs.Lemmas.Types as tys
use Rattle.xb_value.proofs.Lemmas.Types.{EachHas, each_of}
use Rattle.xb_span.specs.declared.limit.What.TheVariants as what
use Rattle.ir_tree.specs.Types.{ty_of, arrays_of, bounded}
use Rattle.ir_tree.specs.declared.node_types.types.Marks.{Marks}
use Rattle.ir_tree.specs.Rules.Checks.{limit_at}
use Rattle.ir_tree.specs.Rules.Lines.{type_limits}
use Rattle.ir_tree.specs.NodeTypes.Types.{marks_of, marks_step, are_sizes, is_empty, any_bits, all_sound, widths_in, joined_lists, sizes_of, sizes_step, is_token, token_there, passes, bits_there, width_alone, is_bits_where, parts_there, parts_alone, is_tuple_where, same_numbers, each_same, bits_like, token_like, tuple_like, same_step, same_type, element_like, is_array_of}
use Rattle.ir_tree.specs.NodeTypes.Types as types
use Rattle.ir_tree.proofs.Lemmas.NodeTypes.IrTypes.{fold-Bits, fold-Token, fold-Tuple, ty_of-Bits, ty_of-Token, ty_of-Tuple, type_cases}
use Rattle.ir_tree.specs.Rules.Typed.Typed.{none_broken}
use Rattle.ir_tree.proofs.Lemmas.Rules.Typed.Checked.{both_true, and_true, parts_not}

pub type_induction : (P : IrType → Type 0) → ((w : ℕ) (ns : List ℕ) → P (Bits w ns)) → ((ns : List ℕ) → P (Token ns)) → ((ts : List IrType) (ns : List ℕ) → EachHas P ts → P (Tuple ts ns)) → (t : IrType) → P t
type_induction P bits token tuple = ind-IrType P (λ x y is. subst (λ z. P (roll-IrType z)) is (case y))
  where
    case : (y : IrType-F ((t : IrType) × P t)) → P (roll-IrType (map-IrType ((t : IrType) × P t) IrType (λ e. e.0) y))
    case (IrType-F.Bits w ns) = subst P (sym (rolls-Bits w ns)) (bits w ns)
    case (IrType-F.Token ns) = subst P (sym (rolls-Token ns)) (token ns)
    case (IrType-F.Tuple es ns) = subst P (sym (rolls-Tuple (map (λ e. e.0) es) ns)) (tuple (map (λ e. e.0) es) ns (each_of P es))

pub nat_same : (n m : ℕ) → IsTrue (nat_eq n m) → n ≡ m
nat_same n m h = grind (arith, nat_tests)

-- ---- equal types

numbers_same : (ns ms : List ℕ) → IsTrue (same_numbers ns ms) → ns ≡ ms
numbers_same [] [] h = refl
numbers_same [] (m ∷ ms) h = absurd (cc)
numbers_same (n ∷ ns) [] h = absurd (cc)
numbers_same (n ∷ ns) (m ∷ ms) h =
    let both = both_true (nat_eq n m) (same_numbers ns ms) h in
    ap₂ (λ x xs. x ∷ xs) (nat_same n m both.0) (numbers_same ns ms both.1)

abbrev IsSame : IrType → Type 0
IsSame t = (u : IrType) → IsTrue (same_type t u) → t ≡ u

bits_same : (w : ℕ) (ns : List ℕ) (u : IrType) → IsTrue (bits_like w ns (out-IrType u)) → Bits w ns ≡ u
bits_same w ns = type_cases (λ u. IsTrue (bits_like w ns (out-IrType u)) → Bits w ns ≡ u)
    (λ v ms h. let both = both_true (nat_eq w v) (same_numbers ns ms) (sym (ap (bits_like w ns) (outs-Bits v ms)) ∙ h) in ap₂ Bits (nat_same w v both.0) (numbers_same ns ms both.1))
    (λ ms h. let never : false ≡ true = sym (ap (bits_like w ns) (outs-Token ms)) ∙ h in absurd (cc))
    (λ ts ms h. let never : false ≡ true = sym (ap (bits_like w ns) (outs-Tuple ts ms)) ∙ h in absurd (cc))

token_same : (ns : List ℕ) (u : IrType) → IsTrue (token_like ns (out-IrType u)) → Token ns ≡ u
token_same ns = type_cases (λ u. IsTrue (token_like ns (out-IrType u)) → Token ns ≡ u)
    (λ v ms h. let never : false ≡ true = sym (ap (token_like ns) (outs-Bits v ms)) ∙ h in absurd (cc))
    (λ ms h. ap Token (numbers_same ns ms (sym (ap (token_like ns) (outs-Token ms)) ∙ h)))
    (λ ts ms h. let never : false ≡ true = sym (ap (token_like ns) (outs-Tuple ts ms)) ∙ h in absurd (cc))

each_same_is : (ts us : List IrType) → EachHas IsSame ts → IsTrue (each_same (map same_type ts) us) → ts ≡ us
each_same_is [] [] each h = refl
each_same_is [] (u ∷ us) each h = absurd (cc)
each_same_is (t ∷ ts) [] each h = absurd (cc)
each_same_is (t ∷ ts) (u ∷ us) each h =
    let both = both_true (same_type t u) (each_same (map same_type ts) us) h in
    ap₂ (λ x xs. x ∷ xs) (each.0 u both.0) (each_same_is ts us each.1 both.1)

tuple_same : (ts : List IrType) (ns : List ℕ) → EachHas IsSame ts → (u : IrType) → IsTrue (tuple_like (map same_type ts) ns (out-IrType u)) → Tuple ts ns ≡ u
tuple_same ts ns each = type_cases (λ u. IsTrue (tuple_like (map same_type ts) ns (out-IrType u)) → Tuple ts ns ≡ u)
    (λ v ms h. let never : false ≡ true = sym (ap (tuple_like (map same_type ts) ns) (outs-Bits v ms)) ∙ h in absurd (cc))
    (λ ms h. let never : false ≡ true = sym (ap (tuple_like (map same_type ts) ns) (outs-Token ms)) ∙ h in absurd (cc))
    (λ us ms h. let both = both_true (each_same (map same_type ts) us) (same_numbers ns ms) (sym (ap (tuple_like (map same_type ts) ns) (outs-Tuple us ms)) ∙ h) in ap₂ Tuple (each_same_is ts us each both.0) (numbers_same ns ms both.1))

pub same_is : (t : IrType) → IsSame t
same_is = type_induction IsSame
    (λ w ns u h. bits_same w ns u (sym (ap (λ (f : IrType → Bool). f u) (fold-Bits (IrType → Bool) same_step w ns)) ∙ h))
    (λ ns u h. token_same ns u (sym (ap (λ (f : IrType → Bool). f u) (fold-Token (IrType → Bool) same_step ns)) ∙ h))
    (λ ts ns each u h. tuple_same ts ns each u (sym (ap (λ (f : IrType → Bool). f u) (fold-Tuple (IrType → Bool) same_step ts ns)) ∙ h))

all_same : (ts : List IrType) → EachHas IsSame ts
all_same [] = tt
all_same (t ∷ ts) = (same_is t, all_same ts)

pub types_same : (ts us : List IrType) → IsTrue (each_same (map same_type ts) us) → ts ≡ us
types_same ts us h = each_same_is ts us (all_same ts) h

-- ---- bits, tokens, tuples

pub record IsBitsType (p : ℕ → Bool) (t : IrType) : Type 0 where
  pub width : ℕ
  pub is : t ≡ Bits width []
  pub test : IsTrue (p width)

bits_alone : (p : ℕ → Bool) (w : ℕ) (ns : List ℕ) → IsTrue (passes p (width_alone w ns)) → IsBitsType p (Bits w ns)
bits_alone p w [] h = record { width = w; is = refl; test = h }
bits_alone p w (n ∷ ns) h = absurd (cc)

pub bits_is : (p : ℕ → Bool) (t : IrType) → IsTrue (is_bits_where p t) → IsBitsType p t
bits_is p = type_cases (λ t. IsTrue (is_bits_where p t) → IsBitsType p t)
    (λ w ns h. bits_alone p w ns (sym (ap (λ y. passes p (bits_there y)) (outs-Bits w ns)) ∙ h))
    (λ ns h. let never : false ≡ true = sym (ap (λ y. passes p (bits_there y)) (outs-Token ns)) ∙ h in absurd (cc))
    (λ ts ns h. let never : false ≡ true = sym (ap (λ y. passes p (bits_there y)) (outs-Tuple ts ns)) ∙ h in absurd (cc))

empty_is : (ns : List ℕ) → IsTrue (is_empty ns) → ns ≡ []
empty_is [] h = refl
empty_is (n ∷ ns) h = absurd (cc)

pub token_is : (t : IrType) → IsTrue (is_token t) → t ≡ Token []
token_is = type_cases (λ t. IsTrue (is_token t) → t ≡ Token [])
    (λ w ns h. let never : false ≡ true = sym (ap token_there (outs-Bits w ns)) ∙ h in absurd (cc))
    (λ ns h. ap Token (empty_is ns (sym (ap token_there (outs-Token ns)) ∙ h)))
    (λ ts ns h. let never : false ≡ true = sym (ap token_there (outs-Tuple ts ns)) ∙ h in absurd (cc))

pub record IsTupleType (p : List IrType → Bool) (t : IrType) : Type 0 where
  pub parts : List IrType
  pub is : t ≡ Tuple parts []
  pub test : IsTrue (p parts)

parts_only : (p : List IrType → Bool) (ts : List IrType) (ns : List ℕ) → IsTrue (passes p (parts_alone ts ns)) → IsTupleType p (Tuple ts ns)
parts_only p ts [] h = record { parts = ts; is = refl; test = h }
parts_only p ts (n ∷ ns) h = absurd (cc)

pub tuple_is : (p : List IrType → Bool) (t : IrType) → IsTrue (is_tuple_where p t) → IsTupleType p t
tuple_is p = type_cases (λ t. IsTrue (is_tuple_where p t) → IsTupleType p t)
    (λ w ns h. let never : false ≡ true = sym (ap (λ y. passes p (parts_there y)) (outs-Bits w ns)) ∙ h in absurd (cc))
    (λ ns h. let never : false ≡ true = sym (ap (λ y. passes p (parts_there y)) (outs-Token ns)) ∙ h in absurd (cc))
    (λ ts ns h. parts_only p ts ns (sym (ap (λ y. passes p (parts_there y)) (outs-Tuple ts ns)) ∙ h))

-- ---- arrays

pub record IsArrayType (a t : IrType) : Type 0 where
  pub count : ℕ
  pub inner : List ℕ
  pub is : ty_of a ≡ ty.Array (ty_of t) (bounded count)
  pub sizes : sizes_of a ≡ count ∷ inner

bits_array : (w : ℕ) (ns : List ℕ) (t : IrType) → IsTrue (element_like (IrType-F.Bits w ns) t) → IsArrayType (Bits w ns) t
bits_array w [] t h = absurd (cc)
bits_array w (n ∷ ns) t h = record {
  count = n;
  inner = ns;
  is = ty_of-Bits w (n ∷ ns) ∙ ap (λ u. ty.Array u (bounded n)) (sym (ty_of-Bits w ns) ∙ ap ty_of (bits_same w ns t h));
  sizes = ap sizes_step (outs-Bits w (n ∷ ns));
}

token_array : (ns : List ℕ) (t : IrType) → IsTrue (element_like (IrType-F.Token ns) t) → IsArrayType (Token ns) t
token_array [] t h = absurd (cc)
token_array (n ∷ ns) t h = record {
  count = n;
  inner = ns;
  is = ty_of-Token (n ∷ ns) ∙ ap (λ u. ty.Array u (bounded n)) (sym (ty_of-Token ns) ∙ ap ty_of (token_same ns t h));
  sizes = ap sizes_step (outs-Token (n ∷ ns));
}

tuple_array : (ts : List IrType) (ns : List ℕ) (t : IrType) → IsTrue (element_like (IrType-F.Tuple ts ns) t) → IsArrayType (Tuple ts ns) t
tuple_array ts [] t h = absurd (cc)
tuple_array ts (n ∷ ns) t h = record {
  count = n;
  inner = ns;
  is = ty_of-Tuple ts (n ∷ ns) ∙ ap (λ u. ty.Array u (bounded n)) (sym (ty_of-Tuple ts ns) ∙ ap ty_of (tuple_same ts ns (all_same ts) t h));
  sizes = ap sizes_step (outs-Tuple ts (n ∷ ns));
}

pub array_is : (a t : IrType) → IsTrue (is_array_of a t) → IsArrayType a t
array_is = type_cases (λ a. (t : IrType) → IsTrue (is_array_of a t) → IsArrayType a t)
    (λ w ns t h. bits_array w ns t (sym (ap (λ y. element_like y t) (outs-Bits w ns)) ∙ h))
    (λ ns t h. token_array ns t (sym (ap (λ y. element_like y t) (outs-Token ns)) ∙ h))
    (λ ts ns t h. tuple_array ts ns t (sym (ap (λ y. element_like y t) (outs-Tuple ts ns)) ∙ h))

pub array_same : (t u : Ty) (m n : ℕ) → ty.Array t m ≡ ty.Array u n → t ≡ u
array_same t u m n h =
    let e : Ty-F.Array t m ≡ Ty-F.Array u n = sym (ty_views.outs-Array t m) ∙ (ap ty_views.out-Ty h ∙ ty_views.outs-Array u n) in
    cc

-- ---- sound types

pub marks-Bits : (w : ℕ) (ns : List ℕ) → marks_of (Bits w ns) ≡ marks_step (IrType-F.Bits w ns)
marks-Bits = fold-Bits Marks marks_step

pub marks-Token : (ns : List ℕ) → marks_of (Token ns) ≡ marks_step (IrType-F.Token ns)
marks-Token = fold-Token Marks marks_step

pub marks-Tuple : (ts : List IrType) (ns : List ℕ) → marks_of (Tuple ts ns) ≡ marks_step (IrType-F.Tuple (map marks_of ts) ns)
marks-Tuple = fold-Tuple Marks marks_step

abbrev pub IsSound : IrType → Type 0
IsSound t = IsTrue (marks_of t).sound

empty_sizes : (ns : List ℕ) → IsTrue (is_empty ns) → IsTrue (are_sizes ns)
empty_sizes [] h = refl
empty_sizes (n ∷ ns) h = absurd (cc)

-- no size in a sound type is 0
pub sound_sizes : (t : IrType) → IsSound t → IsTrue (are_sizes (sizes_of t))
sound_sizes = type_cases (λ t. IsSound t → IsTrue (are_sizes (sizes_of t)))
    (λ w ns h.
    let both = both_true (nat_lt 0 w) (are_sizes ns) (sym (ap (λ (m : Marks). m.sound) (marks-Bits w ns)) ∙ h) in
    ap (λ y. are_sizes (sizes_step y)) (outs-Bits w ns) ∙ both.1)
    (λ ns h.
    ap (λ y. are_sizes (sizes_step y)) (outs-Token ns) ∙ empty_sizes ns (sym (ap (λ (m : Marks). m.sound) (marks-Token ns)) ∙ h))
    (λ ts ns h.
    let both = both_true (all_sound (map marks_of ts)) (are_sizes ns && (is_empty ns || any_bits (map marks_of ts))) (sym (ap (λ (m : Marks). m.sound) (marks-Tuple ts ns)) ∙ h) in
    ap (λ y. are_sizes (sizes_step y)) (outs-Tuple ts ns) ∙ (both_true (are_sizes ns) (is_empty ns || any_bits (map marks_of ts)) both.1).0)

some_there : (n : ℕ) (ns ms : List ℕ) (b : Bool) → ms ≡ n ∷ ns → IsTrue (is_empty ms || b) → IsTrue b
some_there n ns [] b e h = absurd (cc)
some_there n ns (m ∷ ms) b e h = h

-- the elements of a sound array have bits
pub sound_bits : (n : ℕ) (inner : List ℕ) (t : IrType) → sizes_of t ≡ n ∷ inner → IsSound t → IsTrue (marks_of t).bits
sound_bits n inner = type_cases (λ t. sizes_of t ≡ n ∷ inner → IsSound t → IsTrue (marks_of t).bits)
    (λ w ns e h. ap (λ (m : Marks). m.bits) (marks-Bits w ns))
    (λ ns e h.
    let none : ns ≡ [] = empty_is ns (sym (ap (λ (m : Marks). m.sound) (marks-Token ns)) ∙ h) in
    let some : ns ≡ n ∷ inner = sym (ap sizes_step (outs-Token ns)) ∙ e in
    absurd (cc))
    (λ ts ns e h.
    let some : ns ≡ n ∷ inner = sym (ap sizes_step (outs-Tuple ts ns)) ∙ e in
    let both = both_true (all_sound (map marks_of ts)) (are_sizes ns && (is_empty ns || any_bits (map marks_of ts))) (sym (ap (λ (m : Marks). m.sound) (marks-Tuple ts ns)) ∙ h) in
    ap (λ (m : Marks). m.bits) (marks-Tuple ts ns) ∙ some_there n inner ns (any_bits (map marks_of ts)) some (both_true (are_sizes ns) (is_empty ns || any_bits (map marks_of ts)) both.1).1)

-- a count of the bits in a type, of an array by that of its element
pub record IsCount (f : Ty → ℕ) : Type 0 where
  pub bits : (w : ℕ) → 1 ≤ w → 1 ≤ f (ty.Bits w)
  pub tuple : (ts : List Ty) → f (ty.Tuple ts) ≡ sum (map f ts)
  pub array : (t : Ty) (n : ℕ) → f (ty.Array t n) ≡ n * f t

product_some : (a b : ℕ) → 1 ≤ a → 1 ≤ b → 1 ≤ a * b
product_some zero b h k = absurd (omega arith)
product_some (suc a) b h k = let e : suc a * b ≡ a * b + b = omega arith in omega arith

some_bounded : (n : ℕ) → IsTrue (nat_lt 0 n) → 1 ≤ bounded n
some_bounded n h = let some : 0 < n = grind (arith, nat_tests) in omega arith

arrays_some : (f : Ty → ℕ) → IsCount f → (ns : List ℕ) (t : Ty) → IsTrue (are_sizes ns) → 1 ≤ f t → 1 ≤ f (arrays_of ns t)
arrays_some f m [] t h k = k
arrays_some f m (n ∷ ns) t h k =
    let both = both_true (nat_lt 0 n) (are_sizes ns) h in
    subst (λ c. 1 ≤ c) (sym (m.array (arrays_of ns t) (bounded n))) (product_some (bounded n) (f (arrays_of ns t)) (some_bounded n both.0) (arrays_some f m ns t both.1 k))

abbrev HasSome : (Ty → ℕ) → IrType → Type 0
HasSome f t = IsSound t → IsTrue (marks_of t).bits → 1 ≤ f (ty_of t)

either_true : (a b : Bool) → IsTrue (a || b) → IsTrue a ⊎ IsTrue b
either_true true b h = inl refl
either_true false b h = inr h

sum_some : (f : Ty → ℕ) (ts : List IrType) → EachHas (HasSome f) ts → IsTrue (all_sound (map marks_of ts)) → IsTrue (any_bits (map marks_of ts)) → 1 ≤ sum (map f (map ty_of ts))
sum_some f [] each h k = absurd (cc)
sum_some f (t ∷ ts) each h k =
    let both = both_true (marks_of t).sound (all_sound (map marks_of ts)) h in
    let parts : sum (map f (map ty_of (t ∷ ts))) ≡ f (ty_of t) + sum (map f (map ty_of ts)) = sum_by-cons (λ x. x) (f (ty_of t)) (map f (map ty_of ts)) in
    let one : 1 ≤ f (ty_of t) + sum (map f (map ty_of ts)) =
    ⊎_elim
    (λ here. let first : 1 ≤ f (ty_of t) = each.0 both.0 here in omega arith)
    (λ later. let rest : 1 ≤ sum (map f (map ty_of ts)) = sum_some f ts each.1 both.1 later in omega arith)
    (either_true (marks_of t).bits (any_bits (map marks_of ts)) k) in
    subst (λ c. 1 ≤ c) (sym parts) one

pub has_some : (f : Ty → ℕ) → IsCount f → (t : IrType) → HasSome f t
has_some f m = type_induction (HasSome f)
    (λ w ns h k.
    let both = both_true (nat_lt 0 w) (are_sizes ns) (sym (ap (λ (m : Marks). m.sound) (marks-Bits w ns)) ∙ h) in
    subst (λ u. 1 ≤ f u) (sym (ty_of-Bits w ns)) (arrays_some f m ns (ty.Bits (bounded w)) both.1 (m.bits (bounded w) (some_bounded w both.0))))
    (λ ns h k. let never : false ≡ true = sym (ap (λ (m : Marks). m.bits) (marks-Token ns)) ∙ k in absurd (cc))
    (λ ts ns each h k.
    let both = both_true (all_sound (map marks_of ts)) (are_sizes ns && (is_empty ns || any_bits (map marks_of ts))) (sym (ap (λ (m : Marks). m.sound) (marks-Tuple ts ns)) ∙ h) in
    let some : 1 ≤ sum (map f (map ty_of ts)) = sum_some f ts each both.0 (sym (ap (λ (m : Marks). m.bits) (marks-Tuple ts ns)) ∙ k) in
    let inside : 1 ≤ f (ty.Tuple (map ty_of ts)) = subst (λ c. 1 ≤ c) (sym (m.tuple (map ty_of ts))) some in
    subst (λ u. 1 ≤ f u) (sym (ty_of-Tuple ts ns)) (arrays_some f m ns (ty.Tuple (map ty_of ts)) (both_true (are_sizes ns) (is_empty ns || any_bits (map marks_of ts)) both.1).0 inside))

pub widths_count : IsCount width_of
widths_count = record {
  bits = λ w h. subst (λ c. 1 ≤ c) (sym (tys.width_of-Bits w)) h;
  tuple = tys.width_of-Tuple;
  array = tys.width_of-Array;
}

pub leaves_count : IsCount leaf_count
leaves_count = record {
  bits = λ w h. subst (λ c. 1 ≤ c) (sym (tys.fold-Bits ℕ width.leaves_step w)) (omega arith);
  tuple = tys.fold-Tuple ℕ width.leaves_step;
  array = tys.leaf_count-Array;
}

-- ---- limits

pub record IsLimited (t : IrType) : Type 0 where
  pub sound : IsSound t
  pub widths : IsTrue (list_all (λ w. nat_le w 128) (widths_in t))
  pub leaves : leaf_count (ty_of t) ≤ 256

within_widths : (end : ℕ) (ws : List ℕ) → IsTrue (none_broken (map (λ w. limit_at end what.Width w 128) ws)) → IsTrue (list_all (λ w. nat_le w 128) ws)
within_widths end [] h = refl
within_widths end (w ∷ ws) h =
    let both = both_true (not (nat_lt 128 (min w (2 ^ 64 - 1)))) (none_broken (map (λ w. limit_at end what.Width w 128) ws)) h in
    let here : IsTrue (nat_le w 128) = grind (arith, nat_tests, both.0) in
    and_true (nat_le w 128) (list_all (λ w. nat_le w 128) ws) here (within_widths end ws both.1)

pub limited : (end : ℕ) (t : IrType) (own : ℕ) → IsSound t → IsTrue (none_broken (type_limits end t own)) → IsLimited t
limited end t own sound h =
    let parts = parts_not (map (λ w. limit_at end what.Width w 128) (widths_in t)) _ h in
    let rest = both_true (not (nat_lt 256 (min (leaf_count (ty_of t)) (2 ^ 64 - 1)))) _ parts.1 in
    record {
      sound = sound;
      widths = within_widths end (widths_in t) parts.0;
      leaves = grind (arith, nat_tests, rest.0);
    }

factor : (m l : ℕ) → 1 ≤ m * l → m * l ≤ 256 → m ≤ 256
factor m zero h k = absurd (let none : m * zero ≡ 0 = omega arith in omega arith)
factor m (suc l) h k = let e : m * suc l ≡ m * l + m = omega arith in omega arith

some_size : (n : ℕ) (ns ms : List ℕ) → ms ≡ n ∷ ns → IsTrue (are_sizes ms) → IsTrue (nat_lt 0 n)
some_size n ns ms e h = (both_true (nat_lt 0 n) (are_sizes ns) (ap are_sizes (sym e) ∙ h)).0

-- an array has an element
pub array_some : (a t : IrType) → IsSound a → (is : IsArrayType a t) → 1 ≤ bounded is.count
array_some a t sound is = some_bounded is.count (some_size is.count is.inner (sizes_of a) is.sizes (sound_sizes a sound))

-- the size of an array is as written
pub array_size : (a t : IrType) → IsLimited a → (is : IsArrayType a t) → bounded is.count ≡ is.count
array_size a t limits is =
    let some : 1 ≤ leaf_count (ty_of a) = has_some leaf_count leaves_count a limits.sound (sound_bits is.count is.inner a is.sizes limits.sound) in
    let leaves : leaf_count (ty_of a) ≡ bounded is.count * leaf_count (ty_of t) = ap leaf_count is.is ∙ tys.leaf_count-Array (ty_of t) (bounded is.count) in
    let small : bounded is.count ≤ 256 = factor (bounded is.count) (leaf_count (ty_of t)) (subst (λ c. 1 ≤ c) leaves some) (subst (λ c. c ≤ 256) leaves limits.leaves) in
    omega arith

-- ---- widths

arrays_widths : (ns : List ℕ) (t : Ty) → HasWidths t → HasWidths (arrays_of ns t)
arrays_widths [] t h = h
arrays_widths (n ∷ ns) t h = tys.fold-Array Bool width.widths_step (arrays_of ns t) (bounded n) ∙ arrays_widths ns t h

abbrev AreWidths : IrType → Type 0
AreWidths t = IsSound t → IsTrue (list_all (λ w. nat_le w 128) (widths_in t)) → HasWidths (ty_of t)

each_widths : (ts : List IrType) → EachHas AreWidths ts → IsTrue (all_sound (map marks_of ts)) → IsTrue (list_all (λ w. nat_le w 128) (joined_lists (map widths_in ts))) → HasAllWidths (map ty_of ts)
each_widths [] each h k = refl
each_widths (t ∷ ts) each h k =
    let both = both_true (marks_of t).sound (all_sound (map marks_of ts)) h in
    let parts = both_true _ _ (sym (list_all-append (λ w. nat_le w 128) (widths_in t) (joined_lists (map widths_in ts))) ∙ k) in
    and_true _ _ (each.0 both.0 parts.0) (each_widths ts each.1 both.1 parts.1)

bits_widths : (w : ℕ) → IsTrue (nat_lt 0 w) → IsTrue (nat_le w 128) → HasWidths (ty.Bits (bounded w))
bits_widths w h k =
    let some : 0 < w = grind (arith, nat_tests) in
    let most : w ≤ 128 = grind (arith, nat_tests) in
    let least : 1 ≤ bounded w = omega arith in
    let greatest : bounded w ≤ 128 = omega arith in
    let first : IsTrue (nat_le 1 (bounded w)) = grind (arith, nat_tests) in
    let second : IsTrue (nat_le (bounded w) 128) = grind (arith, nat_tests) in
    tys.fold-Bits Bool width.widths_step (bounded w) ∙ and_true _ _ first second

has_widths : (t : IrType) → AreWidths t
has_widths = type_induction AreWidths
    (λ w ns h k.
    let both = both_true (nat_lt 0 w) (are_sizes ns) (sym (ap (λ (m : Marks). m.sound) (marks-Bits w ns)) ∙ h) in
    let only = both_true (nat_le w 128) true (sym (ap (list_all (λ w. nat_le w 128)) (fold-Bits (List ℕ) types.widths_step w ns)) ∙ k) in
    subst HasWidths (sym (ty_of-Bits w ns)) (arrays_widths ns (ty.Bits (bounded w)) (bits_widths w both.0 only.0)))
    (λ ns h k. subst HasWidths (sym (ty_of-Token ns)) (arrays_widths ns (ty.Tuple []) (tys.fold-Tuple Bool width.widths_step [])))
    (λ ts ns each h k.
    let both = both_true (all_sound (map marks_of ts)) _ (sym (ap (λ (m : Marks). m.sound) (marks-Tuple ts ns)) ∙ h) in
    let all : IsTrue (list_all (λ w. nat_le w 128) (joined_lists (map widths_in ts))) = sym (ap (list_all (λ w. nat_le w 128)) (fold-Tuple (List ℕ) types.widths_step ts ns)) ∙ k in
    subst HasWidths (sym (ty_of-Tuple ts ns)) (arrays_widths ns (ty.Tuple (map ty_of ts)) (tys.fold-Tuple Bool width.widths_step (map ty_of ts) ∙ each_widths ts each both.0 all)))

pub limited_widths : (t : IrType) → IsLimited t → HasWidths (ty_of t)
limited_widths t h = has_widths t h.sound h.widths

-- the width of limited bits
pub limited_bits : (w : ℕ) → IsLimited (Bits w []) → (1 ≤ w) × (w ≤ 128)
limited_bits w h =
    let both = both_true (nat_lt 0 w) true (sym (ap (λ (m : Marks). m.sound) (marks-Bits w [])) ∙ h.sound) in
    let only = both_true (nat_le w 128) true (sym (ap (list_all (λ w. nat_le w 128)) (fold-Bits (List ℕ) types.widths_step w [])) ∙ h.widths) in
    (grind (arith, nat_tests, both.0), grind (arith, nat_tests, only.0))
