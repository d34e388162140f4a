-- What patterns bind behind what was bound before.
use Rattle.std.proofs.Common.{◌≡◌, ℕ, zero, suc, ◌<◌, ◌≤◌, Bool, true, false, List, ◌∷◌, ◌++◌, map, length, take, drop, get_or, Option, Some, None, refl, sym, ap, ap₂, ◌∙◌, arith, if◌then◌else◌, []}
use Rattle.std.specs.Prelude.{MatchBool}
use Rattle.std.proofs.lemmas.List.{append_assoc, append-nil, drop_all, length-append}
use Rattle.xb_value.specs.declared.ty.Ty.{Ty}
use Rattle.xb_value.specs.declared.ty.Ty as ty
use Rattle.xb_value.specs.declared.value.Value.{Value}
use Rattle.dslx_meaning.specs.Lists.{and_then}
use Rattle.dslx_core.specs.declared.expr.Shape.{Shape}
use Rattle.dslx_core.specs.declared.expr.Shape as shape
use Rattle.dslx_core.specs.Types.Typing.{BindsTypes, arm_binds, binds_each, binds_types, each_binds_none, if_alike, value_type}
use Rattle.dslx_core.proofs.Lemmas.Types.{alike_itself, binds_bound, binds_equal, binds_tuple, binds_wild, parts_of, where_so}
use Rattle.ir_lower.specs.Types.Bound.{AddsTypes}

-- ---- what is bound stays

pub grown_none : (before : List Ty) → AddsTypes before before
grown_none before = record { more = []; are = sym (append-nil before) }

pub grown_one : (before all : List Ty) (t : Ty) → all ≡ before ++ t ∷ [] → AddsTypes before all
grown_one before all t e = record { more = t ∷ []; are = e }

pub grown_twice : (before some all : List Ty) → AddsTypes before some → AddsTypes some all → AddsTypes before all
grown_twice before some all g h = record { more = g.more ++ h.more; are = h.are ∙ (ap (λ xs. xs ++ h.more) g.are ∙ append_assoc before g.more h.more) }

take_prefix : (xs ys : List Ty) → take (length xs) (xs ++ ys) ≡ xs
take_prefix [] ys = refl
take_prefix (x ∷ xs) ys = ap (λ zs. x ∷ zs) (take_prefix xs ys)

-- what was bound before is left
pub kept_behind : (before own all last : List Ty) (count : ℕ) → own ≡ before → count ≡ length own → AddsTypes own all → last ≡ take count all → last ≡ before
kept_behind before own all last count own_is count_is grown last_is = last_is ∙ (ap (λ n. take n all) count_is ∙ (ap (take (length own)) grown.are ∙ (take_prefix own grown.more ∙ own_is)))

none_more : (xs : List Ty) → length xs ≤ 0 → xs ≡ []
none_more [] h = refl
none_more (x ∷ xs) h = absurd (omega (arith, h))

-- as many as before are those before
pub same_count : (before all : List Ty) → AddsTypes before all → length all ≡ length before → all ≡ before
same_count before all grown e =
    let few : length grown.more ≤ 0 = omega (arith, length-append before grown.more, ap length grown.are, e) in
    grown.are ∙ (ap (λ xs. before ++ xs) (none_more grown.more few) ∙ append-nil before)

-- ---- each kind of pattern

pub wild_binds : (certain : Bool) (t : Ty) (bound : List Ty) → binds_types certain shape.Wild t bound ≡ Some bound
wild_binds certain t bound = ap (λ (f : BindsTypes). f t bound) (binds_wild certain)

pub bound_binds : (certain : Bool) (t : Ty) (bound : List Ty) → binds_types certain shape.Bound t bound ≡ Some (bound ++ t ∷ [])
bound_binds certain t bound = ap (λ (f : BindsTypes). f t bound) (binds_bound certain)

pub equal_binds : (certain : Bool) (v : Value) (t : Ty) (bound : List Ty) → certain ≡ false → if_alike t (value_type v) ≡ Some t → binds_types certain (shape.Equal v) t bound ≡ Some bound
equal_binds certain v t bound not_certain alike =
    ap (λ (f : BindsTypes). f t bound) (binds_equal certain v)
    ∙ (ap (λ b. if b then None else and_then (if_alike t (value_type v)) (λ s. Some bound)) not_certain ∙ ap (λ o. and_then o (λ s. Some bound)) alike)

pub tuple_binds : (certain : Bool) (shapes : List Shape) (ts bound all : List Ty) → binds_each (map (binds_types certain) shapes) ts bound ≡ Some all → binds_types certain (shape.Tuple shapes) (ty.Tuple ts) bound ≡ Some all
tuple_binds certain shapes ts bound all h =
    ap (λ (f : BindsTypes). f (ty.Tuple ts) bound) (binds_tuple certain shapes)
    ∙ (ap (λ o. and_then o (λ us. binds_each (map (binds_types certain) shapes) us bound)) (parts_of ts) ∙ h)

pub same_alike : (t u : Ty) (o : Option Ty) → t ≡ u → o ≡ Some u → if_alike t o ≡ Some t
same_alike t u o is there = ap (if_alike t) (there ∙ ap Some (sym is)) ∙ alike_itself t

-- ---- parts, one after the other

drop_zero : {A : Type 0} (xs : List A) → drop 0 xs ≡ xs
drop_zero [] = refl
drop_zero (x ∷ xs) = refl

pub drop_next : {A : Type 0} (xs : List A) (n : ℕ) (x : A) → n < length xs → x ≡ get_or xs n x → drop n xs ≡ x ∷ drop (suc n) xs
drop_next [] n x h e = absurd (omega (arith, h))
drop_next (y ∷ xs) zero x h e = ap₂ (λ z zs. z ∷ zs) (sym e) (sym (drop_zero xs))
drop_next (y ∷ xs) (suc n) x h e = drop_next xs n x (omega (arith, h)) e

abbrev pub PartsLeft : Bool → List Shape → List Ty → ℕ → List Ty → List Ty → Type 0
PartsLeft certain shapes ts i bound now = binds_each (map (binds_types certain) (drop i shapes)) (drop i ts) now ≡ binds_each (map (binds_types certain) shapes) ts bound

-- ---- arms

pub one_arm : (p : Shape) (t : Ty) (bound all : List Ty) → binds_types false p t bound ≡ Some all → arm_binds (p ∷ []) t bound ≡ Some all
one_arm p t bound all h = h

pub several_bind : (p q : Shape) (ps : List Shape) (t : Ty) (bound : List Ty) → each_binds_none (p ∷ q ∷ ps) t bound ≡ true → arm_binds (p ∷ q ∷ ps) t bound ≡ Some bound
several_bind p q ps t bound h = where_so (each_binds_none (p ∷ q ∷ ps) t bound) (Some bound) h

-- ---- tests

pub test_so : (b : Bool) (P : Type 0) → P → MatchBool b P (Unit {0})
test_so true P h = h
test_so false P h = tt

pub test_as : (b : Bool) (P Q : Type 0) → (P → Q) → MatchBool b P (Unit {0}) → MatchBool b Q (Unit {0})
test_as true P Q f h = f h
test_as false P Q f h = tt

pub same_shape : (certain : Bool) (s x : Shape) (t : Ty) (bound all : List Ty) → s ≡ x → binds_types certain x t bound ≡ Some all → binds_types certain s t bound ≡ Some all
same_shape certain s x t bound all is h = ap (λ y. binds_types certain y t bound) is ∙ h

-- one more part is bound
pub part_bound : (certain : Bool) (shapes : List Shape) (ts : List Ty) (i j : ℕ) (p : Shape) (t : Ty) (bound now next : List Ty) → j ≡ suc i → i < length shapes → i < length ts → p ≡ get_or shapes i p → t ≡ get_or ts i t
    → binds_types certain p t now ≡ Some next → PartsLeft certain shapes ts i bound now → PartsLeft certain shapes ts j bound next
part_bound certain shapes ts i j p t bound now next is less few at_p at_t binds left =
    ap (λ n. binds_each (map (binds_types certain) (drop n shapes)) (drop n ts) next) is
    ∙ (sym (ap (λ o. and_then o (binds_each (map (binds_types certain) (drop (suc i) shapes)) (drop (suc i) ts))) binds)
    ∙ (sym (ap₂ (λ ps us. binds_each (map (binds_types certain) ps) us now) (drop_next shapes i p less at_p) (drop_next ts i t few at_t)) ∙ left))

-- no part is left
pub parts_bound : (certain : Bool) (shapes : List Shape) (ts : List Ty) (i : ℕ) (bound now : List Ty) → length shapes ≤ i → length shapes ≡ length ts → PartsLeft certain shapes ts i bound now → binds_each (map (binds_types certain) shapes) ts bound ≡ Some now
parts_bound certain shapes ts i bound now over same left =
    sym left ∙ ap₂ (λ ps us. binds_each (map (binds_types certain) ps) us now) (drop_all i shapes over) (drop_all i ts (omega (arith, over, same)))
