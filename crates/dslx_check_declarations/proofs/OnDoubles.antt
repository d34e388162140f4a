-- Values of members by their words.
use Rattle.std.proofs.Common.{◌≡◌, ◌∙◌, ◌<◌, ◌-◌, ◌+◌, ◌==◌, ◌&&◌, ◌||◌, ℕ, zero, suc, Bool, true, false, cond, List, [], ◌∷◌, Option, Some, None, length, drop, get_or, arith, refl, sym, ap, subst}
use Rattle.std.specs.HashSet.{HashSet}
use Rattle.std.proofs.lemmas.Bool.Decides.{Decides-eqb}
use Rattle.std.proofs.lemmas.List.{drop_more}
use Rattle.xb_bits.specs.Word.{Word, word}
use Rattle.dslx_meaning.specs.Rules.ItemRules.{has_equal_values, is_among_values}
use Rattle.dslx_meaning.specs.Types.{same_bool}
use Rattle.dslx_meaning.specs.Values.{bits_same, same_value, same_value_step}
use Rattle.dslx_meaning.specs.declared.ty.BitKind.{BitKind}
use Rattle.dslx_meaning.specs.declared.value.DslxValue.{DslxValue}
use Rattle.dslx_meaning.specs.declared.value.DslxValue as value
use Rattle.dslx_meaning.specs.declared.value.DslxValue.TheVariants as rolls
use Rattle.dslx_meaning.specs.declared.value.DslxValue.TheOpen.{DslxValue-F}
use Rattle.dslx_meaning.specs.declared.value.DslxValue.TheViews as views
use Rattle.dslx_meaning.specs.declared.value.DslxValue.TheFolds.{fold-roll-DslxValue}
use Rattle.dslx_check_rules.specs.Rows.{same_kind}
use Rattle.dslx_check_declarations.specs.Doubles.{HoldsWords, IsOfKind, NotesValue, NotesWord, has_word, is_double_of, of_kind}
use Rattle.dslx_check_declarations.proofs.OnValueTypes.{one_kind}

-- ---- words

pub cond_or : (b r : Bool) → cond b true r ≡ (b || r)
cond_or true r = refl
cond_or false r = refl

pub kind_is : (kind own : BitKind) (s : Bool) (w : Word) (n : ℕ) (v : DslxValue) → same_kind kind own ≡ true → v ≡ value.Bits s w → own ≡ record { signed = s; width = w.width } → n ≡ w.value → IsOfKind kind n v
kind_is kind own s w n v same is own_is number =
    let base : BitKind = record { signed = s; width = w.width } in
    let k : base ≡ kind = sym own_is ∙ sym (one_kind kind own same) in
    is ∙ (λ i. value.Bits (k i).signed (record { width = (k i).width; value = sym number i }))

itself : (n : ℕ) → (n == n) ≡ true
itself n = (Decides-eqb n n).1 refl

one_sign : (s : Bool) → same_bool s s ≡ true
one_sign true = refl
one_sign false = refl

other_way : (m n : ℕ) → (m == n) ≡ (n == m)
other_way m n = by (m == n) (n == m) refl refl
  where
    by : (a b : Bool) → (m == n) ≡ a → (n == m) ≡ b → a ≡ b
    by true true e f = refl
    by true false e f = sym (sym f ∙ (Decides-eqb n m).1 (sym ((Decides-eqb m n).0 e)))
    by false true e f = sym e ∙ (Decides-eqb m n).1 (sym ((Decides-eqb n m).0 f))
    by false false e f = refl

-- values of one kind are equal as their words are
same_words : (kind : BitKind) (m n : ℕ) → same_value (of_kind kind m) (of_kind kind n) ≡ (n == m)
same_words kind m n =
    ap (λ (f : DslxValue → Bool). f (of_kind kind n)) (ap same_value (sym (rolls.rolls-Bits kind.signed (word kind.width m))) ∙ fold-roll-DslxValue (DslxValue → Bool) same_value_step (DslxValue-F.Bits kind.signed (word kind.width m)))
    ∙ ap (bits_same kind.signed (word kind.width m)) (views.outs-Bits kind.signed (word kind.width n))
    ∙ ap (λ b. b && ((kind.width == kind.width) && (m == n))) (one_sign kind.signed) ∙ ap (λ b. b && (m == n)) (itself kind.width) ∙ other_way m n

-- ---- values one before another

pub no_value : {S : Type 0} (kind : BitKind) (words : HashSet ℕ S) (v : Option DslxValue) → v ≡ None → NotesValue kind words words v false
no_value kind words v e = subst (λ (o : Option DslxValue). NotesValue kind words words o false) (sym e) (record { holds = λ rest h. h; is = λ rest h. refl })

pub one_value : {S : Type 0} {old new : HashSet ℕ S} {is_double : Bool} (kind : BitKind) (w : ℕ) (o : Option DslxValue) (v : DslxValue) → o ≡ Some v → IsOfKind kind w v → NotesWord old new w is_double
    → NotesValue kind old new o is_double
one_value {S} {old} {new} {is_double} kind w o v e is noted =
    subst (λ (q : Option DslxValue). NotesValue kind old new q is_double) (sym (e ∙ ap Some is)) (record {
      holds = λ rest h n. noted.has n ∙ (λ i. (w == n) || h n i) ∙ ap (λ b. b || is_among_values (of_kind kind n) rest) (sym (same_words kind n w));
      is = λ rest h. noted.is ∙ h w;
    })

equal_first : (v : Option DslxValue) (rest : List (Option DslxValue)) → has_equal_values (v ∷ rest) ≡ (is_double_of v rest || has_equal_values rest)
equal_first None rest = refl
equal_first (Some v) rest = refl

-- two of the last ones are two of all
equal_behind : (k : ℕ) (vs : List (Option DslxValue)) → has_equal_values (drop k vs) ≡ true → has_equal_values vs ≡ true
equal_behind zero vs e = e
equal_behind (suc k) [] e = e
equal_behind (suc k) (v ∷ vs) e = equal_first v vs ∙ ap (λ b. is_double_of v vs || b) (equal_behind k vs e) ∙ by (is_double_of v vs)
  where
    by : (b : Bool) → (b || true) ≡ true
    by true = refl
    by false = refl

-- the last so many values: no two are equal, and their words are noted
pub record AreApart {S : Type 0} (kind : BitKind) (words : HashSet ℕ S) (values : List (Option DslxValue)) : Type 0 where
  pub apart : has_equal_values values ≡ false
  pub holds : HoldsWords kind words values

-- one value more from the end
from_end : (values : List (Option DslxValue)) (count i m : ℕ) (v : Option DslxValue) → count ≡ length values → i < count → m ≡ count - 1 - i → v ≡ get_or values m v → drop m values ≡ v ∷ drop (count - i) values
from_end values count i m v long within at is =
    let next : m + 1 ≡ count - i = omega (arith, long, within, at) in
    drop_more values m v (omega (arith, long, within, at)) ∙ (λ j. sym is j ∷ drop (next j) values)

pub one_apart : {S : Type 0} {old new : HashSet ℕ S} {is_double : Bool} (kind : BitKind) (values : List (Option DslxValue)) (count i m : ℕ) (v : Option DslxValue) → count ≡ length values → i < count → m ≡ count - 1 - i → v ≡ get_or values m v
    → AreApart kind old (drop (count - i) values) → NotesValue kind old new v is_double → is_double ≡ false → AreApart kind new (drop (count - (i + 1)) values)
one_apart {S} {old} {new} {is_double} kind values count i m v long within at is g noted once =
    let rest = drop (count - i) values in
    let here : m ≡ count - (i + 1) = omega (arith, within, at) in
    let cut : drop (count - (i + 1)) values ≡ v ∷ rest = ap (λ k. drop k values) (sym here) ∙ from_end values count i m v long within at is in
    subst (AreApart kind new) (sym cut) (record {
      apart = equal_first v rest ∙ (λ j. (sym (noted.is rest g.holds) ∙ once) j || g.apart j);
      holds = noted.holds rest g.holds;
    })

pub one_double : {S : Type 0} {old new : HashSet ℕ S} {is_double : Bool} (kind : BitKind) (values : List (Option DslxValue)) (count i m : ℕ) (v : Option DslxValue) → count ≡ length values → i < count → m ≡ count - 1 - i → v ≡ get_or values m v
    → AreApart kind old (drop (count - i) values) → NotesValue kind old new v is_double → is_double ≡ true → true ≡ has_equal_values values
one_double {S} {old} {new} {is_double} kind values count i m v long within at is g noted twice =
    let rest = drop (count - i) values in
    sym (equal_behind m values (ap has_equal_values (from_end values count i m v long within at is) ∙ equal_first v rest ∙ ap (λ b. b || has_equal_values rest) (sym (noted.is rest g.holds) ∙ twice)))
