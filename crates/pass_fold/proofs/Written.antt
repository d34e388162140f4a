-- The constant that writes a value of a type is one of the type, and gives the value back.
use Rattle.std.proofs.Common.{◌≡◌, ℕ, suc, ◌<◌, ◌^◌, min, List, [], ◌∷◌, map, length, Bool, true, false, ◌&&◌, refl, sym, ap, ap₂, subst, ◌∙◌, arith, IsTrue}
use Rattle.std.specs.Prelude.{nat_le, nat_lt, nat_eq}
use Rattle.std.specs.List.{list_all}
use Rattle.std.proofs.lemmas.Bool.Decides.{nat_tests}
use Rattle.xb_bits.specs.Word.{Word, word}
use Rattle.xb_value.specs.declared.ty.Ty.{Ty}
use Rattle.xb_value.specs.declared.ty.Ty as ty
use Rattle.xb_value.specs.declared.value.Value.{Value}
use Rattle.xb_value.specs.declared.value.Value as value
use Rattle.xb_value.specs.Typing.{IsOfType, fits, each_passes}
use Rattle.xb_value.proofs.Lemmas.Types.{EachHas, ty_induction}
use Rattle.xb_value.proofs.Lemmas.Types as types
use Rattle.xb_value.proofs.Lemmas.Values as values
use Rattle.xb_value.proofs.Lemmas.Typing.{bits_of_type, tuple_of_type, array_of_type}
use Rattle.ir_tree.specs.declared.constant.Constant.{Constant, out-Constant, Number, Tuple, Array}
use Rattle.ir_tree.specs.declared.constant.Constant.TheOpen.{Constant-F}
use Rattle.ir_tree.specs.declared.constant.Constant.TheViews.{outs-Number, outs-Tuple, outs-Array}
use Rattle.ir_tree.specs.Constants.{bits_where, each_read, number_read, tuple_read, array_read, read_step, constant_value}
use Rattle.ir_tree.specs.NodeTypes.Constants.{number_fits, each_fits, tuple_fits, array_fits, constant_fits}
use Rattle.ir_tree.proofs.Lemmas.NodeTypes.ConstantCases.{fits-Bits, fits-Tuple, fits-Array}
use Rattle.pass_fold.specs.Constants.{constant_step, constant_of}

both : (a b : Bool) → a && b ≡ true → (a ≡ true) × (b ≡ true)
both true true h = (refl, refl)
both true false h = absurd (cc)
both false b h = absurd (cc)

and_both : (a b : Bool) → a ≡ true → b ≡ true → a && b ≡ true
and_both true b h k = k
and_both false b h k = absurd (cc)

-- ---- what a constant gives

reads-Bits : (w : ℕ) (c : Constant) → constant_value (ty.Bits w) c ≡ number_read w (out-Constant c)
reads-Bits w c = ap (λ (f : Constant → Value). f c) (types.fold-Bits (Constant → Value) read_step w)

reads-Tuple : (ts : List Ty) (c : Constant) → constant_value (ty.Tuple ts) c ≡ tuple_read (map constant_value ts) (out-Constant c)
reads-Tuple ts c = ap (λ (f : Constant → Value). f c) (types.fold-Tuple (Constant → Value) read_step ts)

reads-Array : (t : Ty) (n : ℕ) (c : Constant) → constant_value (ty.Array t n) c ≡ array_read (constant_value t) (out-Constant c)
reads-Array t n c = ap (λ (f : Constant → Value). f c) (types.fold-Array (Constant → Value) read_step t n)

-- ---- both ways

pub record IsWritten (t : Ty) (v : Value) : Type 0 where
  pub own : constant_fits t (constant_of v) ≡ true
  pub back : constant_value t (constant_of v) ≡ v

abbrev Writes : Ty → Type 0
Writes t = (v : Value) → IsOfType t v → IsWritten t v

there : (b : Bool) (x : Word) → b ≡ true → bits_where b x ≡ value.Bits x
there true x h = refl
there false x h = absurd (cc)

same_word : (w : ℕ) (x : Word) → x.width ≡ w → word w x.value ≡ x
same_word w x e = λ i. record { width = sym e i; value = x.value }

bits_written : (w : ℕ) → Writes (ty.Bits w)
bits_written w v h =
    let b = bits_of_type w v h in
    let c : constant_of v ≡ Number b.word.value = ap constant_of b.is ∙ values.fold-Bits Constant constant_step b.word in
    let out : out-Constant (constant_of v) ≡ Constant-F.Number b.word.value = ap out-Constant c ∙ outs-Number b.word.value in
    let some = b.some_width in
    let most = b.most_width in
    let range = b.in_range in
    let whole : min w 128 ≡ w = omega (arith, most) in
    let capped : b.word.value < 2 ^ min w 128 = subst (λ k. b.word.value < 2 ^ k) (sym whole) range in
    let test : nat_lt b.word.value (2 ^ min w 128) ≡ true = grind (arith, nat_tests, capped) in
    let one : nat_le 1 w ≡ true = grind (arith, nat_tests, some) in
    let two : nat_le w 128 ≡ true = grind (arith, nat_tests, most) in
    let three : nat_lt b.word.value (2 ^ w) ≡ true = grind (arith, nat_tests, range) in
    record {
      own = fits-Bits w (constant_of v) ∙ ap (number_fits w) out ∙ test;
      back = reads-Bits w (constant_of v) ∙ ap (number_read w) out
          ∙ there (nat_le 1 w && (nat_le w 128 && nat_lt b.word.value (2 ^ w))) (word w b.word.value)
          (and_both (nat_le 1 w) _ one (and_both (nat_le w 128) _ two three))
          ∙ ap value.Bits (same_word w b.word b.width)
          ∙ sym b.is;
    }

record AreWritten (ts : List Ty) (vs : List Value) : Type 0 where
  own : each_fits (map constant_fits ts) (map constant_of vs) ≡ true
  back : each_read (map constant_value ts) (map constant_of vs) ≡ vs

each_written : (ts : List Ty) → EachHas Writes ts → (vs : List Value) → IsTrue (each_passes (map fits ts) vs) → AreWritten ts vs
each_written [] h [] k = record { own = refl; back = refl }
each_written [] h (v ∷ vs) k = absurd (cc)
each_written (t ∷ ts) h [] k = absurd (cc)
each_written (t ∷ ts) h (v ∷ vs) k =
    let parts = both (fits t v) (each_passes (map fits ts) vs) k in
    let one = h.0 v parts.0 in
    let rest = each_written ts h.1 vs parts.1 in
    record { own = and_both _ _ one.own rest.own; back = ap₂ (λ x xs. x ∷ xs) one.back rest.back }

tuple_written : (ts : List Ty) → EachHas Writes ts → Writes (ty.Tuple ts)
tuple_written ts each v h =
    let b = tuple_of_type ts v h in
    let all = each_written ts each b.parts b.each in
    let c : constant_of v ≡ Tuple (map constant_of b.parts) = ap constant_of b.is ∙ values.fold-Tuple Constant constant_step b.parts in
    let out : out-Constant (constant_of v) ≡ Constant-F.Tuple (map constant_of b.parts) = ap out-Constant c ∙ outs-Tuple (map constant_of b.parts) in
    record {
      own = fits-Tuple ts (constant_of v) ∙ ap (tuple_fits (map constant_fits ts)) out ∙ all.own;
      back = reads-Tuple ts (constant_of v) ∙ ap (tuple_read (map constant_value ts)) out ∙ ap value.Tuple all.back ∙ sym b.is;
    }

record AllWritten (t : Ty) (vs : List Value) : Type 0 where
  own : list_all (constant_fits t) (map constant_of vs) ≡ true
  back : map (constant_value t) (map constant_of vs) ≡ vs
  count : length (map constant_of vs) ≡ length vs

all_written : (t : Ty) → Writes t → (vs : List Value) → list_all (fits t) vs ≡ true → AllWritten t vs
all_written t h [] k = record { own = refl; back = refl; count = refl }
all_written t h (v ∷ vs) k =
    let parts = both (fits t v) (list_all (fits t) vs) k in
    let one = h v parts.0 in
    let rest = all_written t h vs parts.1 in
    record { own = and_both _ _ one.own rest.own; back = ap₂ (λ x xs. x ∷ xs) one.back rest.back; count = ap suc rest.count }

array_written : (t : Ty) (n : ℕ) → Writes t → Writes (ty.Array t n)
array_written t n one v h =
    let b = array_of_type t n v h in
    let all = all_written t one b.parts b.all in
    let c : constant_of v ≡ Array (map constant_of b.parts) = ap constant_of b.is ∙ values.fold-Array Constant constant_step b.parts in
    let out : out-Constant (constant_of v) ≡ Constant-F.Array (map constant_of b.parts) = ap out-Constant c ∙ outs-Array (map constant_of b.parts) in
    let count : length (map constant_of b.parts) ≡ n = all.count ∙ b.count in
    let same : nat_eq (length (map constant_of b.parts)) n ≡ true = grind (arith, nat_tests, count) in
    record {
      own = fits-Array t n (constant_of v) ∙ ap (array_fits (constant_fits t) n) out ∙ and_both (nat_eq (length (map constant_of b.parts)) n) _ same all.own;
      back = reads-Array t n (constant_of v) ∙ ap (array_read (constant_value t)) out ∙ ap value.Array all.back ∙ sym b.is;
    }

pub is_written : (t : Ty) (v : Value) → IsOfType t v → IsWritten t v
is_written = ty_induction Writes bits_written tuple_written array_written
