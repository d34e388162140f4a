-- What is put for operations on words.
use Rattle.std.proofs.Common.{◌≡◌, ℕ, ◌+◌, ◌≤◌, Bool, true, false, not, ◌==◌, List, Option, Some, refl, sym, ap, ap₂, subst, ◌∙◌, arith, []}
use Rattle.std.specs.Prelude.{nat_le}
use Rattle.std.specs.Ordering.{nat_cmp}
use Rattle.std.specs.declared.cmp.Ordering.{Ordering}
use Rattle.std.specs.declared.cmp.Ordering.TheVariants.{Less, Equal, Greater}
use Rattle.std.proofs.lemmas.Bool.Decides.{nat_tests}
use Rattle.xb_bits.specs.Word.{Word, word}
use Rattle.xb_bits.specs.Operations as op
use Rattle.xb_value.specs.declared.ty.Ty.{Ty}
use Rattle.xb_value.specs.declared.ty.Ty as ty
use Rattle.xb_value.specs.declared.value.Value.{Value}
use Rattle.xb_value.specs.declared.value.Value as value
use Rattle.xb_value.specs.declared.value.Value.TheViews.{outs-Bits}
use Rattle.net_core.specs.Behavior.{IsWordOf}
use Rattle.delay_model.specs.declared.op.Compare.TheVariants as compare
use Rattle.delay_model.specs.declared.op.Extend.{Extend}
use Rattle.delay_model.specs.declared.op.Shift.{Shift}
use Rattle.ir_tree.specs.declared.ir_type.IrType.{IrType, Bits}
use Rattle.ir_tree.specs.declared.node.Operand.{Operand}
use Rattle.ir_tree.specs.NodeValues.{operand_value}
use Rattle.ir_tree.specs.Operations.{holds, bit, is_equal}
use Rattle.ir_tree.specs.Operations as ir
use Rattle.ir_tree.proofs.Lemmas.Rules.Typed.Scopes.{on_word-Bits, on_words-Bits}
use Rattle.ir_rebuild.specs.Built.{AreValues}
use Rattle.ir_rebuild.specs.declared.putting.nodes.Nodes.{Nodes}
use Rattle.ir_rebuild.specs.Putting.Types.{ir_type_of}
use Rattle.ir_rebuild.specs.Putting.Words.{Reading, word_by, words_by, resized}
use Rattle.ir_rebuild.specs.Putting.Given.{IsBuilt, HasType, GrowsTo, GivesValue}
use Rattle.ir_rebuild.proofs.Lemmas.Putting.{grows_twice, values_earlier, has_later, operand_word, gives_as}
use Rattle.ir_rebuild.proofs.Lemmas.Putting.Types.{type-Bits}
use Rattle.dslx_meaning.specs.Lists.{and_then, with_both, where_true}
use Rattle.dslx_meaning.specs.Operators as source
use Rattle.dslx_core.specs.declared.expr.Sign.{Sign}
use Rattle.dslx_core.specs.declared.expr.Sign.TheVariants.{Unsigned, Signed}
use Rattle.dslx_core.specs.declared.expr.CoreUnary.{CoreUnary}
use Rattle.dslx_core.specs.declared.expr.CoreBinary.{CoreBinary}
use Rattle.dslx_core.specs.CoreValues.{word_step, word_of_value, unary_word, where_alike, one_bit, order_read, shift_read, binary_words, is_signed_read, is_width}
use Rattle.dslx_core.specs.Types.Typing.{unary_type, binary_type}
use Rattle.dslx_core.proofs.Lemmas.Types.{where_so}
use Rattle.ir_lower_nodes.specs.Words.Given.{MayRead, word_read, words_read, LoweredTo}
use Rattle.ir_lower_nodes.specs.Words.Signs.{right, less, not_less}

-- ---- what is lowered

-- the same read otherwise
pub lowers_as : (old new : Nodes) (o : Operand) (t : Ty) (f g : MayRead) → ((s : Value) (values : List Value) → AreValues old.state old.list.items s values → g s values ≡ f s values) → LoweredTo old new o t f → LoweredTo old new o t g
lowers_as old new o t f g e h = record {
  grows = h.grows;
  has = h.has;
  value = λ s values v. e s values (values_earlier old new h.grows s values v) ∙ h.value s values v;
}

-- one that is put behind others
pub lowers_behind : (a b c : Nodes) (o : Operand) (t : Ty) (f : MayRead) → GrowsTo a b → LoweredTo b c o t f → LoweredTo a c o t f
lowers_behind a b c o t f g h = record { grows = grows_twice a b c g h.grows; has = h.has; value = h.value }

-- a value that is always there
pub lowers_value : (old new : Nodes) (o : Operand) (t : Ty) (u : IrType) (f : Reading) (g : MayRead) → ir_type_of t ≡ u → ((s : Value) (values : List Value) → AreValues old.state old.list.items s values → g s values ≡ Some (f s values)) → GivesValue old new o u f → LoweredTo old new o t g
lowers_value old new o t u f g same e h = record {
  grows = h.grows;
  has = subst (HasType new o) (sym same) h.has;
  value = λ s values v. e s values (values_earlier old new h.grows s values v) ∙ ap Some (sym (h.value s values v));
}

-- more nodes change nothing
pub lowered_later : (a b c : Nodes) (o : Operand) (t : Ty) (f : MayRead) → LoweredTo a b o t f → GrowsTo b c → LoweredTo a c o t f
lowered_later a b c o t f h g = record {
  grows = grows_twice a b c h.grows g;
  has = has_later b c o (ir_type_of t) g h.has;
  value = λ s values v. h.value s values (values_earlier b c g s values v);
}

pub number_type : (nodes : Nodes) (o : Operand) (t : Ty) (w : ℕ) → t ≡ ty.Bits w → HasType nodes o (ir_type_of t) → HasType nodes o (Bits w [])
number_type nodes o t w e h = subst (HasType nodes o) (ap ir_type_of e ∙ type-Bits w) h

-- ---- words of operands

pub read_word : (v : Value) (x : Word) → v ≡ value.Bits x → word_of_value v ≡ Some x
read_word v x e = ap word_of_value e ∙ ap word_step (outs-Bits x)

pub from_word : (old new : Nodes) (a o : Operand) (v : ℕ) (t : Ty) (u : IrType) (g : Word → Word) (f : Word → Option Value) → ir_type_of t ≡ u → HasType old a (Bits v []) → ((x : Word) → IsWordOf v x → f x ≡ Some (value.Bits (g x))) → GivesValue old new o u (word_by g a) → LoweredTo old new o t (word_read f a)
from_word old new a o v t u g f same h e given =
    lowers_value old new o t u (word_by g a) (word_read f a) same
    (λ s values before.
    let x = operand_word old a v h s values before in
    ap (λ p. and_then p f) (read_word (operand_value s values a) x.word x.is)
    ∙ (e x.word x.of ∙ ap Some (sym (on_word-Bits (λ y. value.Bits (g y)) (operand_value s values a) x.word x.is))))
    given

pub from_words : (old new : Nodes) (a b o : Operand) (v w : ℕ) (t : Ty) (u : IrType) (g : Word → Word → Word) (f : Word → Word → Option Value) → ir_type_of t ≡ u → HasType old a (Bits v []) → HasType old b (Bits w []) → ((x y : Word) → IsWordOf v x → IsWordOf w y → f x y ≡ Some (value.Bits (g x y))) → GivesValue old new o u (words_by g a b) → LoweredTo old new o t (words_read f a b)
from_words old new a b o v w t u g f same h k e given =
    lowers_value old new o t u (words_by g a b) (words_read f a b) same
    (λ s values before.
    let x = operand_word old a v h s values before in
    let y = operand_word old b w k s values before in
    ap₂ (λ p q. with_both p q f) (read_word (operand_value s values a) x.word x.is) (read_word (operand_value s values b) y.word y.is)
    ∙ (e x.word y.word x.of y.of ∙ ap Some (sym (on_words-Bits (λ i j. value.Bits (g i j)) (operand_value s values a) (operand_value s values b) x.word y.word x.is y.is))))
    given

-- ---- one word

pub unary_put : (old new : Nodes) (k : CoreUnary) (a o : Operand) (g : Word → Word) (n : ℕ → ℕ) → ((w : ℕ) → unary_type k w ≡ ty.Bits (n w)) → ((x : Word) → unary_word k x ≡ g x)
    → ((w : ℕ) → IsBuilt old → HasType old a (Bits w []) → GivesValue old new o (Bits (n w) []) (word_by g a))
    → (w : ℕ) → IsBuilt old → HasType old a (Bits w []) → LoweredTo old new o (unary_type k w) (word_read (λ x. Some (value.Bits (unary_word k x))) a)
unary_put old new k a o g n t e call w built h =
    from_word old new a o w (unary_type k w) (Bits (n w) []) g (λ x. Some (value.Bits (unary_word k x))) (ap ir_type_of (t w) ∙ type-Bits (n w)) h (λ x i. ap (λ y. Some (value.Bits y)) (e x)) (call w built h)

-- ---- two words

number_same : (n m : ℕ) → (n == m) ≡ true → n ≡ m
number_same n m h = grind (arith, nat_tests, h)

record IsIf (b : Bool) (s t : Ty) : Type 0 where
  test : b ≡ true
  same : s ≡ t

some_same : (s t : Ty) → Some s ≡ Some t → s ≡ t
some_same s t h = cc

if_there : (b : Bool) (s t : Ty) → where_true b (Some s) ≡ Some t → IsIf b s t
if_there true s t h = record { test = refl; same = some_same s t h }
if_there false s t h = absurd (cc)

alike_words : (v : ℕ) (x y z : Word) → IsWordOf v x → IsWordOf v y → where_alike x y z ≡ Some (value.Bits z)
alike_words v x y z h k =
    let e : x.width ≡ y.width = h.fits ∙ sym k.fits in
    let test : (x.width == y.width) ≡ true = grind (arith, nat_tests, e) in
    where_so (x.width == y.width) (Some (value.Bits z)) test

-- an operation on words of one width, whose result has `n v` bits
pub alike_put : (old new : Nodes) (a b o : Operand) (g : Word → Word → Word) (n : ℕ → ℕ) (f : Word → Word → Option Value) → ((x y : Word) → f x y ≡ where_alike x y (g x y))
    → ((w : ℕ) → IsBuilt old → HasType old a (Bits w []) → HasType old b (Bits w []) → GivesValue old new o (Bits (n w) []) (words_by g a b))
    → (v w : ℕ) (t : Ty) → IsBuilt old → HasType old a (Bits v []) → HasType old b (Bits w []) → where_true (v == w) (Some (ty.Bits (n v))) ≡ Some t → LoweredTo old new o t (words_read f a b)
alike_put old new a b o g n f e call v w t built h k of =
    let found = if_there (v == w) (ty.Bits (n v)) t of in
    let other = subst (λ u. HasType old b (Bits u [])) (sym (number_same v w found.test)) k in
    from_words old new a b o v v t (Bits (n v) []) g f (ap ir_type_of (sym found.same) ∙ type-Bits (n v)) h other (λ x y i j. e x y ∙ alike_words v x y (g x y) i j) (call v built h other)

turned : (old new : Nodes) (a b o : Operand) (u : IrType) (g : Word → Word → Word) (v w : ℕ) → HasType old a (Bits v []) → HasType old b (Bits w []) → GivesValue old new o u (words_by g b a) → GivesValue old new o u (words_by (λ x y. g y x) a b)
turned old new a b o u g v w h k =
    gives_as old new o u (words_by g b a) (words_by (λ x y. g y x) a b)
    (λ s values before.
    let x = operand_word old a v h s values before in
    let y = operand_word old b w k s values before in
    on_words-Bits (λ i j. value.Bits (g i j)) (operand_value s values b) (operand_value s values a) y.word x.word y.is x.is
    ∙ sym (on_words-Bits (λ i j. value.Bits (g j i)) (operand_value s values a) (operand_value s values b) x.word y.word x.is y.is))

-- the same with the operands turned
pub turned_put : (old new : Nodes) (a b o : Operand) (g : Word → Word → Word) (n : ℕ → ℕ) (f : Word → Word → Option Value) → ((x y : Word) → f x y ≡ where_alike x y (g y x))
    → ((w : ℕ) → IsBuilt old → HasType old b (Bits w []) → HasType old a (Bits w []) → GivesValue old new o (Bits (n w) []) (words_by g b a))
    → (v w : ℕ) (t : Ty) → IsBuilt old → HasType old a (Bits v []) → HasType old b (Bits w []) → where_true (v == w) (Some (ty.Bits (n v))) ≡ Some t → LoweredTo old new o t (words_read f a b)
turned_put old new a b o g n f e call =
    alike_put old new a b o (λ x y. g y x) n f e
    (λ w built h k. turned old new a b o (Bits (n w) []) g w w h k (call w built k h))

pub concat_put : (old new : Nodes) (a b o : Operand)
    → ((w v : ℕ) → IsBuilt old → HasType old a (Bits w []) → HasType old b (Bits v []) → w + v ≤ 128 → GivesValue old new o (Bits (w + v) []) (words_by op.concat a b))
    → (v w : ℕ) (t : Ty) → IsBuilt old → HasType old a (Bits v []) → HasType old b (Bits w []) → where_true (nat_le (v + w) 128) (Some (ty.Bits (v + w))) ≡ Some t → LoweredTo old new o t (words_read (λ x y. where_true (nat_le (x.width + y.width) 128) (Some (value.Bits (op.concat x y)))) a b)
concat_put old new a b o call v w t built h k of =
    let found = if_there (nat_le (v + w) 128) (ty.Bits (v + w)) t of in
    let test = found.test in
    let few : v + w ≤ 128 = grind (arith, nat_tests, test) in
    from_words old new a b o v w t (Bits (v + w) []) op.concat (λ x y. where_true (nat_le (x.width + y.width) 128) (Some (value.Bits (op.concat x y)))) (ap ir_type_of (sym found.same) ∙ type-Bits (v + w)) h k
    (λ x y i j. where_so (nat_le (x.width + y.width) 128) (Some (value.Bits (op.concat x y))) (ap₂ (λ m n. nat_le (m + n) 128) i.fits j.fits ∙ test))
    (call v w built h k few)

pub shift_put : (old new : Nodes) (a b o : Operand) (g : Word → Word → Word) (f : Word → Word → Option Value) → ((x y : Word) → f x y ≡ Some (value.Bits (g x y)))
    → ((w k : ℕ) → IsBuilt old → HasType old a (Bits w []) → HasType old b (Bits k []) → GivesValue old new o (Bits w []) (words_by g a b))
    → (v w : ℕ) (t : Ty) → IsBuilt old → HasType old a (Bits v []) → HasType old b (Bits w []) → Some (ty.Bits v) ≡ Some t → LoweredTo old new o t (words_read f a b)
shift_put old new a b o g f e call v w t built h k of =
    from_words old new a b o v w t (Bits v []) g f (ap ir_type_of (sym (some_same (ty.Bits v) t of)) ∙ type-Bits v) h k (λ x y i j. e x y) (call v w built h k)

-- what is put for an operation on two words
abbrev pub BinaryTo : CoreBinary → Nodes → Nodes → Operand → Operand → Operand → Type 0
BinaryTo k old new a b o = (v w : ℕ) (t : Ty) → IsBuilt old → HasType old a (Bits v []) → HasType old b (Bits w []) → binary_type k v w ≡ Some t → LoweredTo old new o t (words_read (binary_words k) a b)

pub right_words : (sign : Sign) (kind : Shift) → kind ≡ right sign → (x y : Word) → Some (value.Bits (shift_read sign x y)) ≡ Some (value.Bits (ir.shift_word kind x y))
right_words sign kind is x y = same sign ∙ ap (λ k. Some (value.Bits (ir.shift_word k x y))) (sym is)
  where
    same : (s : Sign) → Some (value.Bits (shift_read s x y)) ≡ Some (value.Bits (ir.shift_word (right s) x y))
    same Unsigned = refl
    same Signed = refl

-- ---- comparisons

bit_same : (b : Bool) → one_bit b ≡ bit b
bit_same true = refl
bit_same false = refl

less_same : (o : Ordering) → source.is_less o ≡ ir.is_less o
less_same Less = refl
less_same Equal = refl
less_same Greater = refl

equal_same : (n m : ℕ) → (n == m) ≡ is_equal (nat_cmp n m)
equal_same n m = grind (arith, nat_tests)

pub equal_words : (x y : Word) → where_alike x y (one_bit (x.value == y.value)) ≡ where_alike x y (bit (holds compare.Eq x y))
equal_words x y = ap (where_alike x y) (bit_same (x.value == y.value) ∙ ap bit (equal_same x.value y.value))

pub unequal_words : (x y : Word) → where_alike x y (one_bit (not (x.value == y.value))) ≡ where_alike x y (bit (holds compare.Ne x y))
unequal_words x y = ap (where_alike x y) (bit_same (not (x.value == y.value)) ∙ ap (λ b. bit (not b)) (equal_same x.value y.value))

less_bit : (sign : Sign) (x y : Word) → one_bit (source.is_less (order_read sign x y)) ≡ bit (holds (less sign) x y)
less_bit Unsigned x y = bit_same _ ∙ ap bit (less_same (op.cmp_u x y))
less_bit Signed x y = bit_same _ ∙ ap bit (less_same (op.cmp_s x y))

not_less_bit : (sign : Sign) (x y : Word) → one_bit (not (source.is_less (order_read sign x y))) ≡ bit (holds (not_less sign) x y)
not_less_bit Unsigned x y = bit_same _ ∙ ap (λ b. bit (not b)) (less_same (op.cmp_u x y))
not_less_bit Signed x y = bit_same _ ∙ ap (λ b. bit (not b)) (less_same (op.cmp_s x y))

pub less_words : (sign : Sign) (x y i j : Word) → where_alike i j (one_bit (source.is_less (order_read sign x y))) ≡ where_alike i j (bit (holds (less sign) x y))
less_words sign x y i j = ap (where_alike i j) (less_bit sign x y)

pub not_less_words : (sign : Sign) (x y i j : Word) → where_alike i j (one_bit (not (source.is_less (order_read sign x y)))) ≡ where_alike i j (bit (holds (not_less sign) x y))
not_less_words sign x y i j = ap (where_alike i j) (not_less_bit sign x y)

-- ---- casts

width_bounds : (w : ℕ) → is_width w ≡ true → (1 ≤ w) × (w ≤ 128)
width_bounds w h =
    let some : 1 ≤ w = grind (arith, nat_tests, h) in
    let most : w ≤ 128 = grind (arith, nat_tests, h) in
    (some, most)

pub cast_put : (old new : Nodes) (sign : Sign) (kind : Extend) (a o : Operand) (width w : ℕ) → width ≡ w → ((x : Word) → source.cast_word (is_signed_read sign) w x ≡ resized kind w x)
    → ((v : ℕ) → IsBuilt old → HasType old a (Bits v []) → 1 ≤ width → width ≤ 128 → GivesValue old new o (Bits width []) (word_by (resized kind width) a))
    → (v : ℕ) → IsBuilt old → HasType old a (Bits v []) → is_width w ≡ true → LoweredTo old new o (ty.Bits w) (word_read (λ x. Some (value.Bits (source.cast_word (is_signed_read sign) w x))) a)
cast_put old new sign kind a o width w same e call v built h test =
    let bounds = width_bounds w test in
    from_word old new a o v (ty.Bits w) (Bits w []) (resized kind w) (λ x. Some (value.Bits (source.cast_word (is_signed_read sign) w x))) (type-Bits w) h (λ x i. ap (λ y. Some (value.Bits y)) (e x))
    (subst (λ n. GivesValue old new o (Bits n []) (word_by (resized kind n) a)) same
    (call v built h (subst (λ n. 1 ≤ n) (sym same) bounds.0) (subst (λ n. n ≤ 128) (sym same) bounds.1)))
