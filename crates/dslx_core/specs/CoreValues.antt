-- The value of an expression of a checked text.
use Rattle.std.specs.Prelude.{ℕ, zero, suc, pred, List, [], ◌∷◌, ◌++◌, ◌+◌, ◌==◌, ◌&&◌, nat_lt, nat_le, min, map, Bool, true, false, not, Option, Some, None, length, slice_get, set, if◌then◌else◌}
use Rattle.std.specs.declared.cmp.Ordering.{Ordering}
use Rattle.xb_bits.specs.Word.{Word, word}
use Rattle.xb_bits.specs.Operations as op
use Rattle.xb_value.specs.declared.value.Value.{Value, Bits, Tuple, Array, out-Value, fold-Value}
use Rattle.xb_value.specs.declared.value.Value.TheOpen.{Value-F}
use Rattle.dslx_meaning.specs.Lists.{all_some, and_then, with_both, or_else, where_true, pairwise}
use Rattle.dslx_meaning.specs.Values.{same_word}
use Rattle.dslx_meaning.specs.Operators.{is_less, cast_word}
use Rattle.dslx_core.specs.declared.expr.Sign.{Sign}
use Rattle.dslx_core.specs.declared.expr.Sign.TheVariants.{Unsigned, Signed}
use Rattle.dslx_core.specs.declared.expr.CoreUnary.{CoreUnary}
use Rattle.dslx_core.specs.declared.expr.CoreUnary.TheVariants as u
use Rattle.dslx_core.specs.declared.expr.CoreBinary.{CoreBinary}
use Rattle.dslx_core.specs.declared.expr.CoreBinary.TheVariants as b
use Rattle.dslx_core.specs.declared.expr.Shape.{Shape, fold-Shape}
use Rattle.dslx_core.specs.declared.expr.Shape.TheOpen.{Shape-F}
use Rattle.dslx_core.specs.declared.expr.CoreExpr.{CoreExpr, fold-CoreExpr}
use Rattle.dslx_core.specs.declared.expr.CoreExpr.TheOpen.{CoreExpr-F}
use Rattle.dslx_core.specs.declared.expr.Arm.{Arm-F}

-- the values that are bound, the first one first
abbrev pub Bindings : Type 0
Bindings = List Value

-- what the functions of these numbers give for their operands
abbrev pub Functions : Type 0
Functions = ℕ → List Value → Option Value

-- ---- words

abbrev pub word_step : Value-F Value → Option Word
word_step (Value-F.Bits w) = Some w
word_step _ = None

abbrev pub word_of_value : Value → Option Word
word_of_value v = word_step (out-Value v)

abbrev pub array_values_step : Value-F Value → Option (List Value)
array_values_step (Value-F.Array vs) = Some vs
array_values_step _ = None

abbrev pub tuple_values_step : Value-F Value → Option (List Value)
tuple_values_step (Value-F.Tuple vs) = Some vs
tuple_values_step _ = None

abbrev pub unary_word : CoreUnary → Word → Word
unary_word u.Neg x = op.neg x
unary_word u.Not x = op.not x
unary_word u.Clz x = op.clz x
unary_word u.Ctz x = op.ctz x
unary_word u.Rev x = op.rev x
unary_word u.AndReduce x = op.and_reduce x
unary_word u.OrReduce x = op.or_reduce x
unary_word u.XorReduce x = op.xor_reduce x

-- a word has 1 to 128 bits
abbrev pub is_width : ℕ → Bool
is_width w = nat_lt 0 w && nat_le w 128

-- words of one width
abbrev pub where_alike : Word → Word → Word → Option Value
where_alike x y z = where_true (x.width == y.width) (Some (Bits z))

abbrev pub one_bit : Bool → Word
one_bit true = word 1 1
one_bit false = word 1 0

abbrev pub order_read : Sign → Word → Word → Ordering
order_read Unsigned x y = op.cmp_u x y
order_read Signed x y = op.cmp_s x y

abbrev pub shift_read : Sign → Word → Word → Word
shift_read Unsigned x k = op.shrl x k
shift_read Signed x k = op.shra x k

abbrev pub binary_words : CoreBinary → Word → Word → Option Value
binary_words b.Mul x y = where_alike x y (op.mul x y)
binary_words b.Div x y = where_alike x y (op.udiv x y)
binary_words b.Rem x y = where_alike x y (op.umod x y)
binary_words b.Add x y = where_alike x y (op.add x y)
binary_words b.Sub x y = where_alike x y (op.sub x y)
binary_words b.Concat x y = where_true (nat_le (x.width + y.width) 128) (Some (Bits (op.concat x y)))
binary_words b.Shl x y = Some (Bits (op.shll x y))
binary_words (b.Shr sign) x y = Some (Bits (shift_read sign x y))
binary_words b.And x y = where_alike x y (op.and x y)
binary_words b.Xor x y = where_alike x y (op.xor x y)
binary_words b.Or x y = where_alike x y (op.or x y)
binary_words b.Eq x y = where_alike x y (one_bit (x.value == y.value))
binary_words b.Ne x y = where_alike x y (one_bit (not (x.value == y.value)))
binary_words (b.Lt sign) x y = where_alike x y (one_bit (is_less (order_read sign x y)))
binary_words (b.Le sign) x y = where_alike x y (one_bit (not (is_less (order_read sign y x))))
binary_words (b.Gt sign) x y = where_alike x y (one_bit (is_less (order_read sign y x)))
binary_words (b.Ge sign) x y = where_alike x y (one_bit (not (is_less (order_read sign x y))))

abbrev pub is_signed_read : Sign → Bool
is_signed_read Unsigned = false
is_signed_read Signed = true

abbrev pub is_one : Word → Option Bool
is_one w = where_true (w.width == 1) (Some (w.value == 1))

-- ---- equal values, and patterns

abbrev pub bits_like : Word → Value-F Value → Bool
bits_like w (Value-F.Bits x) = same_word w x
bits_like w _ = false

abbrev pub tuple_like : List (Value → Bool) → Value-F Value → Bool
tuple_like ps (Value-F.Tuple vs) = pairwise (λ p v. p v) ps vs
tuple_like ps _ = false

abbrev pub array_like : List (Value → Bool) → Value-F Value → Bool
array_like ps (Value-F.Array vs) = pairwise (λ p v. p v) ps vs
array_like ps _ = false

abbrev pub like_step : Value-F (Value → Bool) → Value → Bool
like_step (Value-F.Bits w) v = bits_like w (out-Value v)
like_step (Value-F.Tuple ps) v = tuple_like ps (out-Value v)
like_step (Value-F.Array ps) v = array_like ps (out-Value v)

abbrev pub is_like : Value → Value → Bool
is_like = fold-Value (Value → Bool) like_step

-- what is bound behind a value that was taken apart, unless it doesn't fit
abbrev pub TakesApart : Type 0
TakesApart = Value → Bindings → Option Bindings

abbrev pub apart_each : List TakesApart → List Value → Bindings → Option Bindings
apart_each [] [] bound = Some bound
apart_each (p ∷ ps) (v ∷ vs) bound = and_then (p v bound) (apart_each ps vs)
apart_each [] (v ∷ vs) bound = None
apart_each (p ∷ ps) [] bound = None

abbrev pub shape_step : Shape-F TakesApart → TakesApart
shape_step Shape-F.Wild v bound = Some bound
shape_step Shape-F.Bound v bound = Some (bound ++ v ∷ [])
shape_step (Shape-F.Equal w) v bound = if is_like w v then Some bound else None
shape_step (Shape-F.Tuple ps) v bound = and_then (tuple_values_step (out-Value v)) (λ vs. apart_each ps vs bound)

abbrev pub taken_apart : Shape → TakesApart
taken_apart = fold-Shape TakesApart shape_step

abbrev pub first_apart : List Shape → TakesApart
first_apart [] v bound = None
first_apart (p ∷ ps) v bound = or_else (taken_apart p v bound) (first_apart ps v bound)

-- ---- expressions

-- what has a value, by what functions give and what is bound
abbrev pub CoreDen : Type 0
CoreDen = Functions → Bindings → Option Value

pub record CoreArmDen : Type 0 where
  pub shapes : List Shape
  pub value : CoreDen

abbrev pub values_in : List CoreDen → Functions → Bindings → Option (List Value)
values_in es calls bound = all_some (map (λ (e : CoreDen). e calls bound) es)

abbrev pub word_in : CoreDen → Functions → Bindings → Option Word
word_in e calls bound = and_then (e calls bound) word_of_value

abbrev pub array_in : CoreDen → Functions → Bindings → Option (List Value)
array_in e calls bound = and_then (e calls bound) (λ v. array_values_step (out-Value v))

abbrev pub chosen : Option Bool → Option Value → Option Value → Option Value
chosen None a c = None
chosen (Some true) a c = a
chosen (Some false) a c = c

abbrev pub arm_or : Functions → CoreDen → Option Bindings → Option Value → Option Value
arm_or calls value None rest = rest
arm_or calls value (Some bound) rest = value calls bound

-- the first arm that fits, else the last one
abbrev pub select : List CoreArmDen → Value → Functions → Bindings → Option Value
select [] v calls bound = None
select (a ∷ []) v calls bound = arm_or calls a.value (first_apart a.shapes v bound) (a.value calls bound)
select (a ∷ c ∷ as') v calls bound = arm_or calls a.value (first_apart a.shapes v bound) (select (c ∷ as') v calls bound)

abbrev pub turns : (Value → Value → Option Value) → ℕ → Word → Value → Option Value
turns body zero i acc = Some acc
turns body (suc n) i acc = and_then (body (Bits i) acc) (turns body n (op.add i (word i.width 1)))

abbrev pub one_turn : Shape → Shape → CoreDen → Functions → Bindings → Value → Value → Option Value
one_turn index acc body calls bound i a = and_then (taken_apart index i bound) (λ inner. and_then (taken_apart acc a inner) (body calls))

abbrev pub core_step : CoreExpr-F CoreDen CoreArmDen → CoreDen
core_step (CoreExpr-F.Literal v) calls bound = Some v
core_step (CoreExpr-F.Slot k) calls bound = slice_get bound k
core_step (CoreExpr-F.Tuple es) calls bound = and_then (values_in es calls bound) (λ vs. Some (Tuple vs))
core_step (CoreExpr-F.Array es) calls bound = and_then (values_in es calls bound) (λ vs. Some (Array vs))
core_step (CoreExpr-F.Unary o e) calls bound = and_then (word_in e calls bound) (λ w. Some (Bits (unary_word o w)))
core_step (CoreExpr-F.Binary o l r) calls bound = with_both (word_in l calls bound) (word_in r calls bound) (binary_words o)
core_step (CoreExpr-F.Cast sign w e) calls bound = and_then (word_in e calls bound) (λ x. where_true (is_width w) (Some (Bits (cast_word (is_signed_read sign) w x))))
core_step (CoreExpr-F.Slice e from w) calls bound = and_then (word_in e calls bound) (λ x. where_true (nat_lt 0 w && nat_le (from + w) x.width) (Some (Bits (op.slice x from w))))
core_step (CoreExpr-F.Part e i w) calls bound = with_both (word_in e calls bound) (word_in i calls bound) (λ x k. where_true (is_width w) (Some (Bits (op.dyn_slice x k w))))
core_step (CoreExpr-F.Element e k) calls bound = and_then (and_then (e calls bound) (λ v. tuple_values_step (out-Value v))) (λ vs. slice_get vs k)
core_step (CoreExpr-F.Index e i) calls bound = with_both (array_in e calls bound) (word_in i calls bound) (λ vs k. slice_get vs (min k.value (pred (length vs))))
core_step (CoreExpr-F.Update e i v) calls bound =
    and_then (v calls bound) (λ new. with_both (array_in e calls bound) (word_in i calls bound) (λ vs k. Some (Array (if nat_lt k.value (length vs) then set vs k.value new else vs))))
core_step (CoreExpr-F.Bind e shape body) calls bound = and_then (e calls bound) (λ v. and_then (taken_apart shape v bound) (body calls))
core_step (CoreExpr-F.Choose c a d) calls bound = chosen (and_then (word_in c calls bound) is_one) (a calls bound) (d calls bound)
core_step (CoreExpr-F.Select e arms) calls bound = and_then (e calls bound) (λ v. select arms v calls bound)
core_step (CoreExpr-F.Loop n from index acc body start) calls bound = and_then (start calls bound) (turns (one_turn index acc body calls bound) n from)
core_step (CoreExpr-F.Call f es) calls bound = and_then (values_in es calls bound) (calls f)

abbrev pub arm_step : Arm-F CoreDen CoreArmDen → CoreArmDen
arm_step a = record { shapes = a.shapes; value = a.value }

-- the value of an expression, unless it has none
abbrev pub core_value : CoreExpr → CoreDen
core_value = fold-CoreExpr CoreDen CoreArmDen core_step arm_step
