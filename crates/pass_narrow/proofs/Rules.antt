-- What replacements say holds of the nodes that have the patterns.
use Rattle.std.proofs.Common.{◌≡◌, ℕ, ◌+◌, ◌-◌, ◌*◌, ◌%◌, ◌^◌, ◌<◌, ◌≤◌, max, List, [], ◌∷◌, Bool, true, false, Option, Some, None, refl, sym, ap, ap₂, subst, ◌∙◌, arith}
use Rattle.std.specs.Prelude.{nat_eq, nat_le, nat_lt, if◌then◌else◌}
use Rattle.std.proofs.lemmas.Bool.Decides.{nat_tests}
use Rattle.xb_bits.specs.Parts.{slice_bits}
use Rattle.xb_value.specs.declared.value.Value.{Value}
use Rattle.delay_model.specs.declared.op.Binary.{Binary}
use Rattle.delay_model.specs.declared.op.Binary.TheVariants as binary
use Rattle.delay_model.specs.declared.op.Compare.{Compare}
use Rattle.delay_model.specs.declared.op.Compare.TheVariants as compare
use Rattle.delay_model.specs.declared.op.Extend.{Extend}
use Rattle.delay_model.specs.declared.op.Extend.TheVariants as extend
use Rattle.ir_tree.specs.declared.ir_type.IrType.{IrType}
use Rattle.ir_tree.specs.declared.node.Operand.{Operand}
use Rattle.ir_tree.specs.declared.node.Node.{Node}
use Rattle.ir_tree.proofs.Lemmas.Rules.Typed.Tests.{nat_same}
use Rattle.ir_rebuild.specs.Built.{AreBuilt, AreValues, OperandSimulates}
use Rattle.pass_narrow.specs.declared.operands.Part.{Part}
use Rattle.pass_narrow.specs.declared.node_pattern.NodeReplacement.{NodeReplacement}
use Rattle.pass_narrow.specs.declared.node_pattern.NodeReplacement.TheVariants as right
use Rattle.pass_narrow.specs.declared.rewritten_node.LongSlice.{LongSlice}
use Rattle.pass_narrow.specs.Numbers.{number, IsNumber}
use Rattle.pass_narrow.specs.Views.{width_in, extended, sliced, part_of}
use Rattle.pass_narrow.specs.Replacements as sides
use Rattle.pass_narrow.specs.Replacements.{narrower, least_width, is_unsigned, replacement_of}
use Rattle.pass_narrow.specs.Inner.Meant.{IsResult, SaysOfSlice, slice_at, IsExtension, IsOperation, IsComparison, IsSliceOf, IsReplacement, extend_number, binary_number, compare_number}
use Rattle.pass_narrow.specs.Slices.{depth}
use Rattle.pass_narrow.proofs.Arithmetic.{sum_narrows, product_narrows, slice_twice, slice_past, slice_to_end, slice_whole, sign_of_zero, sign_same, sign_twice}
use Rattle.pass_narrow.proofs.Numbers.{operand_bits, number_width, some_bits, stands_of, result_as}
use Rattle.pass_narrow.proofs.Shown.{SaysExtension, SaysOperation, SaysComparison}
use Rattle.pass_narrow.proofs.Views.{none_some, ShowsExtension, shows_extension, ShowsSlice, shows_slice, ShowsPart, shows_part}

less_is : (m n : ℕ) → nat_lt m n ≡ true → m < n
less_is m n h = grind (arith, nat_tests, h)

-- ---- one width, two names

-- two widths of one operand
pub same_number : (state : IrType) (nodes : List Node) (x : Operand) (v w : ℕ) → IsNumber state nodes x v → IsNumber state nodes x w → v ≡ w
same_number state nodes x v w h k = sym (number_width state nodes x v h) ∙ number_width state nodes x w k

-- ---- operations

narrower_is : (m w k : ℕ) (b : Bool) → nat_lt m w ≡ b → (if b then Some m else None) ≡ Some k → (m ≡ k) × (m < w)
narrower_is m w k true e h = (let same : m ≡ k = cc in same, less_is m w e)
narrower_is m w k false e h = none_some _ k h

-- what the operation gives of numbers of p and q bits fits so many bits
record Suffices (o : Binary) (p q w m : ℕ) : Type 0 where
  first : p ≤ m
  second : q ≤ m
  fewer : m < w
  same : (x y : ℕ) → x < 2 ^ p → y < 2 ^ q → binary_number o w x y ≡ binary_number o m x y

sum_suffices : (p q w m : ℕ) → max p q + 1 ≡ m → max p q + 1 < w → Suffices binary.Add p q w m
sum_suffices p q w m e less = record {
  first = omega (arith, e);
  second = omega (arith, e);
  fewer = omega (arith, e, less);
  same = λ x y h k. sym (sum_narrows x y p q w h k (omega (arith, less))) ∙ ap (λ n. (x + y) % 2 ^ n) e;
}

product_suffices : (p q w m : ℕ) → p + q ≡ m → p + q < w → Suffices binary.Umul p q w m
product_suffices p q w m e less = record {
  first = omega (arith, e);
  second = omega (arith, e);
  fewer = omega (arith, e, less);
  same = λ x y h k. sym (product_narrows x y p q w h k (omega (arith, less))) ∙ ap (λ n. (x * y) % 2 ^ n) e;
}

longer_suffices : (o : Binary) (p q w m : ℕ) → ((x y : ℕ) → binary_number o w x y ≡ binary_number o m x y) → max p q ≡ m → max p q < w → Suffices o p q w m
longer_suffices o p q w m same e less = record {
  first = omega (arith, e);
  second = omega (arith, e);
  fewer = omega (arith, e, less);
  same = λ x y h k. same x y;
}

suffices : (o : Binary) (p q w m : ℕ) → least_width o p q w ≡ Some m → Suffices o p q w m
suffices binary.Add p q w m h = let f = narrower_is (max p q + 1) w m (nat_lt (max p q + 1) w) refl h in sum_suffices p q w m f.0 f.1
suffices binary.Umul p q w m h = let f = narrower_is (p + q) w m (nat_lt (p + q) w) refl h in product_suffices p q w m f.0 f.1
suffices binary.And p q w m h = let f = narrower_is (max p q) w m (nat_lt (max p q) w) refl h in longer_suffices binary.And p q w m (λ x y. refl) f.0 f.1
suffices binary.Or p q w m h = let f = narrower_is (max p q) w m (nat_lt (max p q) w) refl h in longer_suffices binary.Or p q w m (λ x y. refl) f.0 f.1
suffices binary.Xor p q w m h = let f = narrower_is (max p q) w m (nat_lt (max p q) w) refl h in longer_suffices binary.Xor p q w m (λ x y. refl) f.0 f.1
suffices binary.Sub p q w m h = none_some _ m h
suffices binary.Udiv p q w m h = none_some _ m h
suffices binary.Umod p q w m h = none_some _ m h

-- an operand under zeros is its own number
zeros_number : (state : IrType) (nodes : List Node) (x a : Operand) (h : ShowsExtension state nodes extend.Zero x a) → (s : Value) (values : List Value) → AreValues state nodes s values → number s values x ≡ number s values a
zeros_number state nodes x a h s values v = h.value s values v

operation_rule : (state : IrType) (nodes : List Node) (n : Node) (o : Binary) (x y a b : Operand) (m : ℕ) → (h : SaysOperation state nodes n o x y) → ShowsExtension state nodes extend.Zero x a → ShowsExtension state nodes extend.Zero y b → least_width o (width_in state nodes a) (width_in state nodes b) h.width ≡ Some m → IsOperation state nodes n o a b m h.width
operation_rule state nodes n o x y a b m h f g e =
    let p = number_width state nodes a f.own f.inner in
    let q = number_width state nodes b g.own g.inner in
    let enough = suffices o f.own g.own h.width m (subst (λ k. least_width o f.own k h.width ≡ Some m) q (subst (λ k. least_width o k (width_in state nodes b) h.width ≡ Some m) p e)) in
    record {
      first = record { own = f.own; is = f.inner; longer = enough.first; most = let less = enough.fewer in let most = h.wide.most in omega arith };
      second = record { own = g.own; is = g.inner; longer = enough.second; most = let less = enough.fewer in let most = h.wide.most in omega arith };
      fewer = enough.fewer;
      most = h.wide.most;
      result =
          result_as state nodes n h.width (λ s values. binary_number o h.width (number s values x) (number s values y)) (λ s values. binary_number o m (number s values a) (number s values b))
          (λ s values v.
          ap₂ (binary_number o h.width) (zeros_number state nodes x a f s values v) (zeros_number state nodes y b g s values v)
          ∙ enough.same (number s values a) (number s values b) (operand_bits state nodes a f.own f.inner s values v).range (operand_bits state nodes b g.own g.inner s values v).range)
          h.result;
    }

operation_if_is : (o : Binary) (a b : Operand) (l : Option ℕ) (r : NodeReplacement) → sides.operation_if o a b l ≡ Some r → (m : ℕ) × (l ≡ Some m) × (right.Operation o a b m ≡ r)
operation_if_is o a b None r h = none_some _ r h
operation_if_is o a b (Some m) r h = (m, refl, let same : right.Operation o a b m ≡ r = cc in same)

pub operation_says : (state : IrType) (nodes : List Node) (n : Node) (o : Binary) (x y : Operand) (r : NodeReplacement) → AreBuilt state nodes → (h : SaysOperation state nodes n o x y) → sides.operation_of state nodes o h.width (x ∷ y ∷ []) ≡ Some r → IsReplacement state nodes n h.width r
operation_says state nodes n o x y r built h e = first (extended nodes extend.Zero x) refl e
  where
    second : (a : Operand) → extended nodes extend.Zero x ≡ Some a → (q : Option Operand) → extended nodes extend.Zero y ≡ q → sides.operation_second state nodes o h.width a q ≡ Some r → IsReplacement state nodes n h.width r
    second a f None g k = none_some _ r k
    second a f (Some b) g k =
        let is = operation_if_is o a b (least_width o (width_in state nodes a) (width_in state nodes b) h.width) r k in
        subst (IsReplacement state nodes n h.width) is.2
        (operation_rule state nodes n o x y a b is.0 h (shows_extension state nodes extend.Zero x a built f) (shows_extension state nodes extend.Zero y b built g) is.1)

    first : (p : Option Operand) → extended nodes extend.Zero x ≡ p → sides.operation_first state nodes o h.width p (extended nodes extend.Zero y) ≡ Some r → IsReplacement state nodes n h.width r
    first None f k = none_some _ r k
    first (Some a) f k = second a f (extended nodes extend.Zero y) refl k

-- ---- comparisons

-- comparisons without signs look at numbers alone
unsigned_same : (o : Compare) (k m x y : ℕ) → is_unsigned o ≡ true → compare_number o k x y ≡ compare_number o m x y
unsigned_same compare.Eq k m x y h = refl
unsigned_same compare.Ne k m x y h = refl
unsigned_same compare.Ult k m x y h = refl
unsigned_same compare.Ule k m x y h = refl
unsigned_same compare.Ugt k m x y h = refl
unsigned_same compare.Uge k m x y h = refl
unsigned_same compare.Slt k m x y h = absurd (cc)
unsigned_same compare.Sle k m x y h = absurd (cc)
unsigned_same compare.Sgt k m x y h = absurd (cc)
unsigned_same compare.Sge k m x y h = absurd (cc)

comparison_rule : (state : IrType) (nodes : List Node) (n : Node) (o : Compare) (x y a b : Operand) (m : ℕ) → (h : SaysComparison state nodes n o x y) → (f : ShowsExtension state nodes extend.Zero x a) → (g : ShowsExtension state nodes extend.Zero y b) → is_unsigned o ≡ true → max f.own g.own ≡ m → m ≤ 128 → IsComparison state nodes n o a b m
comparison_rule state nodes n o x y a b m h f g unsigned e most = record {
  first = record { own = f.own; is = f.inner; longer = omega (arith, e); most = most };
  second = record { own = g.own; is = g.inner; longer = omega (arith, e); most = most };
  result =
      result_as state nodes n 1 (λ s values. compare_number o h.width (number s values x) (number s values y)) (λ s values. compare_number o m (number s values a) (number s values b))
      (λ s values v.
      ap₂ (compare_number o h.width) (zeros_number state nodes x a f s values v) (zeros_number state nodes y b g s values v)
      ∙ unsigned_same o h.width m (number s values a) (number s values b) unsigned)
      h.result;
}

comparison_if_is : (o : Compare) (a b : Operand) (l : Option ℕ) (r : NodeReplacement) → sides.comparison_if o a b l ≡ Some r → (m : ℕ) × (l ≡ Some m) × (right.Comparison o a b m ≡ r)
comparison_if_is o a b None r h = none_some _ r h
comparison_if_is o a b (Some m) r h = (m, refl, let same : right.Comparison o a b m ≡ r = cc in same)

pub comparison_says : (state : IrType) (nodes : List Node) (n : Node) (o : Compare) (x y : Operand) (total : ℕ) (r : NodeReplacement) → AreBuilt state nodes → SaysComparison state nodes n o x y → sides.comparison_of state nodes o (x ∷ y ∷ []) ≡ Some r → IsReplacement state nodes n total r
comparison_says state nodes n o x y total r built h e = first (extended nodes extend.Zero x) refl e
  where
    found : (a b : Operand) → ShowsExtension state nodes extend.Zero x a → ShowsExtension state nodes extend.Zero y b → (c : Bool) → is_unsigned o ≡ c → (if c then (sides.comparison_if o a b (narrower (max (width_in state nodes a) (width_in state nodes b)) (width_in state nodes x))) else None) ≡ Some r → IsReplacement state nodes n total r
    found a b f g false u k = none_some _ r k
    found a b f g true u k =
        let is = comparison_if_is o a b (narrower (max (width_in state nodes a) (width_in state nodes b)) (width_in state nodes x)) r k in
        let m = narrower_is (max (width_in state nodes a) (width_in state nodes b)) (width_in state nodes x) is.0 (nat_lt (max (width_in state nodes a) (width_in state nodes b)) (width_in state nodes x)) refl is.1 in
        let p = number_width state nodes a f.own f.inner in
        let q = number_width state nodes b g.own g.inner in
        let w = number_width state nodes x f.width f.outer in
        let least : max f.own g.own ≡ is.0 = sym (ap₂ max p q) ∙ m.0 in
        let fewer = m.1 in
        let same = m.0 in
        let most = f.most in
        subst (IsReplacement state nodes n total) is.2
        (comparison_rule state nodes n o x y a b is.0 h f g u least (omega (arith, fewer, same, w, most)))

    second : (a : Operand) → extended nodes extend.Zero x ≡ Some a → (q : Option Operand) → extended nodes extend.Zero y ≡ q → sides.comparison_second state nodes o (width_in state nodes x) a q ≡ Some r → IsReplacement state nodes n total r
    second a f None g k = none_some _ r k
    second a f (Some b) g k = found a b (shows_extension state nodes extend.Zero x a built f) (shows_extension state nodes extend.Zero y b built g) (is_unsigned o) refl k

    first : (p : Option Operand) → extended nodes extend.Zero x ≡ p → sides.comparison_first state nodes o (width_in state nodes x) p (extended nodes extend.Zero y) ≡ Some r → IsReplacement state nodes n total r
    first None f k = none_some _ r k
    first (Some a) f k = second a f (extended nodes extend.Zero y) refl k

-- ---- extensions

-- an extension to as many bits changes nothing
same_extension : (kind : Extend) (w x : ℕ) → x < 2 ^ w → extend_number kind w w x ≡ x
same_extension extend.Zero w x h = refl
same_extension extend.Sign w x h = sign_same w x h

-- an extension of an extension
extension_twice : (kind : Extend) (p k w x : ℕ) → 1 ≤ p → p ≤ k → x < 2 ^ p → extend_number kind k w (extend_number kind p k x) ≡ extend_number kind p w x
extension_twice extend.Zero p k w x some longer range = refl
extension_twice extend.Sign p k w x some longer range = sign_twice p k w x some longer range

extension_itself : (state : IrType) (nodes : List Node) (place : ℕ) (n : Node) (kind : Extend) (x : Operand) (w : ℕ) → (h : SaysExtension state nodes place n kind x w) → width_in state nodes x ≡ w → OperandSimulates state nodes n x
extension_itself state nodes place n kind x w h e =
    let same : h.own ≡ w = sym (number_width state nodes x h.own h.is) ∙ e in
    stands_of state nodes n x w (subst (IsNumber state nodes x) same h.is)
    (result_as state nodes n w (λ s values. extend_number kind h.own w (number s values x)) (λ s values. number s values x)
    (λ s values v.
    ap (λ k. extend_number kind k w (number s values x)) same
    ∙ same_extension kind w (number s values x) (subst (λ k. number s values x < 2 ^ k) same (operand_bits state nodes x h.own h.is s values v).range))
    h.result)

longer_rule : (state : IrType) (nodes : List Node) (place : ℕ) (n : Node) (kind : Extend) (x a : Operand) (w : ℕ) → AreBuilt state nodes → SaysExtension state nodes place n kind x w → ShowsExtension state nodes kind x a → IsExtension state nodes n kind a w
longer_rule state nodes place n kind x a w built h f =
    let same = same_number state nodes x h.own f.width h.is f.outer in
    let outer = h.longer in
    let inner = f.longer in
    record {
      own = f.own;
      is = f.inner;
      longer = omega (arith, same, outer, inner);
      most = h.wide.most;
      result =
          result_as state nodes n w (λ s values. extend_number kind h.own w (number s values x)) (λ s values. extend_number kind f.own w (number s values a))
          (λ s values v.
          (λ i. extend_number kind (same i) w (f.value s values v i))
          ∙ extension_twice kind f.own f.width w (number s values a) (some_bits state nodes a f.own built f.inner) inner (operand_bits state nodes a f.own f.inner s values v).range)
          h.result;
    }

-- the sign of a number with zeros before it
sign_rule : (state : IrType) (nodes : List Node) (place : ℕ) (n : Node) (x a : Operand) (w : ℕ) → SaysExtension state nodes place n extend.Sign x w → (f : ShowsExtension state nodes extend.Zero x a) → width_in state nodes a < width_in state nodes x → IsExtension state nodes n extend.Zero a w
sign_rule state nodes place n x a w h f less =
    let same = same_number state nodes x h.own f.width h.is f.outer in
    let outer = h.longer in
    let inner = f.longer in
    let p = number_width state nodes a f.own f.inner in
    let k = number_width state nodes x f.width f.outer in
    let strict : f.own < f.width = omega (arith, p, k, less) in
    record {
      own = f.own;
      is = f.inner;
      longer = omega (arith, same, outer, inner);
      most = h.wide.most;
      result =
          result_as state nodes n w (λ s values. extend_number extend.Sign h.own w (number s values x)) (λ s values. extend_number extend.Zero f.own w (number s values a))
          (λ s values v.
          (λ i. extend_number extend.Sign (same i) w (f.value s values v i))
          ∙ sign_of_zero f.width w f.own (number s values a) (operand_bits state nodes a f.own f.inner s values v).range strict)
          h.result;
    }

pub extension_says : (state : IrType) (nodes : List Node) (place : ℕ) (n : Node) (kind : Extend) (x : Operand) (w : ℕ) (r : NodeReplacement) → AreBuilt state nodes → SaysExtension state nodes place n kind x w → sides.extension_of state nodes kind w (x ∷ []) ≡ Some r → IsReplacement state nodes n w r
extension_says state nodes place n kind x w r built h e = whole (nat_eq (width_in state nodes x) w) refl e
  where
    strict : (a : Operand) → kind ≡ extend.Sign → ShowsExtension state nodes extend.Zero x a → (b : Bool) → nat_lt (width_in state nodes a) (width_in state nodes x) ≡ b → (if b then (Some (right.Extension extend.Zero a)) else None) ≡ Some r → IsReplacement state nodes n w r
    strict a k f false t g = none_some _ r g
    strict a k f true t g =
        let same : right.Extension extend.Zero a ≡ r = cc in
        subst (IsReplacement state nodes n w) same
        (sign_rule state nodes place n x a w (subst (λ z. SaysExtension state nodes place n z x w) k h) f (less_is (width_in state nodes a) (width_in state nodes x) t))

    signed : kind ≡ extend.Sign → (q : Option Operand) → extended nodes extend.Zero x ≡ q → sides.sign_by state nodes x q ≡ Some r → IsReplacement state nodes n w r
    signed k None f g = none_some _ r g
    signed k (Some a) f g = strict a k (shows_extension state nodes extend.Zero x a built f) (nat_lt (width_in state nodes a) (width_in state nodes x)) refl g

    other : (z : Extend) → kind ≡ z → sides.other_extension state nodes x z ≡ Some r → IsReplacement state nodes n w r
    other extend.Zero k g = none_some _ r g
    other extend.Sign k g = signed k (extended nodes extend.Zero x) refl g

    longer : (q : Option Operand) → extended nodes kind x ≡ q → sides.longer_by state nodes kind x q ≡ Some r → IsReplacement state nodes n w r
    longer None f g = other kind refl g
    longer (Some a) f g =
        let same : right.Extension kind a ≡ r = cc in
        subst (IsReplacement state nodes n w) same (longer_rule state nodes place n kind x a w built h (shows_extension state nodes kind x a built f))

    whole : (b : Bool) → nat_eq (width_in state nodes x) w ≡ b → (if b then (Some (right.Operand x)) else sides.longer_of state nodes kind x) ≡ Some r → IsReplacement state nodes n w r
    whole true t g =
        let same : right.Operand x ≡ r = cc in
        subst (IsReplacement state nodes n w) same (extension_itself state nodes place n kind x w h (nat_same (width_in state nodes x) w t))
    whole false t g = longer (extended nodes kind x) refl g

-- ---- slices

-- a slice of all bits
whole_slice : (state : IrType) (nodes : List Node) (n : Node) (part : LongSlice) → IsSliceOf state nodes n part → width_in state nodes part.operand ≡ part.width → IsNumber state nodes part.operand part.width × IsResult state nodes n part.total (λ s values. number s values part.operand)
whole_slice state nodes n part h e =
    let same : h.own ≡ part.width = sym (number_width state nodes part.operand h.own h.is) ∙ e in
    let within = h.within in
    let first : part.start ≡ 0 = omega (arith, same, within) in
    let is : IsNumber state nodes part.operand part.width = subst (IsNumber state nodes part.operand) same h.is in (
      is,
      result_as state nodes n part.total (λ s values. slice_bits (number s values part.operand) part.start part.width) (λ s values. number s values part.operand)
          (λ s values v.
          ap (λ k. slice_bits (number s values part.operand) k part.width) first
          ∙ slice_whole (number s values part.operand) part.width (operand_bits state nodes part.operand part.width is s values v).range)
          h.result,
    )

-- a slice of a number with zeros before it
zeros_slice : (state : IrType) (nodes : List Node) (n : Node) (part : LongSlice) (a : Operand) → IsSliceOf state nodes n part → (f : ShowsExtension state nodes extend.Zero part.operand a) → f.own ≤ part.start → IsResult state nodes n part.total (λ s values. 0)
zeros_slice state nodes n part a h f past =
    result_as state nodes n part.total (λ s values. slice_bits (number s values part.operand) part.start part.width) (λ s values. 0)
    (λ s values v.
    ap (λ x. slice_bits x part.start part.width) (zeros_number state nodes part.operand a f s values v)
    ∙ slice_past (number s values a) f.own part.start part.width (operand_bits state nodes a f.own f.inner s values v).range past)
    h.result

inner_slice : (state : IrType) (nodes : List Node) (n : Node) (part : LongSlice) (a : Operand) → IsSliceOf state nodes n part → (f : ShowsExtension state nodes extend.Zero part.operand a) → part.start + part.width ≤ f.own → IsSliceOf state nodes n (slice_at a part.start part.width part.total)
inner_slice state nodes n part a h f within = record {
  own = f.own;
  is = f.inner;
  within = within;
  some = h.some;
  longer = h.longer;
  most = h.most;
  result =
      result_as state nodes n part.total (λ s values. slice_bits (number s values part.operand) part.start part.width) (λ s values. slice_bits (number s values a) part.start part.width)
      (λ s values v. ap (λ x. slice_bits x part.start part.width) (zeros_number state nodes part.operand a f s values v))
      h.result;
}

cut_slice : (state : IrType) (nodes : List Node) (n : Node) (part : LongSlice) (a : Operand) → IsSliceOf state nodes n part → (f : ShowsExtension state nodes extend.Zero part.operand a) → part.start < f.own → f.own - part.start ≤ part.width → IsSliceOf state nodes n (slice_at a part.start (f.own - part.start) part.total)
cut_slice state nodes n part a h f inside fewer =
    let longer = h.longer in
    let start : part.start ≤ f.own = omega (arith, inside) in
    record {
      own = f.own;
      is = f.inner;
      within = omega (arith, inside);
      some = omega (arith, inside);
      longer = omega (arith, fewer, longer);
      most = h.most;
      result =
          result_as state nodes n part.total (λ s values. slice_bits (number s values part.operand) part.start part.width) (λ s values. slice_bits (number s values a) part.start (f.own - part.start))
          (λ s values v.
          ap (λ x. slice_bits x part.start part.width) (zeros_number state nodes part.operand a f s values v)
          ∙ sym (slice_to_end (number s values a) f.own part.start part.width (operand_bits state nodes a f.own f.inner s values v).range start fewer))
          h.result;
    }

-- a slice of a slice
twice_slice : (state : IrType) (nodes : List Node) (n : Node) (part : LongSlice) (inner : Part) → IsSliceOf state nodes n part → ShowsSlice state nodes part.operand inner → IsSliceOf state nodes n (slice_at inner.operand (inner.start + part.start) part.width part.total)
twice_slice state nodes n part inner h f =
    let same = same_number state nodes part.operand h.own f.width h.is f.outer in
    let within = h.within in
    let inside = f.within in
    let outer : part.start + part.width ≤ f.width = omega (arith, same, within) in
    record {
      own = f.own;
      is = f.inner;
      within = omega (arith, outer, inside);
      some = h.some;
      longer = h.longer;
      most = h.most;
      result =
          result_as state nodes n part.total (λ s values. slice_bits (number s values part.operand) part.start part.width) (λ s values. slice_bits (number s values inner.operand) (inner.start + part.start) part.width)
          (λ s values v.
          ap (λ x. slice_bits x part.start part.width) (f.value s values v)
          ∙ slice_twice (number s values inner.operand) inner.start f.width part.start part.width outer)
          h.result;
    }

-- no number has so many bits
far_slice : (state : IrType) (nodes : List Node) (n : Node) (part : LongSlice) (inner : Part) → IsSliceOf state nodes n part → ShowsSlice state nodes part.operand inner → (2 ^ 128 - 1) - inner.start < part.start → IsResult state nodes n part.total (λ s values. 0)
far_slice state nodes n part inner h f far =
    let same = same_number state nodes part.operand h.own f.width h.is f.outer in
    let within = h.within in
    let inside = f.within in
    let some = h.some in
    result_as state nodes n part.total (λ s values. slice_bits (number s values part.operand) part.start part.width) (λ s values. 0)
    (λ s values v. let most = (operand_bits state nodes inner.operand f.own f.inner s values v).most in absurd (no_room part.start part.width inner.start f.width f.own far (omega (arith, same, within)) inside most some))
    h.result
  where
    no_room : (start width from own whole : ℕ) → (2 ^ 128 - 1) - from < start → start + width ≤ own → from + own ≤ whole → whole ≤ 128 → 1 ≤ width → ⊥
    no_room start width from own whole far a b c d = omega arith

-- a slice of bits in one part
part_slice : (state : IrType) (nodes : List Node) (n : Node) (part : LongSlice) (inner : Part) → IsSliceOf state nodes n part → ShowsPart state nodes part.operand part.start part.width inner → IsSliceOf state nodes n (slice_at inner.operand inner.start part.width part.total)
part_slice state nodes n part inner h f = record {
  own = f.own;
  is = f.inner;
  within = f.within;
  some = h.some;
  longer = h.longer;
  most = h.most;
  result =
      result_as state nodes n part.total (λ s values. slice_bits (number s values part.operand) part.start part.width) (λ s values. slice_bits (number s values inner.operand) inner.start part.width)
      (λ s values v. f.value s values v)
      h.result;
}

-- the operand of what is inside stands before
abbrev pub StandsBefore : Operand → NodeReplacement → Type 0
StandsBefore x (right.Operand o) = Unit {0}
StandsBefore x right.Zero = Unit {0}
StandsBefore x (right.Extension kind a) = Unit {0}
StandsBefore x (right.Slice y start) = depth y < depth x
StandsBefore x (right.LongerSlice y start width) = depth y < depth x
StandsBefore x (right.Operation o a b m) = Unit {0}
StandsBefore x (right.Comparison o a b m) = Unit {0}

pub slice_says : (state : IrType) (nodes : List Node) (part : LongSlice) (r : NodeReplacement) → AreBuilt state nodes → sides.slice_of state nodes part.start part.width part.operand ≡ Some r → StandsBefore part.operand r × ((n : Node) → IsSliceOf state nodes n part → SaysOfSlice state nodes n part r)
slice_says state nodes part r built e = whole (nat_eq (width_in state nodes part.operand) part.width) refl e
  where
    fits : (a : Operand) (f : ShowsExtension state nodes extend.Zero part.operand a) (own : ℕ) → own ≡ f.own → part.start < own → (b : Bool) → nat_le part.width (own - part.start) ≡ b → (if b then (Some (right.Slice a part.start)) else (Some (right.LongerSlice a part.start (own - part.start)))) ≡ Some r → StandsBefore part.operand r × ((n : Node) → IsSliceOf state nodes n part → SaysOfSlice state nodes n part r)
    fits a f own p less true t g =
        let same : right.Slice a part.start ≡ r = cc in
        let fewer : part.width ≤ own - part.start = grind (arith, nat_tests, t) in
        subst (λ q. StandsBefore part.operand q × ((n : Node) → IsSliceOf state nodes n part → SaysOfSlice state nodes n part q)) same
        (f.before, λ n h. inner_slice state nodes n part a h f (omega (arith, fewer, less, p)))
    fits a f own p less false t g =
        let same : right.LongerSlice a part.start (own - part.start) ≡ r = cc in
        let more : own - part.start < part.width = grind (arith, nat_tests, t) in
        subst (λ q. StandsBefore part.operand q × ((n : Node) → IsSliceOf state nodes n part → SaysOfSlice state nodes n part q)) same
        (f.before, λ n h. subst (λ k. IsSliceOf state nodes n (slice_at a part.start (k - part.start) part.total)) (sym p) (cut_slice state nodes n part a h f (omega (arith, less, p)) (omega (arith, more, p))))

    past : (a : Operand) (f : ShowsExtension state nodes extend.Zero part.operand a) (own : ℕ) → own ≡ f.own → (b : Bool) → nat_le own part.start ≡ b → (if b then (Some right.Zero) else (if nat_le part.width (own - part.start) then (Some (right.Slice a part.start)) else (Some (right.LongerSlice a part.start (own - part.start))))) ≡ Some r → StandsBefore part.operand r × ((n : Node) → IsSliceOf state nodes n part → SaysOfSlice state nodes n part r)
    past a f own p true t g =
        let same : right.Zero ≡ r = cc in
        let less : own ≤ part.start = grind (arith, nat_tests, t) in
        subst (λ q. StandsBefore part.operand q × ((n : Node) → IsSliceOf state nodes n part → SaysOfSlice state nodes n part q)) same
        (tt, λ n h. zeros_slice state nodes n part a h f (omega (arith, less, p)))
    past a f own p false t g =
        let less : part.start < own = grind (arith, nat_tests, t) in
        fits a f own p less (nat_le part.width (own - part.start)) refl g

    strict : (a : Operand) → ShowsExtension state nodes extend.Zero part.operand a → (b : Bool) → (if b then sides.slice_of_longer (width_in state nodes a) part.start part.width a else None) ≡ Some r → StandsBefore part.operand r × ((n : Node) → IsSliceOf state nodes n part → SaysOfSlice state nodes n part r)
    strict a f false g = none_some _ r g
    strict a f true g = past a f (width_in state nodes a) (number_width state nodes a f.own f.inner) (nat_le (width_in state nodes a) part.start) refl g

    joined : (q : Option Part) → part_of state nodes part.start part.width part.operand ≡ q → sides.slice_part q ≡ Some r → StandsBefore part.operand r × ((n : Node) → IsSliceOf state nodes n part → SaysOfSlice state nodes n part r)
    joined None f g = none_some _ r g
    joined (Some inner) f g =
        let same : right.Slice inner.operand inner.start ≡ r = cc in
        let shown = shows_part state nodes part.operand part.start part.width inner built f in
        subst (λ q. StandsBefore part.operand q × ((n : Node) → IsSliceOf state nodes n part → SaysOfSlice state nodes n part q)) same
        (shown.before, λ n h. part_slice state nodes n part inner h shown)

    added : (inner : Part) → ShowsSlice state nodes part.operand inner → (b : Bool) → nat_le part.start ((2 ^ 128 - 1) - inner.start) ≡ b → (if b then (Some (right.Slice inner.operand (inner.start + part.start))) else (Some right.Zero)) ≡ Some r → StandsBefore part.operand r × ((n : Node) → IsSliceOf state nodes n part → SaysOfSlice state nodes n part r)
    added inner f false t g =
        let same : right.Zero ≡ r = cc in
        let far : (2 ^ 128 - 1) - inner.start < part.start = grind (arith, nat_tests, t) in
        subst (λ q. StandsBefore part.operand q × ((n : Node) → IsSliceOf state nodes n part → SaysOfSlice state nodes n part q)) same
        (tt, λ n h. far_slice state nodes n part inner h f far)
    added inner f true t g =
        let same : right.Slice inner.operand (inner.start + part.start) ≡ r = cc in
        subst (λ q. StandsBefore part.operand q × ((n : Node) → IsSliceOf state nodes n part → SaysOfSlice state nodes n part q)) same
        (f.before, λ n h. twice_slice state nodes n part inner h f)

    sliced_too : (q : Option Part) → sliced nodes part.operand ≡ q → sides.slice_of_slice state nodes part.start part.width part.operand q ≡ Some r → StandsBefore part.operand r × ((n : Node) → IsSliceOf state nodes n part → SaysOfSlice state nodes n part r)
    sliced_too None f g = joined (part_of state nodes part.start part.width part.operand) refl g
    sliced_too (Some inner) f g = added inner (shows_slice state nodes part.operand inner built f) (nat_le part.start ((2 ^ 128 - 1) - inner.start)) refl g

    under : (q : Option Operand) → extended nodes extend.Zero part.operand ≡ q → sides.slice_by state nodes part.start part.width part.operand q ≡ Some r → StandsBefore part.operand r × ((n : Node) → IsSliceOf state nodes n part → SaysOfSlice state nodes n part r)
    under None f g = sliced_too (sliced nodes part.operand) refl g
    under (Some a) f g = strict a (shows_extension state nodes extend.Zero part.operand a built f) (nat_lt (width_in state nodes a) (width_in state nodes part.operand)) g

    whole : (b : Bool) → nat_eq (width_in state nodes part.operand) part.width ≡ b → (if b then (Some (right.Operand part.operand)) else sides.slice_over state nodes part.start part.width part.operand) ≡ Some r → StandsBefore part.operand r × ((n : Node) → IsSliceOf state nodes n part → SaysOfSlice state nodes n part r)
    whole true t g =
        let same : right.Operand part.operand ≡ r = cc in
        subst (λ q. StandsBefore part.operand q × ((n : Node) → IsSliceOf state nodes n part → SaysOfSlice state nodes n part q)) same
        (tt, λ n h. let w = whole_slice state nodes n part h (nat_same (width_in state nodes part.operand) part.width t) in (w.0, w.1, refl))
    whole false t g = under (extended nodes extend.Zero part.operand) refl g
