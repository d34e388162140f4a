-- What operands' nodes show: extensions, slices, and parts of concatenations.
use Rattle.std.proofs.Common.{◌≡◌, ℕ, suc, ◌+◌, ◌-◌, ◌*◌, ◌^◌, ◌<◌, ◌≤◌, List, [], ◌∷◌, map, sum, length, Bool, true, false, ◌&&◌, IsTrue, Option, Some, None, refl, sym, ap, subst, ◌∙◌, arith}
use Rattle.std.specs.Prelude.{slice_get, nat_eq, nat_le, if◌then◌else◌}
use Rattle.std.proofs.lemmas.Bool.Decides.{nat_tests}
use Rattle.std.proofs.lemmas.List.Sums.{sum_by-cons}
use Rattle.std.proofs.lemmas.Option.{slice_get_within}
use Rattle.std.proofs.lemmas.Nat.{pow-add}
use Rattle.xb_bits.specs.Word.{Word, word}
use Rattle.xb_bits.specs.Parts.{slice_bits}
use Rattle.xb_value.specs.declared.value.Value.{Value}
use Rattle.xb_value.specs.declared.value.Value as value
use Rattle.xb_value.specs.Flat.{flat_of, joined}
use Rattle.xb_value.proofs.Lemmas.Values.{flat_of-Bits, flat_of-Tuple}
use Rattle.delay_model.specs.declared.op.Op.{Op}
use Rattle.delay_model.specs.declared.op.Op.TheVariants as op
use Rattle.delay_model.specs.declared.op.Extend.{Extend}
use Rattle.delay_model.specs.declared.op.Extend.TheVariants as extend
use Rattle.ir_tree.specs.declared.ir_type.IrType.{IrType}
use Rattle.ir_tree.specs.declared.node.Operand.{Operand}
use Rattle.ir_tree.specs.declared.node.Operand.TheVariants as operand
use Rattle.ir_tree.specs.declared.node.Node.{Node}
use Rattle.ir_tree.specs.declared.node.Attributes.{Attributes}
use Rattle.ir_tree.specs.declared.node.Attributes.TheVariants as attributes
use Rattle.ir_tree.specs.Operations.{number_where}
use Rattle.ir_tree.specs.NodeValues.{operand_value}
use Rattle.ir_tree.specs.NodeTypes.Types.{is_bits, is_bits_where, bits_width}
use Rattle.ir_tree.specs.Rules.Fitting.{type_in, types_behind, all_bits}
use Rattle.ir_tree.specs.Rules.Lines.{is_there, are_there}
use Rattle.ir_tree.proofs.Lemmas.Rules.Typed.Checked.{both_true, and_true}
use Rattle.ir_tree.proofs.Lemmas.Rules.Typed.Tests.{nat_same}
use Rattle.ir_tree.proofs.Lemmas.Rules.Typed.Scopes as scopes
use Rattle.ir_rebuild.specs.Built.{FitsAt, AreBuilt, AreValues, is_plain_op}
use Rattle.pass_narrow.specs.declared.operands.Part.{Part}
use Rattle.pass_narrow.specs.Numbers.{number, IsNumber}
use Rattle.pass_narrow.specs.Views.{width_in, only, same_kind, extension_by, extension_in, extension_at, extended, slice_over, slice_by, slice_in, slice_at, sliced, part_inside, part_from, parts_by, parts_in, parts_at, part_of}
use Rattle.pass_narrow.specs.Inner.Meant.{IsResult, extend_number}
use Rattle.pass_narrow.specs.Slices.{depth}
use Rattle.pass_narrow.proofs.Arithmetic.{slice_high, slice_low}
use Rattle.pass_narrow.proofs.Numbers.{number_is, operand_bits, width_is, number_width}
use Rattle.pass_narrow.proofs.Shown.{HasParts, IsWide, says_extension, says_slice, fitting, value_by_parts, limited_node, wide_where, number_where as number_before, is_named, named_value, named_number}

below_place : (i : ℕ) (o : Operand) → IsTrue (is_there i o) → depth o < suc i
below_place i operand.State h = omega arith
below_place i (operand.Node j) h = let less : j < i = grind (arith, nat_tests, h) in omega arith

pub none_some : {A : Type 0} (B : Type 0) (x : A) → None ≡ Some x → B
none_some B x e = absurd (cc)

-- ---- extensions

only_is : (os : List Operand) (a : Operand) → only os ≡ Some a → os ≡ a ∷ []
only_is [] a e = absurd (cc)
only_is (o ∷ []) a e = let same : o ≡ a = cc in ap (λ x. x ∷ []) same
only_is (o ∷ p ∷ os) a e = absurd (cc)

kind_is : (kind own : Extend) (os : List Operand) (a : Operand) → (if same_kind kind own then only os else None) ≡ Some a → (op.Extend own ≡ op.Extend kind) × (os ≡ a ∷ [])
kind_is extend.Zero extend.Zero os a e = (refl, only_is os a e)
kind_is extend.Zero extend.Sign os a e = absurd (cc)
kind_is extend.Sign extend.Zero os a e = absurd (cc)
kind_is extend.Sign extend.Sign os a e = (refl, only_is os a e)

extension_is : (kind : Extend) (o : Op) (os : List Operand) (a : Operand) → extension_by kind o os ≡ Some a → (o ≡ op.Extend kind) × (os ≡ a ∷ [])
extension_is kind (op.Extend own) os a e = kind_is kind own os a e
extension_is kind o os a e = absurd (cc)

pub extension_parts : (kind : Extend) (n : Node) (t : Attributes) (a : Operand) → n.attributes ≡ t → extension_in kind n.op n.operands t ≡ Some a → (w : ℕ) × HasParts n (op.Extend kind) (a ∷ []) (attributes.NewBitCount w)
extension_parts kind n attributes.None a h e = absurd (cc)
extension_parts kind n (attributes.StartAndWidth start width) a h e = absurd (cc)
extension_parts kind n (attributes.Width width) a h e = absurd (cc)
extension_parts kind n (attributes.NewBitCount width) a h e =
    let is = extension_is kind n.op n.operands a e in
    (width, record { op = is.0; operands = is.1; attributes = h })
extension_parts kind n (attributes.Cases cases default) a h e = absurd (cc)
extension_parts kind n (attributes.Index i) a h e = absurd (cc)
extension_parts kind n (attributes.Indices i) a h e = absurd (cc)
extension_parts kind n (attributes.Value c) a h e = absurd (cc)
extension_parts kind n (attributes.Channel predicate c) a h e = absurd (cc)

pub record ShowsExtension (state : IrType) (nodes : List Node) (kind : Extend) (x a : Operand) : Type 0 where
  pub own : ℕ
  pub width : ℕ
  pub inner : IsNumber state nodes a own
  pub outer : IsNumber state nodes x width
  pub longer : own ≤ width
  pub most : width ≤ 128
  pub value : (s : Value) (values : List Value) → AreValues state nodes s values → number s values x ≡ extend_number kind own width (number s values a)
  pub before : depth a < depth x

pub shows_extension : (state : IrType) (nodes : List Node) (kind : Extend) (x a : Operand) → AreBuilt state nodes → extended nodes kind x ≡ Some a → ShowsExtension state nodes kind x a
shows_extension state nodes kind operand.State a built h = none_some (ShowsExtension state nodes kind operand.State a) a h
shows_extension state nodes kind (operand.Node i) a built h = by (slice_get nodes i) refl
  where
    by : (m : Option Node) → slice_get nodes i ≡ m → ShowsExtension state nodes kind (operand.Node i) a
    by None e = none_some (ShowsExtension state nodes kind (operand.Node i) a) a (ap (extension_at kind) (sym e) ∙ h)
    by (Some n) e =
        let p = extension_parts kind n n.attributes a refl (ap (extension_at kind) (sym e) ∙ h) in
        let named = is_named state nodes i n built e (ap is_plain_op p.1.op) in
        let less = slice_get_within nodes i n e in
        let says = says_extension state nodes i n kind a p.0 (omega arith) (built.fits_at i n e (ap is_plain_op p.1.op)) p.1 in
        record {
          own = says.own;
          width = p.0;
          inner = says.is;
          outer = named_number state nodes (operand.Node i) n p.0 named says.wide;
          longer = says.longer;
          most = says.wide.most;
          value = λ s values v.
              number_is (operand_value s values (operand.Node i)) (word p.0 (extend_number kind says.own p.0 (number s values a)))
              (named_value state nodes (operand.Node i) n named s values v ∙ says.result.value s values v);
          before = below_place i a says.before;
        }

-- ---- slices

slice_over_is : (start : ℕ) (os : List Operand) (part : Part) → slice_over start os ≡ Some part → (os ≡ part.operand ∷ []) × (start ≡ part.start)
slice_over_is start [] part e = absurd (cc)
slice_over_is start (o ∷ []) part e =
    let same : record { operand = o; start = start } ≡ part = cc in
    (ap (λ (q : Part). q.operand ∷ []) same, ap (λ (q : Part). q.start) same)
slice_over_is start (o ∷ p ∷ os) part e = absurd (cc)

slice_op_is : (start : ℕ) (os : List Operand) (o : Op) (part : Part) → slice_by start os o ≡ Some part → (o ≡ op.BitSlice) × (os ≡ part.operand ∷ []) × (start ≡ part.start)
slice_op_is start os op.BitSlice part e = let is = slice_over_is start os part e in (refl, is.0, is.1)
slice_op_is start os o part e = absurd (cc)

slice_parts : (n : Node) (t : Attributes) (part : Part) → n.attributes ≡ t → slice_in n.op n.operands t ≡ Some part → (w : ℕ) × HasParts n op.BitSlice (part.operand ∷ []) (attributes.StartAndWidth part.start w)
slice_parts n attributes.None part h e = absurd (cc)
slice_parts n (attributes.StartAndWidth start width) part h e =
    let is = slice_op_is start n.operands n.op part e in
    (width, record { op = is.0; operands = is.1; attributes = h ∙ ap (λ k. attributes.StartAndWidth k width) is.2 })
slice_parts n (attributes.Width width) part h e = absurd (cc)
slice_parts n (attributes.NewBitCount width) part h e = absurd (cc)
slice_parts n (attributes.Cases cases default) part h e = absurd (cc)
slice_parts n (attributes.Index i) part h e = absurd (cc)
slice_parts n (attributes.Indices i) part h e = absurd (cc)
slice_parts n (attributes.Value c) part h e = absurd (cc)
slice_parts n (attributes.Channel predicate c) part h e = absurd (cc)

pub record ShowsSlice (state : IrType) (nodes : List Node) (x : Operand) (part : Part) : Type 0 where
  pub own : ℕ
  pub width : ℕ
  pub inner : IsNumber state nodes part.operand own
  pub outer : IsNumber state nodes x width
  pub within : part.start + width ≤ own
  pub value : (s : Value) (values : List Value) → AreValues state nodes s values → number s values x ≡ slice_bits (number s values part.operand) part.start width
  pub before : depth part.operand < depth x

pub shows_slice : (state : IrType) (nodes : List Node) (x : Operand) (part : Part) → AreBuilt state nodes → sliced nodes x ≡ Some part → ShowsSlice state nodes x part
shows_slice state nodes operand.State part built h = none_some (ShowsSlice state nodes operand.State part) part h
shows_slice state nodes (operand.Node i) part built h = by (slice_get nodes i) refl
  where
    by : (m : Option Node) → slice_get nodes i ≡ m → ShowsSlice state nodes (operand.Node i) part
    by None e = none_some (ShowsSlice state nodes (operand.Node i) part) part (ap slice_at (sym e) ∙ h)
    by (Some n) e =
        let p = slice_parts n n.attributes part refl (ap slice_at (sym e) ∙ h) in
        let named = is_named state nodes i n built e (ap is_plain_op p.1.op) in
        let less = slice_get_within nodes i n e in
        let says = says_slice state nodes i n op.BitSlice part.operand part.start p.0 (omega arith) (built.fits_at i n e (ap is_plain_op p.1.op)) p.1 in
        record {
          own = says.own;
          width = p.0;
          inner = says.is;
          outer = named_number state nodes (operand.Node i) n p.0 named says.wide;
          within = says.within;
          value = λ s values v.
              number_is (operand_value s values (operand.Node i)) (word p.0 (slice_bits (number s values part.operand) part.start p.0))
              (named_value state nodes (operand.Node i) n named s values v ∙ says.result.value s values v);
          before = below_place i part.operand says.before;
        }

-- ---- numbers side by side

-- the operands are numbers, so many bits together
abbrev pub AreNumbers : IrType → List Node → ℕ → List Operand → ℕ → Type 0
AreNumbers state nodes place [] total = total ≡ 0
AreNumbers state nodes place (o ∷ os) total = (own : ℕ) × (rest : ℕ) × IsNumber state nodes o own × IsTrue (is_there place o) × AreNumbers state nodes place os rest × (total ≡ own + rest)

are_numbers : (state : IrType) (nodes : List Node) (place : ℕ) (os : List Operand) → place ≤ length nodes → IsTrue (are_there place os) → IsTrue (all_bits (types_behind state nodes) os) → AreNumbers state nodes place os (sum (map (λ o. bits_width (type_in (types_behind state nodes) o)) os))
are_numbers state nodes place [] within there bits = refl
are_numbers state nodes place (o ∷ os) within there bits =
    let scope = types_behind state nodes in
    let here = both_true (is_there place o) (are_there place os) there in
    let one = both_true (is_bits (type_in scope o)) (all_bits scope os) bits in
    let x = number_before state nodes place o (λ w. true) within here.0 one.0 in
    let own : bits_width (type_in scope o) ≡ x.0 = ap bits_width x.1.ty ∙ width_is x.0 in
    let rest = sum (map (λ o. bits_width (type_in scope o)) os) in
    (x.0, rest, x.1, here.0, are_numbers state nodes place os within here.1 one.1, sum_by-cons (λ x. x) (bits_width (type_in scope o)) (map (λ o. bits_width (type_in scope o)) os) ∙ ap (λ k. k + rest) own)

abbrev pub joined_of : Value → List Value → List Operand → Word
joined_of s values os = joined (map flat_of (map (operand_value s values) os))

pub own_word : (state : IrType) (nodes : List Node) (o : Operand) (w : ℕ) → IsNumber state nodes o w → (s : Value) (values : List Value) → AreValues state nodes s values → flat_of (operand_value s values o) ≡ word w (number s values o)
own_word state nodes o w h s values v = ap flat_of (operand_bits state nodes o w h s values v).is ∙ flat_of-Bits (word w (number s values o))

pub record IsJoined (total : ℕ) (x : Word) : Type 0 where
  pub width : x.width ≡ total
  pub range : x.value < 2 ^ total

beside_below : (p q a b : ℕ) → a < 2 ^ p → b < 2 ^ q → a * 2 ^ q + b < 2 ^ (p + q)
beside_below p q a b high low = subst (λ n. a * 2 ^ q + b < n) (sym (pow-add 2 p q)) (side a b (2 ^ q) (2 ^ p) high low)
  where
    side : (a b n m : ℕ) → a < m → b < n → a * n + b < m * n
    side a b n m h k = grind arith

joined_more : (p rest total x : ℕ) (low : Word) → total ≡ p + rest → x < 2 ^ p → IsJoined rest low → IsJoined total (word (p + low.width) (x * 2 ^ low.width + low.value))
joined_more p rest total x low e range h = record {
  width = ap (λ k. p + k) h.width ∙ sym e;
  range = subst (λ k. x * 2 ^ k + low.value < 2 ^ total) (sym h.width) (subst (λ k. x * 2 ^ rest + low.value < 2 ^ k) (sym e) (beside_below p rest x low.value range h.range));
}

pub is_joined : (state : IrType) (nodes : List Node) (place : ℕ) (os : List Operand) (total : ℕ) → AreNumbers state nodes place os total → (s : Value) (values : List Value) → AreValues state nodes s values → IsJoined total (joined_of s values os)
is_joined state nodes place [] total h s values v = record { width = sym h; range = subst (λ k. 0 < 2 ^ k) (sym h) (omega arith) }
is_joined state nodes place (o ∷ os) total h s values v =
    let low = joined_of s values os in
    subst (λ x. IsJoined total (word (x.width + low.width) (x.value * 2 ^ low.width + low.value))) (sym (own_word state nodes o h.0 h.2 s values v))
    (joined_more h.0 h.1 total (number s values o) low h.5 (operand_bits state nodes o h.0 h.2 s values v).range (is_joined state nodes place os h.1 h.4 s values v))

-- a part in which bits lie
pub record IsPart (state : IrType) (nodes : List Node) (place : ℕ) (os : List Operand) (total start width : ℕ) (part : Part) : Type 0 where
  pub own : ℕ
  pub is : IsNumber state nodes part.operand own
  pub before : IsTrue (is_there place part.operand)
  pub inside : start + width ≤ total
  pub within : part.start + width ≤ own
  pub value : (s : Value) (values : List Value) → AreValues state nodes s values → slice_bits (joined_of s values os).value start width ≡ slice_bits (number s values part.operand) part.start width

inside_is : (o : Operand) (behind end start width : ℕ) (part : Part) (b : Bool) → nat_le behind start && nat_le (start + width) end ≡ b → (if b then (Some (record { operand = o; start = start - behind })) else None) ≡ Some part → (behind ≤ start) × (start + width ≤ end) × (record { operand = o; start = start - behind } ≡ part)
inside_is o behind end start width part true e h =
    let both = both_true (nat_le behind start) (nat_le (start + width) end) e in
    let same : record { operand = o; start = start - behind } ≡ part = cc in
    (grind (arith, nat_tests, both.0), grind (arith, nat_tests, both.1), same)
inside_is o behind end start width part false e h = none_some _ part h

part_here : (state : IrType) (nodes : List Node) (place : ℕ) (o : Operand) (os : List Operand) (own rest total start width : ℕ) (part : Part) → IsNumber state nodes o own → IsTrue (is_there place o) → AreNumbers state nodes place os rest → total ≡ own + rest → part_inside o rest total start width ≡ Some part → IsPart state nodes place (o ∷ os) total start width part
part_here state nodes place o os own rest total start width part is there all e h =
    let found = inside_is o rest total start width part (nat_le rest start && nat_le (start + width) total) refl h in
    let from = found.0 in
    let to = found.1 in
    subst (IsPart state nodes place (o ∷ os) total start width) found.2
    (record {
      own = own;
      is = is;
      before = there;
      inside = to;
      within = omega (arith, e, from, to);
      value = λ s values v.
          let low = joined_of s values os in
          let j = is_joined state nodes place os rest all s values v in
          ap (λ (x : Word). slice_bits (x.value * 2 ^ low.width + low.value) start width) (own_word state nodes o own is s values v)
          ∙ ap (λ k. slice_bits (number s values o * 2 ^ k + low.value) start width) j.width
          ∙ slice_high (number s values o) low.value rest start width j.range from;
    })

part_later : (state : IrType) (nodes : List Node) (place : ℕ) (o : Operand) (os : List Operand) (own rest total start width : ℕ) (part : Part) → IsNumber state nodes o own → AreNumbers state nodes place os rest → total ≡ own + rest → IsPart state nodes place os rest start width part → IsPart state nodes place (o ∷ os) total start width part
part_later state nodes place o os own rest total start width part is all e h =
    let inside = h.inside in
    record {
      own = h.own;
      is = h.is;
      before = h.before;
      inside = omega (arith, e, inside);
      within = h.within;
      value = λ s values v.
          let low = joined_of s values os in
          let j = is_joined state nodes place os rest all s values v in
          ap (λ (x : Word). slice_bits (x.value * 2 ^ low.width + low.value) start width) (own_word state nodes o own is s values v)
          ∙ ap (λ k. slice_bits (number s values o * 2 ^ k + low.value) start width) j.width
          ∙ slice_low (number s values o) low.value rest start width j.range inside
          ∙ h.value s values v;
    }

part_is : (state : IrType) (nodes : List Node) (place : ℕ) (os : List Operand) (total start width : ℕ) (part : Part) → AreNumbers state nodes place os total → part_from state nodes os total start width ≡ Some part → IsPart state nodes place os total start width part
part_is state nodes place [] total start width part all h = none_some _ part h
part_is state nodes place (o ∷ os) total start width part all h =
    by (λ k. part_is state nodes place os all.1 start width part all.4 k) (nat_le all.1 start)
    (subst (λ k. (if nat_le k start then part_inside o k total start width else part_from state nodes os k start width) ≡ Some part) behind h)
  where
    behind : total - width_in state nodes o ≡ all.1
    behind = let own = number_width state nodes o all.0 all.2 in let e = all.5 in omega (arith, own, e)

    by : (part_from state nodes os all.1 start width ≡ Some part → IsPart state nodes place os all.1 start width part) → (b : Bool) → (if b then part_inside o all.1 total start width else part_from state nodes os all.1 start width) ≡ Some part → IsPart state nodes place (o ∷ os) total start width part
    by later true k = part_here state nodes place o os all.0 all.1 total start width part all.2 all.3 all.4 all.5 k
    by later false k = part_later state nodes place o os all.0 all.1 total start width part all.2 all.4 all.5 (later k)

-- what a concatenation says
pub record SaysConcat (state : IrType) (nodes : List Node) (place : ℕ) (n : Node) (os : List Operand) : Type 0 where
  pub total : ℕ
  pub wide : IsWide n.ty total
  pub numbers : AreNumbers state nodes place os total
  pub result : IsResult state nodes n total (λ s values. (joined_of s values os).value)

joined_value : (total : ℕ) (x : Word) → 1 ≤ total → total ≤ 128 → IsJoined total x → number_where x ≡ value.Bits (word total x.value)
joined_value total x some most h =
    let width = h.width in
    let first : IsTrue (nat_le 1 x.width) = grind (arith, nat_tests, some, width) in
    let second : IsTrue (nat_le x.width 128) = grind (arith, nat_tests, most, width) in
    scopes.bits_there (nat_le 1 x.width && nat_le x.width 128) x (and_true _ _ first second)
    ∙ (λ i. value.Bits (record { width = h.width i; value = x.value }))

pub says_concat : (state : IrType) (nodes : List Node) (place : ℕ) (n : Node) (os : List Operand) → place ≤ length nodes → FitsAt state nodes place n → HasParts n op.Concat os attributes.None → SaysConcat state nodes place n os
says_concat state nodes place n os within h p =
    let scope = types_behind state nodes in
    let widths = sum (map (λ o. bits_width (type_in scope o)) os) in
    let fits = both_true (all_bits scope os) (is_bits_where (λ w. nat_eq widths w) n.ty) (fitting state nodes place n op.Concat os attributes.None h p) in
    let wide = wide_where (λ w. nat_eq widths w) n.ty (limited_node state nodes place n h) fits.1 in
    let same : widths ≡ wide.0 = nat_same widths wide.0 wide.2 in
    let there : IsTrue (are_there place os) = subst (λ xs. IsTrue (are_there place xs)) p.operands h.operands in
    let all : AreNumbers state nodes place os wide.0 = subst (AreNumbers state nodes place os) same (are_numbers state nodes place os within there fits.0) in
    record {
      total = wide.0;
      wide = wide.1;
      numbers = all;
      result = record {
        ty = wide.1.ty;
        value = λ s values v.
            value_by_parts n op.Concat os attributes.None s values p
            ∙ ap number_where (flat_of-Tuple (map (operand_value s values) os))
            ∙ joined_value wide.0 (joined_of s values os) wide.1.some wide.1.most (is_joined state nodes place os wide.0 all s values v);
      };
    }

parts_op : (state : IrType) (nodes : List Node) (start width total : ℕ) (os : List Operand) (o : Op) (part : Part) → parts_by state nodes start width total os o ≡ Some part → (o ≡ op.Concat) × (part_from state nodes os total start width ≡ Some part)
parts_op state nodes start width total os op.Concat part e = (refl, e)
parts_op state nodes start width total os o part e = absurd (cc)

concat_parts : (state : IrType) (nodes : List Node) (start width : ℕ) (n : Node) (t : Attributes) (part : Part) → n.attributes ≡ t → parts_in state nodes start width (bits_width n.ty) n.op n.operands t ≡ Some part → HasParts n op.Concat n.operands attributes.None × (part_from state nodes n.operands (bits_width n.ty) start width ≡ Some part)
concat_parts state nodes start width n attributes.None part h e =
    let is = parts_op state nodes start width (bits_width n.ty) n.operands n.op part e in
    (record { op = is.0; operands = refl; attributes = h }, is.1)
concat_parts state nodes start width n (attributes.StartAndWidth own size) part h e = absurd (cc)
concat_parts state nodes start width n (attributes.Width size) part h e = absurd (cc)
concat_parts state nodes start width n (attributes.NewBitCount size) part h e = absurd (cc)
concat_parts state nodes start width n (attributes.Cases cases default) part h e = absurd (cc)
concat_parts state nodes start width n (attributes.Index i) part h e = absurd (cc)
concat_parts state nodes start width n (attributes.Indices i) part h e = absurd (cc)
concat_parts state nodes start width n (attributes.Value c) part h e = absurd (cc)
concat_parts state nodes start width n (attributes.Channel predicate c) part h e = absurd (cc)

-- the bits of a concatenation that lie in one part are bits of that part
pub record ShowsPart (state : IrType) (nodes : List Node) (x : Operand) (start width : ℕ) (part : Part) : Type 0 where
  pub own : ℕ
  pub inner : IsNumber state nodes part.operand own
  pub within : part.start + width ≤ own
  pub value : (s : Value) (values : List Value) → AreValues state nodes s values → slice_bits (number s values x) start width ≡ slice_bits (number s values part.operand) part.start width
  pub before : depth part.operand < depth x

pub shows_part : (state : IrType) (nodes : List Node) (x : Operand) (start width : ℕ) (part : Part) → AreBuilt state nodes → part_of state nodes start width x ≡ Some part → ShowsPart state nodes x start width part
shows_part state nodes operand.State start width part built h = none_some (ShowsPart state nodes operand.State start width part) part h
shows_part state nodes (operand.Node i) start width part built h = by (slice_get nodes i) refl
  where
    by : (m : Option Node) → slice_get nodes i ≡ m → ShowsPart state nodes (operand.Node i) start width part
    by None e = none_some (ShowsPart state nodes (operand.Node i) start width part) part (ap (parts_at state nodes start width) (sym e) ∙ h)
    by (Some n) e =
        let p = concat_parts state nodes start width n n.attributes part refl (ap (parts_at state nodes start width) (sym e) ∙ h) in
        let named = is_named state nodes i n built e (ap is_plain_op p.0.op) in
        let less = slice_get_within nodes i n e in
        let says = says_concat state nodes i n n.operands (omega arith) (built.fits_at i n e (ap is_plain_op p.0.op)) p.0 in
        let total : bits_width n.ty ≡ says.total = ap bits_width says.wide.ty ∙ width_is says.total in
        let is = part_is state nodes i n.operands says.total start width part says.numbers (subst (λ k. part_from state nodes n.operands k start width ≡ Some part) total p.1) in
        record {
          own = is.own;
          inner = is.is;
          within = is.within;
          value = λ s values v.
              ap (λ k. slice_bits k start width)
              (number_is (operand_value s values (operand.Node i)) (word says.total (joined_of s values n.operands).value)
              (named_value state nodes (operand.Node i) n named s values v ∙ says.result.value s values v))
              ∙ is.value s values v;
          before = below_place i part.operand is.before;
        }
