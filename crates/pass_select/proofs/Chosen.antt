-- What a select always chooses stands for it.
use Rattle.std.proofs.Common.{◌≡◌, ℕ, zero, suc, ◌^◌, ◌<◌, ◌≤◌, min, List, [], ◌∷◌, length, get_or, Bool, true, false, ◌&&◌, Option, Some, None, refl, sym, ap, subst, ◌∙◌, arith}
use Rattle.std.specs.Prelude.{slice_get, nat_lt, nat_le, if◌then◌else◌}
use Rattle.std.specs.List.{list_all}
use Rattle.std.proofs.lemmas.Bool.Decides.{nat_tests}
use Rattle.xb_bits.specs.Word.{Word, word}
use Rattle.xb_value.specs.declared.value.Value.{Value, out-Value}
use Rattle.xb_value.specs.declared.value.Value as value
use Rattle.xb_value.specs.declared.value.Value.TheOpen.{Value-F}
use Rattle.xb_value.specs.declared.value.Value.TheViews.{outs-Bits, outs-Tuple}
use Rattle.xb_value.specs.Typing.{IsOfType}
use Rattle.xb_value.specs.declared.ty.Ty as ty
use Rattle.xb_value.proofs.Lemmas.Types as tys
use Rattle.ir_tree.specs.declared.ir_type.IrType.{IrType, Bits, Token}
use Rattle.ir_tree.specs.declared.constant.Constant.{Constant, out-Constant}
use Rattle.ir_tree.specs.declared.constant.Constant.TheOpen.{Constant-F}
use Rattle.ir_tree.specs.declared.node.Operand.{Operand}
use Rattle.ir_tree.specs.declared.node.Operand.TheVariants as operand
use Rattle.ir_tree.specs.declared.node.Node.{Node}
use Rattle.ir_tree.specs.declared.node.Attributes.{Attributes}
use Rattle.ir_tree.specs.declared.node.Attributes.TheVariants as attributes
use Rattle.delay_model.specs.declared.op.Op.{Op}
use Rattle.delay_model.specs.declared.op.Op.TheVariants as op
use Rattle.delay_model.specs.Signatures.{is_met, count_of}
use Rattle.ir_tree.specs.Types.{ty_of, bounded}
use Rattle.ir_tree.specs.Constants.{no_value, bits_where, number_value, number_read, read_step, constant_value}
use Rattle.ir_tree.specs.Operations.{chosen, on_word, on_open_word}
use Rattle.ir_tree.specs.NodeValues.{operand_value, optional_value, pure_value}
use Rattle.ir_tree.specs.NodeTypes.Types.{is_bits_where, same_type}
use Rattle.ir_tree.specs.Rules.Fitting.{type_in, type_or, types_behind, types_fit, sel_fits, is_sel, is_like, cases_count, defaults}
use Rattle.ir_tree.specs.Rules.Lines.{is_there, is_there_if, are_there, attributes_there}
use Rattle.ir_tree.proofs.Lemmas.NodeTypes.IrTypes.{ty_of-Bits}
use Rattle.ir_tree.proofs.Lemmas.Rules.Typed.Tests.{bits_is, same_is}
use Rattle.ir_tree.proofs.Lemmas.Rules.Typed.Scopes.{HasWord, word_there}
use Rattle.ir_rebuild.specs.Built.{FitsAt, AreBuilt, AreValues, OperandSimulates, Rewrites, is_plain_op}
use Rattle.ir_rebuild.proofs.Lemmas.{answered, node_there, has_type}
use Rattle.ir_rebuild.specs.Normal.Normal.{same_operand}
use Rattle.pass_select.specs.Choices.{number_there, literal_of, literal_at, number_in, literal_number, is_default, one_of, choice_by, choice_among, choice_in, choice_of}

both : (a b : Bool) → a && b ≡ true → (a ≡ true) × (b ≡ true)
both true true h = (refl, refl)
both true false h = absurd (cc)
both false b h = absurd (cc)

-- ---- the case of a number

pub chosen-below : (cs : List Operand) (d : Option Operand) (n : ℕ) (c : Operand) → n < length cs → chosen cs d n ≡ Some (get_or cs n c)
chosen-below [] d n c h = absurd (omega arith)
chosen-below (x ∷ xs) d zero c h = refl
chosen-below (x ∷ xs) d (suc n) c h = chosen-below xs d n c (omega arith)

pub chosen-past : (cs : List Operand) (d : Option Operand) (n : ℕ) → length cs ≤ n → chosen cs d n ≡ d
chosen-past [] d n h = refl
chosen-past (x ∷ xs) d zero h = absurd (omega arith)
chosen-past (x ∷ xs) d (suc n) h = chosen-past xs d n (omega arith)

pub ruleset chosen_cases = (chosen-below, chosen-past)

-- what is chosen passes what all cases and the default pass
chosen_passes : (p : Operand → Bool) (cases : List Operand) (default : Option Operand) (n : ℕ) (o : Operand) → list_all p cases ≡ true → ((d : Operand) → default ≡ Some d → p d ≡ true) → chosen cases default n ≡ Some o → p o ≡ true
chosen_passes p [] default n o h k e = k o e
chosen_passes p (c ∷ cs) default zero o h k e =
    let same : c ≡ o = cc in subst (λ x. p x ≡ true) same (both (p c) (list_all p cs) h).0
chosen_passes p (c ∷ cs) default (suc n) o h k e = chosen_passes p cs default n o (both (p c) (list_all p cs) h).1 k e

default_there : (k : ℕ) (default : Option Operand) → is_there_if k default ≡ true → (d : Operand) → default ≡ Some d → is_there k d ≡ true
default_there k None h d e = absurd (cc)
default_there k (Some x) h d e = let same : x ≡ d = cc in subst (λ y. is_there k y ≡ true) same h

default_like : (state : IrType) (nodes : List Node) (t : IrType) (default : Option Operand) → is_like (types_behind state nodes) t default ≡ true → (d : Operand) → default ≡ Some d → same_type t (type_in (types_behind state nodes) d) ≡ true
default_like state nodes t None h d e = absurd (cc)
default_like state nodes t (Some x) h d e = let same : x ≡ d = cc in subst (λ y. same_type t (type_in (types_behind state nodes) y) ≡ true) same h

-- ---- a select that fits

record IsSelect (state : IrType) (nodes : List Node) (t : IrType) (cases : List Operand) (default : Option Operand) (s : Operand) : Type 0 where
  width : ℕ
  selector : type_in (types_behind state nodes) s ≡ Bits width []
  counted : cases_count (length cases) default width ≡ true
  alike : list_all (λ c. same_type t (type_in (types_behind state nodes) c)) cases ≡ true
  default_alike : is_like (types_behind state nodes) t default ≡ true

is_select : (state : IrType) (nodes : List Node) (t : IrType) (cases : List Operand) (default : Option Operand) (s : Operand) → sel_fits cases default (types_behind state nodes) (s ∷ []) t ≡ true → IsSelect state nodes t cases default s
is_select state nodes t cases default s h =
    let scope = types_behind state nodes in
    let a = both (list_all (λ o. is_bits_where (cases_count (length cases) default) (type_in scope o)) (s ∷ [])) _ h in
    let b = both (list_all (λ c. same_type t (type_in scope c)) cases) (is_like scope t default) a.1 in
    let bits = bits_is (cases_count (length cases) default) (type_in scope s) (both (is_bits_where (cases_count (length cases) default) (type_in scope s)) true a.0).0 in
    record { width = bits.width; selector = bits.is; counted = bits.test; alike = b.0; default_alike = b.1 }

-- the value of an operand of bits is a number of that width
bits_word : (state : IrType) (nodes : List Node) (s : Value) (values : List Value) → AreValues state nodes s values → (o : Operand) → is_there (length nodes) o ≡ true → (w : ℕ) → type_in (types_behind state nodes) o ≡ Bits w [] → HasWord w (operand_value s values o)
bits_word state nodes s values v o there w e =
    word_there w (operand_value s values o) (subst (λ u. IsOfType (ty_of u) (operand_value s values o)) e (has_type state nodes s values v o there))

on_bits : (f : Word → Value) (v : Value) (x : Word) → v ≡ value.Bits x → on_word f v ≡ f x
on_bits f v x e = ap (on_word f) e ∙ ap (on_open_word f) (outs-Bits x)

-- ---- a literal selector

number_only : (y : Constant-F Constant) (n : ℕ) → number_there y ≡ Some n → y ≡ Constant-F.Number n
number_only (Constant-F.Number m) n e = let same : m ≡ n = cc in ap Constant-F.Number same
number_only (Constant-F.Tuple cs) n e = absurd (cc)
number_only (Constant-F.Array cs) n e = absurd (cc)

number_bits : (w n : ℕ) (c : Constant) → number_there (out-Constant c) ≡ Some n → constant_value (ty.Bits w) c ≡ number_value w n
number_bits w n c e =
    ap (λ (f : Constant → Value). f c) (tys.fold-Bits (Constant → Value) read_step w)
    ∙ ap (number_read w) (number_only (out-Constant c) n e)

record IsLiteral (n : Node) (k : ℕ) : Type 0 where
  plain : is_plain_op n.op ≡ true
  constant : Constant
  attributes : n.attributes ≡ attributes.Value constant
  number : number_there (out-Constant constant) ≡ Some k

literal_attributes : (a : Attributes) (k : ℕ) → literal_of a ≡ Some k → (c : Constant) × (a ≡ attributes.Value c) × (number_there (out-Constant c) ≡ Some k)
literal_attributes attributes.None k e = absurd (cc)
literal_attributes (attributes.StartAndWidth start width) k e = absurd (cc)
literal_attributes (attributes.Width width) k e = absurd (cc)
literal_attributes (attributes.NewBitCount width) k e = absurd (cc)
literal_attributes (attributes.Cases cases default) k e = absurd (cc)
literal_attributes (attributes.Index i) k e = absurd (cc)
literal_attributes (attributes.Indices i) k e = absurd (cc)
literal_attributes (attributes.Value c) k e = (c, refl, e)
literal_attributes (attributes.Channel predicate c) k e = absurd (cc)

literal_op : (o : Op) (a : Attributes) (k : ℕ) → literal_at o a ≡ Some k → (is_plain_op o ≡ true) × (literal_of a ≡ Some k)
literal_op op.Literal a k e = (refl, e)
literal_op o a k e = absurd (cc)

literal_is : (n : Node) (k : ℕ) → literal_at n.op n.attributes ≡ Some k → IsLiteral n k
literal_is n k e =
    let a = literal_op n.op n.attributes k e in
    let b = literal_attributes n.attributes k a.1 in
    record { plain = a.0; constant = b.0; attributes = b.1; number = b.2 }

by_attributes : (n : Node) (c : Constant) (s : Value) (values : List Value) → n.attributes ≡ attributes.Value c → pure_value n s values ≡ constant_value (ty_of n.ty) c
by_attributes n c s values e = ap (λ a. pure_value (record { id = n.id; ty = n.ty; op = n.op; operands = n.operands; attributes = a }) s values) e

no_bits : (x : Word) → no_value ≡ value.Bits x → ⊥
no_bits x e =
    let open_is : Value-F.Tuple [] ≡ Value-F.Bits x = sym (outs-Tuple []) ∙ (ap out-Value e ∙ outs-Bits x) in cc

number_is : (b : Bool) (w n : ℕ) (x : Word) → bits_where b (word w n) ≡ value.Bits x → bits_where b (word w n) ≡ value.Bits (word w n)
number_is true w n x e = refl
number_is false w n x e = absurd (no_bits x e)

-- the value of a literal of bits
literal_value : (state : IrType) (nodes : List Node) (s : Value) (values : List Value) → AreValues state nodes s values → (j : ℕ) (m : Node) (k w : ℕ) → slice_get nodes j ≡ Some m → IsLiteral m k → m.ty ≡ Bits w [] → HasWord w (get_or values j no_value) → get_or values j no_value ≡ value.Bits (word (bounded w) k)
literal_value state nodes s values v j m k w here l t has =
    let written : get_or values j no_value ≡ number_value (bounded w) k =
    v.plain j m here l.plain
    ∙ by_attributes m l.constant s values l.attributes
    ∙ ap (λ u. constant_value (ty_of u) l.constant) t
    ∙ ap (λ u. constant_value u l.constant) (ty_of-Bits w [])
    ∙ number_bits (bounded w) k l.constant l.number in
    written ∙ number_is _ (bounded w) k has.word (sym written ∙ has.is)

-- ---- what stands for a select

by_cases : (n : Node) (cases : List Operand) (default : Option Operand) (o : Operand) (s : Value) (values : List Value) → n.attributes ≡ attributes.Cases cases default → n.operands ≡ o ∷ [] → pure_value n s values ≡ on_word (λ x. optional_value s values (chosen cases default x.value)) (operand_value s values o)
by_cases n cases default o s values e f =
    ap (λ a. pure_value (record { id = n.id; ty = n.ty; op = n.op; operands = n.operands; attributes = a }) s values) e
    ∙ ap (λ os. pure_value (record { id = n.id; ty = n.ty; op = n.op; operands = os; attributes = attributes.Cases cases default }) s values) f

record IsSel (state : IrType) (nodes : List Node) (n : Node) (cases : List Operand) (default : Option Operand) (s : Operand) : Type 0 where
  attributes : n.attributes ≡ attributes.Cases cases default
  operands : n.operands ≡ s ∷ []
  select : IsSelect state nodes n.ty cases default s
  selector_there : is_there (length nodes) s ≡ true
  cases_there : are_there (length nodes) cases ≡ true
  default_there : is_there_if (length nodes) default ≡ true

is_sel_node : (state : IrType) (nodes : List Node) (n : Node) (cases : List Operand) (default : Option Operand) (s : Operand) → FitsAt state nodes (length nodes) n → n.attributes ≡ attributes.Cases cases default → n.operands ≡ s ∷ [] → IsSel state nodes n cases default s
is_sel_node state nodes n cases default s h e f =
    let fits : types_fit [] (types_behind state nodes) n (attributes.Cases cases default) ≡ true = ap (types_fit [] (types_behind state nodes) n) (sym e) ∙ (both (is_met (count_of n.op) (length n.operands)) (types_fit [] (types_behind state nodes) n n.attributes) h.fits).1 in
    let sel : sel_fits cases default (types_behind state nodes) (s ∷ []) n.ty ≡ true = ap (λ os. sel_fits cases default (types_behind state nodes) os n.ty) (sym f) ∙ (both (is_sel n.op) (sel_fits cases default (types_behind state nodes) n.operands n.ty) fits).1 in
    let there = both (are_there (length nodes) cases) (is_there_if (length nodes) default) (ap (attributes_there (length nodes)) (sym e) ∙ h.attributes) in
    record {
      attributes = e;
      operands = f;
      select = is_select state nodes n.ty cases default s sel;
      selector_there = (both (is_there (length nodes) s) true (ap (are_there (length nodes)) (sym f) ∙ h.operands)).0;
      cases_there = there.0;
      default_there = there.1;
    }

-- one that is chosen whatever the selector's value is
stands : (state : IrType) (nodes : List Node) (n : Node) (cases : List Operand) (default : Option Operand) (s o : Operand) (k : ℕ) (h : IsSel state nodes n cases default s) → chosen cases default k ≡ Some o → ((st : Value) (values : List Value) → AreValues state nodes st values → (x : HasWord h.select.width (operand_value st values s)) → chosen cases default x.word.value ≡ Some o) → OperandSimulates state nodes n o
stands state nodes n cases default s o k h e always = record {
  there = chosen_passes (is_there (length nodes)) cases default k o h.cases_there (default_there (length nodes) default h.default_there) e;
  ty = sym (same_is n.ty (type_in (types_behind state nodes) o) (chosen_passes (λ c. same_type n.ty (type_in (types_behind state nodes) c)) cases default k o h.select.alike (default_like state nodes n.ty default h.select.default_alike) e));
  value = λ st values v.
      let has = bits_word state nodes st values v s h.selector_there h.select.width h.select.selector in
      sym (by_cases n cases default s st values h.attributes h.operands
      ∙ on_bits (λ x. optional_value st values (chosen cases default x.value)) (operand_value st values s) has.word has.is
      ∙ ap (optional_value st values) (always st values v has));
}

-- the case of a literal
literal_stands : (state : IrType) (nodes : List Node) (n : Node) (cases : List Operand) (default : Option Operand) (s o : Operand) (k : ℕ) → IsSel state nodes n cases default s → literal_number nodes s ≡ Some k → chosen cases default k ≡ Some o → OperandSimulates state nodes n o
literal_stands state nodes n cases default operand.State o k h l e = absurd (cc)
literal_stands state nodes n cases default (operand.Node j) o k h l e =
    let there = node_there nodes j h.selector_there in
    let m = there.0 in
    let literal = literal_is m k (sym (ap number_in there.1) ∙ l) in
    let t : m.ty ≡ Bits h.select.width [] = sym (ap (type_or (Token [])) there.1) ∙ h.select.selector in
    stands state nodes n cases default (operand.Node j) o k h e
    (λ st values v has.
    let is = literal_value state nodes st values v j m k h.select.width there.1 literal t has in
    let same : value.Bits has.word ≡ value.Bits (word (bounded h.select.width) k) = sym has.is ∙ is in
    ap (chosen cases default) (ap (λ (x : Word). x.value) (bits_same has.word (word (bounded h.select.width) k) same)) ∙ e)
  where
    bits_same : (x y : Word) → value.Bits x ≡ value.Bits y → x ≡ y
    bits_same x y e =
        let open_is : Value-F.Bits x ≡ Value-F.Bits y = sym (outs-Bits x) ∙ (ap out-Value e ∙ outs-Bits y) in cc

-- ---- one node as all cases

same_is_same : (a b : Operand) → same_operand a b ≡ true → a ≡ b
same_is_same operand.State operand.State h = refl
same_is_same operand.State (operand.Node j) h = absurd (cc)
same_is_same (operand.Node i) operand.State h = absurd (cc)
same_is_same (operand.Node i) (operand.Node j) h = let e : i ≡ j = grind (arith, nat_tests, h) in ap operand.Node e

all_chosen : (c : Operand) (cases : List Operand) (default : Option Operand) (k : ℕ) → list_all (same_operand c) cases ≡ true → (length cases ≤ k → default ≡ Some c) → chosen cases default k ≡ Some c
all_chosen c [] default k h d = d (omega arith)
all_chosen c (x ∷ xs) default zero h d = ap Some (sym (same_is_same c x (both (same_operand c x) (list_all (same_operand c) xs) h).0))
all_chosen c (x ∷ xs) default (suc k) h d = all_chosen c xs default k (both (same_operand c x) (list_all (same_operand c) xs) h).1 (λ less. d (omega (arith, less)))

default_is : (c : Operand) (default : Option Operand) (fewer : Bool) → fewer ≡ true → defaults fewer default ≡ true → is_default c default ≡ true → default ≡ Some c
default_is c None true e h k = absurd (cc)
default_is c None false e h k = absurd (cc)
default_is c (Some d) fewer e h k = ap Some (sym (same_is_same c d k))

if_some : (b : Bool) (c o : Operand) → (if b then Some c else None) ≡ Some o → (b ≡ true) × (c ≡ o)
if_some true c o e = (refl, cc)
if_some false c o e = absurd (cc)

one_stands : (state : IrType) (nodes : List Node) (n : Node) (cases : List Operand) (default : Option Operand) (s o : Operand) → IsSel state nodes n cases default s → one_of cases default ≡ Some o → OperandSimulates state nodes n o
one_stands state nodes n [] default s o h e = absurd (cc)
one_stands state nodes n (c ∷ cs) default s o h e =
    let found = if_some (is_default c default && list_all (same_operand c) (c ∷ cs)) c o e in
    let tests = both (is_default c default) (list_all (same_operand c) (c ∷ cs)) found.0 in
    let counted = both (nat_lt 0 (length (c ∷ cs))) (nat_le (length (c ∷ cs)) (2 ^ min h.select.width 128) && defaults (nat_lt (length (c ∷ cs)) (2 ^ min h.select.width 128)) default) h.select.counted in
    let by_default = (both (nat_le (length (c ∷ cs)) (2 ^ min h.select.width 128)) (defaults (nat_lt (length (c ∷ cs)) (2 ^ min h.select.width 128)) default) counted.1).1 in
    stands state nodes n (c ∷ cs) default s o 0 h (ap Some found.1)
    (λ st values v has.
    all_chosen c (c ∷ cs) default has.word.value tests.1
    (λ less.
    let most : h.select.width ≤ 128 = subst (λ w. w ≤ 128) has.of.fits has.of.word.most_width in
    let whole : min h.select.width 128 ≡ h.select.width = omega arith in
    let range : has.word.value < 2 ^ min h.select.width 128 = subst (λ w. has.word.value < 2 ^ w) (has.of.fits ∙ sym whole) has.of.word.in_range in
    let fewer : length (c ∷ cs) < 2 ^ min h.select.width 128 = omega (arith, less, range) in
    default_is c default (nat_lt (length (c ∷ cs)) (2 ^ min h.select.width 128)) (grind (arith, nat_tests, fewer)) by_default tests.0)
    ∙ ap Some found.1)

choice_stands : (state : IrType) (nodes : List Node) (n : Node) (cases : List Operand) (default : Option Operand) (s o : Operand) (l : Option ℕ) → IsSel state nodes n cases default s → literal_number nodes s ≡ l → choice_by cases default l ≡ Some o → OperandSimulates state nodes n o
choice_stands state nodes n cases default s o None h e f = one_stands state nodes n cases default s o h f
choice_stands state nodes n cases default s o (Some k) h e f = literal_stands state nodes n cases default s o k h e f

among_stands : (state : IrType) (nodes : List Node) (n : Node) (cases : List Operand) (default : Option Operand) (o : Operand) (os : List Operand) → FitsAt state nodes (length nodes) n → n.attributes ≡ attributes.Cases cases default → n.operands ≡ os → choice_among nodes cases default os ≡ Some o → OperandSimulates state nodes n o
among_stands state nodes n cases default o [] h e f g = absurd (cc)
among_stands state nodes n cases default o (s ∷ []) h e f g = choice_stands state nodes n cases default s o (literal_number nodes s) (is_sel_node state nodes n cases default s h e f) refl g
among_stands state nodes n cases default o (s ∷ t ∷ os) h e f g = absurd (cc)

in_stands : (state : IrType) (nodes : List Node) (n : Node) (o : Operand) (a : Attributes) → FitsAt state nodes (length nodes) n → n.attributes ≡ a → choice_in nodes n.operands a ≡ Some o → OperandSimulates state nodes n o
in_stands state nodes n o attributes.None h e g = absurd (cc)
in_stands state nodes n o (attributes.StartAndWidth start width) h e g = absurd (cc)
in_stands state nodes n o (attributes.Width width) h e g = absurd (cc)
in_stands state nodes n o (attributes.NewBitCount width) h e g = absurd (cc)
in_stands state nodes n o (attributes.Cases cases default) h e g = among_stands state nodes n cases default o n.operands h e refl g
in_stands state nodes n o (attributes.Index i) h e g = absurd (cc)
in_stands state nodes n o (attributes.Indices i) h e g = absurd (cc)
in_stands state nodes n o (attributes.Value c) h e g = absurd (cc)
in_stands state nodes n o (attributes.Channel predicate c) h e g = absurd (cc)

pub choice_rewrites : (state : IrType) (nodes : List Node) (n : Node) (o : Operand) → AreBuilt state nodes → FitsAt state nodes (length nodes) n → choice_of nodes n ≡ Some o → Rewrites state nodes nodes n o
choice_rewrites state nodes n o built h g = answered state nodes n o built (in_stands state nodes n o n.attributes h refl g)
