-- A node that shows no choice and can't be folded: its operands aren't all literals, and it is no select of one operand.
use Rattle.std.proofs.Common.{◌≡◌, ℕ, zero, suc, ◌^◌, ◌<◌, ◌≤◌, min, List, [], ◌∷◌, ◌++◌, length, Bool, true, false, ◌&&◌, Option, Some, None, refl, sym, ap, subst, ◌∙◌, arith}
use Rattle.std.specs.Prelude.{nat_lt, nat_le, nat_eq, not, ◌||◌, if◌then◌else◌}
use Rattle.std.specs.List.{list_all}
use Rattle.std.proofs.lemmas.Bool.Decides.{nat_tests}
use Rattle.std.proofs.lemmas.List.Folds.{list_all-append}
use Rattle.xb_value.specs.declared.ty.Ty as ty
use Rattle.delay_model.specs.declared.op.Op.{Op}
use Rattle.delay_model.specs.declared.op.Op.TheVariants as op
use Rattle.delay_model.specs.Signatures.{is_met, count_of}
use Rattle.ir_tree.specs.declared.ir_type.IrType.{IrType, Bits, Token}
use Rattle.ir_tree.specs.declared.constant.Constant.{Constant, out-Constant}
use Rattle.ir_tree.specs.declared.constant.Constant.TheOpen.{Constant-F}
use Rattle.ir_tree.specs.declared.node.Operand.{Operand}
use Rattle.ir_tree.specs.declared.node.Operand.TheVariants as operand
use Rattle.ir_tree.specs.declared.node.Node.{Node}
use Rattle.ir_tree.specs.declared.node.Attributes.{Attributes}
use Rattle.ir_tree.specs.declared.node.Attributes.TheVariants as attributes
use Rattle.ir_tree.specs.Types.{ty_of, bounded}
use Rattle.ir_tree.specs.Operations.{chosen}
use Rattle.ir_tree.specs.NodeTypes.Types.{marks_of, is_bits_where}
use Rattle.ir_tree.specs.NodeTypes.Constants.{constant_fits, number_fits}
use Rattle.ir_tree.specs.Rules.Fitting.{type_in, type_or, types_behind, types_fit, sel_fits, is_sel, cases_count, defaults}
use Rattle.ir_tree.specs.Rules.Lines.{is_there, are_there, is_literal_of}
use Rattle.ir_tree.proofs.Lemmas.NodeTypes.IrTypes.{ty_of-Bits}
use Rattle.ir_tree.proofs.Lemmas.NodeTypes.ConstantCases.{fits-Bits}
use Rattle.ir_tree.proofs.Lemmas.Rules.Typed.Tests.{bits_is}
use Rattle.ir_rebuild.specs.Operands.{node_of, optional_operand}
use Rattle.ir_rebuild.specs.Built.{FitsAt, AreBuilt, is_plain_op}
use Rattle.ir_rebuild.proofs.Lemmas.{node_there}
use Rattle.ir_rebuild.specs.Normal.Patterns.{is_literal_op}
use Rattle.ir_rebuild.specs.Normal.Normal.{is_literal_node, names_literal, all_literals, same_operand, are_one, is_cases, chooses_one}
use Rattle.ir_rebuild.proofs.Lemmas.Normal.{op_is_literal, constant_there}
use Rattle.ir_passes.specs.Undecided.{IsUndecided}
use Rattle.pass_select.specs.Choices.{number_there, literal_of, literal_at, number_in, literal_number, is_default, one_of, choice_by, choice_among, choice_in, choice_of}

both : (a b : Bool) → a && b ≡ true → (a ≡ true) × (b ≡ true)
both true true h = (refl, refl)
both true false h = absurd (cc)
both false b h = absurd (cc)

either : {A : Type 0} (b : Bool) → (b ≡ true → A) → (b ≡ false → A) → A
either true yes_case no_case = yes_case refl
either false yes_case no_case = no_case refl

-- ---- the number of a literal

record HasNumber (n : Node) (w : ℕ) : Type 0 where
  number : ℕ
  is : literal_at n.op n.attributes ≡ Some number
  fits : number < 2 ^ min (bounded w) 128

number_of : (x : Constant-F Constant) (w : ℕ) → number_fits w x ≡ true → (k : ℕ) × (number_there x ≡ Some k) × (k < 2 ^ min w 128)
number_of (Constant-F.Number k) w h = (k, refl, grind (arith, nat_tests, h))
number_of (Constant-F.Tuple cs) w h = absurd (cc)
number_of (Constant-F.Array cs) w h = absurd (cc)

at_literal : (o : Op) (a : Attributes) → is_literal_op o ≡ true → literal_at o a ≡ literal_of a
at_literal op.Literal a h = refl
at_literal o a h = absurd (cc)

-- a literal of bits has a number of so many
literal_number_of : (state : IrType) (nodes : List Node) (j : ℕ) (n : Node) (w : ℕ) → FitsAt state nodes j n → is_literal_op n.op ≡ true → n.ty ≡ Bits w [] → HasNumber n w
literal_number_of state nodes j n w fits_at literal t =
    let scope = types_behind state nodes in
    let fits = (both (is_met (count_of n.op) (length n.operands)) (types_fit [] scope n n.attributes) fits_at.fits).1 in
    let written = constant_there scope n n.attributes (op_is_literal n.op literal) fits in
    let typed : is_literal_of n.ty (attributes.Value written.0) ≡ true = ap (is_literal_of n.ty) (sym written.1) ∙ (both (marks_of n.ty).sound (is_literal_of n.ty n.attributes) fits_at.typed).1 in
    let own = (both (not (marks_of n.ty).token) (constant_fits (ty_of n.ty) written.0) typed).1 in
    let bits : constant_fits (ty.Bits (bounded w)) written.0 ≡ true = ap (λ u. constant_fits u written.0) (sym (ap ty_of t ∙ ty_of-Bits w [])) ∙ own in
    let found = number_of (out-Constant written.0) (bounded w) (sym (fits-Bits (bounded w) written.0) ∙ bits) in
    record {
      number = found.0;
      is = ap (literal_at n.op) written.1 ∙ at_literal n.op (attributes.Value written.0) literal ∙ found.1;
      fits = found.2;
    }

-- ---- what a number chooses

chosen_none : (cs : List Operand) (k : ℕ) → chosen cs None k ≡ None → length cs ≤ k
chosen_none [] k e = omega arith
chosen_none (c ∷ cs) zero e = absurd (cc)
chosen_none (c ∷ cs) (suc k) e = let less = chosen_none cs k e in omega (arith, less)

chosen_some : (cs : List Operand) (d : Operand) (k : ℕ) → chosen cs (Some d) k ≡ None → ⊥
chosen_some [] d k e = absurd (cc)
chosen_some (c ∷ cs) d zero e = absurd (cc)
chosen_some (c ∷ cs) d (suc k) e = chosen_some cs d k e

some_chosen : (cs : List Operand) (default : Option Operand) (k w : ℕ) → cases_count (length cs) default w ≡ true → k < 2 ^ min w 128 → chosen cs default k ≡ None → ⊥
some_chosen cs None k w counted range e =
    let a = both (nat_lt 0 (length cs)) (nat_le (length cs) (2 ^ min w 128) && defaults (nat_lt (length cs) (2 ^ min w 128)) None) counted in
    let b = both (nat_le (length cs) (2 ^ min w 128)) (defaults (nat_lt (length cs) (2 ^ min w 128)) None) a.1 in
    let past = chosen_none cs k e in
    let less : length cs < 2 ^ min w 128 = omega (arith, past, range) in
    let test : nat_lt (length cs) (2 ^ min w 128) ≡ true = grind (arith, nat_tests, less) in
    let never : not true ≡ true = ap not (sym test) ∙ b.1 in
    absurd (cc)
some_chosen cs (Some d) k w counted range e = chosen_some cs d k e

-- ---- one operand all over

pub same_itself : (c : Operand) → same_operand c c ≡ true
same_itself operand.State = refl
same_itself (operand.Node i) = grind (arith, nat_tests)

none_if : (b : Bool) (c : Operand) → (if b then Some c else None) ≡ None → b ≡ false
none_if true c e = absurd (cc)
none_if false c e = refl

default_same : (c : Operand) (default : Option Operand) → list_all (same_operand c) (optional_operand default) ≡ true → is_default c default ≡ true
default_same c None h = refl
default_same c (Some d) h = (both (same_operand c d) true h).0

and_both : (a b : Bool) → a ≡ true → b ≡ true → a && b ≡ true
and_both true b h k = k
and_both false b h k = absurd (cc)

not_one : (c : Operand) (cs : List Operand) (default : Option Operand) → one_of (c ∷ cs) default ≡ None → are_one ((c ∷ cs) ++ optional_operand default) ≡ false
not_one c cs default e =
    either (are_one ((c ∷ cs) ++ optional_operand default))
    (λ one.
    let parts = both (list_all (same_operand c) cs) (list_all (same_operand c) (optional_operand default)) (sym (list_all-append (same_operand c) cs (optional_operand default)) ∙ one) in
    let test : is_default c default && list_all (same_operand c) (c ∷ cs) ≡ true = and_both _ _ (default_same c default parts.1) (and_both (same_operand c c) _ (same_itself c) parts.0) in
    let never : true ≡ false = sym test ∙ none_if (is_default c default && list_all (same_operand c) (c ∷ cs)) c e in
    absurd (cc))
    (λ other. other)

-- ---- a select

record IsOpen (nodes : List Node) (s : Operand) (cases : List Operand) (default : Option Operand) : Type 0 where
  selector : names_literal nodes s ≡ false
  cases_differ : are_one (cases ++ optional_operand default) ≡ false

pub no_number : (x : Option Node) → is_literal_node x ≡ false → number_in x ≡ None
no_number None h = refl
no_number (Some n) h = by_op n.op h
  where
    by_op : (o : Op) → is_literal_op o ≡ false → literal_at o n.attributes ≡ None
    by_op op.Literal h = absurd (cc)
    by_op o h = refl

no_cases : (nodes : List Node) (s : Operand) (cases : List Operand) (default : Option Operand) (w : ℕ) → cases_count (length cases) default w ≡ true → one_of cases default ≡ None → are_one (cases ++ optional_operand default) ≡ false
no_cases nodes s [] default w counted e = absurd (cc)
no_cases nodes s (c ∷ cs) default w counted e = not_one c cs default e

-- the selector isn't a literal: its number would choose
not_literal : (state : IrType) (nodes : List Node) (s : Operand) (cases : List Operand) (default : Option Operand) (w : ℕ) → AreBuilt state nodes → is_there (length nodes) s ≡ true → type_in (types_behind state nodes) s ≡ Bits w [] → cases_count (length cases) default w ≡ true → choice_by cases default (literal_number nodes s) ≡ None → names_literal nodes s ≡ false
not_literal state nodes operand.State cases default w built there t counted e = refl
not_literal state nodes (operand.Node j) cases default w built there t counted e =
    either (names_literal nodes (operand.Node j))
    (λ literal.
    let at = node_there nodes j there in
    let own : is_literal_op at.0.op ≡ true = sym (ap is_literal_node at.1) ∙ literal in
    let plain : is_plain_op at.0.op ≡ true = ap is_plain_op (op_is_literal at.0.op own) in
    let typed : at.0.ty ≡ Bits w [] = sym (ap (type_or (Token [])) at.1) ∙ t in
    let number = literal_number_of state nodes j at.0 w (built.fits_at j at.0 at.1 plain) own typed in
    let is : literal_number nodes (operand.Node j) ≡ Some number.number = ap number_in at.1 ∙ number.is in
    let range : number.number < 2 ^ min w 128 = subst (λ k. number.number < 2 ^ k) (capped w) number.fits in
    absurd (some_chosen cases default number.number w counted range (sym (ap (choice_by cases default) is) ∙ e)))
    (λ other. other)
  where
    capped : (w : ℕ) → min (bounded w) 128 ≡ min w 128
    capped w = omega arith

open_select : (state : IrType) (nodes : List Node) (n : Node) (cases : List Operand) (default : Option Operand) (s : Operand) → AreBuilt state nodes → FitsAt state nodes (length nodes) n → n.attributes ≡ attributes.Cases cases default → n.operands ≡ s ∷ [] → choice_by cases default (literal_number nodes s) ≡ None → IsOpen nodes s cases default
open_select state nodes n cases default s built fits_at e f g =
    let scope = types_behind state nodes in
    let fits : types_fit [] scope n (attributes.Cases cases default) ≡ true = ap (types_fit [] scope n) (sym e) ∙ (both (is_met (count_of n.op) (length n.operands)) (types_fit [] scope n n.attributes) fits_at.fits).1 in
    let sel : sel_fits cases default scope (s ∷ []) n.ty ≡ true = ap (λ os. sel_fits cases default scope os n.ty) (sym f) ∙ (both (is_sel n.op) (sel_fits cases default scope n.operands n.ty) fits).1 in
    let a = both (list_all (λ o. is_bits_where (cases_count (length cases) default) (type_in scope o)) (s ∷ [])) _ sel in
    let bits = bits_is (cases_count (length cases) default) (type_in scope s) (both (is_bits_where (cases_count (length cases) default) (type_in scope s)) true a.0).0 in
    let there = (both (is_there (length nodes) s) true (ap (are_there (length nodes)) (sym f) ∙ fits_at.operands)).0 in
    let selector = not_literal state nodes s cases default bits.width built there bits.is bits.test g in
    let number : literal_number nodes s ≡ None = no_number (node_of nodes s) selector in
    record { selector = selector; cases_differ = no_cases nodes s cases default bits.width bits.test (sym (ap (choice_by cases default) number) ∙ g) }

-- ---- any node

-- a select, as a node
abbrev select : Node → Operand → List Operand → Option Operand → Node
select n s cases default = record { id = n.id; ty = n.ty; op = n.op; operands = s ∷ []; attributes = attributes.Cases cases default }

or_neither : (a b : Bool) → a ≡ false → b ≡ false → a || b ≡ false
or_neither true b h k = absurd (cc)
or_neither false b h k = k

select_undecided : (nodes : List Node) (n : Node) (s : Operand) (cases : List Operand) (default : Option Operand) → IsOpen nodes s cases default → IsUndecided nodes (select n s cases default)
select_undecided nodes n s cases default h = record {
  chosen = or_neither (all_literals nodes (s ∷ [])) (are_one (cases ++ optional_operand default)) (ap (λ b. b && true) h.selector) h.cases_differ;
  folded = λ e. ap (λ b. b && list_all (names_literal nodes) (cases ++ optional_operand default)) h.selector;
}

among_undecided : (state : IrType) (nodes : List Node) (n : Node) (cases : List Operand) (default : Option Operand) (os : List Operand) → AreBuilt state nodes → FitsAt state nodes (length nodes) n → n.attributes ≡ attributes.Cases cases default → n.operands ≡ os → choice_among nodes cases default os ≡ None → IsUndecided nodes n
among_undecided state nodes n cases default [] built fits_at e f g =
    absurd (
    let scope = types_behind state nodes in
    let count = (both (is_met (count_of n.op) (length n.operands)) (types_fit [] scope n n.attributes) fits_at.fits).0 in
    let fits : types_fit [] scope n (attributes.Cases cases default) ≡ true = ap (types_fit [] scope n) (sym e) ∙ (both (is_met (count_of n.op) (length n.operands)) (types_fit [] scope n n.attributes) fits_at.fits).1 in
    one_operand n.op (length n.operands) (both (is_sel n.op) (sel_fits cases default scope n.operands n.ty) fits).0 count (ap length f))
  where
    one_operand : (o : Op) (k : ℕ) → is_sel o ≡ true → is_met (count_of o) k ≡ true → k ≡ 0 → ⊥
    one_operand op.Sel k h m z = let never : is_met (count_of op.Sel) 0 ≡ true = ap (is_met (count_of op.Sel)) (sym z) ∙ m in absurd (cc)
    one_operand o k h m z = absurd (cc)
among_undecided state nodes n cases default (s ∷ []) built fits_at e f g =
    let same : select n s cases default ≡ n = λ k. record { id = n.id; ty = n.ty; op = n.op; operands = (sym f) k; attributes = (sym e) k } in
    subst (IsUndecided nodes) same (select_undecided nodes n s cases default (open_select state nodes n cases default s built fits_at e f g))
among_undecided state nodes n cases default (s ∷ t ∷ os) built fits_at e f g =
    absurd (
    let scope = types_behind state nodes in
    let count = (both (is_met (count_of n.op) (length n.operands)) (types_fit [] scope n n.attributes) fits_at.fits).0 in
    let fits : types_fit [] scope n (attributes.Cases cases default) ≡ true = ap (types_fit [] scope n) (sym e) ∙ (both (is_met (count_of n.op) (length n.operands)) (types_fit [] scope n n.attributes) fits_at.fits).1 in
    one_operand n.op (length os) (both (is_sel n.op) (sel_fits cases default scope n.operands n.ty) fits).0 (ap (is_met (count_of n.op)) (sym (ap length f)) ∙ count))
  where
    one_operand : (o : Op) (k : ℕ) → is_sel o ≡ true → is_met (count_of o) (suc (suc k)) ≡ true → ⊥
    one_operand op.Sel k h m = let never : nat_eq (suc (suc k)) 1 ≡ true = m in absurd (grind (arith, nat_tests, never))
    one_operand o k h m = absurd (cc)

no_select : (nodes : List Node) (n : Node) (a : Attributes) → n.attributes ≡ a → is_cases a ≡ false → IsUndecided nodes n
no_select nodes n a e h = record { chosen = ap (chooses_one nodes n.operands) e ∙ none a h; folded = λ k. let never : true ≡ false = sym k ∙ ap is_cases e ∙ h in absurd (cc) }
  where
    none : (a : Attributes) → is_cases a ≡ false → chooses_one nodes n.operands a ≡ false
    none (attributes.Cases cases default) h = absurd (cc)
    none a h = refl

pub undecided : (state : IrType) (nodes : List Node) (n : Node) → AreBuilt state nodes → FitsAt state nodes (length nodes) n → choice_of nodes n ≡ None → IsUndecided nodes n
undecided state nodes n built fits_at g = by_attributes n.attributes refl g
  where
    by_attributes : (a : Attributes) → n.attributes ≡ a → choice_in nodes n.operands a ≡ None → IsUndecided nodes n
    by_attributes (attributes.Cases cases default) e h = among_undecided state nodes n cases default n.operands built fits_at e refl h
    by_attributes attributes.None e h = no_select nodes n attributes.None e refl
    by_attributes (attributes.StartAndWidth start width) e h = no_select nodes n (attributes.StartAndWidth start width) e refl
    by_attributes (attributes.Width width) e h = no_select nodes n (attributes.Width width) e refl
    by_attributes (attributes.NewBitCount width) e h = no_select nodes n (attributes.NewBitCount width) e refl
    by_attributes (attributes.Index i) e h = no_select nodes n (attributes.Index i) e refl
    by_attributes (attributes.Indices i) e h = no_select nodes n (attributes.Indices i) e refl
    by_attributes (attributes.Value c) e h = no_select nodes n (attributes.Value c) e refl
    by_attributes (attributes.Channel predicate c) e h = no_select nodes n (attributes.Channel predicate c) e refl
