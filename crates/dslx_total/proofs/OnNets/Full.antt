-- A written type has bits where it isn't (): no () stands inside a type.
use Rattle.std.proofs.Common.{◌≡◌, ◌≤◌, ◌||◌, ◌++◌, ◌*◌, ℕ, zero, suc, Bool, true, false, List, [], ◌∷◌, map, Option, Some, None, arith, refl, sym, ap, subst, ◌∙◌}
use mathlib.Core.Bool.{true≢false}
use Rattle.std.specs.Prelude.{sum}
use Rattle.std.proofs.lemmas.Bool.Decides.{Decides-ltb}
use Rattle.std.proofs.lemmas.List.Sums.{sum_by-cons}
use Rattle.std.proofs.Math.Nat.{suc-mul}
use Rattle.xb_span.specs.declared.fault.Fault.{Fault}
use Rattle.xb_span.specs.declared.limit.What.TheVariants as what
use Rattle.xb_span.specs.declared.span.Span.{Span}
use Rattle.xb_value.specs.Width.{width_of}
use Rattle.xb_value.proofs.Lemmas.Types.{EachHas, width_of-Array, width_of-Bits, width_of-Tuple}
use Rattle.dslx_tree.proofs.Lemmas.Folds.Folds.{fold_expr, fold_type_expr, fold_type_expr-roll, fold_type_node, fold_type_node-roll, folds}
use Rattle.dslx_tree.proofs.Lemmas.Folds.Levels.{Carriers, Maps, TypeNodeLevel, map_type_expr, map_type_node, trees}
use Rattle.dslx_tree.specs.declared.block.Stmt.TheOpen.{TypeNode-F}
use Rattle.dslx_tree.specs.declared.item.Definition.{Definition}
use Rattle.dslx_tree.specs.declared.item.Definition.TheVariants as d
use Rattle.dslx_tree.specs.declared.item.Field.{Field}
use Rattle.dslx_tree.specs.declared.item.Module.{Module}
use Rattle.dslx_tree.specs.declared.type_expr.TypeExpr.{TypeExpr}
use Rattle.dslx_meaning.specs.Items.{item_named, name_of_field}
use Rattle.dslx_meaning.specs.Lists.{all_some, and_then, with_both}
use Rattle.dslx_meaning.specs.Meaning.{some_count}
use Rattle.dslx_meaning.specs.Types.{bits_in, flat_bits, is_unit, is_unit_step, leaves_of, levels_of, plain_type}
use Rattle.dslx_meaning.specs.declared.ty.BitKind.{BitKind}
use Rattle.dslx_meaning.specs.declared.ty.DslxType.{DslxType}
use Rattle.dslx_meaning.specs.declared.ty.DslxType as ty
use Rattle.dslx_meaning.specs.declared.ty.DslxType.TheOpen.{DslxType-F}
use Rattle.dslx_meaning.specs.declared.ty.DslxType.TheVariants as rolls
use Rattle.dslx_meaning.specs.declared.ty.DslxType.TheViews as views
use Rattle.dslx_meaning.specs.Rules.ConstantRules.{constant_or_untyped, count_faults, count_number, count_of, is_empty}
use Rattle.dslx_meaning.specs.Rules.ItemRules.{base_if_bits, enum_of_base, fields_found, fields_types, has_equal_values, item_type_env, member_values, members_found, typing_of_inner, typing_of_type}
use Rattle.dslx_meaning.specs.Rules.Mentions.{AsType, is_of_use}
use Rattle.dslx_meaning.specs.Rules.ModuleRules.{globals_within, type_known}
use Rattle.dslx_meaning.specs.Rules.NameRules.{listed_name}
use Rattle.dslx_meaning.specs.Rules.NodeRules.{type_pair}
use Rattle.dslx_meaning.specs.Rules.OperatorRules.{is_bits, unless_type}
use Rattle.dslx_meaning.specs.Rules.TypeEnvs.{ExprPair, GlobalEnv, Instance, TypeEnv, breaks_if, faults_of_all, has_broken, leaf_widths, passes, passes_widths, reached_of_all, settled, type_limits, types_of, unless_broken}
use Rattle.dslx_meaning.specs.Rules.TypeRules.{array_of, counted_type, inner_type, inner_types, named_bits, named_type, span_of_type, unit_faults}
use Rattle.dslx_meaning.specs.Rules.Typings.{TypeExprTyping, TypePair}
use Rattle.dslx_core.proofs.Lemmas.Typing.Sound.{HoldOn, TreeClaims, held, held_tree, holds_type_expr, none_in, none_in_three, some_fault}
use Rattle.dslx_core.proofs.Lemmas.Typing.Typed.{all_there, list_parts, none_some, rule_holds, same_some, settled_type, type_induction, unbroken_parts}
use Rattle.dslx_core.proofs.Lemmas.Typing.TypingRelations.{whole_is}
use Rattle.dslx_total.specs.Expressions.Beside.{NamesAreFull, NamesHaveWidths, has_widths}
use Rattle.dslx_total.proofs.Lemmas.Expressions.{in_enum}
use Rattle.dslx_total.proofs.OnWords.Narrow.{bits_are, plain_is}
use Rattle.dslx_total.proofs.OnExpressions.Joined.{seen, seeing}

-- ---- bits of a type

abbrev AsManyBits : DslxType → Type 0
AsManyBits t = width_of (plain_type t) ≡ flat_bits t

parts_bits : (ts : List DslxType) → EachHas AsManyBits ts → sum (map width_of (map plain_type ts)) ≡ sum (map flat_bits ts)
parts_bits [] h = refl
parts_bits (t ∷ ts) h =
    let a = sum_by-cons (λ n. n) (width_of (plain_type t)) (map width_of (map plain_type ts)) in
    let b = sum_by-cons (λ n. n) (flat_bits t) (map flat_bits ts) in
    let first = h.0 in
    let rest = parts_bits ts h.1 in
    omega (arith, a, b, first, rest)

-- as many without signs and names
pub as_many_bits : (t : DslxType) → AsManyBits t
as_many_bits = type_induction AsManyBits
    (λ s w. ap width_of (plain_is (DslxType-F.Bits s w) (ty.Bits s w) (rolls.rolls-Bits s w)) ∙ width_of-Bits w ∙ sym (bits_are (DslxType-F.Bits s w) (ty.Bits s w) (rolls.rolls-Bits s w)))
    (λ ts h. ap width_of (plain_is (DslxType-F.Tuple ts) (ty.Tuple ts) (rolls.rolls-Tuple ts)) ∙ width_of-Tuple (map plain_type ts) ∙ parts_bits ts h ∙ sym (bits_are (DslxType-F.Tuple ts) (ty.Tuple ts) (rolls.rolls-Tuple ts)))
    (λ t n h. ap width_of (plain_is (DslxType-F.Array t n) (ty.Array t n) (rolls.rolls-Array t n)) ∙ width_of-Array (plain_type t) n ∙ ap (λ k. n * k) h ∙ sym (bits_are (DslxType-F.Array t n) (ty.Array t n) (rolls.rolls-Array t n)))
    (λ name fields ts h. ap width_of (plain_is (DslxType-F.Struct name fields ts) (ty.Struct name fields ts) (rolls.rolls-Struct name fields ts)) ∙ width_of-Tuple (map plain_type ts) ∙ parts_bits ts h
    ∙ sym (bits_are (DslxType-F.Struct name fields ts) (ty.Struct name fields ts) (rolls.rolls-Struct name fields ts)))
    (λ name s w. ap width_of (plain_is (DslxType-F.Enum name s w) (ty.Enum name s w) (rolls.rolls-Enum name s w)) ∙ width_of-Bits w ∙ sym (bits_are (DslxType-F.Enum name s w) (ty.Enum name s w) (rolls.rolls-Enum name s w)))
    (ap width_of (plain_is DslxType-F.Token ty.Token rolls.rolls-Token) ∙ width_of-Tuple [] ∙ sym (bits_are DslxType-F.Token ty.Token rolls.rolls-Token))

-- ---- types of texts

-- a written type has bits where it isn't ()
abbrev pub IsFull : TypeExprTyping → Type 0
IsFull j = (context : TypeEnv) → NamesAreFull context.known → (t : DslxType) → (j context).ty ≡ Some t → is_unit t ≡ false → 1 ≤ flat_bits t

bits_full : (s : Bool) (n : ℕ) (t : DslxType) → Some (ty.Bits s (suc n)) ≡ Some t → 1 ≤ flat_bits t
bits_full s n t e =
    let many : flat_bits t ≡ suc n = ap flat_bits (sym (same_some (ty.Bits s (suc n)) t e)) ∙ bits_are (DslxType-F.Bits s (suc n)) (ty.Bits s (suc n)) (rolls.rolls-Bits s (suc n)) in
    omega (arith, many)

named_bits_full : (span : Span) (s : Bool) (w : ℕ) → IsFull (λ context. named_bits span s w)
named_bits_full span s zero context names t e u = none_some t e
named_bits_full span s (suc n) context names t e u = bits_full s n t e

wide_full : (span : Span) (s : Bool) (e : ExprPair) → IsFull (λ context. counted_type span (and_then (count_of context e).count (λ w. Some (ty.Bits s w))) [] (count_of context e))
wide_full span s e context names t q u =
    let n = count_of context e in
    by_number (count_number (constant_or_untyped context e)) (settled_type (and_then n.count (λ w. Some (ty.Bits s w))) n.judgement.faults t q).1
  where
    by_number : (o : Option ℕ) → and_then (and_then o some_count) (λ w. Some (ty.Bits s w)) ≡ Some t → 1 ≤ flat_bits t
    by_number None r = none_some t r
    by_number (Some zero) r = none_some t r
    by_number (Some (suc n)) r = bits_full s n t r

named_full : (span : Span) (name : List ℕ) (test : TypeEnv → Bool) → IsFull (λ context. named_type span context name (test context))
named_full span name test context names t e u = by_test (test context) e
  where
    by_test : (b : Bool) → (named_type span context name b).ty ≡ Some t → 1 ≤ flat_bits t
    by_test false q = none_some t q
    by_test true q = names name t (settled_type (context.known.items.type_named name) (breaks_if (context.known.is_cyclic context.owner name) 3 span) t q).1 u

abbrev EachIsFull : List TypePair → Type 0
EachIsFull [] = Unit {0}
EachIsFull (p ∷ ps) = IsFull p.1 × EachIsFull ps

-- a type inside another isn't ()
inner_full : (p : TypePair) → IsFull p.1 → (context : TypeEnv) → NamesAreFull context.known → (t : DslxType) → (inner_type context p).ty ≡ Some t → has_broken (inner_type context p).faults ≡ false → 1 ≤ flat_bits t
inner_full p full context names t e unbroken =
    let units = (unbroken_parts (p.1 context).faults (unit_faults (span_of_type p) (p.1 context).ty) unbroken).1 in
    full context names t e (rule_holds (is_unit t) 31 (span_of_type p) ((λ i. has_broken (unit_faults (span_of_type p) (sym e i))) ∙ units))

first_bits : (t : DslxType) (ts : List DslxType) → 1 ≤ flat_bits t → 1 ≤ sum (map flat_bits (t ∷ ts))
first_bits t ts h = let both = sum_by-cons (λ n. n) (flat_bits t) (map flat_bits ts) in omega (arith, both, h)

no_parts_is_unit : is_unit (ty.Tuple []) ≡ true
no_parts_is_unit = ap is_unit_step (views.outs-Tuple [])

tuple_full : (span : Span) (ps : List TypePair) → EachIsFull ps
    → IsFull (λ context. settled span (and_then (all_some (types_of (inner_types context ps))) (λ ts. Some (ty.Tuple ts))) (faults_of_all (inner_types context ps)) (reached_of_all (inner_types context ps)) (Some 0))
tuple_full span ps each context names t e u =
    let js = inner_types context ps in
    let q = settled_type (and_then (all_some (types_of js)) (λ ts. Some (ty.Tuple ts))) (faults_of_all js) t e in
    by_parts (all_some (types_of js)) refl q.0 q.1
  where
    sum_full : (qs : List TypePair) → EachIsFull qs → has_broken (faults_of_all (inner_types context qs)) ≡ false → (ts : List DslxType) → types_of (inner_types context qs) ≡ map Some ts → is_unit (ty.Tuple ts) ≡ false → 1 ≤ sum (map flat_bits ts)
    sum_full qs k f [] r v = absurd (true≢false (sym no_parts_is_unit ∙ v))
    sum_full [] k f (x ∷ xs) r v = some_fault (Some x) (map Some xs) (sym r)
    sum_full (p ∷ qs) k f (x ∷ xs) r v =
        let own = (list_parts (inner_type context p).ty (Some x) (types_of (inner_types context qs)) (map Some xs) r).0 in
        first_bits x xs (inner_full p k.0 context names x own (unbroken_parts (inner_type context p).faults (faults_of_all (inner_types context qs)) f).0)

    by_parts : (o : Option (List DslxType)) → all_some (types_of (inner_types context ps)) ≡ o → has_broken (faults_of_all (inner_types context ps)) ≡ false → and_then o (λ ts. Some (ty.Tuple ts)) ≡ Some t → 1 ≤ flat_bits t
    by_parts None r f q = none_some t q
    by_parts (Some ts) r f q =
        let same = same_some (ty.Tuple ts) t q in
        let many = sum_full ps each f ts (all_there (types_of (inner_types context ps)) ts r) (ap is_unit same ∙ u) in
        let whole : flat_bits t ≡ sum (map flat_bits ts) = ap flat_bits (sym same) ∙ bits_are (DslxType-F.Tuple ts) (ty.Tuple ts) (rolls.rolls-Tuple ts) in
        omega (arith, many, whole)

array_full : (span : Span) (p : TypePair) (e : ExprPair) → IsFull p.1 → IsFull (λ context. array_of span (inner_type context p) (count_of context e))
array_full span p e full context names t q u =
    let a = inner_type context p in
    let n = count_of context e in
    let s = settled_type (with_both a.ty n.count (λ t n. Some (ty.Array t n))) (a.faults ++ n.judgement.faults) t q in
    by_parts a.ty refl (unbroken_parts a.faults n.judgement.faults s.0).0 (count_number (constant_or_untyped context e)) s.1
  where
    by_parts : (o : Option DslxType) → (p.1 context).ty ≡ o → has_broken (inner_type context p).faults ≡ false → (n : Option ℕ) → with_both o (and_then n some_count) (λ t n. Some (ty.Array t n)) ≡ Some t → 1 ≤ flat_bits t
    by_parts None is f n r = none_some t r
    by_parts (Some v) is f None r = none_some t r
    by_parts (Some v) is f (Some zero) r = none_some t r
    by_parts (Some v) is f (Some (suc n)) r =
        let one = inner_full p full context names v is f in
        let whole : flat_bits t ≡ suc n * flat_bits v = ap flat_bits (sym (same_some (ty.Array v (suc n)) t r)) ∙ bits_are (DslxType-F.Array v (suc n)) (ty.Array v (suc n)) (rolls.rolls-Array v (suc n)) in
        let more = suc-mul n (flat_bits v) in
        omega (arith, one, whole, more)

-- ---- limits

-- without faults all leaves are within the limit on widths
abbrev pub IsWithin : TypeExprTyping → Type 0
IsWithin j = (context : TypeEnv) → (j context).faults ≡ [] → (t : DslxType) → (j context).ty ≡ Some t → (at : ℕ) × (passes_widths at (leaf_widths t) ≡ [])

settled_within : (span : Span) (own : Option DslxType) (named : List Fault) (found : List Instance) (size : Option ℕ) → (settled span own named found size).faults ≡ [] → (t : DslxType) → (settled span own named found size).ty ≡ Some t
    → (at : ℕ) × (passes_widths at (leaf_widths t) ≡ [])
settled_within span own named found size f t e =
    let limits = (none_in named (type_limits span.to (unless_broken named own)) f).1 in
    (span.to, (none_in_three (passes_widths span.to (leaf_widths t)) (passes what.Leaves 256 span.to (leaves_of t)) (passes what.Levels 64 span.to (levels_of t)) ((λ i. type_limits span.to (sym e i)) ∙ limits)).0)

named_within : (span : Span) (name : List ℕ) (test : TypeEnv → Bool) → IsWithin (λ context. named_type span context name (test context))
named_within span name test context f t e = by_test (test context) f e
  where
    by_test : (b : Bool) → (named_type span context name b).faults ≡ [] → (named_type span context name b).ty ≡ Some t → (at : ℕ) × (passes_widths at (leaf_widths t) ≡ [])
    by_test false g q = none_some t q
    by_test true g q = settled_within span (context.known.items.type_named name) (breaks_if (context.known.is_cyclic context.owner name) 3 span) [] (Some 0) g t q

counted_within : (span : Span) (own : TypeEnv → Option DslxType) (faults : TypeEnv → List Fault) (e : ExprPair) → IsWithin (λ context. counted_type span (own context) (faults context) (count_of context e))
counted_within span own faults e context f t q =
    let n = count_of context e in
    settled_within span (own context) (faults context ++ n.judgement.faults) n.judgement.reached (Some 0) f t q

-- ---- all written types

-- what is so of each
record IsWritten (j : TypeExprTyping) : Type 0 where
  full : IsFull j
  within : IsWithin j

abbrev full_types : TreeClaims
full_types = record {
  stmt = λ x. Unit {0};
  node = λ x. Unit {0};
  shape = λ x. Unit {0};
  type_node = λ x. (span : Span) → IsWritten ((fold_type_node seen seeing x).1 span);
  block = λ x. Unit {0};
  bind = λ x. Unit {0};
  arg = λ x. Unit {0};
  arm = λ x. Unit {0};
  expr = λ x. Unit {0};
  field = λ x. Unit {0};
  loop = λ x. Unit {0};
  number = λ x. Unit {0};
  pattern = λ x. Unit {0};
  type_expr = λ x. IsWritten (fold_type_expr seen seeing x).1;
}

abbrev Held : Carriers
Held = held full_types

abbrev tree : Maps Held trees
tree = held_tree full_types

abbrev TypePart : Type 0
TypePart = Held.type_expr

each_type_full : (ps : List TypePart) → EachIsFull (map (fold_type_expr seen seeing) (map (λ (p : TypePart). p.0) ps))
each_type_full [] = tt
each_type_full (p ∷ ps) = (p.1.full, each_type_full ps)

node_written : (y : TypeNodeLevel Held) → (span : Span) → IsWritten ((seeing.type_node (map_type_node trees seen (folds seen seeing) (map_type_node Held trees tree y))).1 span)
node_written (TypeNode-F.Bits s n) span = record {
  full = named_bits_full span s n;
  within = λ context. settled_within span (Some (ty.Bits s n)) (count_faults span (Some n)) [] (Some 0);
}
node_written (TypeNode-F.Wide s e) span =
    let n = fold_expr seen seeing e.0 in
    record { full = wide_full span s n; within = counted_within span (λ context. and_then (count_of context n).count (λ w. Some (ty.Bits s w))) (λ context. []) n }
node_written TypeNode-F.TypeNode::Bool span = record { full = named_bits_full span false 1; within = λ context. settled_within span (Some (ty.Bits false 1)) [] [] (Some 0) }
node_written (TypeNode-F.TypeNode::Name name) span =
    let named = λ (context : TypeEnv). is_of_use AsType (item_named name context.known.whole.items) in
    record { full = named_full span name named; within = named_within span name named }
node_written (TypeNode-F.TypeNode::Tuple ts) span =
    let ps = map (fold_type_expr seen seeing) (map (λ (p : TypePart). p.0) ts) in
    record {
      full = tuple_full span ps (each_type_full ts);
      within = λ context. settled_within span (and_then (all_some (types_of (inner_types context ps))) (λ ts. Some (ty.Tuple ts))) (faults_of_all (inner_types context ps)) (reached_of_all (inner_types context ps)) (Some 0);
    }
node_written (TypeNode-F.TypeNode::Array t e) span =
    let p = fold_type_expr seen seeing t.0 in
    let n = fold_expr seen seeing e.0 in
    record {
      full = array_full span p n t.1.full;
      within = λ context f u q. counted_within span (λ context. with_both (inner_type context p).ty (count_of context n).count (λ t n. Some (ty.Array t n))) (λ context. (inner_type context p).faults) n context f u q;
    }

all_full : HoldOn full_types
all_full = record {
  stmt = λ y. tt;
  node = λ y. tt;
  shape = λ y. tt;
  type_node = λ y span. subst (λ p. IsWritten (p.1 span)) (sym (fold_type_node-roll seen seeing (map_type_node Held trees tree y))) (node_written y span);
  block = λ y. tt;
  bind = λ y. tt;
  arg = λ y. tt;
  arm = λ y. tt;
  expr = λ y. tt;
  field = λ y. tt;
  loop = λ y. tt;
  number = λ y. tt;
  pattern = λ y. tt;
  type_expr = λ y. subst (λ (p : TypePair). IsWritten p.1) (sym (fold_type_expr-roll seen seeing (map_type_expr Held trees tree y))) (y.node.1 y.span);
}

pub type_is_full : (t : TypeExpr) → IsFull (type_pair t).1
type_is_full t = (holds_type_expr full_types all_full t).full

pub type_is_within : (t : TypeExpr) → IsWithin (type_pair t).1
type_is_within t = (holds_type_expr full_types all_full t).within

-- ---- names

fields_full : (context : TypeEnv) → NamesAreFull context.known → (before : List (List ℕ)) (fs : List Field) → has_broken (fields_found context before fs).faults ≡ false → is_empty fs ≡ false
    → (ts : List DslxType) → map (λ (f : Field). (typing_of_inner context f.ty).ty) fs ≡ map Some ts → 1 ≤ sum (map flat_bits ts)
fields_full context names before [] f some ts e = absurd (true≢false some)
fields_full context names before (x ∷ xs) f some [] e = some_fault (typing_of_inner context x.ty).ty (map (λ (f : Field). (typing_of_inner context f.ty).ty) xs) e
fields_full context names before (x ∷ xs) f some (t ∷ ts) e =
    let own = typing_of_inner context x.ty in
    let rest = fields_found context (x.name.name ∷ before) xs in
    let a = (unbroken_parts (listed_name before x.name) (own.faults ++ rest.faults) f).1 in
    let b = (unbroken_parts own.faults rest.faults a).0 in
    let c = (list_parts own.ty (Some t) (map (λ (f : Field). (typing_of_inner context f.ty).ty) xs) (map Some ts) e).0 in
    first_bits t ts (inner_full (type_pair x.ty) (type_is_full x.ty) context names t c b)

enum_full : (name : List ℕ) (base : Option DslxType) (t : DslxType) → enum_of_base name base ≡ Some t → has_widths t ≡ true → 1 ≤ flat_bits t
enum_full name None t e h = none_some t e
enum_full name (Some base) t e h = by_bits (bits_in base) e
  where
    by_bits : (o : Option BitKind) → and_then o (λ kind. Some (ty.Enum name kind.signed kind.width)) ≡ Some t → 1 ≤ flat_bits t
    by_bits None r = none_some t r
    by_bits (Some own) r =
        let same = same_some (ty.Enum name own.signed own.width) t r in
        let some = (Decides-ltb 0 own.width).0 (sym (in_enum name own.signed own.width) ∙ ap has_widths same ∙ h) in
        let whole : flat_bits t ≡ own.width = ap flat_bits (sym same) ∙ bits_are (DslxType-F.Enum name own.signed own.width) (ty.Enum name own.signed own.width) (rolls.rolls-Enum name own.signed own.width) in
        omega (arith, some, whole)

-- by chains of items of any length
pub names_are_full : (m : Module) → ((n : ℕ) → NamesHaveWidths (globals_within m n)) → (n : ℕ) → NamesAreFull (globals_within m n)
names_are_full m wide zero name t e u = none_some t e
names_are_full m wide (suc n) name t e u = by_item (item_named name m.items) ((λ i. type_known known (item_named name (sym (whole_is m n) i).items)) ∙ e) (names_are_full m wide n) (wide (suc n) name t e)
  where
    known : GlobalEnv
    known = globals_within m n

    by_item : (o : Option Definition) → type_known known o ≡ Some t → NamesAreFull known → has_widths t ≡ true → 1 ≤ flat_bits t
    by_item None r names h = none_some t r
    by_item (Some (d.Function f)) r names h = none_some t r
    by_item (Some (d.Proc p)) r names h = none_some t r
    by_item (Some (d.Constant c)) r names h = none_some t r
    by_item (Some (d.Alias a)) r names h =
        let j = typing_of_type (item_type_env known a.name.name []) a.ty in
        type_is_full a.ty (item_type_env known a.name.name []) names t (settled_type j.ty j.faults t r).1 u
    by_item (Some (d.Struct s)) r names h =
        let context = item_type_env known s.name.name [] in
        let found = fields_found context [] s.fields in
        let empty = breaks_if (is_empty s.fields) 31 s.span in
        let own = and_then (fields_types context s.fields) (λ ts. Some (ty.Struct s.name.name (map name_of_field s.fields) ts)) in
        let q = settled_type own (found.faults ++ empty) t r in
        let f = unbroken_parts found.faults empty q.0 in
        by_types (fields_types context s.fields) refl f.0 (rule_holds (is_empty s.fields) 31 s.span f.1) q.1
      where
        by_types : (o : Option (List DslxType)) → fields_types (item_type_env known s.name.name []) s.fields ≡ o → has_broken (fields_found (item_type_env known s.name.name []) [] s.fields).faults ≡ false → is_empty s.fields ≡ false
            → and_then o (λ ts. Some (ty.Struct s.name.name (map name_of_field s.fields) ts)) ≡ Some t → 1 ≤ flat_bits t
        by_types None q f some k = none_some t k
        by_types (Some ts) q f some k =
            let context = item_type_env known s.name.name [] in
            let same = same_some (ty.Struct s.name.name (map name_of_field s.fields) ts) t k in
            let many = fields_full context names [] s.fields f some ts (all_there (map (λ (f : Field). (typing_of_inner context f.ty).ty) s.fields) ts q) in
            let whole : flat_bits t ≡ sum (map flat_bits ts) = ap flat_bits (sym same)
            ∙ bits_are (DslxType-F.Struct s.name.name (map name_of_field s.fields) ts) (ty.Struct s.name.name (map name_of_field s.fields) ts) (rolls.rolls-Struct s.name.name (map name_of_field s.fields) ts) in
            omega (arith, many, whole)
    by_item (Some (d.Enum x)) r names h =
        let context = item_type_env known x.name.name [] in
        let base = typing_of_type context x.base in
        let members = members_found context (base_if_bits base.ty) [] x.members in
        let none_or_twice = breaks_if (is_empty x.members || has_equal_values (member_values context (base_if_bits base.ty) x.members)) 23 x.span in
        let faults = base.faults ++ members.faults ++ unless_type is_bits 23 x.span base.ty ++ none_or_twice in
        enum_full x.name.name base.ty t (settled_type (enum_of_base x.name.name base.ty) faults t r).1 h

-- the words of a channel
pub word_has_bits : (context : TypeEnv) → NamesAreFull context.known → (e : TypeExpr) → (typing_of_inner context e).faults ≡ [] → (t : DslxType) → (typing_of_inner context e).ty ≡ Some t → 1 ≤ flat_bits t
word_has_bits context names e f t is = inner_full (type_pair e) (type_is_full e) context names t is (ap has_broken f)
