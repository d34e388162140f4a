-- Types that nodes may have, by what is tested of them.
use Rattle.std.proofs.Common.{◌≡◌, ℕ, ◌≤◌, ◌-◌, ◌^◌, min, Bool, true, false, not, ◌&&◌, List, ◌∷◌, ◌++◌, map, Some, refl, ap, ◌∙◌, arith, []}
use Rattle.std.specs.Prelude.{nat_lt}
use Rattle.std.proofs.lemmas.Bool.Decides.{nat_tests}
use Rattle.std.proofs.lemmas.List.Folds.{list_all-append}
use Rattle.xb_span.specs.declared.limit.What.TheVariants as what
use Rattle.xb_value.specs.declared.ty.Ty.{Ty}
use Rattle.xb_value.specs.Width.{leaf_count}
use Rattle.ir_tree.specs.declared.ir_type.IrType.{IrType}
use Rattle.ir_tree.specs.Types.{ty_of}
use Rattle.ir_tree.specs.declared.ir_type.IrType as ir
use Rattle.ir_tree.specs.NodeTypes.Types.{joined_lists, levels_of, marks_of, widths_in, widths_step}
use Rattle.ir_tree.proofs.Lemmas.NodeTypes.IrTypes.{fold-Bits, fold-Token, fold-Tuple}
use Rattle.ir_tree.specs.Rules.Checks.{Check, limit_at, bounded}
use Rattle.ir_tree.specs.Rules.Lines.{type_limits}
use Rattle.ir_tree.specs.Rules.Typed.Typed.{none_broken}
use Rattle.ir_rebuild.specs.Putting.Types.{ir_type_of}
use Rattle.ir_rebuild.specs.Putting.Given.{IsNodeType}
use Rattle.dslx_meaning.specs.Lists.{where_true}
use Rattle.dslx_core.proofs.Lemmas.Types.{where_so}
use Rattle.ir_lower_nodes.specs.Exprs.NodeTypes.{if_node, is_node_type}
use Rattle.ir_lower.specs.Types.Limits.{widths_within}

pub and_true : (a b : Bool) → a ≡ true → b ≡ true → (a && b) ≡ true
and_true true b h k = k
and_true false b h k = absurd (cc)

not_over : (most n : ℕ) → n ≤ most → not (nat_lt most n) ≡ true
not_over most n h = grind (arith, nat_tests, h)

-- what passes each test may be the type of a node
pub limits_kept : (t : IrType) → (marks_of t).sound ≡ true → widths_within t ≡ true → min (leaf_count (ty_of t)) (2 ^ 64 - 1) ≤ 256 → min (levels_of t) (2 ^ 64 - 1) ≤ 64 → is_node_type t ≡ true
limits_kept t sound widths leaves levels =
    let wide = map (λ (w : ℕ). limit_at 0 what.Width w 128) (widths_in t) in
    let leaf = limit_at 0 what.Leaves (leaf_count (ty_of t)) 256 in
    let level = limit_at 0 what.Levels (bounded (levels_of t) - 0) 64 in
    and_true (marks_of t).sound (none_broken (type_limits 0 t 0)) sound
    (list_all-append (λ (c : Check). not c.broken) wide (leaf ∷ level ∷ [])
    ∙ and_true (none_broken wide) (none_broken (leaf ∷ level ∷ [])) widths
    (and_true (not leaf.broken) (none_broken (level ∷ [])) (not_over 256 (min (leaf_count (ty_of t)) (2 ^ 64 - 1)) leaves)
    (and_true (not level.broken) true (not_over 64 (bounded (bounded (levels_of t) - 0)) (omega (arith, levels))) refl)))

-- a type that a node may have
pub node_so : (t : Ty) → is_node_type (ir_type_of t) ≡ true → if_node (Some t) ≡ Some t
node_so t h = where_so (is_node_type (ir_type_of t)) (Some t) h

-- ---- widths

abbrev check : ℕ → Check
check w = limit_at 0 what.Width w 128

map_behind : (xs ys : List ℕ) → map check (xs ++ ys) ≡ map check xs ++ map check ys
map_behind [] ys = refl
map_behind (x ∷ xs) ys = ap (λ cs. check x ∷ cs) (map_behind xs ys)

pub bits_within : (w : ℕ) (ns : List ℕ) → bounded w ≤ 128 → widths_within (ir.Bits w ns) ≡ true
bits_within w ns h =
    ap (λ ws. none_broken (map check ws)) (fold-Bits (List ℕ) widths_step w ns) ∙ and_true (not (nat_lt 128 (bounded w))) true (not_over 128 (bounded w) h) refl

pub token_within : (ns : List ℕ) → widths_within (ir.Token ns) ≡ true
token_within ns = ap (λ ws. none_broken (map check ws)) (fold-Token (List ℕ) widths_step ns)

pub tuple_within : (ts : List IrType) (ns : List ℕ) → none_broken (map check (joined_lists (map widths_in ts))) ≡ true → widths_within (ir.Tuple ts ns) ≡ true
tuple_within ts ns h = ap (λ ws. none_broken (map check ws)) (fold-Tuple (List ℕ) widths_step ts ns) ∙ h

pub part_within : (t : IrType) (ts : List IrType) → widths_within t ≡ true → none_broken (map check (joined_lists (map widths_in (t ∷ ts)))) ≡ none_broken (map check (joined_lists (map widths_in ts)))
part_within t ts h =
    ap none_broken (map_behind (widths_in t) (joined_lists (map widths_in ts)))
    ∙ (list_all-append (λ (c : Check). not c.broken) (map check (widths_in t)) (map check (joined_lists (map widths_in ts)))
    ∙ ap (λ b. b && none_broken (map check (joined_lists (map widths_in ts)))) h)

-- ---- a state

both : (a b : Bool) → (a && b) ≡ true → (a ≡ true) × (b ≡ true)
both true true h = (refl, refl)
both true false h = absurd (cc)
both false b h = absurd (cc)

where_is : (b : Bool) (t u : Ty) → where_true b (Some t) ≡ Some u → (b ≡ true) × (t ≡ u)
where_is true t u h = (refl, cc)
where_is false t u h = absurd (cc)

-- a type that a node may have, by the test
pub node_is : (t u : Ty) → if_node (Some t) ≡ Some u → IsNodeType (ir_type_of t) × (t ≡ u)
node_is t u h =
    let test = where_is (is_node_type (ir_type_of t)) t u h in
    let parts = both (marks_of (ir_type_of t)).sound (none_broken (type_limits 0 (ir_type_of t) 0)) test.0 in
    (record { sound = parts.0; limits = parts.1 }, test.1)
