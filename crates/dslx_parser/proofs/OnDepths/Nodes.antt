-- Parts made of other parts, and how high they are.
use Rattle.std.proofs.Common.{◌≤◌, ◌+◌, ℕ, zero, suc, List, [], ◌∷◌, ◌++◌, sym, subst, arith}
use Rattle.std.specs.Prelude.{None, Some}
use Rattle.std.proofs.lemmas.List.{append_assoc, append-nil}
use Rattle.xb_span.specs.declared.span.Span.{Span}
use Rattle.dslx_token.specs.Lexeme.{Lexeme}
use Rattle.dslx_tree.specs.declared.block.Block.{Block, out-Block}
use Rattle.dslx_tree.specs.declared.ident.Ident.{Ident}
use Rattle.dslx_tree.specs.declared.type_expr.TypeExpr.{TypeExpr, out-TypeExpr}
use Rattle.dslx_tree.specs.declared.operators.chain.Operand.{Operand}
use Rattle.dslx_parser.specs.Syntax.Nodes.{Numeral, arg_of, array_type, bare_number, block_alone, from_to, member_of, member_pattern, name_alone, name_pattern, named_type, number_pattern, number_span, typed_number}
use Rattle.dslx_parser.specs.Spans.Places.{Thing, Inside, IsMadeOf}
use Rattle.dslx_parser.specs.Spans.Places as things
use Rattle.dslx_parser.specs.Depths.TreeDepths.{depth_within}
use Rattle.dslx_parser.proofs.OnDepths.NoHigher.{AreNoHigher, as_expr, as_pattern, as_type, called, itself, nothing, placed, spread}
use Rattle.dslx_parser.proofs.OnDepths.Fits.{AType, AnExpr, Rises, argument, inner, plain, room, typed, whole}
use Rattle.dslx_parser.proofs.OnDepths.States.{Low, State, base, deep}

-- ---- lists of parts

none_fits : {n : ℕ} → suc n ≤ 0 → ⊥
none_fits le = omega (arith, le)

pub wider : {n : ℕ} {xs : List Thing} → AreNoHigher n xs → (m : ℕ) → n ≤ m → AreNoHigher m xs
wider nothing m le = nothing
wider (placed {n = n} inside under more) zero le = absurd (none_fits le)
wider (placed {n = n} inside under more) (suc m) le = placed inside (wider under m (omega (arith, le))) (wider more (suc m) le)
wider (called is more) zero le = absurd (none_fits le)
wider (called is more) (suc m) le = called is (wider more (suc m) le)
wider (spread made more) m le = spread made (wider more m le)

pub both : {n : ℕ} {xs ys : List Thing} → AreNoHigher n xs → AreNoHigher n ys → AreNoHigher n (xs ++ ys)
both nothing others = others
both (placed inside under more) others = placed inside under (both more others)
both (called is more) others = called is (both more others)
both {n = n} {ys = ys} (spread {inner = inner} {more = more} made rest) others =
    spread made (subst (λ (zs : List Thing). AreNoHigher n zs) (append_assoc inner more ys) (both rest others))

pub made_of : {n : ℕ} {x : Thing} {inner : List Thing} → IsMadeOf x inner → AreNoHigher n inner → AreNoHigher n (x ∷ [])
made_of {n} {inner = inner} made up = spread made (subst (λ (zs : List Thing). AreNoHigher n zs) (sym (append-nil inner)) up)

-- a part with a place
pub one_up : {n : ℕ} {x : Thing} {span : Span} {inner : List Thing} → Inside x span inner → AreNoHigher n inner → AreNoHigher (suc n) (x ∷ [])
one_up inside up = placed inside up nothing

pub one_by : {n : ℕ} {x : Thing} {span : Span} {inner : List Thing} (m : ℕ) → suc n ≤ m → Inside x span inner → AreNoHigher n inner → AreNoHigher m (x ∷ [])
one_by m le inside up = wider (one_up inside up) m le

pub name_by : (n : ℕ) (name : Ident) → AreNoHigher (suc n) (things.ident name ∷ [])
name_by n name = called (itself name) nothing

pub spot_by : (n : ℕ) (span : Span) → AreNoHigher (suc n) (things.spot span ∷ [])
spot_by n span = one_up (things.of_spot span) nothing

-- ---- depths

pub more_room : (a b : ℕ) → a ≤ b → depth_within a ≤ depth_within b
more_room zero b le = omega arith
more_room (suc a) zero le = absurd (none_fits le)
more_room (suc a) (suc b) le =
    let h : depth_within a ≤ depth_within b = more_room a b (omega (arith, le)) in
    omega (arith, le, h)

-- what stands in a bracket is no higher than what may stand in one
pub deeper : {xs : List Thing} (d e m : ℕ) → suc d ≤ e → e + m ≤ 129 → AreNoHigher (whole e) xs → AreNoHigher (inner d) xs
deeper d e m less low up = wider up (inner d) (more_room (suc (room e)) (room d) (omega (arith, less, low)))

-- the same, behind the bracket, one that is a mark too, and in the head of an `if`, a `match` or a `for`
pub inside : (s : State) (m : ℕ) {xs : List Thing} → Low (record { token_spans = m; outer = s.token_spans ∷ s.outer; heads = s.heads }) → AreNoHigher (whole (deep (record { token_spans = m; outer = s.token_spans ∷ s.outer; heads = s.heads }))) xs → AreNoHigher (inner (deep s)) xs
inside s m low up = deeper (base s.outer + s.heads) (base (s.token_spans ∷ s.outer) + s.heads) m (omega arith) low up

pub inside_mark : (s : State) (m : ℕ) {xs : List Thing} → Low (record { token_spans = m; outer = suc s.token_spans ∷ s.outer; heads = s.heads }) → AreNoHigher (whole (deep (record { token_spans = m; outer = suc s.token_spans ∷ s.outer; heads = s.heads }))) xs → AreNoHigher (inner (deep s)) xs
inside_mark s m low up = deeper (base s.outer + s.heads) (base (suc s.token_spans ∷ s.outer) + s.heads) m (omega arith) low up

-- statements may be one higher
pub statements_in : (s : State) (m : ℕ) {xs : List Thing} → Low (record { token_spans = m; outer = s.token_spans ∷ s.outer; heads = s.heads }) → AreNoHigher (suc (whole (deep (record { token_spans = m; outer = s.token_spans ∷ s.outer; heads = s.heads })))) xs → AreNoHigher (suc (inner (deep s))) xs
statements_in s m low up =
    let e : ℕ = base (s.token_spans ∷ s.outer) + s.heads in
    let more : whole e ≤ inner (deep s) = more_room (suc (room e)) (room (deep s)) (omega (arith, low)) in
    wider up (suc (inner (deep s))) (omega (arith, more))

-- what stands in brackets in a head
pub inside_head : (s : State) (m : ℕ) {xs : List Thing} → Low (record { token_spans = m; outer = s.token_spans ∷ s.outer; heads = suc s.heads }) → AreNoHigher (whole (deep (record { token_spans = m; outer = s.token_spans ∷ s.outer; heads = suc s.heads }))) xs → AreNoHigher (inner (deep s)) xs
inside_head s m low up = deeper (base s.outer + s.heads) (base (s.token_spans ∷ s.outer) + suc s.heads) m (omega arith) low up

-- what stands in a head
pub head_plain : (s : State) → plain (base s.outer + suc s.heads) ≤ plain (deep s)
head_plain s =
    let more = more_room (room (base s.outer + suc s.heads)) (room (deep s)) (omega arith) in
    omega (arith, more)

pub head_inner : (s : State) (m : ℕ) → Low (record { token_spans = m; outer = s.outer; heads = suc s.heads }) → plain (base s.outer + suc s.heads) ≤ inner (deep s)
head_inner s m low =
    let more = more_room (suc (room (base s.outer + suc s.heads))) (room (deep s)) (omega (arith, low)) in
    omega (arith, more)

-- what stands in brackets is not as high as all that stands there
pub inner_whole : {xs : List Thing} (d : ℕ) → AreNoHigher (inner d) xs → AreNoHigher (whole d) xs
inner_whole d up = wider up (whole d) (omega arith)

-- ---- parts with marks

pub same : (n : ℕ) → n ≤ n
same n = omega arith

pub reaches : (a b c : ℕ) → a ≤ b → b ≤ c → a ≤ c
reaches a b c le more = omega (arith, le, more)

-- it is no higher than what it may be without marks
pub still : {h : ℕ} {xs : List Thing} (from to : ℕ) → from ≤ to → AreNoHigher h xs → Rises h xs from to
still {h} from to le up = record { goes = le; high = λ n enough. wider up n (omega (arith, le, enough)) }

pub up_to : {h : ℕ} {xs : List Thing} (g from to : ℕ) → h ≤ g → from ≤ to → AreNoHigher h xs → Rises g xs from to
up_to g from to less le up = still from to le (wider up g less)

pub none_there : (h from to : ℕ) → from ≤ to → Rises h [] from to
none_there h from to le = record { goes = le; high = λ n enough. nothing }

pub raised : {h : ℕ} {xs : List Thing} {from to : ℕ} (g : ℕ) → h ≤ g → Rises h xs from to → Rises g xs from to
raised {h} {from = from} {to = to} g le r = record { goes = r.goes; high = λ n enough. r.high n (omega (arith, le, enough)) }

pub earlier : {h : ℕ} {xs : List Thing} {b c : ℕ} (a : ℕ) → a ≤ b → Rises h xs b c → Rises h xs a c
earlier {h} {b = b} {c = c} a le r =
    let goes = r.goes in
    record { goes = omega (arith, le, goes); high = λ n enough. r.high n (omega (arith, le, enough)) }

pub later : {h : ℕ} {xs : List Thing} {a b : ℕ} (c : ℕ) → b ≤ c → Rises h xs a b → Rises h xs a c
later {h} {a = a} {b = b} c le r =
    let goes = r.goes in
    record { goes = omega (arith, le, goes); high = λ n enough. r.high n (omega (arith, le, enough)) }

pub joined_up : {h : ℕ} {xs ys : List Thing} {a b c : ℕ} → Rises h xs a b → Rises h ys b c → Rises h (xs ++ ys) a c
joined_up {h} {a = a} {b = b} {c = c} r t =
    let first = r.goes in let second = t.goes in
    record { goes = omega (arith, first, second); high = λ n enough. both (r.high n (omega (arith, second, enough))) (t.high n (omega (arith, first, enough))) }

-- all that stands there
pub all_of : {xs : List Thing} {from to : ℕ} (d : ℕ) → d + to ≤ 129 → Rises (plain d) xs from to → AreNoHigher (whole d) xs
all_of {from = from} {to = to} d low r = r.high (whole d) (omega (arith, low))

pub all_type : {xs : List Thing} {from to : ℕ} (d : ℕ) → d + to ≤ 129 → Rises (typed d) xs from to → AreNoHigher (whole d) xs
all_type d low r = all_of d low (raised (plain d) (omega arith) r)

pub all_args : {xs : List Thing} {from to : ℕ} (d : ℕ) → d + to ≤ 129 → Rises (argument d) xs from to → AreNoHigher (whole d) xs
all_args d low r = all_of d low (raised (plain d) (omega arith) r)

-- an expression in brackets
pub expr_in : (s : State) (m : ℕ) {from : ℕ} {xs : List Thing} → Low (record { token_spans = m; outer = s.token_spans ∷ s.outer; heads = s.heads }) → Rises (plain (deep (record { token_spans = m; outer = s.token_spans ∷ s.outer; heads = s.heads }))) xs from m → AreNoHigher (inner (deep s)) xs
expr_in s m low r = inside s m low (all_of (deep (record { token_spans = m; outer = s.token_spans ∷ s.outer; heads = s.heads })) low r)

pub expr_in_mark : (s : State) (m : ℕ) {from : ℕ} {xs : List Thing} → Low (record { token_spans = m; outer = suc s.token_spans ∷ s.outer; heads = s.heads }) → Rises (plain (deep (record { token_spans = m; outer = suc s.token_spans ∷ s.outer; heads = s.heads }))) xs from m → AreNoHigher (inner (deep s)) xs
expr_in_mark s m low r = inside_mark s m low (all_of (deep (record { token_spans = m; outer = suc s.token_spans ∷ s.outer; heads = s.heads })) low r)

pub type_in : (s : State) (m : ℕ) {from : ℕ} {xs : List Thing} → Low (record { token_spans = m; outer = s.token_spans ∷ s.outer; heads = s.heads }) → Rises (typed (deep (record { token_spans = m; outer = s.token_spans ∷ s.outer; heads = s.heads }))) xs from m → AreNoHigher (inner (deep s)) xs
type_in s m low r = inside s m low (all_type (deep (record { token_spans = m; outer = s.token_spans ∷ s.outer; heads = s.heads })) low r)

pub inner_plain : {xs : List Thing} (d : ℕ) → AreNoHigher (inner d) xs → AreNoHigher (plain d) xs
inner_plain d up = wider up (plain d) (omega arith)

pub name_plain : (d : ℕ) (name : Ident) → AreNoHigher (plain d) (things.ident name ∷ [])
name_plain d name = wider (name_by 0 name) (plain d) (omega arith)

pub spot_plain : (d : ℕ) (span : Span) → AreNoHigher (plain d) (things.spot span ∷ [])
spot_plain d span = wider (spot_by 0 span) (plain d) (omega arith)

pub type_plain : {xs : List Thing} {from to : ℕ} (d : ℕ) → Rises (typed d) xs from to → Rises (plain d) xs from to
type_plain d r = raised (plain d) (omega arith) r

-- ---- nodes

pub node_up : {h : ℕ} {x : Thing} {span : Span} {inner : List Thing} {from to : ℕ} → Inside x span inner → Rises h inner from to → Rises (suc h) (x ∷ []) from to
node_up {h} {x} {from = from} {to = to} inside r = record { goes = r.goes; high = high }
  where
    high : (n : ℕ) → suc h + to ≤ n + from → AreNoHigher n (x ∷ [])
    high zero enough = let goes = r.goes in absurd (none_fits {n = 0} (omega (arith, goes, enough)))
    high (suc n) enough = one_up inside (r.high n (omega (arith, enough)))

-- a node with a mark behind what stands in it, or between two parts in it
pub around_mark : {h : ℕ} {x : Thing} {span : Span} {xs ys : List Thing} {a b c d : ℕ} → Rises h xs a b → suc b ≤ c → Rises h ys c d → Inside x span (xs ++ ys) → Rises h (x ∷ []) a d
around_mark {h} {x} {a = a} {b = b} {c = c} {d = d} r mark t inside =
    let first = r.goes in let second = t.goes in
    record { goes = omega (arith, first, second, mark); high = high }
  where
    high : (n : ℕ) → h + d ≤ n + a → AreNoHigher n (x ∷ [])
    high zero enough = let first = r.goes in let second = t.goes in absurd (none_fits {n = 0} (omega (arith, first, second, mark, enough)))
    high (suc n) enough =
        let first = r.goes in let second = t.goes in
        one_up inside (both (r.high n (omega (arith, second, mark, enough))) (t.high n (omega (arith, first, mark, enough))))

-- a mark, and a node of what stands behind it
pub behind_mark : {h : ℕ} {x : Thing} {span : Span} {xs : List Thing} {b c : ℕ} (a : ℕ) → suc a ≤ b → Rises h xs b c → Inside x span xs → Rises h (x ∷ []) a c
behind_mark {h} a mark r inside = around_mark {xs = []} (none_there h a a (same a)) mark r inside

-- a part, a mark, and what is no higher than it may be without marks
pub with_post : {h : ℕ} {x : Thing} {span : Span} {xs ys : List Thing} {a b : ℕ} (c : ℕ) → Rises h xs a b → suc b ≤ c → AreNoHigher h ys → Inside x span (xs ++ ys) → Rises h (x ∷ []) a c
with_post c r mark up inside = around_mark r mark (still c c (same c) up) inside

-- ---- names, numbers, types

pub expr_node : {h : ℕ} {x : Thing} {span : Span} {inner : List Thing} {from to : ℕ} (d : ℕ) → suc h ≤ plain d → Inside x span inner → Rises h inner from to → Rises (plain d) (x ∷ []) from to
expr_node d le inside r = raised (plain d) le (node_up inside r)

pub name_up : (d : ℕ) (name : Ident) {from to : ℕ} → from ≤ to → AnExpr d (name_alone name) from to
name_up d name {from} {to} n = up_to (plain d) from to (omega arith) n (called {n = 0} (as_expr name.span name.name) nothing)

pub named_type_up : (d : ℕ) (name : Ident) {from to : ℕ} → from ≤ to → AType d (named_type name) from to
named_type_up d name {from} {to} n = up_to (typed d) from to (omega arith) n (called {n = 0} (as_type name.span name.name) nothing)

pub name_pattern_up : (d : ℕ) (name : Ident) → AreNoHigher (whole d) (things.pattern (name_pattern name) ∷ [])
name_pattern_up d name = wider (called {n = 0} (as_pattern name.span name.name) nothing) (whole d) (omega arith)

pub member_up : (d : ℕ) (owner member : Ident) {a b c : ℕ} → a ≤ b → b ≤ c → AnExpr d (member_of owner member) a c
member_up d owner member {a} {b} {c} n m =
    up_to (plain d) a c (omega arith) (omega (arith, n, m)) (one_up {n = 1} (things.of_member (from_to owner.span member.span) owner member) (both (name_by 0 owner) (name_by 0 member)))

pub member_pattern_up : (d : ℕ) (owner member : Ident) → AreNoHigher (whole d) (things.pattern (member_pattern owner member) ∷ [])
member_pattern_up d owner member =
    one_by {n = 1} (whole d) (omega arith) (things.of_member_pattern (from_to owner.span member.span) owner member) (both (name_by 0 owner) (name_by 0 member))

pub number_up : (d : ℕ) (n : Numeral) (from to : ℕ) → from ≤ to → AnExpr d (bare_number n) from to
number_up d n from to le = up_to (plain d) from to (omega arith) le (one_up {n = 0} (things.of_number n.span None n.is_negative n.value) nothing)

pub typed_up : (d : ℕ) (ty : TypeExpr) (n : Numeral) {a b c : ℕ} → AType d ty a b → b ≤ c → AnExpr d (typed_number ty n) a c
typed_up d ty n {a} {b} {c} t le =
    expr_node d (omega arith) (things.of_number (number_span ty n) (Some ty) n.is_negative n.value) (later c le t)

pub number_pattern_up : (d : ℕ) (ty : TypeExpr) (n : Numeral) {a b : ℕ} → d + b ≤ 129 → AType d ty a b → AreNoHigher (whole d) (things.pattern (number_pattern ty n) ∷ [])
number_pattern_up d ty n low t =
    all_of d low (raised (plain d) (omega arith) (node_up (things.of_number_pattern (number_span ty n) (Some ty) n.is_negative n.value) t))

-- what stands between `<` and `>`
pub number_arg_up : (d : ℕ) (ty : TypeExpr) (n : Numeral) {a b c : ℕ} → AType d ty a b → b ≤ c → Rises (argument d) (things.arg (arg_of (typed_number ty n)) ∷ []) a c
number_arg_up d ty n {a} {b} {c} t le =
    node_up (things.of_arg (number_span ty n) (typed_number ty n).expr) (node_up (things.of_number (number_span ty n) (Some ty) n.is_negative n.value) (later c le t))

pub bare_arg_up : (d : ℕ) (n : Numeral) (from to : ℕ) → from ≤ to → Rises (argument d) (things.arg (arg_of (bare_number n)) ∷ []) from to
bare_arg_up d n from to le =
    up_to (argument d) from to (omega arith) le (one_up {n = 1} (things.of_arg n.span (bare_number n).expr) (one_up {n = 0} (things.of_number n.span None n.is_negative n.value) nothing))

pub name_arg_up : (d : ℕ) (name : Ident) {from to : ℕ} → from ≤ to → Rises (argument d) (things.arg (arg_of (name_alone name)) ∷ []) from to
name_arg_up d name {from} {to} n =
    up_to (argument d) from to (omega arith) n (one_up {n = 1} (things.of_arg name.span (name_alone name).expr) (called {n = 0} (as_expr name.span name.name) nothing))

pub array_type_up : (d : ℕ) (element : TypeExpr) (size : Operand) (closing : Lexeme) {a b : ℕ} (c : ℕ) → AType d element a b → suc b ≤ c → AreNoHigher (inner d) (things.expr size.expr ∷ []) → AType d (array_type element size closing) a c
array_type_up d element size closing c t mark up =
    with_post c t mark (wider up (typed d) (omega arith)) (things.of_array_type (from_to (out-TypeExpr element).span closing.span) element size.expr)

-- ---- blocks

pub block_value_up : (d : ℕ) (b : Block) {from to : ℕ} → (from ≤ to) × AreNoHigher (suc (suc (inner d))) (things.block b ∷ []) → AnExpr d (block_alone b) from to
block_value_up d b {from} {to} block = up_to (plain d) from to (omega arith) block.0 (one_up (things.of_block_value (out-Block b).span b) block.1)

pub block_whole : {xs : List Thing} (d : ℕ) → AreNoHigher (suc (suc (inner d))) xs → AreNoHigher (whole d) xs
block_whole d up = wider up (whole d) (omega arith)

pub a_name_whole : (d : ℕ) (name : Ident) → AreNoHigher (whole d) (things.ident name ∷ [])
a_name_whole d name = wider (name_by 0 name) (whole d) (omega arith)

-- ---- more parts by themselves

pub more : (n : ℕ) → n ≤ suc n
more n = omega arith

pub bare_type_up : {x : Thing} {span : Span} (d m : ℕ) → Inside x span [] → Rises (typed d) (x ∷ []) m m
bare_type_up d m inside = up_to (typed d) m m (omega arith) (same m) (one_up {n = 0} inside nothing)

pub bare_expr_up : {x : Thing} {span : Span} (d m : ℕ) → Inside x span [] → Rises (plain d) (x ∷ []) m m
bare_expr_up d m inside = up_to (plain d) m m (omega arith) (same m) (one_up {n = 0} inside nothing)

pub bare_whole : {x : Thing} {span : Span} (d : ℕ) → Inside x span [] → AreNoHigher (whole d) (x ∷ [])
bare_whole d inside = one_by {n = 0} (whole d) (omega arith) inside nothing

pub brace_arg_up : {x : Thing} {span : Span} {xs : List Thing} (d m : ℕ) → Inside x span xs → AreNoHigher (inner d) xs → Rises (argument d) (x ∷ []) m m
brace_arg_up d m inside up = up_to (argument d) m m (omega arith) (same m) (one_up inside up)

pub one_higher : {n : ℕ} {xs : List Thing} → AreNoHigher n xs → AreNoHigher (suc n) xs
one_higher {n} up = wider up (suc n) (more n)

pub over_inner : {x : Thing} {span : Span} {xs : List Thing} (d : ℕ) → Inside x span xs → AreNoHigher (inner d) xs → AreNoHigher (whole d) (x ∷ [])
over_inner d inside up = one_by (whole d) (omega arith) inside up

pub over_inner_expr : {x : Thing} {span : Span} {xs : List Thing} {from to : ℕ} (d : ℕ) → Inside x span xs → Rises (inner d) xs from to → Rises (plain d) (x ∷ []) from to
over_inner_expr d inside r = expr_node d (omega arith) inside r

pub over_typed : {x : Thing} {span : Span} {xs : List Thing} {from to : ℕ} (d : ℕ) → Inside x span xs → Rises (typed d) xs from to → Rises (plain d) (x ∷ []) from to
over_typed d inside r = expr_node d (omega arith) inside r

pub type_elements : {xs ys : List Thing} {a b c : ℕ} (d : ℕ) → Rises (typed d) xs a b → Rises (inner d) ys b c → Rises (typed d) (xs ++ ys) a c
type_elements d t r = joined_up t (raised (typed d) (omega arith) r)

pub inner_expr : {xs : List Thing} (d m : ℕ) → AreNoHigher (inner d) xs → Rises (plain d) xs m m
inner_expr d m up = up_to (plain d) m m (omega arith) (same m) up

-- a name, and what stands in the brackets behind it
pub name_inner : {xs : List Thing} (d : ℕ) (name : Ident) → AreNoHigher (inner d) xs → AreNoHigher (suc (inner d)) (things.ident name ∷ xs)
name_inner d name up = both (name_by (inner d) name) (one_higher up)

pub call_up : {x : Thing} {span : Span} {xs : List Thing} {from to : ℕ} (d : ℕ) → from ≤ to → Inside x span xs → AreNoHigher (suc (inner d)) xs → Rises (plain d) (x ∷ []) from to
call_up {from = from} {to = to} d le inside up = up_to (plain d) from to (omega arith) le (one_up inside up)

-- a name, arguments between `<` and `>`, and what stands in the brackets behind them
pub over_args : {x : Thing} {span : Span} {xs ys : List Thing} {a b c : ℕ} (d : ℕ) (name : Ident) → a ≤ b → Rises (argument d) xs b c → AreNoHigher (inner d) ys → Inside x span (things.ident name ∷ (xs ++ ys)) → Rises (plain d) (x ∷ []) a c
over_args {a = a} {b = b} {c = c} d name n args up inside =
    expr_node d (omega arith) inside
    (joined_up (up_to (argument d) a b (omega arith) n (name_by 0 name)) (joined_up args (up_to (argument d) c c (omega arith) (same c) up)))

-- ---- heads, loops and blocks

pub block_plain : {xs : List Thing} {from to : ℕ} (d : ℕ) → (from ≤ to) × AreNoHigher (suc (suc (inner d))) xs → Rises (plain d) xs from to
block_plain {from = from} {to = to} d block = up_to (plain d) from to (omega arith) block.0 block.1

pub block_rises : {xs : List Thing} {from to : ℕ} (d : ℕ) → (from ≤ to) × AreNoHigher (suc (suc (inner d))) xs → Rises (suc (suc (inner d))) xs from to
block_rises {from = from} {to = to} d block = still from to block.0 block.1

pub in_range : {xs : List Thing} (d m : ℕ) → AreNoHigher (inner d) xs → Rises (suc (suc (inner d))) xs m m
in_range d m up = up_to (suc (suc (inner d))) m m (omega arith) (same m) up

pub to_range : {h : ℕ} {xs : List Thing} {from to : ℕ} (d : ℕ) → h ≤ inner d → Rises h xs from to → Rises (suc (suc (inner d))) xs from to
to_range d le r = raised (suc (suc (inner d))) (omega (arith, le)) r

pub over_range : {x : Thing} {span : Span} {xs : List Thing} {from to : ℕ} (d : ℕ) → Inside x span xs → Rises (suc (suc (inner d))) xs from to → Rises (plain d) (x ∷ []) from to
over_range d inside r = expr_node d (omega arith) inside r

-- ---- items

-- what stands in brackets, among all that stands there
pub whole_in : (s : State) (m : ℕ) {xs : List Thing} → Low (record { token_spans = m; outer = s.token_spans ∷ s.outer; heads = s.heads }) → AreNoHigher (whole (deep (record { token_spans = m; outer = s.token_spans ∷ s.outer; heads = s.heads }))) xs → AreNoHigher (whole (deep s)) xs
whole_in s m low up = inner_whole (deep s) (inside s m low up)

pub over_config : {x : Thing} {span : Span} {xs : List Thing} (d : ℕ) → Inside x span xs → AreNoHigher (suc (inner d)) xs → AreNoHigher (whole d) (x ∷ [])
over_config d inside up = one_by (whole d) (omega arith) inside up

pub over_next : {x : Thing} {span : Span} {xs : List Thing} (d : ℕ) → Inside x span xs → AreNoHigher (suc (suc (inner d))) xs → AreNoHigher (whole d) (x ∷ [])
over_next d inside up = one_by (whole d) (omega arith) inside up

pub a_name_next : (d : ℕ) (name : Ident) → AreNoHigher (suc (suc (inner d))) (things.ident name ∷ [])
a_name_next d name = wider (name_by 0 name) (suc (suc (inner d))) (omega arith)

pub to_next : {xs : List Thing} (d : ℕ) → AreNoHigher (inner d) xs → AreNoHigher (suc (suc (inner d))) xs
to_next d up = wider up (suc (suc (inner d))) (omega arith)

pub a_spot_whole : (d : ℕ) (span : Span) → AreNoHigher (whole d) (things.spot span ∷ [])
a_spot_whole d span = wider (spot_by 0 span) (whole d) (omega arith)
