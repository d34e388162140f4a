-- What a proc of a verified package is known to keep: its nodes take values of earlier ones, and no type is wider than 32,768 bits.
use Rattle.std.proofs.Common.{◌≡◌, ℕ, zero, suc, ◌+◌, ◌*◌, ◌-◌, ◌^◌, ◌<◌, ◌≤◌, min, sum, List, [], ◌∷◌, ◌++◌, map, length, Bool, true, false, ◌&&◌, IsTrue, Option, Some, None, refl, sym, ap, subst, ◌∙◌, arith, ⊎_elim}
use Rattle.std.specs.Prelude.{slice_get, nat_lt, not, Contains}
use Rattle.std.proofs.lemmas.List.Folds.{list_all-append}
use Rattle.std.proofs.lemmas.List.Sums.{sum_by-cons}
use Rattle.std.proofs.lemmas.Bool.Decides.{nat_tests}
use Rattle.std.proofs.lemmas.List.{length-map}
use Rattle.xb_span.specs.declared.span.Span.{Span}
use Rattle.xb_span.specs.declared.limit.What.TheVariants as what
use Rattle.xb_span.specs.Spans.{nowhere}
use Rattle.xb_value.specs.declared.ty.Ty.{Ty}
use Rattle.xb_value.specs.declared.ty.Ty as ty
use Rattle.xb_value.specs.Width.{width_of, leaf_count, leaves_step}
use Rattle.xb_value.proofs.Lemmas.Types as types
use Rattle.xb_value.proofs.Lemmas.Types.{width_of-Bits, width_of-Tuple, width_of-Array, leaf_count-Array}
use Rattle.delay_model.specs.Delays.{delay_of, timed_by_of}
use Rattle.delay_model.specs.declared.timing.TimedBy.{TimedBy}
use Rattle.delay_model.specs.declared.timing.TimedBy.TheVariants as timed_by
use Rattle.ir_tree.specs.declared.ir_type.IrType.{IrType, Bits, Token, Tuple}
use Rattle.ir_tree.specs.declared.ir_type.IrType.TheVariants.{rolls-Bits, rolls-Token, rolls-Tuple}
use Rattle.ir_tree.specs.declared.ir_type.IrType.TheOpen.{IrType-F}
use Rattle.ir_tree.specs.declared.ir_type.IrType.TheViews.{roll-IrType}
use Rattle.ir_tree.specs.declared.ir_type.IrType.TheFolds.{ind-IrType, map-IrType}
use Rattle.ir_tree.specs.declared.node.Operand.{Operand}
use Rattle.ir_tree.specs.declared.node.Operand.TheVariants as operand
use Rattle.ir_tree.specs.declared.node.Attributes.{Attributes}
use Rattle.ir_tree.specs.declared.node.Attributes.TheVariants as attributes
use Rattle.ir_tree.specs.declared.node.Node.{Node}
use Rattle.ir_tree.specs.declared.package.Channel.{Channel}
use Rattle.ir_tree.specs.declared.package.Proc.{Proc}
use Rattle.ir_tree.specs.NodeValues.{role_of}
use Rattle.ir_tree.specs.Types.{ty_of, arrays_of, bounded}
use Rattle.ir_tree.specs.Rules.Checks.{Check, limit_at}
use Rattle.ir_tree.specs.Rules.Fitting.{types_behind, node_fits}
use Rattle.ir_tree.specs.Rules.Lines.{Seen, see, type_limits, is_proc_named, is_state, is_there, is_there_if, are_there, attributes_there, is_id_after, is_named, is_chained, is_at_end, is_typed, own_levels, node_checks}
use Rattle.ir_tree.specs.NodeTypes.Types.{widths_in, widths_step, joined_lists, levels_of}
use Rattle.ir_tree.specs.Rules.Verified.{nodes_checks}
use Rattle.ir_tree.proofs.Lemmas.NodeTypes.IrTypes.{fold-Bits, fold-Tuple, ty_of-Bits, ty_of-Token, ty_of-Tuple}
use Rattle.std.specs.Prelude.{get_or}
use Rattle.ir_tree.specs.Rules.Typed.Typed.{none_broken, IsVerifiedProc}
use Rattle.ir_tree.proofs.Lemmas.Rules.Typed.{verified_proc}
use Rattle.pipe_schedule.specs.Timed.{TimedNode, node_at, timed_node, timed_nodes, nodes_among, operands_in, if_there, sources_of, node_type_or, operand_type, first_type, type_timed_by, node_delay, IsOfVerified}
use Rattle.pipe_schedule.specs.Inner.Delays.{type_width, delay_within, timed_node_within}
use Rattle.pipe_schedule.specs.Inner.Slots.{AreSourcesEarlier}
use Rattle.pipe_schedule.proofs.Placing.{contains_cases, contains_none}
use Rattle.pipe_schedule.proofs.Least.{source_there}
use Rattle.pipe_schedule.proofs.Schedules.{IsReady}

both_true : (a b : Bool) → IsTrue (a && b) → IsTrue a × IsTrue b
both_true true true h = (refl, refl)
both_true true false h = absurd (cc)
both_true false b h = absurd (cc)

not_not_true : (b : Bool) → IsTrue (not (not b)) → IsTrue b
not_not_true true h = refl
not_not_true false h = absurd (cc)

not_true : (b : Bool) → IsTrue (not b) → b ≡ false
not_true true h = absurd (cc)
not_true false h = refl

parts_not : (xs ys : List Check) → IsTrue (none_broken (xs ++ ys)) → IsTrue (none_broken xs) × IsTrue (none_broken ys)
parts_not xs ys h = both_true _ _ (sym (list_all-append (λ (c : Check). not c.broken) xs ys) ∙ h)

-- ---- widths

abbrev AreNarrow : List ℕ → Type 0
AreNarrow [] = Unit {0}
AreNarrow (w ∷ ws) = (w ≤ 128) × AreNarrow ws

narrow_parts : (xs ys : List ℕ) → AreNarrow (xs ++ ys) → AreNarrow xs × AreNarrow ys
narrow_parts [] ys h = (tt, h)
narrow_parts (x ∷ xs) ys (a, h) = let r = narrow_parts xs ys h in ((a, r.0), r.1)

not_past : (most w : ℕ) → most < 2 ^ 64 - 1 → nat_lt most (min w (2 ^ 64 - 1)) ≡ false → w ≤ most
not_past most w l h = let k = from most (min w (2 ^ 64 - 1)) h in omega arith
  where
    from : (a b : ℕ) → nat_lt a b ≡ false → b ≤ a
    from a b h = grind (arith, nat_tests)

limits_narrow : (end : ℕ) (ws : List ℕ) → IsTrue (none_broken (map (λ w. limit_at end what.Width w 128) ws)) → AreNarrow ws
limits_narrow end [] h = tt
limits_narrow end (w ∷ ws) h =
    let parts = both_true (not (nat_lt 128 (min w (2 ^ 64 - 1)))) (none_broken (map (λ w. limit_at end what.Width w 128) ws)) h in
    (not_past 128 w (omega arith) (not_true (nat_lt 128 (min w (2 ^ 64 - 1))) parts.0), limits_narrow end ws parts.1)

one_times_more : (n w : ℕ) → suc n * w ≡ w + n * w
one_times_more n w = grind arith

times_more : (n w l : ℕ) → w ≤ 128 * l → n * w ≤ 128 * (n * l)
times_more zero w l h = omega arith
times_more (suc n) w l h =
    let x = times_more n w l h in
    let a : suc n * w ≡ w + n * w = one_times_more n w in
    let b : suc n * l ≡ l + n * l = one_times_more n l in
    omega arith

arrays_narrow : (ns : List ℕ) (t : Ty) → width_of t ≤ 128 * leaf_count t → width_of (arrays_of ns t) ≤ 128 * leaf_count (arrays_of ns t)
arrays_narrow [] t h = h
arrays_narrow (n ∷ ns) t h =
    let x = times_more (bounded n) (width_of (arrays_of ns t)) (leaf_count (arrays_of ns t)) (arrays_narrow ns t h) in
    let a = width_of-Array (arrays_of ns t) (bounded n) in
    let b = leaf_count-Array (arrays_of ns t) (bounded n) in
    omega arith

abbrev IsNarrow : IrType → Type 0
IsNarrow t = AreNarrow (widths_in t) → width_of (ty_of t) ≤ 128 * leaf_count (ty_of t)

abbrev AllNarrow : List IrType → Type 0
AllNarrow [] = Unit {0}
AllNarrow (t ∷ ts) = IsNarrow t × AllNarrow ts

sum_more : (f : Ty → ℕ) (t : Ty) (ts : List Ty) → sum (map f (t ∷ ts)) ≡ f t + sum (map f ts)
sum_more f t ts = sum_by-cons (λ n. n) (f t) (map f ts)

tuple_narrow : (ts : List IrType) → AllNarrow ts → AreNarrow (joined_lists (map widths_in ts)) → sum (map width_of (map ty_of ts)) ≤ 128 * sum (map leaf_count (map ty_of ts))
tuple_narrow [] h k = omega arith
tuple_narrow (t ∷ ts) (h, hs) k =
    let parts = narrow_parts (widths_in t) (joined_lists (map widths_in ts)) k in
    let x = h parts.0 in
    let y = tuple_narrow ts hs parts.1 in
    let a = sum_more width_of (ty_of t) (map ty_of ts) in
    let b = sum_more leaf_count (ty_of t) (map ty_of ts) in
    omega arith

leaf_count-Bits : (w : ℕ) → leaf_count (ty.Bits w) ≡ 1
leaf_count-Bits w = types.fold-Bits ℕ leaves_step w

leaf_count-Tuple : (ts : List Ty) → leaf_count (ty.Tuple ts) ≡ sum (map leaf_count ts)
leaf_count-Tuple ts = types.fold-Tuple ℕ leaves_step ts

of_base : (t : IrType) (ns : List ℕ) (base : Ty) → ty_of t ≡ arrays_of ns base → width_of base ≤ 128 * leaf_count base → width_of (ty_of t) ≤ 128 * leaf_count (ty_of t)
of_base t ns base e h = subst (λ u. width_of u ≤ 128 * leaf_count u) (sym e) (arrays_narrow ns base h)

bits_narrow : (w : ℕ) (ns : List ℕ) → IsNarrow (Bits w ns)
bits_narrow w ns h =
    let k = subst AreNarrow (fold-Bits (List ℕ) widths_step w ns) h in
    let x = k.0 in
    let a = width_of-Bits (bounded w) in
    let b = leaf_count-Bits (bounded w) in
    of_base (Bits w ns) ns (ty.Bits (bounded w)) (ty_of-Bits w ns) (omega arith)

token_narrow : (ns : List ℕ) → IsNarrow (Token ns)
token_narrow ns h = let a = width_of-Tuple [] in of_base (Token ns) ns (ty.Tuple []) (ty_of-Token ns) (omega arith)

all_tuple_narrow : (ts : List IrType) (ns : List ℕ) → AllNarrow ts → IsNarrow (Tuple ts ns)
all_tuple_narrow ts ns hs h =
    let k = subst AreNarrow (fold-Tuple (List ℕ) widths_step ts ns) h in
    let x = tuple_narrow ts hs k in
    let a = width_of-Tuple (map ty_of ts) in
    let b = leaf_count-Tuple (map ty_of ts) in
    of_base (Tuple ts ns) ns (ty.Tuple (map ty_of ts)) (ty_of-Tuple ts ns) (omega arith)

all_of : (es : List ((t : IrType) × IsNarrow t)) → AllNarrow (map (λ e. e.0) es)
all_of [] = tt
all_of (e ∷ es) = (e.1, all_of es)

-- a type is no wider than 128 times its leaves
types_narrow : (t : IrType) → IsNarrow t
types_narrow = ind-IrType IsNarrow (λ x y is. subst (λ z. IsNarrow (roll-IrType z)) is (case y))
  where
    case : (y : IrType-F ((t : IrType) × IsNarrow t)) → IsNarrow (roll-IrType (map-IrType ((t : IrType) × IsNarrow t) IrType (λ e. e.0) y))
    case (IrType-F.Bits w ns) = subst IsNarrow (sym (rolls-Bits w ns)) (bits_narrow w ns)
    case (IrType-F.Token ns) = subst IsNarrow (sym (rolls-Token ns)) (token_narrow ns)
    case (IrType-F.Tuple es ns) = subst IsNarrow (sym (rolls-Tuple (map (λ e. e.0) es) ns)) (all_tuple_narrow (map (λ e. e.0) es) ns (all_of es))

limited : (end : ℕ) (t : IrType) (own : ℕ) → IsTrue (none_broken (type_limits end t own)) → width_of (ty_of t) ≤ 32768
limited end t own h =
    let parts = parts_not (map (λ w. limit_at end what.Width w 128) (widths_in t)) (limit_at end what.Leaves (leaf_count (ty_of t)) 256 ∷ limit_at end what.Levels (min (levels_of t) (2 ^ 64 - 1) - own) 64 ∷ []) h in
    let rest = both_true (not (nat_lt 256 (min (leaf_count (ty_of t)) (2 ^ 64 - 1)))) _ parts.1 in
    let leaves = not_past 256 (leaf_count (ty_of t)) (omega arith) (not_true (nat_lt 256 (min (leaf_count (ty_of t)) (2 ^ 64 - 1))) rest.0) in
    let wide = types_narrow t (limits_narrow end (widths_in t) parts.0) in
    omega arith

-- ---- nodes

record IsSoundNode (i : ℕ) (n : Node) : Type 0 where
  operands : IsTrue (are_there i n.operands)
  attributes : IsTrue (attributes_there i n.attributes)
  narrow : width_of (ty_of n.ty) ≤ 32768

sound_node : (channels : List Channel) (state : IrType) (before : List Node) (span : Span) (i : ℕ) (seen : Seen) (n : Node) → IsTrue (none_broken (node_checks channels state before span i seen n)) → IsSoundNode i n
sound_node channels state before span i seen n h =
    let a = both_true (not (not (is_named (slice_get before (i - 1)) i n))) _ h in
    let b = both_true (not (not (node_fits channels (types_behind state before) n))) _ a.1 in
    let c = both_true (not (not (is_chained before seen n))) _ b.1 in
    let d = both_true (not (not (is_at_end channels seen (role_of n)))) _ c.1 in
    let e = both_true (not (not (is_typed n))) _ d.1 in
    let named = both_true (is_id_after (slice_get before (i - 1)) n.id) _ (not_not_true (is_named (slice_get before (i - 1)) i n) a.0) in
    let there = both_true (are_there i n.operands) (attributes_there i n.attributes) named.1 in
    record { operands = there.0; attributes = there.1; narrow = limited span.to n.ty (own_levels (role_of n)) e.1 }

sound_nodes : (channels : List Channel) (state : IrType) (spans : List Span) (nodes before : List Node) (i : ℕ) (seen : Seen) → IsTrue (none_broken (nodes_checks channels state spans before i seen nodes))
    → (k : ℕ) (n : Node) → slice_get nodes k ≡ Some n → IsSoundNode (i + k) n
sound_nodes channels state spans [] before i seen h k n e = absurd (cc)
sound_nodes channels state spans (m ∷ nodes) before i seen h zero n e =
    let parts = parts_not (node_checks channels state before (get_or spans i nowhere) i seen m) (nodes_checks channels state spans (before ++ m ∷ []) (suc i) (see i m seen) nodes) h in
    let same : m ≡ n = cc in
    let place : i ≡ i + 0 = omega arith in
    subst (λ j. IsSoundNode j n) place (subst (IsSoundNode i) same (sound_node channels state before (get_or spans i nowhere) i seen m parts.0))
sound_nodes channels state spans (m ∷ nodes) before i seen h (suc k) n e =
    let parts = parts_not (node_checks channels state before (get_or spans i nowhere) i seen m) (nodes_checks channels state spans (before ++ m ∷ []) (suc i) (see i m seen) nodes) h in
    let place : suc i + k ≡ i + suc k = omega arith in
    subst (λ j. IsSoundNode j n) place (sound_nodes channels state spans nodes (before ++ m ∷ []) (suc i) (see i m seen) parts.1 k n e)

record IsSoundProc (p : Proc) : Type 0 where
  state : width_of (ty_of p.state) ≤ 32768
  nodes : (k : ℕ) (n : Node) → slice_get p.nodes k ≡ Some n → IsSoundNode k n

sound_proc : (channels : List Channel) (p : Proc) → IsVerifiedProc channels p → IsSoundProc p
sound_proc channels p v = record {
  state =
      (let a = both_true (not (not (is_proc_named v.names p))) _ v.head in
      let b = both_true (not (not (is_state p))) _ a.1 in
      limited v.head_span.to p.state 0 b.1);
  nodes = λ k n e. (let z : 0 + k ≡ k = omega arith in subst (λ j. IsSoundNode j n) z (sound_nodes channels p.state v.spans p.nodes [] 0 v.seen v.nodes k n e));
}

-- ---- sources

one_below : (i : ℕ) (o : Operand) (os : List Operand) → IsTrue (is_there i o) → ((j : ℕ) → Contains (nodes_among os) j → j < i) → (j : ℕ) → Contains (nodes_among (o ∷ os)) j → j < i
one_below i operand.State os h k j c = k j c
one_below i (operand.Node m) os h k j c = ⊎_elim (λ e. (let l = from m i h in omega arith)) (λ d. k j d) (contains_cases m j (nodes_among os) c)
  where
    from : (a b : ℕ) → nat_lt a b ≡ true → a < b
    from a b h = grind (arith, nat_tests)

among_below : (i : ℕ) (os : List Operand) → IsTrue (are_there i os) → (j : ℕ) → Contains (nodes_among os) j → j < i
among_below i [] h = λ j c. absurd (contains_none j c)
among_below i (o ∷ os) h = let parts = both_true (is_there i o) (are_there i os) h in one_below i o os parts.0 (among_below i os parts.1)

all_there : (i : ℕ) (os ps : List Operand) → IsTrue (are_there i os) → IsTrue (are_there i ps) → IsTrue (are_there i (os ++ ps))
all_there i os ps h k = list_all-append (is_there i) os ps ∙ both (are_there i os) (are_there i ps) h k
  where
    both : (a b : Bool) → IsTrue a → IsTrue b → (a && b) ≡ true
    both true b h k = k
    both false b h k = absurd (cc)

if_are_there : (i : ℕ) (o : Option Operand) → IsTrue (is_there_if i o) → IsTrue (are_there i (if_there o))
if_are_there i None h = refl
if_are_there i (Some o) h = one (is_there i o) h
  where
    one : (a : Bool) → IsTrue a → IsTrue (a && true)
    one true h = refl
    one false h = absurd (cc)

operands_there : (i : ℕ) (a : Attributes) → IsTrue (attributes_there i a) → IsTrue (are_there i (operands_in a))
operands_there i attributes.None h = refl
operands_there i (attributes.StartAndWidth start width) h = refl
operands_there i (attributes.Width width) h = refl
operands_there i (attributes.NewBitCount width) h = refl
operands_there i (attributes.Cases cases default) h =
    let parts = both_true (are_there i cases) (is_there_if i default) h in all_there i cases (if_there default) parts.0 (if_are_there i default parts.1)
operands_there i (attributes.Index n) h = refl
operands_there i (attributes.Indices o) h = if_are_there i (Some o) h
operands_there i (attributes.Value c) h = refl
operands_there i (attributes.Channel predicate c) h = if_are_there i predicate h

record NodeThere (state : IrType) (all nodes : List Node) (i : ℕ) : Type 0 where
  node : Node
  read : slice_get nodes i ≡ Some node
  timed : node_at (map (timed_node state all) nodes) i ≡ timed_node state all node

node_there : (state : IrType) (all nodes : List Node) (i : ℕ) → i < length nodes → NodeThere state all nodes i
node_there state all [] i h = absurd (omega arith)
node_there state all (n ∷ nodes) zero h = record { node = n; read = refl; timed = refl }
node_there state all (n ∷ nodes) (suc i) h = let r = node_there state all nodes i (omega arith) in record { node = r.node; read = r.read; timed = r.timed }

in_order : (p : Proc) → IsSoundProc p → AreSourcesEarlier (timed_nodes p)
in_order p s i j c =
    let inside = source_there (timed_nodes p) i j c in
    let size = length-map p.nodes (timed_node p.state p.nodes) in
    let r = node_there p.state p.nodes p.nodes i (omega arith) in
    let sound = s.nodes i r.node r.read in
    among_below i (r.node.operands ++ operands_in r.node.attributes)
    (all_there i r.node.operands (operands_in r.node.attributes) sound.operands (operands_there i r.node.attributes sound.attributes)) j
    (subst (λ (x : TimedNode). Contains x.sources j) r.timed c)

-- ---- delays

operand_narrow : (p : Proc) → IsSoundProc p → (own : IrType) → width_of (ty_of own) ≤ 32768 → (o : Operand) → width_of (ty_of (operand_type p.state p.nodes own o)) ≤ 32768
operand_narrow p s own h operand.State = s.state
operand_narrow p s own h (operand.Node i) = by (slice_get p.nodes i) refl
  where
    by : (o : Option Node) → slice_get p.nodes i ≡ o → width_of (ty_of (node_type_or own o)) ≤ 32768
    by None e = h
    by (Some n) e = (s.nodes i n e).narrow

timed_narrow : (p : Proc) → IsSoundProc p → (n : Node) → width_of (ty_of n.ty) ≤ 32768 → (t : TimedBy) → width_of (ty_of (type_timed_by p.state p.nodes n t)) ≤ 32768
timed_narrow p s n h timed_by.Result = h
timed_narrow p s n h timed_by.FirstOperand = by n.operands
  where
    by : (os : List Operand) → width_of (ty_of (first_type p.state p.nodes n.ty os)) ≤ 32768
    by [] = h
    by (o ∷ os) = operand_narrow p s n.ty h o

same_delay : (p : Proc) → IsSoundProc p → (k : ℕ) (n : Node) → slice_get p.nodes k ≡ Some n → timed_node_within p.state p.nodes n ≡ timed_node p.state p.nodes n
same_delay p s k n e =
    let t = type_timed_by p.state p.nodes n (timed_by_of n.op) in
    let h : width_of (ty_of t) ≤ 32768 = timed_narrow p s n (s.nodes k n e).narrow (timed_by_of n.op) in
    let same : min (type_width t) 32768 ≡ width_of (ty_of t) = omega arith in
    let delay : delay_within p.state p.nodes n ≡ node_delay p.state p.nodes n = ap (delay_of n.op) same in
    λ i. record { delay = delay i; sources = sources_of n; role = role_of n }

map_same : (f g : Node → TimedNode) (nodes : List Node) → ((k : ℕ) (n : Node) → slice_get nodes k ≡ Some n → f n ≡ g n) → map f nodes ≡ map g nodes
map_same f g [] h = refl
map_same f g (n ∷ nodes) h = ap (λ x. x ∷ map f nodes) (h 0 n refl) ∙ ap (λ xs. g n ∷ xs) (map_same f g nodes (λ k m e. h (suc k) m e))

pub ready : (p : Proc) → IsOfVerified p → IsReady p
ready p v =
    let s = sound_proc v.ir.channels p (verified_proc v.ir v.verified v.place p v.there) in
    record {
      same = map_same (timed_node_within p.state p.nodes) (timed_node p.state p.nodes) p.nodes (same_delay p s);
      order = in_order p s;
    }
