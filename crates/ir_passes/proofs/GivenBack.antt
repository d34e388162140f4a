-- A proc that is normal is given back, with other ids.
use Rattle.std.proofs.Common.{◌≡◌, ⊎_elim, ℕ, zero, suc, ◌+◌, ◌<◌, List, [], ◌∷◌, ◌++◌, map, length, get_or, Bool, true, false, Some, refl, sym, ap, ap₂, subst, ◌∙◌, arith, length-append}
use Rattle.std.specs.Prelude.{slice_get, replicate, nat_lt, not, ◌||◌}
use Rattle.std.specs.List.{list_all}
use Rattle.std.proofs.lemmas.Bool.{cases_lt}
use Rattle.std.proofs.lemmas.Bool.Decides.{nat_tests}
use Rattle.std.proofs.lemmas.Iterator.Adapters.{option_map_id}
use Rattle.std.proofs.lemmas.List.{map-id, get_or_append_left}
use Rattle.std.proofs.lemmas.Option.{slice_get_within}
use Rattle.ir_tree.specs.declared.ir_type.IrType.{IrType}
use Rattle.ir_tree.specs.declared.node.Operand.{Operand}
use Rattle.ir_tree.specs.declared.node.Operand.TheVariants as operand
use Rattle.ir_tree.specs.declared.node.Node.{Node}
use Rattle.ir_tree.specs.declared.node.Attributes.{Attributes}
use Rattle.ir_tree.specs.declared.node.Attributes.TheVariants as attributes
use Rattle.ir_tree.specs.declared.package.Proc.{Proc}
use Rattle.ir_tree.specs.Rules.Lines.{is_there}
use Rattle.ir_rebuild.specs.Operands.{operands_in, attribute_operands}
use Rattle.ir_rebuild.specs.Moves.{moved, moved_attributes, moved_node}
use Rattle.ir_rebuild.specs.Kept.{is_kept, AreKept, AreAllKept, StandBefore}
use Rattle.ir_rebuild.specs.Built.{is_plain_op, numbered}
use Rattle.ir_rebuild.specs.Fixed.{is_part_of_receive}
use Rattle.ir_rebuild.specs.Walks.{RebuildsTo, none_read, dropped, copied, rewritten, ProcRebuildsTo, EachProcRebuildsTo}
use Rattle.ir_rebuild.specs.Normal.Normal.{IsReached, by_next, as_site, by_node, AreLive, IsNormalNode, AreNormal, IsNormalProc}
use Rattle.ir_rebuild.proofs.Lemmas.{all_parts, all_weaker, there_more, moved_two, before_more, last_there}
use Rattle.ir_rebuild.proofs.Lemmas.Normal.{AreOrdered, literals_more, chooses_more, side_more}
use Rattle.pass_dead.specs.Stays.{Stays}
use Rattle.ir_passes.specs.Simplifies.{Simplifies}
use Rattle.ir_passes.specs.Renumbered.{numbered_from, numbered_proc}
use Rattle.ir_passes.proofs.Kept.{kept_as, prefix_ordered, last_place}
use Rattle.ir_passes.proofs.Moved.{IsDropped, all_ready, normal_over, operand_there}
use Rattle.ir_passes.proofs.Unchanged.{unchanged}

-- ---- all are kept

below : (i n : ℕ) → nat_lt i n ≡ true → i < n
below i n h = grind (arith, nat_tests, h)

above : (i n : ℕ) → i < n → nat_lt i n ≡ true
above i n h = grind (arith, nat_tests, h)

true_at : (k i : ℕ) → i < k → get_or (replicate k true) i false ≡ true
true_at zero i h = absurd (omega (arith, h))
true_at (suc k) zero h = refl
true_at (suc k) (suc i) h = true_at k i (omega (arith, h))

-- so many are
abbrev pub AreKeptTo : List Bool → ℕ → Type 0
AreKeptTo kept count = (i : ℕ) → i < count → get_or kept i false ≡ true

kept_operands : (kept : List Bool) (count : ℕ) (os : List Operand) → AreKeptTo kept count → list_all (is_there count) os ≡ true → list_all (is_kept kept) os ≡ true
kept_operands kept count os all there = all_weaker (is_there count) (is_kept kept) one os there
  where
    one : (o : Operand) → is_there count o ≡ true → is_kept kept o ≡ true
    one operand.State h = refl
    one (operand.Node i) h = all i (below i count h)

-- ---- nodes that are normal in a list were so in its front

prefix_node : (state : IrType) (xs ys : List Node) (n : Node) → AreOrdered xs → list_all (is_there (length xs)) (operands_in n) ≡ true → IsNormalNode state (xs ++ ys) n → IsNormalNode state xs n
prefix_node state xs ys n ordered there h = record {
  folded = sym (literals_more xs ys (operands_in n) there) ∙ h.folded;
  chosen = sym (chooses_more xs ys n.operands n.attributes (all_parts (is_there (length xs)) n.operands (attribute_operands n.attributes) there).0) ∙ h.chosen;
  narrowed = sym (side_more state xs ys n ordered there) ∙ h.narrowed;
}

prefix_normal : (state : IrType) (old : List Node) (n : Node) → AreOrdered old → AreNormal state (old ++ n ∷ []) → AreNormal state old
prefix_normal state old n ordered h = record {
  each = λ i m e plain.
      let less = slice_get_within old i m e in
      prefix_node state old (n ∷ []) m ordered (all_weaker (is_there i) (is_there (length old)) (λ o k. there_more i (length old) (omega (arith, less)) o k) (operands_in m) (ordered i m e))
      (h.each i m (before_more old (n ∷ []) i m e) plain);
}

-- ---- the rules leave each node

is_plain : (plain part : Bool) → not plain || part ≡ false → plain ≡ true
is_plain true part h = refl
is_plain false part h = absurd (cc)

-- the walk over normal nodes is one in which each node stays
pub stays : (state : IrType) (kept : List Bool) (old new : List Node) (places : List Operand) → RebuildsTo state Simplifies kept old new places → AreOrdered old → AreKeptTo kept (length old) → AreNormal state old → RebuildsTo state Stays kept old new places
stays state kept _ _ _ none_read ordered all normal = none_read
stays state kept _ _ _ (dropped old new places n w unmarked) ordered all normal =
    let own : get_or kept (length old) false ≡ true = all (length old) (omega (arith, length-append old (n ∷ []))) in
    absurd (cc)
stays state kept _ _ _ (copied old new places n w marked fixed built) ordered all normal =
    let front = prefix_ordered old n ordered in
    copied old new places n (stays state kept old new places w front (λ i h. all i (omega (arith, h, length-append old (n ∷ [])))) (prefix_normal state old n front normal)) marked fixed built
stays state kept _ _ _ (rewritten old new more places n o w marked free built fits_at rewrites given) ordered all normal =
    let front = prefix_ordered old n ordered in
    let within : AreKeptTo kept (length old) = λ i h. all i (omega (arith, h, length-append old (n ∷ []))) in
    let walk = stays state kept old new places w front within (prefix_normal state old n front normal) in
    let there : list_all (is_there (length old)) (operands_in n) ≡ true = ordered (length old) n (last_there old n) in
    let plain : is_plain_op n.op ≡ true = is_plain (is_plain_op n.op) (is_part_of_receive new (moved_node (moved places) n).attributes (moved_node (moved places) n).operands) free in
    let own : IsNormalNode state old n = prefix_node state old (n ∷ []) n front there (normal.each (length old) n (last_there old n) plain) in
    let is : IsDropped state kept old new places = record {
      stand = kept_as state kept old new places walk front;
      ordered = front;
      closed = λ j m e k.
          let less = slice_get_within old j m e in
          kept_operands kept (length old) (operands_in m) within (all_weaker (is_there j) (is_there (length old)) (λ q h. there_more j (length old) (omega (arith, less)) q h) (operands_in m) (front j m e));
    } in
    let ready = all_ready (length old) kept (operands_in n) there (kept_operands kept (length old) (operands_in n) within there) in
    let here = normal_over state kept old new places is n ready own in
    rewritten old new more places n o walk marked free built fits_at rewrites (unchanged state new more (moved_node (moved places) n) o built fits_at here given.is)

-- ---- where each node stays, ids are counted

numbered_last : (k : ℕ) (old : List Node) (n : Node) → numbered_from k (old ++ n ∷ []) ≡ numbered_from k old ++ numbered (k + length old) n ∷ []
numbered_last k [] n = let e : k ≡ k + 0 = omega arith in ap (λ j. numbered j n ∷ []) e
numbered_last k (m ∷ old) n =
    let e : suc k + length old ≡ k + suc (length old) = omega arith in
    ap (λ ns. numbered k m ∷ ns) (numbered_last (suc k) old n ∙ ap (λ j. numbered_from (suc k) old ++ numbered j n ∷ []) e)

-- each operand stands for itself
record AreThemselves (old new : List Node) (places : List Operand) : Type 0 where
  nodes : new ≡ numbered_from 0 old
  count : length new ≡ length old
  places_count : length places ≡ length old
  each : (o : Operand) → is_there (length old) o ≡ true → moved places o ≡ o

attributes_same : (a : Attributes) → moved_attributes (λ o. o) a ≡ a
attributes_same attributes.None = refl
attributes_same (attributes.StartAndWidth start width) = refl
attributes_same (attributes.Width width) = refl
attributes_same (attributes.NewBitCount width) = refl
attributes_same (attributes.Cases cases default) = ap₂ attributes.Cases (map-id cases) (option_map_id default)
attributes_same (attributes.Index i) = refl
attributes_same (attributes.Indices i) = refl
attributes_same (attributes.Value c) = refl
attributes_same (attributes.Channel predicate c) = ap (λ p. attributes.Channel p c) (option_map_id predicate)

node_same : (n : Node) → moved_node (λ o. o) n ≡ n
node_same n = λ i. record { id = n.id; ty = n.ty; op = n.op; operands = map-id n.operands i; attributes = attributes_same n.attributes i }

-- one more that stays
one_stays : (old new : List Node) (places : List Operand) (n : Node) → list_all (is_there (length old)) (operands_in n) ≡ true → AreThemselves old new places → AreThemselves (old ++ n ∷ []) (new ++ numbered (length new) (moved_node (moved places) n) ∷ []) (places ++ operand.Node (length new) ∷ [])
one_stays old new places n there h = record {
  nodes =
      let e : 0 + length old ≡ length old = omega arith in
      ap₂ (λ ns x. ns ++ x ∷ []) h.nodes (ap₂ numbered h.count same)
      ∙ sym (numbered_last 0 old n ∙ ap (λ j. numbered_from 0 old ++ numbered j n ∷ []) e);
  count = let c = h.count in omega (arith, c, length-append old (n ∷ []), length-append new (numbered (length new) (moved_node (moved places) n) ∷ []));
  places_count = let c = h.places_count in omega (arith, c, length-append old (n ∷ []), length-append places (operand.Node (length new) ∷ []));
  each = each;
}
  where
    same : moved_node (moved places) n ≡ n
    same = moved_two (is_there (length old)) (moved places) (λ o. o) h.each n there ∙ node_same n

    each : (o : Operand) → is_there (length (old ++ n ∷ [])) o ≡ true → moved (places ++ operand.Node (length new) ∷ []) o ≡ o
    each operand.State k = refl
    each (operand.Node i) k =
        let c = h.count in
        let d = h.places_count in
        let less = below i (length (old ++ n ∷ [])) k in
        ⊎_elim
        (λ inside. get_or_append_left places (operand.Node (length new) ∷ []) operand.State i (omega (arith, inside, d)) ∙ h.each (operand.Node i) (above i (length old) inside))
        (λ past.
        let at : i ≡ length old = omega (arith, less, past, length-append old (n ∷ [])) in
        last_place places (operand.Node (length new)) i (at ∙ sym d) ∙ ap operand.Node (c ∙ sym at))
        (cases_lt i (length old))

themselves : (state : IrType) (kept : List Bool) (old new : List Node) (places : List Operand) → RebuildsTo state Stays kept old new places → AreOrdered old → AreKeptTo kept (length old) → AreThemselves old new places
themselves state kept _ _ _ none_read ordered all = record { nodes = refl; count = refl; places_count = refl; each = none }
  where
    none : (o : Operand) → is_there 0 o ≡ true → moved [] o ≡ o
    none operand.State h = refl
    none (operand.Node i) h = let less = below i 0 h in absurd (omega (arith, less))
themselves state kept _ _ _ (dropped old new places n w unmarked) ordered all =
    let own : get_or kept (length old) false ≡ true = all (length old) (omega (arith, length-append old (n ∷ []))) in
    absurd (cc)
themselves state kept _ _ _ (copied old new places n w marked fixed built) ordered all =
    one_stays old new places n (ordered (length old) n (last_there old n)) (themselves state kept old new places w (prefix_ordered old n ordered) (λ i h. all i (omega (arith, h, length-append old (n ∷ [])))))
themselves state kept _ _ _ (rewritten old new more places n o w marked free built fits_at rewrites given) ordered all =
    subst (λ ns. AreThemselves (old ++ n ∷ []) ns (places ++ o ∷ [])) (sym given.0)
    (subst (λ p. AreThemselves (old ++ n ∷ []) (new ++ numbered (length new) (moved_node (moved places) n) ∷ []) (places ++ p ∷ [])) (sym given.1)
    (one_stays old new places n (ordered (length old) n (last_there old n)) (themselves state kept old new places w (prefix_ordered old n ordered) (λ i h. all i (omega (arith, h, length-append old (n ∷ [])))))))

-- a proc in which each node stays
stay_as : (kept : List Bool) (p q : Proc) (places : List Operand) → RebuildsTo p.state Stays kept p.nodes q.nodes places → StandBefore p → AreKeptTo kept (length p.nodes) → q.name ≡ p.name → q.state ≡ p.state → q.init ≡ p.init → q.next ≡ moved places p.next → q ≡ numbered_proc p
stay_as kept p q places w before all name state init next =
    let is = themselves p.state kept p.nodes q.nodes places w before.operands all in
    let nodes = is.nodes in
    let last = next ∙ is.each p.next before.next in
    λ i. record { name = name i; state = state i; init = init i; nodes = nodes i; next = last i }

-- ---- what is needed is kept

pub is_marked : (p : Proc) (kept : List Bool) → AreKept p kept → (i : ℕ) → IsReached p i → get_or kept i false ≡ true
is_marked p kept h i (by_next _ e) = subst (λ o. is_kept kept o ≡ true) e h.next
is_marked p kept h i (as_site _ n there site) = h.sites i n there site
is_marked p kept h i (by_node _ j k n above there named) = operand_there (is_kept kept) (operands_in n) k (operand.Node i) (h.operands j n there (is_marked p kept h j above)) named

-- the node of a place, with another id
numbered_at : (k : ℕ) (ns : List Node) (i : ℕ) (n : Node) → slice_get ns i ≡ Some n → slice_get (numbered_from k ns) i ≡ Some (numbered (k + i) n)
numbered_at k [] i n e = absurd (cc)
numbered_at k (m ∷ ns) zero n e = let same : m ≡ n = cc in let f : k ≡ k + 0 = omega arith in ap₂ (λ x j. Some (numbered j x)) same f
numbered_at k (m ∷ ns) (suc i) n e = let f : suc k + i ≡ k + suc i = omega arith in numbered_at (suc k) ns i n e ∙ ap (λ j. Some (numbered j n)) f

numbered_reached : (p : Proc) (i : ℕ) → IsReached p i → IsReached (numbered_proc p) i
numbered_reached p i (by_next _ e) = by_next i e
numbered_reached p i (as_site _ n there site) = as_site i (numbered (0 + i) n) (numbered_at 0 p.nodes i n there) site
numbered_reached p i (by_node _ j k n above there named) = by_node i j k (numbered (0 + j) n) (numbered_reached p j above) (numbered_at 0 p.nodes j n there) named

numbered_count : (k : ℕ) (ns : List Node) → length (numbered_from k ns) ≡ length ns
numbered_count k [] = refl
numbered_count k (n ∷ ns) = ap suc (numbered_count (suc k) ns)

numbered_twice : (k : ℕ) (ns : List Node) → numbered_from k (numbered_from k ns) ≡ numbered_from k ns
numbered_twice k [] = refl
numbered_twice k (n ∷ ns) = ap (λ xs. numbered k n ∷ xs) (numbered_twice (suc k) ns)

there_item : (ns : List Node) (i : ℕ) → i < length ns → (n : Node) × (slice_get ns i ≡ Some n)
there_item [] i h = absurd (omega (arith, h))
there_item (n ∷ ns) zero h = (n, refl)
there_item (n ∷ ns) (suc i) h = there_item ns i (omega (arith, h))

-- ---- procs

-- the rules leave a normal proc
rules_leave : (p q : Proc) → IsNormalProc p → ProcRebuildsTo AreAllKept Simplifies p q → q ≡ numbered_proc p
rules_leave p q normal b =
    let all : AreKeptTo b.kept (length p.nodes) = λ i h. subst (λ ks. get_or ks i false ≡ true) (sym b.marked) (true_at (length p.nodes) i h) in
    stay_as b.kept p q b.places (stays p.state b.kept p.nodes q.nodes b.places b.walks b.before.operands all normal.nodes) b.before all b.name b.state b.init b.next

-- none of its nodes is dead
none_dead : (p q : Proc) → IsNormalProc p → ProcRebuildsTo AreLive Stays (numbered_proc p) q → q ≡ numbered_proc (numbered_proc p)
none_dead p q normal b =
    let all : AreKeptTo b.kept (length (numbered_proc p).nodes) =
    λ i h.
    let n = there_item p.nodes i (subst (λ k. i < k) (numbered_count 0 p.nodes) h) in
    is_marked (numbered_proc p) b.kept b.are_kept i (numbered_reached p i (normal.live i n.0 n.1)) in
    stay_as b.kept (numbered_proc p) q b.places b.walks b.before all b.name b.state b.init b.next

pub given_back : (p m q : Proc) → IsNormalProc p → ProcRebuildsTo AreAllKept Simplifies p m → ProcRebuildsTo AreLive Stays m q → q ≡ numbered_proc p
given_back p m q normal first second =
    let twice : numbered_proc (numbered_proc p) ≡ numbered_proc p = λ i. record { name = p.name; state = p.state; init = p.init; nodes = numbered_twice 0 p.nodes i; next = p.next } in
    none_dead p q normal (subst (λ x. ProcRebuildsTo AreLive Stays x q) (rules_leave p m normal first) second) ∙ twice

-- ---- ids that count from 1

numbered_same : (k : ℕ) (ns : List Node) → ((i : ℕ) (n : Node) → slice_get ns i ≡ Some n → n.id ≡ suc (k + i)) → numbered_from k ns ≡ ns
numbered_same k [] h = refl
numbered_same k (n ∷ ns) h =
    let e : n.id ≡ suc (k + 0) = h 0 n refl in
    let id : suc k ≡ n.id = omega (arith, e) in
    let same : numbered k n ≡ n = λ i. record { id = id i; ty = n.ty; op = n.op; operands = n.operands; attributes = n.attributes } in
    ap₂ (λ x xs. x ∷ xs) same (numbered_same (suc k) ns (λ i m e. let f : m.id ≡ suc (k + suc i) = h (suc i) m e in omega (arith, f)))

pub in_order : (p q : Proc) → ProcRebuildsTo AreLive Stays p q → numbered_proc q ≡ q
in_order p q b =
    let nodes = numbered_same 0 q.nodes (λ i n e. let f : n.id ≡ suc i = b.built.numbered i n e in omega (arith, f)) in
    λ i. record { name = q.name; state = q.state; init = q.init; nodes = nodes i; next = q.next }

-- ---- lists of procs

pub all_given_back : (ps ms qs : List Proc) → EachProcRebuildsTo AreAllKept Simplifies ps ms → EachProcRebuildsTo AreLive Stays ms qs → ((i : ℕ) (p : Proc) → slice_get ps i ≡ Some p → IsNormalProc p) → qs ≡ map numbered_proc ps
all_given_back [] [] [] f g h = refl
all_given_back [] [] (q ∷ qs) f g h = absurd g
all_given_back [] (m ∷ ms) qs f g h = absurd f
all_given_back (p ∷ ps) [] qs f g h = absurd f
all_given_back (p ∷ ps) (m ∷ ms) [] f g h = absurd g
all_given_back (p ∷ ps) (m ∷ ms) (q ∷ qs) f g h = ap₂ (λ x xs. x ∷ xs) (given_back p m q (h 0 p refl) f.0 g.0) (all_given_back ps ms qs f.1 g.1 (λ i r e. h (suc i) r e))

pub all_in_order : (ms qs : List Proc) → EachProcRebuildsTo AreLive Stays ms qs → map numbered_proc qs ≡ qs
all_in_order [] [] g = refl
all_in_order [] (q ∷ qs) g = absurd g
all_in_order (m ∷ ms) [] g = absurd g
all_in_order (m ∷ ms) (q ∷ qs) g = ap₂ (λ x xs. x ∷ xs) (in_order m q g.0) (all_in_order ms qs g.1)
