-- Marks, one after the other.
use Rattle.std.proofs.Common.{◌≡◌, ℕ, zero, suc, ◌+◌, ◌-◌, ◌<◌, ◌≤◌, List, [], ◌∷◌, ◌++◌, length, get_or, drop, add-one, Bool, true, false, ◌&&◌, Some, refl, sym, ap, subst, ◌∙◌, arith, ⊎_elim}
use Rattle.std.specs.Prelude.{slice_set, slice_get, nat_lt, ◌||◌}
use Rattle.std.specs.List.{list_all}
use Rattle.std.proofs.lemmas.Bool.{cases_lt}
use Rattle.std.proofs.lemmas.Bool.Decides.{nat_tests}
use Rattle.std.proofs.lemmas.Option.{slice_get_within}
use Rattle.std.proofs.lemmas.List.Folds.{list_all-append}
use Rattle.ir_tree.specs.declared.node.Operand.{Operand}
use Rattle.ir_tree.specs.declared.node.Operand.TheVariants as operand
use Rattle.ir_tree.specs.declared.node.Node.{Node}
use Rattle.ir_tree.specs.declared.package.Proc.{Proc}
use Rattle.ir_tree.specs.NodeValues.{role_of}
use Rattle.ir_tree.specs.Rules.Lines.{is_there}
use Rattle.ir_rebuild.specs.Operands.{operands_in}
use Rattle.ir_rebuild.specs.Kept.{is_kept, is_site, AreKept, StandBefore}
use Rattle.pass_dead.specs.Inner.Marks.{marked, marked_all, visited_if, visited, Marks, IsVisited}

both : (a b : Bool) → a && b ≡ true → (a ≡ true) × (b ≡ true)
both true true h = (refl, refl)
both true false h = absurd (cc)
both false b h = absurd (cc)

and_both : (a b : Bool) → a ≡ true → b ≡ true → a && b ≡ true
and_both true b h k = k
and_both false b h k = absurd (cc)

below : (i n : ℕ) → nat_lt i n ≡ true → i < n
below i n h = grind (arith, nat_tests, h)

is_below : (i n : ℕ) → i < n → nat_lt i n ≡ true
is_below i n h = grind (arith, nat_tests, h)

-- ---- one place

set_same : (xs : List Bool) (i : ℕ) → i < length xs → get_or (slice_set xs i true) i false ≡ true
set_same [] i h = absurd (omega arith)
set_same (x ∷ xs) zero h = refl
set_same (x ∷ xs) (suc i) h = set_same xs i (omega arith)

set_other : (xs : List Bool) (i j : ℕ) → i < j → get_or (slice_set xs i true) j false ≡ get_or xs j false
set_other [] i j h = refl
set_other (x ∷ xs) zero zero h = absurd (omega arith)
set_other (x ∷ xs) zero (suc j) h = refl
set_other (x ∷ xs) (suc i) zero h = absurd (omega arith)
set_other (x ∷ xs) (suc i) (suc j) h = set_other xs i j (omega arith)

set_keeps : (xs : List Bool) (i j : ℕ) → get_or xs j false ≡ true → get_or (slice_set xs i true) j false ≡ true
set_keeps [] i j h = h
set_keeps (x ∷ xs) zero zero h = refl
set_keeps (x ∷ xs) zero (suc j) h = h
set_keeps (x ∷ xs) (suc i) zero h = h
set_keeps (x ∷ xs) (suc i) (suc j) h = set_keeps xs i j h

set_count : (xs : List Bool) (i : ℕ) → length (slice_set xs i true) ≡ length xs
set_count [] i = refl
set_count (x ∷ xs) zero = refl
set_count (x ∷ xs) (suc i) = ap suc (set_count xs i)

kept_set : (xs : List Bool) (i : ℕ) (o : Operand) → is_kept xs o ≡ true → is_kept (slice_set xs i true) o ≡ true
kept_set xs i operand.State h = refl
kept_set xs i (operand.Node j) h = set_keeps xs i j h

pub marks_place : (xs : List Bool) (i : ℕ) → Marks xs (slice_set xs i true) (operand.Node i ∷ [])
marks_place xs i = record {
  count = set_count xs i;
  keeps = kept_set xs i;
  marks = λ h. and_both _ _ (set_same xs i (below i (length xs) (both (nat_lt i (length xs)) true h).0)) refl;
  stays = λ k j h past. set_other xs i j (let less = below i k (both (nat_lt i k) true h).0 in omega arith);
}

-- ---- lists

pub marks_none : (xs : List Bool) → Marks xs xs []
marks_none xs = record { count = refl; keeps = λ o h. h; marks = λ h. refl; stays = λ i j h past. refl }

pub marks_state : (xs : List Bool) → Marks xs xs (operand.State ∷ [])
marks_state xs = record { count = refl; keeps = λ o h. h; marks = λ h. refl; stays = λ i j h past. refl }

-- an operand that isn't there
pub marks_nothing : (xs : List Bool) (i : ℕ) → length xs ≤ i → Marks xs xs (operand.Node i ∷ [])
marks_nothing xs i past = record {
  count = refl;
  keeps = λ o h. h;
  marks = λ h. let less = below i (length xs) (both (nat_lt i (length xs)) true h).0 in absurd (omega arith);
  stays = λ k j h over. refl;
}

all_kept : (a b : List Bool) → ((o : Operand) → is_kept a o ≡ true → is_kept b o ≡ true) → (os : List Operand) → list_all (is_kept a) os ≡ true → list_all (is_kept b) os ≡ true
all_kept a b h [] k = refl
all_kept a b h (o ∷ os) k =
    let parts = both (is_kept a o) (list_all (is_kept a) os) k in
    and_both _ _ (h o parts.0) (all_kept a b h os parts.1)

pub marks_append : (a b c : List Bool) (xs ys : List Operand) → Marks a b xs → Marks b c ys → Marks a c (xs ++ ys)
marks_append a b c xs ys h k = record {
  count = k.count ∙ h.count;
  keeps = λ o e. k.keeps o (h.keeps o e);
  marks = λ e.
      let parts = both _ _ (sym (list_all-append (is_there (length a)) xs ys) ∙ e) in
      list_all-append (is_kept c) xs ys
      ∙ and_both _ _ (all_kept b c k.keeps xs (h.marks parts.0)) (k.marks (subst (λ n. list_all (is_there n) ys ≡ true) (sym h.count) parts.1));
  stays = λ i j e past.
      let parts = both _ _ (sym (list_all-append (is_there i) xs ys) ∙ e) in
      k.stays i j parts.1 past ∙ h.stays i j parts.0 past;
}

-- ---- marks as the code makes them

pub marked_parts : (kept : List Bool) (xs ys : List Operand) → marked_all (marked_all kept xs) ys ≡ marked_all kept (xs ++ ys)
marked_parts kept [] ys = refl
marked_parts kept (x ∷ xs) ys = marked_parts (marked kept x) xs ys

pub marked_step : (os : List Operand) (i : ℕ) (o : Operand) (kept next all : List Bool) → i < length os → o ≡ get_or os i o → next ≡ marked kept o → marked_all kept (drop i os) ≡ all → marked_all next (drop (i + 1) os) ≡ all
marked_step os i o kept next all h e n k =
    ap (λ j. marked_all next (drop j os)) (add-one i)
    ∙ ap (λ ks. marked_all ks (drop (suc i) os)) n
    ∙ sym (ap (marked_all kept) (first os i o h e))
    ∙ k
  where
    first : (os : List Operand) (i : ℕ) (o : Operand) → i < length os → o ≡ get_or os i o → drop i os ≡ o ∷ drop (suc i) os
    first [] i o h e = absurd (omega arith)
    first (x ∷ xs) zero o h e = ap (λ y. y ∷ xs) (sym e)
    first (x ∷ xs) (suc i) o h e = first xs i o (omega arith) e

marks_one : (kept : List Bool) (o : Operand) → Marks kept (marked kept o) (o ∷ [])
marks_one kept operand.State = marks_state kept
marks_one kept (operand.Node i) = marks_place kept i

pub marks_all : (kept : List Bool) (os : List Operand) → Marks kept (marked_all kept os) os
marks_all kept [] = marks_none kept
marks_all kept (o ∷ os) = marks_append kept (marked kept o) (marked_all (marked kept o) os) (o ∷ []) os (marks_one kept o) (marks_all (marked kept o) os)

-- ---- a visit

visit_marks : (place : ℕ) (n : Node) (a c : List Bool) → place < length a → Marks (slice_set a place true) c (operands_in n) → IsVisited place n a c
visit_marks place n a c within all = record {
  count = all.count ∙ set_count a place;
  keeps = λ o e. all.keeps o (kept_set a place o e);
  site = λ e. own;
  operands = λ e there. all.marks (subst (λ m. list_all (is_there m) (operands_in n) ≡ true) (sym (set_count a place)) there);
  stays = λ j there past. all.stays place j there (omega (arith, past)) ∙ set_other a place j past;
}
  where
    own : get_or c place false ≡ true
    own = all.keeps (operand.Node place) (set_same a place within)

visit_none : (place : ℕ) (n : Node) (a : List Bool) → get_or a place false ≡ false → is_site (role_of n) ≡ false → IsVisited place n a a
visit_none place n a e no_site = record {
  count = refl;
  keeps = λ o h. h;
  site = λ h. absurd (cc);
  operands = λ h there. absurd (cc);
  stays = λ j there past. refl;
}

neither : (a b : Bool) → a || b ≡ false → (a ≡ false) × (b ≡ false)
neither true b h = absurd (cc)
neither false b h = (refl, h)

visit_if : (place : ℕ) (n : Node) (a : List Bool) (b : Bool) → place < length a → (get_or a place false || is_site (role_of n)) ≡ b → IsVisited place n a (visited_if b a place n)
visit_if place n a true within e = visit_marks place n a (marked_all (slice_set a place true) (operands_in n)) within (marks_all (slice_set a place true) (operands_in n))
visit_if place n a false within e =
    let parts = neither (get_or a place false) (is_site (role_of n)) e in
    visit_none place n a parts.0 parts.1

is_visited : (place : ℕ) (n : Node) (a : List Bool) → place < length a → IsVisited place n a (visited a place n)
is_visited place n a within = visit_if place n a (get_or a place false || is_site (role_of n)) within refl

-- ---- all nodes

-- the last k nodes were visited
pub record AreVisited (proc : Proc) (k : ℕ) (kept : List Bool) : Type 0 where
  pub count : length kept ≡ length proc.nodes
  pub next : is_kept kept proc.next ≡ true
  pub sites : (j : ℕ) (n : Node) → slice_get proc.nodes j ≡ Some n → length proc.nodes ≤ j + k → is_site (role_of n) ≡ true → get_or kept j false ≡ true
  pub operands : (j : ℕ) (n : Node) → slice_get proc.nodes j ≡ Some n → length proc.nodes ≤ j + k → get_or kept j false ≡ true → list_all (is_kept kept) (operands_in n) ≡ true

marked_visited : (proc : Proc) (a b : List Bool) → StandBefore proc → length a ≡ length proc.nodes → Marks a b (proc.next ∷ []) → AreVisited proc 0 b
marked_visited proc a b before e h = record {
  count = h.count ∙ e;
  next = (both (is_kept b proc.next) true (h.marks (and_both _ _ (subst (λ n. is_there n proc.next ≡ true) (sym e) before.next) refl))).0;
  sites = λ j n there past. absurd (never j n there past);
  operands = λ j n there past. absurd (never j n there past);
}
  where
    never : (j : ℕ) (n : Node) → slice_get proc.nodes j ≡ Some n → length proc.nodes ≤ j + 0 → ⊥
    never j n there past = let less = slice_get_within proc.nodes j n there in omega arith

pub none_visited : (proc : Proc) (a b : List Bool) → StandBefore proc → length a ≡ length proc.nodes → b ≡ marked a proc.next → AreVisited proc 0 b
none_visited proc a b before e h = subst (AreVisited proc 0) (sym h) (marked_visited proc a (marked a proc.next) before e (marks_one a proc.next))

there_longer : (i m : ℕ) → i ≤ m → (os : List Operand) → list_all (is_there i) os ≡ true → list_all (is_there m) os ≡ true
there_longer i m h [] k = refl
there_longer i m h (operand.State ∷ os) k = there_longer i m h os k
there_longer i m h (operand.Node j ∷ os) k =
    let parts = both (nat_lt j i) (list_all (is_there i) os) k in
    let less = below j i parts.0 in
    and_both _ _ (is_below j m (omega arith)) (there_longer i m h os parts.1)

visited_more : (proc : Proc) (k place : ℕ) (n : Node) (a b : List Bool) → StandBefore proc → k < length proc.nodes → place ≡ length proc.nodes - 1 - k → slice_get proc.nodes place ≡ Some n → AreVisited proc k a → IsVisited place n a b → AreVisited proc (k + 1) b
visited_more proc k place n a b before more at here h v = record {
  count = v.count ∙ h.count;
  next = v.keeps proc.next h.next;
  sites = λ j m there past site. ⊎_elim
      (λ less. v.keeps (operand.Node j) (h.sites j m there (omega (arith, less, at, more)) site))
      (λ same. let place_is : j ≡ place = omega (arith, same, at, more, past) in subst (λ i. get_or b i false ≡ true) (sym place_is) (v.site (subst (λ x. is_site (role_of x) ≡ true) (same_node j m there place_is) site)))
      (cases_lt place j);
  operands = λ j m there past own_mark. ⊎_elim
      (λ less. all_kept a b v.keeps (operands_in m) (h.operands j m there (omega (arith, less, at, more)) (sym (v.stays j own less) ∙ own_mark)))
      (λ same.
      let place_is : j ≡ place = omega (arith, same, at, more, past) in
      subst (λ x. list_all (is_kept b) (operands_in x) ≡ true) (sym (same_node j m there place_is))
      (v.operands (subst (λ i. get_or b i false ≡ true) place_is own_mark) (there_longer place (length a) (let same_count = h.count in omega (arith, at, more)) (operands_in n) own)))
      (cases_lt place j);
}
  where
    own : list_all (is_there place) (operands_in n) ≡ true
    own = before.operands place n here

    same_node : (j : ℕ) (m : Node) → slice_get proc.nodes j ≡ Some m → j ≡ place → m ≡ n
    same_node j m there e =
        let one : Some m ≡ Some n = sym there ∙ ap (slice_get proc.nodes) e ∙ here in cc

node_at : (ns : List Node) (i : ℕ) (n : Node) → i < length ns → n ≡ get_or ns i n → slice_get ns i ≡ Some n
node_at [] i n h e = absurd (omega arith)
node_at (x ∷ xs) zero n h e = ap Some (sym e)
node_at (x ∷ xs) (suc i) n h e = node_at xs i n (omega arith) e

-- the node of a place that the loop visits
pub node_there : (proc : Proc) (ns : List Node) (k place : ℕ) (n : Node) → ns ≡ proc.nodes → k < length ns → place ≡ length ns - 1 - k → n ≡ get_or ns place n → slice_get proc.nodes place ≡ Some n
node_there proc ns k place n e h at is =
    let within : place < length ns = omega (arith, h, at) in
    ap (λ xs. slice_get xs place) (sym e) ∙ node_at ns place n within is

pub one_visited : (proc : Proc) (ns : List Node) (k place : ℕ) (n : Node) (a b : List Bool) → StandBefore proc → ns ≡ proc.nodes → k < length ns → place ≡ length ns - 1 - k → n ≡ get_or ns place n → AreVisited proc k a → b ≡ visited a place n → AreVisited proc (k + 1) b
one_visited proc ns k place n a b before e h at is v new =
    let same : length ns ≡ length proc.nodes = ap length e in
    let count = v.count in
    let within : place < length ns = omega (arith, h, at) in
    let own : place < length a = omega (arith, within, same, count) in
    let there : slice_get proc.nodes place ≡ Some n = ap (λ xs. slice_get xs place) (sym e) ∙ node_at ns place n within is in
    subst (AreVisited proc (k + 1)) (sym new)
    (visited_more proc k place n a (visited a place n) before (omega (arith, h, same)) (at ∙ ap (λ m. m - 1 - k) same) there v (is_visited place n a own))

pub all_visited : (proc : Proc) (kept : List Bool) (k : ℕ) → length proc.nodes ≤ k → AreVisited proc k kept → AreKept proc kept
all_visited proc kept k past h = record {
  next = h.next;
  sites = λ j n there site. h.sites j n there (omega (arith, past)) site;
  operands = λ j n there own. h.operands j n there (omega (arith, past)) own;
}
