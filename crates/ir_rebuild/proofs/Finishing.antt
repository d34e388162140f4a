-- All nodes of a proc were read.
use Rattle.std.proofs.Common.{◌≡◌, ℕ, zero, suc, ◌+◌, ◌<◌, ◌≤◌, List, [], ◌∷◌, ◌++◌, length, get_or, take, drop, add-one, Bool, true, false, ◌&&◌, Some, None, refl, sym, ap, subst, ◌∙◌, arith}
use Rattle.std.specs.Prelude.{slice_get, not}
use Rattle.std.proofs.lemmas.List.{append_assoc}
use Rattle.xb_bits.specs.Word.{Word}
use Rattle.xb_value.specs.declared.value.Value.{Value}
use Rattle.xb_value.specs.Typing.{IsOfType}
use Rattle.xb_span.specs.declared.fault.Fault.TheVariants.{Passed}
use Rattle.xb_span.specs.declared.limit.What.TheVariants as what
use Rattle.xb_span.specs.Spans.{nowhere}
use Rattle.net_core.specs.Behavior.{Skip}
use Rattle.ir_tree.specs.declared.node.Operand.{Operand}
use Rattle.ir_tree.specs.declared.node.Operand.TheVariants as operand
use Rattle.ir_tree.specs.declared.node.Node.{Node}
use Rattle.ir_tree.specs.declared.package.Channel.{Channel}
use Rattle.ir_tree.specs.declared.package.Proc.{Proc}
use Rattle.ir_tree.specs.Types.{ty_of}
use Rattle.ir_tree.specs.NodeValues.{operand_value, node_values}
use Rattle.ir_tree.specs.Activations.{sites_of, turns_from, words_from, site_words, setting_of, turns_of, next_state_of, activation}
use Rattle.ir_tree.specs.SameBehavior.{SameActivations}
use Rattle.ir_tree.specs.Rules.Checks.{Check}
use Rattle.ir_tree.specs.Rules.Fitting.{type_in, types_behind}
use Rattle.ir_tree.specs.NodeTypes.Types.{same_type, marks_of}
use Rattle.ir_tree.specs.Rules.Lines.{Seen, is_there, is_proc_named, is_state, is_value_of, head_checks, next_checks}
use Rattle.ir_tree.specs.Rules.Verified.{nodes_checks, seen_after, at_start, count_check}
use Rattle.ir_tree.specs.Rules.Typed.Typed.{none_broken}
use Rattle.std.specs.List.{list_all}
use Rattle.ir_rebuild.specs.Operands.{operands_in}
use Rattle.ir_rebuild.specs.Moves.{moved, moved_node}
use Rattle.ir_rebuild.specs.Kept.{is_kept, AreKept, StandBefore}
use Rattle.ir_rebuild.specs.Built.{AreBuilt, FitsAt, is_plain_op}
use Rattle.ir_rebuild.specs.Inner.Appended.{SimulatesInRebuild}
use Rattle.ir_rebuild.specs.Inner.Rebuilt.{IsCheckedBehind, IsCheckedProc, IsRebuilt}
use Rattle.ir_rebuild.proofs.Moving.{both, and_both}
use Rattle.ir_rebuild.proofs.Walking.{start, walk_values, walk_turns, walk_words}
use Rattle.ir_rebuild.proofs.Building.{below, all_there}
use Rattle.ir_rebuild.proofs.NodeChecks.{AreChecked, quiet_parts, quiet_join, fewer_checked}
use Rattle.ir_rebuild.proofs.Standing.{none_stand, is_ready, ready_type, ready_there, ready_value}
use Rattle.ir_rebuild.proofs.Reading.{IsReadSo, IsNext, is_next, read_checked, next_placed, step_kept, step_skipped, either}

twice : (b : Bool) → not (not b) ≡ true → b ≡ true
twice true h = refl
twice false h = absurd (cc)

abbrev pub sites_check : List Node → Check
sites_check nodes = count_check (Passed 0 (record { what = what.Sites; found = 33; most = 32 })) 32 (length (sites_of nodes))

-- the checks of a proc, part by part
record Parts (channels : List Channel) (names : List (List ℕ)) (seen : Seen) (p : Proc) : Type 0 where
  head : none_broken (head_checks nowhere names p) ≡ true
  nodes : AreChecked channels p.state [] 0 (at_start seen) p.nodes
  next : none_broken (next_checks nowhere p) ≡ true
  sites : none_broken (sites_check p.nodes ∷ []) ≡ true

parts : (channels : List Channel) (names : List (List ℕ)) (seen : Seen) (p : Proc) → IsCheckedBehind channels names seen p → Parts channels names seen p
parts channels names seen p c =
    let a = quiet_parts (head_checks nowhere names p) (nodes_checks channels p.state [] [] 0 (at_start seen) p.nodes ++ (next_checks nowhere p ++ sites_check p.nodes ∷ [])) c in
    let b = quiet_parts (nodes_checks channels p.state [] [] 0 (at_start seen) p.nodes) (next_checks nowhere p ++ sites_check p.nodes ∷ []) a.1 in
    let d = quiet_parts (next_checks nowhere p) (sites_check p.nodes ∷ []) b.1 in
    record { head = a.0; nodes = b.0; next = d.0; sites = d.1 }

-- the new proc
abbrev pub with_nodes : Proc → List Node → List Operand → Proc
with_nodes proc new places = record { name = proc.name; state = proc.state; init = proc.init; nodes = new; next = moved places proc.next }

-- ---- its checks

next_ready : (proc : Proc) (kept : List Bool) → AreKept proc kept → none_broken (next_checks nowhere proc) ≡ true → is_ready (length proc.nodes) kept proc.next ≡ true
next_ready proc kept k h =
    let a = both (not (not (is_there (length proc.nodes) proc.next))) _ h in
    and_both _ _ (twice _ a.0) k.next

-- an operand of the old nodes is there by a node of theirs, or is the state
with_node : (P : Type 0) (nodes : List Node) (o : Operand) → is_there (length nodes) o ≡ true → (o ≡ operand.State → P) → ((d : Node) → P) → P
with_node P nodes operand.State h state node = state refl
with_node P [] (operand.Node i) h state node = absurd (let never : i < 0 = below i 0 h in omega arith)
with_node P (n ∷ ns) (operand.Node i) h state node = node n

record NextIs (proc : Proc) (new : List Node) (places : List Operand) : Type 0 where
  there : is_there (length new) (moved places proc.next) ≡ true
  ty : type_in (types_behind proc.state new) (moved places proc.next) ≡ type_in (types_behind proc.state proc.nodes) proc.next

next_is : (channels : List Channel) (proc : Proc) (kept : List Bool) (new : List Node) (places : List Operand) → IsReadSo channels proc kept proc.nodes new places → is_ready (length proc.nodes) kept proc.next ≡ true → NextIs proc new places
next_is channels proc kept new places h ready =
    with_node (NextIs proc new places) proc.nodes proc.next (both (is_there (length proc.nodes) proc.next) (is_kept kept proc.next) ready).0
    (λ e. record { there = ap (λ o. is_there (length new) (moved places o)) e; ty = ap (λ o. type_in (types_behind proc.state new) (moved places o)) e ∙ sym (ap (type_in (types_behind proc.state proc.nodes)) e) })
    (λ d. record { there = ready_there proc.state kept proc.nodes proc.nodes new places d h.stand proc.next ready; ty = ready_type proc.state kept proc.nodes proc.nodes new places d h.stand proc.next ready })

proc_says : (channels : List Channel) (proc : Proc) (kept : List Bool) (new : List Node) (places : List Operand) (names : List (List ℕ)) (seen : Seen) → AreKept proc kept → IsReadSo channels proc kept proc.nodes new places → IsCheckedBehind channels names seen proc → IsCheckedBehind channels names seen (with_nodes proc new places)
proc_says channels proc kept new places names seen k h c =
    let all = parts channels names seen proc c in
    let nodes = (h.seen seen all.nodes).0 in
    let is = next_is channels proc kept new places h (next_ready proc kept k all.next) in
    let e = both (not (not (is_there (length proc.nodes) proc.next))) _ all.next in
    let next : none_broken (next_checks nowhere (with_nodes proc new places)) ≡ true =
    and_both _ _ (ap (λ x. not (not x)) is.there) (ap (λ t. not (not (same_type proc.state t)) && true) is.ty ∙ e.1) in
    let count : none_broken (sites_check new ∷ []) ≡ true =
    ap (λ ss. none_broken (count_check (Passed 0 (record { what = what.Sites; found = 33; most = 32 })) 32 (length ss) ∷ [])) h.stand.sites ∙ all.sites in
    quiet_join (head_checks nowhere names proc) (nodes_checks channels proc.state [] [] 0 (at_start seen) new ++ (next_checks nowhere (with_nodes proc new places) ++ sites_check new ∷ [])) all.head
    (quiet_join (nodes_checks channels proc.state [] [] 0 (at_start seen) new) (next_checks nowhere (with_nodes proc new places) ++ sites_check new ∷ []) nodes
    (quiet_join (next_checks nowhere (with_nodes proc new places)) (sites_check new ∷ []) next count))

leaves_same : (channels : List Channel) (proc : Proc) (kept : List Bool) (new : List Node) (places : List Operand) (names : List (List ℕ)) (seen : Seen) → IsReadSo channels proc kept proc.nodes new places → IsCheckedBehind channels names seen proc → at_start (seen_after 0 (at_start seen) new) ≡ at_start (seen_after 0 (at_start seen) proc.nodes)
leaves_same channels proc kept new places names seen h c =
    let alike = (h.seen seen (parts channels names seen proc c).nodes).1 in
    λ i. record { after_all = false; site = None; received = (sym alike.received) i; sent = (sym alike.sent) i }

-- ---- what it does

words_same : (channels : List Channel) (proc : Proc) (kept : List Bool) (new : List Node) (places : List Operand) (s : Value) (got : List Word) → IsReadSo channels proc kept proc.nodes new places → IsOfType (ty_of proc.state) s → words_from channels s [] got new ≡ words_from channels s [] got proc.nodes
words_same channels proc kept new places s got h typed =
    walk_words channels s (start got) new
    ∙ (h.walks s None got typed).words
    ∙ sym (walk_words channels s (start got) proc.nodes)

setting_same : (channels : List Channel) (proc : Proc) (kept : List Bool) (new : List Node) (places : List Operand) (s : Value) (got : List Word) → IsReadSo channels proc kept proc.nodes new places → IsOfType (ty_of proc.state) s → setting_of channels new s got ≡ setting_of channels proc.nodes s got
setting_same channels proc kept new places s got h typed =
    λ i. record { channels = channels; state = s; words = site_words (words_same channels proc kept new places s got h typed i) }

turns_same : (channels : List Channel) (proc : Proc) (kept : List Bool) (new : List Node) (places : List Operand) (s : Value) (got : List Word) → IsReadSo channels proc kept proc.nodes new places → IsOfType (ty_of proc.state) s → turns_of channels new s got ≡ turns_of channels proc.nodes s got
turns_same channels proc kept new places s got h typed =
    let f = site_words (words_from channels s [] got proc.nodes) in
    ap (λ m. turns_from m [] 0 new) (setting_same channels proc kept new places s got h typed)
    ∙ walk_turns channels s f (start got) new
    ∙ (h.walks s (Some f) got typed).turns
    ∙ sym (walk_turns channels s f (start got) proc.nodes)

next_same : (channels : List Channel) (proc : Proc) (kept : List Bool) (new : List Node) (places : List Operand) (s : Value) (got : List Word) → IsReadSo channels proc kept proc.nodes new places → is_ready (length proc.nodes) kept proc.next ≡ true → IsOfType (ty_of proc.state) s → next_state_of channels (with_nodes proc new places) s got ≡ next_state_of channels proc s got
next_same channels proc kept new places s got h ready typed =
    let f = site_words (words_from channels s [] got proc.nodes) in
    let alike = (h.walks s (Some f) got typed).values in
    ap (λ m. operand_value s (node_values m new) (moved places proc.next)) (setting_same channels proc kept new places s got h typed)
    ∙ ap (λ vs. operand_value s vs (moved places proc.next)) (walk_values channels s f (start got) new)
    ∙ ready_value kept places s _ _ (length proc.nodes) h.stand.count alike proc.next ready
    ∙ ap (λ vs. operand_value s vs proc.next) (sym (walk_values channels s f (start got) proc.nodes))

does_same : (channels : List Channel) (proc : Proc) (kept : List Bool) (new : List Node) (places : List Operand) → IsReadSo channels proc kept proc.nodes new places → is_ready (length proc.nodes) kept proc.next ≡ true → SameActivations (activation channels proc) (activation channels (with_nodes proc new places))
unfolding activation
does_same channels proc kept new places h ready = record {
  state = refl;
  sites = sym h.stand.sites;
  width = λ i site e. refl;
  turn = λ s got i o less. ap (λ ts. get_or ts i Skip) (sym (turns_same channels proc kept new places s got h o.state));
  next_state = λ s got o. sym (next_same channels proc kept new places s got h ready o.state);
}

pub all_read : (channels : List Channel) (proc : Proc) (kept : List Bool) (new : List Node) (places : List Operand) → AreKept proc kept → IsCheckedProc channels proc → IsReadSo channels proc kept proc.nodes new places → IsRebuilt channels proc (with_nodes proc new places)
all_read channels proc kept new places k c h = record {
  name = refl;
  state = refl;
  init = refl;
  sites = h.stand.sites;
  checked = λ names seen d. proc_says channels proc kept new places names seen k h d;
  leaves = λ names seen d. leaves_same channels proc kept new places names seen h d;
  same = does_same channels proc kept new places h (next_ready proc kept k (parts channels c.names c.seen proc c.checked).next);
}

-- ---- before the first node

record Split (xs : List Node) (j : ℕ) (x : Node) : Type 0 where
  before : List Node
  after : List Node
  are : xs ≡ before ++ x ∷ after
  place : length before ≡ j

split : (xs : List Node) (j : ℕ) (x : Node) → slice_get xs j ≡ Some x → Split xs j x
split [] j x e = absurd (cc)
split (y ∷ ys) zero x e = let same : y ≡ x = cc in record { before = []; after = ys; are = ap (λ z. z ∷ ys) same; place = refl }
split (y ∷ ys) (suc j) x e =
    let rest = split ys j x e in
    record { before = y ∷ rest.before; after = rest.after; are = ap (λ zs. y ∷ zs) rest.are; place = ap suc rest.place }

pub stand_before : (channels : List Channel) (p : Proc) → IsCheckedProc channels p → StandBefore p
stand_before channels p c = record { operands = operands; next = next }
  where
    operands : (j : ℕ) (n : Node) → slice_get p.nodes j ≡ Some n → list_all (is_there j) (operands_in n) ≡ true
    operands j n e =
        let s = split p.nodes j n e in
        let read = read_checked channels p (s.before ++ n ∷ []) s.after c (s.are ∙ sym (append_assoc s.before (n ∷ []) s.after)) in
        let says = (fewer_checked channels p.state (at_start c.seen) s.before n read).1 in
        subst (λ i. list_all (is_there i) (operands_in n) ≡ true) s.place (all_there (length s.before) n says.operands says.attributes)

    next : is_there (length p.nodes) p.next ≡ true
    next =
        twice _ (both (not (not (is_there (length p.nodes) p.next))) _ (parts channels c.names c.seen p c.checked).next).0

pub none_built : (channels : List Channel) (p : Proc) → IsCheckedProc channels p → AreBuilt p.state []
none_built channels p c =
    let b = both (not (not (is_proc_named c.names p))) _ (parts channels c.names c.seen p c.checked).head in
    let d = both (not (not (is_state p))) _ b.1 in
    record {
      sound = (both (marks_of p.state).sound (is_value_of p.state p.init) (twice _ d.0)).0;
      numbered = λ j n e. absurd (cc);
      types = λ j n e. absurd (cc);
      before = λ j n e. absurd (cc);
      fits_at = λ j n e f. absurd (cc);
    }

pub none_read : (channels : List Channel) (p : Proc) (kept : List Bool) → IsCheckedProc channels p → IsReadSo channels p kept [] [] []
none_read channels p kept c = record {
  stand = none_stand p.state kept p.nodes (none_built channels p c);
  seen = λ seen h. (refl, record { received = refl; sent = refl; after_all = λ e. e; site = tt });
  walks = λ s words got typed. record { values = λ j less k. absurd (omega (arith, less)); site = refl; left = refl; words = refl; turns = refl };
}

-- ---- the loop over the nodes

take_next : {A : Type 0} (xs : List A) (i : ℕ) (x : A) → i < length xs → x ≡ get_or xs i x → take (suc i) xs ≡ take i xs ++ x ∷ []
take_next [] i x h e = absurd (omega arith)
take_next (y ∷ ys) zero x h e = ap (λ z. z ∷ []) (sym e)
take_next (y ∷ ys) (suc i) x h e = ap (λ zs. y ∷ zs) (take_next ys i x (omega arith) e)

pub take_one : {A : Type 0} (xs : List A) (i : ℕ) (x : A) → i < length xs → x ≡ get_or xs i x → take (i + 1) xs ≡ take i xs ++ x ∷ []
take_one xs i x h e = ap (λ k. take k xs) (add-one i) ∙ take_next xs i x h e

pub all_taken : {A : Type 0} (xs : List A) (i : ℕ) → length xs ≤ i → take i xs ≡ xs
all_taken [] zero h = refl
all_taken [] (suc i) h = refl
all_taken (x ∷ xs) zero h = absurd (omega arith)
all_taken (x ∷ xs) (suc i) h = ap (λ ys. x ∷ ys) (all_taken xs i (omega arith))

pub taken_count : {A : Type 0} (xs : List A) (i : ℕ) → i < length xs → length (take i xs) ≡ i
taken_count [] i h = absurd (omega arith)
taken_count (x ∷ xs) zero h = refl
taken_count (x ∷ xs) (suc i) h = ap suc (taken_count xs i (omega arith))

cut : {A : Type 0} (xs : List A) (i : ℕ) (x : A) → i < length xs → x ≡ get_or xs i x → xs ≡ take i xs ++ x ∷ drop (suc i) xs
cut [] i x h e = absurd (omega arith)
cut (y ∷ ys) zero x h e = ap (λ z. z ∷ ys) (sym e)
cut (y ∷ ys) (suc i) x h e = ap (λ zs. y ∷ zs) (cut ys i x (omega arith) e)

at_loop : (channels : List Channel) (proc : Proc) (kept : List Bool) (ns : List Node) (i : ℕ) (n : Node) → ns ≡ proc.nodes → i < length ns → n ≡ get_or ns i n → AreKept proc kept → IsCheckedProc channels proc → IsNext channels proc kept (take i ns) n
at_loop channels proc kept ns i n e h is k c = is_next channels proc kept (take i ns) (drop (suc i) ns) n (sym e ∙ cut ns i n h is) k c

-- what reading a node asks
pub asked : (channels : List Channel) (proc : Proc) (kept : List Bool) (ns : List Node) (i : ℕ) (n : Node) (new : List Node) (places : List Operand) (b : Bool) → ns ≡ proc.nodes → i < length ns → n ≡ get_or ns i n → AreKept proc kept → IsCheckedProc channels proc → b ≡ get_or kept i false → IsReadSo channels proc kept (take i ns) new places → b ≡ true → is_plain_op n.op ≡ true → FitsAt proc.state new (length new) (moved_node (moved places) n)
asked channels proc kept ns i n new places b e h is k c flag read marked plain =
    let own : get_or kept (length (take i ns)) false ≡ true = ap (λ j. get_or kept j false) (taken_count ns i h) ∙ (sym flag ∙ marked) in
    next_placed channels proc kept (take i ns) new places n read (at_loop channels proc kept ns i n e h is k c) own plain

-- one node more was read
pub advanced : (channels : List Channel) (proc : Proc) (kept : List Bool) (ns : List Node) (i : ℕ) (n : Node) (new all : List Node) (places more : List Operand) (b : Bool) (o : Operand) → ns ≡ proc.nodes → i < length ns → n ≡ get_or ns i n → AreKept proc kept → IsCheckedProc channels proc → b ≡ get_or kept i false → (b ≡ true → SimulatesInRebuild proc.state new all (moved_node (moved places) n) o) → (b ≡ false → all ≡ new) → more ≡ places ++ o ∷ [] → IsReadSo channels proc kept (take i ns) new places → IsReadSo channels proc kept (take (i + 1) ns) all more
advanced channels proc kept ns i n new all places more b o e h is k c flag stands stays longer read =
    subst (λ xs. IsReadSo channels proc kept xs all more) (sym (take_one ns i n h is))
    (subst (IsReadSo channels proc kept (take i ns ++ n ∷ []) all) (sym longer)
    (either b
    (λ marked. step_kept channels proc kept (take i ns) new all places n o read next (place ∙ (sym flag ∙ marked)) (stands marked))
    (λ unmarked. subst (λ xs. IsReadSo channels proc kept (take i ns ++ n ∷ []) xs (places ++ o ∷ [])) (sym (stays unmarked)) (step_skipped channels proc kept (take i ns) new places n o read next (place ∙ (sym flag ∙ unmarked))))))
  where
    next : IsNext channels proc kept (take i ns) n
    next = at_loop channels proc kept ns i n e h is k c

    place : get_or kept (length (take i ns)) false ≡ get_or kept i false
    place = ap (λ j. get_or kept j false) (taken_count ns i h)

pub returned : (channels : List Channel) (proc : Proc) (kept : List Bool) (ns : List Node) (i : ℕ) (new : List Node) (places : List Operand) → ns ≡ proc.nodes → length ns ≤ i → AreKept proc kept → IsCheckedProc channels proc → IsReadSo channels proc kept (take i ns) new places → IsRebuilt channels proc (with_nodes proc new places)
returned channels proc kept ns i new places e h k c read =
    all_read channels proc kept new places k c (subst (λ xs. IsReadSo channels proc kept xs new places) (all_taken ns i h ∙ e) read)
