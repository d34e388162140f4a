-- One node more is read, and all are.
use Rattle.std.proofs.Common.{◌≡◌, ℕ, ◌+◌, ◌-◌, ◌<◌, List, [], ◌∷◌, ◌++◌, map, length, get_or, Bool, true, false, Some, refl, sym, ap, ap₂, subst, ◌∙◌, arith}
use Rattle.std.specs.Prelude.{slice_get, not, ◌||◌}
use Rattle.std.specs.List.{list_all}
use Rattle.std.proofs.lemmas.List.{append-nil, append_assoc}
use Rattle.std.proofs.lemmas.Option.{slice_get-get_or}
use Rattle.xb_span.specs.Spans.{nowhere}
use Rattle.base.proofs.Lemmas.Lists.Indices.{slice_get-append_right}
use Rattle.xb_bits.specs.Word.{Word}
use Rattle.xb_value.specs.declared.value.Value.{Value}
use Rattle.xb_value.specs.Typing.{IsOfType}
use Rattle.delay_model.specs.declared.op.Op.{Op}
use Rattle.delay_model.specs.declared.op.Op.TheVariants as op
use Rattle.ir_tree.specs.declared.ir_type.IrType.{IrType, Token}
use Rattle.ir_tree.specs.declared.node.Operand.{Operand}
use Rattle.ir_tree.specs.declared.node.Operand.TheVariants as operand
use Rattle.ir_tree.specs.declared.node.Node.{Node}
use Rattle.ir_tree.specs.declared.node.Attributes.{Attributes}
use Rattle.ir_tree.specs.declared.node.Attributes.TheVariants as attributes
use Rattle.ir_tree.specs.declared.node.Role.{Role}
use Rattle.ir_tree.specs.declared.node.Role.TheVariants as role
use Rattle.ir_tree.specs.declared.package.Channel.{Channel}
use Rattle.ir_tree.specs.declared.package.Proc.{Proc}
use Rattle.ir_tree.specs.Types.{ty_of}
use Rattle.ir_tree.specs.NodeValues.{role_of}
use Rattle.ir_tree.specs.Activations.{sites_by, sites_of}
use Rattle.ir_tree.specs.Rules.Fitting.{type_or}
use Rattle.ir_tree.specs.Rules.Lines.{Seen, see, is_there, is_id_after, own_levels, type_limits, head_checks}
use Rattle.ir_tree.specs.Rules.Verified.{nodes_checks, seen_after, at_start}
use Rattle.ir_tree.specs.Rules.Typed.Typed.{none_broken}
use Rattle.ir_tree.proofs.Lemmas.Rules.Typed.Scopes.{IsOperand}
use Rattle.ir_rebuild.specs.Operands.{operands_in, node_of}
use Rattle.ir_rebuild.specs.Moves.{moved, moved_attributes, moved_node}
use Rattle.ir_rebuild.specs.Kept.{is_kept, is_site, AreKept}
use Rattle.ir_rebuild.specs.Built.{FitsAt, AreBuilt, OperandSimulates, is_plain_op, numbered}
use Rattle.ir_rebuild.specs.Fixed.{is_receive_op, is_receive, is_one_receive, is_part_of_receive, is_fixed}
use Rattle.ir_rebuild.specs.Inner.Appended.{SimulatesInRebuild}
use Rattle.ir_rebuild.specs.Inner.Rebuilt.{IsCheckedBehind, IsCheckedProc}
use Rattle.ir_rebuild.proofs.Moving.{both, and_both, all_parts, moved_two, pure_moved}
use Rattle.ir_rebuild.proofs.Walking.{Walk, Words, step, walk, start, walk_append, sites_append}
use Rattle.ir_rebuild.proofs.Building.{below, is_below, all_there, fits_more, before_more, last_there, one_longer, built_fixed, appended}
use Rattle.ir_rebuild.proofs.NodeChecks.{IsChecked, plain_role, plain_checked, plain_unseen, AreChecked, quiet_parts, seen_one, seen_append, more_checked, fewer_checked, prefix_checked}
use Rattle.ir_rebuild.proofs.Values.{walk_has_values, walk_count}
use Rattle.ir_rebuild.proofs.Standing.{IsPlace, IsCopy, Stand, is_ready, all_ready, ready_value, moved_longer, stand_more, role_moved, moved_role, IsMoved, is_moved, is_placed, next_id}
use Rattle.ir_rebuild.proofs.Chains.{SeenAlike, seen_alike_more, seen_skipped, seen_copied, unseen_all, copy_chained, copy_at_end, no_plain_fixed}
use Rattle.ir_rebuild.proofs.Alike.{Alike, Prefix, walk_prefix, Quiet, plain_walk, alike_skipped, alike_rewritten, alike_copied}

-- what was read of a proc, and what was built
pub record IsReadSo (channels : List Channel) (proc : Proc) (kept : List Bool) (old new : List Node) (places : List Operand) : Type 0 where
  pub stand : Stand proc.state kept proc.nodes old new places
  pub seen : (seen : Seen) → AreChecked channels proc.state [] 0 (at_start seen) old → AreChecked channels proc.state [] 0 (at_start seen) new × SeenAlike kept places (seen_after 0 (at_start seen) old) (seen_after 0 (at_start seen) new)
  pub walks : (s : Value) (words : Words) (got : List Word) → IsOfType (ty_of proc.state) s → Alike kept places s (walk channels s words (start got) old) (walk channels s words (start got) new)

-- ---- what is known of a checked proc

nodes_checked : (channels : List Channel) (proc : Proc) (names : List (List ℕ)) (seen : Seen) → IsCheckedBehind channels names seen proc → AreChecked channels proc.state [] 0 (at_start seen) proc.nodes
nodes_checked channels proc names seen h =
    let a = quiet_parts (head_checks nowhere names proc) _ h in
    (quiet_parts (nodes_checks channels proc.state [] [] 0 (at_start seen) proc.nodes) _ a.1).0

-- a front of its nodes is checked
pub read_checked : (channels : List Channel) (proc : Proc) (old rest : List Node) → (c : IsCheckedProc channels proc) → proc.nodes ≡ old ++ rest → AreChecked channels proc.state [] 0 (at_start c.seen) old
read_checked channels proc old rest c e =
    prefix_checked channels proc.state (at_start c.seen) old rest (subst (AreChecked channels proc.state [] 0 (at_start c.seen)) e (nodes_checked channels proc c.names c.seen c.checked))

-- what is known of the node that is read next
pub record IsNext (channels : List Channel) (proc : Proc) (kept : List Bool) (old : List Node) (n : Node) : Type 0 where
  pub there : slice_get proc.nodes (length old) ≡ Some n
  pub front : (i : ℕ) (m : Node) → slice_get old i ≡ Some m → slice_get proc.nodes i ≡ Some m
  pub are_kept : AreKept proc kept
  pub proc_checked : IsCheckedProc channels proc
  pub checked : AreChecked channels proc.state [] 0 (at_start proc_checked.seen) (old ++ n ∷ [])

pub is_next : (channels : List Channel) (proc : Proc) (kept : List Bool) (old rest : List Node) (n : Node) → proc.nodes ≡ old ++ n ∷ rest → AreKept proc kept → IsCheckedProc channels proc → IsNext channels proc kept old n
is_next channels proc kept old rest n e k c = record {
  there = ap (λ ns. slice_get ns (length old)) e ∙ slice_get-append_right old (n ∷ rest) (length old) 0 (omega arith);
  front = λ i m h. ap (λ ns. slice_get ns i) e ∙ before_more old (n ∷ rest) i m h;
  are_kept = k;
  proc_checked = c;
  checked = read_checked channels proc (old ++ n ∷ []) rest c (e ∙ sym (append_assoc old (n ∷ []) rest));
}

next_checked : (channels : List Channel) (proc : Proc) (kept : List Bool) (old : List Node) (n : Node) (h : IsNext channels proc kept old n) → IsChecked channels proc.state old (length old) (seen_after 0 (at_start h.proc_checked.seen) old) n
next_checked channels proc kept old n h = (fewer_checked channels proc.state (at_start h.proc_checked.seen) old n h.checked).1

next_there : (channels : List Channel) (proc : Proc) (kept : List Bool) (old : List Node) (n : Node) → IsNext channels proc kept old n → list_all (is_there (length old)) (operands_in n) ≡ true
next_there channels proc kept old n h =
    let k = next_checked channels proc kept old n h in
    all_there (length old) n k.operands k.attributes

pub next_moved : (channels : List Channel) (proc : Proc) (kept : List Bool) (old new : List Node) (places : List Operand) (n : Node) → Stand proc.state kept proc.nodes old new places → IsNext channels proc kept old n → get_or kept (length old) false ≡ true → IsMoved channels proc.state new (moved places) n
next_moved channels proc kept old new places n h next k =
    is_moved channels proc.state kept proc.nodes old new places (seen_after 0 (at_start next.proc_checked.seen) old) n h (next_checked channels proc kept old n next) (next.are_kept.operands (length old) n next.there k)

-- what a pass asks of a plain node
pub next_placed : (channels : List Channel) (proc : Proc) (kept : List Bool) (old new : List Node) (places : List Operand) (n : Node) → IsReadSo channels proc kept old new places → IsNext channels proc kept old n → get_or kept (length old) false ≡ true → is_plain_op n.op ≡ true → FitsAt proc.state new (length new) (moved_node (moved places) n)
next_placed channels proc kept old new places n h next k plain =
    is_placed channels proc.state new (moved places) n (next_moved channels proc kept old new places n h.stand next k) plain

-- ---- lengths

old_count : (channels : List Channel) (s : Value) (words : Words) (got : List Word) (state : IrType) (kept : List Bool) (all old new : List Node) (places : List Operand) → Stand state kept all old new places → length (walk channels s words (start got) old).values ≡ length places
old_count channels s words got state kept all old new places h =
    let count = walk_count channels s words (start got) old in
    let same = h.count in
    omega arith

new_count : (channels : List Channel) (s : Value) (words : Words) (got : List Word) (new : List Node) → length (walk channels s words (start got) new).values ≡ length new
new_count channels s words got new = let count = walk_count channels s words (start got) new in omega arith

kept_there : (channels : List Channel) (s : Value) (words : Words) (got : List Word) (state : IrType) (kept : List Bool) (all old new : List Node) (places : List Operand) (d : Node) → Stand state kept all old new places → (j : ℕ) → j < length places → get_or kept j false ≡ true → is_there (length (walk channels s words (start got) new).values) (get_or places j operand.State) ≡ true
kept_there channels s words got state kept all old new places d h j less k =
    let same = h.count in
    let within : j < length old = omega arith in
    subst (λ c. is_there c (get_or places j operand.State) ≡ true) (sym (new_count channels s words got new))
    (h.place j (get_or old j d) (slice_get-get_or old j d within) k).there

walk_one : (channels : List Channel) (s : Value) (words : Words) (w : Walk) (xs : List Node) (n : Node) → walk channels s words w (xs ++ n ∷ []) ≡ step channels s words (walk channels s words w xs) n
walk_one channels s words w xs n = walk_append channels s words w xs (n ∷ [])

-- ---- a node that isn't kept

pure_sites : (xs : List Node) (n : Node) → role_of n ≡ role.Pure → sites_of (xs ++ n ∷ []) ≡ sites_of xs
pure_sites xs n e = sites_append xs (n ∷ []) ∙ ap (λ r. sites_of xs ++ sites_by r []) e ∙ append-nil (sites_of xs)

no_site_pure : (r : Role) → is_site r ≡ false → r ≡ role.Pure
no_site_pure role.Pure h = refl
no_site_pure (role.Receive predicate c) h = absurd (cc)
no_site_pure (role.Send predicate c) h = absurd (cc)

site_or_not : (b : Bool) → (b ≡ true → ⊥) → b ≡ false
site_or_not true h = absurd (h refl)
site_or_not false h = refl

skipped_pure : (channels : List Channel) (proc : Proc) (kept : List Bool) (old : List Node) (n : Node) → IsNext channels proc kept old n → get_or kept (length old) false ≡ false → role_of n ≡ role.Pure
skipped_pure channels proc kept old n next k =
    no_site_pure (role_of n) (site_or_not (is_site (role_of n)) (λ e. let marked : get_or kept (length old) false ≡ true = next.are_kept.sites (length old) n next.there e in cc))

pub step_skipped : (channels : List Channel) (proc : Proc) (kept : List Bool) (old new : List Node) (places : List Operand) (n : Node) (o : Operand) → IsReadSo channels proc kept old new places → IsNext channels proc kept old n → get_or kept (length old) false ≡ false → IsReadSo channels proc kept (old ++ n ∷ []) new (places ++ o ∷ [])
step_skipped channels proc kept old new places n o h next k = record {
  stand = subst (λ ns. Stand proc.state kept proc.nodes (old ++ n ∷ []) ns (places ++ o ∷ [])) (append-nil new)
      (stand_more proc.state kept proc.nodes old new [] places n o h.stand (subst (AreBuilt proc.state) (sym (append-nil new)) h.stand.built) (λ e. absurd (cc)) (λ e f. absurd (cc)) (next_there channels proc kept old n next)
      (ap sites_of (append-nil new) ∙ h.stand.sites ∙ sym (pure_sites old n pure)));
  seen = λ seen c.
      let parts = fewer_checked channels proc.state (at_start seen) old n c in
      let was = h.seen seen parts.0 in
      (was.0, subst (λ a. SeenAlike kept (places ++ o ∷ []) a (seen_after 0 (at_start seen) new)) (sym (seen_one (at_start seen) old n)) (seen_skipped kept places o (length old) n (seen_after 0 (at_start seen) old) (seen_after 0 (at_start seen) new) pure was.1));
  walks = λ s words got typed.
      subst (λ a. Alike kept (places ++ o ∷ []) s a (walk channels s words (start got) new)) (sym (walk_one channels s words (start got) old n))
      (alike_skipped channels words kept places s (walk channels s words (start got) old) (walk channels s words (start got) new) n o (old_count channels s words got proc.state kept proc.nodes old new places h.stand) (h.walks s words got typed)
      (kept_there channels s words got proc.state kept proc.nodes old new places n h.stand) (subst (λ i. get_or kept i false ≡ false) (sym h.stand.count) k) pure);
}
  where
    pure : role_of n ≡ role.Pure
    pure = skipped_pure channels proc kept old n next k

-- ---- a plain node

plain_sites : (xs : List Node) → list_all (λ (n : Node). is_plain_op n.op) xs ≡ true → sites_of xs ≡ []
plain_sites [] h = refl
plain_sites (n ∷ ns) h =
    let parts = both (is_plain_op n.op) (list_all (λ (n : Node). is_plain_op n.op) ns) h in
    ap (λ r. sites_by r (sites_of ns)) (plain_role n.op n.attributes parts.0) ∙ plain_sites ns parts.1

-- more plain nodes are checked
plain_more : (channels : List Channel) (state : IrType) (seen : Seen) (more xs : List Node) → AreBuilt state (xs ++ more) → list_all (λ (n : Node). is_plain_op n.op) more ≡ true → AreChecked channels state [] 0 seen xs → AreChecked channels state [] 0 seen (xs ++ more)
plain_more channels state seen [] xs built plain h = subst (AreChecked channels state [] 0 seen) (sym (append-nil xs)) h
plain_more channels state seen (m ∷ ms) xs built plain h =
    let parts = both (is_plain_op m.op) (list_all (λ (n : Node). is_plain_op n.op) ms) plain in
    let here : slice_get (xs ++ m ∷ ms) (length xs) ≡ Some m = slice_get-append_right xs (m ∷ ms) (length xs) 0 (omega arith) in
    let p = built.fits_at (length xs) m here parts.0 in
    let own : FitsAt state xs (length xs) m = record { operands = p.operands; attributes = p.attributes; fits = sym (fits_more state xs (m ∷ ms) (length xs) m (omega arith) (all_there (length xs) m p.operands p.attributes)) ∙ p.fits; typed = p.typed; limits = p.limits } in
    let id : is_id_after (slice_get xs (length xs - 1)) m.id ≡ true =
    ap (is_id_after (slice_get xs (length xs - 1))) (built.numbered (length xs) m here) ∙ next_id xs (λ j q e. built.numbered j q (before_more xs (m ∷ ms) j q e)) in
    let one = more_checked channels state seen xs m h (plain_checked channels state xs (seen_after 0 seen xs) m parts.0 id own) in
    subst (AreChecked channels state [] 0 seen) (append_assoc xs (m ∷ []) ms)
    (plain_more channels state seen ms (xs ++ m ∷ []) (subst (AreBuilt state) (sym (append_assoc xs (m ∷ []) ms)) built) parts.1 one)

rewritten : (channels : List Channel) (proc : Proc) (kept : List Bool) (old new more : List Node) (places : List Operand) (n : Node) (o : Operand) → IsReadSo channels proc kept old new places → IsNext channels proc kept old n → get_or kept (length old) false ≡ true → is_plain_op n.op ≡ true → AreBuilt proc.state (new ++ more) → list_all (λ (m : Node). is_plain_op m.op) more ≡ true → OperandSimulates proc.state (new ++ more) (moved_node (moved places) n) o → (is_fixed proc.nodes n ≡ true → IsCopy (new ++ more) (places ++ o ∷ []) n o) → IsReadSo channels proc kept (old ++ n ∷ []) (new ++ more) (places ++ o ∷ [])
rewritten channels proc kept old new more places n o h next k plain built plain_ones stands copy = record {
  stand = stand_more proc.state kept proc.nodes old new more places n o h.stand built (λ e. record { there = stands.there; ty = stands.ty }) (λ e. copy) (next_there channels proc kept old n next)
      (sites_append new more ∙ ap (λ ss. sites_of new ++ ss) (plain_sites more plain_ones) ∙ append-nil (sites_of new) ∙ h.stand.sites ∙ sym (pure_sites old n pure));
  seen = λ seen c. all_seen seen c;
  walks = λ s words got typed. all_walks s words got typed;
}
  where
    pure : role_of n ≡ role.Pure
    pure = plain_role n.op n.attributes plain

    all_seen : (seen : Seen) → AreChecked channels proc.state [] 0 (at_start seen) (old ++ n ∷ []) → AreChecked channels proc.state [] 0 (at_start seen) (new ++ more) × SeenAlike kept (places ++ o ∷ []) (seen_after 0 (at_start seen) (old ++ n ∷ [])) (seen_after 0 (at_start seen) (new ++ more))
    all_seen seen c =
        let parts = fewer_checked channels proc.state (at_start seen) old n c in
        let was = h.seen seen parts.0 in
        let still = seen_alike_more kept places o (seen_after 0 (at_start seen) old) (seen_after 0 (at_start seen) new) was.1 in
        let old_same : seen_after 0 (at_start seen) (old ++ n ∷ []) ≡ seen_after 0 (at_start seen) old = seen_one (at_start seen) old n ∙ plain_unseen (length old) n (seen_after 0 (at_start seen) old) plain in
        let new_same : seen_after 0 (at_start seen) (new ++ more) ≡ seen_after 0 (at_start seen) new = seen_append 0 (at_start seen) new more ∙ unseen_all (length new + 0) (seen_after 0 (at_start seen) new) more plain_ones in (
          plain_more channels proc.state (at_start seen) more new built plain_ones was.0,
          subst (λ a. SeenAlike kept (places ++ o ∷ []) a (seen_after 0 (at_start seen) (new ++ more))) (sym old_same)
              (subst (SeenAlike kept (places ++ o ∷ []) (seen_after 0 (at_start seen) old)) (sym new_same) still),
        )

    all_walks : (s : Value) (words : Words) (got : List Word) → IsOfType (ty_of proc.state) s → Alike kept (places ++ o ∷ []) s (walk channels s words (start got) (old ++ n ∷ [])) (walk channels s words (start got) (new ++ more))
    all_walks s words got typed =
        let a = walk channels s words (start got) old in
        let b = walk channels s words (start got) new in
        let c = walk channels s words (start got) (new ++ more) in
        let whole = walk_append channels s words (start got) new more in
        let front : Prefix b c = subst (Prefix b) (sym whole) (walk_prefix channels s words b more) in
        let quiet : Quiet b c = subst (Quiet b) (sym whole) (plain_walk channels s words b more plain_ones) in
        let checked = (all_seen next.proc_checked.seen next.checked).0 in
        let opened : IsOperand proc.state s = record { value = typed; sound = built.sound } in
        let values = walk_has_values channels proc.state s words got next.proc_checked.word_types opened (new ++ more) (at_start next.proc_checked.seen) checked in
        let ready = all_ready (length old) kept (operands_in n) (next_there channels proc kept old n next) (next.are_kept.operands (length old) n next.there k) in
        subst (λ x. Alike kept (places ++ o ∷ []) s x c) (sym (walk_one channels s words (start got) old n))
        (alike_rewritten channels words kept places s a b c n o (old_count channels s words got proc.state kept proc.nodes old new places h.stand) (h.walks s words got typed) (kept_there channels s words got proc.state kept proc.nodes old new places n h.stand) front quiet pure
        (λ alike. stands.value s c.values values ∙ pure_moved (is_ready (length old) kept) (moved places) s a.values c.values (ready_value kept places s a.values c.values (length old) h.stand.count alike) n ready))

-- ---- a copy of a node that isn't plain

copy_here : (channels : List Channel) (proc : Proc) (kept : List Bool) (old new : List Node) (places : List Operand) (n : Node) → IsReadSo channels proc kept old new places → IsNext channels proc kept old n → IsCopy (new ++ numbered (length new) (moved_node (moved places) n) ∷ []) (places ++ operand.Node (length new) ∷ []) n (operand.Node (length new))
copy_here channels proc kept old new places n h next = record {
  at = length new;
  is = refl;
  node = last_there new (numbered (length new) (moved_node (moved places) n))
      ∙ ap (λ m. Some (numbered (length new) m))
      (sym (moved_two (is_there (length old)) (moved (places ++ operand.Node (length new) ∷ [])) (moved places) (λ q e. moved_longer places (operand.Node (length new)) q (subst (λ c. is_there c q ≡ true) (sym h.stand.count) e)) n (next_there channels proc kept old n next)));
}

copied : (channels : List Channel) (proc : Proc) (kept : List Bool) (old new : List Node) (places : List Operand) (n : Node) → IsReadSo channels proc kept old new places → IsNext channels proc kept old n → get_or kept (length old) false ≡ true → is_plain_op n.op ≡ false → IsReadSo channels proc kept (old ++ n ∷ []) (new ++ numbered (length new) (moved_node (moved places) n) ∷ []) (places ++ operand.Node (length new) ∷ [])
copied channels proc kept old new places n h next k no_plain = record {
  stand = stand_more proc.state kept proc.nodes old new (x ∷ []) places n (operand.Node (length new)) h.stand built (λ e. place) (λ e f. copy_here channels proc kept old new places n h next) (next_there channels proc kept old n next)
      (sites_append new (x ∷ []) ∙ ap₂ (λ ss r. ss ++ sites_by r []) h.stand.sites (role_moved (moved places) n.op n.attributes) ∙ ap (λ ss. sites_of old ++ ss) (same_sites (role_of n)) ∙ sym (sites_append old (n ∷ [])));
  seen = λ seen c. all_seen seen c;
  walks = λ s words got typed.
      subst (λ w. Alike kept (places ++ operand.Node (length new) ∷ []) s w (walk channels s words (start got) (new ++ x ∷ []))) (sym (walk_one channels s words (start got) old n))
      (subst (λ w. Alike kept (places ++ operand.Node (length new) ∷ []) s (step channels s words (walk channels s words (start got) old) n) w) (sym (walk_one channels s words (start got) new x))
      (alike_copied channels words kept places (is_ready (length old) kept) s (walk channels s words (start got) old) (walk channels s words (start got) new) n (length new) (old_count channels s words got proc.state kept proc.nodes old new places h.stand) (sym (new_count channels s words got new)) (h.walks s words got typed)
      (kept_there channels s words got proc.state kept proc.nodes old new places n h.stand)
      (ready_value kept places s (walk channels s words (start got) old).values (walk channels s words (start got) new).values (length old) h.stand.count (h.walks s words got typed).values) ready));
}
  where
    x : Node
    x = numbered (length new) (moved_node (moved places) n)

    is : IsMoved channels proc.state new (moved places) n
    is = next_moved channels proc kept old new places n h.stand next k

    built : AreBuilt proc.state (new ++ x ∷ [])
    built = built_fixed proc.state new (moved_node (moved places) n) h.stand.built (both _ _ is.typed).0 (all_there (length new) (moved_node (moved places) n) is.operands is.attributes) no_plain

    place : IsPlace proc.state (new ++ x ∷ []) n (operand.Node (length new))
    place = record {
      there = is_below (length new) (length (new ++ x ∷ [])) (omega (arith, one_longer new x));
      ty = ap (type_or (Token [])) (last_there new x);
    }

    ready : list_all (is_ready (length old) kept) (operands_in n) ≡ true
    ready = all_ready (length old) kept (operands_in n) (next_there channels proc kept old n next) (next.are_kept.operands (length old) n next.there k)

    same_sites : (r : Role) → sites_by (moved_role (moved places) r) [] ≡ sites_by r []
    same_sites role.Pure = refl
    same_sites (role.Receive predicate c) = refl
    same_sites (role.Send predicate c) = refl

    all_seen : (seen : Seen) → AreChecked channels proc.state [] 0 (at_start seen) (old ++ n ∷ []) → AreChecked channels proc.state [] 0 (at_start seen) (new ++ x ∷ []) × SeenAlike kept (places ++ operand.Node (length new) ∷ []) (seen_after 0 (at_start seen) (old ++ n ∷ [])) (seen_after 0 (at_start seen) (new ++ x ∷ []))
    all_seen seen c =
        let parts = fewer_checked channels proc.state (at_start seen) old n c in
        let was = h.seen seen parts.0 in
        let a = seen_after 0 (at_start seen) old in
        let b = seen_after 0 (at_start seen) new in
        let first = (all_parts (is_ready (length old) kept) n.operands _ ready).0 in
        let one : IsChecked channels proc.state new (length new) b x = record {
          id = next_id new h.stand.built.numbered;
          operands = is.operands;
          attributes = is.attributes;
          fits = is.fits;
          chained = copy_chained proc.state kept proc.nodes old new places h.stand next.front n a b was.1 first parts.1.chained;
          at_end = copy_at_end channels kept places (moved places) n a b was.1 parts.1.at_end;
          typed = is.typed;
          limits = ap (λ r. none_broken (type_limits 0 n.ty (own_levels r))) (role_moved (moved places) n.op n.attributes) ∙ is.limits;
        } in (
          more_checked channels proc.state (at_start seen) new x was.0 one,
          subst (λ u. SeenAlike kept (places ++ operand.Node (length new) ∷ []) u (seen_after 0 (at_start seen) (new ++ x ∷ []))) (sym (seen_one (at_start seen) old n))
              (subst (SeenAlike kept (places ++ operand.Node (length new) ∷ []) (see (length old) n a)) (sym (seen_one (at_start seen) new x))
              (seen_copied kept places (length old) (length new) (moved places) n a b h.stand.count k was.1)),
        )

-- ---- a node that is kept

pub either : {A : Type 0} (b : Bool) → (b ≡ true → A) → (b ≡ false → A) → A
either true marked unmarked = marked refl
either false marked unmarked = unmarked refl

-- what is fixed is so over what stands for its operands
part_moved : (channels : List Channel) (proc : Proc) (kept : List Bool) (old new : List Node) (places : List Operand) (d : Node) → Stand proc.state kept proc.nodes old new places → ((i : ℕ) (m : Node) → slice_get old i ≡ Some m → slice_get proc.nodes i ≡ Some m) → (os : List Operand) → list_all (is_ready (length old) kept) os ≡ true → is_one_receive proc.nodes os ≡ true → is_one_receive new (map (moved places) os) ≡ true
part_moved channels proc kept old new places d h front [] ready f = absurd (cc)
part_moved channels proc kept old new places d h front (operand.State ∷ []) ready f = absurd (cc)
part_moved channels proc kept old new places d h front (o ∷ p ∷ os) ready f = absurd (cc)
part_moved channels proc kept old new places d h front (operand.Node l ∷ []) ready f =
    let one = both (is_ready (length old) kept (operand.Node l)) true ready in
    let parts = both (is_there (length old) (operand.Node l)) (is_kept kept (operand.Node l)) one.0 in
    let u = get_or old l d in
    let there = slice_get-get_or old l d (below l (length old) parts.0) in
    let receive : is_receive_op u.op ≡ true = sym (ap is_receive (front l u there)) ∙ f in
    let copy = h.copy l u there parts.1 (no_plain_fixed proc.nodes u (no_plain u.op receive)) in
    ap (λ o. is_receive (node_of new o)) copy.is ∙ ap is_receive copy.node ∙ receive
  where
    no_plain : (o : Op) → is_receive_op o ≡ true → is_plain_op o ≡ false
    no_plain op.Receive e = refl
    no_plain o e = absurd (cc)

attributes_moved : (channels : List Channel) (proc : Proc) (kept : List Bool) (old new : List Node) (places : List Operand) (d : Node) → Stand proc.state kept proc.nodes old new places → ((i : ℕ) (m : Node) → slice_get old i ≡ Some m → slice_get proc.nodes i ≡ Some m) → (a : Attributes) (os : List Operand) → list_all (is_ready (length old) kept) os ≡ true → is_part_of_receive proc.nodes a os ≡ true → is_part_of_receive new (moved_attributes (moved places) a) (map (moved places) os) ≡ true
attributes_moved channels proc kept old new places d h front attributes.None os ready f = absurd (cc)
attributes_moved channels proc kept old new places d h front (attributes.StartAndWidth start width) os ready f = absurd (cc)
attributes_moved channels proc kept old new places d h front (attributes.Width width) os ready f = absurd (cc)
attributes_moved channels proc kept old new places d h front (attributes.NewBitCount width) os ready f = absurd (cc)
attributes_moved channels proc kept old new places d h front (attributes.Cases cases default) os ready f = absurd (cc)
attributes_moved channels proc kept old new places d h front (attributes.Index i) os ready f = part_moved channels proc kept old new places d h front os ready f
attributes_moved channels proc kept old new places d h front (attributes.Indices i) os ready f = absurd (cc)
attributes_moved channels proc kept old new places d h front (attributes.Value c) os ready f = absurd (cc)
attributes_moved channels proc kept old new places d h front (attributes.Channel predicate c) os ready f = absurd (cc)

either_way : (a b c : Bool) → (b ≡ true → c ≡ true) → a || b ≡ true → a || c ≡ true
either_way true b c h e = refl
either_way false b c h e = h e

fixed_moved : (channels : List Channel) (proc : Proc) (kept : List Bool) (old new : List Node) (places : List Operand) (n : Node) → IsReadSo channels proc kept old new places → IsNext channels proc kept old n → get_or kept (length old) false ≡ true → is_fixed proc.nodes n ≡ true → is_fixed new (moved_node (moved places) n) ≡ true
fixed_moved channels proc kept old new places n h next k f =
    let ready = all_ready (length old) kept (operands_in n) (next_there channels proc kept old n next) (next.are_kept.operands (length old) n next.there k) in
    either_way (not (is_plain_op n.op)) _ _ (attributes_moved channels proc kept old new places n h.stand next.front n.attributes n.operands (all_parts (is_ready (length old) kept) n.operands _ ready).0) f

plain_if : (a b : Bool) → not a || b ≡ false → a ≡ true
plain_if true b h = refl
plain_if false b h = absurd (cc)

-- the same, with the list of nodes as the code has it
pub step_kept : (channels : List Channel) (proc : Proc) (kept : List Bool) (old new all : List Node) (places : List Operand) (n : Node) (o : Operand) → IsReadSo channels proc kept old new places → IsNext channels proc kept old n → get_or kept (length old) false ≡ true → SimulatesInRebuild proc.state new all (moved_node (moved places) n) o → IsReadSo channels proc kept (old ++ n ∷ []) all (places ++ o ∷ [])
step_kept channels proc kept old new all places n o h next k stands =
    either (is_fixed new (moved_node (moved places) n)) fixed other
  where
    x : Node
    x = numbered (length new) (moved_node (moved places) n)

    fixed : is_fixed new (moved_node (moved places) n) ≡ true → IsReadSo channels proc kept (old ++ n ∷ []) all (places ++ o ∷ [])
    fixed e =
        let is = stands.appends e in
        subst (λ ns. IsReadSo channels proc kept (old ++ n ∷ []) ns (places ++ o ∷ [])) (sym is.0)
        (subst (λ p. IsReadSo channels proc kept (old ++ n ∷ []) (new ++ x ∷ []) (places ++ p ∷ [])) (sym is.1)
        (either (is_plain_op n.op)
        (λ plain.
        let one = appended proc.state new (moved_node (moved places) n) h.stand.built (next_placed channels proc kept old new places n h next k plain) plain in
        rewritten channels proc kept old new (x ∷ []) places n (operand.Node (length new)) h next k plain one.built (and_both (is_plain_op n.op) true plain refl) one.stands (λ f. copy_here channels proc kept old new places n h next))
        (λ no_plain. copied channels proc kept old new places n h next k no_plain)))

    other : is_fixed new (moved_node (moved places) n) ≡ false → IsReadSo channels proc kept (old ++ n ∷ []) all (places ++ o ∷ [])
    other e =
        let is = stands.rewrites e in
        let plain = plain_if (is_plain_op n.op) _ e in
        let are = is.extends.are in
        subst (λ ns. IsReadSo channels proc kept (old ++ n ∷ []) ns (places ++ o ∷ [])) (sym are)
        (rewritten channels proc kept old new is.extends.more places n o h next k plain (subst (AreBuilt proc.state) are is.built) is.extends.plain
        (subst (λ ns. OperandSimulates proc.state ns (moved_node (moved places) n) o) are is.stands)
        (λ f. let marked : is_fixed new (moved_node (moved places) n) ≡ true = fixed_moved channels proc kept old new places n h next k f in absurd (cc)))
