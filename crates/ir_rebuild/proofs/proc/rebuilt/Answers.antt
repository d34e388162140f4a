use Rattle.std.proofs.Common.{◌≡◌, ◌+◌, List, [], length, get_or, take, sym, ap, subst, ◌∙◌, true, false}
use Rattle.ir_tree.specs.declared.package.Channel.{Channel}
use Rattle.ir_rebuild.specs.Moves.{moved, moved_node}
use Rattle.ir_rebuild.specs.Built.{FitsAt}
use Rattle.ir_rebuild.specs.Fixed.{is_fixed}
use Rattle.ir_rebuild.specs.Inner.Appended.{SimulatesInRebuild}
use Rattle.ir_rebuild.specs.Inner.Rebuilt.{IsCheckedProc, IsRebuilt}
use Rattle.ir_rebuild.specs.Walks.{RebuildsTo, ProcRebuildsTo}
use Rattle.ir_rebuild.specs.Walks as walks
use Rattle.ir_rebuild.proofs.Reading.{IsReadSo}
use Rattle.ir_rebuild.proofs.Finishing.{with_nodes, stand_before, none_read, asked, advanced, returned}
use Rattle.ir_rebuild.proofs.Walked.{walked, became}
use Rattle.ir_rebuild.proofs.proc.rebuilt.Goals as goal

pub kept-requires : goal.kept-requires
kept-requires g c = stand_before c.requires.0 c.args.proc.now c.requires.1

pub nodes-init : goal.nodes-init
nodes-init g c =
    let proc = c.args.proc.now in
    let kept = c.in_ok-kept.kept.items in (
      (λ channels checked.
          subst (λ ns. IsReadSo channels proc kept [] ns c.new-places.result.items) (sym c.new-nodes.ensures.items)
          (subst (IsReadSo channels proc kept [] []) (sym c.new-places.ensures.items) (none_read channels proc kept checked))),
      subst (λ ns. RebuildsTo proc.state g.R.Rewrite.gives kept [] ns c.new-places.result.items) (sym c.new-nodes.ensures.items)
          (subst (RebuildsTo proc.state g.R.Rewrite.gives kept [] []) (sym c.new-places.ensures.items) walks.none_read),
    )

pub read_one-requires-clause-built : goal.read_one-requires-clause-built
read_one-requires-clause-built g c = (c.nodes.invariant.0 c.requires.0 c.requires.1).stand.built

pub read_one-requires-clause-fits_at : goal.read_one-requires-clause-fits_at
read_one-requires-clause-fits_at g c = λ marked plain.
    let proc = c.args.proc.now in
    let kept = c.in_ok-kept.kept.items in
    let n = c.index-old-i.result in
    let new = c.nodes.nodes.items in
    subst (λ ps. FitsAt proc.state new (length new) (moved_node (moved ps) n)) (sym c.as_slice-in-nodes.ensures.value)
    (asked c.requires.0 proc kept c.as_slice-old.result.now c.nodes.i n new c.nodes.places.items c.is_kept-is_kept.result c.as_slice-old.ensures c.nodes-test.true c.index-old-i.is c.in_ok-kept.ensures.kept c.requires.1
    (c.is_kept-is_kept.ensures ∙ ap (λ xs. get_or xs c.nodes.i false) c.as_slice.ensures.value) (c.nodes.invariant.0 c.requires.0 c.requires.1) marked plain)

pub nodes-preserved : goal.nodes-preserved
nodes-preserved g c =
    let proc = c.args.proc.now in
    let kept = c.in_ok-kept.kept.items in
    let old = c.as_slice-old.result.now in
    let n = c.index-old-i.result in
    let new = c.nodes.nodes.items in
    let all = c.read_one.new.nodes.items in
    let o = c.in_ok-place.place in
    let flag = c.is_kept-is_kept.ensures ∙ ap (λ xs. get_or xs c.nodes.i false) c.as_slice.ensures.value in
    let stands : c.is_kept-is_kept.result ≡ true → SimulatesInRebuild proc.state new all (moved_node (moved c.nodes.places.items) n) o =
    λ marked. subst (λ ps. SimulatesInRebuild proc.state new all (moved_node (moved ps) n) o) c.as_slice-in-nodes.ensures.value (c.in_ok-place.ensures.kept marked) in
    let read : (channels : List Channel) → IsCheckedProc channels proc → IsReadSo channels proc kept (take (c.nodes.i + 1) old) all c.push.new.self.items =
    λ channels checked.
    advanced channels proc kept old c.nodes.i n new all c.nodes.places.items c.push.new.self.items c.is_kept-is_kept.result o c.as_slice-old.ensures c.nodes-test.true c.index-old-i.is c.in_ok-kept.ensures.kept checked
    flag stands c.in_ok-place.ensures.dropped c.in_ok-push.ensures.items (c.nodes.invariant.0 channels checked) in (
      read,
      walked proc.state g.R.Rewrite.gives kept old c.nodes.i n new all c.nodes.places.items c.push.new.self.items c.is_kept-is_kept.result o c.nodes-test.true c.index-old-i.is flag
          (c.nodes.invariant.0 c.requires.0 c.requires.1).stand.built (read c.requires.0 c.requires.1).stand.built
          (λ marked plain. asked c.requires.0 proc kept old c.nodes.i n new c.nodes.places.items c.is_kept-is_kept.result c.as_slice-old.ensures c.nodes-test.true c.index-old-i.is c.in_ok-kept.ensures.kept c.requires.1 flag (c.nodes.invariant.0 c.requires.0 c.requires.1) marked plain)
          stands
          (λ marked free.
          subst (λ ps. g.R.Rewrite.gives proc.state new all (moved_node (moved ps) n) o) c.as_slice-in-nodes.ensures.value
          (c.in_ok-place.ensures.gives marked (subst (λ ps. is_fixed new (moved_node (moved ps) n) ≡ false) (sym c.as_slice-in-nodes.ensures.value) free)))
          c.in_ok-place.ensures.dropped c.in_ok-place.ensures.nothing c.in_ok-push.ensures.items c.nodes.invariant.1,
    )

pub returns-clause-rebuilt : goal.returns-clause-rebuilt
returns-clause-rebuilt g c = λ channels checked.
    let proc = c.args.proc.now in
    let kept = c.in_ok-kept.kept.items in
    let new = c.nodes.nodes.items in
    let places = c.nodes.places.items in
    let next = c.moved.ensures ∙ ap (λ ps. moved ps proc.next) c.as_slice-2.ensures.value in
    let same : with_nodes proc new places ≡ record { name = c.in_ok-name_copy.field-0; state = c.in_ok-type_copy.field-0; init = c.in_ok-constant_copy.field-0; nodes = c.from_vec.result; next = c.moved.result } =
    λ i. record { name = sym c.in_ok-name_copy.ensures i; state = sym c.in_ok-type_copy.ensures i; init = sym c.in_ok-constant_copy.ensures i; nodes = sym c.from_vec.ensures i; next = sym next i } in
    subst (IsRebuilt channels proc) same
    (returned channels proc kept c.as_slice-old.result.now c.nodes.i new places c.as_slice-old.ensures c.nodes-test.false c.in_ok-kept.ensures.kept checked (c.nodes.invariant.0 channels checked))

pub returns-clause-became : goal.returns-clause-became
returns-clause-became g c =
    let proc = c.args.proc.now in
    let kept = c.in_ok-kept.kept.items in
    let new = c.nodes.nodes.items in
    let places = c.nodes.places.items in
    let next = c.moved.ensures ∙ ap (λ ps. moved ps proc.next) c.as_slice-2.ensures.value in
    let same : with_nodes proc new places ≡ record { name = c.in_ok-name_copy.field-0; state = c.in_ok-type_copy.field-0; init = c.in_ok-constant_copy.field-0; nodes = c.from_vec.result; next = c.moved.result } =
    λ i. record { name = sym c.in_ok-name_copy.ensures i; state = sym c.in_ok-type_copy.ensures i; init = sym c.in_ok-constant_copy.ensures i; nodes = sym c.from_vec.ensures i; next = sym next i } in
    subst (ProcRebuildsTo g.R.Rewrite.marks g.R.Rewrite.gives proc) same
    (became g.R.Rewrite.marks g.R.Rewrite.gives proc kept c.as_slice-old.result.now c.nodes.i new places c.as_slice-old.ensures c.nodes-test.false c.in_ok-kept.ensures.marked c.in_ok-kept.ensures.kept (stand_before c.requires.0 proc c.requires.1)
    (c.nodes.invariant.0 c.requires.0 c.requires.1).stand.built c.nodes.invariant.1)
