use Rattle.std.proofs.Common.{◌≡◌, ◌∙◌, ◌++◌, Option, refl}
use Rattle.base.specs.Lists.Prefix.{IsPrefix}
use Rattle.base.proofs.Lemmas.Lists.Prefixes.{IsPrefix-trans}
use Rattle.dslx_meaning.specs.Lists.{and_then}
use Rattle.dslx_meaning.specs.Rules.ControlRules.{annotated_type, index_type, loop_faults, loop_parts_faults, loop_reached, loop_size, loop_type, same_ends, turns_of}
use Rattle.dslx_check_rules.specs.Interned.{type_if}
use Rattle.dslx_check_rules.specs.declared.table.row.TypeId.{TypeId}
use Rattle.dslx_check_rules.specs.Control.Control.{IsLoop, annotated_id, pair_of}
use Rattle.dslx_check_rules.proofs.Lemmas.Nodes.Settled.{row_behind, type_behind}
use Rattle.dslx_check_rules.proofs.OnControl.OnControl.{annotated_is, loop_stays}
use Rattle.dslx_check_rules.proofs.control.control.loop_typing.Goals as goal

pub returns-clause-typed : goal.returns-clause-typed
returns-clause-typed c = record {
  typed = λ names later distinct p l old.
      let grows = c.in_ok-pair.ensures.grows in
      let q : IsPrefix c.args.types.now later = IsPrefix-trans c.args.types.now c.pair_type.new.types later grows p in
      let is : IsLoop names c.pair_type.new.types later c.args.parts.now l = loop_stays names c.args.types.now c.pair_type.new.types later c.args.parts.now l grows old in
      let index : type_if names later c.same_ends-index.result ≡ index_type l =
      c.same_ends-index.ensures.is names later distinct q old.from.part.row old.to.part.row ∙ (λ i. same_ends (old.from.part.ty i) (old.to.part.ty i)) in
      let pair : type_if names later c.in_ok-pair.pair ≡ pair_of (index_type l) l.start.ty = c.in_ok-pair.ensures.is names later p ∙ (λ i. pair_of (index i) (old.start.ty i)) in
      let count : c.turns_of-count.result ≡ turns_of l.from.value l.to.value = c.turns_of-count.ensures ∙ (λ i. turns_of (old.from.value i) (old.to.value i)) in
      let start : Option TypeId = c.args.parts.now.start.ty in
      let annotated : Option TypeId = annotated_id c.args.parts.now.written start in
      let body : Option TypeId = c.args.parts.now.body.typing.ty in
      let inner : Option TypeId = and_then annotated (λ a. start) in
      let outer : Option TypeId = and_then body (λ b. inner) in
      let inner_row = row_behind c.pair_type.new.types annotated start inner refl is.start.row in
      let outer_row = row_behind c.pair_type.new.types body inner outer refl inner_row in
      let inner_type = type_behind names later annotated start inner (annotated_type l.written l.start.ty) l.start.ty refl
      (annotated_is names c.pair_type.new.types later c.args.parts.now.written l.written start l.start.ty is.written is.start.ty) is.start.ty in
      let outer_type = type_behind names later body inner outer l.body.ty (and_then (annotated_type l.written l.start.ty) (λ u. l.start.ty)) refl is.body.ty inner_type in
      c.settle.ensures.typed names later p (row_behind c.pair_type.new.types c.same_ends-index.result outer c.loop_type-ty.result c.loop_type-ty.ensures outer_row)
      (loop_type l) (loop_parts_faults l ++ loop_faults c.args.span c.args.parts.now.body.span l) (loop_reached l) (loop_size l)
      (type_behind names later c.same_ends-index.result outer c.loop_type-ty.result (index_type l)
      (and_then l.body.ty (λ t. and_then (annotated_type l.written l.start.ty) (λ u. l.start.ty))) c.loop_type-ty.ensures index outer_type)
      (c.and-faults.ensures (loop_parts_faults l) (loop_faults c.args.span c.args.parts.now.body.span l) (c.parts_faults.ensures names c.pair_type.new.types later l is)
      (c.loop_faults-own.ensures names later l distinct p is c.in_ok-pair.ensures.there pair count))
      (c.loop_size-size.ensures names c.pair_type.new.types later l is count);
}
