use Rattle.std.proofs.Common.{◌∙◌, Some, refl, sym, ap}
use Rattle.base.proofs.Lemmas.Lists.Prefixes.{IsPrefix-refl}
use Rattle.dslx_meaning.specs.Lists.{and_then}
use Rattle.dslx_meaning.specs.declared.ty.DslxType as ty
use Rattle.dslx_check_rules.specs.declared.table.row.TypeRow.TheVariants as row
use Rattle.dslx_check_rules.proofs.Lemmas.Nodes.Lists.{with_row_kept}
use Rattle.dslx_check_rules.proofs.nodes.counts.wide_typing.Goals as goal

pub returns-in_ok-ty-in-Some-clause-typed : goal.returns-in_ok-ty-in-Some-clause-typed
returns-in_ok-ty-in-Some-clause-typed c = record {
  typed = λ names later distinct p x n.
      c.settle.ensures.typed names later p c.in_ok-ty-in-Some.ensures.there (and_then x.count (λ w. Some (ty.Bits c.args.signed w))) x.judgement.faults x.judgement.reached (Some 0)
      (ap Some (c.in_ok-ty-in-Some.ensures.is names later p) ∙ ap (λ k. and_then k (λ w. Some (ty.Bits c.args.signed w))) (sym c.in-Some.is ∙ n.count))
      n.part.faults refl;
}

pub returns-in-None-clause-typed : goal.returns-in-None-clause-typed
returns-in-None-clause-typed c = record {
  typed = λ names later distinct p x n.
      c.settle-in-None.ensures.typed names later p tt (and_then x.count (λ w. Some (ty.Bits c.args.signed w))) x.judgement.faults x.judgement.reached (Some 0)
      (ap (λ k. and_then k (λ w. Some (ty.Bits c.args.signed w))) (sym c.in-None.is ∙ n.count))
      n.part.faults refl;
}

pub returns-in-None-clause-grows : goal.returns-in-None-clause-grows
returns-in-None-clause-grows c = IsPrefix-refl c.args.types.now

pub returns-in_ok-ty-in-Some-clause-items : goal.returns-in_ok-ty-in-Some-clause-items
returns-in_ok-ty-in-Some-clause-items c =
    with_row_kept c.args.types.now c.bits.new.self (row.Bits (record { signed = c.args.signed; width = c.in-Some.count })) refl c.in_ok-ty-in-Some.ensures.rows
