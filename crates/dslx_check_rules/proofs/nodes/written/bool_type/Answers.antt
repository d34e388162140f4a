use Rattle.std.proofs.Common.{[], Some, false, refl, ap}
use Rattle.dslx_meaning.specs.declared.ty.DslxType as ty
use Rattle.dslx_check_rules.specs.declared.table.row.TypeRow.TheVariants as row
use Rattle.dslx_check_rules.proofs.Lemmas.Nodes.Lists.{with_row_kept}
use Rattle.dslx_check_rules.proofs.nodes.written.bool_type.Goals as goal

pub returns-clause-typed : goal.returns-clause-typed
returns-clause-typed c = record {
  typed = λ names later distinct p.
      c.settle.ensures.typed names later p c.in_ok-ty.ensures.there (Some (ty.Bits false 1)) [] [] (Some 0) (ap Some (c.in_ok-ty.ensures.is names later p)) c.none.ensures refl;
}

pub returns-clause-items : goal.returns-clause-items
returns-clause-items c = with_row_kept c.args.types.now c.bits.new.self (row.Bits (record { signed = false; width = 1 })) refl c.in_ok-ty.ensures.rows
