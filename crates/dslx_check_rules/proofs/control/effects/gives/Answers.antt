use Rattle.std.proofs.Common.{◌∙◌, Some, refl, sym, ap}
use Rattle.dslx_meaning.specs.Types.{received}
use Rattle.dslx_check_rules.specs.Interned.{type_at}
use Rattle.dslx_check_rules.specs.declared.table.row.TypeRow.TheVariants as row
use Rattle.dslx_check_rules.proofs.Lemmas.Nodes.Lists.{with_row_kept}
use Rattle.dslx_check_rules.specs.Control.Effects.{given_type}
use Rattle.dslx_check_rules.proofs.control.effects.gives.Goals as goal

pub returns-in_ok-ty-in-In-clause-is : goal.returns-in_ok-ty-in-In-clause-is
returns-in_ok-ty-in-In-clause-is c = λ names later p.
    ap Some (c.in_ok-ty-in-In.ensures.is names later p ∙ ap (λ w. received (type_at names later w)) c.in_ok-word.ensures.same)
    ∙ ap (λ d. given_type d (Some (type_at names later c.args.word))) (sym c.in-In.is)

pub returns-in_ok-ty-in-Out-clause-is : goal.returns-in_ok-ty-in-Out-clause-is
returns-in_ok-ty-in-Out-clause-is c = λ names later p.
    ap Some (c.in_ok-ty-in-Out.ensures.is names later p) ∙ ap (λ d. given_type d (Some (type_at names later c.args.word))) (sym c.in-Out.is)

pub returns-in_ok-ty-in-Out-clause-items : goal.returns-in_ok-ty-in-Out-clause-items
returns-in_ok-ty-in-Out-clause-items c = with_row_kept c.args.types.now c.token.new.self row.Token refl c.in_ok-ty-in-Out.ensures.rows
