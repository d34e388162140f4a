use Rattle.std.proofs.Common.{◌∙◌, ap, sym}
use Rattle.std.proofs.lemmas.Result.{IfOk-weaker}
use Rattle.dslx_meaning.specs.Types.{flat_bits}
use Rattle.dslx_meaning.specs.Rules.TypeEnvs.{found_number}
use Rattle.dslx_meaning.specs.declared.ty.DslxType.{DslxType}
use Rattle.dslx_check_rules.specs.Interned.{type_at}
use Rattle.dslx_check_rules.specs.declared.table.measures.TypeMeasures.{TypeMeasures}
use Rattle.dslx_check_rules.proofs.Lemmas.Types.{types_stay}
use Rattle.dslx_check_facts.proofs.Lemmas.Walks.{misses_refl}
use Rattle.dslx_check_facts.specs.Known.{item_names}
use Rattle.dslx_check_facts.specs.Walks.{shown}
use Rattle.dslx_check_leaves.proofs.fits.fits.values_match.Goals as goal
use Rattle.dslx_check_leaves.proofs.OnFits.OnFits.EachValue.{flat_known, flat_wide, values_by_last, values_by_words}

pub returns-in-None-clause-misses : goal.returns-in-None-clause-misses
returns-in-None-clause-misses c = misses_refl (shown c.args.w.now)

pub returns-in-None-clause-is : goal.returns-in-None-clause-is
returns-in-None-clause-is c = values_by_last (λ later p there.
    let names = item_names c.args.f.now in
    flat_wide c.measures-bits.result.flat (flat_bits (type_at names later c.args.ty))
    (ap (λ (m : TypeMeasures). m.flat) (c.measures-bits.ensures names) ∙ ap (λ (t : DslxType). found_number (flat_bits t)) (sym (types_stay names c.args.w.now.types later c.args.ty p there))) c.in-None.ensures.few)

pub returns-in-Some-clause-is : goal.returns-in-Some-clause-is
returns-in-Some-clause-is c = IfOk-weaker c.words_match.result _ _ (λ b h. values_by_words c.measures-bits.result.flat c.in-Some.count (λ later p there.
    let names = item_names c.args.f.now in
    flat_known c.measures-bits.result.flat (flat_bits (type_at names later c.args.ty))
    (ap (λ (m : TypeMeasures). m.flat) (c.measures-bits.ensures names) ∙ ap (λ (t : DslxType). found_number (flat_bits t)) (sym (types_stay names c.args.w.now.types later c.args.ty p there))) c.in-Some.ensures.few)
    c.in-Some.ensures.is c.in-Some.ensures.few h) c.words_match.ensures.is
