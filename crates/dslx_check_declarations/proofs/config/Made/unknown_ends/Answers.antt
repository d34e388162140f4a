use Rattle.std.proofs.Common.{◌≡◌, ◌∙◌, ℕ, Bool, not, List, take, arith, sym, ap}
use Rattle.xb_span.specs.declared.fault.Fault.{Fault}
use Rattle.dslx_meaning.specs.Lists.{is_in}
use Rattle.dslx_meaning.specs.Rules.ProcRules.{unknown_ends}
use Rattle.dslx_meaning.specs.Rules.RuleNumbers as rule
use Rattle.dslx_meaning.specs.Rules.TypeEnvs.{breaks_if}
use Rattle.dslx_check_rules.specs.Seen.{seen}
use Rattle.dslx_check_declarations.proofs.Lemmas.Listed.{take_all, take_next}
use Rattle.dslx_check_declarations.proofs.OnConfig.{unknown_next}
use Rattle.dslx_check_declarations.proofs.config.Made.unknown_ends.Goals as goal

pub idents-preserved : goal.idents-preserved
idents-preserved c = λ names meant.
    let x = c.ident-item.result in
    c.and-faults.ensures (unknown_ends names (take c.idents.ident-index c.args.idents.now)) (breaks_if (not (is_in x.name names)) rule.NAME_IS_DECLARED x.span) (c.idents.invariant names meant)
    (c.breaks_if-own.ensures ∙ ap (λ (b : Bool). seen (breaks_if (not b) rule.NAME_IS_DECLARED x.span)) (c.has_end-is_known.ensures names meant))
    ∙ ap seen (sym (unknown_next names (take c.idents.ident-index c.args.idents.now) x) ∙ ap (unknown_ends names) (sym (take_next c.args.idents.now c.idents.ident-index x (omega arith) c.ident-item.is)))

pub returns : goal.returns
returns c = λ names meant. c.idents.invariant names meant ∙ ap (λ l. seen (unknown_ends names l)) (take_all c.args.idents.now c.idents.ident-index (omega arith))
