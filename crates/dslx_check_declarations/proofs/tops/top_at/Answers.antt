use Rattle.std.proofs.Common.{◌∙◌, ◌∷◌, [], refl, sym, ap}
use Rattle.std.specs.Option.{option_copied}
use Rattle.dslx_tree.specs.declared.ident.Ident.{Ident}
use Rattle.dslx_meaning.specs.Rules.RuleNumbers as rule
use Rattle.dslx_meaning.specs.Rules.TypeEnvs.{breaks}
use Rattle.dslx_check_rules.specs.Seen.{seen}
use Rattle.dslx_check_declarations.proofs.OnTops.{other_top, proc_top}
use Rattle.dslx_check_declarations.proofs.tops.top_at.Goals as goal

pub returns-in-Some : goal.returns-in-Some
returns-in-Some c = proc_top c.args.definition.now _ _ (sym c.proc_in.ensures ∙ ap option_copied c.in-Some.is) refl refl c.default_faults.ensures

pub returns-in-None : goal.returns-in-None
returns-in-None c = other_top c.args.definition.now (sym c.proc_in.ensures ∙ ap option_copied c.in-None.is) refl
    (c.breaks.ensures ∙ ap (λ (n : Ident). seen (breaks rule.TOP_IS_A_PROC n.span ∷ [])) c.ident_of.ensures.ident)
