use Rattle.std.proofs.Common.{◌∙◌, ◌++◌, not, refl, ap}
use Rattle.dslx_meaning.specs.Rules.TypeEnvs.{breaks_if}
use Rattle.dslx_meaning.specs.Rules.PatternRules.{shape_faults}
use Rattle.dslx_meaning.specs.Rules.RuleNumbers as rule
use Rattle.dslx_check_rules.specs.Seen.{seen}
use Rattle.dslx_check_rules.specs.Interned.{type_if}
use Rattle.dslx_check_rules.proofs.control.patterns.value_pattern.Goals as goal

pub returns : goal.returns
returns c = λ names later j bound locals distinct p row is. record {
  faults = c.and.ensures (j.faults ++ shape_faults c.args.span (type_if names later c.args.ty) j.ty) (breaks_if (not c.args.may_fail) rule.PATTERN_FITS_TYPE c.args.span)
      (c.and-faults.ensures j.faults (shape_faults c.args.span (type_if names later c.args.ty) j.ty) is.faults
      (c.shape_faults-shape.ensures names later distinct p row is.row ∙ ap (λ t. seen (shape_faults c.args.span (type_if names later c.args.ty) t)) is.ty)) c.breaks_if-odd.ensures;
  size = refl;
  known = refl;
  sure = refl;
}
