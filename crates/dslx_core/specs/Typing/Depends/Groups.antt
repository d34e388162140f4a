-- A global environment as a part of a declaration sees it that is looked at by a call of the own group, which rule 3 refuses.
use Rattle.std.specs.Prelude.{ℕ, List, None, if◌then◌else◌}
use Rattle.dslx_meaning.specs.Rules.ConstantRules.{untyped_typing}
use Rattle.dslx_meaning.specs.Rules.ModuleRules.{no_signature}
use Rattle.dslx_meaning.specs.Rules.TypeEnvs.{GlobalEnv}

-- nothing is known of what those items declare that are this one or reach it
abbrev pub without_own : GlobalEnv → List ℕ → GlobalEnv
without_own known owner = record known {
  parameter_in = λ item before. if known.is_cyclic owner item then untyped_typing else known.parameter_in item before;
  default_in = λ item before. if known.is_cyclic owner item then record { judgement = untyped_typing; value = None } else known.default_in item before;
  signature_in = λ item values. if known.is_cyclic owner item then no_signature else known.signature_in item values;
}
