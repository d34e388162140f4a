use Rattle.std.proofs.Common.{◌≡◌, ◌∙◌, ℕ, List, Bool, Option, Some, None, not, refl, ap}
use Rattle.dslx_meaning.specs.Rules.TypeEnvs.{ChannelEnd, breaks_if}
use Rattle.dslx_meaning.specs.Rules.PatternRules.{is_there}
use Rattle.dslx_meaning.specs.Rules.CallRules.{named_channel}
use Rattle.dslx_meaning.specs.Rules.RuleNumbers as rule
use Rattle.xb_span.specs.declared.span.Span.{Span}
use Rattle.dslx_check_rules.specs.Interned.{ItemNames}
use Rattle.dslx_check_rules.specs.declared.table.row.TypeRow.{TypeRow}
use Rattle.dslx_check_rules.specs.declared.faults.Faults.{Faults}
use Rattle.dslx_check_rules.specs.Seen.{seen}
use Rattle.dslx_check_rules.specs.Nodes.Parts.{IsPart}
use Rattle.dslx_check_rules.proofs.control.effects.named_channel.Goals as goal

named : (names : ItemNames) (rows later : List TypeRow) (span : Span) (name : List ℕ) (is_end : Bool) (faults : Faults) (o : Option ChannelEnd) → is_end ≡ is_there o
    → faults ≡ seen (breaks_if (not is_end) rule.NAME_IS_DECLARED span) → IsPart names rows later (record { ty = None; faults = faults; size = Some 1 }) (named_channel span name o)
named names rows later span name is_end faults None e is = record { row = tt; ty = refl; faults = is ∙ ap (λ b. seen (breaks_if (not b) rule.NAME_IS_DECLARED span)) e; size = refl }
named names rows later span name is_end faults (Some o) e is = record { row = tt; ty = refl; faults = is ∙ ap (λ b. seen (breaks_if (not b) rule.NAME_IS_DECLARED span)) e; size = refl }

pub returns : goal.returns
returns c = λ names rows later name o e. named names rows later c.args.span name c.args.is_end c.breaks_if.result o e c.breaks_if.ensures
