-- Ends that are handed to procs that are spawned.
use Rattle.std.specs.Prelude.{List, Option}
use Rattle.xb_span.specs.declared.fault.Fault.{Fault}
use Rattle.dslx_tree.specs.declared.ident.Ident.{Ident}
use Rattle.dslx_tree.specs.declared.process.End.{End}
use Rattle.dslx_meaning.specs.declared.ty.DslxType.{DslxType}
use Rattle.dslx_meaning.specs.Rules.CallRules.{channel_end_in}
use Rattle.dslx_meaning.specs.Rules.ProcRules as the
use Rattle.dslx_meaning.specs.Rules.RuleNumbers as rule
use Rattle.dslx_meaning.specs.Rules.TypeEnvs.{breaks_if}

-- rule 9 at one end, by the type that is declared for its words
abbrev pub one_handed : the.Made → Option DslxType → End → Ident → List Fault
one_handed m t e i = breaks_if (the.misfits e.direction t (channel_end_in i.name m.channel_ends)) rule.VALUE_HAS_ITS_TYPE i.span
