use Rattle.std.proofs.Common.{take}
use Rattle.dslx_meaning.specs.Rules.ProcRules.{ident_names}
use Rattle.dslx_check_declarations.specs.Config.{UsesNames}
use Rattle.dslx_check_declarations.proofs.config.Made.use_all.Given as goal

abbrev pub invariant-idents : goal.invariant-idents
invariant-idents l = UsesNames l.fn.self l.self (ident_names (take l.ident-index l.idents))
