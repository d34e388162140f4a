use Rattle.std.proofs.Common.{◌≡◌, ℕ, List, take}
use Rattle.dslx_meaning.specs.Rules.ProcRules.{unknown_ends}
use Rattle.dslx_check_rules.specs.Seen.{seen}
use Rattle.dslx_check_declarations.specs.Config.{AreMeant}
use Rattle.dslx_check_declarations.proofs.config.Made.unknown_ends.Given as goal

abbrev pub invariant-idents : goal.invariant-idents
invariant-idents l = (names : List (List ℕ)) → AreMeant l.self names → l.faults ≡ seen (unknown_ends names (take l.ident-index l.idents))
