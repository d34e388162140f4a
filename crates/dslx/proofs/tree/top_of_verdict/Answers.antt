use Rattle.std.proofs.Common.{subst}
use Rattle.dslx_check.specs.Verdicts.{IsVerdictOn}
use Rattle.dslx.proofs.OnTrees.{faultless, refused_by_fault, refused_for}
use Rattle.dslx.proofs.tree.top_of_verdict.Goals as goal

pub returns-in-Accepted-clause-top : goal.returns-in-Accepted-clause-top
returns-in-Accepted-clause-top c = λ m name h. faultless m name c.in-Accepted.process.now (subst (IsVerdictOn m name) c.in-Accepted.is h)

pub returns-in-Refused-clause-refused : goal.returns-in-Refused-clause-refused
returns-in-Refused-clause-refused c = λ m name h. refused_for m name c.in-Refused.fault c.error.result (refused_by_fault m name c.in-Refused.fault (subst (IsVerdictOn m name) c.in-Refused.is h)) c.error.ensures
