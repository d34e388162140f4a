use Rattle.std.proofs.Common.{◌≡◌, ◌++◌, drop, take}
use Rattle.dslx_token.specs.declared.rules.generated.kind.TheConstants.{END}
use Rattle.dslx_token.specs.Inner.Names.{kind_by}
use Rattle.dslx_token.specs.Kinds.{settled}
use Rattle.dslx_token.proofs.kinds.settle.Given as goal

abbrev pub invariant-loop-token : goal.invariant-loop-token
invariant-loop-token l =
    take l.token-index l.tokens ++ settled (kind_by l.declared.types l.declared.callables l.declared.structs) l.before (drop l.token-index l.tokens)
    ≡ settled (kind_by l.declared.types l.declared.callables l.declared.structs) END l.initial.tokens
