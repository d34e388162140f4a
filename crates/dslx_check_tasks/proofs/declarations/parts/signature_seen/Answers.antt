use Rattle.std.proofs.Common.{Some, refl}
use Rattle.dslx_meaning.specs.Rules.ModuleRules.{signature_of}
use Rattle.dslx_check_tasks.proofs.OnDeclarations.OnForeign.{gives_signature}
use Rattle.dslx_check_tasks.proofs.declarations.parts.signature_seen.Goals as goal

pub returns : goal.returns
returns c = gives_signature (λ context. signature_of context (Some c.args.own.now)) c.in_ok-signature.ensures refl
