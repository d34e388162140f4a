-- Written types are sound.
use Rattle.std.proofs.Common.{◌≡◌, ℕ, Bool, true, false, List, [], ◌∷◌, Option, Some, None}
use Rattle.xb_span.specs.declared.fault.Fault.{Fault}
use Rattle.xb_span.specs.declared.span.Span.{Span}
use Rattle.dslx_meaning.specs.declared.ty.DslxType.{DslxType}
use Rattle.dslx_meaning.specs.Rules.TypeEnvs.{Instance, TypeEnv, breaks, breaks_if, settled, type_limits, unless_broken}
use Rattle.dslx_meaning.specs.Rules.TypeRules.{named_type}
use Rattle.dslx_meaning.specs.Rules.Typings.{TypeExprTyping}
use Rattle.dslx_core.proofs.Lemmas.Typing.Sound.{none_in}

-- a type without a fault keeps the limits
abbrev pub KeepsTypeLimits : TypeExprTyping → Type 0
KeepsTypeLimits j = (context : TypeEnv) → (j context).faults ≡ [] → (end : ℕ) × (type_limits end (j context).ty ≡ [])

pub settled_keep : (span : Span) (own : Option DslxType) (named : List Fault) (found : List Instance) (size : Option ℕ) → (settled span own named found size).faults ≡ [] → (end : ℕ) × (type_limits end (settled span own named found size).ty ≡ [])
settled_keep span own named found size e = (span.to, (none_in named (type_limits span.to (unless_broken named own)) e).1)

pub named_keep : (span : Span) (name : List ℕ) (test : TypeEnv → Bool) → KeepsTypeLimits (λ context. named_type span context name (test context))
named_keep span name test context e = by_test (test context) e
  where
    by_test : (b : Bool) → (named_type span context name b).faults ≡ [] → (end : ℕ) × (type_limits end (named_type span context name b).ty ≡ [])
    by_test true f = settled_keep span (context.known.items.type_named name) (breaks_if (context.known.is_cyclic context.owner name) 3 span) [] (Some 0) f
    by_test false f = settled_keep span None (breaks 1 span ∷ []) [] (Some 0) f
