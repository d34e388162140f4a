-- What a pattern becomes in its scope, whatever calls come to there.
use Rattle.std.proofs.Common.{◌≡◌, [], Option, Some, None, refl, sym, ap, ◌∙◌}
use Rattle.dslx_tree.specs.declared.pattern.Pattern.{Pattern}
use Rattle.dslx_meaning.specs.Lists.{and_then}
use Rattle.dslx_meaning.specs.declared.ty.DslxType.{DslxType}
use Rattle.dslx_core.specs.declared.expr.Shape.{Shape}
use Rattle.dslx_core.specs.Lowering.CoreScopes.{CoreScope}
use Rattle.dslx_core.specs.Lowering.Patterns.{LoweredShape, shaped}
use Rattle.dslx_core.specs.Lowering.Steps.{lower_pattern_of_text}
use Rattle.dslx_core.specs.Machines.Machine.Arms.{shaped_at}
use Rattle.dslx_core.specs.Machines.Machine.Callees.{CalleesByName, moved, with_callee}
use Rattle.dslx_scope_names.specs.Names.Seen.{scope_with}
use Rattle.dslx_scope_names.specs.Patterns.Behind.{behind, fresh_scope, outer_scope, shaped_to}
use Rattle.dslx_scope_names.specs.declared.patterns.fresh.Fresh.{Fresh}
use Rattle.dslx_scope_names.specs.declared.patterns.fresh.Outer.{Outer}

-- what the law of patterns says
abbrev pub KnowNoCalls : Type 0
KnowNoCalls = (p : Pattern) (scope : CoreScope) (t : DslxType) (c : CalleesByName) → shaped_at p (with_callee c scope) t ≡ moved c (shaped_at p scope t)

pub in_scope : (p : Pattern) (t : DslxType) (o : Outer) (f g : Fresh) (found s : Option Shape) → KnowNoCalls → f ≡ record { names = []; count = o.count }
    → (lower_pattern_of_text p).lower (outer_scope o) (fresh_scope o f) t ≡ shaped_to found (fresh_scope o g) → found ≡ s
    → (callee : CalleesByName) → shaped_at p (scope_with callee o.count o.context) t ≡ and_then s (λ x. shaped x (behind g.names g.count (scope_with callee o.count o.context)))
in_scope p t o f g found s know none is e callee =
    know p (outer_scope o) t callee
    ∙ ap (moved callee) (sym (ap (λ (h : Fresh). (lower_pattern_of_text p).lower (outer_scope o) (fresh_scope o h) t) none) ∙ is ∙ ap (λ (x : Option Shape). shaped_to x (fresh_scope o g)) e)
    ∙ by s
  where
    by : (s : Option Shape) → moved callee (shaped_to s (fresh_scope o g)) ≡ and_then s (λ x. shaped x (behind g.names g.count (scope_with callee o.count o.context)))
    by None = refl
    by (Some x) = refl
