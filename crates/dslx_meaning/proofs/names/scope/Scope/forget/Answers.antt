use Rattle.std.proofs.Common.{◌≡◌, ◌∙◌, ◌-◌, ℕ, List, ap, drop, take, map, reverse, length, arith}
use Rattle.dslx_meaning.specs.Environment.{Given}
use Rattle.dslx_meaning.specs.Names.Bound.{given}
use Rattle.dslx_meaning.proofs.OnNames.Ends.{forgotten}
use Rattle.dslx_meaning.proofs.names.scope.Scope.forget.Goals as goal

pub returns : goal.returns
returns c =
    let at : c.saturating_sub-left.result ≡ length c.self.inside.bindings.items - c.args.count = omega arith in
    ap (λ bs. reverse (map given bs)) c.truncate.ensures.items
    ∙ ap (λ (m : ℕ). reverse (map given (take m c.self.inside.bindings.items))) at
    ∙ forgotten c.args.count c.self.inside.bindings.items ∙ ap (λ (v : List Given). drop c.args.count v) c.self.view_is
