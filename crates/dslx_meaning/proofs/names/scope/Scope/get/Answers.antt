use Rattle.std.proofs.Common.{◌≡◌, ◌∙◌, ◌<◌, ◌+◌, List, true, false, ap, sym, drop, length, arith}
use Rattle.std.specs.Str.{bytes_eq}
use Rattle.dslx_meaning.specs.Environment.{Given, given_in}
use Rattle.dslx_meaning.proofs.OnNames.Ends.{found_here, passed_here}
use Rattle.dslx_meaning.proofs.names.scope.Scope.get.Goals as goal

pub returns-then-eq : goal.returns-then-eq
returns-then-eq c =
    let within : c.names.i < length c.self.inside.bindings.items = omega arith in
    let same : bytes_eq c.args.name.now c.index-binding.result.now.name.now ≡ true = cc in
    sym (found_here c.args.name.now c.self.inside.bindings.items c.names.i _ c.index-binding.result.now within (omega arith) c.index-binding.ensures same)
    ∙ ap (λ (v : List Given). given_in c.args.name.now (drop c.names.i v)) c.self.view_is ∙ c.names.invariant

pub names-preserved : goal.names-preserved
names-preserved c =
    let within : c.names.i < length c.self.inside.bindings.items = omega arith in
    let other : bytes_eq c.args.name.now c.index-binding.result.now.name.now ≡ false = cc in
    sym (ap (λ (v : List Given). given_in c.args.name.now (drop (c.names.i + 1) v)) c.self.view_is)
    ∙ sym (passed_here c.args.name.now c.self.inside.bindings.items c.names.i _ c.index-binding.result.now within (omega arith) c.index-binding.ensures other)
    ∙ ap (λ (v : List Given). given_in c.args.name.now (drop c.names.i v)) c.self.view_is ∙ c.names.invariant
