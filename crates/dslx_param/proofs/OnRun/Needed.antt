-- An instance that is needed.
use Rattle.std.proofs.Common.{◌≡◌, ℕ, Bool, List, Option, Some, None, refl, sym, ap, ◌∙◌}
use Rattle.std.specs.Prelude.{is_some}
use Rattle.dslx_tree.specs.declared.item.Module.{Module}
use Rattle.dslx_meaning.specs.Lists.{and_then, where_true}
use Rattle.dslx_core.specs.Lowering.Functions.{CoreInstance, Instantiated}
use Rattle.dslx_core.specs.Machines.Machine.Steps.{instance_of}
use Rattle.dslx_core.specs.Machines.Machine.Tasks.{OpenBody}
use Rattle.dslx_instance_arms.specs.Opening.Done.{done_in}
use Rattle.dslx_instance.specs.Tasks.Shown.{instance_env_of}

by_test : (o : Option (ℕ × CoreInstance)) (body : OpenBody) → where_true (is_some o) (Some body) ≡ and_then o (λ p. Some body)
by_test None body = refl
by_test (Some p) body = refl

-- the body goes on where it is done
pub is_there : (m : Module) (table : List CoreInstance) (i : Instantiated) (is : Bool) (body : OpenBody) → is ≡ done_in table i
    → where_true is (Some body) ≡ and_then (instance_of (instance_env_of m table) i) (λ p. Some body)
is_there m table i is body h = ap (λ b. where_true b (Some body)) h ∙ by_test (instance_of (instance_env_of m table) i) body
