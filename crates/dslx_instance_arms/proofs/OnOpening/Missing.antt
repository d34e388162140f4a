-- Instances that are done, and those that aren't.
use Rattle.std.proofs.Common.{◌≡◌, ℕ, Bool, true, false, List, Option, Some, None, refl, sym, ap, ◌∙◌}
use Rattle.std.specs.Prelude.{is_some}
use Rattle.dslx_core.specs.Lowering.Functions.{CoreInstance, Instantiated, instance_in}
use Rattle.dslx_core.specs.Machines.Machine.Machines.{unless_done}
use Rattle.dslx_instance_arms.specs.Opening.Done.{done_in, missing_in}

abbrev left : Bool → Instantiated → Option Instantiated
left true i = None
left false i = Some i

by_test : (o : Option (ℕ × CoreInstance)) (i : Instantiated) → unless_done o i ≡ left (is_some o) i
by_test None i = refl
by_test (Some p) i = refl

pub is_there : (table : List CoreInstance) (i : Instantiated) → done_in table i ≡ true → None ≡ missing_in table i
is_there table i h = ap (λ b. left b i) (sym h) ∙ sym (by_test (instance_in i.name i.parametric_args 0 table) i)

pub is_missing : (table : List CoreInstance) (i : Instantiated) → done_in table i ≡ false → Some i ≡ missing_in table i
is_missing table i h = ap (λ b. left b i) (sym h) ∙ sym (by_test (instance_in i.name i.parametric_args 0 table) i)
