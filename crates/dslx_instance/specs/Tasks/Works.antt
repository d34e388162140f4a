-- Expressions of one body that are lowered one after another.
use Rattle.std.specs.Prelude.{List, map, reverse}
use Rattle.dslx_tree.specs.declared.item.Module.{Module}
use Rattle.dslx_meaning.specs.Items.{meanings_of}
use Rattle.dslx_meaning.specs.Names.Bound.{given}
use Rattle.dslx_core.specs.Lowering.CoreScopes.{CoreScope}
use Rattle.dslx_core.specs.Lowering.Functions.{CoreInstance, callee_in}
use Rattle.dslx_instance.specs.declared.tasks.work.BodyWork.{BodyWork}

-- the scope in which calls resolve to the instances of a table
abbrev pub work_scope : Module → List CoreInstance → BodyWork → CoreScope
work_scope m table w = record {
  known = record { items = meanings_of m; parametric_args = reverse (map given w.given.items); callee = callee_in m (meanings_of m) table };
  locals = w.locals;
  count = w.count;
}
