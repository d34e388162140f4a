use Rattle.std.proofs.Common.{◌≡◌, [], drop, length}
use Rattle.dslx_meaning.specs.Items.{meanings_of}
use Rattle.dslx_scope_names.specs.Numbers.InScope.{locals_in_scope}
use Rattle.dslx_scope_names.proofs.parametric_args.arguments.bind_arguments.Given as goal

abbrev pub invariant-arguments : goal.invariant-arguments
invariant-arguments l =
    record {
      same_length : length l.arguments ≡ length l.types;
      left : locals_in_scope (meanings_of l.text) (drop l.i l.arguments) (drop l.i l.types) l.locals l.i ≡ locals_in_scope (meanings_of l.text) l.arguments l.types [] 0;
    }
