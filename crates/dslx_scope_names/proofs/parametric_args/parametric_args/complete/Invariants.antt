use Rattle.std.proofs.Common.{◌≡◌, ◌≤◌, [], length, map}
use Rattle.dslx_meaning.specs.Items.{all_parametric_args, meanings_of}
use Rattle.dslx_values.specs.Inference.Inferences.{inferred}
use Rattle.dslx_scope_names.proofs.Lemmas.Numbers.InOrder.{left_behind}
use Rattle.dslx_scope_names.proofs.parametric_args.parametric_args.complete.Given as goal

abbrev pub invariant-parametrics : goal.invariant-parametrics
invariant-parametrics l =
    record {
      count : length l.parametric_args.items ≡ l.i;
      fits : l.i ≤ length l.parametrics;
      left : left_behind (meanings_of l.text) (map inferred l.inferences) l.parametrics l.parametric_args.items l.i
          ≡ all_parametric_args (meanings_of l.text) (map inferred l.inferences) [] l.parametrics l.fn.parametric_args.items;
    }
