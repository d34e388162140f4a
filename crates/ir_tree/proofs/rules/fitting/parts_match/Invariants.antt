use Rattle.std.proofs.Common.{◌≡◌, length, drop, map}
use Rattle.ir_tree.specs.NodeTypes.Types.{same_type, each_same}
use Rattle.ir_tree.specs.Rules.Fitting.{type_in}
use Rattle.ir_tree.specs.Rules.Inner.Scopes.{types_of}
use Rattle.ir_tree.proofs.rules.fitting.parts_match.Given as goal

abbrev pub invariant-parts : goal.invariant-parts
invariant-parts l =
    let typed = type_in (types_of l.scope) in
    record {
      same_length : length l.parts ≡ length l.operands;
      same_rest : each_same (map same_type l.parts) (map typed l.operands) ≡ each_same (map same_type (drop l.i l.parts)) (map typed (drop l.i l.operands));
    }
