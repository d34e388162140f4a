use Rattle.std.proofs.Common.{map, sym, arith}
use Rattle.std.proofs.lemmas.List.{length-map}
use Rattle.ir_tree.specs.NodeTypes.Types.{same_type}
use Rattle.ir_tree.proofs.Lemmas.NodeTypes.SameTypes.{each_same-lengths}
use Rattle.ir_tree.proofs.node_types.types.+same.Goals as goal

pub same_types-returns-then-types-others : goal.same_types-returns-then-types-others
same_types-returns-then-types-others t c =
    sym (each_same-lengths (map same_type c.args.types.now) c.args.others.now (λ e. omega (arith, length-map c.args.types.now same_type, e, c.if-types-others.true)))
