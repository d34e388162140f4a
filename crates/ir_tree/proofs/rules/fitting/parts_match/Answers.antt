use Rattle.std.proofs.Common.{map, sym, arith}
use Rattle.std.proofs.lemmas.List.{length-map}
use Rattle.ir_tree.specs.NodeTypes.Types.{same_type}
use Rattle.ir_tree.specs.Rules.Fitting.{type_in}
use Rattle.ir_tree.specs.Rules.Inner.Scopes.{types_of}
use Rattle.ir_tree.proofs.Lemmas.NodeTypes.SameTypes.{each_same-lengths}
use Rattle.ir_tree.proofs.rules.fitting.parts_match.Goals as goal

pub returns-then-parts-operands : goal.returns-then-parts-operands
returns-then-parts-operands c =
    sym (each_same-lengths (map same_type c.args.parts.now) (map (type_in (types_of c.args.scope.now)) c.args.operands.now)
    (λ e. omega (arith, length-map c.args.parts.now same_type, length-map c.args.operands.now (type_in (types_of c.args.scope.now)), e, c.if-parts-operands.true)))
