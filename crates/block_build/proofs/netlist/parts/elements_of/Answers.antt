use Rattle.std.proofs.Common.{[], ◌∷◌, ◌∙◌}
use Rattle.block_build.specs.Netlist.Leaves.{parts_of, repeated}
use Rattle.block_build.proofs.OnNetlist.OnLiterals.{elements_more}
use Rattle.block_build.proofs.netlist.parts.elements_of.Goals as goal

pub elements-preserved : goal.elements-preserved
elements-preserved c =
    elements_more c.args.count c.elements.counter c.args.each c.elements.rest.now c.behind-rest.result.now c.elements.elements.items c.push.new.self.items (parts_of (repeated c.args.count (c.args.each ∷ [])) c.args.atoms.now)
    c.in_ok-from_slice.field-0 c.elements-test.true (c.in_ok-from_slice.ensures ∙ c.front.ensures) c.behind-rest.ensures c.in_ok-push.ensures.items c.elements.invariant
