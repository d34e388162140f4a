use Rattle.std.proofs.Common.{◌≡◌, ◌++◌, ◌-◌, ◌∷◌, []}
use Rattle.block_build.specs.Netlist.Leaves.{parts_of, repeated}
use Rattle.block_build.proofs.netlist.parts.elements_of.Given as goal

abbrev pub invariant-elements : goal.invariant-elements
invariant-elements l = l.elements.items ++ parts_of (repeated (l.count - l.counter) (l.each ∷ [])) l.rest ≡ parts_of (repeated l.count (l.each ∷ [])) l.atoms
