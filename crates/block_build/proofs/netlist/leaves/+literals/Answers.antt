use Rattle.block_build.proofs.OnNetlist.OnLiterals.{literals_tuple, literals_array}
use Rattle.block_build.proofs.netlist.leaves.+literals.Goals as goal

pub push_literals-returns-in-Tuple : goal.push_literals-returns-in-Tuple
push_literals-returns-in-Tuple t c =
    literals_tuple c.push_all_literals.result c.args.atoms.now.items c.push_all_literals.new.atoms.items c.args.value.now c.as_slice.result.now c.in-Tuple.parts c.in-Tuple.is c.as_slice.ensures c.push_all_literals.ensures

pub push_literals-returns-in-Array : goal.push_literals-returns-in-Array
push_literals-returns-in-Array t c =
    literals_array c.push_all_literals-in-Array.result c.args.atoms.now.items c.push_all_literals-in-Array.new.atoms.items c.args.value.now c.as_slice-in-Array.result.now c.in-Array.parts c.in-Array.is c.as_slice-in-Array.ensures
    c.push_all_literals-in-Array.ensures
