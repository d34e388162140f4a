-- What the rules of atoms and of arguments do where their symbols are complete.
use Rattle.dslx_actions.specs.declared.parts.SemanticStacks.{SemanticStacks}
use Rattle.dslx_actions.specs.Types.Types.{named_type}
use Rattle.dslx_node_actions.specs.declared.exprs.atoms.rule.ArgAction.{ArgAction}
use Rattle.dslx_node_actions.specs.declared.exprs.atoms.rule.ArgAction.TheVariants as arg
use Rattle.dslx_node_actions.specs.declared.exprs.atoms.rule.AtomAction.{AtomAction}
use Rattle.dslx_node_actions.specs.declared.exprs.atoms.rule.AtomAction.TheVariants as atom
use Rattle.dslx_node_actions.specs.Exprs.Atoms.Atoms as atoms
use Rattle.dslx_node_actions.specs.Exprs.Atoms.Calls as calls

abbrev pub reduced_atom : AtomAction → SemanticStacks → SemanticStacks
reduced_atom atom.BareNumber s = atoms.bare_number s
reduced_atom atom.TypedNumber s = atoms.typed_number s
reduced_atom (atom.Bool value) s = atoms.bool_expr value s
reduced_atom atom.LastElement s = atoms.last_element s
reduced_atom atom.Repeated s = atoms.repeated s
reduced_atom atom.Array s = atoms.array_expr s
reduced_atom atom.TypedArray s = atoms.typed_array s
reduced_atom atom.Name s = atoms.name_expr s
reduced_atom atom.Member s = atoms.member_expr s
reduced_atom atom.Call s = calls.call_expr s
reduced_atom atom.CallWithArgs s = calls.call_with_args s
reduced_atom atom.Unit s = atoms.unit_expr s
reduced_atom atom.Grouped s = atoms.grouped s
reduced_atom atom.Tuple s = atoms.tuple_expr s

abbrev pub reduced_arg : ArgAction → SemanticStacks → SemanticStacks
reduced_arg arg.Number s = calls.bare_arg (atoms.bare_number s)
reduced_arg arg.Typed s = calls.bare_arg (atoms.typed_number s)
reduced_arg arg.NamedTyped s = calls.bare_arg (atoms.typed_number (named_type s))
reduced_arg arg.Name s = calls.bare_arg (atoms.name_expr s)
reduced_arg arg.Braced s = calls.braced_arg s
