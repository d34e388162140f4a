use Rattle.dslx_check_rules.specs.Interned.{type_if}
use Rattle.dslx_check_declarations.proofs.OnEnds.{no_end, some_end}
use Rattle.dslx_check_declarations.proofs.ends.misfits.Goals as goal

pub returns-in-None : goal.returns-in-None
returns-in-None c = λ names later o distinct p row is. no_end names c.args.types.now later c.args.wanted.direction (type_if names later c.args.wanted.word) c.args.end o c.in-None.is is

pub returns-in-Some : goal.returns-in-Some
returns-in-Some c = λ names later o distinct p row is.
    some_end names c.args.types.now later c.args.wanted.direction (type_if names later c.args.wanted.word) c.args.end o c.in-Some.end c.same_direction-is_one.result c.either.result c.are_other.result
    c.in-Some.is is c.same_direction-is_one.ensures (λ there. c.are_other.ensures names later distinct p row there) c.either.ensures
