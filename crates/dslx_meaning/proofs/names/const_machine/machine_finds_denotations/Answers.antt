use Rattle.std.proofs.Common.{[], ◌∷◌, Some, ap}
use Rattle.dslx_meaning.specs.Names.ConstMachine.States.{value_in, type_in, count_in_finding}
use Rattle.dslx_meaning.specs.Names.ConstMachine.Steps.{begins, begins_over}
use Rattle.dslx_meaning.specs.Names.ConstMachine.Tasks.{ValueDen, FindsType, CountsSize, CountsBound}
use Rattle.dslx_meaning.proofs.Lemmas.Names.ConstMachine.{comes_to_after}
use Rattle.dslx_meaning.proofs.names.const_machine.machine_finds_denotations.Goals as goal

pub returns-clause-value : goal.returns-clause-value
returns-clause-value c = λ m bound e n f found. ap value_in (comes_to_after n (ValueDen e ∷ []) (begins m bound (ValueDen e)) f found)

pub returns-clause-over : goal.returns-clause-over
returns-clause-over c = λ m kept bound e n f found. ap value_in (comes_to_after n (ValueDen e ∷ []) (begins_over m (Some kept) bound (ValueDen e)) f found)

pub returns-clause-ty : goal.returns-clause-ty
returns-clause-ty c = λ m bound t n f found. ap type_in (comes_to_after n (FindsType t ∷ []) (begins m bound (FindsType t)) f found)

pub returns-clause-size : goal.returns-clause-size
returns-clause-size c = λ m bound e n f found. ap count_in_finding (comes_to_after n (CountsSize e ∷ []) (begins m bound (CountsSize e)) f found)

pub returns-clause-bound : goal.returns-clause-bound
returns-clause-bound c = λ m bound e n f found. ap count_in_finding (comes_to_after n (CountsBound e ∷ []) (begins m bound (CountsBound e)) f found)
