use Rattle.dslx_total.proofs.OnInstances.Few.{few_checked}
use Rattle.dslx_total.proofs.OnInstances.Tables.{never_missing, stands_there}
use Rattle.dslx_total.proofs.instances.accepted_instances_are_in_a_table.Goals as goal

pub returns-clause-stands : goal.returns-clause-stands
returns-clause-stands c = λ m top accepted i is limit enough.
    stands_there m top (c.checked_instances_are_own.ensures m top accepted) (c.accepted_functions_have_a_table.ensures m top accepted) i is limit enough

pub returns-clause-made : goal.returns-clause-made
returns-clause-made c = λ m top accepted i is limit enough before.
    never_missing m limit i before
    (stands_there m top (c.checked_instances_are_own.ensures m top accepted) (c.accepted_functions_have_a_table.ensures m top accepted) i is limit enough)

pub returns-clause-few : goal.returns-clause-few
returns-clause-few c = few_checked
