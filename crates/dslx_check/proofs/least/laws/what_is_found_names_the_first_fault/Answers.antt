use Rattle.dslx_meaning.specs.Rules.Namesakes.{told_apart}
use Rattle.dslx_check.proofs.OnLeast.OnNamed.{few, many}
use Rattle.dslx_check.proofs.least.laws.what_is_found_names_the_first_fault.Goals as goal

pub returns-clause-few : goal.returns-clause-few
returns-clause-few c = λ text top all least small.
    few text top c.same_faults_name_one.ensures all (c.found_instances_are_all.ensures.no_fewer (told_apart text) top all least) (c.found_instances_are_all.ensures.faults (told_apart text) top all least) small

pub returns-clause-many : goal.returns-clause-many
returns-clause-many c = λ text top some started apart large. many text top some (c.found_instances_are_all.ensures.fewer (told_apart text) top some started apart) large
