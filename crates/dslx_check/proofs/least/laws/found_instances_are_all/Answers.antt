use Rattle.std.proofs.Common.{◌≤◌, length, arith}
use Rattle.dslx_meaning.specs.Rules.ModuleRules.{globals_of, instances_of}
use Rattle.dslx_check.specs.Least.Starts.{starts_of}
use Rattle.dslx_check.proofs.OnLeast.OnLists.{among_all, faults_among, instances_apart, no_more}
use Rattle.dslx_check.proofs.least.laws.found_instances_are_all.Goals as goal

pub returns-clause-size : goal.returns-clause-size
returns-clause-size c = λ m top all least apart.
    let of = c.what_is_checked_is_least.ensures.text m top in
    let less : length all ≤ length (instances_of m top) = no_more all (instances_of m top) apart (among_all (globals_of m) (starts_of m top) all (instances_of m top) least.least of) in
    let more : length (instances_of m top) ≤ length all = no_more (instances_of m top) all (instances_apart m top) (among_all (globals_of m) (starts_of m top) (instances_of m top) all of.least least) in
    omega (arith, less, more)

pub returns-clause-faults : goal.returns-clause-faults
returns-clause-faults c = λ m top all least.
    let of = c.what_is_checked_is_least.ensures.text m top in
    record {
      there = faults_among (globals_of m) all (instances_of m top) (among_all (globals_of m) (starts_of m top) all (instances_of m top) least.least of);
      back = faults_among (globals_of m) (instances_of m top) all (among_all (globals_of m) (starts_of m top) (instances_of m top) all of.least least);
    }

pub returns-clause-no_fewer : goal.returns-clause-no_fewer
returns-clause-no_fewer c = λ m top all least.
    let of = c.what_is_checked_is_least.ensures.text m top in
    no_more (instances_of m top) all (instances_apart m top) (among_all (globals_of m) (starts_of m top) (instances_of m top) all of.least least)

pub returns-clause-fewer : goal.returns-clause-fewer
returns-clause-fewer c = λ m top some started apart.
    no_more some (instances_of m top) apart (among_all (globals_of m) (starts_of m top) some (instances_of m top) started (c.what_is_checked_is_least.ensures.text m top))
