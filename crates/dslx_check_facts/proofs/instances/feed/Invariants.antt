use Rattle.std.proofs.Common.{◌≡◌, drop}
use Rattle.std.specs.List.{fold, flat_map}
use Rattle.std.specs.Hash.{u128}
use Rattle.dslx_check_facts.specs.Keys.{word_in}
use Rattle.dslx_check_facts.proofs.instances.feed.Given as goal

abbrev pub invariant-values : goal.invariant-values
invariant-values g l = fold g.H.Hasher.write l.state (flat_map (λ v. u128 (word_in v)) (drop l.value-index l.parametric_args)) ≡ fold g.H.Hasher.write l.initial.state (flat_map (λ v. u128 (word_in v)) l.parametric_args)
