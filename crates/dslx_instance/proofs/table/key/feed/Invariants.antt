use Rattle.std.proofs.Common.{◌≡◌, drop}
use Rattle.std.specs.List.{fold, flat_map}
use Rattle.std.specs.Hash.{u128}
use Rattle.dslx_instance.specs.Table.Keys.{word_in}
use Rattle.dslx_instance.proofs.table.key.feed.Given as goal

abbrev pub invariant-parametric_args : goal.invariant-parametric_args
invariant-parametric_args g l = fold g.H.Hasher.write l.state (flat_map (λ v. u128 (word_in v)) (drop l.number-index l.parametric_args)) ≡ fold g.H.Hasher.write l.initial.state (flat_map (λ v. u128 (word_in v)) l.parametric_args)
