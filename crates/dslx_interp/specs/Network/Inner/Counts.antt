-- How many procs and channels there are in the families of instances: counted once an instance, up to 2^64 - 1.
use Rattle.std.specs.Prelude.{ℕ, ◌+◌, min, List, [], ◌∷◌, ◌++◌, length, get_or}
use Rattle.dslx_core.specs.declared.design.Child.{Child}
use Rattle.dslx_core.specs.declared.design.Instance.{Instance}
use Rattle.dslx_interp.specs.declared.network.count.Count.{Count}

abbrev pub most : ℕ
most = 18446744073709551615

abbrev pub nothing : Count
nothing = record { procs = 0; chans = 0 }

abbrev pub and_count : Count → Count → Count
and_count a b = record { procs = min (a.procs + b.procs) most; chans = min (a.chans + b.chans) most }

-- a count, and those of procs that are started, by the counts of instances
abbrev pub and_children : List Count → Count → List Child → Count
and_children counts count [] = count
and_children counts count (c ∷ cs) = and_children counts (and_count count (get_or counts c.instance nothing)) cs

-- the family of an instance that starts only those that are counted
abbrev pub count_of : List Count → Instance → Count
count_of counts i = and_children counts (record { procs = 1; chans = min (length i.made) most }) i.children

-- the counts of some instances, and of more
abbrev pub counts_from : List Count → List Instance → List Count
counts_from counts [] = counts
counts_from counts (i ∷ is) = counts_from (counts ++ count_of counts i ∷ []) is
