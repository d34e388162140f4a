-- Networks whatever their channels are named.
use Rattle.std.specs.Prelude.{ℕ, suc, List, [], ◌∷◌}
use Rattle.net_core.specs.declared.net.Chan.{Chan}
use Rattle.net_core.specs.declared.net.Net.{Net}

abbrev pub numbered_from : ℕ → List Chan → List Chan
numbered_from n [] = []
numbered_from n (x ∷ xs) = record { name = n ∷ []; ty = x.ty; kind = x.kind; depth = x.depth } ∷ numbered_from (suc n) xs

-- the network with each channel named by its number alone
abbrev pub numbered : Net → Net
numbered net = record { name = net.name; procs = net.procs; chans = numbered_from 0 net.chans }
