-- The wires of sites that are put one behind another.
use Rattle.std.specs.Prelude.{ℕ, suc, ◌+◌, List, [], ◌∷◌}
use Rattle.block_build.specs.declared.netlist.sites.Handshake.{Handshake}
use Rattle.block_build.specs.declared.netlist.sites.Site.{Site}
use Rattle.block_build.specs.Netlist.Gates.{net}
use Rattle.block_build.specs.Netlist.Handshakes.{SiteNets}

-- the signals of a site, where its wires stand from one on, and those by which its done bit goes on from another
abbrev pub site_nets : Site → ℕ → ℕ → SiteNets
site_nets site k next = record { on = site.on; done = site.done; partner = site.partner; first = k; next = next }

-- the signals of a handshake whose wires stand from one on
abbrev pub handshake_at : ℕ → Handshake
handshake_at k = record { asserted = net (suc (suc k)); goes = net (suc (suc (suc k))); ready = net (suc (suc (suc (suc (suc (suc k)))))) }

-- those of sites from an index on, one behind another: each has seven wires
abbrev pub nets_from : ℕ → (ℕ → ℕ) → ℕ → List Site → List SiteNets
nets_from k next i [] = []
nets_from k next i (site ∷ sites) = site_nets site k (next i) ∷ nets_from (k + 7) next (suc i) sites

abbrev pub handshakes_from : ℕ → List Site → List Handshake
handshakes_from k [] = []
handshakes_from k (site ∷ sites) = handshake_at k ∷ handshakes_from (k + 7) sites
