-- Which of a proc's sites stand at an end of a channel, and what they ask there.
use Rattle.std.specs.Prelude.{ℕ, Bool, ◌&&◌, ◌==◌, not, List, [], ◌∷◌, if◌then◌else◌}
use Rattle.block_build.specs.declared.netlist.sites.Handshake.{Handshake}
use Rattle.block_build.specs.declared.netlist.sites.Site.{Site}
use Rattle.block_build.specs.Netlist.Ends.{RequestNets}

-- the site stands at this end
abbrev pub is_end : ℕ → Bool → Site → Bool
is_end chan sends site = (site.channel == chan) && (if sends then site.sends else not site.sends)

abbrev pub request_of : Site → Handshake → RequestNets
request_of site handshake = record { ask = handshake.asserted; word = site.own }

-- those of the sites at an end, in their order
abbrev pub requests_at : ℕ → Bool → List Site → List Handshake → List RequestNets
requests_at chan sends [] shaken = []
requests_at chan sends (site ∷ sites) [] = []
requests_at chan sends (site ∷ sites) (handshake ∷ shaken) =
    let rest = requests_at chan sends sites shaken in
    if is_end chan sends site then request_of site handshake ∷ rest else rest
