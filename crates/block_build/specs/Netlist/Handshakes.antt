-- The wires of a stage's sites: which of them are asserted in a cycle, which go, and whether the stage stalls.
use Rattle.std.specs.Prelude.{ℕ, suc, List, [], ◌∷◌}
use Rattle.vlog_tree.specs.declared.expression.Atom.{Atom}
use Rattle.vlog_tree.specs.Value.{Values}
use Rattle.block_build.specs.Netlist.Wires.{Wire, AreWired}
use Rattle.block_build.specs.Netlist.Gates.{net, not_gate, and_gate, or_gate}

-- a site: the signals that say whether it is on, whether it is done, and whether its partner is there, with a word or with
-- room; the number of its first wire; and that of the first of the wires by which its done bit goes on
pub record SiteNets : Type 0 where
  pub on : Atom
  pub done : Atom
  pub partner : Atom
  pub first : ℕ
  pub next : ℕ

-- its wires, numbered from k on, where `ready` says that the stage holds an activation which stalls at no earlier site: the
-- site isn't done; it is on and not done; it is asserted; it goes; nothing is to be done; it isn't stalled at; and the stage
-- stalls at no site so far
abbrev pub site_wires : ℕ → Atom → SiteNets → List Wire
site_wires k ready site =
    not_gate site.done
    ∷ and_gate site.on (net k)
    ∷ and_gate ready (net (suc k))
    ∷ and_gate (net (suc (suc k))) site.partner
    ∷ not_gate (net (suc k))
    ∷ or_gate (net (suc (suc (suc (suc k))))) (net (suc (suc (suc k))))
    ∷ and_gate ready (net (suc (suc (suc (suc (suc k))))))
    ∷ []

abbrev pub assert_net : SiteNets → ℕ
assert_net site = suc (suc site.first)

abbrev pub go_net : SiteNets → ℕ
go_net site = suc (suc (suc site.first))

abbrev pub ready_net : SiteNets → ℕ
ready_net site = suc (suc (suc (suc (suc (suc site.first)))))

-- the sites of a stage, in their order
abbrev pub AreSites : Values → Atom → List SiteNets → Type 0
AreSites v ready [] = Unit {0}
AreSites v ready (site ∷ sites) = AreWired v site.first (site_wires site.first ready site) × AreSites v (net (ready_net site)) sites

-- and what says that the stage stalls at none of them
abbrev pub chain_ready : Atom → List SiteNets → Atom
chain_ready ready [] = ready
chain_ready ready (site ∷ sites) = chain_ready (net (ready_net site)) sites
