-- What a verifier asks of wires: that each reads smaller numbers alone, and that widths fit.
use Rattle.std.specs.Prelude.{◌≡◌, ℕ, suc, ◌<◌, ◌≤◌, ◌^◌, true, List, [], ◌∷◌}
use Rattle.std.specs.List.{AllByRecursion}
use Rattle.vlog_tree.specs.declared.expression.Atom.{Atom}
use Rattle.vlog_tree.specs.Forms.{Widths, atom_width, atom_reads, fits, literals}
use Rattle.vlog_tree.specs.Value.{Values}
use Rattle.block_build.specs.Netlist.Wires.{Wire, ReadEarlier}
use Rattle.block_build.specs.Netlist.Handshakes.{SiteNets}

-- a literal, or a signal with a smaller number
abbrev pub IsBelow : ℕ → Atom → Type 0
IsBelow n a = AllByRecursion (λ s. s < n) (atom_reads a)

abbrev pub IsBit : Widths → Atom → Type 0
IsBit widths a = atom_width widths a ≡ 1

-- wires with the numbers from n on have these widths
abbrev pub AreSized : Widths → ℕ → List Wire → Type 0
AreSized widths n [] = Unit {0}
AreSized widths n (wire ∷ wires) = (widths n ≡ wire.width) × AreSized widths (suc n) wires

-- and each may be driven by what drives it
abbrev pub WidthsFit : Widths → List Wire → Type 0
WidthsFit widths wires = AllByRecursion (λ (wire : Wire). fits widths wire.width wire.driver ≡ true) wires

-- wires of one bit that read bits alone, each with a smaller number
pub record AreSound (widths : Widths) (n : ℕ) (wires : List Wire) : Type 0 where
  pub order : ReadEarlier n wires
  pub fit : WidthsFit widths wires

-- what a site's wires read
pub record SiteReads (widths : Widths) (n : ℕ) (ready : Atom) (site : SiteNets) : Type 0 where
  pub ready_below : IsBelow n ready
  pub ready_bit : IsBit widths ready
  pub on_below : IsBelow n site.on
  pub on_bit : IsBit widths site.on
  pub done_below : IsBelow n site.done
  pub done_bit : IsBit widths site.done
  pub partner_below : IsBelow n site.partner
  pub partner_bit : IsBit widths site.partner

-- literals are of at most 128 bits
abbrev pub HaveSmallLiterals : List Wire → Type 0
HaveSmallLiterals wires = AllByRecursion (λ (wire : Wire). AllByRecursion (λ w. w ≤ 128) (literals wire.driver)) wires

-- a signal carries a number of its width
abbrev pub CarriesWord : Widths → Values → ℕ → Type 0
CarriesWord widths v s = ((v s).width ≡ widths s) × ((v s).value < 2 ^ widths s)
