-- What a simulator shows at a channel, by the numbers of its ports.
use Rattle.std.proofs.Common.{◌≡◌, ℕ, zero, suc, ◌+◌, ◌*◌, ◌<◌, ◌≤◌, List, [], ◌∷◌, length, drop, refl, sym, ap, ◌∙◌, subst, Some, arith}
use Rattle.std.specs.Prelude.{slice_get}
use Rattle.vlog_tree.specs.declared.module.Port.{Port}
use Rattle.xb_bits.specs.Word.{Word}
use Rattle.vlog_tree.specs.declared.module.VModule.{VModule}
use Rattle.vlog_tree.specs.Settled.{values_of}
use Rattle.cycle_sim.specs.Sim.{IsRunning}
use Rattle.cycle_sim.proofs.Cycling.{length-signals}
use Rattle.vlog_tree.specs.Signals.{channels_at, channels_of}
use Rattle.vlog_tree.specs.Value.{Values}
use Rattle.vlog_tree.specs.WellFormed.{AreChannelPorts}
use Rattle.vlog_tree.specs.Rows.{shown_at, shown_channel}

-- a channel's data port, and what is shown there
pub channel_shown : (values : Values) (ports : List Port) (at k : ℕ) (p : Port) → AreChannelPorts ports → slice_get ports (3 * k) ≡ Some p → k < length (channels_at ports)
    → slice_get (shown_at values at (channels_at ports)) k ≡ Some (shown_channel values (at + 3 * k) p.direction)
channel_shown values [] at k p shape there inside = absurd (omega arith)
channel_shown values (d ∷ []) at k p shape there inside = absurd shape
channel_shown values (d ∷ v ∷ []) at k p shape there inside = absurd shape
channel_shown values (d ∷ v ∷ r ∷ rest) at zero p shape there inside =
    let same : d ≡ p = cc in
    let place : at + 3 * 0 ≡ at = omega arith in
    rw (place, same) refl
channel_shown values (d ∷ v ∷ r ∷ rest) at (suc k) p shape there inside =
    let place : 3 * suc k ≡ suc (suc (suc (3 * k))) = omega arith in
    let later : slice_get rest (3 * k) ≡ Some p = rw place at there in
    let further : at + 3 * suc k ≡ at + 3 + 3 * k = omega arith in
    rw further (channel_shown values rest (at + 3) k p shape.4 later (omega (arith, inside)))

-- there are three ports for each channel
pub three_ports : (ports : List Port) → AreChannelPorts ports → length ports ≡ 3 * length (channels_at ports)
three_ports [] shape = refl
three_ports (d ∷ []) shape = absurd shape
three_ports (d ∷ v ∷ []) shape = absurd shape
three_ports (d ∷ v ∷ r ∷ rest) shape = let others = three_ports rest shape.4 in omega arith

-- where the ports of a channel stand, and what is shown there
pub record HasPort (m : VModule) (words : List Word) (channel : ℕ) : Type 0 where
  pub in_ports : 2 + 3 * channel < length m.ports
  pub in_words : 2 + 3 * channel + 2 < length words
  pub shows : (p : Port) → slice_get m.ports (2 + 3 * channel) ≡ Some p
      → slice_get (shown_at (values_of words) 2 (channels_of m)) channel ≡ Some (shown_channel (values_of words) (2 + 3 * channel) p.direction)

pub has_port : (m : VModule) (indices : List ℕ) (words before : List Word) (channel : ℕ) → IsRunning m indices words before → channel < length (channels_of m) → HasPort m words channel
has_port m indices words before channel running inside = record { in_ports = omega (arith, three, known, ports_size); in_words = omega (arith, three, known, ports_size, fits); shows = shows }
  where
    same_channels : channels_of m ≡ channels_at running.wired.ports.channels
    same_channels = ap (λ ports. channels_at (drop 2 ports)) running.wired.ports.are

    known : channel < length (channels_at running.wired.ports.channels)
    known = rw (← same_channels) inside

    three : length running.wired.ports.channels ≡ 3 * length (channels_at running.wired.ports.channels)
    three = three_ports running.wired.ports.channels running.wired.ports.rest

    ports_size : length m.ports ≡ 2 + length running.wired.ports.channels
    ports_size = let e = ap length running.wired.ports.are in omega arith

    fits : length m.ports ≤ length words
    fits = let e = length-signals m in let f = running.covers in omega arith

    shows : (p : Port) → slice_get m.ports (2 + 3 * channel) ≡ Some p
        → slice_get (shown_at (values_of words) 2 (channels_of m)) channel ≡ Some (shown_channel (values_of words) (2 + 3 * channel) p.direction)
    shows p there =
        let place : 2 + 3 * channel ≡ suc (suc (3 * channel)) = omega arith in
        let at : slice_get running.wired.ports.channels (3 * channel) ≡ Some p =
        ap (λ ports. slice_get ports (suc (suc (3 * channel)))) (sym running.wired.ports.are) ∙ ap (slice_get m.ports) (sym place) ∙ there in
        rw same_channels (channel_shown (values_of words) running.wired.ports.channels 2 channel p running.wired.ports.rest at known)
