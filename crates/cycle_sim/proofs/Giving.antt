-- What the outside gives to the ports stands there, and nothing else changes.
use Rattle.std.proofs.Common.{◌≡◌, ◌≢◌, ℕ, zero, suc, ◌+◌, ◌*◌, ◌<◌, ◌≤◌, List, [], ◌∷◌, length, length-set, add-zero, refl, sym, ap, ◌∙◌, subst, Option, Some, None, arith}
use Rattle.std.specs.Prelude.{slice_get, slice_set, true, false}
use Rattle.xb_bits.specs.Word.{Word, word}
use Rattle.vlog_tree.specs.declared.module.Port.{Port}
use Rattle.vlog_tree.specs.declared.module.Direction.{Direction}
use Rattle.vlog_tree.specs.declared.module.Direction.TheVariants.{Input, Output}
use Rattle.vlog_tree.specs.declared.row.Drive.{Drive}
use Rattle.vlog_tree.specs.declared.row.Drive.TheVariants.{Offer, Ready}
use Rattle.vlog_tree.specs.Signals.{Channel, channel_of, channels_at}
use Rattle.vlog_tree.specs.Value.{bit}
use Rattle.vlog_tree.specs.Settled.{values_of, widths_of}
use Rattle.vlog_tree.specs.WellFormed.{AreChannelPorts}
use Rattle.vlog_tree.specs.Rows.{given_at, data_given, valid_given, ready_given, IsDriveOf, AreDrivesOf}
use Rattle.vlog_tree.proofs.Lemmas.Settling.{values_of-set_same, values_of-set_other}
use Rattle.cycle_sim.specs.Stored.{driven, all_driven}

pub length-driven : (at : ℕ) (drive : Drive) (words : List Word) → length (driven at drive words) ≡ length words
length-driven at (Offer (Some w)) words = length-set (slice_set words at w) (at + 1) (bit true) ∙ length-set words at w
length-driven at (Offer None) words =
    length-set (slice_set words at (word (values_of words at).width 0)) (at + 1) (bit false) ∙ length-set words at (word (values_of words at).width 0)
length-driven at (Ready ready) words = length-set words (at + 2) (bit ready)

pub length-all_driven : (at : ℕ) (drives : List Drive) (words : List Word) → length (all_driven at drives words) ≡ length words
length-all_driven at [] words = refl
length-all_driven at (drive ∷ drives) words = length-all_driven (at + 3) drives (driven at drive words) ∙ length-driven at drive words

-- driving a channel changes its three ports at most
pub driven_elsewhere : (at s : ℕ) (drive : Drive) (words : List Word) → s ≢ at → s ≢ at + 1 → s ≢ at + 2 → values_of (driven at drive words) s ≡ values_of words s
driven_elsewhere at s (Offer (Some w)) words a b c = values_of-set_other (slice_set words at w) (at + 1) s (bit true) b ∙ values_of-set_other words at s w a
driven_elsewhere at s (Offer None) words a b c =
    values_of-set_other (slice_set words at (word (values_of words at).width 0)) (at + 1) s (bit false) b ∙ values_of-set_other words at s (word (values_of words at).width 0) a
driven_elsewhere at s (Ready ready) words a b c = values_of-set_other words (at + 2) s (bit ready) c

pub all_driven_below : (at s : ℕ) (drives : List Drive) (words : List Word) → s < at → values_of (all_driven at drives words) s ≡ values_of words s
all_driven_below at s [] words h = refl
all_driven_below at s (drive ∷ drives) words h =
    all_driven_below (at + 3) s drives (driven at drive words) (omega (arith, h))
    ∙ driven_elsewhere at s drive words (omega (arith, h)) (omega (arith, h)) (omega (arith, h))

pub all_driven_above : (at s : ℕ) (drives : List Drive) (words : List Word) → at + 3 * length drives ≤ s → values_of (all_driven at drives words) s ≡ values_of words s
all_driven_above at s [] words h = refl
all_driven_above at s (drive ∷ drives) words h =
    all_driven_above (at + 3) s drives (driven at drive words) (omega (arith, h))
    ∙ driven_elsewhere at s drive words (omega (arith, h)) (omega (arith, h)) (omega (arith, h))

-- an input's `data` and `vld`, and an output's `rdy`, are what the outside drives there
pub data_driven : (channel : Channel) (at : ℕ) (drive : Drive) (words : List Word) → IsDriveOf channel drive → channel.direction ≡ Input
    → at < length words → (values_of words at).width ≡ channel.width → values_of (driven at drive words) at ≡ data_given channel.width drive
data_driven channel at (Offer (Some w)) words by input inside wide =
    values_of-set_other (slice_set words at w) (at + 1) at (bit true) (omega arith) ∙ values_of-set_same words at w inside
data_driven channel at (Offer None) words by input inside wide =
    let zero_word : Word = word (values_of words at).width 0 in
    values_of-set_other (slice_set words at zero_word) (at + 1) at (bit false) (omega arith) ∙ values_of-set_same words at zero_word inside ∙ ap (λ n. word n 0) wide
data_driven channel at (Ready ready) words by input inside wide = let e : Output ≡ Input = sym by ∙ input in cc

pub valid_driven : (channel : Channel) (at : ℕ) (drive : Drive) (words : List Word) → IsDriveOf channel drive → channel.direction ≡ Input
    → at + 1 < length words → values_of (driven at drive words) (at + 1) ≡ valid_given drive
valid_driven channel at (Offer (Some w)) words by input inside =
    values_of-set_same (slice_set words at w) (at + 1) (bit true) (rw (length-set words at w) inside)
valid_driven channel at (Offer None) words by input inside =
    let zero_word : Word = word (values_of words at).width 0 in
    values_of-set_same (slice_set words at zero_word) (at + 1) (bit false) (rw (length-set words at zero_word) inside)
valid_driven channel at (Ready ready) words by input inside = let e : Output ≡ Input = sym by ∙ input in cc

pub ready_driven : (channel : Channel) (at : ℕ) (drive : Drive) (words : List Word) → IsDriveOf channel drive → channel.direction ≢ Input
    → at + 2 < length words → values_of (driven at drive words) (at + 2) ≡ ready_given drive
ready_driven channel at (Offer (Some w)) words by output inside = absurd (output by.0)
ready_driven channel at (Offer None) words by output inside = absurd (output by)
ready_driven channel at (Ready ready) words by output inside = values_of-set_same words (at + 2) (bit ready) inside

-- each port in the outside's hands has what the outside gives there
pub gives : (ports : List Port) (drives : List Drive) (at : ℕ) (words : List Word) → AreChannelPorts ports → AreDrivesOf (channels_at ports) drives
    → at + length ports ≤ length words
    → ((k : ℕ) (p : Port) → slice_get ports k ≡ Some p → (values_of words (at + k)).width ≡ p.width)
    → (k s : ℕ) (p : Port) → s ≡ at + k → slice_get ports k ≡ Some p → p.direction ≡ Input
    → values_of (all_driven at drives words) s ≡ given_at (channels_at ports) drives k
gives [] drives at words shape by room widths k s p place there input = cc
gives (d ∷ []) drives at words shape by room widths k s p place there input = absurd shape
gives (d ∷ v ∷ []) drives at words shape by room widths k s p place there input = absurd shape
gives (d ∷ v ∷ r ∷ rest) [] at words shape by room widths k s p place there input = absurd by
gives (d ∷ v ∷ r ∷ rest) (drive ∷ drives) at words shape by room widths zero s p place there input =
    let is_d : d ≡ p = cc in
    let here : s ≡ at = omega (arith, place) in
    let wide : (values_of words at).width ≡ d.width = rw add-zero at (widths 0 d refl) in
    all_driven_below (at + 3) s drives (driven at drive words) (omega (arith, place))
    ∙ ap (values_of (driven at drive words)) here
    ∙ data_driven (channel_of d) at drive words by.0 (ap (λ x. x.direction) is_d ∙ input) (omega (arith, room)) wide
gives (d ∷ v ∷ r ∷ rest) (drive ∷ drives) at words shape by room widths (suc zero) s p place there input =
    let is_v : v ≡ p = cc in
    all_driven_below (at + 3) s drives (driven at drive words) (omega (arith, place))
    ∙ ap (values_of (driven at drive words)) place
    ∙ valid_driven (channel_of d) at drive words by.0 (sym shape.0 ∙ ap (λ x. x.direction) is_v ∙ input) (omega (arith, room))
gives (d ∷ v ∷ r ∷ rest) (drive ∷ drives) at words shape by room widths (suc (suc zero)) s p place there input =
    let is_r : r ≡ p = cc in
    all_driven_below (at + 3) s drives (driven at drive words) (omega (arith, place))
    ∙ ap (values_of (driven at drive words)) place
    ∙ ready_driven (channel_of d) at drive words by.0 (λ e. shape.1 (ap (λ x. x.direction) is_r ∙ input ∙ sym e)) (omega (arith, room))
gives (d ∷ v ∷ r ∷ rest) (drive ∷ drives) at words shape by room widths (suc (suc (suc k))) s p place there input =
    gives rest drives (at + 3) (driven at drive words) shape.4 by.1 (rw (length-driven at drive words) (omega (arith, room))) later k s p (omega (arith, place)) there input
  where
    later : (j : ℕ) (q : Port) → slice_get rest j ≡ Some q → (values_of (driven at drive words) (at + 3 + j)).width ≡ q.width
    later j q h =
        let place_of : at + 3 + j ≡ at + suc (suc (suc j)) = omega arith in
        ap (λ x. x.width) (driven_elsewhere at (at + 3 + j) drive words (omega arith) (omega arith) (omega arith))
        ∙ ap (λ k. (values_of words k).width) place_of ∙ widths (suc (suc (suc j))) q h
