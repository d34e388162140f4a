-- The channels of a module by their ports, and what a channel that takes words is.
use Rattle.std.proofs.Common.{◌≡◌, ◌<◌, ◌+◌, ◌-◌, ◌*◌, ◌/◌, ℕ, zero, suc, Bool, true, false, List, [], ◌∷◌, length, drop, get_or, Some, None, Option, refl, sym, ap, ◌∙◌, subst, arith}
use Rattle.std.specs.Prelude.{slice_get, ◌&&◌, ◌==◌}
use Rattle.std.specs.List.{list_all}
use Rattle.std.proofs.lemmas.List.{length-drop}
use Rattle.std.proofs.lemmas.Option.{slice_get-get_or}
use Rattle.xb_bits.specs.Word.{Word}
use Rattle.vlog_tree.specs.declared.module.Direction.{Direction}
use Rattle.vlog_tree.specs.declared.module.Direction.TheVariants.{Input, Output}
use Rattle.vlog_tree.specs.declared.module.Port.{Port}
use Rattle.vlog_tree.specs.declared.module.VModule.{VModule}
use Rattle.vlog_tree.specs.Signals.{Channel, channel_of, channels_at, channels_of}
use Rattle.cycle_sim.specs.Rows.Said.{directed, is_direction}
use Rattle.xls_gen.specs.Feed.Feeding.{takes_words}
use Rattle.xls_gen.proofs.OnEvents.Adding.{same_by_test}

-- ---- three ports for each channel

channels_count : (ports : List Port) → length (channels_at ports) ≡ length ports / 3
channels_count [] = omega arith
channels_count (d ∷ []) = omega arith
channels_count (d ∷ v ∷ []) = omega arith
channels_count (d ∷ v ∷ r ∷ ports) = omega (arith, channels_count ports)

pub count_of : (m : VModule) (n : ℕ) → n ≡ length m.ports - 2 → n / 3 ≡ length (channels_of m)
count_of m n e = omega (arith, e, channels_count (drop 2 m.ports), length-drop 2 m.ports)

-- the ports of a channel are there
pub ports_there : (m : VModule) (k : ℕ) → k < length (channels_of m) → 2 + 3 * k + 2 < length m.ports
ports_there m k h = omega (arith, h, channels_count (drop 2 m.ports), length-drop 2 m.ports)

behind_two : {A : Type 0} (xs : List A) (n : ℕ) → slice_get (drop 2 xs) n ≡ slice_get xs (suc (suc n))
behind_two [] n = refl
behind_two (x ∷ []) n = refl
behind_two (x ∷ y ∷ xs) n = refl

three_more : (k : ℕ) → 3 * suc k ≡ suc (suc (suc (3 * k)))
three_more k = omega arith

channel_at : (ports : List Port) (k : ℕ) (p : Port) → slice_get ports (3 * k) ≡ Some p → k < length (channels_at ports) → slice_get (channels_at ports) k ≡ Some (channel_of p)
channel_at [] k p e h = absurd (omega (arith, h))
channel_at (d ∷ []) k p e h = absurd (omega (arith, h))
channel_at (d ∷ v ∷ []) k p e h = absurd (omega (arith, h))
channel_at (d ∷ v ∷ r ∷ ports) zero p e h =
    let at : slice_get (d ∷ v ∷ r ∷ ports) 0 ≡ Some p = subst (λ n. slice_get (d ∷ v ∷ r ∷ ports) n ≡ Some p) none e in
    let same : d ≡ p = cc in
    ap (λ q. Some (channel_of q)) same
  where
    none : 3 * zero ≡ 0
    none = omega arith
channel_at (d ∷ v ∷ r ∷ ports) (suc k) p e h =
    channel_at ports k p (subst (λ n. slice_get (d ∷ v ∷ r ∷ ports) n ≡ Some p) (three_more k) e) (omega (arith, h))

-- the channel whose data port was read
pub channel_read : (m : VModule) (k : ℕ) (p : Port) → k < length (channels_of m) → p ≡ get_or m.ports (2 + 3 * k) p → slice_get (channels_of m) k ≡ Some (channel_of p)
channel_read m k p h read = channel_at (drop 2 m.ports) k p (behind_two m.ports (3 * k) ∙ ap (slice_get m.ports) place ∙ there) h
  where
    place : suc (suc (3 * k)) ≡ 2 + 3 * k
    place = omega arith

    there : slice_get m.ports (2 + 3 * k) ≡ Some p
    there = slice_get-get_or m.ports (2 + 3 * k) p (omega (arith, ports_there m k h)) ∙ ap Some (sym read)

-- ---- a channel that takes words

pub and_both : (a b : Bool) → a && b ≡ true → (a ≡ true) × (b ≡ true)
and_both true b h = (refl, h)
and_both false b h = cc

goes_so : (want have : Direction) → is_direction want have ≡ true → have ≡ want
goes_so Input Input h = refl
goes_so Input Output h = cc
goes_so Output Input h = cc
goes_so Output Output h = refl

all_wide : (width : ℕ) (words : List Word) → list_all (λ (w : Word). w.width == width) words ≡ true → (i : ℕ) (w : Word) → slice_get words i ≡ Some w → w.width ≡ width
all_wide width [] h i w e = cc
all_wide width (x ∷ words) h zero w e =
    let same : x ≡ w = cc in
    ap (λ (v : Word). v.width) (sym same) ∙ same_by_test x.width width (and_both _ _ h).0
all_wide width (x ∷ words) h (suc i) w e = all_wide width words (and_both _ _ h).1 i w e

-- an input that takes these words
pub record TakesWords (channels : List Channel) (input : ℕ) (words : List Word) : Type 0 where
  pub channel : Channel
  pub there : slice_get channels input ≡ Some channel
  pub goes_in : channel.direction ≡ Input
  pub wide : (i : ℕ) (w : Word) → slice_get words i ≡ Some w → w.width ≡ channel.width

pub takes : (channels : List Channel) (input : ℕ) (words : List Word) → takes_words (slice_get channels input) words ≡ true → TakesWords channels input words
takes channels input words h = go (slice_get channels input) refl h
  where
    go : (o : Option Channel) → slice_get channels input ≡ o → takes_words o words ≡ true → TakesWords channels input words
    go None e k = cc
    go (Some channel) e k =
        let both = and_both _ _ k in
        record { channel = channel; there = e; goes_in = goes_so Input channel.direction both.0; wide = all_wide channel.width words both.1 }

-- an output
pub gives : (channels : List Channel) (output : ℕ) → directed Output (slice_get channels output) ≡ true → (channel : Channel) × (slice_get channels output ≡ Some channel) × (channel.direction ≡ Output)
gives channels output h = go (slice_get channels output) refl h
  where
    go : (o : Option Channel) → slice_get channels output ≡ o → directed Output o ≡ true → (channel : Channel) × (slice_get channels output ≡ Some channel) × (channel.direction ≡ Output)
    go None e k = cc
    go (Some channel) e k = (channel, e, goes_so Output channel.direction k)
