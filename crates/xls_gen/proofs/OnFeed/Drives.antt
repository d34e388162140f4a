-- What the outside does at the channels of a module that is fed.
use Rattle.std.proofs.Common.{◌≡◌, ◌≢◌, ◌<◌, ◌+◌, ℕ, suc, Bool, true, false, cond, eqb, List, [], ◌∷◌, ◌++◌, length, map, take, Some, None, Option, refl, sym, ap, ◌∙◌, arith, inl, inr}
use Rattle.std.specs.Prelude.{slice_get, slice_set, option_map, ◌⊎◌}
use Rattle.std.specs.List.{AllByRecursion}
use Rattle.std.proofs.lemmas.Bool.{cases_eq}
use Rattle.std.proofs.lemmas.List.{map_more}
use Rattle.std.proofs.lemmas.Option.{get_or_from_slice_get, slice_get_within}
use Rattle.base.specs.Lists.Indexed.{indexed}
use Rattle.base.proofs.Lemmas.Lists.Indexed.{indexed_get, length-indexed}
use Rattle.base.proofs.Lemmas.Lists.Indices.{same_by_get, slice_get-set, slice_get-set_other}
use Rattle.xb_bits.specs.Word.{Word}
use Rattle.vlog_tree.specs.declared.module.Direction.{Direction}
use Rattle.vlog_tree.specs.declared.module.Direction.TheVariants.{Input, Output}
use Rattle.vlog_tree.specs.declared.module.VModule.{VModule}
use Rattle.vlog_tree.specs.declared.row.Drive.{Drive}
use Rattle.vlog_tree.specs.declared.row.Drive.TheVariants.{Offer, Ready}
use Rattle.vlog_tree.specs.declared.row.Row.{Row}
use Rattle.vlog_tree.specs.Rows.{AreDrivesOf, IsDriveOf, IsRowOf}
use Rattle.vlog_tree.specs.Signals.{Channel, channels_of}
use Rattle.xls_gen.specs.Feed.Feeding.{OffersAmong, feeding_drive, feeding_drives, feeding_row, takes_words}
use Rattle.xls_gen.specs.Feed.Inner.Standing.{idle_drive}
use Rattle.xls_gen.proofs.OnEvents.Adding.{eqb_differs, eqb_same, same_by_test}
use Rattle.xls_gen.proofs.OnFeed.Channels.{TakesWords, takes}

itself : (i : ℕ) → i ≡ i + 0
itself i = omega arith

behind : (i k : ℕ) → i + suc k ≡ suc i + k
behind i k = omega arith

from_none : (k : ℕ) → k ≡ 0 + k
from_none k = omega arith

-- ---- each drives its channel

drive_fits : (input : ℕ) (offered : Option Word) (c : ℕ) (channel : Channel) → (c ≡ input → (w : Word) → offered ≡ Some w → w.width ≡ channel.width)
    → IsDriveOf channel (feeding_drive input offered c channel.direction)
drive_fits input offered c channel fits = by_direction channel.direction refl
  where
    offer : (b : Bool) → (b ≡ true → c ≡ input) → channel.direction ≡ Input → (o : Option Word) → offered ≡ o → IsDriveOf channel (Offer (cond b o None))
    offer true same is None e = is
    offer true same is (Some w) e = (is, fits (same refl) w e)
    offer false same is o e = is

    by_direction : (d : Direction) → channel.direction ≡ d → IsDriveOf channel (feeding_drive input offered c d)
    by_direction Output is = is
    by_direction Input is = offer (eqb c input) (same_by_test c input) is offered refl

drives_fit : (input : ℕ) (offered : Option Word) (i : ℕ) (channels : List Channel)
    → ((k : ℕ) (channel : Channel) → slice_get channels k ≡ Some channel → i + k ≡ input → (w : Word) → offered ≡ Some w → w.width ≡ channel.width)
    → AreDrivesOf channels (indexed (λ (c : ℕ) (channel : Channel). feeding_drive input offered c channel.direction) i channels)
drives_fit input offered i [] fits = tt
drives_fit input offered i (channel ∷ channels) fits = (
  drive_fits input offered i channel (λ same. fits 0 channel refl (sym (itself i) ∙ same)),
  drives_fit input offered (suc i) channels (λ k other there same. fits (suc k) other there (behind i k ∙ same)),
)

pub row_fits : (m : VModule) (input : ℕ) (words : List Word) → takes_words (slice_get (channels_of m) input) words ≡ true → (reset : Bool) (taken : ℕ)
    → IsRowOf m (feeding_row m input reset (slice_get words taken))
row_fits m input words fits reset taken =
    let known = takes (channels_of m) input words fits in
    drives_fit input (slice_get words taken) 0 (channels_of m)
    (λ k channel there same w e.
    let place : slice_get (channels_of m) k ≡ slice_get (channels_of m) input = ap (slice_get (channels_of m)) (from_none k ∙ same) in
    let found : slice_get (channels_of m) input ≡ Some known.channel = known.there in
    let one : channel ≡ known.channel = cc in
    known.wide taken w e ∙ ap (λ (x : Channel). x.width) (sym one))

-- ---- each offers a word of the list

drive_among : (input : ℕ) (words : List Word) (taken : ℕ) (c : ℕ) (d : Direction) → OffersAmong words (feeding_drive input (slice_get words taken) c d)
drive_among input words taken c Output = tt
drive_among input words taken c Input = offer (eqb c input) (slice_get words taken) refl
  where
    offer : (b : Bool) (o : Option Word) → slice_get words taken ≡ o → OffersAmong words (Offer (cond b o None))
    offer true None e = tt
    offer true (Some w) e = (taken, e)
    offer false o e = tt

pub drives_among : (input : ℕ) (words : List Word) (taken i : ℕ) (channels : List Channel)
    → AllByRecursion (OffersAmong words) (indexed (λ (c : ℕ) (channel : Channel). feeding_drive input (slice_get words taken) c channel.direction) i channels)
drives_among input words taken i [] = tt
drives_among input words taken i (channel ∷ channels) = (drive_among input words taken i channel.direction, drives_among input words taken (suc i) channels)

-- ---- where nothing is offered

idle_feeds : (input c : ℕ) (d : Direction) → idle_drive d ≡ feeding_drive input None c d
idle_feeds input c Output = refl
idle_feeds input c Input = go (eqb c input)
  where
    go : (b : Bool) → Offer None ≡ Offer (cond b None None)
    go true = refl
    go false = refl

pub idle_drives_feed : (input i : ℕ) (channels : List Channel)
    → map (λ (c : Channel). idle_drive c.direction) channels ≡ indexed (λ (c : ℕ) (channel : Channel). feeding_drive input None c channel.direction) i channels
idle_drives_feed input i [] = refl
idle_drives_feed input i (channel ∷ channels) =
    ap (λ ds. idle_drive channel.direction ∷ ds) (idle_drives_feed input (suc i) channels)
    ∙ ap (λ d. d ∷ indexed (λ (c : ℕ) (channel : Channel). feeding_drive input None c channel.direction) (suc i) channels) (idle_feeds input i channel.direction)

-- ---- at one channel

pub drive_at : (input : ℕ) (offered : Option Word) (channels : List Channel) (k : ℕ)
    → slice_get (feeding_drives input offered channels) k ≡ option_map (λ (c : Channel). feeding_drive input offered k c.direction) (slice_get channels k)
drive_at input offered channels k = indexed_get (λ (c : ℕ) (channel : Channel). feeding_drive input offered c channel.direction) 0 k k channels (from_none k)

pub drive_in : (input : ℕ) (offered : Option Word) (channels : List Channel) (channel : Channel) → slice_get channels input ≡ Some channel → channel.direction ≡ Input
    → slice_get (feeding_drives input offered channels) input ≡ Some (Offer offered)
drive_in input offered channels channel there goes_in =
    drive_at input offered channels input
    ∙ ap (option_map (λ (c : Channel). feeding_drive input offered input c.direction)) there
    ∙ ap (λ d. Some (feeding_drive input offered input d)) goes_in
    ∙ ap (λ b. Some (Offer (cond b offered None))) (eqb_same input input refl)

pub drive_out : (input : ℕ) (offered : Option Word) (channels : List Channel) (output : ℕ) (channel : Channel) → slice_get channels output ≡ Some channel → channel.direction ≡ Output
    → slice_get (feeding_drives input offered channels) output ≡ Some (Ready true)
drive_out input offered channels output channel there goes_out =
    drive_at input offered channels output
    ∙ ap (option_map (λ (c : Channel). feeding_drive input offered output c.direction)) there
    ∙ ap (λ d. Some (feeding_drive input offered output d)) goes_out

-- another word at the input
pub set_offer : (channels : List Channel) (input : ℕ) (old new : Option Word) (channel : Channel) → slice_get channels input ≡ Some channel → channel.direction ≡ Input
    → slice_set (feeding_drives input old channels) input (Offer new) ≡ feeding_drives input new channels
set_offer channels input old new channel there goes_in = same_by_get _ _ (λ k. by_place k (cases_eq k input))
  where
    elsewhere : (k : ℕ) → k ≢ input → (d : Direction) → feeding_drive input old k d ≡ feeding_drive input new k d
    elsewhere k differs Output = refl
    elsewhere k differs Input = ap (λ b. Offer (cond b old None)) (eqb_differs k input differs) ∙ sym (ap (λ b. Offer (cond b new None)) (eqb_differs k input differs))

    mapped : (k : ℕ) → k ≢ input → (o : Option Channel)
        → option_map (λ (c : Channel). feeding_drive input old k c.direction) o ≡ option_map (λ (c : Channel). feeding_drive input new k c.direction) o
    mapped k differs None = refl
    mapped k differs (Some c) = ap Some (elsewhere k differs c.direction)

    by_place : (k : ℕ) → (k ≡ input) ⊎ (k ≡ input → ⊥) → slice_get (slice_set (feeding_drives input old channels) input (Offer new)) k ≡ slice_get (feeding_drives input new channels) k
    by_place k (inl same) =
        ap (slice_get (slice_set (feeding_drives input old channels) input (Offer new))) same
        ∙ slice_get-set (feeding_drives input old channels) input (Offer old) (Offer new) (drive_in input old channels channel there goes_in)
        ∙ sym (drive_in input new channels channel there goes_in)
        ∙ ap (slice_get (feeding_drives input new channels)) (sym same)
    by_place k (inr differs) =
        slice_get-set_other (feeding_drives input old channels) input k (Offer new) differs
        ∙ drive_at input old channels k
        ∙ mapped k differs (slice_get channels k)
        ∙ sym (drive_at input new channels k)

pub drives_count : (input : ℕ) (offered : Option Word) (channels : List Channel) → length (feeding_drives input offered channels) ≡ length channels
drives_count input offered channels = length-indexed (λ (c : ℕ) (channel : Channel). feeding_drive input offered c channel.direction) 0 channels

-- the row in which the next word is offered
pub driven : (m : VModule) (input : ℕ) (words : List Word) (taken : ℕ) (reset : Bool) (old new : Row) (before offered : Option Word) → takes_words (slice_get (channels_of m) input) words ≡ true
    → old.channels ≡ feeding_drives input before (channels_of m) → offered ≡ slice_get words taken → new.reset ≡ reset → new.channels ≡ slice_set old.channels input (Offer offered)
    → new ≡ feeding_row m input reset (slice_get words taken)
driven m input words taken reset old new before offered fits was is resets set = λ i. record { reset = resets i; channels = channels i }
  where
    known : TakesWords (channels_of m) input words
    known = takes (channels_of m) input words fits

    channels : new.channels ≡ feeding_drives input (slice_get words taken) (channels_of m)
    channels =
        set
        ∙ ap (λ ds. slice_set ds input (Offer offered)) was
        ∙ set_offer (channels_of m) input before offered known.channel known.there known.goes_in
        ∙ ap (λ o. feeding_drives input o (channels_of m)) is

-- the drive of the input is there
pub drive_there : (m : VModule) (input : ℕ) (words : List Word) (drives : List Drive) (offered : Option Word) → takes_words (slice_get (channels_of m) input) words ≡ true
    → drives ≡ feeding_drives input offered (channels_of m) → input < length drives
drive_there m input words drives offered fits e =
    let known = takes (channels_of m) input words fits in
    omega (arith, slice_get_within (channels_of m) input known.channel known.there, ap length e, drives_count input offered (channels_of m))

-- ---- one channel after another

pub idle_more : (channels : List Channel) (k : ℕ) (channel : Channel) (before after : List Drive) (drive : Drive) → slice_get channels k ≡ Some channel
    → before ≡ map (λ (c : Channel). idle_drive c.direction) (take k channels) → after ≡ before ++ drive ∷ [] → drive ≡ idle_drive channel.direction
    → after ≡ map (λ (c : Channel). idle_drive c.direction) (take (k + 1) channels)
idle_more channels k channel before after drive there so_far put is =
    put
    ∙ ap (λ ds. ds ++ drive ∷ []) so_far
    ∙ ap (λ d. map (λ (c : Channel). idle_drive c.direction) (take k channels) ++ d ∷ []) (is ∙ ap (λ (c : Channel). idle_drive c.direction) (sym (get_or_from_slice_get channels k channel channel there)))
    ∙ sym (map_more (λ (c : Channel). idle_drive c.direction) channels k channel (slice_get_within channels k channel there))
