-- The tests of the conditions of a run.
use Rattle.std.specs.Prelude.{ℕ, ◌^◌, Bool, true, false, ◌&&◌, ◌||◌, not, ◌==◌, nat_lt, List, [], ◌∷◌, length, slice_get, Option, Some, None}
use Rattle.std.specs.List.{list_all}
use Rattle.xb_bits.specs.Word.{Word}
use Rattle.xb_value.specs.declared.ty.Ty.{Ty, out-Ty}
use Rattle.xb_value.specs.declared.ty.Ty.TheOpen.{Ty-F}
use Rattle.xb_value.specs.declared.value.Value.{Value, out-Value}
use Rattle.xb_value.specs.declared.value.Value.TheOpen.{Value-F}
use Rattle.xb_value.specs.Typing.{is_word_of}
use Rattle.std.specs.Str.{bytes_eq}
use Rattle.net_samples.specs.declared.sample.Port.{Port}
use Rattle.net_samples.specs.declared.sample.Sample.{Sample}
use Rattle.net_samples.specs.declared.sample.Step.{Step}
use Rattle.net_samples.specs.declared.sample.Step.TheVariants.{Stay, Count, Flip}
use Rattle.net_core.specs.declared.net.ProcHead.{ProcHead}
use Rattle.net_core.specs.declared.net.Chan.{Chan}
use Rattle.net_core.specs.declared.net.Site.{Site}
use Rattle.net_core.specs.declared.net.Kind.{Kind}
use Rattle.net_core.specs.declared.net.Kind.TheVariants.{Input, Output, Inner}

abbrev pub bits_open : Ty-F Ty → Value-F Value → Bool
bits_open (Ty-F.Bits w) (Value-F.Bits x) = is_word_of w x
bits_open _ _ = false

abbrev pub opens_well : ProcHead → Bool
opens_well head = bits_open (out-Ty head.state) (out-Value head.init)

abbrev pub may_use : Kind → Bool → Bool
may_use Input sends = not sends
may_use Output sends = sends
may_use Inner sends = true

abbrev pub chan_used : Option Chan → Bool → Bool
chan_used None sends = false
chan_used (Some chan) sends = may_use chan.kind sends

abbrev pub site_fits : List Chan → Site → Bool
site_fits chans site = chan_used (slice_get chans site.chan) site.sends

abbrev pub head_fits : List Chan → ProcHead → Bool
head_fits chans head = nat_lt (length head.sites) (2 ^ 30) && (opens_well head && list_all (site_fits chans) head.sites)

abbrev pub eight_bits : Ty-F Ty → Bool
eight_bits (Ty-F.Bits w) = w == 8
eight_bits _ = false

abbrev pub chan_fits : Chan → Bool
chan_fits chan = eight_bits (out-Ty chan.ty)

abbrev pub differ_sends : Bool → Bool → Bool
differ_sends true b = not b
differ_sends false b = b

-- the sites are of different ends of channels
abbrev pub differ : Site → Site → Bool
differ a b = not (a.chan == b.chan) || differ_sends a.sends b.sends

abbrev pub apart : List Site → List Site → Bool
apart ones others = list_all (λ (site : Site). list_all (differ site) others) ones

abbrev pub own_ends : List ProcHead → Bool
own_ends [] = true
own_ends (head ∷ heads) = list_all (λ (other : ProcHead). apart head.sites other.sites) heads && own_ends heads

abbrev pub other_name : Chan → Chan → Bool
other_name a b = not (bytes_eq a.name b.name)

abbrev pub own_names : List Chan → Bool
own_names [] = true
own_names (chan ∷ chans) = list_all (other_name chan) chans && own_names chans

abbrev pub width_after : Step → ℕ
width_after Stay = 1
width_after (Count source) = 8
width_after Flip = 1

abbrev pub bits_of : Ty-F Ty → ℕ → Bool
bits_of (Ty-F.Bits w) width = w == width
bits_of _ width = false

abbrev pub same_sites : List Site → List Port → Bool
same_sites [] [] = true
same_sites [] (port ∷ ports) = false
same_sites (site ∷ sites) [] = false
same_sites (site ∷ sites) (port ∷ ports) = not (differ site port.site) && same_sites sites ports

abbrev pub body_fits : ProcHead → Sample → Bool
body_fits head sample = bits_of (out-Ty head.state) (width_after sample.step) && same_sites head.sites sample.ports

abbrev pub each_fits : List ProcHead → List Sample → Bool
each_fits [] [] = true
each_fits [] (sample ∷ samples) = false
each_fits (head ∷ heads) [] = false
each_fits (head ∷ heads) (sample ∷ samples) = body_fits head sample && each_fits heads samples

abbrev pub is_empty : List Word → Bool
is_empty [] = true
is_empty (w ∷ ws) = false

abbrev pub may_give : Kind → List Word → Bool
may_give Input words = true
may_give Output words = is_empty words
may_give Inner words = is_empty words

abbrev pub given : Chan → List Word → Bool
given chan words = may_give chan.kind words && list_all (is_word_of 8) words

abbrev pub each_given : List Chan → List (List Word) → Bool
each_given [] [] = true
each_given [] (words ∷ inputs) = false
each_given (chan ∷ chans) [] = false
each_given (chan ∷ chans) (words ∷ inputs) = given chan words && each_given chans inputs
