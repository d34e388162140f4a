-- What a proc with which nothing is wrong does keeps its types: each word that it sends has its channel's width, and its next state is one of its type.
use Rattle.std.proofs.Common.{◌≡◌, ◌+◌, ℕ, zero, suc, true, List, [], ◌∷◌, map, length, Some, arith, refl, sym, ap, subst}
use Rattle.std.specs.Prelude.{slice_get}
use Rattle.std.proofs.lemmas.List.{length-map}
use Rattle.std.proofs.Math.Seq.{take-length}
use Rattle.xb_bits.specs.Word.{Word}
use Rattle.xb_value.specs.Typing.{IsOfType}
use Rattle.xb_value.specs.Width.{width_of}
use Rattle.xb_value.specs.declared.ty.Ty.{Ty}
use Rattle.xb_value.specs.declared.value.Value.{Value}
use Rattle.xb_value.proofs.Lemmas.Flat.{as_wide, in_range}
use Rattle.net_core.specs.Behavior.{Behavior, IsOpen, IsWordOf, KeepsTypes, Takes, Turn, Skip, Receive, Give, TurnFits}
use Rattle.net_core.specs.declared.net.Chan.{Chan}
use Rattle.net_core.specs.declared.net.Site.{Site}
use Rattle.dslx_meaning.specs.Activation.{Activity, SiteEnv, SiteName, activation_of, site_names, state_of, turn_at, word_type_at}
use Rattle.dslx_meaning.specs.Network.{Elaborated, behavior_at, plain_or_unit, site_at, width_of_chan}
use Rattle.dslx_meaning.specs.Types.{plain_type}
use Rattle.dslx_meaning.specs.Values.{at_type, flat_word, plain_value}
use Rattle.dslx_meaning.specs.declared.ty.DslxType.{DslxType}
use Rattle.dslx_meaning.specs.declared.value.DslxValue.{DslxValue}
use Rattle.dslx_meaning.specs.Rules.TypeEnvs.{GlobalEnv}
use Rattle.dslx_core.specs.Lowering.Steps.{is_sized}
use Rattle.dslx_core.proofs.Lemmas.Lowering.{from_plain}
use Rattle.dslx_core.proofs.Lemmas.Typing.Activities.{activation_goes}
use Rattle.dslx_core.proofs.Lemmas.Typing.Typed.{same_some}
use Rattle.dslx_core.specs.Typing.Activities.Members.{IsWellTypedNext, inner_env}
use Rattle.dslx_core.specs.Typing.Typed.Kinds.{is_of}
use Rattle.dslx_total.proofs.OnNets.Bodies.{activation_gives}
use Rattle.dslx_total.proofs.OnNets.Directions.{activation_goes_by, direction_at, no_more_turns}
use Rattle.dslx_total.proofs.OnNets.Given.{GiveWords, GivesWord, IsWordThere}
use Rattle.dslx_total.proofs.OnNets.Longer.{activation_grows}
use Rattle.dslx_total.proofs.OnNets.Plain.{plain_typed}
use Rattle.dslx_total.proofs.OnWords.Narrow.{are_narrow}
use Rattle.dslx_total.proofs.OnNets.Words.{IsWordType}
use Rattle.dslx_total.proofs.OnNets.Standing.{GoesOverAll, StandsPast, ends_there, stands_past}

-- the words at each member have the width of the channel that stands there
abbrev pub MembersHaveChannels : List Chan → GlobalEnv → Elaborated → Type 0
MembersHaveChannels chans known a = (n : SiteName) (word : DslxType) → word_type_at (record { members = a.proc.members; env = inner_env known a.proc a.parametric_args }) n.member ≡ Some word
    → IsWordType word × (width_of_chan chans (site_at a n).chan ≡ width_of (plain_type word))

-- a value of such a type is a word of its width
word_of_type : (t : DslxType) → IsWordType t → (v : DslxValue) → is_of t v ≡ true → IsWordOf (width_of (plain_type t)) (flat_word v)
word_of_type t h v of =
    let typed = plain_typed t v of h.narrow in
    let wide = as_wide (plain_type t) (plain_value v) typed in
    let some = h.some in
    let most = h.most in
    record {
      word = record { some_width = omega (arith, wide, some); most_width = omega (arith, wide, most); in_range = in_range (plain_type t) (plain_value v) typed };
      fits = wide;
    }

module _ (chans : List Chan) (known : GlobalEnv) (a : Elaborated) (t : DslxType) (next : IsWellTypedNext known a.proc a.parametric_args t) (sized : is_sized t ≡ true) (narrow : are_narrow (plain_type t) ≡ true)
    (channels : MembersHaveChannels chans known a) where
  abbrev does : Behavior
  does = behavior_at known.items chans a

  abbrev site : SiteEnv
  site = record { members = a.proc.members; env = inner_env known a.proc a.parametric_args }

  abbrev act : Value → List Word → Activity
  act s words = activation_of known.items a.proc a.parametric_args s words

  word_there : (n : SiteName) (w : Word) → IsWordThere site n.member w → IsWordOf (does.width (site_at a n).chan) w
  word_there n w h =
      let c = channels n h.word h.means in
      subst (λ x. IsWordOf (does.width (site_at a n).chan) x) h.is (subst (λ k. IsWordOf k (flat_word h.value)) (sym c.1) (word_of_type h.word c.0 h.value h.of))

  turn_there : (n : SiteName) (u : Turn) → GivesWord site n u → TurnFits does (site_at a n) u
  turn_there n Skip h = tt
  turn_there n Receive h = tt
  turn_there n (Give w) h = word_there n w h

  turn_fits : (ns : List SiteName) (ts : List Turn) → GiveWords site ns ts → (i : ℕ) (x : Site) → slice_get (map (site_at a) ns) i ≡ Some x → TurnFits does x (turn_at (slice_get ts i))
  turn_fits ns [] h zero x e = tt
  turn_fits ns [] h (suc i) x e = tt
  turn_fits [] (u ∷ ts) h i x e = absurd (cc)
  turn_fits (n ∷ ns) (u ∷ ts) h zero x e = subst (λ y. TurnFits does y u) (same_some (site_at a n) x e) (turn_there n u h.0)
  turn_fits (n ∷ ns) (u ∷ ts) h (suc i) x e = turn_fits ns ts h.1 i x e

  -- a state of its type
  state_is : does.state ≡ plain_type t
  state_is = ap plain_or_unit next.state

  state_of_type : (s : Value) → IsOfType does.state s → is_of t (at_type t s) ≡ true
  state_of_type s h = (from_plain t sized s (subst (λ (u : Ty). IsOfType u s) state_is h)).0

  over_all : (s : Value) → is_of t (at_type t s) ≡ true → GoesOverAll t (length (site_names a.proc)) (act s)
  over_all s of = record {
    grows = activation_grows known.items a.proc a.parametric_args s;
    few = λ words. no_more_turns (site_names a.proc) (act s words).turns (activation_goes_by known.items a.proc a.parametric_args s words);
    goes = activation_goes known a.proc a.parametric_args t next s of;
  }

  next_typed : (s : Value) (got : List Word) → IsOpen does s got (length does.sites) → IsOfType does.state (does.next_state s got)
  next_typed s got at =
      let n = length (site_names a.proc) in
      let of = state_of_type s at.state in
      let h = over_all s of in
      let many : length does.sites ≡ n = length-map (site_names a.proc) (site_at a) in
      let first : StandsPast (act s []).turns [] 0 = record { within = omega arith; taken = refl } in
      let takes = subst (λ sites. Takes does s [] 0 sites got) (take-length does.sites) at.words in
      let past = stands_past t n (act s) h does s (λ g i. refl) does.sites 0 [] got first (omega (arith, many)) takes in
      let all : 0 + length does.sites ≡ n = omega (arith, many) in
      let end = ends_there t n (act s) h got (subst (λ k. StandsPast (act s got).turns got k) all past) in
      subst (λ (u : Ty). IsOfType u (does.next_state s got)) (sym state_is)
      (subst (λ o. IsOfType (plain_type t) (state_of o)) (sym end.1) (plain_typed t end.0 end.2 narrow))

  pub keeps_types : KeepsTypes does
  keeps_types = record {
    directions = λ s got i x e. direction_at (site_at a) (λ n. refl) (site_names a.proc) (act s got).turns (activation_goes_by known.items a.proc a.parametric_args s got) i x e;
    turns = λ s got i x at e. turn_fits (site_names a.proc) (act s got).turns (activation_gives known a.proc a.parametric_args t next s (state_of_type s at.state) got) i x e;
    state = next_typed;
  }
