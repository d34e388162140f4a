-- Channels, and the words that go over them.
use Rattle.std.proofs.Common.{◌≡◌, ℕ, zero, suc, List, ◌∷◌, map, get_or, Option, Some, None, refl, sym, ap, subst, ◌∙◌, []}
use Rattle.std.specs.Prelude.{slice_get, option_map}
use Rattle.xb_value.specs.declared.ty.Ty.{Ty}
use Rattle.net_core.specs.declared.net.Chan.{Chan}
use Rattle.ir_tree.specs.declared.package.Channel.{Channel}
use Rattle.ir_tree.specs.NodeValues.{channel_type}
use Rattle.ir_tree.specs.Networks.{chan_of}
use Rattle.ir_tree.specs.Rules.Typed.Typed.{AreChannels, IsWordType}
use Rattle.ir_rebuild.specs.Putting.Types.{ir_type_of}
use Rattle.dslx_meaning.specs.Network.{width_of_chan}
use Rattle.ir_lower_nodes.specs.Acts.Activities.{word_width}
use Rattle.ir_lower_nodes.specs.Steps.Steps.{MembersCarryWords}
use Rattle.ir_lower.specs.Types.Words.{word_at}
use Rattle.ir_lower.specs.Deep.{word_type}
use Rattle.ir_lower.specs.Inner.Made.{types_of_chans, types_of_channels}
use Rattle.ir_lower.proofs.OnLists.{at_map, comes_of, each_there, some_same}

-- words are as wide in the one as in the other
pub widths_same : (cs : List Channel) (c : ℕ) → width_of_chan (map chan_of cs) c ≡ word_width cs c
widths_same [] c = refl
widths_same (x ∷ cs) zero = refl
widths_same (x ∷ cs) (suc c) = widths_same cs c

record IsChannelThere {A B : Type 0} (f : A → B) (o : Option A) (t : B) : Type 0 where
  from : A
  there : o ≡ Some from
  is : f from ≡ t

from_there : {A B : Type 0} (f : A → B) (o : Option A) (t : B) → option_map f o ≡ Some t → IsChannelThere f o t
from_there f None t h = absurd (cc)
from_there f (Some a) t h = record { from = a; there = refl; is = some_same (f a) t h }

module _ (cs : List Channel) (chans : List Chan) where
  -- the node type of a channel of this word type
  type_there : types_of_channels cs ≡ types_of_chans chans → (c : ℕ) (t : Ty) → word_type chans c ≡ Some t → channel_type cs c ≡ Some (ir_type_of t)
  type_there are c t h =
      let found = from_there (λ (chan : Chan). chan.ty) (slice_get chans c) t h in
      sym (at_map (λ (x : Channel). x.ty) cs c)
      ∙ (ap (λ ts. slice_get ts c) are
      ∙ (at_map (λ (chan : Chan). ir_type_of chan.ty) chans c
      ∙ (ap (option_map (λ (chan : Chan). ir_type_of chan.ty)) found.there ∙ ap (λ u. Some (ir_type_of u)) found.is)))

  -- words of this type may go over it
  word_there : chans ≡ map chan_of cs → AreChannels cs → (c : ℕ) (t : Ty) → word_type chans c ≡ Some t → IsWordType t
  word_there are words c t h =
      let found = from_there (λ (chan : Chan). chan.ty) (slice_get chans c) t h in
      let own = comes_of chan_of cs c found.from (sym (ap (λ xs. slice_get xs c) are) ∙ found.there) in
      subst IsWordType (ap (λ (chan : Chan). chan.ty) own.is ∙ found.is) (words c own.from own.there)

  pub carry : types_of_channels cs ≡ types_of_chans chans → chans ≡ map chan_of cs → AreChannels cs → (members : List ℕ) (ts : List Ty) → map (word_type chans) members ≡ map Some ts → MembersCarryWords cs members (word_at ts)
  carry types are words members ts all k t h =
      let there = each_there (word_type chans) members ts k t all h in
      record { ty = type_there types (get_or members k 0) t there; word = word_there are words (get_or members k 0) t there }
