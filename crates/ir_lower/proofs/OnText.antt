-- Procs that do from each state of their types what a text's do.
use Rattle.std.proofs.Common.{◌≡◌, ℕ, zero, suc, ◌<◌, ◌≤◌, List, ◌∷◌, ◌++◌, length, take, Some, refl, sym, ap, subst, ◌∙◌, []}
use Rattle.std.specs.Prelude.{slice_get}
use Rattle.xb_bits.specs.Word.{Word}
use Rattle.xb_value.specs.declared.value.Value.{Value}
use Rattle.xb_value.specs.Typing.{IsOfType}
use Rattle.net_core.specs.declared.net.Site.{Site}
use Rattle.net_core.specs.declared.net.Net.{Net}
use Rattle.net_core.specs.Behavior.{Behavior, Turn, Skip, Receive, Give, IsWordOf, IsOpen, Takes}
use Rattle.ir_tree.specs.declared.package.Package.{Package}
use Rattle.ir_tree.specs.Networks.{behaviors_of}
use Rattle.ir_tree.specs.SameBehavior.{IsDenotedBy, SameActivations, SameActivationsEach}
use Rattle.dslx_core.specs.CoreOf.{BehavesAlike, EachBehavesAlike}
use Rattle.dslx_core.specs.Designs.{core_behaviors, core_network}
use Rattle.dslx_core.specs.declared.design.Design.{Design}
use Rattle.ir_lower.specs.Lowered.{IsLoweringOf}
use Rattle.ir_lower.proofs.OnLists.{some_same}

-- what is taken where a site does this
abbrev TakesBy : Behavior → Value → List Word → ℕ → Site → List Site → List Word → Turn → Type 0
TakesBy b s g i site sites words Skip = Takes b s g (suc i) sites words
TakesBy b s g i site sites words Receive = (w : Word) × (rest : List Word) × (words ≡ w ∷ rest) × IsWordOf (b.width site.chan) w × Takes b s (g ++ w ∷ []) (suc i) sites rest
TakesBy b s g i site sites words (Give w) = Takes b s g (suc i) sites words

to_by : (b : Behavior) (s : Value) (g : List Word) (i : ℕ) (site : Site) (sites : List Site) (words : List Word) (t : Turn) → b.turn s g i ≡ t → Takes b s g i (site ∷ sites) words → TakesBy b s g i site sites words t
to_by b s g i site sites words Skip e h = rw (e, Takes) at h
to_by b s g i site sites words Receive e h = rw (e, Takes) at h
to_by b s g i site sites words (Give w) e h = rw (e, Takes) at h

from_by : (b : Behavior) (s : Value) (g : List Word) (i : ℕ) (site : Site) (sites : List Site) (words : List Word) (t : Turn) → b.turn s g i ≡ t → TakesBy b s g i site sites words t → Takes b s g i (site ∷ sites) words
from_by b s g i site sites words Skip e h = rw (e, Takes) h
from_by b s g i site sites words Receive e h = rw (e, Takes) h
from_by b s g i site sites words (Give w) e h = rw (e, Takes) h

module _ (a b : Behavior) (alike : BehavesAlike a b) (s : Value) (typed : IsOfType a.state s) where
  takes_too : (sites : List Site) (got : List Word) (i : ℕ) (words : List Word) → Takes b s got i sites words → Takes a s got i sites words
  takes_too [] got i words h = h
  takes_too (y ∷ ys) got i words h =
      from_by a s got i y ys words (b.turn s got i) (alike.turn s typed got i)
      (by (b.turn s got i) (to_by b s got i y ys words (b.turn s got i) refl h) (λ g ws k. takes_too ys g (suc i) ws k))
    where
      by : (t : Turn) → TakesBy b s got i y ys words t → ((g ws : List Word) → Takes b s g (suc i) ys ws → Takes a s g (suc i) ys ws) → TakesBy a s got i y ys words t
      by Skip k again = again got words k
      by Receive k again = (k.0, k.1, k.2, subst (λ (width : ℕ → ℕ). IsWordOf (width y.chan) k.0) (sym alike.width) k.3, again (got ++ k.0 ∷ []) k.1 k.4)
      by (Give w) k again = again got words k

-- an activation that can stand somewhere in the one can in the other
open_too : (a b : Behavior) → BehavesAlike a b → (s : Value) (got : List Word) (i : ℕ) → IsOpen b s got i → IsOpen a s got i
open_too a b alike s got i o =
    let typed = subst (λ t. IsOfType t s) (sym alike.state) o.state in
    record {
      within = subst (λ sites. i ≤ length sites) (sym alike.sites) o.within;
      state = typed;
      words = takes_too a b alike s typed (take i a.sites) [] 0 got (subst (λ sites. Takes b s [] 0 (take i sites) got) (sym alike.sites) o.words);
    }

-- what does the same as the one does the same as the other
same_too : (a b c : Behavior) → BehavesAlike a b → SameActivations a c → SameActivations b c
same_too a b c alike same = record {
  state = sym alike.state ∙ same.state;
  sites = sym alike.sites ∙ same.sites;
  width = λ i site h. ap (λ (width : ℕ → ℕ). width site.chan) (sym alike.width) ∙ same.width i site (ap (λ sites. slice_get sites i) alike.sites ∙ h);
  turn = λ s got i o less.
      let here = open_too a b alike s got i o in
      sym (alike.turn s here.state got i) ∙ same.turn s got i here (subst (λ sites. i < length sites) (sym alike.sites) less);
  next_state = λ s got o.
      let here = open_too a b alike s got (length b.sites) o in
      sym (alike.next_state s here.state got) ∙ same.next_state s got (subst (λ sites. IsOpen a s got (length sites)) (sym alike.sites) here);
}

counts_too : (xs ys : List Behavior) → EachBehavesAlike xs ys → length xs ≡ length ys
counts_too [] [] h = refl
counts_too [] (y ∷ ys) h = absurd h
counts_too (x ∷ xs) [] h = absurd h
counts_too (x ∷ xs) (y ∷ ys) h = ap suc (counts_too xs ys h.1)

record HasCounterpart (xs : List Behavior) (k : ℕ) (y : Behavior) : Type 0 where
  own : Behavior
  there : slice_get xs k ≡ Some own
  alike : BehavesAlike own y

counterpart : (xs ys : List Behavior) → EachBehavesAlike xs ys → (k : ℕ) (y : Behavior) → slice_get ys k ≡ Some y → HasCounterpart xs k y
counterpart [] [] h k y e = absurd (cc)
counterpart [] (z ∷ ys) h k y e = absurd h
counterpart (x ∷ xs) [] h k y e = absurd h
counterpart (x ∷ xs) (z ∷ ys) h zero y e = record { own = x; there = refl; alike = subst (BehavesAlike x) (some_same z y e) h.0 }
counterpart (x ∷ xs) (z ∷ ys) h (suc k) y e = let found = counterpart xs ys h.1 k y e in record { own = found.own; there = found.there; alike = found.alike }

each_too : (xs ys cs : List Behavior) → EachBehavesAlike xs ys → SameActivationsEach xs cs → SameActivationsEach ys cs
each_too xs ys cs h same = record {
  count = sym (counts_too xs ys h) ∙ same.count;
  each = λ k y c here there.
      let found = counterpart xs ys h k y here in
      same_too found.own y c found.alike (same.each k found.own c found.there there);
}

pub text_same : (design : Design) (ir : Package) (net : Net) (behaviors : List Behavior) → IsLoweringOf design ir → core_network design ≡ net → EachBehavesAlike (core_behaviors design) behaviors → IsDenotedBy net behaviors ir
text_same design ir net behaviors lowered is alike = record {
  network = sym is ∙ lowered.same.network;
  activations = each_too (core_behaviors design) behaviors (behaviors_of ir) alike lowered.same.activations;
}
