-- Procs that do the same from each state of their type and over all words do the same in each activation that can stand there.
use Rattle.std.proofs.Common.{◌≡◌, ℕ, zero, suc, List, [], ◌∷◌, length, Some, refl, sym, ap, subst}
use Rattle.std.specs.Prelude.{slice_get}
use Rattle.xb_value.specs.Typing.{IsOfType}
use Rattle.xb_value.specs.declared.ty.Ty.{Ty}
use Rattle.net_core.specs.Behavior.{Behavior}
use Rattle.dslx_core.specs.CoreOf.{BehavesAlike, EachBehavesAlike}
use Rattle.ir_tree.specs.SameBehavior.{SameActivations, SameActivationsEach}

same_activations : (a b : Behavior) → BehavesAlike a b → SameActivations a b
same_activations a b alike = record {
  state = alike.state;
  sites = alike.sites;
  width = λ i site e. ap (λ (w : ℕ → ℕ). w site.chan) alike.width;
  turn = λ s got i at less. alike.turn s at.state got i;
  next_state = λ s got at. alike.next_state s at.state got;
}

as_many : (xs ys : List Behavior) → EachBehavesAlike xs ys → length xs ≡ length ys
as_many [] [] h = refl
as_many [] (y ∷ ys) h = absurd h
as_many (x ∷ xs) [] h = absurd h
as_many (x ∷ xs) (y ∷ ys) h = ap suc (as_many xs ys h.1)

each_one : (xs ys : List Behavior) → EachBehavesAlike xs ys → (p : ℕ) (a b : Behavior) → slice_get xs p ≡ Some a → slice_get ys p ≡ Some b → SameActivations a b
each_one [] ys h p a b e f = absurd (cc)
each_one (x ∷ xs) [] h p a b e f = absurd h
each_one (x ∷ xs) (y ∷ ys) h zero a b e f =
    let one : x ≡ a = cc in
    let other : y ≡ b = cc in
    subst (λ z. SameActivations z b) one (subst (λ z. SameActivations x z) other (same_activations x y h.0))
each_one (x ∷ xs) (y ∷ ys) h (suc p) a b e f = each_one xs ys h.1 p a b e f

pub all_do_the_same : (xs ys : List Behavior) → EachBehavesAlike xs ys → SameActivationsEach xs ys
all_do_the_same xs ys h = record { count = as_many xs ys h; each = each_one xs ys h }

-- ---- the other way round

same_activations_back : (a b : Behavior) → BehavesAlike a b → SameActivations b a
same_activations_back a b alike = record {
  state = sym alike.state;
  sites = sym alike.sites;
  width = λ i site e. ap (λ (w : ℕ → ℕ). w site.chan) (sym alike.width);
  turn = λ s got i at less. sym (alike.turn s (subst (λ (t : Ty). IsOfType t s) (sym alike.state) at.state) got i);
  next_state = λ s got at. sym (alike.next_state s (subst (λ (t : Ty). IsOfType t s) (sym alike.state) at.state) got);
}

each_one_back : (xs ys : List Behavior) → EachBehavesAlike xs ys → (p : ℕ) (a b : Behavior) → slice_get ys p ≡ Some a → slice_get xs p ≡ Some b → SameActivations a b
each_one_back [] [] h p a b e f = absurd (cc)
each_one_back [] (y ∷ ys) h p a b e f = absurd h
each_one_back (x ∷ xs) [] h p a b e f = absurd h
each_one_back (x ∷ xs) (y ∷ ys) h zero a b e f =
    let one : y ≡ a = cc in
    let other : x ≡ b = cc in
    subst (λ z. SameActivations z b) one (subst (λ z. SameActivations y z) other (same_activations_back x y h.0))
each_one_back (x ∷ xs) (y ∷ ys) h (suc p) a b e f = each_one_back xs ys h.1 p a b e f

pub all_do_the_same_back : (xs ys : List Behavior) → EachBehavesAlike xs ys → SameActivationsEach ys xs
all_do_the_same_back xs ys h = record { count = sym (as_many xs ys h); each = each_one_back xs ys h }
