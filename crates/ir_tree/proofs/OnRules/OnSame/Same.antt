-- To mean the same is an equivalence.
use Rattle.std.proofs.Common.{◌≡◌, ◌<◌, List, length, get_or, Some, refl, sym, subst, ◌∙◌}
use Rattle.std.specs.Prelude.{slice_get}
use Rattle.std.proofs.lemmas.Option.{slice_get_within, slice_get-get_or}
use Rattle.net_core.specs.declared.net.Net.{Net}
use Rattle.net_core.specs.Behavior.{Behavior, IsOpen}
use Rattle.ir_tree.specs.declared.package.Package.{Package}
use Rattle.ir_tree.specs.Networks.{behaviors_of}
use Rattle.ir_tree.specs.SameBehavior.{SameActivations, SameActivationsEach, IsDenotedBy, SameBehavior}
use Rattle.ir_tree.proofs.OnRules.OnSame.Openings.{opens, reopens}

itself_does : (a : Behavior) → SameActivations a a
itself_does a = record {
  state = refl;
  sites = refl;
  width = λ i site e. refl;
  turn = λ s got i o h. refl;
  next_state = λ s got o. refl;
}

back_does : (a b : Behavior) → SameActivations a b → SameActivations b a
back_does a b h = record {
  state = sym h.state;
  sites = sym h.sites;
  width = λ i site e. sym (h.width i site (subst (λ ys. slice_get ys i ≡ Some site) (sym h.sites) e));
  turn = λ s got i o less. sym (h.turn s got i (reopens a b s got i h o) (subst (λ ys. i < length ys) (sym h.sites) less));
  next_state = λ s got o. sym (h.next_state s got (subst (λ ys. IsOpen a s got (length ys)) (sym h.sites) (reopens a b s got (length b.sites) h o)));
}

through_does : (a b c : Behavior) → SameActivations a b → SameActivations b c → SameActivations a c
through_does a b c h k = record {
  state = h.state ∙ k.state;
  sites = h.sites ∙ k.sites;
  width = λ i site e. h.width i site e ∙ k.width i site (subst (λ ys. slice_get ys i ≡ Some site) h.sites e);
  turn = λ s got i o less. h.turn s got i o less ∙ k.turn s got i (opens a b s got i h o) (subst (λ ys. i < length ys) h.sites less);
  next_state = λ s got o. h.next_state s got o ∙ k.next_state s got (subst (λ ys. IsOpen b s got (length ys)) h.sites (opens a b s got (length a.sites) h o));
}

-- ---- lists of procs

each_itself : (xs : List Behavior) → SameActivationsEach xs xs
each_itself xs = record {
  count = refl;
  each = λ p a b e f. let same : a ≡ b = cc in subst (SameActivations a) same (itself_does a);
}

each_back : (xs ys : List Behavior) → SameActivationsEach xs ys → SameActivationsEach ys xs
each_back xs ys h = record {
  count = sym h.count;
  each = λ p a b e f. back_does b a (h.each p b a f e);
}

each_through : (xs ys zs : List Behavior) → SameActivationsEach xs ys → SameActivationsEach ys zs → SameActivationsEach xs zs
each_through xs ys zs h k = record {
  count = h.count ∙ k.count;
  each = λ p a c e f.
      let within : p < length xs = slice_get_within xs p a e in
      let less : p < length ys = subst (λ n. p < n) h.count within in
      let b = get_or ys p a in
      let there : slice_get ys p ≡ Some b = slice_get-get_or ys p a less in
      through_does a b c (h.each p a b e there) (k.each p b c there f);
}

-- ---- packages

pub itself : (p : Package) → SameBehavior p p
itself p = record { network = refl; activations = each_itself (behaviors_of p) }

pub either_way : (p q : Package) → SameBehavior p q → SameBehavior q p
either_way p q h = record { network = sym h.network; activations = each_back (behaviors_of p) (behaviors_of q) h.activations }

pub through : (net : Net) (behaviors : List Behavior) (p q : Package) → IsDenotedBy net behaviors p → SameBehavior p q → IsDenotedBy net behaviors q
through net behaviors p q h k = record { network = h.network ∙ k.network; activations = each_through behaviors (behaviors_of p) (behaviors_of q) h.activations k.activations }
