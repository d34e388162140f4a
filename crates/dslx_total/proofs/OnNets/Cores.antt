-- What the procs of a checked text do keeps its types, where the text's procs do the same and keep theirs.
use Rattle.std.proofs.Common.{◌≡◌, ◌≤◌, ◌++◌, ℕ, zero, suc, Bool, true, false, List, [], ◌∷◌, map, take, length, Option, Some, None, refl, sym, ap, subst, ◌∙◌}
use Rattle.std.specs.Prelude.{get_or, slice_get}
use Rattle.xb_bits.specs.Word.{Word}
use Rattle.xb_value.specs.Typing.{IsOfType}
use Rattle.xb_value.specs.Unflat.{unflat_of}
use Rattle.xb_value.specs.declared.ty.Ty.{Ty}
use Rattle.xb_value.specs.declared.value.Value.{Value}
use Rattle.net_core.specs.Behavior.{Behavior, IsInDirection, IsOpen, IsWordOf, KeepsTypes, Takes, Turn, Skip, Receive, Give, TurnFits}
use Rattle.net_core.specs.WellFormed.{EachKeepsTypes}
use Rattle.net_core.specs.declared.net.Site.{Site}
use Rattle.dslx_meaning.specs.Activation.{turn_at}
use Rattle.dslx_meaning.specs.Lists.{and_then}
use Rattle.dslx_core.proofs.Lemmas.Typing.Typed.{same_some}
use Rattle.dslx_core.specs.CoreOf.{BehavesAlike, EachBehavesAlike}
use Rattle.dslx_core.specs.CoreValues.{Bindings, Functions, core_value, taken_apart}
use Rattle.dslx_core.specs.Designs.{Behind, CoreActivity, CoreElaborated, apart_then, condition_at, core_activation, core_behavior, core_behaviors, core_family, do_step, do_steps, functions_of, go_behind, on_or_off, receive_if, receive_on, send_if, send_on, site_of_step, sites_of_steps, token, with_token}
use Rattle.dslx_core.specs.declared.design.Design.{Design}
use Rattle.dslx_core.specs.declared.expr.CoreExpr.{CoreExpr}
use Rattle.dslx_core.specs.declared.expr.Shape.{Shape}
use Rattle.dslx_core.specs.declared.step.Step.{Step}
use Rattle.dslx_core.specs.declared.step.Step.TheVariants as step
use Rattle.dslx_total.proofs.OnNets.Takes.{TakesFirst, from_first, to_first}

-- ---- directions, whatever the state and the words are

-- the first of these sites have these turns
abbrev AllGo : List Site → List Turn → Type 0
AllGo xs [] = Unit {0}
AllGo [] (t ∷ ts) = ⊥
AllGo (x ∷ xs) (t ∷ ts) = IsInDirection x t × AllGo xs ts

none_go : (xs : List Site) → AllGo xs []
none_go [] = tt
none_go (x ∷ xs) = tt

abbrev RestGoes : List Site → Behind → Type 0
RestGoes more rest = (bound : Bindings) (words : List Word) → AllGo more (rest bound words).turns

module _ (more : List Site) (rest : Behind) (k : RestGoes more rest) where
  behind_goes : (o : Option Bindings) (words : List Word) → AllGo more (go_behind rest o words).turns
  behind_goes None words = none_go more
  behind_goes (Some bound) words = k bound words

  apart_goes : (shape : Shape) (bound : Bindings) (o : Option Value) (words : List Word) → AllGo more (apart_then shape rest bound o words).turns
  apart_goes shape bound None words = none_go more
  apart_goes shape bound (Some v) words = behind_goes (taken_apart shape v bound) words

  receive_goes : (x : Site) → x.sends ≡ false → (t : Ty) (shape : Shape) (bound : Bindings) (words : List Word) → AllGo (x ∷ more) (receive_on t shape rest bound words).turns
  receive_goes x e t shape bound [] = (e, none_go more)
  receive_goes x e t shape bound (w ∷ words) = (e, apart_goes shape bound (Some (with_token (unflat_of t w.value))) words)

  send_goes : (x : Site) → x.sends ≡ true → (shape : Shape) (bound : Bindings) (o : Option Value) (words : List Word) → AllGo (x ∷ more) (send_on shape rest bound o words).turns
  send_goes x e shape bound None words = tt
  send_goes x e shape bound (Some v) words = (e, apart_goes shape bound (Some token) words)

  on_goes : (x : Site) (o : Option Bool) (on : CoreActivity) → AllGo (x ∷ more) on.turns → (shape : Shape) (bound : Bindings) (off : Option Value) (words : List Word) → AllGo (x ∷ more) (on_or_off o on shape rest bound off words).turns
  on_goes x None on h shape bound off words = tt
  on_goes x (Some true) on h shape bound off words = h
  on_goes x (Some false) on h shape bound off words = (tt, apart_goes shape bound off words)

  receive_if_goes : (x : Site) → x.sends ≡ false → (calls : Functions) (t : Ty) (o : Option (CoreExpr × CoreExpr)) (shape : Shape) (bound : Bindings) (words : List Word) → AllGo (x ∷ more) (receive_if calls t o shape rest bound words).turns
  receive_if_goes x e calls t None shape bound words = receive_goes x e t shape bound words
  receive_if_goes x e calls t (Some both) shape bound words =
      on_goes x (condition_at calls both.0 bound) (receive_on t shape rest bound words) (receive_goes x e t shape bound words) shape bound (and_then (core_value both.1 calls bound) (λ v. Some (with_token v))) words

  send_if_goes : (x : Site) → x.sends ≡ true → (calls : Functions) (e : CoreExpr) (o : Option CoreExpr) (shape : Shape) (bound : Bindings) (words : List Word) → AllGo (x ∷ more) (send_if calls e o shape rest bound words).turns
  send_if_goes x q calls e None shape bound words = send_goes x q shape bound (core_value e calls bound) words
  send_if_goes x q calls e (Some condition) shape bound words =
      on_goes x (condition_at calls condition bound) (send_on shape rest bound (core_value e calls bound) words) (send_goes x q shape bound (core_value e calls bound) words) shape bound (Some token) words

  step_goes : (channels : List ℕ) (calls : Functions) (s : Step) (bound : Bindings) (words : List Word) → AllGo (site_of_step channels s ++ more) (do_step calls s rest bound words).turns
  step_goes channels calls (step.Bind e shape) bound words = apart_goes shape bound (core_value e calls bound) words
  step_goes channels calls (step.Receive r) bound words = receive_if_goes (record { chan = get_or channels r.member 0; sends = false }) refl calls r.word r.condition r.shape bound words
  step_goes channels calls (step.Send s) bound words = send_if_goes (record { chan = get_or channels s.member 0; sends = true }) refl calls s.word s.condition s.shape bound words

steps_go : (channels : List ℕ) (calls : Functions) (ss : List Step) (next : CoreExpr) (bound : Bindings) (words : List Word) → AllGo (sites_of_steps channels ss) (do_steps calls ss next bound words).turns
steps_go channels calls [] next bound words = tt
steps_go channels calls (s ∷ ss) next bound words = step_goes (sites_of_steps channels ss) (do_steps calls ss next) (λ inner words. steps_go channels calls ss next inner words) channels calls s bound words

direction_there : (xs : List Site) (ts : List Turn) → AllGo xs ts → (i : ℕ) (x : Site) → slice_get xs i ≡ Some x → IsInDirection x (turn_at (slice_get ts i))
direction_there xs [] h zero x e = tt
direction_there xs [] h (suc i) x e = tt
direction_there [] (t ∷ ts) h i x e = absurd h
direction_there (y ∷ ys) (t ∷ ts) h zero x e = subst (λ (z : Site). IsInDirection z t) (same_some y x e) h.0
direction_there (y ∷ ys) (t ∷ ts) h (suc i) x e = direction_there ys ts h.1 i x e

-- ---- what two procs that do the same take and send

module _ (a b : Behavior) (alike : BehavesAlike a b) (s : Value) (of : IsOfType a.state s) where
  takes_same : (sites : List Site) (g : List Word) (i : ℕ) (words : List Word) → Takes a s g i sites words → Takes b s g i sites words
  takes_same [] g i words k = k
  takes_same (site ∷ sites) g i words k =
      from_first b s g i site sites words (a.turn s g i) (sym (alike.turn s of g i)) (by (a.turn s g i) (to_first a s g i site sites words (a.turn s g i) refl k) (λ h ws q. takes_same sites h (suc i) ws q))
    where
      by : (u : Turn) → TakesFirst a s g i site sites words u → ((h ws : List Word) → Takes a s h (suc i) sites ws → Takes b s h (suc i) sites ws) → TakesFirst b s g i site sites words u
      by Skip q again = again g words q
      by (Give w) q again = again g words q
      by Receive q again = (q.0, q.1, q.2, subst (λ (w : ℕ → ℕ). IsWordOf (w site.chan) q.0) alike.width q.3, again (g ++ q.0 ∷ []) q.1 q.4)

  open_same : (got : List Word) (done : ℕ) → IsOpen a s got done → IsOpen b s got done
  open_same got done h = record {
    within = subst (λ xs. done ≤ length xs) alike.sites h.within;
    state = subst (λ (t : Ty). IsOfType t s) alike.state h.state;
    words = takes_same (take done b.sites) [] 0 got (subst (λ xs. Takes a s [] 0 (take done xs) got) alike.sites h.words);
  }

  turn_same : (site : Site) (u : Turn) → TurnFits b site u → TurnFits a site u
  turn_same site Skip h = tt
  turn_same site Receive h = tt
  turn_same site (Give w) h = subst (λ (f : ℕ → ℕ). IsWordOf (f site.chan) w) (sym alike.width) h

keeps_alike : (a b : Behavior) → BehavesAlike a b → ((s : Value) (got : List Word) (i : ℕ) (site : Site) → slice_get a.sites i ≡ Some site → IsInDirection site (a.turn s got i)) → KeepsTypes b → KeepsTypes a
keeps_alike a b alike directions keep = record {
  directions = directions;
  turns = λ s got i site h e. subst (TurnFits a site) (sym (alike.turn s h.state got i))
      (turn_same a b alike s h.state site (b.turn s got i) (keep.turns s got i site (open_same a b alike s h.state got i h) (ap (λ xs. slice_get xs i) (sym alike.sites) ∙ e)));
  state = λ s got h. subst (λ (t : Ty). IsOfType t (a.next_state s got)) (sym alike.state)
      (subst (IsOfType b.state) (sym (alike.next_state s h.state got)) (keep.state s got (subst (λ xs. IsOpen b s got (length xs)) alike.sites (open_same a b alike s h.state got (length a.sites) h))));
}

-- ---- all procs

core_directions : (design : Design) (c : CoreElaborated) (s : Value) (got : List Word) (i : ℕ) (site : Site) → slice_get (core_behavior design c).sites i ≡ Some site → IsInDirection site ((core_behavior design c).turn s got i)
core_directions design c s got i site e =
    direction_there (sites_of_steps c.channels (c.instance).steps) (core_activation (functions_of design) c.instance s got).turns (steps_go c.channels (functions_of design) (c.instance).steps (c.instance).next (s ∷ []) got) i site e

each_keeps : (design : Design) (cs : List CoreElaborated) (bs : List Behavior) → EachBehavesAlike (map (core_behavior design) cs) bs → EachKeepsTypes bs → EachKeepsTypes (map (core_behavior design) cs)
each_keeps design [] bs h keep p b e = absurd (cc)
each_keeps design (c ∷ cs) [] h keep p b e = absurd h
each_keeps design (c ∷ cs) (y ∷ ys) h keep zero b e =
    subst KeepsTypes (same_some (core_behavior design c) b e) (keeps_alike (core_behavior design c) y h.0 (core_directions design c) (keep 0 y refl))
each_keeps design (c ∷ cs) (y ∷ ys) h keep (suc p) b e = each_keeps design cs ys h.1 (λ q x f. keep (suc q) x f) p b e

pub designs_keep_types : (design : Design) (bs : List Behavior) → EachBehavesAlike (core_behaviors design) bs → EachKeepsTypes bs → EachKeepsTypes (core_behaviors design)
designs_keep_types design bs h keep = each_keeps design (core_family design).procs bs h keep
