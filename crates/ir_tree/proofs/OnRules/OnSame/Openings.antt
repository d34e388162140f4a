-- Where an activation can stand, and the event that comes next, in procs that do the same.
use Rattle.std.proofs.Common.{◌≡◌, ℕ, zero, suc, ◌<◌, ◌≤◌, List, [], ◌∷◌, ◌++◌, length, take, drop, Some, refl, sym, ap, subst, ◌∙◌, arith, length-append}
use Rattle.std.specs.Prelude.{slice_get}
use Rattle.std.proofs.lemmas.List.{append-nil, append_assoc}
use Rattle.xb_bits.specs.Word.{Word}
use Rattle.xb_value.specs.declared.value.Value.{Value}
use Rattle.xb_value.specs.Typing.{IsOfType}
use Rattle.net_core.specs.declared.net.Site.{Site}
use Rattle.net_core.specs.declared.event.Event.{Event}
use Rattle.net_core.specs.declared.event.Event.TheVariants.{Recv, Send, End}
use Rattle.net_core.specs.Behavior.{Behavior, Turn, Skip, Receive, Give, IsWordOf, Takes, IsOpen, event_from, next_event}
use Rattle.ir_tree.specs.SameBehavior.{SameActivations}
use Rattle.ir_tree.proofs.OnRules.OnSame.Takings.{TakesBy, to_by, from_by, Adds, takes_more}

-- ---- lists in front and behind

prefix_take : (pre xs : List Site) (i : ℕ) → i ≡ length pre → take i (pre ++ xs) ≡ pre
prefix_take [] xs zero e = refl
prefix_take [] xs (suc i) e = absurd (omega (arith, e))
prefix_take (y ∷ ys) xs zero e = absurd (omega (arith, e))
prefix_take (y ∷ ys) xs (suc i) e = ap (λ zs. y ∷ zs) (prefix_take ys xs i (omega (arith, e)))

there : (pre xs : List Site) (x : Site) (i : ℕ) → i ≡ length pre → slice_get (pre ++ x ∷ xs) i ≡ Some x
there [] xs x zero e = refl
there [] xs x (suc i) e = absurd (omega (arith, e))
there (y ∷ ys) xs x zero e = absurd (omega (arith, e))
there (y ∷ ys) xs x (suc i) e = there ys xs x i (omega (arith, e))

-- ---- the words of the sites in front, in the one and in the other

-- a place among the sites of both, where the sites in front took these words
record Stands (a : Behavior) (s : Value) (got : List Word) (i : ℕ) (pre xs : List Site) : Type 0 where
  pub sites : a.sites ≡ pre ++ xs
  pub place : i ≡ length pre
  pub state : IsOfType a.state s
  pub words : Takes a s [] 0 pre got

stands_open : (a : Behavior) (s : Value) (got : List Word) (i : ℕ) (pre xs : List Site) → Stands a s got i pre xs → IsOpen a s got i
stands_open a s got i pre xs h = record {
  within = omega (arith, h.place, ap length h.sites, length-append pre xs);
  state = h.state;
  words = subst (λ ys. Takes a s [] 0 ys got) (sym (ap (take i) h.sites ∙ prefix_take pre xs i h.place)) h.words;
}

same_turn : (a b : Behavior) (same : SameActivations a b) (s : Value) (got : List Word) (i : ℕ) (pre xs : List Site) (x : Site) → Stands a s got i pre (x ∷ xs) → a.turn s got i ≡ b.turn s got i
same_turn a b same s got i pre xs x h =
    let less : i < length a.sites = omega (arith, h.place, ap length h.sites, length-append pre (x ∷ xs)) in
    same.turn s got i (stands_open a s got i pre (x ∷ xs) h) less

same_width : (a b : Behavior) (same : SameActivations a b) (s : Value) (got : List Word) (i : ℕ) (pre xs : List Site) (x : Site) → Stands a s got i pre (x ∷ xs) → a.width x.chan ≡ b.width x.chan
same_width a b same s got i pre xs x h =
    same.width i x (subst (λ ys. slice_get ys i ≡ Some x) (sym h.sites) (there pre xs x i h.place))

stands_more : (a : Behavior) (s : Value) (got more : List Word) (i : ℕ) (pre xs : List Site) (x : Site) → Stands a s got i pre (x ∷ xs) → Adds a x (a.turn s got i) more → Stands a s (got ++ more) (suc i) (pre ++ x ∷ []) xs
stands_more a s got more i pre xs x h adds = record {
  sites = h.sites ∙ sym (append_assoc pre (x ∷ []) xs);
  place = omega (arith, h.place, length-append pre (x ∷ []));
  state = h.state;
  words = takes_more a s pre x [] got more 0 i got (omega (arith, h.place)) refl h.words adds;
}

-- what the sites up to the end of a list take in the one they take in the other
carries : (a b : Behavior) (same : SameActivations a b) (s : Value) (ys zs pre : List Site) (got words : List Word) (i : ℕ) → Stands a s got i pre (ys ++ zs) → Takes a s got i ys words → Takes b s got i ys words
carries a b same s [] zs pre got words i h takes = takes
carries a b same s (y ∷ ys) zs pre got words i h takes =
    from_by b s got i y ys words (a.turn s got i) (sym (same_turn a b same s got i pre (ys ++ zs) y h))
    (by (a.turn s got i) refl (to_by a s got i y ys words (a.turn s got i) refl takes) (λ more rest. carries a b same s ys zs (pre ++ y ∷ []) (got ++ more) rest (suc i)))
  where
    by : (t : Turn) → a.turn s got i ≡ t → TakesBy a s got i y ys words t → ((more rest : List Word) → Stands a s (got ++ more) (suc i) (pre ++ y ∷ []) (ys ++ zs) → Takes a s (got ++ more) (suc i) ys rest → Takes b s (got ++ more) (suc i) ys rest) → TakesBy b s got i y ys words t
    by Skip e z again =
        subst (λ g. Takes b s g (suc i) ys words) (append-nil got)
        (again [] words (stands_more a s got [] i pre (ys ++ zs) y h (subst (λ t. Adds a y t []) (sym e) refl)) (subst (λ g. Takes a s g (suc i) ys words) (sym (append-nil got)) z))
    by Receive e z again = (
      z.0,
      z.1,
      z.2,
      subst (λ w. IsWordOf w z.0) (same_width a b same s got i pre (ys ++ zs) y h) z.3,
      again (z.0 ∷ []) z.1 (stands_more a s got (z.0 ∷ []) i pre (ys ++ zs) y h (subst (λ t. Adds a y t (z.0 ∷ [])) (sym e) (z.0, refl, z.3))) z.4,
    )
    by (Give w) e z again =
        subst (λ g. Takes b s g (suc i) ys words) (append-nil got)
        (again [] words (stands_more a s got [] i pre (ys ++ zs) y h (subst (λ t. Adds a y t []) (sym e) refl)) (subst (λ g. Takes a s g (suc i) ys words) (sym (append-nil got)) z))

carries_back : (a b : Behavior) (same : SameActivations a b) (s : Value) (ys zs pre : List Site) (got words : List Word) (i : ℕ) → Stands a s got i pre (ys ++ zs) → Takes b s got i ys words → Takes a s got i ys words
carries_back a b same s [] zs pre got words i h takes = takes
carries_back a b same s (y ∷ ys) zs pre got words i h takes =
    from_by a s got i y ys words (a.turn s got i) refl
    (by (a.turn s got i) refl (to_by b s got i y ys words (a.turn s got i) (sym (same_turn a b same s got i pre (ys ++ zs) y h)) takes) (λ more rest. carries_back a b same s ys zs (pre ++ y ∷ []) (got ++ more) rest (suc i)))
  where
    by : (t : Turn) → a.turn s got i ≡ t → TakesBy b s got i y ys words t → ((more rest : List Word) → Stands a s (got ++ more) (suc i) (pre ++ y ∷ []) (ys ++ zs) → Takes b s (got ++ more) (suc i) ys rest → Takes a s (got ++ more) (suc i) ys rest) → TakesBy a s got i y ys words t
    by Skip e z again =
        subst (λ g. Takes a s g (suc i) ys words) (append-nil got)
        (again [] words (stands_more a s got [] i pre (ys ++ zs) y h (subst (λ t. Adds a y t []) (sym e) refl)) (subst (λ g. Takes b s g (suc i) ys words) (sym (append-nil got)) z))
    by Receive e z again =
        let word : IsWordOf (a.width y.chan) z.0 = subst (λ w. IsWordOf w z.0) (sym (same_width a b same s got i pre (ys ++ zs) y h)) z.3 in (
          z.0,
          z.1,
          z.2,
          word,
          again (z.0 ∷ []) z.1 (stands_more a s got (z.0 ∷ []) i pre (ys ++ zs) y h (subst (λ t. Adds a y t (z.0 ∷ [])) (sym e) (z.0, refl, word))) z.4,
        )
    by (Give w) e z again =
        subst (λ g. Takes a s g (suc i) ys words) (append-nil got)
        (again [] words (stands_more a s got [] i pre (ys ++ zs) y h (subst (λ t. Adds a y t []) (sym e) refl)) (subst (λ g. Takes b s g (suc i) ys words) (sym (append-nil got)) z))

take_drop : (i : ℕ) (xs : List Site) → take i xs ++ drop i xs ≡ xs
take_drop zero xs = refl
take_drop (suc i) [] = refl
take_drop (suc i) (x ∷ xs) = ap (λ ys. x ∷ ys) (take_drop i xs)

take_length : (i : ℕ) (xs : List Site) → i ≤ length xs → length (take i xs) ≡ i
take_length zero xs h = refl
take_length (suc i) [] h = absurd (omega arith)
take_length (suc i) (x ∷ xs) h = ap suc (take_length i xs (omega (arith, h)))

pub opens : (a b : Behavior) (s : Value) (got : List Word) (done : ℕ) → SameActivations a b → IsOpen a s got done → IsOpen b s got done
opens a b s got done same h =
    let first : Stands a s [] 0 [] (take done a.sites ++ drop done a.sites) = record { sites = sym (take_drop done a.sites); place = refl; state = h.state; words = refl } in
    record {
      within = subst (λ ys. done ≤ length ys) same.sites h.within;
      state = subst (λ t. IsOfType t s) same.state h.state;
      words = subst (λ ys. Takes b s [] 0 (take done ys) got) same.sites (carries a b same s (take done a.sites) (drop done a.sites) [] [] got 0 first h.words);
    }

pub reopens : (a b : Behavior) (s : Value) (got : List Word) (done : ℕ) → SameActivations a b → IsOpen b s got done → IsOpen a s got done
reopens a b s got done same h =
    let state : IsOfType a.state s = subst (λ t. IsOfType t s) (sym same.state) h.state in
    let first : Stands a s [] 0 [] (take done a.sites ++ drop done a.sites) = record { sites = sym (take_drop done a.sites); place = refl; state = state; words = refl } in
    record {
      within = subst (λ ys. done ≤ length ys) (sym same.sites) h.within;
      state = state;
      words = carries_back a b same s (take done a.sites) (drop done a.sites) [] [] got 0 first (subst (λ ys. Takes b s [] 0 (take done ys) got) (sym same.sites) h.words);
    }

-- ---- the next event

event_at : Behavior → Value → List Word → ℕ → List Site → Turn → Event
event_at b s got i sites Skip = event_from b s got (suc i) sites
event_at b s got i sites Receive = Recv i
event_at b s got i sites (Give w) = Send i w

event_end : (b : Behavior) (s : Value) (got : List Word) (i : ℕ) → event_from b s got i [] ≡ End (b.next_state s got)
unfolding event_from
event_end b s got i = refl

event_by : (b : Behavior) (s : Value) (got : List Word) (i : ℕ) (site : Site) (sites : List Site) (t : Turn) → b.turn s got i ≡ t → event_from b s got i (site ∷ sites) ≡ event_at b s got i sites t
unfolding event_from event_at
event_by b s got i site sites Skip e = rw (e, event_from) refl
event_by b s got i site sites Receive e = rw (e, event_from) refl
event_by b s got i site sites (Give w) e = rw (e, event_from) refl

same_event : (a b : Behavior) (same : SameActivations a b) (s : Value) (got : List Word) (xs pre : List Site) (i : ℕ) → Stands a s got i pre xs → event_from a s got i xs ≡ event_from b s got i xs
unfolding event_at
same_event a b same s got [] pre i h =
    let all : i ≡ length a.sites = omega (arith, h.place, ap length h.sites, length-append pre []) in
    event_end a s got i
    ∙ ap End (same.next_state s got (subst (IsOpen a s got) all (stands_open a s got i pre [] h)))
    ∙ sym (event_end b s got i)
same_event a b same s got (x ∷ xs) pre i h =
    event_by a s got i x xs (a.turn s got i) refl
    ∙ by (a.turn s got i) refl (λ more. same_event a b same s got xs (pre ++ x ∷ []) (suc i))
    ∙ sym (event_by b s got i x xs (a.turn s got i) (sym (same_turn a b same s got i pre xs x h)))
  where
    by : (t : Turn) → a.turn s got i ≡ t → (ℕ → Stands a s got (suc i) (pre ++ x ∷ []) xs → event_from a s got (suc i) xs ≡ event_from b s got (suc i) xs) → event_at a s got i xs t ≡ event_at b s got i xs t
    by Skip e again = again 0 (subst (λ g. Stands a s g (suc i) (pre ++ x ∷ []) xs) (append-nil got) (stands_more a s got [] i pre xs x h (subst (λ t. Adds a x t []) (sym e) refl)))
    by Receive e again = refl
    by (Give w) e again = refl

pub events : (a b : Behavior) (s : Value) (got : List Word) (done : ℕ) → SameActivations a b → IsOpen a s got done → next_event a s got done ≡ next_event b s got done
unfolding next_event
events a b s got done same h =
    let stands : Stands a s got done (take done a.sites) (drop done a.sites) = record { sites = sym (take_drop done a.sites); place = sym (take_length done a.sites h.within); state = h.state; words = h.words } in
    same_event a b same s got (drop done a.sites) (take done a.sites) done stands
    ∙ ap (λ ys. event_from b s got done (drop done ys)) same.sites
