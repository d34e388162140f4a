-- What each kind of step does to a walk.
use Rattle.std.proofs.Common.{◌≡◌, ℕ, zero, suc, ◌+◌, ◌-◌, ◌<◌, ◌≤◌, List, [], ◌∷◌, ◌++◌, drop, Bool, true, false, Option, Some, None, refl, sym, ap, subst, ◌∙◌, arith}
use Rattle.std.specs.Prelude.{slice_get, unwrap_or}
use Rattle.std.proofs.lemmas.List.{append-nil}
use Rattle.std.proofs.lemmas.Option.{slice_get_within}
use Rattle.base.proofs.Lemmas.Lists.Indices.{slice_get-append_left}
use Rattle.xb_bits.specs.Word.{Word, IsWord}
use Rattle.xb_value.specs.declared.ty.Ty.{Ty}
use Rattle.xb_value.specs.declared.value.Value.{Value}
use Rattle.xb_value.specs.Flat.{flat_of}
use Rattle.xb_value.specs.Unflat.{unflat_of}
use Rattle.net_core.specs.Behavior.{Turn, Skip, Receive, Give}
use Rattle.net_core.specs.declared.event.Event.{Event}
use Rattle.net_core.specs.declared.event.Event.TheVariants.{Recv, Send, End}
use Rattle.dslx_meaning.specs.Lists.{and_then}
use Rattle.dslx_core.specs.CoreValues.{Bindings, Functions, core_value}
use Rattle.dslx_core.specs.Designs.{Behind, CoreActivity, apart_then, condition_at, do_steps, go_behind, no_activity, on_or_off, receive_if, receive_on, send_if, send_on, token, turn_before, with_token}
use Rattle.dslx_core.specs.declared.expr.CoreExpr.{CoreExpr}
use Rattle.dslx_core.specs.declared.expr.Shape.{Shape}
use Rattle.dslx_interp.specs.declared.network.walk.Walk.{Walk}
use Rattle.dslx_interp.specs.Network.Inner.Walking.{SendsAWord, Goes, GoesLater, BindsOrEnds, HasWordIf, IsWordFor, StandsStill, WaitsIf, bound_then, event_behind, event_here, first_event, give_then, receive_off, send_off}

ended_is : (k i : ℕ) → event_behind no_activity k i ≡ End token
unfolding first_event
ended_is k i = refl

-- ---- values taken apart

-- a value is taken apart by a walk, whose event it is then
pub apart_goes : (shape : Shape) (value : Value) (got : List Word) (done : ℕ) (old new : Walk) (ended : Option Event) → BindsOrEnds shape value old new ended
    → Goes (λ rest bound words. apart_then shape rest bound (Some value) words) got done old new ended
apart_goes shape value got done old new None h = λ rest.
    ap (λ o. event_behind (go_behind rest o (drop old.received got)) (done - old.site) old.site) h.0
    ∙ (ap (λ r. event_behind (rest new.bound.items (drop r got)) (done - old.site) old.site) (sym h.1)
    ∙ ap (λ s. event_behind (rest new.bound.items (drop new.received got)) (done - s) s) (sym h.2))
apart_goes shape value got done old new (Some event) h = λ rest.
    ap (λ o. event_behind (go_behind rest o (drop old.received got)) (done - old.site) old.site) h.0
    ∙ (ended_is (done - old.site) old.site ∙ sym h.1)

-- the rest gives the same from where another walk stands as this one
pub stands_as : (rest : Behind) (got : List Word) (done : ℕ) (old mid : Walk) → StandsStill old mid → event_here rest got done old ≡ event_here rest got done mid
stands_as rest got done old mid h = λ t. event_behind (rest (sym h.bound t) (drop (sym h.received t) got)) (done - sym h.site t) (sym h.site t)

-- what a step gives is what another one gives from where the walk stands behind its site
pub goes_from : (f g : Behind → Behind) (got : List Word) (done : ℕ) (old mid new : Walk) (ended : Option Event)
    → ((rest : Behind) → event_here (f rest) got done old ≡ event_here (g rest) got done mid) → Goes g got done mid new ended → Goes f got done old new ended
goes_from f g got done old mid new None same h = λ rest. same rest ∙ h rest
goes_from f g got done old mid new (Some event) same h = λ rest. same rest ∙ h rest

-- so it is from a walk that stands as this one
pub goes_on_from : (f : Behind → Behind) (got : List Word) (done : ℕ) (old mid new : Walk) (ended : Option Event) → StandsStill old mid → Goes f got done mid new ended → Goes f got done old new ended
goes_on_from f got done old mid new ended stays h = goes_from f f got done old mid new ended (λ rest. stands_as (f rest) got done old mid stays) h

-- what a step does whatever comes later
pub later_goes : (f : Behind → Behind) (got : List Word) (done : ℕ) (old new : Walk) (ended : Option Event)
    → ((more : List Word) (later : ℕ) → done ≤ later → Goes f (got ++ more) later old new ended) → GoesLater f got done old new ended
later_goes f got done old new None h = h
later_goes f got done old new (Some event) h = subst (λ all. Goes f all done old new (Some event)) (append-nil got) (h [] done (omega arith))

pub ended_waits : (old new : Walk) (event : Event) → event ≡ End token → WaitsIf old new (Some event)
ended_waits old new event e = subst (λ x. WaitsIf old new (Some x)) (sym e) tt

-- a walk whose parts are taken apart comes to no site
pub bound_waits : (shape : Shape) (value : Value) (old mid new : Walk) (ended : Option Event) → BindsOrEnds shape value mid new ended → WaitsIf old new ended
bound_waits shape value old mid new None h = tt
bound_waits shape value old mid new (Some event) h = ended_waits old new event h.1

-- a word that is there stays there
pub word_stays : (got more : List Word) (k : ℕ) (w : Word) → slice_get got k ≡ Some w → slice_get (got ++ more) k ≡ Some w
word_stays got more k w e = slice_get-append_left got more k (slice_get_within got k w e) ∙ e

pub bind_goes : (calls : Functions) (e : CoreExpr) (shape : Shape) (got : List Word) (done : ℕ) (old mid new : Walk) (value : Value) (ended : Option Event)
    → Some value ≡ core_value e calls old.bound.items → StandsStill old mid → BindsOrEnds shape value mid new ended → Goes (bound_then calls e shape) got done old new ended
bind_goes calls e shape got done old mid new value ended is stays h =
    goes_from (bound_then calls e shape) (λ rest bound words. apart_then shape rest bound (Some value) words) got done old old new ended
    (λ rest. ap (λ v. event_behind (apart_then shape rest old.bound.items v (drop old.received got)) (done - old.site) old.site) (sym is))
    (goes_on_from (λ rest bound words. apart_then shape rest bound (Some value) words) got done old mid new ended stays (apart_goes shape value got done mid new ended h))

pub bind_without : (calls : Functions) (e : CoreExpr) (shape : Shape) (got : List Word) (done : ℕ) (old : Walk) → None ≡ core_value e calls old.bound.items
    → (rest : Behind) → event_here (bound_then calls e shape rest) got done old ≡ End token
bind_without calls e shape got done old is rest =
    ap (λ o. event_behind (apart_then shape rest old.bound.items o (drop old.received got)) (done - old.site) old.site) (sym is) ∙ ended_is (done - old.site) old.site

-- ---- sites that are past, and sites that are off

past_site : (t : Turn) (a : CoreActivity) (done site : ℕ) → site < done → event_behind (turn_before t a) (done - site) site ≡ event_behind a (done - (site + 1)) (site + 1)
unfolding first_event
past_site t a done site h =
    let e : done - site ≡ suc (done - (site + 1)) = omega arith in
    let f : suc site ≡ site + 1 = omega arith in
    ap (λ k. event_behind (turn_before t a) k site) e ∙ ap (λ i. event_behind a (done - (site + 1)) i) f

off_site : (a : CoreActivity) (done site : ℕ) → event_behind (turn_before Skip a) (done - site) site ≡ event_behind a (done - (site + 1)) (site + 1)
unfolding first_event
off_site a done site = by_left (done - site) refl
  where
    by_left : (k : ℕ) → done - site ≡ k → event_behind (turn_before Skip a) k site ≡ event_behind a (done - (site + 1)) (site + 1)
    by_left zero e =
        let f : suc site ≡ site + 1 = omega arith in
        let g : 0 ≡ done - (site + 1) = omega (arith, e) in
        ap (λ i. event_behind a 0 i) f ∙ ap (λ k. event_behind a k (site + 1)) g
    by_left (suc k) e =
        let f : suc site ≡ site + 1 = omega arith in
        let g : k ≡ done - (site + 1) = omega (arith, e) in
        ap (λ i. event_behind a k i) f ∙ ap (λ n. event_behind a n (site + 1)) g

-- the value that stands for a site that is off is taken apart behind it
pub off_goes : (shape : Shape) (value : Value) (got : List Word) (done : ℕ) (old mid new : Walk) (ended : Option Event)
    → mid.bound ≡ old.bound → mid.received ≡ old.received → mid.site ≡ old.site + 1 → BindsOrEnds shape value mid new ended
    → Goes (λ rest bound words. turn_before Skip (apart_then shape rest bound (Some value) words)) got done old new ended
off_goes shape value got done old mid new ended bound r s h =
    goes_from (λ rest bound words. turn_before Skip (apart_then shape rest bound (Some value) words)) (λ rest bound words. apart_then shape rest bound (Some value) words) got done old mid new ended
    (λ rest. off_site (apart_then shape rest old.bound.items (Some value) (drop old.received got)) done old.site ∙ rw (bound, r, s) refl)
    (apart_goes shape value got done mid new ended h)

pub receive_off_goes : (calls : Functions) (e : CoreExpr) (shape : Shape) (value pair : Value) (got : List Word) (done : ℕ) (old stood mid new : Walk) (ended : Option Event)
    → Some value ≡ core_value e calls old.bound.items → pair ≡ with_token value → StandsStill old stood → mid.bound ≡ stood.bound → mid.received ≡ stood.received → mid.site ≡ stood.site + 1
    → BindsOrEnds shape pair mid new ended → Goes (receive_off calls e shape) got done old new ended
receive_off_goes calls e shape value pair got done old stood mid new ended is same stays bound r s h =
    goes_from (receive_off calls e shape) (λ rest bound words. turn_before Skip (apart_then shape rest bound (Some pair) words)) got done old old new ended
    (λ rest.
    ap (λ o. event_behind (turn_before Skip (apart_then shape rest old.bound.items (and_then o (λ v. Some (with_token v))) (drop old.received got))) (done - old.site) old.site) (sym is)
    ∙ ap (λ v. event_behind (turn_before Skip (apart_then shape rest old.bound.items (Some v) (drop old.received got))) (done - old.site) old.site) (sym same))
    (goes_on_from (λ rest bound words. turn_before Skip (apart_then shape rest bound (Some pair) words)) got done old stood new ended stays (off_goes shape pair got done stood mid new ended bound r s h))

pub receive_off_without : (calls : Functions) (e : CoreExpr) (shape : Shape) (got : List Word) (done : ℕ) (old : Walk) → None ≡ core_value e calls old.bound.items
    → (rest : Behind) → event_here (receive_off calls e shape rest) got done old ≡ End token
receive_off_without calls e shape got done old is rest =
    ap (λ o. event_behind (turn_before Skip (apart_then shape rest old.bound.items (and_then o (λ v. Some (with_token v))) (drop old.received got))) (done - old.site) old.site) (sym is)
    ∙ off_site no_activity done old.site ∙ ended_is (done - (old.site + 1)) (old.site + 1)

-- ---- receives

dropped_none : (xs : List Word) (r : ℕ) → slice_get xs r ≡ None → drop r xs ≡ []
dropped_none [] zero h = refl
dropped_none [] (suc r) h = refl
dropped_none (x ∷ xs) zero h = absurd (cc)
dropped_none (x ∷ xs) (suc r) h = dropped_none xs r h

dropped_some : (xs : List Word) (r : ℕ) (w : Word) → slice_get xs r ≡ Some w → drop r xs ≡ w ∷ drop (r + 1) xs
dropped_some [] zero w h = absurd (cc)
dropped_some [] (suc r) w h = absurd (cc)
dropped_some (x ∷ xs) zero w h =
    let same : x ≡ w = cc in
    ap (λ y. y ∷ xs) same
dropped_some (x ∷ xs) (suc r) w h =
    let e : suc r + 1 ≡ suc (r + 1) = omega arith in
    dropped_some xs r w h ∙ ap (λ n. w ∷ drop n (x ∷ xs)) (sym e)

receive_turn : (t : Ty) (shape : Shape) (rest : Behind) (bound : Bindings) (words : List Word) (site : ℕ) → event_behind (receive_on t shape rest bound words) 0 site ≡ Recv site
unfolding first_event
receive_turn t shape rest bound [] site = refl
receive_turn t shape rest bound (w ∷ words) site = refl

-- the site that is asked for
pub receive_here : (t : Ty) (shape : Shape) (got : List Word) (done : ℕ) (old new : Walk) → done ≤ old.site → Goes (receive_on t shape) got done old new (Some (Recv old.site))
receive_here t shape got done old new at rest =
    let none : done - old.site ≡ 0 = omega (arith, at) in
    ap (λ k. event_behind (receive_on t shape rest old.bound.items (drop old.received got)) k old.site) none
    ∙ receive_turn t shape rest old.bound.items (drop old.received got) old.site

no_word_turn : (k site : ℕ) → event_behind (record { turns = Receive ∷ []; last = None }) (suc k) site ≡ End token
unfolding first_event
no_word_turn k site = refl

-- a site that is past, of which no word is there
pub receive_without : (t : Ty) (shape : Shape) (got : List Word) (done : ℕ) (old new : Walk) → old.site < done → slice_get got old.received ≡ None → Goes (receive_on t shape) got done old new (Some (End token))
receive_without t shape got done old new before none rest =
    let some : done - old.site ≡ suc (done - (old.site + 1)) = omega (arith, before) in
    ap (λ words. event_behind (receive_on t shape rest old.bound.items words) (done - old.site) old.site) (dropped_none got old.received none)
    ∙ ap (λ k. event_behind (record { turns = Receive ∷ []; last = None }) k old.site) some
    ∙ no_word_turn (done - (old.site + 1)) old.site

pub receive_goes : (t : Ty) (shape : Shape) (got : List Word) (done : ℕ) (old mid new : Walk) (w : Word) (value : Value) (ended : Option Event) → old.site < done
    → slice_get got old.received ≡ Some w → value ≡ with_token (unflat_of t w.value) → mid.bound ≡ old.bound → mid.received ≡ old.received + 1 → mid.site ≡ old.site + 1
    → BindsOrEnds shape value mid new ended → Goes (receive_on t shape) got done old new ended
receive_goes t shape got done old mid new w value ended before there is bound r s h =
    goes_from (receive_on t shape) (λ rest bound words. apart_then shape rest bound (Some value) words) got done old mid new ended
    (λ rest.
    ap (λ words. event_behind (receive_on t shape rest old.bound.items words) (done - old.site) old.site) (dropped_some got old.received w there)
    ∙ past_site Receive (apart_then shape rest old.bound.items (Some (with_token (unflat_of t w.value))) (drop (old.received + 1) got)) done old.site before
    ∙ ap (λ v. event_behind (apart_then shape rest old.bound.items (Some v) (drop (old.received + 1) got)) (done - (old.site + 1)) (old.site + 1)) (sym is)
    ∙ rw (bound, r, s) refl)
    (apart_goes shape value got done mid new ended h)

-- ---- sends

give_turn : (shape : Shape) (rest : Behind) (bound : Bindings) (v : Value) (words : List Word) (site : ℕ) → event_behind (send_on shape rest bound (Some v) words) 0 site ≡ Send site (flat_of v)
unfolding first_event
give_turn shape rest bound v words site = refl

-- the site that is asked for
pub send_here : (calls : Functions) (e : CoreExpr) (shape : Shape) (got : List Word) (done : ℕ) (old new : Walk) (v : Value) → done ≤ old.site → Some v ≡ core_value e calls old.bound.items
    → Goes (give_then calls e shape) got done old new (Some (Send old.site (flat_of v)))
send_here calls e shape got done old new v at is rest =
    let none : done - old.site ≡ 0 = omega (arith, at) in
    ap (λ o. event_behind (send_on shape rest old.bound.items o (drop old.received got)) (done - old.site) old.site) (sym is)
    ∙ ap (λ k. event_behind (send_on shape rest old.bound.items (Some v) (drop old.received got)) k old.site) none
    ∙ give_turn shape rest old.bound.items v (drop old.received got) old.site

-- what is sent there is a word
pub word_here : (calls : Functions) (e : CoreExpr) (shape : Shape) (got : List Word) (done : ℕ) (old : Walk) (v : Value) → done ≤ old.site → Some v ≡ core_value e calls old.bound.items
    → (rest : Behind) → SendsAWord (event_here (give_then calls e shape rest) got done old) → IsWord (flat_of v)
word_here calls e shape got done old v at is rest h = subst SendsAWord (send_here calls e shape got done old old v at is rest) h

pub send_without : (calls : Functions) (e : CoreExpr) (shape : Shape) (got : List Word) (done : ℕ) (old new : Walk) → None ≡ core_value e calls old.bound.items
    → Goes (give_then calls e shape) got done old new (Some (End token))
send_without calls e shape got done old new is rest =
    ap (λ o. event_behind (send_on shape rest old.bound.items o (drop old.received got)) (done - old.site) old.site) (sym is)
    ∙ ended_is (done - old.site) old.site

pub send_goes : (calls : Functions) (e : CoreExpr) (shape : Shape) (got : List Word) (done : ℕ) (old mid new : Walk) (v : Value) (ended : Option Event) → old.site < done
    → Some v ≡ core_value e calls old.bound.items → mid.bound ≡ old.bound → mid.received ≡ old.received → mid.site ≡ old.site + 1
    → BindsOrEnds shape token mid new ended → Goes (give_then calls e shape) got done old new ended
send_goes calls e shape got done old mid new v ended before is bound r s h =
    goes_from (give_then calls e shape) (λ rest bound words. apart_then shape rest bound (Some token) words) got done old mid new ended
    (λ rest.
    ap (λ o. event_behind (send_on shape rest old.bound.items o (drop old.received got)) (done - old.site) old.site) (sym is)
    ∙ past_site (Give (flat_of v)) (apart_then shape rest old.bound.items (Some token) (drop old.received got)) done old.site before
    ∙ rw (bound, r, s) refl)
    (apart_goes shape token got done mid new ended h)

-- ---- sites with a condition

module _ (calls : Functions) (t : Ty) (on otherwise : CoreExpr) (shape : Shape) (got : List Word) (done : ℕ) (old : Walk) where
  receive_by : (b : Option Bool) → b ≡ condition_at calls on old.bound.items → (rest : Behind)
      → event_here (receive_if calls t (Some (on, otherwise)) shape rest) got done old
      ≡ event_behind (on_or_off b (receive_on t shape rest old.bound.items (drop old.received got)) shape rest old.bound.items (and_then (core_value otherwise calls old.bound.items) (λ v. Some (with_token v))) (drop old.received got)) (done - old.site) old.site
  receive_by b is rest =
      ap (λ o. event_behind (on_or_off o (receive_on t shape rest old.bound.items (drop old.received got)) shape rest old.bound.items (and_then (core_value otherwise calls old.bound.items) (λ v. Some (with_token v))) (drop old.received got)) (done - old.site) old.site) (sym is)

  pub receive_is_on : (new : Walk) (ended : Option Event) → Some true ≡ condition_at calls on old.bound.items → Goes (receive_on t shape) got done old new ended → Goes (receive_if calls t (Some (on, otherwise)) shape) got done old new ended
  receive_is_on new ended is h = goes_from (receive_if calls t (Some (on, otherwise)) shape) (receive_on t shape) got done old old new ended (receive_by (Some true) is) h

  pub receive_is_off : (new : Walk) (ended : Option Event) → Some false ≡ condition_at calls on old.bound.items → Goes (receive_off calls otherwise shape) got done old new ended → Goes (receive_if calls t (Some (on, otherwise)) shape) got done old new ended
  receive_is_off new ended is h = goes_from (receive_if calls t (Some (on, otherwise)) shape) (receive_off calls otherwise shape) got done old old new ended (receive_by (Some false) is) h

  pub receive_is_neither : (new : Walk) → None ≡ condition_at calls on old.bound.items → Goes (receive_if calls t (Some (on, otherwise)) shape) got done old new (Some (End token))
  receive_is_neither new is rest = receive_by None is rest ∙ ended_is (done - old.site) old.site

module _ (calls : Functions) (e on : CoreExpr) (shape : Shape) (got : List Word) (done : ℕ) (old : Walk) where
  send_by : (b : Option Bool) → b ≡ condition_at calls on old.bound.items → (rest : Behind)
      → event_here (send_if calls e (Some on) shape rest) got done old
      ≡ event_behind (on_or_off b (give_then calls e shape rest old.bound.items (drop old.received got)) shape rest old.bound.items (Some token) (drop old.received got)) (done - old.site) old.site
  send_by b is rest =
      ap (λ o. event_behind (on_or_off o (give_then calls e shape rest old.bound.items (drop old.received got)) shape rest old.bound.items (Some token) (drop old.received got)) (done - old.site) old.site) (sym is)

  pub send_is_on : (new : Walk) (ended : Option Event) → Some true ≡ condition_at calls on old.bound.items → Goes (give_then calls e shape) got done old new ended → Goes (send_if calls e (Some on) shape) got done old new ended
  send_is_on new ended is h = goes_from (send_if calls e (Some on) shape) (give_then calls e shape) got done old old new ended (send_by (Some true) is) h

  pub word_is_on : Some true ≡ condition_at calls on old.bound.items → (rest : Behind) → SendsAWord (event_here (send_if calls e (Some on) shape rest) got done old) → SendsAWord (event_here (give_then calls e shape rest) got done old)
  word_is_on is rest h = subst SendsAWord (send_by (Some true) is rest) h

  pub send_is_off : (new : Walk) (ended : Option Event) → Some false ≡ condition_at calls on old.bound.items → Goes (send_off shape) got done old new ended → Goes (send_if calls e (Some on) shape) got done old new ended
  send_is_off new ended is h = goes_from (send_if calls e (Some on) shape) (send_off shape) got done old old new ended (send_by (Some false) is) h

  pub send_is_neither : (new : Walk) → None ≡ condition_at calls on old.bound.items → Goes (send_if calls e (Some on) shape) got done old new (Some (End token))
  send_is_neither new is rest = send_by None is rest ∙ ended_is (done - old.site) old.site

-- ---- the end of the steps

pub at_end : (calls : Functions) (next : CoreExpr) (bound : Bindings) (words : List Word) (k i : ℕ) → event_behind (do_steps calls [] next bound words) k i ≡ End (unwrap_or (core_value next calls bound) token)
unfolding first_event
at_end calls next bound words k i = refl

-- ---- words that are known

-- the value of a word that is known
pub known_value : (value : Option Value) (w : Word) → IsWordFor value (Some w) → (v : Value) × (value ≡ Some v) × (flat_of v ≡ w)
known_value None w h = absurd (cc)
known_value (Some v) w h = let same : flat_of v ≡ w = cc in (v, refl, same)

-- a walk goes past a send that has a word
pub past_send : (calls : Functions) (e : CoreExpr) (shape : Shape) (got : List Word) (done : ℕ) (old stood mid new : Walk) (ended : Option Event) → old.site < done
    → HasWordIf (core_value e calls old.bound.items) old stood true → mid.bound ≡ stood.bound → mid.received ≡ stood.received → mid.site ≡ stood.site + 1
    → BindsOrEnds shape token mid new ended → GoesLater (give_then calls e shape) got done old new ended
past_send calls e shape got done old stood mid new ended before there bound r s h =
    later_goes (give_then calls e shape) got done old new ended (λ more later l.
    goes_on_from (give_then calls e shape) (got ++ more) later old stood new ended there.1
    (send_goes calls e shape (got ++ more) later stood mid new there.0.0 ended (omega (arith, l, before, there.1.site))
    (sym there.0.1 ∙ ap (core_value e calls) (sym there.1.bound)) bound r s h))
