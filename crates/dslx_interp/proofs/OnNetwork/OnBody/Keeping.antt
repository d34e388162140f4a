-- A walk that goes on where an activation stood, and is kept where it waits.
use Rattle.std.proofs.Common.{◌≡◌, ℕ, ◌+◌, ◌<◌, List, [], ◌∷◌, ◌++◌, length, drop, get_or, true, Option, Some, None, refl, sym, ap, subst, ◌∙◌, arith}
use Rattle.std.proofs.lemmas.List.{append-nil}
use Rattle.xb_bits.specs.Word.{Word}
use Rattle.xb_value.specs.declared.value.Value.{Value}
use Rattle.net_core.specs.declared.activation.Activation.{Activation}
use Rattle.net_core.specs.declared.event.Event.{Event}
use Rattle.net_core.specs.declared.event.Event.TheVariants.{Recv, Send, End}
use Rattle.net_core.specs.Behavior.{next_event}
use Rattle.dslx_core.specs.CoreValues.{Bindings, Functions}
use Rattle.dslx_core.specs.Designs.{do_step, do_steps, functions_from, functions_of, no_function}
use Rattle.dslx_core.specs.declared.design.Design.{Design}
use Rattle.dslx_core.specs.declared.design.Function.{Function}
use Rattle.dslx_core.specs.declared.design.Instance.{Instance}
use Rattle.dslx_core.specs.declared.step.Step.{Step}
use Rattle.dslx_core.specs.declared.step.Step.TheVariants as form
use Rattle.dslx_interp.specs.Network.Bodies.{behavior_at}
use Rattle.dslx_interp.specs.Network.Inner.Keeps.{IsNextLater, KeepsAs, KeepsSteps, KeepsWalk, walk_of}
use Rattle.dslx_interp.specs.Network.Inner.Walking.{GoesLater, HasKept, IsSentAt, IsSentFirst, KeepsIf, StandsStill, WaitsIf, bound_from, event_here, is_at_site}
use Rattle.dslx_interp.specs.declared.network.body.DslxBody.{DslxBody}
use Rattle.dslx_interp.specs.declared.network.walk.Walk.{Walk}
use Rattle.dslx_interp.proofs.OnNetwork.OnBody.Bodies.{begins}
use Rattle.dslx_interp.specs.Network.Inner.Kept.{keeps_begin}
use Rattle.dslx_interp.proofs.OnNetwork.OnBody.Stepping.{stands_as}
use Rattle.dslx_interp.proofs.OnNetwork.OnBody.There.{drop_there}

-- ---- words that are known

pub none_sent : (calls : Functions) (left : List Step) (bound : Bindings) (sent : Option Word) → sent ≡ None → IsSentFirst calls left bound sent
none_sent calls [] bound sent e = e
none_sent calls (form.Bind x shape ∷ left) bound sent e = e
none_sent calls (form.Receive r ∷ left) bound sent e = e
none_sent calls (form.Send s ∷ left) bound sent e = subst (λ o. IsSentFirst calls (form.Send s ∷ left) bound o) (sym e) tt

pub first_sent : (calls : Functions) (steps : List Step) (k : ℕ) (x : Step) (bound : Bindings) (sent : Option Word) → k < length steps → x ≡ get_or steps k x
    → IsSentFirst calls (drop k steps) bound sent → IsSentAt calls x bound sent
first_sent calls steps k x bound sent within is h = subst (λ left. IsSentFirst calls left bound sent) (drop_there steps k x within is) h

-- ---- the event that is next

-- it is the next one now
pub next_now : (design : Design) (number : ℕ) (i : Instance) (calls : Functions) (s : Value) (got : List Word) (done : ℕ) (walk : Walk) (left : List Step)
    → IsNextLater design number i calls s got done walk left → event_here (do_steps calls left i.next) got done walk ≡ next_event (behavior_at design number i) s got done
next_now design number i calls s got done walk left next =
    subst (λ all. event_here (do_steps calls left i.next) all done walk ≡ next_event (behavior_at design number i) s all done) (append-nil got) (next [] done (omega arith))

module _ (design : Design) (number : ℕ) (i : Instance) (calls : Functions) (s : Value) (got : List Word) (done : ℕ) (old new : Walk) (steps : List Step) (k : ℕ) (x : Step)
    (within : k < length steps) (is : x ≡ get_or steps k x) (next : IsNextLater design number i calls s got done old (drop k steps)) where
  -- a walk goes on by a step
  pub step_past : GoesLater (do_step calls x) got done old new None → IsNextLater design number i calls s got done new (drop (k + 1) steps)
  step_past goes more later h =
      sym (goes more later h (do_steps calls (drop (k + 1) steps) i.next))
      ∙ ap (λ left. event_here (do_steps calls left i.next) (got ++ more) later old) (sym (drop_there steps k x within is))
      ∙ next more later h

  -- the event that a step gives
  pub step_event : (event : Event) → GoesLater (do_step calls x) got done old new (Some event) → event ≡ next_event (behavior_at design number i) s got done
  step_event event goes =
      sym (goes (do_steps calls (drop (k + 1) steps) i.next))
      ∙ ap (λ left. event_here (do_steps calls left i.next) got done old) (sym (drop_there steps k x within is))
      ∙ next_now design number i calls s got done old (drop k steps) next

-- ---- where it goes on

drop_zero : (k : ℕ) (steps : List Step) → k ≡ 0 → drop k steps ≡ steps
drop_zero k steps e = rw e refl

module _ (body : DslxBody) (functions : List Function) (steps : List Step) (s : Value) (got : List Word) (done : ℕ) (kept : Activation)
    (same_functions : functions ≡ (body.design.now).functions) (same_steps : steps ≡ (body.instance.now).steps) where
  -- what is said of the text's functions and steps
  calls_are : functions_from 0 functions no_function ≡ functions_of (body.design.now)
  calls_are = ap (λ fs. functions_from 0 fs no_function) same_functions

  left_is : (k : ℕ) → drop k steps ≡ drop k (body.instance.now).steps
  left_is k = ap (λ ss. drop k ss) same_steps

  resumed_as : (vs : Bindings) (walk : Walk) → kept.values.items ≡ vs → walk.bound.items ≡ bound_from vs s → walk.received ≡ kept.words → walk.site ≡ kept.sites
      → KeepsAs vs (body.design.now) body.number (body.instance.now) kept s got done
      → IsNextLater (body.design.now) body.number (body.instance.now) (functions_from 0 functions no_function) s got done walk (drop kept.steps steps)
  resumed_as [] walk e bound received site k more later h =
      begins body functions (drop kept.steps steps) s (got ++ more) later walk same_functions (drop_zero kept.steps steps k.0 ∙ same_steps) bound (received ∙ k.2) (site ∙ k.1)
  resumed_as (v ∷ vs) walk e bound received site k more later h =
      ap (λ calls. event_here (do_steps calls (drop kept.steps steps) (body.instance.now).next) (got ++ more) later walk) calls_are
      ∙ ap (λ left. event_here (do_steps (functions_of (body.design.now)) left (body.instance.now).next) (got ++ more) later walk) (left_is kept.steps)
      ∙ stands_as (do_steps (functions_of (body.design.now)) (drop kept.steps (body.instance.now).steps) (body.instance.now).next) (got ++ more) later walk (walk_of kept)
      (record { bound = e ∙ sym bound; received = sym received; site = sym site })
      ∙ k.next more later h

  pub resumed : (walk : Walk) → walk.bound.items ≡ bound_from kept.values.items s → walk.received ≡ kept.words → walk.site ≡ kept.sites
      → KeepsWalk (body.design.now) body.number (body.instance.now) kept s got done
      → IsNextLater (body.design.now) body.number (body.instance.now) (functions_from 0 functions no_function) s got done walk (drop kept.steps steps)
  resumed walk bound received site k = resumed_as kept.values.items walk refl bound received site k

  sent_as : (vs : Bindings) (walk : Walk) → kept.values.items ≡ vs → walk.bound.items ≡ bound_from vs s
      → KeepsAs vs (body.design.now) body.number (body.instance.now) kept s got done
      → IsSentFirst (functions_from 0 functions no_function) (drop kept.steps steps) walk.bound.items kept.sent
  sent_as [] walk e bound k = none_sent (functions_from 0 functions no_function) (drop kept.steps steps) walk.bound.items kept.sent k.3
  sent_as (v ∷ vs) walk e bound k =
      subst (λ calls. IsSentFirst calls (drop kept.steps steps) walk.bound.items kept.sent) (sym calls_are)
      (subst (λ left. IsSentFirst (functions_of (body.design.now)) left walk.bound.items kept.sent) (sym (left_is kept.steps))
      (subst (λ xs. IsSentFirst (functions_of (body.design.now)) (drop kept.steps (body.instance.now).steps) xs kept.sent) (e ∙ sym bound) k.sent))

  pub sent_resumed : (walk : Walk) → walk.bound.items ≡ bound_from kept.values.items s
      → KeepsWalk (body.design.now) body.number (body.instance.now) kept s got done
      → IsSentFirst (functions_from 0 functions no_function) (drop kept.steps steps) walk.bound.items kept.sent
  sent_resumed walk bound k = sent_as kept.values.items walk refl bound k

  -- ---- where it waits

  module _ (old new : Walk) (k : ℕ) (x : Step) (sent : Option Word) (within : k < length steps) (is : x ≡ get_or steps k x)
      (next : IsNextLater (body.design.now) body.number (body.instance.now) (functions_from 0 functions no_function) s got done old (drop k steps))
      (known : IsSentAt (functions_from 0 functions no_function) x old.bound.items sent) (still : StandsStill old new) where
    kept_next : HasKept new k sent kept
        → IsNextLater (body.design.now) body.number (body.instance.now) (functions_of (body.design.now)) s got done (walk_of kept) (drop kept.steps (body.instance.now).steps)
    kept_next has more later h =
        ap (λ n. event_here (do_steps (functions_of (body.design.now)) (drop n (body.instance.now).steps) (body.instance.now).next) (got ++ more) later (walk_of kept)) has.steps_are
        ∙ stands_as (do_steps (functions_of (body.design.now)) (drop k (body.instance.now).steps) (body.instance.now).next) (got ++ more) later (walk_of kept) old
        (record { bound = sym (has.values ∙ still.bound); received = sym (has.words ∙ still.received); site = sym (has.sites ∙ still.site) })
        ∙ ap (λ left. event_here (do_steps (functions_of (body.design.now)) left (body.instance.now).next) (got ++ more) later old) (sym (left_is k))
        ∙ ap (λ calls. event_here (do_steps calls (drop k steps) (body.instance.now).next) (got ++ more) later old) (sym calls_are)
        ∙ next more later h

    kept_sent : HasKept new k sent kept → IsSentFirst (functions_of (body.design.now)) (drop kept.steps (body.instance.now).steps) kept.values.items kept.sent
    kept_sent has =
        subst (λ n. IsSentFirst (functions_of (body.design.now)) (drop n (body.instance.now).steps) kept.values.items kept.sent) (sym has.steps_are)
        (subst (λ o. IsSentFirst (functions_of (body.design.now)) (drop k (body.instance.now).steps) kept.values.items o) (sym has.sent_is)
        (subst (λ xs. IsSentFirst (functions_of (body.design.now)) (drop k (body.instance.now).steps) xs sent) (sym (has.values ∙ still.bound))
        (subst (λ left. IsSentFirst (functions_of (body.design.now)) left old.bound.items sent) (left_is k)
        (subst (λ calls. IsSentFirst calls (drop k steps) old.bound.items sent) calls_are
        (subst (λ left. IsSentFirst (functions_from 0 functions no_function) left old.bound.items sent) (sym (drop_there steps k x within is)) known)))))

    kept_as : (vs : Bindings) → new.bound.items ≡ vs → KeepsIf vs new k sent kept → KeepsWalk (body.design.now) body.number (body.instance.now) kept s got done
    kept_as [] e h = keeps_begin (body.design.now) body.number (body.instance.now) kept s got done h
    kept_as (v ∷ vs) e h =
        let whole : KeepsSteps (body.design.now) body.number (body.instance.now) kept s got done = record { next = kept_next h; sent = kept_sent h } in
        subst (λ xs. KeepsAs xs (body.design.now) body.number (body.instance.now) kept s got done) (sym (h.values ∙ e)) whole

    pub kept_there : KeepsIf new.bound.items new k sent kept → KeepsWalk (body.design.now) body.number (body.instance.now) kept s got done
    kept_there h = kept_as new.bound.items refl h

-- the event of a site left the walk where it stood
pub still_there : (old new : Walk) (event : Event) → is_at_site event ≡ true → WaitsIf old new (Some event) → StandsStill old new
still_there old new (Recv i) e h = h
still_there old new (Send i w) e h = h
still_there old new (End s) e h = absurd (cc)
