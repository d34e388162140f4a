-- What a body does from its first step on.
use Rattle.std.proofs.Common.{◌≡◌, ◌-◌, ℕ, List, [], ◌∷◌, drop, sym, ap, ◌∙◌, arith}
use Rattle.xb_bits.specs.Word.{Word}
use Rattle.xb_value.specs.declared.value.Value.{Value}
use Rattle.net_core.specs.Behavior.{Behavior, IsOpen, next_event}
use Rattle.net_core.specs.Nexts.{EventFits}
use Rattle.net_core.specs.declared.event.Event.{Event}
use Rattle.net_core.specs.declared.event.Event.TheVariants.{Recv, Send, End}
use Rattle.net_core.proofs.Lemmas.{next_keeps_types}
use Rattle.dslx_core.specs.Designs.{core_activation, do_steps, functions_from, functions_of, no_function}
use Rattle.dslx_core.specs.declared.design.Function.{Function}
use Rattle.dslx_core.specs.declared.design.Instance.{Instance}
use Rattle.dslx_core.specs.declared.step.Step.{Step}
use Rattle.dslx_interp.specs.Network.Bodies.{proc_at}
use Rattle.dslx_interp.specs.Network.DslxBodies.{behavior_of}
use Rattle.dslx_interp.specs.Network.Inner.Walking.{SendsAWord, event_behind, event_here}
use Rattle.dslx_interp.specs.declared.network.body.DslxBody.{DslxBody}
use Rattle.dslx_interp.specs.declared.network.walk.Walk.{Walk}
use Rattle.dslx_interp.proofs.OnNetwork.OnBody.Nexts.{event_is_next}

-- a walk before the first step has the proc's next event before it
pub begins : (body : DslxBody) (functions : List Function) (steps : List Step) (s : Value) (got : List Word) (done : ℕ) (walk : Walk)
    → functions ≡ (body.design.now).functions → steps ≡ (body.instance.now).steps → walk.bound.items ≡ s ∷ [] → walk.received ≡ 0 → walk.site ≡ 0
    → event_here (do_steps (functions_from 0 functions no_function) steps (body.instance.now).next) got done walk ≡ next_event (behavior_of body) s got done
begins body functions steps s got done walk same_functions same_steps bound received site =
    let design = body.design.now in
    let i = body.instance.now in
    let whole : done - 0 ≡ done = omega arith in
    ap (λ fs. event_here (do_steps (functions_from 0 fs no_function) steps i.next) got done walk) same_functions
    ∙ ap (λ ss. event_here (do_steps (functions_of design) ss i.next) got done walk) same_steps
    ∙ ap (λ b. event_behind (do_steps (functions_of design) i.steps i.next b (drop walk.received got)) (done - walk.site) walk.site) bound
    ∙ ap (λ r. event_behind (core_activation (functions_of design) i s (drop r got)) (done - walk.site) walk.site) received
    ∙ ap (λ k. event_behind (core_activation (functions_of design) i s got) (done - k) k) site
    ∙ ap (λ k. event_behind (core_activation (functions_of design) i s got) k 0) whole
    ∙ ap (λ (x : Instance). event_behind (core_activation (functions_of design) x s got) done 0) (sym body.is)
    ∙ event_is_next design (proc_at design body.number i) s got done

carried : (b : Behavior) (e : Event) → EventFits b e → SendsAWord e
carried b (Recv i) h = tt
carried b (Send i w) h = (h.3).word
carried b (End s) h = tt

-- what it sends next is a word
pub next_carries_word : (body : DslxBody) (s : Value) (got : List Word) (done : ℕ) → IsOpen (behavior_of body) s got done → SendsAWord (next_event (behavior_of body) s got done)
next_carries_word body s got done stands =
    carried (behavior_of body) (next_event (behavior_of body) s got done) (next_keeps_types (behavior_of body) body.keeps s got done stands)
