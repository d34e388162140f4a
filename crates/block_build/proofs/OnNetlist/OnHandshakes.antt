-- The wires of a stage's sites show the machine's walk.
use Rattle.std.proofs.Common.{◌≡◌, ℕ, zero, suc, ◌<◌, ◌≤◌, List, [], ◌∷◌, ◌++◌, length, refl, sym, ap, ◌∙◌, arith, true, false, Bool, eqb, Option, Some, None}
use Rattle.std.specs.Prelude.{◌&&◌, ◌||◌, not, is_some}
use Rattle.std.proofs.lemmas.Bool.Decides.{nat_tests}
use Rattle.xb_bits.specs.Word.{Word}
use Rattle.xb_value.specs.declared.value.Value.{Value}
use Rattle.net_core.specs.Behavior.{Behavior, Turn, Skip, Receive, Give, chan_at}
use Rattle.block_stage.specs.declared.machine.logic.Step.{Step}
use Rattle.block_stage.specs.declared.machine.logic.Step.TheVariants.{Pass, Recall, Take, Put, AwaitWord, AwaitRoom}
use Rattle.block_stage.specs.Machine.Cycle.{Ports, Walk, Circuit, circuit, walk_by, follow, step_of}
use Rattle.vlog_tree.specs.declared.expression.Atom.{Atom}
use Rattle.vlog_tree.specs.Value.{Values, bit, atom_value}
use Rattle.block_build.specs.Netlist.Wires.{AreWired}
use Rattle.block_build.specs.Netlist.Gates.{net}
use Rattle.block_build.specs.Netlist.Handshakes.{SiteNets, site_wires, assert_net, go_net, ready_net, AreSites, chain_ready}
use Rattle.block_build.proofs.OnNetlist.OnGates.{complement, conjunction, disjunction, nothing}
use Rattle.block_build.specs.Netlist.Walks.{asserts_at, goes_at, TurnIs, AfterStep, AreRead, ShowWalk, ShowNothing}

-- the wires of one site
record SiteShows (v : Values) (site : SiteNets) (pending partner : Bool) : Type 0 where
  ask : v (assert_net site) ≡ bit pending
  go : v (go_net site) ≡ bit (pending && partner)
  ready : v (ready_net site) ≡ bit (not pending || (pending && partner))

site_shows : (v : Values) (ready : Atom) (site : SiteNets) (on done partner : Bool)
    → AreWired v site.first (site_wires site.first ready site) → atom_value v ready ≡ bit true → atom_value v site.on ≡ bit on → atom_value v site.done ≡ bit done → atom_value v site.partner ≡ bit partner
    → SiteShows v site (on && not done) partner
site_shows v ready site on done partner h r o d p =
    let k = site.first in
    let undone = complement (v k) _ done h.0 d in
    let pending = conjunction (v (suc k)) _ _ on (not done) h.1.0 o undone in
    let ask = conjunction (v (assert_net site)) _ _ true (on && not done) h.1.1.0 r pending in
    let go = conjunction (v (go_net site)) _ _ (on && not done) partner h.1.1.1.0 ask p in
    let rest = complement (v (suc (suc (suc (suc k))))) _ (on && not done) h.1.1.1.1.0 pending in
    let passed = disjunction (v (suc (suc (suc (suc (suc k)))))) _ _ (not (on && not done)) ((on && not done) && partner) h.1.1.1.1.1.0 rest go in
    record {
      ask = ask;
      go = go;
      ready = conjunction (v (ready_net site)) _ _ true (not (on && not done) || ((on && not done) && partner)) h.1.1.1.1.1.1.0 r passed;
    }

site_quiet : (v : Values) (ready : Atom) (site : SiteNets) → AreWired v site.first (site_wires site.first ready site) → atom_value v ready ≡ bit false
    → (v (assert_net site) ≡ bit false) × (v (go_net site) ≡ bit false) × (v (ready_net site) ≡ bit false)
site_quiet v ready site h r =
    let k = site.first in
    let ask = nothing (v (assert_net site)) (atom_value v ready) (v (suc k)) h.1.1.0 r in (
      ask,
      nothing (v (go_net site)) (v (assert_net site)) (atom_value v site.partner) h.1.1.1.0 ask,
      nothing (v (ready_net site)) (atom_value v ready) (v (suc (suc (suc (suc (suc k)))))) h.1.1.1.1.1.1.0 r,
    )

-- where the stage waits at an earlier site, or doesn't act
pub chain_is_quiet : (v : Values) (ready : Atom) (sites : List SiteNets) → AreSites v ready sites → atom_value v ready ≡ bit false
    → ShowNothing v sites × (atom_value v (chain_ready ready sites) ≡ bit false)
chain_is_quiet v ready [] h r = (tt, r)
chain_is_quiet v ready (site ∷ sites) h r =
    let here = site_quiet v ready site h.0 r in
    let rest = chain_is_quiet v (net (ready_net site)) sites h.1 here.2 in
    ((here.0, here.1, rest.0), rest.1)

-- what happens at a site
abbrev step_asks : Step → Bool
step_asks Pass = false
step_asks (Recall w) = false
step_asks (Take w) = true
step_asks (Put w) = true
step_asks AwaitWord = true
step_asks (AwaitRoom w) = true

abbrev step_goes : Step → Bool
step_goes Pass = false
step_goes (Recall w) = false
step_goes (Take w) = true
step_goes (Put w) = true
step_goes AwaitWord = false
step_goes (AwaitRoom w) = false

abbrev step_passes : Step → Bool
step_passes Pass = true
step_passes (Recall w) = true
step_passes (Take w) = true
step_passes (Put w) = true
step_passes AwaitWord = false
step_passes (AwaitRoom w) = false

-- by the wires of a site whose signals are right
record StepShown (v : Values) (site : SiteNets) (step : Step) : Type 0 where
  ask : v (assert_net site) ≡ bit (step_asks step)
  go : v (go_net site) ≡ bit (step_goes step)
  ready : v (ready_net site) ≡ bit (step_passes step)

shown_by : (v : Values) (site : SiteNets) (step : Step) (pending partner : Bool) → pending ≡ step_asks step → (pending && partner) ≡ step_goes step → (not pending || (pending && partner)) ≡ step_passes step
    → SiteShows v site pending partner → StepShown v site step
shown_by v site step pending partner a g p s = record { ask = s.ask ∙ ap bit a; go = s.go ∙ ap bit g; ready = s.ready ∙ ap bit p }

step_shown : (v : Values) (ready : Atom) (site : SiteNets) (turn : Turn) (done : Bool) (kept : Word) (valid_word : Option Word) (room : Bool)
    → AreWired v site.first (site_wires site.first ready site) → atom_value v ready ≡ bit true → atom_value v site.done ≡ bit done → TurnIs v site valid_word room turn
    → StepShown v site (step_of turn done kept valid_word room)
step_shown v ready site Skip done kept valid_word room h r d is = shown_by v site _ _ _ refl refl refl (site_shows v ready site false done is.1 h r is.0 d is.2)
step_shown v ready site Receive true kept valid_word room h r d is = shown_by v site _ _ _ refl refl refl (site_shows v ready site true true (is_some valid_word) h r is.0 d is.1)
step_shown v ready site Receive false kept (Some w) room h r d is = shown_by v site _ _ _ refl refl refl (site_shows v ready site true false true h r is.0 d is.1)
step_shown v ready site Receive false kept None room h r d is = shown_by v site _ _ _ refl refl refl (site_shows v ready site true false false h r is.0 d is.1)
step_shown v ready site (Give w) true kept valid_word room h r d is = shown_by v site _ _ _ refl refl refl (site_shows v ready site true true room h r is.0 d is.1)
step_shown v ready site (Give w) false kept valid_word true h r d is = shown_by v site _ _ _ refl refl refl (site_shows v ready site true false true h r is.0 d is.1)
step_shown v ready site (Give w) false kept valid_word false h r d is = shown_by v site _ _ _ refl refl refl (site_shows v ready site true false false h r is.0 d is.1)

-- of a walk from a place on, what it does at earlier ones
pub apart : (i k : ℕ) → (i ≡ k → ⊥) → eqb i k ≡ false
apart i k ne = grind (arith, nat_tests)

pub same : (i : ℕ) → eqb i i ≡ true
same i = grind (arith, nat_tests)

abbrev pub DoesNothing : ℕ → Walk → Type 0
DoesNothing k walk = (asserts_at k walk ≡ false) × (goes_at k walk ≡ false)

pub or_false : (x y : Bool) → x ≡ false → y ≡ false → (x || y) ≡ false
or_false x y e f = rw (e, f)

nothing_followed : (k i : ℕ) (got : List Word) (step : Step) (next : List Word → Walk) → k < i → ((got' : List Word) → DoesNothing k (next got')) → DoesNothing k (follow i got next step)
nothing_followed k i got Pass next l h = h got
nothing_followed k i got (Recall w) next l h = h (got ++ w ∷ [])
nothing_followed k i got (Take w) next l h =
    let e = apart i k (λ e. omega arith) in
    let r = h (got ++ w ∷ []) in
    (or_false (eqb i k) _ e r.0, or_false (eqb i k) _ e r.1)
nothing_followed k i got (Put w) next l h =
    let e = apart i k (λ e. omega arith) in
    let r = h got in
    (or_false (eqb i k) _ e r.0, or_false (eqb i k) _ e r.1)
nothing_followed k i got AwaitWord next l h = (or_false (eqb i k) false (apart i k (λ e. omega arith)) refl, refl)
nothing_followed k i got (AwaitRoom w) next l h = (or_false (eqb i k) false (apart i k (λ e. omega arith)) refl, refl)

pub nothing_before : (x : Circuit) (b : Behavior) (done : ℕ → Bool) (kept : ℕ → Word) (ports : Ports) (s : Value) (got : List Word) (i n k : ℕ) → k < i → DoesNothing k (walk_by x b done kept ports s got i n)
nothing_before x b done kept ports s got i zero k l = (refl, refl)
nothing_before x b done kept ports s got i (suc n) k l =
    nothing_followed k i got (x.step (b.turn s got i) (done i) (kept i) (ports.valid_word (chan_at b.sites i)) (ports.room (chan_at b.sites i))) (λ got'. walk_by x b done kept ports s got' (suc i) n) l
    (λ got'. nothing_before x b done kept ports s got' (suc i) n k (omega arith))

-- at the place itself
pub or_true : (x y : Bool) → x ≡ true → (x || y) ≡ true
or_true x y e = rw e

here_asks : (i : ℕ) (got : List Word) (step : Step) (next : List Word → Walk) → ((got' : List Word) → DoesNothing i (next got')) → asserts_at i (follow i got next step) ≡ step_asks step
here_asks i got Pass next h = (h got).0
here_asks i got (Recall w) next h = (h (got ++ w ∷ [])).0
here_asks i got (Take w) next h = or_true (eqb i i) _ (same i)
here_asks i got (Put w) next h = or_true (eqb i i) _ (same i)
here_asks i got AwaitWord next h = or_true (eqb i i) false (same i)
here_asks i got (AwaitRoom w) next h = or_true (eqb i i) false (same i)

here_goes : (i : ℕ) (got : List Word) (step : Step) (next : List Word → Walk) → ((got' : List Word) → DoesNothing i (next got')) → goes_at i (follow i got next step) ≡ step_goes step
here_goes i got Pass next h = (h got).1
here_goes i got (Recall w) next h = (h (got ++ w ∷ [])).1
here_goes i got (Take w) next h = or_true (eqb i i) _ (same i)
here_goes i got (Put w) next h = or_true (eqb i i) _ (same i)
here_goes i got AwaitWord next h = refl
here_goes i got (AwaitRoom w) next h = refl

-- and at later ones
pub pass_by : (x y : Bool) → x ≡ false → (x || y) ≡ y
pass_by x y e = rw e

later_shown : (v : Values) (j : ℕ) (sites : List SiteNets) (walk other : Walk)
    → ((m : ℕ) → j ≤ m → asserts_at m walk ≡ asserts_at m other) → ((m : ℕ) → j ≤ m → goes_at m walk ≡ goes_at m other)
    → ShowWalk v j sites other → ShowWalk v j sites walk
later_shown v j [] walk other a g h = tt
later_shown v j (site ∷ sites) walk other a g h = (
  h.0 ∙ ap bit (sym (a j (omega arith))),
  h.1 ∙ ap bit (sym (g j (omega arith))),
  later_shown v (suc j) sites walk other (λ m l. a m (omega arith)) (λ m l. g m (omega arith)) h.2,
)

pub quiet_shown : (v : Values) (j : ℕ) (sites : List SiteNets) (walk : Walk) → ((m : ℕ) → j ≤ m → DoesNothing m walk) → ShowNothing v sites → ShowWalk v j sites walk
quiet_shown v j [] walk n h = tt
quiet_shown v j (site ∷ sites) walk n h =
    let nothing_here = n j (omega arith) in
    (h.0 ∙ ap bit (sym nothing_here.0), h.1 ∙ ap bit (sym nothing_here.1), quiet_shown v (suc j) sites walk (λ m l. n m (omega arith)) h.2)

-- the sites behind the one at which this happens
abbrev Shown : Values → ℕ → Atom → List SiteNets → Walk → Type 0
Shown v i ready sites walk = ShowWalk v i sites walk × (atom_value v (chain_ready ready sites) ≡ bit (not (is_some walk.stall)))

behind_shown : (v : Values) (i : ℕ) (ready : Atom) (sites : List SiteNets) (got : List Word) (step : Step) (next : List Word → Walk) (P : List Word → Type 0)
    → AreSites v ready sites → atom_value v ready ≡ bit (step_passes step) → AfterStep step got P
    → ((got' : List Word) → atom_value v ready ≡ bit true → P got' → Shown v (suc i) ready sites (next got'))
    → Shown v (suc i) ready sites (follow i got next step)
behind_shown v i ready sites got Pass next P h r is ih = ih got r is
behind_shown v i ready sites got (Recall w) next P h r is ih = ih (got ++ w ∷ []) r is
behind_shown v i ready sites got (Take w) next P h r is ih =
    let rest = ih (got ++ w ∷ []) r is in (
      later_shown v (suc i) sites _ (next (got ++ w ∷ []))
          (λ m l. pass_by (eqb i m) _ (apart i m (λ e. omega arith))) (λ m l. pass_by (eqb i m) _ (apart i m (λ e. omega arith))) rest.0,
      rest.1,
    )
behind_shown v i ready sites got (Put w) next P h r is ih =
    let rest = ih got r is in (
      later_shown v (suc i) sites _ (next got)
          (λ m l. pass_by (eqb i m) _ (apart i m (λ e. omega arith))) (λ m l. pass_by (eqb i m) _ (apart i m (λ e. omega arith))) rest.0,
      rest.1,
    )
behind_shown v i ready sites got AwaitWord next P h r is ih =
    let rest = chain_is_quiet v ready sites h r in
    (quiet_shown v (suc i) sites _ (λ m l. (or_false (eqb i m) false (apart i m (λ e. omega arith)) refl, refl)) rest.0, rest.1)
behind_shown v i ready sites got (AwaitRoom w) next P h r is ih =
    let rest = chain_is_quiet v ready sites h r in
    (quiet_shown v (suc i) sites _ (λ m l. (or_false (eqb i m) false (apart i m (λ e. omega arith)) refl, refl)) rest.0, rest.1)

-- where the stage acts
pub chain_shows_the_walk : (v : Values) (b : Behavior) (done : ℕ → Bool) (kept : ℕ → Word) (ports : Ports) (s : Value) (sites : List SiteNets) (got : List Word) (i : ℕ) (ready : Atom)
    → AreSites v ready sites → atom_value v ready ≡ bit true → AreRead v b done kept ports s got i sites
    → ShowWalk v i sites (walk_by circuit b done kept ports s got i (length sites))
    × (atom_value v (chain_ready ready sites) ≡ bit (not (is_some (walk_by circuit b done kept ports s got i (length sites)).stall)))
chain_shows_the_walk v b done kept ports s [] got i ready h r is = (tt, r)
chain_shows_the_walk v b done kept ports s (site ∷ sites) got i ready h r is =
    let valid_word = ports.valid_word (chan_at b.sites i) in
    let room = ports.room (chan_at b.sites i) in
    let step = step_of (b.turn s got i) (done i) (kept i) valid_word room in
    let next = λ (got' : List Word). walk_by circuit b done kept ports s got' (suc i) (length sites) in
    let before = λ (got' : List Word). nothing_before circuit b done kept ports s got' (suc i) (length sites) i (omega arith) in
    let here = step_shown v ready site (b.turn s got i) (done i) (kept i) valid_word room h.0 r is.0 is.1 in
    let rest = behind_shown v i (net (ready_net site)) sites got step next (λ got'. AreRead v b done kept ports s got' (suc i) sites) h.1 here.ready is.2
    (λ got' t p. chain_shows_the_walk v b done kept ports s sites got' (suc i) (net (ready_net site)) h.1 t p) in
    ((here.ask ∙ ap bit (sym (here_asks i got step next before)), here.go ∙ ap bit (sym (here_goes i got step next before)), rest.0), rest.1)
