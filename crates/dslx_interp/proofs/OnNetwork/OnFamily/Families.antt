-- Families of instances, and of procs that are pending.
use Rattle.std.proofs.Common.{◌≡◌, ◌++◌, ◌+◌, ◌==◌, ◌≤◌, ◌<◌, ℕ, zero, suc, Bool, true, false, if◌then◌else◌, List, [], ◌∷◌, length, take, map, Option, Some, refl, sym, ap, ◌∙◌, arith, append_assoc}
use Rattle.std.specs.Prelude.{slice_get, nat_lt}
use Rattle.std.proofs.lemmas.Bool.{ltb-true, ltb-false}
use Rattle.std.proofs.lemmas.Bool.Decides.{Decides-eqb}
use Rattle.std.proofs.lemmas.List.{append-nil, length-append, length-map}
use Rattle.net_core.specs.declared.net.Chan.{Chan}
use Rattle.net_core.specs.declared.net.ProcHead.{ProcHead}
use Rattle.dslx_core.proofs.Lemmas.Typing.Typed.{none_some, same_some}
use Rattle.dslx_meaning.specs.Network.{child_path}
use Rattle.dslx_core.specs.Designs.{CoreFamily, CoreElaboration, and_core_family, and_instance, channel_of_end, core_children, core_head, core_elaborate, made_of, no_core_family, no_elaboration, elaborations_from}
use Rattle.dslx_core.specs.declared.design.Child.{Child}
use Rattle.dslx_core.specs.declared.design.Instance.{Instance}
use Rattle.dslx_core.proofs.Lemmas.Lowering.{not_the_end}
use Rattle.dslx_core.specs.Designs.{chan_of_outer, core_chans, core_family, core_network, last_index, numbers_from}
use Rattle.dslx_core.specs.declared.design.Design.{Design}
use Rattle.net_core.specs.declared.net.Net.{Net}
use Rattle.dslx_interp.specs.Network.Inner.Pending.{ArePending, all_chans, all_instances, all_procs, children_pending, child_pending, first_pending, own_head, pending_family, placing, top_of}
use Rattle.dslx_interp.specs.Network.Bodies.{own_instance}
use Rattle.dslx_interp.specs.declared.network.family.Family.{Family}
use Rattle.dslx_interp.specs.declared.network.family.Pending.{Pending}
use Rattle.dslx_interp.proofs.OnNetwork.OnBody.Numbers.{map_one_more}

-- ---- families together

none_joined : (f : CoreFamily) → and_core_family f no_core_family ≡ f
none_joined f = λ i. record { procs = append-nil f.procs i; chans = append-nil f.chans i }

joined_twice : (a b c : CoreFamily) → and_core_family (and_core_family a b) c ≡ and_core_family a (and_core_family b c)
joined_twice a b c = λ i. record { procs = append_assoc a.procs b.procs c.procs i; chans = append_assoc a.chans b.chans c.chans i }

-- ---- instances by their numbers

at_the_last : (k n : ℕ) → k ≡ n → (k == n) ≡ true
at_the_last k n same = (Decides-eqb k n).1 same

behind_the_end : (k n : ℕ) → n < k → (k == n) ≡ false
behind_the_end k n h = by_test (k == n) refl
  where
    by_test : (b : Bool) → (k == n) ≡ b → b ≡ false
    by_test true q = let same : k ≡ n = (Decides-eqb k n).0 q in absurd (omega (arith, h, same))
    by_test false q = refl

-- later instances change no earlier one
places_further : (n : ℕ) (is : List Instance) (before : CoreElaboration) (path : List ℕ) (j : ℕ) (given : List ℕ) (number : ℕ) → j < n
    → elaborations_from n is before path j given number ≡ before path j given number
places_further n [] before path j given number less = refl
places_further n (i ∷ is) before path j given number less =
    places_further (suc n) is (and_instance n i before) path j given number (omega arith)
    ∙ ap (λ b. if b then core_elaborate before i path given number else before path j given number) (not_the_end j n less)

-- past the last one nothing is added
places_past : (n : ℕ) (is : List Instance) (before : CoreElaboration) (path : List ℕ) (j : ℕ) (given : List ℕ) (number : ℕ) → n + length is ≤ j
    → elaborations_from n is before path j given number ≡ before path j given number
places_past n [] before path j given number past = refl
places_past n (i ∷ is) before path j given number past =
    let further : suc n + length is ≤ j = omega arith in
    let behind : n < j = omega arith in
    places_past (suc n) is (and_instance n i before) path j given number further
    ∙ ap (λ b. if b then core_elaborate before i path given number else before path j given number) (behind_the_end j n behind)

-- an instance starts those before it
places_there : (n : ℕ) (is : List Instance) (before : CoreElaboration) (k : ℕ) (i : Instance) (path : List ℕ) (j : ℕ) (given : List ℕ) (number : ℕ)
    → slice_get is k ≡ Some i → j ≡ n + k → elaborations_from n is before path j given number ≡ core_elaborate (elaborations_from n (take k is) before) i path given number
places_there n [] before k i path j given number there is_there = none_some i there
places_there n (x ∷ is) before zero i path j given number there is_there =
    let at : j ≡ n = omega arith in
    let less : j < suc n = omega arith in
    places_further (suc n) is (and_instance n x before) path j given number less
    ∙ ap (λ b. if b then core_elaborate before x path given number else before path j given number) (at_the_last j n at)
    ∙ ap (λ y. core_elaborate before y path given number) (same_some x i there)
places_there n (x ∷ is) before (suc k) i path j given number there is_there =
    let at : j ≡ suc n + k = omega arith in
    places_there (suc n) is (and_instance n x before) k i path j given number there at

-- the first so many instances place what all do
places_first : (n : ℕ) (is : List Instance) (k : ℕ) (before : CoreElaboration) (path : List ℕ) (j : ℕ) (given : List ℕ) (number : ℕ) → j < n + k
    → elaborations_from n (take k is) before path j given number ≡ elaborations_from n is before path j given number
places_first n is zero before path j given number less =
    let below : j < n = omega arith in
    sym (places_further n is before path j given number below)
places_first n [] (suc k) before path j given number less = refl
places_first n (x ∷ is) (suc k) before path j given number less =
    let below : j < suc n + k = omega arith in
    places_first (suc n) is k (and_instance n x before) path j given number below

few_taken : (k : ℕ) (is : List Instance) → length (take k is) ≤ k
few_taken zero is = omega arith
few_taken (suc k) [] = omega arith
few_taken (suc k) (x ∷ is) = let fewer = few_taken k is in omega arith

-- ---- procs that are pending

nothing_added : (n : ℕ) → n ≡ n + 0
nothing_added n = omega arith

-- the procs that an instance starts, elaborated by those before it, are those that are pending
children_placed : (is : List Instance) (k : ℕ) (path given : List ℕ) (number n : ℕ) (cs : List Child) (next : ℕ)
    → core_children (placing (take k is)) path given number cs n next ≡ pending_family is (children_pending path k given number n cs) next
children_placed is k path given number n [] next = refl
children_placed is k path given number n (c ∷ cs) next = by_test (nat_lt c.instance k) refl (λ m. children_placed is k path given number (suc n) cs m)
  where
    ends : List ℕ
    ends = map (channel_of_end given number) c.ends

    first : CoreFamily
    first = placing (take k is) (child_path path n) c.instance ends next

    rest : ℕ → CoreFamily
    rest m = core_children (placing (take k is)) path given number cs (suc n) m

    by_test : (b : Bool) → nat_lt c.instance k ≡ b → ((m : ℕ) → rest m ≡ pending_family is (children_pending path k given number (suc n) cs) m)
        → and_core_family first (rest (next + length first.chans))
        ≡ pending_family is (if b then child_pending path given number n c ∷ children_pending path k given number (suc n) cs else children_pending path k given number (suc n) cs) next
    by_test true e behind =
        let less : c.instance < k = ltb-true c.instance k e in
        let below : c.instance < 0 + k = omega arith in
        let same : first ≡ placing is (child_path path n) c.instance ends next = places_first 0 is k no_elaboration (child_path path n) c.instance ends next below in
        ap (λ (f : CoreFamily). and_core_family f (rest (next + length f.chans))) same
        ∙ ap (λ r. and_core_family (placing is (child_path path n) c.instance ends next) r) (behind (next + length (placing is (child_path path n) c.instance ends next).chans))
    by_test false e behind =
        let fewer = few_taken k is in
        let more : k ≤ c.instance = ltb-false c.instance k e in
        let past : 0 + length (take k is) ≤ c.instance = omega arith in
        let none : first ≡ no_core_family = places_past 0 (take k is) no_elaboration (child_path path n) c.instance ends next past in
        ap (λ (f : CoreFamily). and_core_family f (rest (next + length f.chans))) none ∙ ap rest (sym (nothing_added next)) ∙ behind next

pending_joined : (is : List Instance) (ps qs : List Pending) (n : ℕ)
    → pending_family is (ps ++ qs) n ≡ and_core_family (pending_family is ps n) (pending_family is qs (n + length (pending_family is ps n).chans))
pending_joined is [] qs n = ap (pending_family is qs) (nothing_added n)
pending_joined is (p ∷ ps) qs n =
    let first = placing is p.path p.instance p.given n in
    let behind = pending_family is ps (n + length first.chans) in
    let count : (n + length first.chans) + length behind.chans ≡ n + length (first.chans ++ behind.chans) = omega (arith, length-append first.chans behind.chans) in
    ap (and_core_family first) (pending_joined is ps qs (n + length first.chans))
    ∙ ap (λ m. and_core_family first (and_core_family behind (pending_family is qs m))) count
    ∙ sym (joined_twice first behind (pending_family is qs (n + length (first.chans ++ behind.chans))))

-- the first that is pending is elaborated, and those that it starts are pending before the others
abbrev pub own_family : Pending → Instance → ℕ → CoreFamily
own_family p i number = record { procs = record { path = p.path; instance = i; channels = map (channel_of_end p.given number) i.members } ∷ []; chans = map (made_of p.path) i.made }

one_placed : (is : List Instance) (p : Pending) (i : Instance) (number : ℕ) → slice_get is p.instance ≡ Some i
    → placing is p.path p.instance p.given number ≡ and_core_family (own_family p i number) (pending_family is (children_pending p.path p.instance p.given number 0 i.children) (number + length i.made))
one_placed is p i number there =
    let at : p.instance ≡ 0 + p.instance = omega arith in
    let count : number + length (map (made_of p.path) i.made) ≡ number + length i.made = ap (λ n. number + n) (length-map i.made (made_of p.path)) in
    places_there 0 is no_elaboration p.instance i p.path p.instance p.given number there at
    ∙ ap (λ m. and_core_family (own_family p i number) (core_children (placing (take p.instance is)) p.path p.given number i.children 0 m)) count
    ∙ ap (and_core_family (own_family p i number)) (children_placed is p.instance p.path p.given number 0 i.children (number + length i.made))

pub first_placed : (is : List Instance) (p : Pending) (ps : List Pending) (i : Instance) (number : ℕ) → slice_get is p.instance ≡ Some i
    → pending_family is (p ∷ ps) number ≡ and_core_family (own_family p i number) (pending_family is (children_pending p.path p.instance p.given number 0 i.children ++ ps) (number + length i.made))
first_placed is p ps i number there =
    let first = placing is p.path p.instance p.given number in
    let own = own_family p i number in
    let starts = children_pending p.path p.instance p.given number 0 i.children in
    let started = pending_family is starts (number + length i.made) in
    let same : first ≡ and_core_family own started = one_placed is p i number there in
    let count : number + length (own.chans ++ started.chans) ≡ (number + length i.made) + length started.chans =
    omega (arith, length-append own.chans started.chans, length-map i.made (made_of p.path)) in
    ap (λ (f : CoreFamily). and_core_family f (pending_family is ps (number + length f.chans))) same
    ∙ ap (λ m. and_core_family (and_core_family own started) (pending_family is ps m)) count
    ∙ joined_twice own started (pending_family is ps ((number + length i.made) + length started.chans))
    ∙ ap (and_core_family own) (sym (pending_joined is starts ps (number + length i.made)))

-- ---- what is elaborated and what is pending, together

pub procs_stay : (is : List Instance) (p : Pending) (ps : List Pending) (i : Instance) (number : ℕ) → slice_get is p.instance ≡ Some i → (procs : List ProcHead)
    → procs ++ map core_head (pending_family is (p ∷ ps) number).procs
    ≡ (procs ++ own_head p i number ∷ []) ++ map core_head (pending_family is (children_pending p.path p.instance p.given number 0 i.children ++ ps) (number + length i.made)).procs
procs_stay is p ps i number there procs =
    let rest = pending_family is (children_pending p.path p.instance p.given number 0 i.children ++ ps) (number + length i.made) in
    ap (λ (f : CoreFamily). procs ++ map core_head f.procs) (first_placed is p ps i number there)
    ∙ sym (append_assoc procs (own_head p i number ∷ []) (map core_head rest.procs))

pub chans_stay : (is : List Instance) (p : Pending) (ps : List Pending) (i : Instance) (number : ℕ) → slice_get is p.instance ≡ Some i → (chans : List Chan)
    → chans ++ (pending_family is (p ∷ ps) number).chans
    ≡ (chans ++ map (made_of p.path) i.made) ++ (pending_family is (children_pending p.path p.instance p.given number 0 i.children ++ ps) (number + length i.made)).chans
chans_stay is p ps i number there chans =
    let rest = pending_family is (children_pending p.path p.instance p.given number 0 i.children ++ ps) (number + length i.made) in
    ap (λ (f : CoreFamily). chans ++ f.chans) (first_placed is p ps i number there)
    ∙ sym (append_assoc chans (map (made_of p.path) i.made) rest.chans)

-- ---- after one is placed

-- how many channels there are then
pub channels_then : (p : Pending) (i : Instance) (old new : List Chan) → new ≡ old ++ map (made_of p.path) i.made → length new ≡ length old + length i.made
channels_then p i old new is = ap length is ∙ length-append old (map (made_of p.path) i.made) ∙ ap (λ n. length old + n) (length-map i.made (made_of p.path))

pub placed_procs : (is : List Instance) (p : Pending) (ps qs : List Pending) (i : Instance) (old new : Family) → slice_get is p.instance ≡ Some i
    → new.procs.items ≡ old.procs.items ++ own_head p i (length old.chans.items) ∷ []
    → new.chans.items ≡ old.chans.items ++ map (made_of p.path) i.made
    → qs ≡ children_pending p.path p.instance p.given (length old.chans.items) 0 i.children ++ ps
    → all_procs is new qs ≡ all_procs is old (p ∷ ps)
placed_procs is p ps qs i old new there procs chans behind =
    let number = length old.chans.items in
    let starts = children_pending p.path p.instance p.given number 0 i.children ++ ps in
    let own = old.procs.items ++ own_head p i number ∷ [] in
    ap (all_procs is new) behind
    ∙ ap (λ xs. xs ++ map core_head (pending_family is starts (length new.chans.items)).procs) procs
    ∙ ap (λ m. own ++ map core_head (pending_family is starts m).procs) (channels_then p i old.chans.items new.chans.items chans)
    ∙ sym (procs_stay is p ps i number there old.procs.items)

pub placed_chans : (is : List Instance) (p : Pending) (ps qs : List Pending) (i : Instance) (old new : Family) → slice_get is p.instance ≡ Some i
    → new.chans.items ≡ old.chans.items ++ map (made_of p.path) i.made
    → qs ≡ children_pending p.path p.instance p.given (length old.chans.items) 0 i.children ++ ps
    → all_chans is new qs ≡ all_chans is old (p ∷ ps)
placed_chans is p ps qs i old new there chans behind =
    let number = length old.chans.items in
    let starts = children_pending p.path p.instance p.given number 0 i.children ++ ps in
    let own = old.chans.items ++ map (made_of p.path) i.made in
    ap (all_chans is new) behind
    ∙ ap (λ xs. xs ++ (pending_family is starts (length new.chans.items)).chans) chans
    ∙ ap (λ m. own ++ (pending_family is starts m).chans) (channels_then p i old.chans.items new.chans.items chans)
    ∙ sym (chans_stay is p ps i number there old.chans.items)

pub placed_instances : (is : List Instance) (p : Pending) (ps qs : List Pending) (i : Instance) (old new : Family) → slice_get is p.instance ≡ Some i
    → new.instances.items ≡ old.instances.items ++ p.instance ∷ []
    → new.chans.items ≡ old.chans.items ++ map (made_of p.path) i.made
    → qs ≡ children_pending p.path p.instance p.given (length old.chans.items) 0 i.children ++ ps
    → all_instances is new qs ≡ all_instances is old (p ∷ ps)
placed_instances is p ps qs i old new there instances chans behind =
    let number = length old.chans.items in
    let starts = children_pending p.path p.instance p.given number 0 i.children ++ ps in
    let rest = pending_family is starts (number + length i.made) in
    let before = map (slice_get is) old.instances.items in
    ap (all_instances is new) behind
    ∙ ap (λ ns. map (slice_get is) ns ++ map own_instance (pending_family is starts (length new.chans.items)).procs) instances
    ∙ ap (λ m. map (slice_get is) (old.instances.items ++ p.instance ∷ []) ++ map own_instance (pending_family is starts m).procs) (channels_then p i old.chans.items new.chans.items chans)
    ∙ ap (λ xs. xs ++ map own_instance rest.procs) (map_one_more (slice_get is) old.instances.items p.instance)
    ∙ append_assoc before (slice_get is p.instance ∷ []) (map own_instance rest.procs)
    ∙ ap (λ o. before ++ o ∷ map own_instance rest.procs) there
    ∙ ap (λ (f : CoreFamily). before ++ map own_instance f.procs) (sym (first_placed is p ps i number there))

-- what is placed first takes no more than all
pub own_fit : (is : List Instance) (p : Pending) (ps : List Pending) (i : Instance) (family : Family) (most : ℕ) → slice_get is p.instance ≡ Some i
    → length (all_chans is family (p ∷ ps)) ≤ most → length family.chans.items + length i.made ≤ most
own_fit is p ps i family most there few =
    let number = length family.chans.items in
    let rest = pending_family is (children_pending p.path p.instance p.given number 0 i.children ++ ps) (number + length i.made) in
    let own = map (made_of p.path) i.made in
    let all : length (all_chans is family (p ∷ ps)) ≡ length ((family.chans.items ++ own) ++ rest.chans) = ap length (chans_stay is p ps i number there family.chans.items) in
    omega (arith, few, all, length-append (family.chans.items ++ own) rest.chans, length-append family.chans.items own, length-map i.made (made_of p.path))

-- ---- when all are placed

-- each that is pending has a proc
none_pending : (is : List Instance) (n : ℕ) (ps : List Pending) (number : ℕ) → ArePending is n ps → length (pending_family is ps number).procs ≡ 0 → ps ≡ []
none_pending is n [] number h none = refl
none_pending is n (p ∷ ps) number h none =
    let all = ap (λ (f : CoreFamily). length f.procs) (first_placed is p ps h.0.instance number h.0.there) in
    absurd (omega (arith, none, all))

pub all_placed : (is : List Instance) (n : ℕ) (family : Family) (ps : List Pending) → ArePending is n ps → length (all_procs is family ps) ≡ length family.procs.items
    → all_chans is family ps ≡ family.chans.items
all_placed is n family ps h count =
    let rest = pending_family is ps (length family.chans.items) in
    let none : length rest.procs ≡ 0 = omega (arith, count, length-append family.procs.items (map core_head rest.procs), length-map rest.procs core_head) in
    ap (all_chans is family) (none_pending is n ps (length family.chans.items) h none) ∙ append-nil family.chans.items

pub all_instances_placed : (is : List Instance) (n : ℕ) (family : Family) (ps : List Pending) → ArePending is n ps → length (all_procs is family ps) ≡ length family.procs.items
    → all_instances is family ps ≡ map (slice_get is) family.instances.items
all_instances_placed is n family ps h count =
    let rest = pending_family is ps (length family.chans.items) in
    let none : length rest.procs ≡ 0 = omega (arith, count, length-append family.procs.items (map core_head rest.procs), length-map rest.procs core_head) in
    ap (all_instances is family) (none_pending is n ps (length family.chans.items) h none) ∙ append-nil (map (slice_get is) family.instances.items)

-- the family of the top is the whole network's
first_family : (design : Design) → pending_family design.procs (first_pending design) (length design.outer) ≡ core_family design
first_family design = of_procs design.procs refl
  where
    of_procs : (is : List Instance) → design.procs ≡ is → pending_family design.procs (top_of design is) (length design.outer) ≡ core_family design
    of_procs [] none = sym (ap (λ is. elaborations_from 0 is no_elaboration design.name (last_index design.procs) (numbers_from 0 design.outer) (length design.outer)) none)
    of_procs (i ∷ is) some = none_joined (core_family design)

pub network_is : (design : Design) (family : Family) (ps : List Pending) (name : List ℕ) (procs : List ProcHead) (chans : List Chan)
    → family.procs.items ≡ [] → family.chans.items ≡ map chan_of_outer design.outer → ps ≡ first_pending design → name ≡ design.name
    → procs ≡ all_procs design.procs family ps → chans ≡ all_chans design.procs family ps
    → ◌≡◌ {A = Net} (record { name = name; procs = procs; chans = chans }) (core_network design)
network_is design family ps name procs chans none outer first same_name same_procs same_chans =
    let rest = pending_family design.procs ps (length family.chans.items) in
    let all : rest ≡ core_family design =
    ap (λ qs. pending_family design.procs qs (length family.chans.items)) first
    ∙ ap (pending_family design.procs (first_pending design)) (ap length outer ∙ length-map design.outer chan_of_outer)
    ∙ first_family design in
    let heads : procs ≡ map core_head (core_family design).procs =
    same_procs ∙ ap (λ xs. xs ++ map core_head rest.procs) none ∙ ap (λ (f : CoreFamily). map core_head f.procs) all in
    let channels : chans ≡ core_chans design =
    same_chans ∙ ap (λ xs. xs ++ rest.chans) outer ∙ ap (λ (f : CoreFamily). map chan_of_outer design.outer ++ f.chans) all in
    λ i. record { name = same_name i; procs = heads i; chans = channels i }

pub instances_are : (design : Design) (family : Family) (ps : List Pending) (instances : List (Option Instance))
    → family.instances.items ≡ [] → family.chans.items ≡ map chan_of_outer design.outer → ps ≡ first_pending design
    → instances ≡ all_instances design.procs family ps → instances ≡ map own_instance (core_family design).procs
instances_are design family ps instances none outer first same =
    let rest = pending_family design.procs ps (length family.chans.items) in
    let all : rest ≡ core_family design =
    ap (λ qs. pending_family design.procs qs (length family.chans.items)) first
    ∙ ap (pending_family design.procs (first_pending design)) (ap length outer ∙ length-map design.outer chan_of_outer)
    ∙ first_family design in
    same ∙ ap (λ ns. map (slice_get design.procs) ns ++ map own_instance rest.procs) none ∙ ap (λ (f : CoreFamily). map own_instance f.procs) all
