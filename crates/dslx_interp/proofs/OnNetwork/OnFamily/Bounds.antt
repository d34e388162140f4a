-- Numbers below others, and procs that may be pending.
use Rattle.std.proofs.Common.{◌≡◌, ◌++◌, drop, ◌+◌, ◌-◌, ◌≤◌, ◌<◌, ℕ, zero, suc, Bool, true, false, if◌then◌else◌, List, [], ◌∷◌, length, map, get_or, Some, refl, sym, ap, subst, ◌∙◌, arith}
use Rattle.std.specs.Prelude.{slice_get, nat_lt}
use Rattle.std.proofs.lemmas.Bool.{ltb-true}
use Rattle.std.proofs.lemmas.List.{length-map}
use Rattle.dslx_core.specs.Designs.{channel_of_end, numbers_from}
use Rattle.dslx_core.proofs.Lemmas.Typing.Typed.{same_some}
use Rattle.dslx_core.specs.declared.design.Child.{Child}
use Rattle.dslx_core.specs.declared.design.Instance.{Instance}
use Rattle.dslx_core.specs.declared.design.Outer.{Outer}
use Rattle.dslx_core.specs.declared.design.Design.{Design}
use Rattle.dslx_core.specs.Designs.{last_index}
use Rattle.dslx_interp.specs.Network.Linked.{AllBelow, AreChildren, IsLinked, IsLinkedInstance}
use Rattle.dslx_interp.specs.Network.Inner.Pending.{ArePending, IsPending, children_pending, child_pending, first_pending, top_of}
use Rattle.dslx_interp.specs.declared.network.family.Pending.{Pending}

pub below_more : (a b : ℕ) (ns : List ℕ) → a ≤ b → AllBelow a ns → AllBelow b ns
below_more a b [] more h = tt
below_more a b (n ∷ ns) more h = (omega (arith, h.0, more), below_more a b ns more h.1)

-- an element, or another number past the end
pub element_below : (most : ℕ) (ns : List ℕ) (k other : ℕ) → AllBelow most ns → other < most → get_or ns k other < most
element_below most [] k other h less = less
element_below most (n ∷ ns) zero other h less = h.0
element_below most (n ∷ ns) (suc k) other h less = element_below most ns k other h.1 less

-- one that is there
pub one_below : (most : ℕ) (ns : List ℕ) (k n : ℕ) → AllBelow most ns → k < length ns → n ≡ get_or ns k n → n < most
one_below most [] k n h within is = absurd (omega (arith, within))
one_below most (x ∷ ns) zero n h within is = omega (arith, h.0, is)
one_below most (x ∷ ns) (suc k) n h within is = one_below most ns k n h.1 (omega (arith, within)) is

-- a given channel, or one that is made
given_or_made : (ns : List ℕ) (k other most : ℕ) → AllBelow most ns → (length ns ≤ k → other < most) → get_or ns k other < most
given_or_made [] k other most h past = past (omega arith)
given_or_made (n ∷ ns) zero other most h past = h.0
given_or_made (n ∷ ns) (suc k) other most h past = given_or_made ns k other most h.1 (λ l. past (omega (arith, l)))

pub channel_below : (given : List ℕ) (number made end : ℕ) → AllBelow number given → end < length given + made → channel_of_end given number end < number + made
channel_below given number made end h within =
    given_or_made given end (number + (end - length given)) (number + made) (below_more number (number + made) given (omega arith) h)
    (λ past. omega (arith, past, within))

pub channels_below : (given : List ℕ) (number made : ℕ) (ends : List ℕ) → AllBelow number given → AllBelow (length given + made) ends
    → AllBelow (number + made) (map (channel_of_end given number) ends)
channels_below given number made [] h within = tt
channels_below given number made (end ∷ ends) h within = (channel_below given number made end h within.0, channels_below given number made ends h within.1)

pub numbers_below : (n : ℕ) (outer : List Outer) → AllBelow (n + length outer) (numbers_from n outer)
numbers_below n [] = tt
numbers_below n (o ∷ os) =
    let more : suc n + length os ≤ n + suc (length os) = omega arith in
    (omega arith, below_more (suc n + length os) (n + suc (length os)) (numbers_from (suc n) os) more (numbers_below (suc n) os))

pub as_many_numbers : (n : ℕ) (outer : List Outer) → length (numbers_from n outer) ≡ length outer
as_many_numbers n [] = refl
as_many_numbers n (o ∷ os) = ap suc (as_many_numbers (suc n) os)

-- ---- procs that may be pending

pub pending_more : (is : List Instance) (a b : ℕ) (ps : List Pending) → a ≤ b → ArePending is a ps → ArePending is b ps
pending_more is a b [] more h = tt
pending_more is a b (p ∷ ps) more h =
    let one = h.0 in
    (record { instance = one.instance; there = one.there; given = one.given; below = below_more a b p.given more one.below }, pending_more is a b ps more h.1)

pub pending_joined : (is : List Instance) (n : ℕ) (ps qs : List Pending) → ArePending is n ps → ArePending is n qs → ArePending is n (ps ++ qs)
pending_joined is n [] qs h k = k
pending_joined is n (p ∷ ps) qs h k = (h.0, pending_joined is n ps qs h.1 k)

-- what there is at a place before one that is there
there_before : (is : List Instance) (k j : ℕ) (i : Instance) → slice_get is k ≡ Some i → j < k → (x : Instance) × (slice_get is j ≡ Some x)
there_before [] k j i there less = absurd (cc)
there_before (x ∷ is) zero j i there less = absurd (omega (arith, less))
there_before (x ∷ is) (suc k) zero i there less = (x, refl)
there_before (x ∷ is) (suc k) (suc j) i there less = there_before is k j i there (omega (arith, less))

pub children_are_pending : (is : List Instance) (path : List ℕ) (k : ℕ) (given : List ℕ) (number made n : ℕ) (cs : List Child) (i : Instance) → slice_get is k ≡ Some i
    → AllBelow number given → AreChildren is (length given + made) cs → ArePending is (number + made) (children_pending path k given number n cs)
children_are_pending is path k given number made n [] i there h linked = tt
children_are_pending is path k given number made n (c ∷ cs) i there h linked = by_test (nat_lt c.instance k) refl (children_are_pending is path k given number made (suc n) cs i there h linked.2)
  where
    by_test : (b : Bool) → nat_lt c.instance k ≡ b → ArePending is (number + made) (children_pending path k given number (suc n) cs)
        → ArePending is (number + made) (if b then child_pending path given number n c ∷ children_pending path k given number (suc n) cs else children_pending path k given number (suc n) cs)
    by_test true e rest =
        let x = there_before is k c.instance i there (ltb-true c.instance k e) in (
          record {
            instance = x.0;
            there = x.1;
            given = length-map c.ends (channel_of_end given number) ∙ linked.1 x.0 x.1;
            below = channels_below given number made c.ends h linked.0;
          },
          rest,
        )
    by_test false e rest = rest

-- the numbers from one on, the first of them apart
one_more : (n : ℕ) → suc n ≡ n + 1
one_more n = omega arith

behind_first : (n k : ℕ) (outer : List Outer) → k < length outer → numbers_from n (drop k outer) ≡ n ∷ numbers_from (suc n) (drop (suc k) outer)
behind_first n k [] within = absurd (omega (arith, within))
behind_first n zero (o ∷ os) within = refl
behind_first n (suc k) (o ∷ os) within = behind_first n k os (omega (arith, within))

pub next_number : (n k : ℕ) (outer : List Outer) → k < length outer → numbers_from n (drop k outer) ≡ n ∷ numbers_from (n + 1) (drop (k + 1) outer)
next_number n k outer within =
    behind_first n k outer within
    ∙ ap (λ m. n ∷ numbers_from m (drop (suc k) outer)) (one_more n)
    ∙ ap (λ m. n ∷ numbers_from (n + 1) (drop m outer)) (one_more k)

-- one that is there
pub at_below : (most : ℕ) (ns : List ℕ) (k : ℕ) → AllBelow most ns → k < length ns → get_or ns k 0 < most
at_below most [] k h within = absurd (omega (arith, within))
at_below most (x ∷ ns) zero h within = h.0
at_below most (x ∷ ns) (suc k) h within = at_below most ns k h.1 (omega (arith, within))

-- one that is there, and what is found at its place
pub found_at : {A : Type 0} (xs : List A) (k : ℕ) (x y : A) → slice_get xs k ≡ Some x → y ≡ get_or xs k y → slice_get xs k ≡ Some y
found_at [] k x y there is = absurd (cc)
found_at (z ∷ xs) zero x y there is = ap Some (sym is)
found_at (z ∷ xs) (suc k) x y there is = found_at xs k x y there is

at_index : {A : Type 0} (xs : List A) (k : ℕ) → k < length xs → (x : A) × (slice_get xs k ≡ Some x)
at_index [] k within = absurd (omega (arith, within))
at_index (x ∷ xs) zero within = (x, refl)
at_index (x ∷ xs) (suc k) within = at_index xs k (omega (arith, within))

-- the ends of a proc that is started
pub child_below : (is : List Instance) (known : ℕ) (cs : List Child) (n : ℕ) (c : Child) → AreChildren is known cs → n < length cs → c ≡ get_or cs n c → AllBelow known c.ends
child_below is known [] n c h within is_there = absurd (omega (arith, within))
child_below is known (x ∷ cs) zero c h within is_there = subst (λ (y : Child). AllBelow known y.ends) (sym is_there) h.0
child_below is known (x ∷ cs) (suc n) c h within is_there = child_below is known cs n c h.2 (omega (arith, within)) is_there

-- the channels of a proc's members
pub member_channels : (given : List ℕ) (number made : ℕ) (members : List ℕ) → AllBelow number given → AllBelow (length given + made) members → number + made ≤ 1024
    → AllBelow 4294967296 (map (channel_of_end given number) members)
member_channels given number made members h within few =
    below_more (number + made) 4294967296 (map (channel_of_end given number) members) (omega (arith, few)) (channels_below given number made members h within)

-- a proc that is pending is given as many ends as its instance takes
pub as_many_given : (is : List Instance) (n : ℕ) (p : Pending) (i : Instance) → IsPending is n p → slice_get is p.instance ≡ Some i → length p.given ≡ i.ends
as_many_given is n p i h there = h.given ∙ ap (λ (x : Instance). x.ends) (same_some h.instance i (sym h.there ∙ there))

pub children_linked : (is : List Instance) (n : ℕ) (p : Pending) (i : Instance) → IsPending is n p → slice_get is p.instance ≡ Some i → IsLinkedInstance is i
    → AreChildren is (length p.given + length i.made) i.children
children_linked is n p i h there linked = subst (λ e. AreChildren is (e + length i.made) i.children) (sym (as_many_given is n p i h there)) linked.children

none_before : (n : ℕ) → 0 + n ≡ n
none_before n = omega arith

-- the top may be pending
pub top_is_pending : (design : Design) → IsLinked design → ArePending design.procs (length design.outer) (first_pending design)
top_is_pending design linked = of_procs design.procs refl
  where
    of_procs : (is : List Instance) → design.procs ≡ is → ArePending design.procs (length design.outer) (top_of design is)
    of_procs [] none = tt
    of_procs (i ∷ is) some =
        let within : last_index design.procs < length design.procs = omega (arith, ap length some) in
        let x = at_index design.procs (last_index design.procs) within in (
          record {
            instance = x.0;
            there = x.1;
            given = as_many_numbers 0 design.outer ∙ linked.top x.0 x.1;
            below = subst (λ m. AllBelow m (numbers_from 0 design.outer)) (none_before (length design.outer)) (numbers_below 0 design.outer);
          },
          tt,
        )
