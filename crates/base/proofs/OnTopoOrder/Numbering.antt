-- Each step of the walk keeps the numbers of its groups.
use Rattle.std.proofs.Common.{◌≡◌, ◌≢◌, ℕ, zero, suc, ◌<◌, ◌≤◌, Bool, List, [], ◌∷◌, ◌++◌, length, length-set, drop, refl, sym, ap, ◌∙◌, subst, ◌⊎◌, inl, inr, Some, None, All, arith}
use Rattle.std.proofs.lemmas.Bool.{cases_eq}
use Rattle.std.proofs.lemmas.List.{length-replicate}
use Rattle.std.proofs.lemmas.Option.{slice_get_within}
use Rattle.std.specs.Prelude.{slice_get, slice_set, unwrap_or, replicate}
use Rattle.base.proofs.Lemmas.Lists.Indices.{slice_get-set_other}
use Rattle.base.specs.declared.topo_order.walk.Mark.{Mark}
use Rattle.base.specs.declared.topo_order.walk.Mark.TheVariants.{New, Open, Done}
use Rattle.base.specs.TopoOrder.Needs.{needs_of, AreGroups, AreMutual}
use Rattle.base.specs.TopoOrder.Inner.Walk.{mark_of, taken_of}
use Rattle.base.specs.TopoOrder.Inner.Groups.{position_of, IsGrouping, all_done}
use Rattle.base.specs.TopoOrder.Inner.Numbers.{number_of, IsNumbering, all_numbered}
use Rattle.base.proofs.OnTopoOrder.Steps.{mark_of-set, mark_of-set_other, new_done, new_open, open_done}
use Rattle.base.proofs.OnTopoOrder.Work.{all_taken, known_inside}
use Rattle.base.proofs.OnTopoOrder.Grouping.{joined}
use Rattle.base.proofs.OnTopoOrder.Closing.{Ends, HasEnded, ended, drop_get, get_drop}
use Rattle.base.proofs.OnTopoOrder.Gathering.{all_within}

-- ---- mutual things

mutual_back : (needs : List (List ℕ)) (i j : ℕ) → AreMutual needs i j → AreMutual needs j i
mutual_back needs i j (inl e) = inl (sym e)
mutual_back needs i j (inr w) = inr (w.1, w.0)

mutual_on : (needs : List (List ℕ)) (i j k : ℕ) → AreMutual needs i j → AreMutual needs j k → AreMutual needs i k
mutual_on needs i j k (inl e) more = subst (λ t. AreMutual needs t k) (sym e) more
mutual_on needs i j k (inr w) (inl e) = subst (AreMutual needs i) e (inr w)
mutual_on needs i j k (inr (to, back)) (inr (on, home)) = inr (joined needs i j k to on, joined needs k j i home back)

-- ---- numbers that are noted

number_of-set : (numbers : List ℕ) (i n : ℕ) → i < length numbers → number_of (slice_set numbers i n) i ≡ n
number_of-set [] i n h = absurd (omega arith)
number_of-set (x ∷ xs) zero n h = refl
number_of-set (x ∷ xs) (suc i) n h = number_of-set xs i n (omega arith)

number_of-set_other : (numbers : List ℕ) (i j n : ℕ) → j ≢ i → number_of (slice_set numbers i n) j ≡ number_of numbers j
number_of-set_other numbers i j n h = ap (λ o. unwrap_or o 0) (slice_get-set_other numbers i j n h)

length-all_numbered : (things : List ℕ) (first : ℕ) (numbers : List ℕ) → length (all_numbered things first numbers) ≡ length numbers
length-all_numbered [] first numbers = refl
length-all_numbered (t ∷ things) first numbers = length-all_numbered things first (slice_set numbers t first) ∙ length-set numbers t first

stays_numbered : (things : List ℕ) (first : ℕ) (numbers : List ℕ) (i : ℕ) → i < length numbers → number_of numbers i ≡ first → number_of (all_numbered things first numbers) i ≡ first
stays_numbered [] first numbers i inside h = h
stays_numbered (t ∷ things) first numbers i inside h = stays_numbered things first (slice_set numbers t first) i (rw (length-set numbers t first) inside) (by (cases_eq t i))
  where
    by : (t ≡ i) ⊎ (t ≢ i) → number_of (slice_set numbers t first) i ≡ first
    by (inl e) = subst (λ k. number_of (slice_set numbers k first) i ≡ first) (sym e) (number_of-set numbers i first inside)
    by (inr ne) = number_of-set_other numbers t i first (λ e. ne (sym e)) ∙ h

numbered_at : (things : List ℕ) (first : ℕ) (numbers : List ℕ) (q i : ℕ) → i < length numbers → slice_get things q ≡ Some i → number_of (all_numbered things first numbers) i ≡ first
numbered_at [] first numbers q i inside h = cc
numbered_at (t ∷ things) first numbers zero i inside h =
    let same : t ≡ i = cc in
    stays_numbered things first (slice_set numbers t first) i (rw (length-set numbers t first) inside)
    (subst (λ k. number_of (slice_set numbers k first) i ≡ first) (sym same) (number_of-set numbers i first inside))
numbered_at (t ∷ things) first numbers (suc q) i inside h = numbered_at things first (slice_set numbers t first) q i (rw (length-set numbers t first) inside) h

unnumbered : (things : List ℕ) (first : ℕ) (numbers : List ℕ) (i : ℕ) → ((q : ℕ) → slice_get things q ≢ Some i) → number_of (all_numbered things first numbers) i ≡ number_of numbers i
unnumbered [] first numbers i none = refl
unnumbered (t ∷ things) first numbers i none =
    unnumbered things first (slice_set numbers t first) i (λ q h. none (suc q) h) ∙ number_of-set_other numbers t i first (λ e. none 0 (ap Some (sym e)))

-- ---- what is done is as before

numbering_same : (needs : List (List ℕ)) (marks marks' : List Mark) (numbers : List ℕ) → IsNumbering needs marks numbers
    → ((i : ℕ) → mark_of marks i ≡ Done → mark_of marks' i ≡ Done) → ((i : ℕ) → mark_of marks' i ≡ Done → mark_of marks i ≡ Done)
    → IsNumbering needs marks' numbers
numbering_same needs marks marks' numbers n stays was = record {
  size = n.size;
  done = λ i h. stays (number_of numbers i) (n.done i (was i h));
  inside = λ i h. n.inside i (was i h);
  one = λ i j h k m. n.one i j (was i h) (was j k) m;
}

pub numbering_starts : (needs : List (List ℕ)) (marks : List Mark) (numbers : List ℕ) → marks ≡ replicate (length needs) New → numbers ≡ replicate (length needs) 0
    → IsNumbering needs marks numbers
numbering_starts needs marks numbers em en = record {
  size = ap length en ∙ length-replicate (length needs) 0;
  done = λ i h. absurd (fresh i h);
  inside = λ i h. absurd (fresh i h);
  one = λ i j h k m. absurd (fresh i h);
}
  where
    new : (n i : ℕ) → mark_of (replicate n New) i ≡ New
    new zero i = refl
    new (suc n) zero = refl
    new (suc n) (suc i) = new n i

    fresh : (i : ℕ) → mark_of marks i ≢ Done
    fresh i h = new_done (sym (new (length needs) i) ∙ sym (ap (λ xs. mark_of xs i) em) ∙ h)

-- a new thing is met
pub numbering_met : (needs : List (List ℕ)) (marks : List Mark) (numbers : List ℕ) (child : ℕ) (marks' : List Mark) (numbers' : List ℕ)
    → IsNumbering needs marks numbers → length marks ≡ length needs → child < length needs → mark_of marks child ≡ New
    → marks' ≡ slice_set marks child Open → numbers' ≡ numbers → IsNumbering needs marks' numbers'
numbering_met needs marks numbers child marks' numbers' n size inside new em en =
    rw (em, en) (numbering_same needs marks (slice_set marks child Open) numbers n (λ i h. stays i h (cases_eq i child)) (λ i h. was i h (cases_eq i child)))
  where
    opened : mark_of (slice_set marks child Open) child ≡ Open
    opened = mark_of-set marks child Open (rw size inside)

    stays : (i : ℕ) → mark_of marks i ≡ Done → (i ≡ child) ⊎ (i ≢ child) → mark_of (slice_set marks child Open) i ≡ Done
    stays i h (inl e) = absurd (new_done (sym new ∙ ap (mark_of marks) (sym e) ∙ h))
    stays i h (inr ne) = mark_of-set_other marks child i Open ne ∙ h

    was : (i : ℕ) → mark_of (slice_set marks child Open) i ≡ Done → (i ≡ child) ⊎ (i ≢ child) → mark_of marks i ≡ Done
    was i h (inl e) = absurd (open_done (sym opened ∙ ap (mark_of (slice_set marks child Open)) (sym e) ∙ h))
    was i h (inr ne) = sym (mark_of-set_other marks child i Open ne) ∙ h

-- ---- a group is done

numbering_ended : (needs : List (List ℕ)) (marks : List Mark) (taken positions path stack starts : List ℕ) (loops : List Bool) (front starts' : List ℕ) (top b : ℕ) (numbers : List ℕ)
    → Ends needs marks taken positions path stack starts loops front starts' top b → IsNumbering needs marks numbers
    → IsNumbering needs (all_done (drop b stack) marks) (all_numbered (drop b stack) top numbers)
numbering_ended needs marks taken positions path stack starts loops front starts' top b numbers e n = record {
  size = length-all_numbered (drop b stack) top numbers ∙ n.size;
  done = λ i h. done i (end.was i h);
  inside = λ i h. inside i (end.was i h);
  one = λ i j h k m. one i j (end.was i h) (end.was j k) m;
}
  where
    g : IsGrouping needs marks taken positions path stack starts loops
    g = e.grouping

    end : HasEnded needs marks taken positions front stack starts' loops top b
    end = ended needs marks taken positions path stack starts loops front starts' top b e

    old : (i : ℕ) → mark_of marks i ≡ Done → number_of (all_numbered (drop b stack) top numbers) i ≡ number_of numbers i
    old i h = unnumbered (drop b stack) top numbers i (λ q at. let (p, far, there) = get_drop b stack q i at in open_done (sym (g.on_open p i there) ∙ h))

    new : (i : ℕ) → mark_of marks i ≡ Open → b ≤ position_of positions i → number_of (all_numbered (drop b stack) top numbers) i ≡ top
    new i h far =
        let (q, at) = drop_get b stack (position_of positions i) i far (g.open_on i h) in
        numbered_at (drop b stack) top numbers q i (rw (n.size, ← g.marks_size) (known_inside marks i (λ fresh. new_open (sym fresh ∙ h)))) at

    done : (i : ℕ) → (mark_of marks i ≡ Done) ⊎ ((mark_of marks i ≡ Open) × (b ≤ position_of positions i)) → mark_of (all_done (drop b stack) marks) (number_of (all_numbered (drop b stack) top numbers) i) ≡ Done
    done i (inl h) = subst (λ k. mark_of (all_done (drop b stack) marks) k ≡ Done) (sym (old i h)) (end.on.done (number_of numbers i) (n.done i h))
    done i (inr (h, far)) = subst (λ k. mark_of (all_done (drop b stack) marks) k ≡ Done) (sym (new i h far)) end.first

    inside : (i : ℕ) → (mark_of marks i ≡ Done) ⊎ ((mark_of marks i ≡ Open) × (b ≤ position_of positions i)) → AreMutual needs i (number_of (all_numbered (drop b stack) top numbers) i)
    inside i (inl h) = subst (AreMutual needs i) (sym (old i h)) (n.inside i h)
    inside i (inr (h, far)) = subst (AreMutual needs i) (sym (new i h far)) (end.with_top i h far)

    -- what was done is mutual with what was done alone
    apart : (i j : ℕ) → mark_of marks i ≡ Done → mark_of marks j ≡ Open → AreMutual needs i j → ⊥
    apart i j h k (inl same) = open_done (sym k ∙ ap (mark_of marks) (sym same) ∙ h)
    apart i j h k (inr (to, back)) = open_done (sym k ∙ end.far i j to h)

    one : (i j : ℕ) → (mark_of marks i ≡ Done) ⊎ ((mark_of marks i ≡ Open) × (b ≤ position_of positions i)) → (mark_of marks j ≡ Done) ⊎ ((mark_of marks j ≡ Open) × (b ≤ position_of positions j))
        → AreMutual needs i j → number_of (all_numbered (drop b stack) top numbers) i ≡ number_of (all_numbered (drop b stack) top numbers) j
    one i j (inl h) (inl k) m = old i h ∙ n.one i j h k m ∙ sym (old j k)
    one i j (inl h) (inr (k, high)) m = absurd (apart i j h k m)
    one i j (inr (h, far)) (inl k) m = absurd (apart j i k h (mutual_back needs i j m))
    one i j (inr (h, far)) (inr (k, high)) m = new i h far ∙ sym (new j k high)

pub numbering_closed : (needs : List (List ℕ)) (marks : List Mark) (taken positions path stack starts : List ℕ) (loops : List Bool) (front before : List ℕ) (top at : ℕ)
    (numbers : List ℕ) (marks' : List Mark) (numbers' : List ℕ)
    → IsGrouping needs marks taken positions path stack starts loops → path ≡ front ++ top ∷ []
    → slice_get (needs_of needs top) (taken_of taken top) ≡ None → starts ≡ before ++ at ∷ [] → at ≡ position_of positions top
    → IsNumbering needs marks numbers → marks' ≡ all_done (drop at stack) marks → numbers' ≡ all_numbered (drop at stack) top numbers
    → IsNumbering needs marks' numbers'
numbering_closed needs marks taken positions path stack starts loops front before top at numbers marks' numbers' g is none begins place n em en =
    rw (em, en) (numbering_ended needs marks taken positions path stack starts loops front before top at numbers
    (record { grouping = g; path_is = is; starts_is = begins; begins_at = sym place; all = all_taken needs taken top none }) n)

pub stack_in_numbers : (needs : List (List ℕ)) (marks : List Mark) (taken positions path stack starts : List ℕ) (loops : List Bool) (numbers : List ℕ)
    → IsGrouping needs marks taken positions path stack starts loops → IsNumbering needs marks numbers → All (λ i. i < length numbers) stack
stack_in_numbers needs marks taken positions path stack starts loops numbers g n =
    all_within stack (length numbers) (λ p i h. rw (n.size, ← g.marks_size) (known_inside marks i (λ fresh. new_open (sym fresh ∙ g.on_open p i h))))

-- ---- the answer

pub all_numbers : (needs : List (List ℕ)) (marks : List Mark) (numbers : List ℕ) → IsNumbering needs marks numbers → ((i : ℕ) → i < length needs → mark_of marks i ≡ Done)
    → AreGroups needs numbers
all_numbers needs marks numbers n done = record {
  size = n.size;
  one = λ i j g h a b m. sym (is i g a) ∙ n.one i j (here i g a) (here j h b) m ∙ is j h b;
  only = λ i j g a b. mutual_on needs i g j (inside i g a) (mutual_back needs j g (inside j g b));
  inside = inside;
}
  where
    here : (i g : ℕ) → slice_get numbers i ≡ Some g → mark_of marks i ≡ Done
    here i g a = done i (rw (← n.size) (slice_get_within numbers i g a))

    is : (i g : ℕ) → slice_get numbers i ≡ Some g → number_of numbers i ≡ g
    is i g a = ap (λ o. unwrap_or o 0) a

    inside : (i g : ℕ) → slice_get numbers i ≡ Some g → AreMutual needs i g
    inside i g a = subst (AreMutual needs i) (is i g a) (n.inside i (here i g a))
