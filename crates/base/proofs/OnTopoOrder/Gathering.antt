-- The kinds of step, as the code makes them.
use Rattle.std.proofs.Common.{◌≡◌, ◌≢◌, ℕ, suc, ◌+◌, ◌-◌, ◌*◌, ◌<◌, ◌≤◌, ◌==◌, Bool, true, false, List, [], ◌∷◌, ◌++◌, length, length-append, get_or, take, drop, refl, sym, ap, ◌∙◌, subst, ◌⊎◌, inl, inr, Some, None, All, arith}
use Rattle.std.proofs.lemmas.Bool.{eqb-true, eq-eqb}
use Rattle.std.proofs.lemmas.List.Elements.{All-nil, All-cons}
use Rattle.std.specs.Prelude.{slice_get, slice_set, unwrap_or, replicate, MatchBool, if◌then◌else◌}
use Rattle.std.proofs.lemmas.Option.{slice_get_within, slice_get-get_or}
use Rattle.base.specs.declared.topo_order.walk.Mark.{Mark}
use Rattle.base.specs.declared.topo_order.walk.Mark.TheVariants.{New, Open, Done}
use Rattle.base.specs.TopoOrder.Needs.{needs_of, Needs, Reaches, itself}
use Rattle.base.specs.TopoOrder.Inner.Walk.{mark_of, taken_of, GoOn, StayDone}
use Rattle.base.specs.TopoOrder.Inner.Work.{needs_left}
use Rattle.base.specs.TopoOrder.Inner.Groups.{position_of, flag_of, IsGrouping, IsNoLast, Rises, AreJoined, all_done}
use Rattle.base.proofs.OnTopoOrder.Steps.{mark_of-set, get_pushed, get_start, get_last, new_open, open_done}
use Rattle.base.proofs.OnTopoOrder.Work.{known_inside, one_taken, all_taken, goes_on_open, goes_on_same}
use Rattle.base.proofs.OnTopoOrder.Grouping.{ReachesBack, grouping_begins, grouping_entered, grouping_flagged, grouping_taken, grouping_joined, grouping_left, order_of, stands_once}
use Rattle.base.proofs.OnTopoOrder.Closing.{HasEnded, ended, flags_after}

-- ---- the last thing on the path

pub record IsTop (needs : List (List ℕ)) (marks : List Mark) (taken positions path stack starts : List ℕ) (loops : List Bool) (top : ℕ) : Type 0 where
  pub opened : mark_of marks top ≡ Open
  pub at : slice_get stack (position_of positions top) ≡ Some top
  pub in_needs : top < length needs
  pub in_taken : top < length taken
  pub in_places : top < length positions
  pub in_loops : top < length loops
  -- it stands above all others on the path, so in the last group
  pub most : (q b : ℕ) → slice_get starts q ≡ Some b → b ≤ position_of positions top

pub is_top : (needs : List (List ℕ)) (marks : List Mark) (taken positions path stack starts : List ℕ) (loops : List Bool) (front : List ℕ) (top : ℕ)
    → IsGrouping needs marks taken positions path stack starts loops → path ≡ front ++ top ∷ [] → IsTop needs marks taken positions path stack starts loops top
is_top needs marks taken positions path stack starts loops front top g is =
    let place : slice_get path (length front) ≡ Some top = ap (λ xs. slice_get xs (length front)) is ∙ get_last front top in
    let opened = g.path_open (length front) top place in
    let inside = known_inside marks top (λ n. new_open (sym n ∙ opened)) in
    record {
      opened = opened;
      at = g.open_on top opened;
      in_needs = rw (← g.marks_size) inside;
      in_taken = rw (g.taken_size, ← g.marks_size) inside;
      in_places = rw (g.positions_size, ← g.marks_size) inside;
      in_loops = rw (g.loops_size, ← g.marks_size) inside;
      most = λ q b h. most place (g.begins q b h);
    }
  where
    most : {b : ℕ} → slice_get path (length front) ≡ Some top → ((k : ℕ) × (i : ℕ) × (slice_get path k ≡ Some i) × (position_of positions i ≡ b)) → b ≤ position_of positions top
    most {b} place (k, i, at, there) = split (get_pushed front top i k (ap (λ xs. slice_get xs k) (sym is) ∙ at))
      where
        split : (slice_get front k ≡ Some i) ⊎ ((k ≡ length front) × (top ≡ i)) → b ≤ position_of positions top
        split (inl old) = let less = g.path_rises k (length front) i top (slice_get_within front k i old) at place in omega (arith, less, there)
        split (inr (_, same)) = let e = ap (position_of positions) same in omega (arith, e, there)

-- ---- a need is taken

pub record HasMet (needs : List (List ℕ)) (marks : List Mark) (taken path : List ℕ) (marks' : List Mark) (taken' positions' path' stack' starts' : List ℕ) (loops' : List Bool) : Type 0 where
  pub grouping : IsGrouping needs marks' taken' positions' path' stack' starts' loops'
  pub on : GoOn marks marks'
  pub less : 2 * needs_left needs taken' + length path' < 2 * needs_left needs taken + length path

pub met_new : (needs : List (List ℕ)) (marks : List Mark) (taken positions path stack starts : List ℕ) (loops : List Bool) (front : List ℕ) (top child : ℕ)
    (marks' : List Mark) (taken' positions' path' stack' starts' : List ℕ) (loops' : List Bool)
    → IsGrouping needs marks taken positions path stack starts loops → path ≡ front ++ top ∷ [] → child < length needs
    → slice_get (needs_of needs top) (taken_of taken top) ≡ Some child → mark_of marks child ≡ New
    → marks' ≡ slice_set marks child Open → taken' ≡ slice_set taken top (taken_of taken top + 1) → positions' ≡ slice_set positions child (length stack)
    → path' ≡ path ++ child ∷ [] → stack' ≡ stack ++ child ∷ [] → starts' ≡ starts ++ length stack ∷ [] → loops' ≡ loops
    → HasMet needs marks taken path marks' taken' positions' path' stack' starts' loops'
met_new needs marks taken positions path stack starts loops front top child marks' taken' positions' path' stack' starts' loops' g is inside next new em et ec ep es eb el =
    record {
      grouping = rw (em, et, ec, ep, es, eb, el) took;
      on = rw em (goes_on_open marks child within new);
      less = let fewer = one_taken needs taken top child g.taken_size next in let longer = length-append path (child ∷ []) in rw (et, ep) (omega (arith, fewer, longer));
    }
  where
    t : IsTop needs marks taken positions path stack starts loops top
    t = is_top needs marks taken positions path stack starts loops front top g is

    within : child < length marks
    within = rw g.marks_size inside

    need : Needs needs top child
    need = (taken_of taken top, next)

    other : child ≢ top
    other e = new_open (sym new ∙ ap (mark_of marks) e ∙ t.opened)

    reached : (p i : ℕ) → slice_get stack p ≡ Some i → Reaches needs i child
    reached p i h = split (order_of p (position_of positions top))
      where
        far : Reaches needs i top → Reaches needs i child
        far r = Rattle.base.proofs.OnTopoOrder.Grouping.joined needs i top child r (itself top child need)

        split : (p < position_of positions top) ⊎ ((p ≡ position_of positions top) ⊎ (position_of positions top < p)) → Reaches needs i child
        split (inl low) = far (g.down p (position_of positions top) i top low h t.at)
        split (inr (inl same)) = subst (λ k. Reaches needs k child) (sym (stands_once stack p (position_of positions top) i top same h t.at)) (itself top child need)
        split (inr (inr high)) = far (g.up (position_of positions top) p top i high t.at h (λ q b at low. t.most q b at))

    entered : IsGrouping needs (slice_set marks child Open) taken (slice_set positions child (length stack)) (path ++ child ∷ []) (stack ++ child ∷ []) (starts ++ length stack ∷ []) loops
    entered = grouping_entered needs marks taken positions path stack starts loops child g inside new reached

    top_path : slice_get (path ++ child ∷ []) (length front) ≡ Some top
    top_path = get_start path child top (length front) (ap (λ xs. slice_get xs (length front)) is ∙ get_last front top)

    child_path : slice_get (path ++ child ∷ []) (length path) ≡ Some child
    child_path = get_last path child

    rises : position_of (slice_set positions child (length stack)) top < position_of (slice_set positions child (length stack)) child
    rises = entered.path_rises (length front) (length path) top child (let e = ap length is ∙ length-append front (top ∷ []) in omega (arith, e)) top_path child_path

    took : IsGrouping needs (slice_set marks child Open) (slice_set taken top (taken_of taken top + 1)) (slice_set positions child (length stack)) (path ++ child ∷ []) (stack ++ child ∷ []) (starts ++ length stack ∷ []) loops
    took = grouping_taken needs (slice_set marks child Open) taken (slice_set positions child (length stack)) (path ++ child ∷ []) (stack ++ child ∷ []) (starts ++ length stack ∷ []) loops top child
        entered t.in_needs next
        (inr (record {
          first = entered.path_open (length front) top top_path;
          second = entered.path_open (length path) child child_path;
          above = λ q b h low. omega (arith, low, rises);
        }))
        (λ e. absurd (other e))

pub met_done : (needs : List (List ℕ)) (marks : List Mark) (taken positions path stack starts : List ℕ) (loops : List Bool) (front : List ℕ) (top child : ℕ) (taken' : List ℕ)
    → IsGrouping needs marks taken positions path stack starts loops → path ≡ front ++ top ∷ []
    → slice_get (needs_of needs top) (taken_of taken top) ≡ Some child → mark_of marks child ≡ Done
    → taken' ≡ slice_set taken top (taken_of taken top + 1)
    → HasMet needs marks taken path marks taken' positions path stack starts loops
met_done needs marks taken positions path stack starts loops front top child taken' g is next done et =
    let t = is_top needs marks taken positions path stack starts loops front top g is in
    let fewer = one_taken needs taken top child g.taken_size next in
    record {
      grouping = rw et (grouping_taken needs marks taken positions path stack starts loops top child g t.in_needs next (inl done) (λ e. absurd (open_done (sym t.opened ∙ ap (mark_of marks) (sym e) ∙ done))));
      on = goes_on_same marks;
      less = rw et (omega (arith, fewer));
    }

-- what is known of a thing behind a need of itself
noticed_with : (needs : List (List ℕ)) (marks : List Mark) (taken positions path stack starts : List ℕ) (loops loops' : List Bool) (top child : ℕ)
    → IsGrouping needs marks taken positions path stack starts loops → top < length needs → Needs needs top child
    → loops' ≡ (if child == top then slice_set loops top true else loops)
    → IsGrouping needs marks taken positions path stack starts loops' × (child ≡ top → flag_of loops' top ≡ true)
noticed_with needs marks taken positions path stack starts loops loops' top child g inside need is = go (child == top) refl
  where
    go : (b : Bool) → (child == top) ≡ b → IsGrouping needs marks taken positions path stack starts loops' × (child ≡ top → flag_of loops' top ≡ true)
    go true e =
        let same = eqb-true child top e in
        let here : loops' ≡ slice_set loops top true = is ∙ ap (λ b. if b then slice_set loops top true else loops) e in (
          rw here (grouping_flagged needs marks taken positions path stack starts loops top g inside (itself top top (subst (Needs needs top) same need))),
          λ _. ap (λ xs. flag_of xs top) here ∙ Rattle.base.proofs.OnTopoOrder.Grouping.flag_of-set loops top (rw g.loops_size inside),
        )
    go false e =
        let here : loops' ≡ loops = is ∙ ap (λ b. if b then slice_set loops top true else loops) e in (
          rw here g,
          λ same. absurd (let wrong : true ≡ false = sym (eq-eqb child top same) ∙ e in cc),
        )

pub met_open : (needs : List (List ℕ)) (marks : List Mark) (taken positions path stack starts : List ℕ) (loops : List Bool) (front : List ℕ) (top child at : ℕ)
    (taken' starts' : List ℕ) (loops' : List Bool)
    → IsGrouping needs marks taken positions path stack starts loops → path ≡ front ++ top ∷ []
    → slice_get (needs_of needs top) (taken_of taken top) ≡ Some child → mark_of marks child ≡ Open → at ≡ position_of positions child
    → taken' ≡ slice_set taken top (taken_of taken top + 1) → loops' ≡ (if child == top then slice_set loops top true else loops) → (Rises starts → AreJoined starts starts' at)
    → HasMet needs marks taken path marks taken' positions path stack starts' loops'
met_open needs marks taken positions path stack starts loops front top child at taken' starts' loops' g is next opened place et el joins =
    let fewer = one_taken needs taken top child g.taken_size next in
    record {
      grouping = rw et (grouping_taken needs marks taken positions path stack starts' loops' top child joined t.in_needs next
          (inr (record { first = t.opened; second = opened; above = λ q b h low. omega (arith, (are.only q b h).1, place) })) noted.1);
      on = goes_on_same marks;
      less = rw et (omega (arith, fewer));
    }
  where
    t : IsTop needs marks taken positions path stack starts loops top
    t = is_top needs marks taken positions path stack starts loops front top g is

    are : AreJoined starts starts' at
    are = joins g.starts_rise

    need : Needs needs top child
    need = (taken_of taken top, next)

    noted : IsGrouping needs marks taken positions path stack starts loops' × (child ≡ top → flag_of loops' top ≡ true)
    noted = noticed_with needs marks taken positions path stack starts loops loops' top child g t.in_needs need el

    joined : IsGrouping needs marks taken positions path stack starts' loops'
    joined = grouping_joined needs marks taken positions path stack starts starts' loops' at noted.0
        (record { top = top; child = child; top_place = position_of positions top; top_at = t.at; last = t.most; child_at = ap (slice_get stack) place ∙ g.open_on child opened; need = need }) are

-- ---- the last thing on the path is left

pub all_within : (stack : List ℕ) (n : ℕ) → ((p i : ℕ) → slice_get stack p ≡ Some i → i < n) → All (λ i. i < n) stack
all_within [] n h = All-nil (λ i. i < n)
all_within (x ∷ xs) n h = All-cons (λ i. i < n) x xs (h 0 x refl) (all_within xs n (λ p i at. h (suc p) i at))

pub stack_in_marks : (needs : List (List ℕ)) (marks : List Mark) (taken positions path stack starts : List ℕ) (loops : List Bool)
    → IsGrouping needs marks taken positions path stack starts loops → All (λ i. i < length marks) stack
stack_in_marks needs marks taken positions path stack starts loops g =
    all_within stack (length marks) (λ p i h. known_inside marks i (λ n. new_open (sym n ∙ g.on_open p i h)))

pub stack_in_loops : (needs : List (List ℕ)) (marks : List Mark) (taken positions path stack starts : List ℕ) (loops : List Bool)
    → IsGrouping needs marks taken positions path stack starts loops → All (λ i. i < length loops) stack
stack_in_loops needs marks taken positions path stack starts loops g =
    all_within stack (length loops) (λ p i h. rw (g.loops_size, ← g.marks_size) (known_inside marks i (λ n. new_open (sym n ∙ g.on_open p i h))))

pub place_read : (positions : List ℕ) (top at d : ℕ) → top < length positions → at ≡ get_or positions top d → at ≡ position_of positions top
place_read positions top at d inside is = is ∙ sym (ap (λ o. unwrap_or o 0) (slice_get-get_or positions top d inside))

ends_somewhere : (xs : List ℕ) (p x : ℕ) → slice_get xs p ≡ Some x → (front : List ℕ) × (last : ℕ) × (xs ≡ front ++ last ∷ [])
ends_somewhere [] p x h = cc
ends_somewhere (y ∷ []) p x h = ([], y, refl)
ends_somewhere (y ∷ z ∷ xs) p x h = let (front, last, e) = ends_somewhere (z ∷ xs) 0 z refl in (y ∷ front, last, ap (λ t. y ∷ t) e)

-- the last of a list
pub last_is : (xs : List ℕ) (x : ℕ) → slice_get xs (length xs - 1) ≡ Some x → (front : List ℕ) × (xs ≡ front ++ x ∷ [])
last_is xs x h =
    let (front, last, e) = ends_somewhere xs (length xs - 1) x h in
    let at : slice_get xs (length front) ≡ Some last = ap (λ (ys : List ℕ). slice_get ys (length front)) e ∙ get_last front last in
    let place : length xs - 1 ≡ length front = omega (arith, ap length e, length-append front (last ∷ [])) in
    let both : Some last ≡ Some x = sym at ∙ ap (slice_get xs) (sym place) ∙ h in
    let same : last ≡ x = cc in
    (front, e ∙ ap (λ (y : ℕ). front ++ y ∷ []) same)

pub left_plain : (needs : List (List ℕ)) (marks : List Mark) (taken positions path stack starts : List ℕ) (loops : List Bool) (front : List ℕ) (top : ℕ)
    → IsGrouping needs marks taken positions path stack starts loops → path ≡ front ++ top ∷ []
    → slice_get (needs_of needs top) (taken_of taken top) ≡ None → IsNoLast starts (position_of positions top)
    → IsGrouping needs marks taken positions front stack starts loops
left_plain needs marks taken positions path stack starts loops front top g is none no_last =
    grouping_left needs marks taken positions path front stack starts loops top g is (all_taken needs taken top none) (λ q b h. no_start q b h (ends_somewhere starts q b h))
  where
    t : IsTop needs marks taken positions path stack starts loops top
    t = is_top needs marks taken positions path stack starts loops front top g is

    no_start : (q b : ℕ) → slice_get starts q ≡ Some b → ((f : List ℕ) × (last : ℕ) × (starts ≡ f ++ last ∷ [])) → b ≢ position_of positions top
    no_start q b h (f, last, e) same = split (get_pushed f last b q (ap (λ xs. slice_get xs q) (sym e) ∙ h))
      where
        last_at : slice_get starts (length f) ≡ Some last
        last_at = ap (λ xs. slice_get xs (length f)) e ∙ get_last f last

        split : (slice_get f q ≡ Some b) ⊎ ((q ≡ length f) × (last ≡ b)) → ⊥
        split (inl old) =
            let less = g.starts_rise q (length f) b last (slice_get_within f q b old) h last_at in
            let most = t.most (length f) last last_at in
            omega (arith, less, most, same)
        split (inr (_, one)) = no_last f last e (one ∙ same)

pub left_closed : (needs : List (List ℕ)) (marks : List Mark) (taken positions path stack starts : List ℕ) (loops : List Bool) (front starts' : List ℕ) (top at : ℕ)
    → IsGrouping needs marks taken positions path stack starts loops → path ≡ front ++ top ∷ []
    → slice_get (needs_of needs top) (taken_of taken top) ≡ None → starts ≡ starts' ++ at ∷ [] → at ≡ position_of positions top
    → HasEnded needs marks taken positions front stack starts' loops top at
left_closed needs marks taken positions path stack starts loops front starts' top at g is none begins place =
    ended needs marks taken positions path stack starts loops front starts' top at
    (record { grouping = g; path_is = is; starts_is = begins; begins_at = sym place; all = all_taken needs taken top none })

-- a walk that has done with a group
pub record HasClosed (needs : List (List ℕ)) (marks marks' : List Mark) (taken' positions' path' stack' starts' : List ℕ) (loops' : List Bool) : Type 0 where
  pub grouping : IsGrouping needs marks' taken' positions' path' stack' starts' loops'
  pub on : GoOn marks marks'

pub closed_to : (needs : List (List ℕ)) (marks : List Mark) (taken positions path stack starts : List ℕ) (loops : List Bool) (front before : List ℕ) (top at : ℕ)
    (marks' : List Mark) (taken' positions' path' stack' starts' : List ℕ) (loops' : List Bool)
    → IsGrouping needs marks taken positions path stack starts loops → path ≡ front ++ top ∷ []
    → slice_get (needs_of needs top) (taken_of taken top) ≡ None → starts ≡ before ++ at ∷ [] → at ≡ position_of positions top
    → marks' ≡ all_done (drop at stack) marks → taken' ≡ taken → positions' ≡ positions → path' ≡ front → stack' ≡ take at stack → starts' ≡ before → loops' ≡ flags_after stack at loops
    → HasClosed needs marks marks' taken' positions' path' stack' starts' loops'
closed_to needs marks taken positions path stack starts loops front before top at marks' taken' positions' path' stack' starts' loops' g is none begins place em et ec ep es eb el =
    let done = left_closed needs marks taken positions path stack starts loops front before top at g is none begins place in
    record { grouping = rw (em, et, ec, ep, es, eb, el) done.grouping; on = rw em done.on }

-- ---- a visit

no_places : {A : Type 0} → (xs : List A) (p : ℕ) (x : A) → xs ≡ [] → slice_get xs p ≡ Some x → ⊥
no_places xs p x e h = let w = sym (ap (λ ys. slice_get ys p) e) ∙ h in cc

-- with an empty path nothing is open
pub none_open : (needs : List (List ℕ)) (marks : List Mark) (taken positions path stack starts : List ℕ) (loops : List Bool)
    → IsGrouping needs marks taken positions path stack starts loops → path ≡ [] → (i : ℕ) → mark_of marks i ≢ Open
none_open needs marks taken positions path stack starts loops g empty i h =
    let (q, b, at, low) = g.grouped (position_of positions i) i (g.open_on i h) in
    let (k, j, there, place) = g.begins q b at in
    no_places path k j empty there

pub all_visited : (needs : List (List ℕ)) (marks : List Mark) (taken positions path stack starts : List ℕ) (loops : List Bool)
    → IsGrouping needs marks taken positions path stack starts loops → path ≡ [] → (i : ℕ) → mark_of marks i ≢ New → mark_of marks i ≡ Done
all_visited needs marks taken positions path stack starts loops g empty i begun = by_mark (mark_of marks i) refl
  where
    by_mark : (m : Mark) → mark_of marks i ≡ m → mark_of marks i ≡ Done
    by_mark New h = absurd (begun h)
    by_mark Open h = absurd (none_open needs marks taken positions path stack starts loops g empty i h)
    by_mark Done h = h

pub record HasBegun (needs : List (List ℕ)) (marks : List Mark) (root : ℕ) (marks' : List Mark) (taken' positions' path' stack' starts' : List ℕ) (loops' : List Bool) : Type 0 where
  pub grouping : IsGrouping needs marks' taken' positions' path' stack' starts' loops'
  pub done : StayDone marks marks'
  pub begun : mark_of marks' root ≢ New

pub visit_begins : (needs : List (List ℕ)) (marks : List Mark) (taken positions path stack starts : List ℕ) (loops : List Bool) (root : ℕ)
    (marks' : List Mark) (taken' positions' path' stack' starts' : List ℕ) (loops' : List Bool)
    → IsGrouping needs marks taken positions path stack starts loops → path ≡ [] → root < length needs → mark_of marks root ≡ New
    → marks' ≡ slice_set marks root Open → taken' ≡ taken → positions' ≡ slice_set positions root (length stack)
    → path' ≡ path ++ root ∷ [] → stack' ≡ stack ++ root ∷ [] → starts' ≡ starts ++ length stack ∷ [] → loops' ≡ loops
    → HasBegun needs marks root marks' taken' positions' path' stack' starts' loops'
visit_begins needs marks taken positions path stack starts loops root marks' taken' positions' path' stack' starts' loops' g empty inside new em et ec ep es eb el =
    let within : root < length marks = rw g.marks_size inside in
    let on = goes_on_open marks root within new in
    record {
      grouping = rw (em, et, ec, ep, es, eb, el) (grouping_entered needs marks taken positions path stack starts loops root g inside new
          (λ p i h. absurd (none_open needs marks taken positions path stack starts loops g empty i (g.on_open p i h))));
      done = rw em on.done;
      begun = rw em (λ h. new_open (sym h ∙ mark_of-set marks root Open within));
    }

-- ---- the answer

pub grouping_starts : (needs : List (List ℕ)) (marks : List Mark) (taken positions path stack starts : List ℕ) (loops : List Bool)
    → marks ≡ replicate (length needs) New → taken ≡ replicate (length needs) 0 → positions ≡ replicate (length needs) 0 → path ≡ [] → stack ≡ [] → starts ≡ [] → loops ≡ replicate (length needs) false
    → IsGrouping needs marks taken positions path stack starts loops
grouping_starts needs marks taken positions path stack starts loops em et ec ep es eb el = rw (em, et, ec, ep, es, eb, el) (grouping_begins needs)

pub answered_all : (needs : List (List ℕ)) (marks : List Mark) (taken positions path stack starts : List ℕ) (loops : List Bool)
    → IsGrouping needs marks taken positions path stack starts loops → ((i : ℕ) → i < length needs → mark_of marks i ≡ Done)
    → (i : ℕ) (does : Bool) → slice_get loops i ≡ Some does → MatchBool does (Reaches needs i i) (¬ (Reaches needs i i))
answered_all needs marks taken positions path stack starts loops g done i does h = go does (ap (λ o. unwrap_or o false) h)
  where
    inside : i < length needs
    inside = rw (← g.loops_size) (slice_get_within loops i does h)

    go : (b : Bool) → flag_of loops i ≡ b → MatchBool b (Reaches needs i i) (¬ (Reaches needs i i))
    go true e = g.sound i e
    go false e = g.free i (done i inside) e
