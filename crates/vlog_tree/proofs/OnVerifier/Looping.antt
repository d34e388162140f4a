-- What wires read of one another, as needs, and the first of them that depends on itself.
use Rattle.std.proofs.Common.{◌≡◌, ◌≢◌, ℕ, zero, suc, ◌+◌, ◌<◌, ◌≤◌, Bool, true, false, List, [], ◌∷◌, ◌++◌, length, length-set, refl, sym, ap, ◌∙◌, subst, ◌⊎◌, inl, inr, get_or, arith}
use Rattle.std.proofs.lemmas.Bool.{cases_eq}
use Rattle.std.specs.Prelude.{slice_get, slice_set, unwrap_or, Option, Some, None, replicate, MatchBool, option_map}
use Rattle.std.proofs.lemmas.Option.{slice_get_within, slice_get-get_or}
use Rattle.base.proofs.Lemmas.Lists.Indices.{slice_get-set_other, slice_get-append_left, slice_get-append_right}
use Rattle.base.specs.TopoOrder.Needs.{AreClosed, needs_of, Needs, Reaches, itself, by_way}
use Rattle.vlog_tree.specs.declared.module.VModule.{VModule}
use Rattle.vlog_tree.specs.declared.module.Assignment.{Assignment}
use Rattle.vlog_tree.specs.declared.signal.Role.{Role}
use Rattle.vlog_tree.specs.declared.signal.Role.TheVariants.{InputSignal, WireSignal, RegisterSignal}
use Rattle.vlog_tree.specs.Signals.{Declared, IsSignal, signals}
use Rattle.vlog_tree.specs.Forms.{reads}
use Rattle.vlog_tree.specs.Verifier.Parts.{count_of, role_at, is_driven}
use Rattle.vlog_tree.specs.Verifier.Loops.{IsWire, ReadsWire, Depends, direct}
use Rattle.vlog_tree.specs.Verifier.Loops as loops
use Rattle.vlog_tree.specs.Verifier.Inner.Firsts.{IsFree, AreFreeBefore, AreLoops, IsFirstLoop, AreNeedsBefore, AreNeeds, wires_among, needs_with}

-- ---- wires

pub wire_of : (m : VModule) (s : ℕ) → is_driven (role_at m s) ≡ true → IsWire m s
wire_of m s h = at (slice_get (signals m) s) refl
  where
    at : (o : Option Declared) → slice_get (signals m) s ≡ o → IsWire m s
    at None e = absurd (let w : is_driven None ≡ true = sym (ap (λ o. is_driven (option_map (λ (d : Declared). d.role) o)) e) ∙ h in cc)
    at (Some d) e = (d, e, driven d.role (sym (ap (λ o. is_driven (option_map (λ (d : Declared). d.role) o)) e) ∙ h))
      where
        driven : (r : Role) → is_driven (Some r) ≡ true → r ≡ WireSignal
        driven InputSignal w = cc
        driven WireSignal w = refl
        driven RegisterSignal w = cc

pub driven_of : (m : VModule) (s : ℕ) → IsWire m s → is_driven (role_at m s) ≡ true
driven_of m s (d, at, role) = ap (λ o. is_driven (option_map (λ (d : Declared). d.role) o)) at ∙ ap (λ r. is_driven (Some r)) role

pub wire_inside : (m : VModule) (s : ℕ) → IsWire m s → s < count_of m
wire_inside m s (d, at, role) = slice_get_within (signals m) s d at

among_sound : (m : VModule) (xs : List ℕ) (k s : ℕ) → slice_get (wires_among m xs) k ≡ Some s → ((q : ℕ) × (slice_get xs q ≡ Some s)) × IsWire m s
among_sound m [] k s h = cc
among_sound m (x ∷ xs) k s h = go (λ j. among_sound m xs j s) (is_driven (role_at m x)) refl k h
  where
    later : ((j : ℕ) → slice_get (wires_among m xs) j ≡ Some s → ((q : ℕ) × (slice_get xs q ≡ Some s)) × IsWire m s)
        → (j : ℕ) → slice_get (wires_among m xs) j ≡ Some s → ((q : ℕ) × (slice_get (x ∷ xs) q ≡ Some s)) × IsWire m s
    later given j h = let rest = given j h in ((suc rest.0.0, rest.0.1), rest.1)

    go : ((j : ℕ) → slice_get (wires_among m xs) j ≡ Some s → ((q : ℕ) × (slice_get xs q ≡ Some s)) × IsWire m s) → (b : Bool) → is_driven (role_at m x) ≡ b → (k : ℕ) → slice_get (wires_among m (x ∷ xs)) k ≡ Some s → ((q : ℕ) × (slice_get (x ∷ xs) q ≡ Some s)) × IsWire m s
    go given false e k h = later given k (rw e at h)
    go given true e zero h = let w : Some x ≡ Some s = rw e at h in let same : x ≡ s = cc in ((0, w), wire_of m s (ap (λ y. is_driven (role_at m y)) (sym same) ∙ e))
    go given true e (suc k) h = later given k (rw e at h)

among_complete : (m : VModule) (xs : List ℕ) (q s : ℕ) → slice_get xs q ≡ Some s → IsWire m s → (k : ℕ) × (slice_get (wires_among m xs) k ≡ Some s)
among_complete m [] q s h w = cc
among_complete m (x ∷ xs) zero s h w = let same : x ≡ s = cc in let e = ap (λ y. is_driven (role_at m y)) same ∙ driven_of m s w in (0, rw e h)
among_complete m (x ∷ xs) (suc q) s h w = go (is_driven (role_at m x)) refl (among_complete m xs q s h w)
  where
    go : (b : Bool) → is_driven (role_at m x) ≡ b → (k : ℕ) × (slice_get (wires_among m xs) k ≡ Some s) → (k : ℕ) × (slice_get (wires_among m (x ∷ xs)) k ≡ Some s)
    go true e (k, h) = (suc k, rw e h)
    go false e (k, h) = (k, rw e h)

-- ---- needs, one assignment after another

none_needed : (n t s : ℕ) → Needs (replicate n []) t s → ⊥
none_needed zero t s (k, h) = cc
none_needed (suc n) zero s (k, h) = cc
none_needed (suc n) (suc t) s h = none_needed n t s h

replicate_long : (n : ℕ) → length (replicate {A = List ℕ} n []) ≡ n
replicate_long zero = refl
replicate_long (suc n) = let rest = replicate_long n in omega arith

pub needs_begin : (m : VModule) (needs : List (List ℕ)) → needs ≡ replicate (count_of m) [] → AreNeedsBefore m 0 needs
needs_begin m needs e = record {
  size = ap length e ∙ replicate_long (count_of m);
  sound = λ t s h. absurd (none_needed (count_of m) t s (subst (λ ns. Needs ns t s) e h));
  complete = λ t s r h. absurd (omega arith);
}

needs_of-set : (needs : List (List ℕ)) (t : ℕ) (xs : List ℕ) → t < length needs → needs_of (slice_set needs t xs) t ≡ xs
needs_of-set [] t xs h = absurd (omega arith)
needs_of-set (n ∷ needs) zero xs h = refl
needs_of-set (n ∷ needs) (suc t) xs h = needs_of-set needs t xs (omega arith)

needs_of-set_other : (needs : List (List ℕ)) (t u : ℕ) (xs : List ℕ) → u ≢ t → needs_of (slice_set needs t xs) u ≡ needs_of needs u
needs_of-set_other needs t u xs h = ap (λ o. unwrap_or o []) (slice_get-set_other needs t u xs h)

index_in : (xs ys : List ℕ) (y q : ℕ) → slice_get (xs ++ ys) q ≡ Some y → ((p : ℕ) × (slice_get xs p ≡ Some y)) ⊎ ((p : ℕ) × (slice_get ys p ≡ Some y))
index_in [] ys y q h = inr (q, h)
index_in (x ∷ xs) ys y zero h = inl (0, h)
index_in (x ∷ xs) ys y (suc q) h = elim (index_in xs ys y q h) [ inl w ↦ inl (suc w.0, w.1) | inr w ↦ inr w ]

pub needs_step : (m : VModule) (i : ℕ) (a : Assignment) (needs new : List (List ℕ)) → slice_get m.assignments i ≡ Some a → AreNeedsBefore m i needs
    → new ≡ needs_with m needs a → AreNeedsBefore m (i + 1) new
needs_step m i a needs new at before is = subst (AreNeedsBefore m (i + 1)) (sym is) (go (is_driven (role_at m a.target.0)) refl)
  where
    -- an earlier assignment, or this one
    when : (k : ℕ) → k < i + 1 → (k < i) ⊎ (k ≡ i)
    when k h = elim (cases_eq k i) [ inl e ↦ inr e | inr ne ↦ inl (omega arith) ]

    same : (t s : ℕ) (r : ReadsWire m t s) → r.at ≡ i → r.assignment ≡ a
    same t s r e = let both : Some r.assignment ≡ Some a = sym r.stands ∙ ap (slice_get m.assignments) e ∙ at in cc

    go : (b : Bool) → is_driven (role_at m a.target.0) ≡ b → AreNeedsBefore m (i + 1) (needs_with m needs a)
    go false e = rw e (record {
      size = before.size;
      sound = before.sound;
      complete = λ t s r h. pick t s r (when r.at h);
    })
      where
        pick : (t s : ℕ) (r : ReadsWire m t s) → (r.at < i) ⊎ (r.at ≡ i) → Needs needs t s
        pick t s r (inl h) = before.complete t s r h
        pick t s r (inr h) =
            let target : a.target.0 ≡ t = ap (λ b. b.target.0) (sym (same t s r h)) ∙ r.target in
            absurd (let w : false ≡ true = sym e ∙ ap (λ u. is_driven (role_at m u)) target ∙ driven_of m t r.reader in cc)
    go true e = rw e (record {
      size = length-set needs a.target.0 more ∙ before.size;
      sound = λ t s h. sound t s h (cases_eq t a.target.0);
      complete = λ t s r h. complete t s r (when r.at h);
    })
      where
        more : List ℕ
        more = needs_of needs a.target.0 ++ wires_among m (reads a.value)

        wire : IsWire m a.target.0
        wire = wire_of m a.target.0 e

        inside : a.target.0 < length needs
        inside = omega (arith, wire_inside m a.target.0 wire, before.size)

        sound : (t s : ℕ) → Needs (slice_set needs a.target.0 more) t s → (t ≡ a.target.0) ⊎ (t ≢ a.target.0) → ReadsWire m t s
        sound t s (k, h) (inr ne) = before.sound t s (k, ap (λ xs. slice_get xs k) (sym (needs_of-set_other needs a.target.0 t more ne)) ∙ h)
        sound t s (k, h) (inl same) = subst (λ u. ReadsWire m u s) (sym same) (split (index_in (needs_of needs a.target.0) (wires_among m (reads a.value)) s k
            (ap (λ xs. slice_get xs k) (sym (needs_of-set needs a.target.0 more inside)) ∙ ap (λ u. slice_get (needs_of (slice_set needs a.target.0 more) u) k) (sym same) ∙ h)))
          where
            split : ((p : ℕ) × (slice_get (needs_of needs a.target.0) p ≡ Some s)) ⊎ ((p : ℕ) × (slice_get (wires_among m (reads a.value)) p ≡ Some s)) → ReadsWire m a.target.0 s
            split (inl w) = before.sound a.target.0 s w
            split (inr (p, w)) =
                let found = among_sound m (reads a.value) p s w in
                record { at = i; k = found.0.0; assignment = a; stands = at; target = refl; read = found.0.1; reader = wire; wire = found.1 }

        -- what was needed is needed still
        kept : (t s : ℕ) → Needs needs t s → (t ≡ a.target.0) ⊎ (t ≢ a.target.0) → Needs (slice_set needs a.target.0 more) t s
        kept t s (k, h) (inr ne) = (k, ap (λ xs. slice_get xs k) (needs_of-set_other needs a.target.0 t more ne) ∙ h)
        kept t s (k, h) (inl same) = (
          k,
          ap (λ u. slice_get (needs_of (slice_set needs a.target.0 more) u) k) same
              ∙ ap (λ xs. slice_get xs k) (needs_of-set needs a.target.0 more inside)
              ∙ slice_get-append_left (needs_of needs a.target.0) (wires_among m (reads a.value)) k (slice_get_within (needs_of needs a.target.0) k s here)
              ∙ here,
        )
          where
            here : slice_get (needs_of needs a.target.0) k ≡ Some s
            here = ap (λ u. slice_get (needs_of needs u) k) (sym same) ∙ h

        complete : (t s : ℕ) (r : ReadsWire m t s) → (r.at < i) ⊎ (r.at ≡ i) → Needs (slice_set needs a.target.0 more) t s
        complete t s r (inl h) = kept t s (before.complete t s r h) (cases_eq t a.target.0)
        complete t s r (inr h) =
            let one = same t s r h in
            let target : a.target.0 ≡ t = ap (λ b. b.target.0) (sym one) ∙ r.target in
            let read : slice_get (reads a.value) r.k ≡ Some s = ap (λ b. slice_get (reads b.value) r.k) (sym one) ∙ r.read in
            let found = among_complete m (reads a.value) r.k s read r.wire in (
              length (needs_of needs a.target.0) + found.0,
              ap (λ u. slice_get (needs_of (slice_set needs a.target.0 more) u) (length (needs_of needs a.target.0) + found.0)) (sym target)
                  ∙ ap (λ xs. slice_get xs (length (needs_of needs a.target.0) + found.0)) (needs_of-set needs a.target.0 more inside)
                  ∙ slice_get-append_right (needs_of needs a.target.0) (wires_among m (reads a.value)) (length (needs_of needs a.target.0) + found.0) found.0 refl
                  ∙ found.1,
            )

pub needs_end : (m : VModule) (i : ℕ) (needs : List (List ℕ)) → length m.assignments ≤ i → AreNeedsBefore m i needs → AreNeeds m needs
needs_end m i needs h before = record {
  size = before.size;
  sound = before.sound;
  complete = λ t s r k. before.complete t s r (omega arith);
}

-- ---- what is reached

pub needs_closed : (m : VModule) (needs : List (List ℕ)) → AreNeeds m needs → AreClosed needs
needs_closed m needs are i j h = let w = wire_inside m j (are.sound i j h).wire in omega (arith, w, are.size)

pub depends_of : (m : VModule) (needs : List (List ℕ)) → AreNeeds m needs → (t s : ℕ) → Reaches needs t s → Depends m t s
depends_of m needs are t s (itself _ _ n) = direct t s (are.sound t s n)
depends_of m needs are t s (by_way _ u _ n rest) = loops.by_way t u s (are.sound t u n) (depends_of m needs are u s rest)

pub reaches_of : (m : VModule) (needs : List (List ℕ)) → AreNeeds m needs → (t s : ℕ) → Depends m t s → Reaches needs t s
reaches_of m needs are t s (direct _ _ r) = itself t s (are.complete t s r (slice_get_within m.assignments r.at r.assignment r.stands))
reaches_of m needs are t s (loops.by_way _ u _ r rest) = by_way t u s (are.complete t u r (slice_get_within m.assignments r.at r.assignment r.stands)) (reaches_of m needs are u s rest)

pub reader_inside : (m : VModule) (t s : ℕ) → Depends m t s → t < count_of m
reader_inside m t s (direct _ _ r) = wire_inside m t r.reader
reader_inside m t s (loops.by_way _ u _ r rest) = wire_inside m t r.reader

pub verdict_by : (m : VModule) (needs : List (List ℕ)) (s : ℕ) (b : Bool) → AreNeeds m needs → MatchBool b (Reaches needs s s) (¬ (Reaches needs s s)) → MatchBool b (Depends m s s) (¬ (Depends m s s))
verdict_by m needs s true are h = depends_of m needs are s s h
verdict_by m needs s false are h = λ d. h (reaches_of m needs are s s d)

pub loops_by : (m : VModule) (needs : List (List ℕ)) (loops : List Bool) → AreNeeds m needs → length loops ≡ length needs
    → ((s : ℕ) (does : Bool) → slice_get loops s ≡ Some does → MatchBool does (Reaches needs s s) (¬ (Reaches needs s s))) → AreLoops m loops
loops_by m needs loops are size told = record { size = size ∙ are.size; are = λ s does at. verdict_by m needs s does are (told s does at) }

pub past_free : (m : VModule) (loops : List Bool) (s : ℕ) → AreLoops m loops → length loops ≤ s → ¬ (Depends m s s)
past_free m loops s are past d = let inside = reader_inside m s s d in omega (arith, inside, past, are.size)

pub free_step : (m : VModule) (i : ℕ) (a : Assignment) → slice_get m.assignments i ≡ Some a → AreFreeBefore m i → IsFree m a → AreFreeBefore m (i + 1)
free_step m i a at before free j b h is = pick (cases_eq j i)
  where
    pick : (j ≡ i) ⊎ (j ≢ i) → IsFree m b
    pick (inl e) = let same : Some a ≡ Some b = sym at ∙ ap (slice_get m.assignments) (sym e) ∙ is in let one : a ≡ b = cc in subst (IsFree m) one free
    pick (inr ne) = before j b (omega arith) is

-- what was read at a place of a list stands there
pub stands : {A : Type 0} (xs ys : List A) (i : ℕ) (x : A) → ys ≡ xs → i < length ys → x ≡ get_or ys i x → slice_get xs i ≡ Some x
stands xs ys i x same inside is = ap (λ zs. slice_get zs i) (sym same) ∙ slice_get-get_or ys i x inside ∙ ap Some (sym is)
