-- Two activities that are alike do the same at each site to which an activation can come.
use Rattle.std.proofs.Common.{◌≡◌, ℕ, zero, suc, ◌+◌, ◌<◌, ◌≤◌, List, [], ◌∷◌, ◌++◌, length, drop, take, None, refl, sym, ap, subst, ◌∙◌, arith, length-append}
use Rattle.std.specs.Prelude.{slice_get}
use Rattle.std.proofs.lemmas.List.{append-nil, append_assoc}
use Rattle.base.proofs.Lemmas.Lists.Indices.{slice_get-append_right}
use Rattle.xb_bits.specs.Word.{Word}
use Rattle.xb_value.specs.declared.value.Value.{Value}
use Rattle.net_core.specs.declared.net.Site.{Site}
use Rattle.net_core.specs.Behavior.{Behavior, Turn, Skip, Receive, Give, IsWordOf, Takes}
use Rattle.ir_tree.specs.Activations.{first_word}
use Rattle.dslx_core.specs.Designs.{CoreActivity, turn_before}
use Rattle.dslx_meaning.specs.Activation.{turn_at}
use Rattle.ir_lower_nodes.specs.Acts.Activities.{ByWords, DoAlike, Ends, Skips, Gives, Receives}

-- ---- what a site takes

abbrev takes_by : Behavior → Value → List Word → ℕ → Site → List Site → List Word → Turn → Type 0
takes_by b s got i site sites words Skip = Takes b s got (suc i) sites words
takes_by b s got i site sites words Receive = (w : Word) × (rest : List Word) × (words ≡ w ∷ rest) × IsWordOf (b.width site.chan) w × Takes b s (got ++ w ∷ []) (suc i) sites rest
takes_by b s got i site sites words (Give x) = Takes b s got (suc i) sites words

taken : (b : Behavior) (s : Value) (got : List Word) (i : ℕ) (site : Site) (sites : List Site) (words : List Word) (t : Turn) → b.turn s got i ≡ t → Takes b s got i (site ∷ sites) words → takes_by b s got i site sites words t
taken b s got i site sites words Skip e h = rw (e, Takes) at h
taken b s got i site sites words Receive e h = rw (e, Takes) at h
taken b s got i site sites words (Give w) e h = rw (e, Takes) at h

-- ---- turns before others

abbrev pub behind_turns : List Turn → CoreActivity → CoreActivity
behind_turns front a = record { turns = front ++ a.turns; last = a.last }

one_behind : (front : List Turn) (t : Turn) (a : CoreActivity) → behind_turns front (turn_before t a) ≡ behind_turns (front ++ t ∷ []) a
one_behind front t a = ap (λ ts. record { turns = ts; last = a.last }) (sym (append_assoc front (t ∷ []) a.turns))

next_turn : (front ts : List Turn) (t : Turn) → turn_at (slice_get (front ++ t ∷ ts) (length front)) ≡ t
next_turn front ts t = ap turn_at (slice_get-append_right front (t ∷ ts) (length front) 0 (omega arith))

front_more : (front : List Turn) (t : Turn) → length (front ++ t ∷ []) ≡ suc (length front)
front_more front t = omega (arith, length-append front (t ∷ []))

none_less : {X : Type 0} (n d : ℕ) → n + d < n + 0 → X
none_less n d h = absurd (omega (arith, h))

one_less : (d n : ℕ) → suc d ≤ suc n → d ≤ n
one_less d n h = omega (arith, h)

-- ---- alike

-- the same turn at a site, and the same end behind the last one
pub record AgreeAt (f g : ByWords) (got : List Word) (k n : ℕ) : Type 0 where
  pub turn : k < n → turn_at (slice_get (f got).turns k) ≡ turn_at (slice_get (g got).turns k)
  pub last : k ≡ n → (f got).last ≡ (g got).last

module _ (b : Behavior) (s : Value) (whole other : ByWords) (turns : (got : List Word) (i : ℕ) → b.turn s got i ≡ turn_at (slice_get (whole got).turns i)) (width : ℕ → ℕ) (widths : (c : ℕ) → b.width c ≡ width c) where
  -- what stands behind some turns that took some words
  abbrev StandsBehind : ByWords → ByWords → List Turn → List Word → Type 0
  StandsBehind f whole front got = (words : List Word) → whole (got ++ words) ≡ behind_turns front (f words)

  here : (f g : ByWords) (front : List Turn) (got : List Word) (t : Turn) (n : ℕ) → StandsBehind f whole front got → StandsBehind g other front got → (x y : CoreActivity) → (f []).turns ≡ t ∷ x.turns → (g []).turns ≡ t ∷ y.turns → AgreeAt whole other (got ++ []) (length front + 0) (length front + suc n)
  here f g front got t n h k x y e q = record {
    turn = λ less. first whole f h x e ∙ sym (first other g k y q);
    last = λ same. absurd (omega (arith, same));
  }
    where
      first : (all part : ByWords) → StandsBehind part all front got → (z : CoreActivity) → (part []).turns ≡ t ∷ z.turns → turn_at (slice_get (all (got ++ [])).turns (length front + 0)) ≡ t
      first all part stands z is =
          let none : length front + 0 ≡ length front = omega arith in
          ap (λ (a : CoreActivity). turn_at (slice_get a.turns (length front + 0))) (stands [])
          ∙ (ap (λ ts. turn_at (slice_get (front ++ ts) (length front + 0))) is
          ∙ (ap (λ j. turn_at (slice_get (front ++ t ∷ z.turns) j)) none ∙ next_turn front z.turns t))

  -- what is done at the next site
  now : (f : ByWords) (front : List Turn) (got : List Word) (t : Turn) (ts : List Turn) → StandsBehind f whole front got → (f []).turns ≡ t ∷ ts → b.turn s got (length front) ≡ t
  now f front got t ts h e =
      turns got (length front)
      ∙ (ap (λ ws. turn_at (slice_get (whole ws).turns (length front))) (sym (append-nil got))
      ∙ (ap (λ (a : CoreActivity). turn_at (slice_get a.turns (length front))) (h [])
      ∙ (ap (λ us. turn_at (slice_get (front ++ us) (length front))) e ∙ next_turn front ts t)))

  move_count : (front : List Turn) (t : Turn) (d n : ℕ) (got : List Word) → AgreeAt whole other got (length (front ++ t ∷ []) + d) (length (front ++ t ∷ []) + n) → AgreeAt whole other got (length front + suc d) (length front + suc n)
  move_count front t d n got h =
      let more = front_more front t in
      let left : length (front ++ t ∷ []) + d ≡ length front + suc d = omega (arith, more) in
      let right : length (front ++ t ∷ []) + n ≡ length front + suc n = omega (arith, more) in
      subst (λ k. AgreeAt whole other got k (length front + suc n)) left (subst (λ k. AgreeAt whole other got (length (front ++ t ∷ []) + d) k) right h)

  pub alike_agree : (sites : List Site) (f g : ByWords) → DoAlike width sites f g → (front : List Turn) (got : List Word) → StandsBehind f whole front got → StandsBehind g other front got
      → (d : ℕ) (words : List Word) → d ≤ length sites → Takes b s got (length front) (take d sites) words → AgreeAt whole other (got ++ words) (length front + d) (length front + length sites)
  alike_agree [] f g (Ends _ _ v p q) front got h k d words most takes = record {
    turn = λ less. none_less (length front) d less;
    last = λ same.
        ap (λ (a : CoreActivity). a.last) (h words ∙ ap (behind_turns front) (p words)) ∙ sym (ap (λ (a : CoreActivity). a.last) (k words ∙ ap (behind_turns front) (q words)));
  }
  alike_agree (site ∷ sites) f g (Skips _ _ _ _ p q e i rest) front got h k zero words most takes =
      subst (λ ws. AgreeAt whole other (got ++ ws) (length front + 0) (length front + suc (length sites))) (sym takes)
      (here f g front got Skip (length sites) h k (p []) (q []) (ap (λ (a : CoreActivity). a.turns) (e [])) (ap (λ (a : CoreActivity). a.turns) (i [])))
  alike_agree (site ∷ sites) f g (Skips _ _ _ _ p q e i rest) front got h k (suc d) words most takes =
      move_count front Skip d (length sites) (got ++ words)
      (alike_agree sites p q rest (front ++ Skip ∷ []) got
      (λ ws. h ws ∙ (ap (behind_turns front) (e ws) ∙ one_behind front Skip (p ws)))
      (λ ws. k ws ∙ (ap (behind_turns front) (i ws) ∙ one_behind front Skip (q ws)))
      d words (one_less d (length sites) most)
      (subst (λ n. Takes b s got n (take d sites) words) (sym (front_more front Skip)) (taken b s got (length front) site (take d sites) words Skip (now f front got Skip (p []).turns h (ap (λ (a : CoreActivity). a.turns) (e []))) takes)))
  alike_agree (site ∷ sites) f g (Gives _ _ _ _ p q x e i rest) front got h k zero words most takes =
      subst (λ ws. AgreeAt whole other (got ++ ws) (length front + 0) (length front + suc (length sites))) (sym takes)
      (here f g front got (Give x) (length sites) h k (p []) (q []) (ap (λ (a : CoreActivity). a.turns) (e [])) (ap (λ (a : CoreActivity). a.turns) (i [])))
  alike_agree (site ∷ sites) f g (Gives _ _ _ _ p q x e i rest) front got h k (suc d) words most takes =
      move_count front (Give x) d (length sites) (got ++ words)
      (alike_agree sites p q rest (front ++ Give x ∷ []) got
      (λ ws. h ws ∙ (ap (behind_turns front) (e ws) ∙ one_behind front (Give x) (p ws)))
      (λ ws. k ws ∙ (ap (behind_turns front) (i ws) ∙ one_behind front (Give x) (q ws)))
      d words (one_less d (length sites) most)
      (subst (λ n. Takes b s got n (take d sites) words) (sym (front_more front (Give x))) (taken b s got (length front) site (take d sites) words (Give x) (now f front got (Give x) (p []).turns h (ap (λ (a : CoreActivity). a.turns) (e []))) takes)))
  alike_agree (site ∷ sites) f g (Receives _ _ _ _ p q e r i rest) front got h k zero words most takes =
      subst (λ ws. AgreeAt whole other (got ++ ws) (length front + 0) (length front + suc (length sites))) (sym takes)
      (here f g front got Receive (length sites) h k (record { turns = []; last = None }) (q (first_word []) (drop 1 [])) e (ap (λ (a : CoreActivity). a.turns) (i [])))
  alike_agree (site ∷ sites) f g (Receives _ _ _ _ p q e r i rest) front got h k (suc d) words most takes =
      let z = taken b s got (length front) site (take d sites) words Receive (now f front got Receive [] h e) takes in
      let w = z.0 in
      let fits : IsWordOf (width site.chan) w = subst (λ n. IsWordOf n w) (widths site.chan) z.3 in
      let again =
      alike_agree sites (p w) (q w) (rest w fits) (front ++ Receive ∷ []) (got ++ w ∷ [])
      (λ ws. ap whole (append_assoc got (w ∷ []) ws) ∙ (h (w ∷ ws) ∙ (ap (behind_turns front) (r w ws) ∙ one_behind front Receive (p w ws))))
      (λ ws. ap other (append_assoc got (w ∷ []) ws) ∙ (k (w ∷ ws) ∙ (ap (behind_turns front) (i (w ∷ ws) ∙ ap (λ us. turn_before Receive (q w us)) (none_dropped ws)) ∙ one_behind front Receive (q w ws))))
      d z.1 (one_less d (length sites) most)
      (subst (λ n. Takes b s (got ++ w ∷ []) n (take d sites) z.1) (sym (front_more front Receive)) z.4) in
      move_count front Receive d (length sites) (got ++ words)
      (subst (λ ws. AgreeAt whole other ws (length (front ++ Receive ∷ []) + d) (length (front ++ Receive ∷ []) + length sites)) (append_assoc got (w ∷ []) z.1 ∙ ap (λ ws. got ++ ws) (sym z.2)) again)
    where
      none_dropped : (ws : List Word) → drop 0 ws ≡ ws
      none_dropped [] = refl
      none_dropped (x ∷ xs) = refl
