-- Derivations of a grammar that one token of lookahead decides.
use Rattle.std.proofs.Common.{◌≡◌, ℕ, zero, suc, ◌+◌, ◌*◌, ◌<◌, ◌≤◌, Bool, true, false, cond, ◌&&◌, ltb, ◌⊎◌, inl, inr, List, [], ◌∷◌, ◌++◌, length, slice_index, sym, ap, ◌∙◌, subst, refl, append_assoc, bit_or, arith}
use Rattle.std.proofs.lemmas.Bool.{and_parts, and_from, ltb-true, lt-ltb, eqb-false, not-true}
use Rattle.std.proofs.lemmas.List.{append-nil}
use Rattle.base.specs.declared.grammar.table.Symbol.{Symbol}
use Rattle.base.specs.declared.grammar.table.Symbol.TheVariants.{Terminal, Nonterminal}
use Rattle.base.specs.Grammar.Syntax.{Rule}
use Rattle.base.specs.Grammar.Derivation.{IsRule, Derives, ReadsTo}
use Rattle.base.specs.Grammar.Derivation.Derives.{done, shift, expand}
use Rattle.base.specs.Grammar.Derivation.ReadsTo.{stop, read, rewrite}
use Rattle.base.specs.Grammar.Ll1.{Facts, is_nullable, all_nullable, begins, prefix_cost, total_cost, total_yield, keeps_follow, is_inner, ranks_below, top_rank}
use Rattle.base.proofs.OnGrammar.Sets.{Has, within-has, has-or, has-left, has-right, has-pow, has-cond, cond-has}
use Rattle.base.proofs.OnGrammar.Valid.{Valid}
use Rattle.base.proofs.OnGrammar.Deriving.{Derives-nothing, Expansion, Derives-nonterminal, Derives-append, Derives-rest, IsRule-body, ReadsTo-none, ReadsTo-nothing, ReadsTo-derives}

module _ (nullable : List Bool) (first : List ℕ) where
  pub begins-append : (a s : List Symbol) (k : ℕ) → begins nullable first k (a ++ s) ≡ begins nullable first (begins nullable first k s) a
  begins-append [] s k = refl
  begins-append (Terminal t ∷ a) s k = refl
  begins-append (Nonterminal n ∷ a) s k = ap (λ x. bit_or (slice_index first n) (cond (is_nullable nullable n) x 0)) (begins-append a s k)

  pub begins-more : (x y : ℕ) → ((k : ℕ) → Has x k → Has y k) → (a : List Symbol) (k : ℕ) → Has (begins nullable first x a) k → Has (begins nullable first y a) k
  begins-more x y m [] k h = m k h
  begins-more x y m (Terminal t ∷ a) k h = h
  begins-more x y m (Nonterminal n ∷ a) k h =
      elim (has-or (slice_index first n) (cond (is_nullable nullable n) (begins nullable first x a) 0) k h) [
        | inl l ↦ has-left (slice_index first n) _ k l
        | inr r ↦
            let q = has-cond (is_nullable nullable n) (begins nullable first x a) k r in
            has-right (slice_index first n) _ k (cond-has (is_nullable nullable n) _ k q.0 (begins-more x y m a k q.1))
      ]

  -- what begins the symbols is theirs, or what is behind them where they derive nothing
  pub begins-cases : (x : ℕ) (a : List Symbol) (k : ℕ) → Has (begins nullable first x a) k → Has (begins nullable first 0 a) k ⊎ ((all_nullable nullable a ≡ true) × Has x k)
  begins-cases x [] k h = inr (refl, h)
  begins-cases x (Terminal t ∷ a) k h = inl h
  begins-cases x (Nonterminal n ∷ a) k h =
      elim (has-or (slice_index first n) (cond (is_nullable nullable n) (begins nullable first x a) 0) k h) [
        | inl l ↦ inl (has-left (slice_index first n) _ k l)
        | inr r ↦
            let q = has-cond (is_nullable nullable n) (begins nullable first x a) k r in
            elim (begins-cases x a k q.1) [
              | inl u ↦ inl (has-right (slice_index first n) _ k (cond-has (is_nullable nullable n) _ k q.0 u))
              | inr u ↦ inr (and_from _ _ q.0 u.0, u.1)
            ]
      ]

-- Behind each nonterminal only what may follow it can begin.
abbrev pub Good : Facts → List Symbol → Type 0
Good f [] = Unit {0}
Good f (Terminal t ∷ s) = Good f s
Good f (Nonterminal n ∷ s) = ((k : ℕ) → Has (begins f.nullable f.first 0 s) k → Has (slice_index f.follow n) k) × Good f s

-- each nonterminal is one of so many
abbrev pub AllIn : ℕ → List Symbol → Type 0
AllIn count [] = Unit {0}
AllIn count (Terminal t ∷ s) = AllIn count s
AllIn count (Nonterminal n ∷ s) = (n < count) × AllIn count s

-- The end mark is the last symbol, and no other is one.
abbrev pub Pending : ℕ → List Symbol → Type 0
Pending end [] = ⊥
Pending end (Terminal t ∷ s) = ((t ≡ end) × (s ≡ [])) ⊎ ((t ≡ end → ⊥) × Pending end s)
Pending end (Nonterminal n ∷ s) = Pending end s

AllIn-append : (end count : ℕ) (b s : List Symbol) → is_inner end count b ≡ true → AllIn count s → AllIn count (b ++ s)
AllIn-append end count [] s i h = h
AllIn-append end count (Terminal t ∷ b) s i h = AllIn-append end count b s (and_parts _ _ i).1 h
AllIn-append end count (Nonterminal n ∷ b) s i h = (ltb-true _ _ (and_parts _ _ i).0, AllIn-append end count b s (and_parts _ _ i).1 h)

AllIn-inner : (end count : ℕ) (b : List Symbol) → is_inner end count b ≡ true → AllIn count b
AllIn-inner end count [] i = tt
AllIn-inner end count (Terminal t ∷ b) i = AllIn-inner end count b (and_parts _ _ i).1
AllIn-inner end count (Nonterminal n ∷ b) i = (ltb-true _ _ (and_parts _ _ i).0, AllIn-inner end count b (and_parts _ _ i).1)

Pending-append : (end count : ℕ) (b s : List Symbol) → is_inner end count b ≡ true → Pending end s → Pending end (b ++ s)
Pending-append end count [] s i h = h
Pending-append end count (Terminal t ∷ b) s i h =
    let q = and_parts _ _ i in
    inr (eqb-false t end (not-true _ q.0), Pending-append end count b s q.1 h)
Pending-append end count (Nonterminal n ∷ b) s i h = Pending-append end count b s (and_parts _ _ i).1 h

Good-append : (f : Facts) (x : ℕ) (b s : List Symbol) → keeps_follow f x b ≡ true → ((k : ℕ) → Has (begins f.nullable f.first 0 s) k → Has x k) → Good f s → Good f (b ++ s)
Good-append f x [] s i m h = h
Good-append f x (Terminal t ∷ b) s i m h = Good-append f x b s i m h
Good-append f x (Nonterminal n ∷ b) s i m h =
    let q = and_parts _ _ i in (
      λ k e.
          let e' : Has (begins f.nullable f.first (begins f.nullable f.first 0 s) b) k = subst (λ y. Has y k) (begins-append f.nullable f.first b s 0) e in
          within-has _ _ k q.0 (begins-more f.nullable f.first _ x m b k e'),
      Good-append f x b s q.1 m h,
    )

-- what the symbols derive, begun
abbrev StartsIn : Facts → List Symbol → List ℕ → Type 0
StartsIn f s [] = Unit {0}
StartsIn f s (k ∷ ts) = Has (begins f.nullable f.first 0 s) k

module _ (rules : List Rule) (chosen : List ℕ) (f : Facts) (end count : ℕ) (v : Valid rules chosen f end count) where
  first-here : (p n : ℕ) (b s : List Symbol) → IsRule rules p n b → (ts : List ℕ) → StartsIn f (b ++ s) ts → StartsIn f (Nonterminal n ∷ s) ts
  first-here p n b s r [] h = tt
  first-here p n b s r (k ∷ ts) h =
      let fine = v.fine p n b r in
      let h' : Has (begins f.nullable f.first (begins f.nullable f.first 0 s) b) k = subst (λ y. Has y k) (begins-append f.nullable f.first b s 0) h in
      elim (begins-cases f.nullable f.first (begins f.nullable f.first 0 s) b k h') [
        | inl u ↦ has-left (slice_index f.first n) _ k (within-has _ _ k fine.first u)
        | inr u ↦ has-right (slice_index f.first n) _ k (cond-has (is_nullable f.nullable n) _ k (fine.nullable u.0) u.1)
      ]

  starts : {s : List Symbol} {ps ts : List ℕ} → Derives rules s ps ts → StartsIn f s ts
  starts done = tt
  starts (shift {t = t} d) = has-pow t
  starts (expand {p = p} {n = n} b {s = s} {ts = ts} r d) = first-here p n b s r ts (starts d)

  -- The rule of any derivation that goes on with this kind is taken before it.
  pub taken : (p n k : ℕ) (b s : List Symbol) → IsRule rules p n b → Good f (Nonterminal n ∷ s) → {ps ts : List ℕ} → Derives rules (b ++ s) ps (k ∷ ts) → Has (slice_index chosen p) k
  taken p n k b s r g d =
      let h : Has (begins f.nullable f.first (begins f.nullable f.first 0 s) b) k = subst (λ y. Has y k) (begins-append f.nullable f.first b s 0) (starts d) in
      within-has _ _ k (v.fine p n b r).chosen (begins-more f.nullable f.first _ _ g.0 b k h)

  pub Good-rewrite : (p n : ℕ) (b s : List Symbol) → IsRule rules p n b → Good f (Nonterminal n ∷ s) → Good f (b ++ s)
  Good-rewrite p n b s r g = Good-append f (slice_index f.follow n) b s (v.fine p n b r).follow g.0 g.1

  pub AllIn-rewrite : (p n : ℕ) (b s : List Symbol) → IsRule rules p n b → AllIn count s → AllIn count (b ++ s)
  AllIn-rewrite p n b s r h = AllIn-append end count b s (v.fine p n b r).inner h

  pub Pending-rewrite : (p n : ℕ) (b s : List Symbol) → IsRule rules p n b → Pending end s → Pending end (b ++ s)
  Pending-rewrite p n b s r h = Pending-append end count b s (v.fine p n b r).inner h

  pub Good-left : {s left : List Symbol} {ps ts : List ℕ} → ReadsTo rules s ps ts left → Good f s → Good f left
  Good-left stop g = g
  Good-left (read r) g = Good-left r g
  Good-left (rewrite {p = p} {n = n} b {s = s} e r) g = Good-left r (Good-rewrite p n b s e g)

  pub AllIn-left : {s left : List Symbol} {ps ts : List ℕ} → ReadsTo rules s ps ts left → AllIn count s → AllIn count left
  AllIn-left stop g = g
  AllIn-left (read r) g = AllIn-left r g
  AllIn-left (rewrite {p = p} {n = n} b {s = s} e r) g = AllIn-left r (AllIn-rewrite p n b s e g.1)

prefix_step : (b c : Bool) (x y z w : ℕ) → y ≤ z + cond c w 0 → x + cond b y 0 ≤ x + cond b z 0 + cond (b && c) w 0
prefix_step true c x y z w h = omega arith
prefix_step false c x y z w h = omega arith

cond_less : (a b : Bool) (w : ℕ) → (a ≡ true → b ≡ true) → cond a w 0 ≤ cond b w 0
cond_less true true w h = omega arith
cond_less true false w h = absurd (let e = h refl in cc)
cond_less false b w h = omega arith

-- the last of the list
abbrev pub LastIs : List ℕ → ℕ → Type 0
LastIs [] x = ⊥
LastIs (y ∷ []) x = y ≡ x
LastIs (y ∷ z ∷ ys) x = LastIs (z ∷ ys) x

-- ---- each list of symbols derives something

abbrev Completes : List Rule → List Symbol → Type 0
Completes rules s = (ps ts : List ℕ) × Derives rules s ps ts

ranks_below-more : (rank : List ℕ) (m n : ℕ) → m ≤ n → (s : List Symbol) → ranks_below rank m s ≡ true → ranks_below rank n s ≡ true
ranks_below-more rank m n le [] h = refl
ranks_below-more rank m n le (Terminal t ∷ s) h = ranks_below-more rank m n le s h
ranks_below-more rank m n le (Nonterminal i ∷ s) h =
    let q = and_parts (ltb (slice_index rank i) m) (ranks_below rank m s) h in
    let lt : slice_index rank i < m = ltb-true _ _ q.0 in
    and_from _ _ (lt-ltb _ _ (omega arith)) (ranks_below-more rank m n le s q.1)

ranks_below-top : (rank : List ℕ) (s : List Symbol) → ranks_below rank (suc (top_rank rank s)) s ≡ true
ranks_below-top rank [] = refl
ranks_below-top rank (Terminal t ∷ s) = ranks_below-top rank s
ranks_below-top rank (Nonterminal i ∷ s) =
    and_from _ _ (lt-ltb _ _ (omega arith)) (ranks_below-more rank (suc (top_rank rank s)) _ (omega arith) s (ranks_below-top rank s))

module _ (rules : List Rule) (chosen : List ℕ) (f : Facts) (end count : ℕ) (v : Valid rules chosen f end count) where
  none_below : (s : List Symbol) → ranks_below f.rank 0 s ≡ true → Completes rules s
  none_below [] h = ([], [], done)
  none_below (Terminal t ∷ s) h = let c = none_below s h in (c.0, t ∷ c.1, shift c.2)
  none_below (Nonterminal n ∷ s) h =
      let lt : slice_index f.rank n < 0 = ltb-true _ _ (and_parts (ltb (slice_index f.rank n) 0) (ranks_below f.rank 0 s) h).0 in
      absurd (omega arith)

  one_more : (top : ℕ) → ((s : List Symbol) → AllIn count s → ranks_below f.rank top s ≡ true → Completes rules s) → (s : List Symbol) → AllIn count s → ranks_below f.rank (suc top) s ≡ true → Completes rules s
  one_more top below [] i h = ([], [], done)
  one_more top below (Terminal t ∷ s) i h = let c = one_more top below s i h in (c.0, t ∷ c.1, shift c.2)
  one_more top below (Nonterminal n ∷ s) i h =
      let q = and_parts _ _ h in
      let lt : slice_index f.rank n < suc top = ltb-true _ _ q.0 in
      let way = v.productive n i.0 in
      let own = below way.1 (AllIn-inner end count way.1 (v.fine way.0 n way.1 way.2).inner) (ranks_below-more f.rank (slice_index f.rank n) top (omega arith) way.1 way.3) in
      let rest = one_more top below s i.1 q.1 in
      (way.0 ∷ (own.0 ++ rest.0), own.1 ++ rest.1, expand way.1 way.2 (Derives-append own.2 rest.2))

  up_to : (top : ℕ) (s : List Symbol) → AllIn count s → ranks_below f.rank top s ≡ true → Completes rules s
  up_to zero s i h = none_below s h
  up_to (suc top) s i h = one_more top (up_to top) s i h

  pub completes : (s : List Symbol) → AllIn count s → Completes rules s
  completes s i = up_to (suc (top_rank f.rank s)) s i (ranks_below-top f.rank s)

  -- Two derivations of these symbols that go on with the same kind begin with the same rule.
  same_rule : (n k : ℕ) (s : List Symbol) → Good f (Nonterminal n ∷ s) → (p : ℕ) (b : List Symbol) → IsRule rules p n b → {ps ts : List ℕ} → Derives rules (b ++ s) ps (k ∷ ts) → (q : ℕ) (c : List Symbol) → IsRule rules q n c → {qs us : List ℕ} → Derives rules (c ++ s) qs (k ∷ us) → p ≡ q
  same_rule n k s g p b r d q c r' e =
      v.apart p q n k b c r r' (taken rules chosen f end count v p n k b s r g d) (taken rules chosen f end count v q n k c s r' g e)

  -- what a nonterminal was rewritten to, where a derivation before the same kind is known
  expansion : (n k : ℕ) (s : List Symbol) → Good f (Nonterminal n ∷ s) → (p : ℕ) (b : List Symbol) → IsRule rules p n b → {ps ts : List ℕ} → Derives rules (b ++ s) ps (k ∷ ts) → {qs us : List ℕ} → Derives rules (Nonterminal n ∷ s) qs (k ∷ us) → (others : List ℕ) × (qs ≡ p ∷ others) × Derives rules (b ++ s) others (k ∷ us)
  expansion n k s g p b r d {us = us} e =
      let x = Derives-nonterminal e in
      let same : p ≡ x.number = same_rule n k s g p b r d x.number x.body x.rule x.derives in
      let rule : IsRule rules p n x.body = subst (λ j. IsRule rules j n x.body) (sym same) x.rule in
      let bodies : x.body ≡ b = IsRule-body rules p n n x.body b rule r in
      (x.others, x.is ∙ ap (λ j. j ∷ x.others) (sym same), subst (λ y. Derives rules (y ++ s) x.others (k ∷ us)) bodies x.derives)

  -- What was read begins each derivation of these tokens and more, and what is left derives the rest.
  pub splits : {s left : List Symbol} {qs ts : List ℕ} → ReadsTo rules s qs ts left → Good f s → AllIn count s → {ps : List ℕ} (more : List ℕ) → Derives rules s ps (ts ++ more) → (rest : List ℕ) × (ps ≡ qs ++ rest) × Derives rules left rest more
  splits stop g i {ps = ps} more d = (ps, refl, d)
  splits (read r) g i more d = splits r g i more (Derives-rest d).1
  splits (rewrite {p = p} {n = n} {t = t} b {s = s} e r) g i more d =
      let inside = AllIn-rewrite rules chosen f end count v p n b s e i.1 in
      let c = completes _ (AllIn-left rules chosen f end count v r inside) in
      let x = expansion n t s g p b e (ReadsTo-derives r c.2) d in
      let rest = splits r (Good-rewrite rules chosen f end count v p n b s e g) inside more x.2 in
      (rest.0, x.1 ∙ ap (λ l. p ∷ l) rest.1, rest.2)

  ends_read : (t : ℕ) (s left : List Symbol) (ps ts : List ℕ) → ReadsTo rules s ps ts left → (Pending end s → LastIs ts end → left ≡ []) → Pending end (Terminal t ∷ s) → LastIs (t ∷ ts) end → left ≡ []
  ends_read t s left ps [] r rest (inl e) l = ReadsTo-none r ∙ e.1
  ends_read t s left ps [] r rest (inr e) l = absurd (e.0 l)
  ends_read t s left ps (u ∷ us) r rest (inl e) l = absurd (ReadsTo-nothing (subst (λ x. ReadsTo rules x ps (u ∷ us) left) e.1 r))
  ends_read t s left ps (u ∷ us) r rest (inr e) l = rest e.1 l

  -- Where the last token read is the end mark, nothing is left.
  pub ends : {s left : List Symbol} {qs ts : List ℕ} → ReadsTo rules s qs ts left → Pending end s → LastIs ts end → left ≡ []
  ends stop p l = absurd l
  ends (read {t = t} {s = s} {left = left} {ps = ps} {ts = ts} r) p l = ends_read t s left ps ts r (λ a b. ends r a b) p l
  ends (rewrite {p = p} {n = n} b {s = s} e r) h l = ends r (Pending-rewrite rules chosen f end count v p n b s e h) l

  read_on : (p n : ℕ) (b s : List Symbol) → IsRule rules p n b → Pending end (b ++ s) → {ps : List ℕ} (ts : List ℕ) → ReadsTo rules (b ++ s) ps ts [] → ReadsTo rules (Nonterminal n ∷ s) (p ∷ ps) ts []
  read_on p n b s e h [] r = absurd (subst (λ x. Pending end x) (sym (ReadsTo-none r)) h)
  read_on p n b s e h (t ∷ ts) r = rewrite b e r

  shift_on : (t : ℕ) (s : List Symbol) {ps ts : List ℕ} → Derives rules s ps ts → (Pending end s → ReadsTo rules s ps ts []) → Pending end (Terminal t ∷ s) → ReadsTo rules (Terminal t ∷ s) ps (t ∷ ts) []
  shift_on t s {ps} {ts} d rest (inl e) =
      let q = Derives-nothing (subst (λ x. Derives rules x ps ts) e.1 d) in
      read (subst (λ x. ReadsTo rules x ps ts []) (sym e.1) (subst (λ x. ReadsTo rules [] x ts []) (sym q.0) (subst (λ x. ReadsTo rules [] [] x []) (sym q.1) stop)))
  shift_on t s d rest (inr e) = read (rest e.1)

  -- A derivation up to the end mark reads its tokens and leaves nothing.
  pub derives-reads : {s : List Symbol} {ps ts : List ℕ} → Derives rules s ps ts → Pending end s → ReadsTo rules s ps ts []
  derives-reads done h = absurd h
  derives-reads (shift {t = t} {s = s} d) h = shift_on t s d (λ p. derives-reads d p) h
  derives-reads (expand {p = p} {n = n} b {s = s} {ts = ts} e d) h =
      let p' = Pending-rewrite rules chosen f end count v p n b s e h in
      read_on p n b s e p' ts (derives-reads d p')

  -- what is read to the end, and left nothing, is the one derivation
  pub only_one : {s : List Symbol} {qs ts : List ℕ} → ReadsTo rules s qs ts [] → Good f s → AllIn count s → (ps : List ℕ) → Derives rules s ps ts → ps ≡ qs
  only_one {s} {qs} {ts} r g i ps d =
      let x = splits r g i [] (subst (λ y. Derives rules s ps y) (sym (append-nil ts)) d) in
      x.1 ∙ ap (λ y. qs ++ y) (Derives-nothing x.2).0 ∙ append-nil qs

  total_yield-append : (a s : List Symbol) → total_yield f.nullable (a ++ s) ≡ total_yield f.nullable a + total_yield f.nullable s
  total_yield-append [] s = omega arith
  total_yield-append (Terminal t ∷ a) s = let h = total_yield-append a s in omega (arith, h)
  total_yield-append (Nonterminal n ∷ a) s = let h = total_yield-append a s in omega (arith, h)

  total_cost-append : (a s : List Symbol) → total_cost f.cost (a ++ s) ≡ total_cost f.cost a + total_cost f.cost s
  total_cost-append [] s = omega arith
  total_cost-append (Terminal t ∷ a) s = total_cost-append a s
  total_cost-append (Nonterminal n ∷ a) s = let h = total_cost-append a s in omega (arith, h)

  -- Each token pays for 32 rules.
  pub few : {s : List Symbol} {ps ts : List ℕ} → Derives rules s ps ts → length ps + 32 * total_yield f.nullable s ≤ 32 * length ts + total_cost f.cost s
  few done = omega arith
  few (shift d) = let h = few d in omega (arith, h)
  few (expand {p = p} {n = n} b {s = s} e d) =
      let h = few d in
      let y = total_yield-append b s in
      let c = total_cost-append b s in
      let fine = (v.fine p n b e).total_cost in
      omega (arith, h, y, c, fine)

  prefix_cost-append : (a s : List Symbol) → prefix_cost f.nullable f.cost (a ++ s) ≤ prefix_cost f.nullable f.cost a + (cond (all_nullable f.nullable a) (prefix_cost f.nullable f.cost s) 0)
  prefix_cost-append [] s = omega arith
  prefix_cost-append (Terminal t ∷ a) s = omega arith
  prefix_cost-append (Nonterminal n ∷ a) s =
      prefix_step (is_nullable f.nullable n) (all_nullable f.nullable a) (slice_index f.cost n) _ (prefix_cost f.nullable f.cost a) (prefix_cost f.nullable f.cost s) (prefix_cost-append a s)

  -- The cost of a stack's front falls where its nonterminal is rewritten.
  pub prefix_cost-rewrite : (p n : ℕ) (b s : List Symbol) → IsRule rules p n b → prefix_cost f.nullable f.cost (b ++ s) < prefix_cost f.nullable f.cost (Nonterminal n ∷ s)
  prefix_cost-rewrite p n b s e =
      let fine = v.fine p n b e in
      let most = prefix_cost-append b s in
      let less = fine.prefix_cost in
      let behind = cond_less (all_nullable f.nullable b) (is_nullable f.nullable n) (prefix_cost f.nullable f.cost s) fine.nullable in
      omega (arith, most, less, behind)

-- ---- a loop that reads one token

-- From the old symbols these rules, now at the end of the list, lead to the symbols before a token of this kind.
pub record Leads (rules : List Rule) (f : Facts) (count kind : ℕ) (old s : List Symbol) (before after : List ℕ) : Type 0 where
  pub numbers : List ℕ
  pub grown : after ≡ before ++ numbers
  pub reads : (qs : List ℕ) (left : List Symbol) → ReadsTo rules s qs (kind ∷ []) left → ReadsTo rules old (numbers ++ qs) (kind ∷ []) left
  pub passes : (ps ts : List ℕ) → Derives rules old ps (kind ∷ ts) → (rest : List ℕ) × Derives rules s rest (kind ∷ ts)
  pub good : Good f s
  pub all_in : AllIn count s

pub Leads-start : (rules : List Rule) (f : Facts) (count kind : ℕ) (old : List Symbol) (before : List ℕ) → Good f old → AllIn count old → Leads rules f count kind old old before before
Leads-start rules f count kind old before g i = record {
  numbers = [];
  grown = sym (append-nil before);
  reads = λ qs left r. r;
  passes = λ ps ts d. (ps, d);
  good = g;
  all_in = i;
}

module _ (rules : List Rule) (chosen : List ℕ) (f : Facts) (end count : ℕ) (v : Valid rules chosen f end count) where
  same_expansion : (p n kind : ℕ) (b s : List Symbol) → IsRule rules p n b → Has (slice_index chosen p) kind → Good f (Nonterminal n ∷ s) → (ts : List ℕ) {ps : List ℕ} → Expansion rules n s ps (kind ∷ ts) → (rest : List ℕ) × Derives rules (b ++ s) rest (kind ∷ ts)
  same_expansion p n kind b s e has g ts x =
      let same : x.number ≡ p = v.apart x.number p n kind x.body b x.rule e (taken rules chosen f end count v x.number n kind x.body s x.rule g x.derives) has in
      let rule : IsRule rules p n x.body = subst (λ j. IsRule rules j n x.body) same x.rule in
      let bodies : x.body ≡ b = IsRule-body rules p n n x.body b rule e in
      (x.others, subst (λ y. Derives rules (y ++ s) x.others (kind ∷ ts)) bodies x.derives)

  pub Leads-rewrite : (kind : ℕ) (old s : List Symbol) (n p : ℕ) (b : List Symbol) (before after : List ℕ) → Leads rules f count kind old (Nonterminal n ∷ s) before after → IsRule rules p n b → Has (slice_index chosen p) kind → Leads rules f count kind old (b ++ s) before (after ++ p ∷ [])
  Leads-rewrite kind old s n p b before after l e has = record {
    numbers = l.numbers ++ p ∷ [];
    grown = ap (λ x. x ++ p ∷ []) l.grown ∙ append_assoc before l.numbers (p ∷ []);
    reads = λ qs left r. subst (λ x. ReadsTo rules old x (kind ∷ []) left) (sym (append_assoc l.numbers (p ∷ []) qs)) (l.reads (p ∷ qs) left (rewrite b e r));
    passes = λ ps ts d. same_expansion p n kind b s e has l.good ts (Derives-nonterminal (l.passes ps ts d).1);
    good = Good-rewrite rules chosen f end count v p n b s e l.good;
    all_in = AllIn-rewrite rules chosen f end count v p n b s e l.all_in.1;
  }

  pub Leads-none : (kind : ℕ) (old s : List Symbol) (before after : List ℕ) → Leads rules f count kind old s before after → ((ps ts : List ℕ) → Derives rules s ps (kind ∷ ts) → ⊥) → (ps ts : List ℕ) → Derives rules old ps (kind ∷ ts) → ⊥
  Leads-none kind old s before after l never ps ts d = let x = l.passes ps ts d in never x.0 ts x.1

  pub none-empty : (kind : ℕ) (ps ts : List ℕ) → Derives rules [] ps (kind ∷ ts) → ⊥
  none-empty kind ps ts d = let e = (Derives-nothing d).1 in cc

  pub none-other : (kind t : ℕ) (s : List Symbol) → (t ≡ kind → ⊥) → (ps ts : List ℕ) → Derives rules (Terminal t ∷ s) ps (kind ∷ ts) → ⊥
  none-other kind t s never ps ts d = never (Derives-rest d).0

  none-from : (kind n : ℕ) (s : List Symbol) → Good f (Nonterminal n ∷ s) → ((p : ℕ) (b : List Symbol) → IsRule rules p n b → Has (slice_index chosen p) kind → ⊥) → (ps ts : List ℕ) → Expansion rules n s ps (kind ∷ ts) → ⊥
  none-from kind n s g never ps ts x = never x.number x.body x.rule (taken rules chosen f end count v x.number n kind x.body s x.rule g x.derives)

  pub none-chosen : (kind n : ℕ) (s : List Symbol) → Good f (Nonterminal n ∷ s) → ((p : ℕ) (b : List Symbol) → IsRule rules p n b → Has (slice_index chosen p) kind → ⊥) → (ps ts : List ℕ) → Derives rules (Nonterminal n ∷ s) ps (kind ∷ ts) → ⊥
  none-chosen kind n s g never ps ts d = none-from kind n s g never ps ts (Derives-nonterminal d)
