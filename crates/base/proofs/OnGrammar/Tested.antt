-- What the test's answer says.
use Rattle.std.proofs.Common.{◌≡◌, ℕ, zero, suc, ◌+◌, ◌^◌, ◌<◌, ◌≤◌, Bool, true, false, not, ◌&&◌, ◌||◌, eqb, ltb, leb, inl, inr, List, [], ◌∷◌, length, take, drop, ◌-◌, map, Some, slice_index, slice_index_or, sym, ap, ◌∙◌, subst, refl, zero-add, arith}
use Rattle.std.specs.Prelude.{slice_get}
use Rattle.std.specs.List.{list_any, list_all}
use Rattle.std.proofs.lemmas.Bool.{and_parts, or_cases, cases_eq, cases_order, eqb-true, eq-eqb, ltb-true, leb-true}
use Rattle.base.specs.declared.grammar.table.Symbol.{Symbol}
use Rattle.base.specs.declared.grammar.table.Production.{Production}
use Rattle.base.specs.declared.grammar.table.Span.{Span}
use Rattle.base.specs.declared.grammar.table.Grammar.{Grammar}
use Rattle.base.specs.Grammar.Syntax.{Rule, rule_of, rules_of}
use Rattle.base.specs.Grammar.Derivation.{IsRule}
use Rattle.base.specs.Grammar.Ll1.{Facts, is_nullable, all_nullable, is_within, is_apart, ranks_below, is_ll1_rule, are_ll1_rules, is_apart_from, all_apart, is_in_span, all_covered, is_productive, all_productive, is_in_tables, are_facts, facts_of, chosen_of, is_ll1, IsLl1}
use Rattle.base.proofs.OnGrammar.Sets.{Has, apart-has}
use Rattle.base.proofs.OnGrammar.Valid.{Ll1Rules, Valid}

pub facts : Grammar → Facts
facts g = facts_of g.end g.spans.now (rules_of g)

tested : (g : Grammar) → IsLl1 g → are_facts (facts g) g (rules_of g) (chosen_of g) ≡ true
unfolding is_ll1 facts
tested g h = h

-- ---- each rule

module _ (f : Facts) (end count : ℕ) where
  fine-parts : (n : ℕ) (b : List Symbol) (c : ℕ) → is_ll1_rule f end count (record { head = n; body = b }) c ≡ true → Ll1Rules f end count n b c
  fine-parts n b c h =
      let q8 = and_parts _ (ltb c (2 ^ 128)) h in
      let q7 = and_parts _ _ q8.0 in
      let q6 = and_parts _ _ q7.0 in
      let q5 = and_parts _ _ q6.0 in
      let q4 = and_parts _ _ q5.0 in
      let q3 = and_parts _ _ q4.0 in
      let q2 = and_parts _ _ q3.0 in
      record {
        chosen = q2.0;
        first = q2.1;
        nullable = λ e. implied (all_nullable f.nullable b) (is_nullable f.nullable n) q3.1 e;
        follow = q4.1;
        inner = q5.1;
        prefix_cost = ltb-true _ _ q6.1;
        total_cost = ltb-true _ _ q7.1;
        fits = ltb-true _ _ q8.1;
      }
    where
      implied : (x y : Bool) → (not x || y) ≡ true → x ≡ true → y ≡ true
      implied true y h e = h
      implied false y h e = cc

  fine-at : (rules : List Rule) (cs : List ℕ) (p : ℕ) (r : Rule) → are_ll1_rules f end count rules cs ≡ true → slice_get rules p ≡ Some r → is_ll1_rule f end count r (slice_index cs p) ≡ true
  fine-at [] cs p r h e = cc
  fine-at (s ∷ rules) [] p r h e = cc
  fine-at (s ∷ rules) (c ∷ cs) zero r h e =
      let same : s ≡ r = cc in
      subst (λ x. is_ll1_rule f end count x c ≡ true) same (and_parts _ (are_ll1_rules f end count rules cs) h).0
  fine-at (s ∷ rules) (c ∷ cs) (suc p) r h e = fine-at rules cs p r (and_parts (is_ll1_rule f end count s c) _ h).1 e

-- ---- two rules

apart-one : (head c : ℕ) (rules : List Rule) (cs : List ℕ) (q : ℕ) (r : Rule) → is_apart_from head c rules cs ≡ true → slice_get rules q ≡ Some r → r.head ≡ head → is_apart c (slice_index cs q) ≡ true
apart-one head c [] cs q r h e same = cc
apart-one head c (s ∷ rules) [] q r h e same = cc
apart-one head c (s ∷ rules) (d ∷ cs) zero r h e same =
    let here : s ≡ r = cc in
    let one = and_parts (not (eqb s.head head) || is_apart c d) (is_apart_from head c rules cs) h in
    other (eqb s.head head) (is_apart c d) one.0 (eq-eqb _ _ (ap (λ (x : Rule). x.head) here ∙ same))
  where
    other : (x y : Bool) → (not x || y) ≡ true → x ≡ true → y ≡ true
    other true y h e = h
    other false y h e = cc
apart-one head c (s ∷ rules) (d ∷ cs) (suc q) r h e same =
    apart-one head c rules cs q r (and_parts (not (eqb s.head head) || is_apart c d) (is_apart_from head c rules cs) h).1 e same

apart-two : (rules : List Rule) (cs : List ℕ) (p q : ℕ) (r t : Rule) → all_apart rules cs ≡ true → p < q → slice_get rules p ≡ Some r → slice_get rules q ≡ Some t → t.head ≡ r.head → is_apart (slice_index cs p) (slice_index cs q) ≡ true
apart-two [] cs p q r t h lt e d same = cc
apart-two (s ∷ rules) [] p q r t h lt e d same = cc
apart-two (s ∷ rules) (c ∷ cs) p zero r t h lt e d same = absurd (omega arith)
apart-two (s ∷ rules) (c ∷ cs) zero (suc q) r t h lt e d same =
    let here : s ≡ r = cc in
    apart-one s.head c rules cs q t (and_parts (is_apart_from s.head c rules cs) (all_apart rules cs) h).0 d (same ∙ ap (λ (x : Rule). x.head) (sym here))
apart-two (s ∷ rules) (c ∷ cs) (suc p) (suc q) r t h lt e d same =
    apart-two rules cs p q r t (and_parts (is_apart_from s.head c rules cs) (all_apart rules cs) h).1 (omega arith) e d same

apart-all : (rules : List Rule) (cs : List ℕ) → all_apart rules cs ≡ true → (p q n k : ℕ) (b c : List Symbol) → IsRule rules p n b → IsRule rules q n c → Has (slice_index cs p) k → Has (slice_index cs q) k → p ≡ q
apart-all rules cs h p q n k b c r t hp hq =
    elim (cases_order p q) [
      | inl same ↦ same
      | inr o ↦
          elim o [
            | inl lt ↦ absurd (apart-has _ _ k (apart-two rules cs p q _ _ h lt r t refl) hp hq)
            | inr lt ↦ absurd (apart-has _ _ k (apart-two rules cs q p _ _ h lt t r refl) hq hp)
          ]
    ]

-- ---- something that each nonterminal derives

any-at : (test : Rule → Bool) (rules : List Rule) → list_any test rules ≡ true → (p : ℕ) × (r : Rule) × (slice_get rules p ≡ Some r) × (test r ≡ true)
any-at test [] h = cc
any-at test (s ∷ rules) h =
    elim (or_cases (test s) (list_any test rules) h) [
      | inl e ↦ (zero, s, refl, e)
      | inr e ↦ let x = any-at test rules e in (suc x.0, x.1, x.2, x.3)
    ]

productive-below : (rank : List ℕ) (rules : List Rule) (count n : ℕ) → all_productive rank rules count ≡ true → n < count → is_productive rank rules n ≡ true
productive-below rank rules zero n h lt = absurd (omega arith)
productive-below rank rules (suc c) n h lt =
    let q = and_parts (is_productive rank rules c) (all_productive rank rules c) h in
    elim (cases_eq n c) [
      | inl e ↦ subst (λ x. is_productive rank rules x ≡ true) (sym e) q.0
      | inr ne ↦ productive-below rank rules c n q.1 (omega arith)
    ]

productive-at : (rank : List ℕ) (rules : List Rule) (count n : ℕ) → all_productive rank rules count ≡ true → n < count → (p : ℕ) × (b : List Symbol) × IsRule rules p n b × (ranks_below rank (slice_index rank n) b ≡ true)
productive-at rank rules count n h lt =
    let x = any-at _ rules (productive-below rank rules count n h lt) in
    let q = and_parts (eqb x.1.head n) (ranks_below rank (slice_index rank n) x.1.body) x.3 in
    (x.0, x.1.body, subst (λ m. slice_get rules x.0 ≡ Some (record { head = m; body = x.1.body })) (eqb-true _ _ q.0) x.2, q.1)

-- ---- the tables

covered-at : (spans : List Span) (start : ℕ) (rules : List Rule) (p : ℕ) (r : Rule) → all_covered spans start rules ≡ true → slice_get rules p ≡ Some r → is_in_span (slice_index_or spans r.head (record { first = 0; end = 0 })) (start + p) ≡ true
covered-at spans start [] p r h e = cc
covered-at spans start (s ∷ rules) zero r h e =
    let here : s ≡ r = cc in
    let q = and_parts (is_in_span (slice_index_or spans s.head (record { first = 0; end = 0 })) start) (all_covered spans (suc start) rules) h in
    let at : start ≡ start + 0 = omega arith in
    subst (λ x. is_in_span (slice_index_or spans r.head (record { first = 0; end = 0 })) x ≡ true) at
    (subst (λ (x : Rule). is_in_span (slice_index_or spans x.head (record { first = 0; end = 0 })) start ≡ true) here q.0)
covered-at spans start (s ∷ rules) (suc p) r h e =
    let q = and_parts (is_in_span (slice_index_or spans s.head (record { first = 0; end = 0 })) start) (all_covered spans (suc start) rules) h in
    let at : suc start + p ≡ start + suc p = omega arith in
    subst (λ x. is_in_span (slice_index_or spans r.head (record { first = 0; end = 0 })) x ≡ true) at (covered-at spans (suc start) rules p r q.1 e)

all-at : {X : Type 0} (test : X → Bool) (xs : List X) (i : ℕ) (x : X) → list_all test xs ≡ true → slice_get xs i ≡ Some x → test x ≡ true
all-at test [] i x h e = cc
all-at test (y ∷ xs) zero x h e =
    let here : y ≡ x = cc in
    subst (λ z. test z ≡ true) here (and_parts (test y) (list_all test xs) h).0
all-at test (y ∷ xs) (suc i) x h e = all-at test xs i x (and_parts (test y) (list_all test xs) h).1 e

-- Each production's body is in the table of symbols, each nonterminal's alternatives are in the table of
-- productions, and each rule is in its nonterminal's span.
pub record Tables (g : Grammar) : Type 0 where
  pub bodies : (p : ℕ) (r : Production) → slice_get g.productions.now p ≡ Some r → (r.first ≤ r.end) × (r.end ≤ length g.symbols.now)
  pub spans : (n : ℕ) (s : Span) → slice_get g.spans.now n ≡ Some s → s.end ≤ length g.productions.now
  pub covered : (p : ℕ) (r : Rule) → slice_get (rules_of g) p ≡ Some r → is_in_span (slice_index_or g.spans.now r.head (record { first = 0; end = 0 })) p ≡ true
  pub valid : Valid (rules_of g) (chosen_of g) (facts g) g.end (length g.spans.now)

tables_of : (f : Facts) (g : Grammar) → are_facts f g (rules_of g) (chosen_of g) ≡ true → facts g ≡ f → Tables g
tables_of f g h same =
    let count = length g.spans.now in
    let q8 = and_parts _ (leb (slice_index f.cost 0) 32) h in
    let q7 = and_parts _ (is_within (2 ^ g.end) (slice_index f.follow 0)) q8.0 in
    let q6 = and_parts _ (ltb 0 count) q7.0 in
    let q5 = and_parts _ (all_productive f.rank (rules_of g) count) q6.0 in
    let q4 = and_parts _ (all_covered g.spans.now 0 (rules_of g)) q5.0 in
    let q3 = and_parts _ (all_apart (rules_of g) (chosen_of g)) q4.0 in
    let q2 = and_parts (is_in_tables g.productions.now (length g.symbols.now) (length g.productions.now) g.spans.now) (are_ll1_rules f g.end count (rules_of g) (chosen_of g)) q3.0 in
    let q1 = and_parts (list_all (λ (p : Production). leb p.first p.end && leb p.end (length g.symbols.now)) g.productions.now) (list_all (λ (s : Span). leb s.end (length g.productions.now)) g.spans.now) q2.0 in
    record {
      bodies = λ p r e. let b = and_parts (leb r.first r.end) (leb r.end (length g.symbols.now)) (all-at _ g.productions.now p r q1.0 e) in (leb-true _ _ b.0, leb-true _ _ b.1);
      spans = λ n s e. leb-true _ _ (all-at _ g.spans.now n s q1.1 e);
      covered = λ p r e. subst (λ i. is_in_span (slice_index_or g.spans.now r.head (record { first = 0; end = 0 })) i ≡ true) (zero-add p) (covered-at g.spans.now 0 (rules_of g) p r q4.1 e);
      valid = subst (λ x. Valid (rules_of g) (chosen_of g) x g.end count) (sym same) (record {
        fine = λ p n b e. fine-parts f g.end count n b _ (fine-at f g.end count (rules_of g) (chosen_of g) p _ q2.1 e);
        apart = apart-all (rules_of g) (chosen_of g) q3.1;
        productive = λ n lt. productive-at f.rank (rules_of g) count n q5.1 lt;
        some = ltb-true _ _ q6.1;
        start_follow = q7.1;
        start_cost = leb-true _ _ q8.1;
      });
    }

pub tables : (g : Grammar) → IsLl1 g → Tables g
tables g h = tables_of (facts g) g (tested g h) refl

-- ---- the production at a place

pub get-within : {X : Type 0} (xs : List X) (i : ℕ) (d : X) → i < length xs → slice_get xs i ≡ Some (slice_index_or xs i d)
get-within [] i d lt = absurd (omega arith)
get-within (x ∷ xs) zero d lt = refl
get-within (x ∷ xs) (suc i) d lt = get-within xs i d (omega arith)

pub get-map : {X Y : Type 0} (f : X → Y) (xs : List X) (i : ℕ) (x : X) → slice_get xs i ≡ Some x → slice_get (map f xs) i ≡ Some (f x)
get-map f [] i x e = cc
get-map f (y ∷ xs) zero x e = let here : y ≡ x = cc in ap (λ z. Some (f z)) here
get-map f (y ∷ xs) (suc i) x e = get-map f xs i x e

pub map-get : {X Y : Type 0} (f : X → Y) (xs : List X) (i : ℕ) (y : Y) → slice_get (map f xs) i ≡ Some y → (x : X) × (slice_get xs i ≡ Some x) × (f x ≡ y)
map-get f [] i y e = cc
map-get f (x ∷ xs) zero y e = (x, refl, cc)
map-get f (x ∷ xs) (suc i) y e = map-get f xs i y e

pub index-map : {X : Type 0} (f : X → ℕ) (xs : List X) (i : ℕ) (x : X) → slice_get xs i ≡ Some x → slice_index (map f xs) i ≡ f x
index-map f [] i x e = cc
index-map f (y ∷ xs) zero x e = let here : y ≡ x = cc in ap f here
index-map f (y ∷ xs) (suc i) x e = index-map f xs i x e

pub get-length : {X : Type 0} (xs : List X) (i : ℕ) (x : X) → slice_get xs i ≡ Some x → i < length xs
get-length [] i x e = cc
get-length (y ∷ xs) zero x e = omega arith
get-length (y ∷ xs) (suc i) x e = let h = get-length xs i x e in omega (arith, h)

-- the rule that a production says
pub rule-at : (g : Grammar) (i : ℕ) (p : Production) → slice_get g.productions.now i ≡ Some p → IsRule (rules_of g) i p.head (rule_of g.symbols.now p).body
rule-at g i p e = get-map (rule_of g.symbols.now) g.productions.now i p e

pub chosen-at : (g : Grammar) (i : ℕ) (p : Production) → slice_get g.productions.now i ≡ Some p → slice_index (chosen_of g) i ≡ p.chosen
chosen-at g i p e = index-map (λ (q : Production). q.chosen) g.productions.now i p e

-- what is read of a production, in the names of the code
pub record BodyAt (g : Grammar) (number first end : ℕ) : Type 0 where
  pub ordered : first ≤ end
  pub within : end ≤ length g.symbols.now
  pub head : ℕ
  pub rule : IsRule (rules_of g) number head (take (end - first) (drop first g.symbols.now))

pub body-at : (g : Grammar) → IsLl1 g → (number i first end : ℕ) (d : Production) → i ≡ number → number < length g.productions.now → first ≡ (slice_index_or g.productions.now i d).first → end ≡ (slice_index_or g.productions.now i d).end → BodyAt g number first end
body-at g valid number i first end d same lt f e =
    let p = slice_index_or g.productions.now number d in
    let got = get-within g.productions.now number d lt in
    let b = (tables g valid).bodies number p got in
    let f' : first ≡ p.first = f ∙ ap (λ j. (slice_index_or g.productions.now j d).first) same in
    let e' : end ≡ p.end = e ∙ ap (λ j. (slice_index_or g.productions.now j d).end) same in
    record {
      ordered = omega (arith, f', e', b);
      within = omega (arith, f', e', b);
      head = p.head;
      rule = subst (λ x. IsRule (rules_of g) number p.head (take (x - first) (drop first g.symbols.now))) (sym e') (subst (λ x. IsRule (rules_of g) number p.head (take (p.end - x) (drop x g.symbols.now))) (sym f') (rule-at g number p got));
    }

pub rule-number : (g : Grammar) (p n : ℕ) (b : List Symbol) → IsRule (rules_of g) p n b → p < length g.productions.now
rule-number g p n b r =
    let x = map-get (rule_of g.symbols.now) g.productions.now p _ r in
    get-length g.productions.now p x.0 x.1
