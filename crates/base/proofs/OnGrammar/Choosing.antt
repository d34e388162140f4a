-- The search for a nonterminal's rule among its alternatives.
use Rattle.std.proofs.Common.{◌≡◌, ℕ, zero, suc, ◌+◌, ◌<◌, ◌≤◌, ltb, leb, inl, inr, List, [], ◌∷◌, length, Option, Some, None, slice_index_or, sym, ap, ◌∙◌, subst, refl, arith}
use Rattle.std.specs.Prelude.{slice_get}
use Rattle.std.proofs.lemmas.Bool.{and_parts, cases_eq, ltb-true, leb-true}
use Rattle.base.specs.declared.grammar.table.Symbol.{Symbol}
use Rattle.base.specs.declared.grammar.table.Production.{Production}
use Rattle.base.specs.declared.grammar.table.Span.{Span}
use Rattle.base.specs.declared.grammar.table.Grammar.{Grammar}
use Rattle.base.specs.Grammar.Syntax.{Rule, rule_of, rules_of}
use Rattle.base.specs.Grammar.Derivation.{IsRule}
use Rattle.base.specs.Grammar.Ll1.{IsLl1}
use Rattle.base.specs.Grammar.Inner.Choosing.{IsTakenBefore, IsChoice, IsNoChoice}
use Rattle.base.proofs.OnGrammar.Sets.{Has}
use Rattle.base.proofs.OnGrammar.Tested.{tables, map-get, rule-at, chosen-at, get-within}

-- No rule of the nonterminal with a number below this one is taken before the kind.
abbrev pub NoneBelow : Grammar → ℕ → ℕ → ℕ → Type 0
NoneBelow g n kind number = (p : ℕ) (b : List Symbol) → p < number → IsRule (rules_of g) p n b → IsTakenBefore g kind p → ⊥

-- where each rule of the nonterminal stands
abbrev within : Grammar → ℕ → ℕ → Span → Type 0
within g n p s = (s.first ≤ p) × (p < s.end)

at_default : (spans : List Span) (n : ℕ) (s d : Span) → slice_get spans n ≡ Some s → slice_index_or spans n d ≡ s
at_default [] n s d e = cc
at_default (x ∷ spans) zero s d e = cc
at_default (x ∷ spans) (suc n) s d e = at_default spans n s d e

at_none : (spans : List Span) (n : ℕ) (d : Span) → slice_get spans n ≡ None → slice_index_or spans n d ≡ d
at_none [] n d e = refl
at_none (x ∷ spans) zero d e = cc
at_none (x ∷ spans) (suc n) d e = at_none spans n d e

rule-within : (g : Grammar) → IsLl1 g → (n p : ℕ) (b : List Symbol) (s : Span) → slice_index_or g.spans.now n (record { first = 0; end = 0 }) ≡ s → IsRule (rules_of g) p n b → (s.first ≤ p) × (p < s.end)
rule-within g valid n p b s e r =
    let q = and_parts (leb (slice_index_or g.spans.now n (record { first = 0; end = 0 })).first p) (ltb p (slice_index_or g.spans.now n (record { first = 0; end = 0 })).end) ((tables g valid).covered p _ r) in
    (subst (λ (x : Span). x.first ≤ p) e (leb-true _ _ q.0), subst (λ (x : Span). p < x.end) e (ltb-true _ _ q.1))

pub none-below-start : (g : Grammar) → IsLl1 g → (n kind : ℕ) (s : Span) → slice_get g.spans.now n ≡ Some s → NoneBelow g n kind s.first
none-below-start g valid n kind s e p b lt r t =
    let w = rule-within g valid n p b s (at_default g.spans.now n s _ e) r in
    omega (arith, w.0, w.1)

pub none-below-more : (g : Grammar) (n kind number : ℕ) (d : Production) → slice_get g.productions.now number ≡ Some d → NoneBelow g n kind number → (d.head ≡ n → Has d.chosen kind → ⊥) → NoneBelow g n kind (number + 1)
none-below-more g n kind number d e below never p b lt r t =
    elim (cases_eq p number) [
      | inl same ↦
          let x = map-get (rule_of g.symbols.now) g.productions.now p _ r in
          let e' : slice_get g.productions.now p ≡ Some d = subst (λ i. slice_get g.productions.now i ≡ Some d) (sym same) e in
          let here : x.0 ≡ d = same_some (x.1) e' in
          let head : d.head ≡ n = ap (λ (q : Production). q.head) (sym here) ∙ ap (λ (q : Rule). q.head) x.2 in
          never head (subst (λ c. Has c kind) (chosen-at g p d e') t)
      | inr other ↦ below p b (omega arith) r t
    ]
  where
    same_some : {x y : Production} {o : Option Production} → o ≡ Some x → o ≡ Some y → x ≡ y
    same_some h k = cc

pub none-below-end : (g : Grammar) → IsLl1 g → (n kind i : ℕ) (s : Span) → slice_get g.spans.now n ≡ Some s → s.end ≤ i → NoneBelow g n kind i → IsNoChoice g n kind
none-below-end g valid n kind i s e le below p b r t =
    let w = rule-within g valid n p b s (at_default g.spans.now n s _ e) r in
    below p b (omega (arith, w.1)) r t

pub no-span : (g : Grammar) → IsLl1 g → (n kind : ℕ) → slice_get g.spans.now n ≡ None → IsNoChoice g n kind
no-span g valid n kind e p b r t =
    let w = rule-within g valid n p b _ (at_none g.spans.now n _ e) r in
    omega (arith, w.1)

pub choice-at : (g : Grammar) (n kind number : ℕ) (d : Production) → slice_get g.productions.now number ≡ Some d → d.head ≡ n → Has d.chosen kind → IsChoice g n kind number
choice-at g n kind number d e head has = record {
  body = (rule_of g.symbols.now d).body;
  rule = subst (λ h. IsRule (rules_of g) number h (rule_of g.symbols.now d).body) head (rule-at g number d e);
  taken = subst (λ c. Has c kind) (sym (chosen-at g number d e)) has;
}

-- ---- in the names of the code

pub span-at : (g : Grammar) (n i : ℕ) (s : Span) → i ≡ n → i < length g.spans.now → s ≡ slice_index_or g.spans.now i s → slice_get g.spans.now n ≡ Some s
span-at g n i s same lt e = subst (λ j. slice_get g.spans.now j ≡ Some s) same (get-within g.spans.now i s lt ∙ ap (λ (x : Span). Some x) (sym e))

pub number-within : (g : Grammar) → IsLl1 g → (n number : ℕ) (s : Span) → slice_get g.spans.now n ≡ Some s → number < s.end → number < length g.productions.now
number-within g valid n number s e lt = let h = (tables g valid).spans n s e in omega (arith, h)

pub production-at : (g : Grammar) (number i : ℕ) (d : Production) → i ≡ number → number < length g.productions.now → slice_get g.productions.now number ≡ Some (slice_index_or g.productions.now i d)
production-at g number i d same lt = get-within g.productions.now number d lt ∙ ap (λ j. Some (slice_index_or g.productions.now j d)) (sym same)

none-at : (spans : List Span) (i : ℕ) → length spans ≤ i → slice_get spans i ≡ None
none-at [] i le = refl
none-at (x ∷ spans) zero le = absurd (omega arith)
none-at (x ∷ spans) (suc i) le = none-at spans i (omega arith)

pub absent : (g : Grammar) (n i : ℕ) → i ≡ n → length g.spans.now ≤ i → slice_get g.spans.now n ≡ None
absent g n i same le = subst (λ j. slice_get g.spans.now j ≡ None) same (none-at g.spans.now i le)
