-- The laws of derivations.
use Rattle.std.proofs.Common.{◌≡◌, ℕ, zero, suc, Bool, true, false, eqb, MatchBool, ◌⊎◌, ◌+◌, ◌*◌, ◌≤◌, inl, inr, List, [], ◌∷◌, ◌++◌, length, slice_index, sym, ap, ◌∙◌, subst, refl, arith}
use Rattle.std.proofs.lemmas.Bool.{eq-eqb}
use Rattle.base.specs.declared.grammar.table.Grammar.{Grammar}
use Rattle.base.specs.declared.grammar.table.Symbol.{Symbol}
use Rattle.base.specs.declared.grammar.table.Symbol.TheVariants.{Terminal, Nonterminal}
use Rattle.base.specs.Grammar.Syntax.{Rule, rules_of, syntax_of}
use Rattle.base.specs.Grammar.Derivation.{IsAlternative, IsBeginning, IsDerivation, IsRule, ReadsTo}
use Rattle.base.specs.Grammar.Derivation.ReadsTo.{stop, read, rewrite}
use Rattle.base.specs.Grammar.Ll1.{IsLl1, chosen_of}
use Rattle.base.proofs.OnGrammar.Sets.{Has}
use Rattle.base.proofs.OnGrammar.Deriving.{IsRule-body, ReadsTo-derives}
use Rattle.base.proofs.OnGrammar.Reading.{Good, AllIn, Good-rewrite, AllIn-rewrite, AllIn-left, completes, taken, derives-reads, few}
use Rattle.base.proofs.OnGrammar.Tested.{facts}
use Rattle.base.proofs.OnGrammar.Stepping.{valid-of, pending-whole, good-whole, all_in-whole, derivation-only}

pub derivation-unique : (g : Grammar) → IsLl1 g → (ps qs ts : List ℕ) → IsDerivation (syntax_of g) ps ts → IsDerivation (syntax_of g) qs ts → ps ≡ qs
derivation-unique g h ps qs ts d e =
    derivation-only g h ts ps (derives-reads (rules_of g) (chosen_of g) (facts g) g.end (length g.spans.now) (valid-of g h) d (pending-whole g)) qs e

pub derivation-short : (g : Grammar) → IsLl1 g → (ps ts : List ℕ) → IsDerivation (syntax_of g) ps ts → length ps ≤ 32 * length ts
derivation-short g h ps ts d =
    let most = few (rules_of g) (chosen_of g) (facts g) g.end (length g.spans.now) (valid-of g h) d in
    let start = (valid-of g h).start_cost in
    omega (arith, most, start)

-- a rule is one of its nonterminal's
pub rule-alternative : (rules : List Rule) (from place head : ℕ) (body : List Symbol) → IsRule rules place head body → IsAlternative from rules head (from + place) body
rule-alternative [] from place head body r = cc
rule-alternative (x ∷ rules) from zero head body r =
    let here : x ≡ record { head = head; body = body } = cc in
    let same : x.head ≡ head = ap (λ (y : Rule). y.head) here in
    matched (eqb x.head head) _ _ (eq-eqb x.head head same) (inl (omega arith, sym (ap (λ (y : Rule). y.body) here)))
  where
    matched : (b : Bool) (P Q : Type 0) → b ≡ true → P → MatchBool b P Q
    matched true P Q e h = h
    matched false P Q e h = cc
rule-alternative (x ∷ rules) from (suc place) head body r =
    either (eqb x.head head) _ _ (subst (λ i. IsAlternative (suc from) rules head i body) (omega arith) (rule-alternative rules (suc from) place head body r))
  where
    either : (b : Bool) (P Q : Type 0) → Q → MatchBool b (P ⊎ Q) Q
    either true P Q h = inr h
    either false P Q h = h

-- ---- what leads to a front

-- a rewriting that another reading of the same tokens begins with too
record Rewriting (rules : List Rule) (n : ℕ) (s left : List Symbol) (ps : List ℕ) (ts : List ℕ) : Type 0 where
  pub number : ℕ
  pub body : List Symbol
  pub others : List ℕ
  pub is : ps ≡ number ∷ others
  pub rule : IsRule rules number n body
  pub reads : ReadsTo rules (body ++ s) others ts left

rewriting-of : {rules : List Rule} {n t : ℕ} {s left : List Symbol} {ps ts : List ℕ} → ReadsTo rules (Nonterminal n ∷ s) ps (t ∷ ts) left → Rewriting rules n s left ps (t ∷ ts)
rewriting-of (rewrite {p = p} b {ps = others} e r) = record { number = p; body = b; others = others; is = refl; rule = e; reads = r }

reading-of : {rules : List Rule} {t u : ℕ} {s left : List Symbol} {ps ts : List ℕ} → ReadsTo rules (Terminal t ∷ s) ps (u ∷ ts) left → ReadsTo rules s ps ts left
reading-of (read r) = r

nothing-read : {rules : List Rule} {s left : List Symbol} {ps : List ℕ} → ReadsTo rules s ps [] left → ps ≡ []
nothing-read stop = refl

module _ (g : Grammar) (h : IsLl1 g) where
  taken-by : (n t : ℕ) (s left : List Symbol) (ps ts : List ℕ) → Good (facts g) (Nonterminal n ∷ s) → AllIn (length g.spans.now) s → (x : Rewriting (rules_of g) n s left ps (t ∷ ts)) → Has (slice_index (chosen_of g) x.number) t
  taken-by n t s left ps ts good inside x =
      let v = valid-of g h in
      let within = AllIn-rewrite (rules_of g) (chosen_of g) (facts g) g.end (length g.spans.now) v x.number n x.body s x.rule inside in
      let c = completes (rules_of g) (chosen_of g) (facts g) g.end (length g.spans.now) v left (AllIn-left (rules_of g) (chosen_of g) (facts g) g.end (length g.spans.now) v x.reads within) in
      taken (rules_of g) (chosen_of g) (facts g) g.end (length g.spans.now) v x.number n t x.body s x.rule good (ReadsTo-derives x.reads c.2)

  reads-unique : {s left : List Symbol} {ps ts : List ℕ} → ReadsTo (rules_of g) s ps ts left → Good (facts g) s → AllIn (length g.spans.now) s → {qs : List ℕ} {other : List Symbol} → ReadsTo (rules_of g) s qs ts other → ps ≡ qs
  reads-unique stop good inside r = sym (nothing-read r)
  reads-unique (read a) good inside r = reads-unique a good inside (reading-of r)
  reads-unique (rewrite {p = p} {n = n} {t = t} b {s = s} {left = left} {ps = ps} {ts = ts} e a) good inside {qs = qs} {other = other} r =
      let v = valid-of g h in
      let x = rewriting-of r in
      let own = taken-by n t s left (p ∷ ps) ts good inside.1 (record { number = p; body = b; others = ps; is = refl; rule = e; reads = a }) in
      let same : p ≡ x.number = v.apart p x.number n t b x.body e x.rule own (taken-by n t s other qs ts good inside.1 x) in
      let bodies : x.body ≡ b = IsRule-body (rules_of g) p n n x.body b (subst (λ i. IsRule (rules_of g) i n x.body) (sym same) x.rule) e in
      let rest = reads-unique a (Good-rewrite (rules_of g) (chosen_of g) (facts g) g.end (length g.spans.now) v p n b s e good) (AllIn-rewrite (rules_of g) (chosen_of g) (facts g) g.end (length g.spans.now) v p n b s e inside.1) (subst (λ c. ReadsTo (rules_of g) (c ++ s) x.others (t ∷ ts) other) bodies x.reads) in
      let front : p ∷ ps ≡ x.number ∷ x.others = cc in
      front ∙ sym x.is

  pub beginning-unique : (ps qs ts : List ℕ) → IsBeginning (syntax_of g) ps ts → IsBeginning (syntax_of g) qs ts → ps ≡ qs
  beginning-unique ps qs ts a b = reads-unique a.1 (good-whole g h) (all_in-whole g h) b.1
