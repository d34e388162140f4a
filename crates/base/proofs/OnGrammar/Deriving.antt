-- Derivations of any grammar.
use Rattle.std.proofs.Common.{◌≡◌, ℕ, List, [], ◌∷◌, ◌++◌, ap, subst, refl, append_assoc}
use Rattle.base.specs.declared.grammar.table.Symbol.{Symbol}
use Rattle.base.specs.declared.grammar.table.Symbol.TheVariants.{Terminal, Nonterminal}
use Rattle.base.specs.Grammar.Syntax.{Rule}
use Rattle.base.specs.Grammar.Derivation.{IsRule, Derives, ReadsTo}
use Rattle.base.specs.Grammar.Derivation.Derives.{done, shift, expand}
use Rattle.base.specs.Grammar.Derivation.ReadsTo.{stop, read, rewrite}

-- what a derivation begins with, by its first symbol
pub Derives-nothing : {rules : List Rule} {ps ts : List ℕ} → Derives rules [] ps ts → (ps ≡ []) × (ts ≡ [])
Derives-nothing done = (refl, refl)

pub Derives-terminal : {rules : List Rule} {t : ℕ} {s : List Symbol} {ps ts : List ℕ} → Derives rules (Terminal t ∷ s) ps ts → (us : List ℕ) × (ts ≡ t ∷ us) × Derives rules s ps us
Derives-terminal (shift {ts = us} d) = (us, refl, d)

pub Derives-rest : {rules : List Rule} {t u : ℕ} {s : List Symbol} {ps us : List ℕ} → Derives rules (Terminal t ∷ s) ps (u ∷ us) → (t ≡ u) × Derives rules s ps us
Derives-rest (shift d) = (refl, d)

-- a number's rule has one body
pub IsRule-body : (rules : List Rule) (p n m : ℕ) (b c : List Symbol) → IsRule rules p n b → IsRule rules p m c → b ≡ c
IsRule-body rules p n m b c r q =
    let same : ◌≡◌ {A = Rule} (record { head = n; body = b }) (record { head = m; body = c }) = cc in
    ap (λ (x : Rule). x.body) same

-- Nothing was read.
pub ReadsTo-none : {rules : List Rule} {s left : List Symbol} {ps : List ℕ} → ReadsTo rules s ps [] left → left ≡ s
ReadsTo-none stop = refl

-- Nothing can be read of no symbols.
pub ReadsTo-nothing : {rules : List Rule} {left : List Symbol} {ps ts : List ℕ} {t : ℕ} → ReadsTo rules [] ps (t ∷ ts) left → ⊥
ReadsTo-nothing r = elim r [ ]

pub record Expansion (rules : List Rule) (n : ℕ) (s : List Symbol) (ps ts : List ℕ) : Type 0 where
  pub number : ℕ
  pub body : List Symbol
  pub others : List ℕ
  pub is : ps ≡ number ∷ others
  pub rule : IsRule rules number n body
  pub derives : Derives rules (body ++ s) others ts

pub Derives-nonterminal : {rules : List Rule} {n : ℕ} {s : List Symbol} {ps ts : List ℕ} → Derives rules (Nonterminal n ∷ s) ps ts → Expansion rules n s ps ts
Derives-nonterminal (expand {p = p} b {ps = qs} r d) = record { number = p; body = b; others = qs; is = refl; rule = r; derives = d }

pub Derives-append : {rules : List Rule} {a : List Symbol} {ps ts : List ℕ} → Derives rules a ps ts → {s : List Symbol} {qs us : List ℕ} → Derives rules s qs us → Derives rules (a ++ s) (ps ++ qs) (ts ++ us)
Derives-append done e = e
Derives-append (shift d) e = shift (Derives-append d e)
Derives-append {rules} (expand b {s = a} {ps = ps} {ts = ts} r d) {s = s} {qs = qs} {us = us} e =
    expand b r (subst (λ x. Derives rules x (ps ++ qs) (ts ++ us)) (append_assoc b a s) (Derives-append d e))

-- what was read, and then the rest
pub ReadsTo-derives : {rules : List Rule} {s left : List Symbol} {ps ts : List ℕ} → ReadsTo rules s ps ts left → {qs us : List ℕ} → Derives rules left qs us → Derives rules s (ps ++ qs) (ts ++ us)
ReadsTo-derives stop d = d
ReadsTo-derives (read r) d = shift (ReadsTo-derives r d)
ReadsTo-derives (rewrite b e r) d = expand b e (ReadsTo-derives r d)

pub ReadsTo-append : {rules : List Rule} {s mid : List Symbol} {ps ts : List ℕ} → ReadsTo rules s ps ts mid → {left : List Symbol} {qs us : List ℕ} → ReadsTo rules mid qs us left → ReadsTo rules s (ps ++ qs) (ts ++ us) left
ReadsTo-append stop d = d
ReadsTo-append (read r) d = read (ReadsTo-append r d)
ReadsTo-append (rewrite b e r) d = rewrite b e (ReadsTo-append r d)
