-- Which rule takes each token, step by step.
use Rattle.std.proofs.Common.{leb, arith, ◌⊎◌, inl, inr, ◌≡◌, ◌<◌, ◌≤◌, ◌+◌, ℕ, suc, List, [], ◌∷◌, ◌++◌, drop, get_or, length, reverse, refl, ap, sym, ◌∙◌, subst, add-one}
use Rattle.std.specs.Prelude.{min}
use Rattle.std.proofs.lemmas.Bool.{cases_Bool, leb-true, leb-false}
use Rattle.std.proofs.Math.Seq.{drop-cons}
use Rattle.std.proofs.Math.ListN.{drop_of_length-le}
use Rattle.std.proofs.lemmas.List.{append_assoc, append-nil, reverse-append}
use Rattle.base.specs.declared.grammar.table.Symbol.{Symbol}
use Rattle.base.specs.declared.grammar.table.Symbol.TheVariants.{Terminal, Nonterminal}
use Rattle.base.specs.Grammar.Syntax.{Rule}
use Rattle.dslx_token.specs.declared.bracket_classes.owners.Owned.{Owned}
use Rattle.xb_span.specs.declared.nesting.bracket_class.BracketClass.{BracketClass}
use Rattle.dslx_token.specs.BracketClasses.BracketClasses.{bracket_class_of, bracket_classes_by}
use Rattle.dslx_token.specs.BracketClasses.Takers.{behind_nonterminal, behind_symbol, body_of, prefix_takers, owned_by, taker_first, takers_from}

-- symbols that are opened from the last one on
owned_append : (p : ℕ) (a b : List Symbol) → owned_by p (a ++ b) ≡ owned_by p a ++ owned_by p b
owned_append p [] b = refl
owned_append p (s ∷ a) b = ap (λ (os : List Owned). record { rule = p; symbol = s } ∷ os) (owned_append p a b)

owned_reversed : (p : ℕ) (body : List Symbol) → reverse (owned_by p (reverse body)) ≡ owned_by p body
owned_reversed p [] = refl
owned_reversed p (s ∷ body) =
    ap (λ (ss : List Symbol). reverse (owned_by p ss)) (reverse-append (s ∷ []) body)
    ∙ ap reverse (owned_append p (reverse body) (s ∷ []))
    ∙ reverse-append (owned_by p (reverse body)) (owned_by p (s ∷ []))
    ∙ ap (λ (os : List Owned). record { rule = p; symbol = s } ∷ os) (owned_reversed p body)

pub opened : (p : ℕ) (body : List Symbol) (old new : List Owned) → new ≡ old ++ owned_by p (reverse body) → reverse new ≡ owned_by p body ++ reverse old
opened p body old new is =
    ap reverse is ∙ reverse-append old (owned_by p (reverse body)) ∙ ap (λ (os : List Owned). os ++ reverse old) (owned_reversed p body)

-- the last one is on top
pub on_top : (all left : List Owned) (o : Owned) → all ≡ left ++ o ∷ [] → reverse all ≡ o ∷ reverse left
on_top all left o is = ap reverse is ∙ reverse-append left (o ∷ [])

prefix_of : (o : Owned) (kind : ℕ) (os : List Owned) → o.symbol ≡ Terminal kind → prefix_takers (o ∷ os) ≡ o.rule ∷ prefix_takers os
prefix_of o kind os symbol = subst (λ s. taker_first o.rule s (prefix_takers os) ≡ o.rule ∷ prefix_takers os) (sym symbol) refl

-- a token is taken
pub token_taken : (all left : List Owned) (o : Owned) (kind : ℕ) (takers more whole : List ℕ) → all ≡ left ++ o ∷ [] → o.symbol ≡ Terminal kind → more ≡ takers ++ o.rule ∷ [] → takers ++ prefix_takers (reverse all) ≡ whole → more ++ prefix_takers (reverse left) ≡ whole
token_taken all left o kind takers more whole is symbol one so_far =
    ap (λ (ts : List ℕ). ts ++ prefix_takers (reverse left)) one
    ∙ append_assoc takers (o.rule ∷ []) (prefix_takers (reverse left))
    ∙ ap (λ (ts : List ℕ). takers ++ ts) (sym (prefix_of o kind (reverse left) symbol))
    ∙ ap (λ (os : List Owned). takers ++ prefix_takers os) (sym (on_top all left o is)) ∙ so_far

pub token_behind : (all left : List Owned) (o : Owned) (kind : ℕ) (whole : List Owned) → all ≡ left ++ o ∷ [] → o.symbol ≡ Terminal kind → behind_nonterminal (reverse all) ≡ whole → behind_nonterminal (reverse left) ≡ whole
token_behind all left o kind whole is symbol so_far =
    subst (λ s. behind_nonterminal (reverse left) ≡ behind_symbol s (reverse left) (behind_nonterminal (reverse left))) (sym symbol) refl
    ∙ ap behind_nonterminal (sym (on_top all left o is)) ∙ so_far

-- a nonterminal is taken
pub prefix_done : (all left : List Owned) (o : Owned) (n : ℕ) (takers whole : List ℕ) → all ≡ left ++ o ∷ [] → o.symbol ≡ Nonterminal n → takers ++ prefix_takers (reverse all) ≡ whole → takers ≡ whole
prefix_done all left o n takers whole is symbol so_far =
    sym (append-nil takers)
    ∙ ap (λ (ts : List ℕ). takers ++ ts) (subst (λ s. [] ≡ taker_first o.rule s (prefix_takers (reverse left))) (sym symbol) refl)
    ∙ ap (λ (os : List Owned). takers ++ prefix_takers os) (sym (on_top all left o is)) ∙ so_far

pub behind_done : (all left : List Owned) (o : Owned) (n : ℕ) (whole : List Owned) → all ≡ left ++ o ∷ [] → o.symbol ≡ Nonterminal n → behind_nonterminal (reverse all) ≡ whole → reverse left ≡ whole
behind_done all left o n whole is symbol so_far =
    subst (λ s. reverse left ≡ behind_symbol s (reverse left) (behind_nonterminal (reverse left))) (sym symbol) refl
    ∙ ap behind_nonterminal (sym (on_top all left o is)) ∙ so_far

-- a rule is gone through
pub rule_step : (rules : List Rule) (ps : List ℕ) (i p : ℕ) (ahead left new : List Owned) (takers more whole : List ℕ) (body : List Symbol) → i < length ps → p ≡ get_or ps i 0 → more ≡ takers ++ prefix_takers (reverse ahead) → reverse left ≡ behind_nonterminal (reverse ahead) → body ≡ body_of rules p → new ≡ left ++ owned_by p (reverse body) → takers ++ takers_from rules (drop i ps) (reverse ahead) ≡ whole → more ++ takers_from rules (drop (i + 1) ps) (reverse new) ≡ whole
rule_step rules ps i p ahead left new takers more whole body within item front behind is pushed so_far =
    let split : drop i ps ≡ p ∷ drop (suc i) ps = drop-cons ps i 0 within ∙ ap (λ x. x ∷ drop (suc i) ps) (sym item) in
    let next : reverse new ≡ owned_by p (body_of rules p) ++ behind_nonterminal (reverse ahead) =
    opened p body left new pushed ∙ ap (λ (b : List Symbol). owned_by p b ++ reverse left) is ∙ ap (λ (os : List Owned). owned_by p (body_of rules p) ++ os) behind in
    ap (λ j. more ++ takers_from rules (drop j ps) (reverse new)) (add-one i)
    ∙ ap (λ (os : List Owned). more ++ takers_from rules (drop (suc i) ps) os) next
    ∙ ap (λ (ts : List ℕ). ts ++ takers_from rules (drop (suc i) ps) (owned_by p (body_of rules p) ++ behind_nonterminal (reverse ahead))) front
    ∙ append_assoc takers (prefix_takers (reverse ahead)) (takers_from rules (drop (suc i) ps) (owned_by p (body_of rules p) ++ behind_nonterminal (reverse ahead)))
    ∙ ap (λ (qs : List ℕ). takers ++ takers_from rules qs (reverse ahead)) (sym split) ∙ so_far

-- no rule is left
pub rules_done : (rules : List Rule) (ps : List ℕ) (i : ℕ) (ahead : List Owned) (takers more whole : List ℕ) → length ps ≤ i → more ≡ takers ++ prefix_takers (reverse ahead) → takers ++ takers_from rules (drop i ps) (reverse ahead) ≡ whole → more ≡ whole
rules_done rules ps i ahead takers more whole past front so_far =
    front ∙ ap (λ (qs : List ℕ). takers ++ takers_from rules qs (reverse ahead)) (sym (drop_of_length-le ps past)) ∙ so_far

-- ---- roles

bracket_classes_none : (rules : List ℕ) → bracket_classes_by rules [] ≡ []
bracket_classes_none [] = refl
bracket_classes_none (rule ∷ rules) = refl

pub bracket_class_step : (rules kinds : List ℕ) (i rule kind : ℕ) (bracket_classes more whole : List BracketClass) → i < length rules → i < length kinds → rule ≡ get_or rules i rule → kind ≡ get_or kinds i kind → more ≡ bracket_classes ++ bracket_class_of rule kind ∷ [] → bracket_classes ++ bracket_classes_by (drop i rules) (drop i kinds) ≡ whole → more ++ bracket_classes_by (drop (i + 1) rules) (drop (i + 1) kinds) ≡ whole
bracket_class_step rules kinds i rule kind bracket_classes more whole within inside first second one so_far =
    let left : drop i rules ≡ rule ∷ drop (suc i) rules = drop-cons rules i rule within ∙ ap (λ x. x ∷ drop (suc i) rules) (sym first) in
    let right : drop i kinds ≡ kind ∷ drop (suc i) kinds = drop-cons kinds i kind inside ∙ ap (λ x. x ∷ drop (suc i) kinds) (sym second) in
    ap (λ (rs : List BracketClass). rs ++ bracket_classes_by (drop (i + 1) rules) (drop (i + 1) kinds)) one
    ∙ append_assoc bracket_classes (bracket_class_of rule kind ∷ []) (bracket_classes_by (drop (i + 1) rules) (drop (i + 1) kinds))
    ∙ ap (λ j. bracket_classes ++ bracket_class_of rule kind ∷ bracket_classes_by (drop j rules) (drop j kinds)) (add-one i)
    ∙ ap (λ (rs : List ℕ). bracket_classes ++ bracket_classes_by rs (kind ∷ drop (suc i) kinds)) (sym left)
    ∙ ap (λ (ks : List ℕ). bracket_classes ++ bracket_classes_by (drop i rules) ks) (sym right) ∙ so_far

pub bracket_classes_done : (rules kinds : List ℕ) (i : ℕ) (bracket_classes whole : List BracketClass) → (length rules ≤ i) ⊎ (length kinds ≤ i) → bracket_classes ++ bracket_classes_by (drop i rules) (drop i kinds) ≡ whole → bracket_classes ≡ whole
bracket_classes_done rules kinds i bracket_classes whole (inl past) so_far =
    sym (append-nil bracket_classes) ∙ ap (λ (rs : List ℕ). bracket_classes ++ bracket_classes_by rs (drop i kinds)) (sym (drop_of_length-le rules past)) ∙ so_far
bracket_classes_done rules kinds i bracket_classes whole (inr past) so_far =
    sym (append-nil bracket_classes) ∙ ap (λ (rs : List BracketClass). bracket_classes ++ rs) (sym (bracket_classes_none (drop i rules)))
    ∙ ap (λ (ks : List ℕ). bracket_classes ++ bracket_classes_by (drop i rules) ks) (sym (drop_of_length-le kinds past)) ∙ so_far

min_other : (a b i : ℕ) → i < a → min a b ≤ i → b ≤ i
min_other a b i more past = omega arith

pub min_past : (a b i : ℕ) → min a b ≤ i → (a ≤ i) ⊎ (b ≤ i)
min_past a b i past = elim (cases_Bool (leb a i)) [
  | inl here ↦ inl (leb-true a i here)
  | inr past_it ↦ inr (min_other a b i (leb-false a i past_it) past)
]
