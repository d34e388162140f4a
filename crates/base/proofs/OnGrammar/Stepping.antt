-- The steps of the loop that reads one token, and of the one over the tokens.
use Rattle.std.proofs.Common.{◌≡◌, ℕ, suc, ◌+◌, ◌-◌, ◌<◌, ◌≤◌, eqb, inl, List, [], ◌∷◌, ◌++◌, length, take, drop, reverse, Some, sym, ap, ◌∙◌, subst, refl, append_assoc, arith}
use Rattle.std.specs.Prelude.{slice_get}
use Rattle.std.specs.Bool.{OnTrue, OnFalse}
use Rattle.std.proofs.lemmas.Bool.{eqb-true, eqb-false, OnTrue_from, OnFalse_from}
use Rattle.std.proofs.lemmas.List.{append-nil, reverse-append, take_at, take_all, take-append-drop}
use Rattle.base.specs.declared.grammar.table.Symbol.{Symbol}
use Rattle.base.specs.declared.grammar.table.Symbol.TheVariants.{Terminal, Nonterminal}
use Rattle.base.specs.declared.grammar.table.Grammar.{Grammar}
use Rattle.base.specs.Grammar.Syntax.{rules_of, syntax_of}
use Rattle.base.specs.Grammar.Derivation.{IsRule, Derives, ReadsTo, start_of, IsDerivation, IsSentence, StartsWith}
use Rattle.base.specs.Lists.Fault.{IsViablePrefix, IsFirstFault}
use Rattle.base.specs.Grammar.Inner.Reading.{IsLeft, ReadsOne, ReadsNone}
use Rattle.base.specs.Grammar.Derivation.Derives.{done}
use Rattle.base.specs.Grammar.Derivation.ReadsTo.{stop, read}
use Rattle.base.specs.Grammar.Ll1.{IsLl1, chosen_of, prefix_cost}
use Rattle.base.specs.Grammar.Inner.Choosing.{IsChoice, IsNoChoice}
use Rattle.base.proofs.OnGrammar.Sets.{within-has}
use Rattle.base.proofs.OnGrammar.Valid.{Valid}
use Rattle.base.proofs.OnGrammar.Deriving.{IsRule-body, ReadsTo-derives, ReadsTo-append}
use Rattle.base.proofs.OnGrammar.Reading.{Good, AllIn, Pending, LastIs, Good-left, AllIn-left, Leads, Leads-start, Leads-rewrite, Leads-none, none-empty, none-other, none-chosen, prefix_cost-rewrite, completes, splits, ends, only_one}
use Rattle.base.proofs.OnGrammar.Tested.{facts, tables}

-- the loop's invariant
abbrev pub LeadsIn : Grammar → ℕ → List Symbol → List Symbol → List ℕ → List ℕ → Type 0
LeadsIn g kind old s before after = Leads (rules_of g) (facts g) (length g.spans.now) kind old s before after

pub valid-of : (g : Grammar) → IsLl1 g → Valid (rules_of g) (chosen_of g) (facts g) g.end (length g.spans.now)
valid-of g h = (tables g h).valid

pub good-whole : (g : Grammar) → IsLl1 g → Good (facts g) (start_of (syntax_of g))
good-whole g h = (λ k has. within-has _ _ k (valid-of g h).start_follow has, tt)

pub all_in-whole : (g : Grammar) → IsLl1 g → AllIn (length g.spans.now) (start_of (syntax_of g))
all_in-whole g h = ((valid-of g h).some, tt)

pub pending-whole : (g : Grammar) → Pending g.end (start_of (syntax_of g))
pending-whole g = inl (refl, refl)

pub leads-start : (g : Grammar) → IsLl1 g → (kind : ℕ) (old : List Symbol) (before : List ℕ) → IsLeft (syntax_of g) old → LeadsIn g kind old old before before
leads-start g h kind old before l =
    Leads-start (rules_of g) (facts g) (length g.spans.now) kind old before
    (Good-left (rules_of g) (chosen_of g) (facts g) g.end (length g.spans.now) (valid-of g h) l.2 (good-whole g h))
    (AllIn-left (rules_of g) (chosen_of g) (facts g) g.end (length g.spans.now) (valid-of g h) l.2 (all_in-whole g h))

pub popped : (items rest : List Symbol) (x : Symbol) → items ≡ rest ++ x ∷ [] → reverse items ≡ x ∷ reverse rest
popped items rest x e = ap reverse e ∙ reverse-append rest (x ∷ [])

kept : (before after numbers : List ℕ) → after ≡ before ++ numbers → take (length before) after ≡ before
kept before after numbers e = ap (take (length before)) e ∙ take_at before numbers (length before) refl

pub reads-here : (g : Grammar) (kind wanted : ℕ) (old s left : List Symbol) (before after : List ℕ) → LeadsIn g kind old s before after → s ≡ Terminal wanted ∷ left → wanted ≡ kind → ReadsOne (rules_of g) kind old left before after
reads-here g kind wanted old s left before after l e same =
    let e' : s ≡ Terminal kind ∷ left = e ∙ ap (λ t. Terminal t ∷ left) same in
    record {
      numbers = l.numbers;
      grown = l.grown;
      reads = subst (λ x. ReadsTo (rules_of g) old x (kind ∷ []) left) (append-nil l.numbers) (l.reads [] left (subst (λ x. ReadsTo (rules_of g) x [] (kind ∷ []) left) (sym e') (read stop)));
    }

pub none-here : (g : Grammar) (kind : ℕ) (old s : List Symbol) (before after : List ℕ) → LeadsIn g kind old s before after → ((ps ts : List ℕ) → Derives (rules_of g) s ps (kind ∷ ts) → ⊥) → IsLl1 g → ReadsNone (rules_of g) kind old before after
none-here g kind old s before after l never h = record {
  kept = kept before after l.numbers l.grown;
  none = Leads-none (rules_of g) (chosen_of g) (facts g) g.end (length g.spans.now) (valid-of g h) kind old s before after l never;
}

pub terminal-yes : (g : Grammar) (kind wanted : ℕ) (old s left : List Symbol) (before after : List ℕ) → LeadsIn g kind old s before after → s ≡ Terminal wanted ∷ left → OnTrue (eqb wanted kind) (ReadsOne (rules_of g) kind old left before after)
terminal-yes g kind wanted old s left before after l e =
    OnTrue_from _ _ (λ t. reads-here g kind wanted old s left before after l e (eqb-true wanted kind t))

pub terminal-no : (g : Grammar) → IsLl1 g → (kind wanted : ℕ) (old s left : List Symbol) (before after : List ℕ) → LeadsIn g kind old s before after → s ≡ Terminal wanted ∷ left → OnFalse (eqb wanted kind) (ReadsNone (rules_of g) kind old before after)
terminal-no g h kind wanted old s left before after l e =
    OnFalse_from _ _
    (λ t. none-here g kind old s before after l (λ ps ts d. none-other (rules_of g) (chosen_of g) (facts g) g.end (length g.spans.now) (valid-of g h) kind wanted left (eqb-false wanted kind t) ps ts (subst (λ x. Derives (rules_of g) x ps (kind ∷ ts)) e d)) h)

pub choice-none : (g : Grammar) → IsLl1 g → (kind n : ℕ) (old s left : List Symbol) (before after : List ℕ) → LeadsIn g kind old s before after → s ≡ Nonterminal n ∷ left → IsNoChoice g n kind → ReadsNone (rules_of g) kind old before after
choice-none g h kind n old s left before after l e never =
    none-here g kind old s before after l (λ ps ts d. none-chosen (rules_of g) (chosen_of g) (facts g) g.end (length g.spans.now) (valid-of g h) kind n left (subst (Good (facts g)) e l.good) never ps ts (subst (λ x. Derives (rules_of g) x ps (kind ∷ ts)) e d)) h

pub nothing-left : (g : Grammar) → IsLl1 g → (kind : ℕ) (old s : List Symbol) (before after : List ℕ) → LeadsIn g kind old s before after → s ≡ [] → ReadsNone (rules_of g) kind old before after
nothing-left g h kind old s before after l e =
    none-here g kind old s before after l (λ ps ts d. none-empty (rules_of g) (chosen_of g) (facts g) g.end (length g.spans.now) (valid-of g h) kind ps ts (subst (λ x. Derives (rules_of g) x ps (kind ∷ ts)) e d)) h

pub leads-more : (g : Grammar) → IsLl1 g → (kind n p head : ℕ) (old s left b next : List Symbol) (before after grown : List ℕ) → LeadsIn g kind old s before after → s ≡ Nonterminal n ∷ left → IsChoice g n kind p → IsRule (rules_of g) p head b → next ≡ b ++ left → grown ≡ after ++ p ∷ [] → LeadsIn g kind old next before grown
leads-more g h kind n p head old s left b next before after grown l e choice r e' more =
    let same : choice.body ≡ b = IsRule-body (rules_of g) p n head choice.body b choice.rule r in
    let next' : choice.body ++ left ≡ next = ap (λ x. x ++ left) same ∙ sym e' in
    subst (λ x. LeadsIn g kind old next before x) (sym more)
    (subst (λ x. LeadsIn g kind old x before (after ++ p ∷ [])) next'
    (Leads-rewrite (rules_of g) (chosen_of g) (facts g) g.end (length g.spans.now) (valid-of g h) kind old left n p choice.body before after (subst (λ x. LeadsIn g kind old x before after) e l) choice.rule choice.taken))

pub cost-less : (g : Grammar) → IsLl1 g → (kind n p head : ℕ) (s left b next : List Symbol) → s ≡ Nonterminal n ∷ left → IsChoice g n kind p → IsRule (rules_of g) p head b → next ≡ b ++ left → prefix_cost (facts g).nullable (facts g).cost next < prefix_cost (facts g).nullable (facts g).cost s
cost-less g h kind n p head s left b next e choice r e' =
    let same : choice.body ≡ b = IsRule-body (rules_of g) p n head choice.body b choice.rule r in
    let next' : choice.body ++ left ≡ next = ap (λ x. x ++ left) same ∙ sym e' in
    let less : prefix_cost (facts g).nullable (facts g).cost (choice.body ++ left) < prefix_cost (facts g).nullable (facts g).cost (Nonterminal n ∷ left) = prefix_cost-rewrite (rules_of g) (chosen_of g) (facts g) g.end (length g.spans.now) (valid-of g h) p n choice.body left choice.rule in
    subst (λ x. prefix_cost (facts g).nullable (facts g).cost next < prefix_cost (facts g).nullable (facts g).cost x) (sym e)
    (subst (λ x. prefix_cost (facts g).nullable (facts g).cost x < prefix_cost (facts g).nullable (facts g).cost (Nonterminal n ∷ left)) next' less)

-- ---- the loop over the tokens

pub read-more : (g : Grammar) (kinds : List ℕ) (place kind : ℕ) (old new : List Symbol) (before after : List ℕ) → ReadsTo (rules_of g) (start_of (syntax_of g)) before (take place kinds) old → ReadsOne (rules_of g) kind old new before after → take (place + 1) kinds ≡ take place kinds ++ kind ∷ [] → ReadsTo (rules_of g) (start_of (syntax_of g)) after (take (place + 1) kinds) new
read-more g kinds place kind old new before after r one e =
    subst (λ x. ReadsTo (rules_of g) (start_of (syntax_of g)) x (take (place + 1) kinds) new) (sym one.grown)
    (subst (λ x. ReadsTo (rules_of g) (start_of (syntax_of g)) (before ++ one.numbers) x new) (sym e) (ReadsTo-append r one.reads))

-- what is read begins some sentence
pub is-front : (g : Grammar) → IsLl1 g → (ps ts : List ℕ) (left : List Symbol) → ReadsTo (rules_of g) (start_of (syntax_of g)) ps ts left → IsViablePrefix (IsSentence (syntax_of g)) ts
is-front g h ps ts left r =
    let v = valid-of g h in
    let c = completes (rules_of g) (chosen_of g) (facts g) g.end (length g.spans.now) v left (AllIn-left (rules_of g) (chosen_of g) (facts g) g.end (length g.spans.now) v r (all_in-whole g h)) in
    (c.1, (ps ++ c.0, ReadsTo-derives r c.2))

-- what was read begins each derivation of a sentence with this front
pub forced-by : (g : Grammar) → IsLl1 g → (qs ts : List ℕ) (left : List Symbol) → ReadsTo (rules_of g) (start_of (syntax_of g)) qs ts left → (more ps : List ℕ) → IsDerivation (syntax_of g) ps (ts ++ more) → (rest : List ℕ) × (ps ≡ qs ++ rest) × Derives (rules_of g) left rest more
forced-by g h qs ts left r more ps d =
    splits (rules_of g) (chosen_of g) (facts g) g.end (length g.spans.now) (valid-of g h) r (good-whole g h) (all_in-whole g h) more d

-- no sentence goes on with a kind that can't be read
pub no-front : (g : Grammar) → IsLl1 g → (kinds : List ℕ) (place kind : ℕ) (numbers : List ℕ) (stack : List Symbol) → ReadsTo (rules_of g) (start_of (syntax_of g)) numbers (take place kinds) stack → ((ps ts : List ℕ) → Derives (rules_of g) stack ps (kind ∷ ts) → ⊥) → take (place + 1) kinds ≡ take place kinds ++ kind ∷ [] → IsViablePrefix (IsSentence (syntax_of g)) (take (place + 1) kinds) → ⊥
no-front g h kinds place kind numbers stack r none e front =
    let front' : take (place + 1) kinds ++ front.0 ≡ take place kinds ++ (kind ∷ front.0) = ap (λ x. x ++ front.0) e ∙ append_assoc (take place kinds) (kind ∷ []) front.0 in
    let x = forced-by g h numbers (take place kinds) stack r (kind ∷ front.0) front.1.0 (subst (λ y. IsDerivation (syntax_of g) front.1.0 y) front' front.1.1) in
    none x.0 front.0 x.2

last-is : (xs : List ℕ) (x : ℕ) → slice_get xs (length xs - 1) ≡ Some x → LastIs xs x
last-is [] x e = cc
last-is (y ∷ []) x e = cc
last-is (y ∷ z ∷ ys) x e =
    let here : suc (suc (length ys)) - 1 ≡ suc (length ys) = omega arith in
    let there : suc (length ys) - 1 ≡ length ys = omega arith in
    last-is (z ∷ ys) x (subst (λ i. slice_get (z ∷ ys) i ≡ Some x) (sym there) (subst (λ i. slice_get (y ∷ z ∷ ys) i ≡ Some x) here e))

-- At the end mark nothing is left.
pub read-all : (g : Grammar) → IsLl1 g → (kinds numbers : List ℕ) (stack : List Symbol) → slice_get kinds (length kinds - 1) ≡ Some g.end → ReadsTo (rules_of g) (start_of (syntax_of g)) numbers kinds stack → ReadsTo (rules_of g) (start_of (syntax_of g)) numbers kinds []
read-all g h kinds numbers stack e r =
    subst (λ x. ReadsTo (rules_of g) (start_of (syntax_of g)) numbers kinds x) (ends (rules_of g) (chosen_of g) (facts g) g.end (length g.spans.now) (valid-of g h) r (pending-whole g) (last-is kinds g.end e)) r

-- ---- in the names of the code

pub start-read : (g : Grammar) (kinds numbers : List ℕ) (first second : List Symbol) → numbers ≡ [] → first ≡ [] ++ Terminal g.end ∷ [] → second ≡ first ++ Nonterminal 0 ∷ [] → ReadsTo (rules_of g) (start_of (syntax_of g)) numbers (take 0 kinds) (reverse second)
start-read g kinds numbers first second e f s =
    let both : reverse second ≡ start_of (syntax_of g) = ap reverse (s ∙ ap (λ x. x ++ Nonterminal 0 ∷ []) f) in
    subst (λ x. ReadsTo (rules_of g) (start_of (syntax_of g)) x [] (reverse second)) (sym e) (subst (λ x. ReadsTo (rules_of g) (start_of (syntax_of g)) [] [] x) (sym both) stop)

-- where the token at a place can't be read: what was read before it, and that nothing goes on with it
pub record Stops (g : Grammar) (kinds : List ℕ) (place : ℕ) (numbers : List ℕ) : Type 0 where
  pub stack : List Symbol
  pub reads : ReadsTo (rules_of g) (start_of (syntax_of g)) numbers (take place kinds) stack
  pub none : IsViablePrefix (IsSentence (syntax_of g)) (take (place + 1) kinds) → ⊥

pub stops-at : (g : Grammar) → IsLl1 g → (kinds : List ℕ) (place kind known : ℕ) (stack : List Symbol) (before after cut : List ℕ) → ReadsTo (rules_of g) (start_of (syntax_of g)) before (take place kinds) stack → ReadsNone (rules_of g) kind stack before after → cut ≡ take known after → known ≡ length before → take (place + 1) kinds ≡ take place kinds ++ kind ∷ [] → Stops g kinds place cut
stops-at g h kinds place kind known stack before after cut r stuck e n t =
    let same : cut ≡ before = e ∙ ap (λ i. take i after) n ∙ stuck.kept in
    record {
      stack = stack;
      reads = subst (λ x. ReadsTo (rules_of g) (start_of (syntax_of g)) x (take place kinds) stack) (sym same) r;
      none = no-front g h kinds place kind before stack r stuck.none t;
    }

pub no-sentence : (g : Grammar) (kinds : List ℕ) (place : ℕ) (numbers : List ℕ) → Stops g kinds place numbers → (ps : List ℕ) → IsDerivation (syntax_of g) ps kinds → ⊥
no-sentence g kinds place numbers s ps d =
    s.none (drop (place + 1) kinds, (ps, subst (λ x. IsDerivation (syntax_of g) ps x) (sym (take-append-drop (place + 1) kinds)) d))

pub first-fault : (g : Grammar) → IsLl1 g → (kinds : List ℕ) (place : ℕ) (numbers : List ℕ) → place < length kinds → Stops g kinds place numbers → IsFirstFault (IsSentence (syntax_of g)) kinds place
first-fault g h kinds place numbers lt s = record {
  within = omega (arith, lt);
  before = is-front g h numbers (take place kinds) s.stack s.reads;
  never = λ _. s.none;
  none = λ d. no-sentence g kinds place numbers s d.0 d.1;
}

pub forced-at : (g : Grammar) → IsLl1 g → (kinds : List ℕ) (place : ℕ) (numbers : List ℕ) → Stops g kinds place numbers → (more ps : List ℕ) → IsDerivation (syntax_of g) ps (take place kinds ++ more) → StartsWith ps numbers
forced-at g h kinds place numbers s more ps d = let x = forced-by g h numbers (take place kinds) s.stack s.reads more ps d in (x.0, x.1)

-- where all tokens were read
pub reads-end : (g : Grammar) → IsLl1 g → (kinds numbers : List ℕ) (place : ℕ) (stack : List Symbol) → slice_get kinds (length kinds - 1) ≡ Some g.end → length kinds ≤ place → ReadsTo (rules_of g) (start_of (syntax_of g)) numbers (take place kinds) stack → ReadsTo (rules_of g) (start_of (syntax_of g)) numbers kinds []
reads-end g h kinds numbers place stack e le r =
    read-all g h kinds numbers stack e (subst (λ x. ReadsTo (rules_of g) (start_of (syntax_of g)) numbers x stack) (take_all place kinds le) r)

pub derivation-found : (g : Grammar) (kinds numbers : List ℕ) → ReadsTo (rules_of g) (start_of (syntax_of g)) numbers kinds [] → IsDerivation (syntax_of g) numbers kinds
derivation-found g kinds numbers r =
    subst (λ x. IsDerivation (syntax_of g) x kinds) (append-nil numbers) (subst (λ x. IsDerivation (syntax_of g) (numbers ++ []) x) (append-nil kinds) (ReadsTo-derives r done))

pub derivation-only : (g : Grammar) → IsLl1 g → (kinds numbers : List ℕ) → ReadsTo (rules_of g) (start_of (syntax_of g)) numbers kinds [] → (ps : List ℕ) → IsDerivation (syntax_of g) ps kinds → numbers ≡ ps
derivation-only g h kinds numbers r ps d =
    sym (only_one (rules_of g) (chosen_of g) (facts g) g.end (length g.spans.now) (valid-of g h) r (good-whole g h) (all_in-whole g h) ps d)
