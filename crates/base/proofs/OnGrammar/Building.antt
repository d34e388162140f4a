-- The steps in which a tree is built.
use Rattle.std.proofs.Common.{◌≡◌, ℕ, zero, suc, ◌+◌, ◌<◌, List, [], ◌∷◌, ◌++◌, length, reverse, drop, slice_index_or, sym, ap, ◌∙◌, subst, refl, append_assoc, length-append, arith}
use Rattle.std.specs.Prelude.{slice_get}
use Rattle.std.proofs.lemmas.List.{append-nil, drop-drop, length-map, map-append, reverse-append, reverse-reverse}
use Rattle.std.proofs.lemmas.Option.{slice_get_within}
use Rattle.base.specs.declared.grammar.table.Symbol.{Symbol}
use Rattle.base.specs.declared.grammar.table.Symbol.TheVariants.{Terminal, Nonterminal}
use Rattle.base.specs.declared.grammar.bottom_up.Step.{Step}
use Rattle.base.specs.declared.grammar.bottom_up.Step.TheVariants as made
use Rattle.base.specs.declared.grammar.bottom_up.Task.{Task}
use Rattle.base.specs.declared.grammar.bottom_up.Task.TheVariants.{Visit, Reduce}
use Rattle.base.specs.Grammar.Syntax.{Rule, Syntax}
use Rattle.base.specs.Grammar.Derivation.{IsRule, IsDerivation, start_of}
use Rattle.base.specs.Grammar.Tree.{Forest, Grows, IsParseTree, productions_of}
use Rattle.base.specs.Grammar.Tree.Grows.{empty, leaf, branch}
use Rattle.base.specs.Grammar.Steps.{steps_of}
use Rattle.base.specs.Grammar.Inner.Tasks.{TasksGive, body_of, reads, tasks_of}
use Rattle.base.specs.Grammar.Inner.Tasks.TasksGive.{none, shift, expand, reduce}
use Rattle.base.proofs.OnGrammar.Deriving.{IsRule-body}
use Rattle.base.proofs.OnGrammar.Trees.{parse-tree, same-forest, within-drop}

reads-append : (a b : List Symbol) → reads (a ++ b) ≡ reads a ++ reads b
reads-append a b = map-append (λ x. Visit x) a b

-- to visit symbols gives the steps of what they grow to
pub gives-of : {rules : List Rule} {s : List Symbol} {f : Forest} → Grows rules s f → {tasks : List Task} {ps : List ℕ} {steps : List Step} → TasksGive rules tasks ps steps → TasksGive rules (reads s ++ tasks) (productions_of f ++ ps) (steps_of f ++ steps)
gives-of empty k = k
gives-of (leaf g) k = shift (gives-of g k)
gives-of {rules} (branch {p = p} b {s = s} {below = below} {right = right} r g h) {tasks = tasks} {ps = ps} {steps = steps} k =
    let inner = gives-of g (reduce {p = p} (gives-of h k)) in
    let here : productions_of below ++ (productions_of right ++ ps) ≡ (productions_of below ++ productions_of right) ++ ps = sym (append_assoc (productions_of below) (productions_of right) ps) in
    let there : steps_of below ++ (made.Reduce p ∷ (steps_of right ++ steps)) ≡ (steps_of below ++ made.Reduce p ∷ steps_of right) ++ steps = sym (append_assoc (steps_of below) (made.Reduce p ∷ steps_of right) steps) in
    expand b r
    (subst (λ xs. TasksGive rules (reads b ++ Reduce p ∷ (reads s ++ tasks)) xs ((steps_of below ++ made.Reduce p ∷ steps_of right) ++ steps)) here
    (subst (λ ys. TasksGive rules (reads b ++ Reduce p ∷ (reads s ++ tasks)) (productions_of below ++ (productions_of right ++ ps)) ys) there inner))

-- what `steps` keeps: the tasks, from the top of the stack, give the steps that are still wanted
abbrev pub Goes : Syntax → List ℕ → List Task → ℕ → List Step → Type 0
Goes y ps tasks next steps =
    (rest : List Step) × TasksGive y.rules (reverse tasks) (drop next ps) rest × ((ts : List ℕ) (f : Forest) → IsParseTree y ps ts f → steps_of f ≡ steps ++ rest)

popped : (items rest : List Task) (x : Task) → items ≡ rest ++ x ∷ [] → reverse items ≡ x ∷ reverse rest
popped items rest x e = ap reverse e ∙ reverse-append rest (x ∷ [])

one-tree : (y : Syntax) (ps ts us : List ℕ) (f g : Forest) → IsParseTree y ps ts f → IsParseTree y ps us g → f ≡ g
one-tree y ps ts us f g a b =
    let e : productions_of f ++ [] ≡ productions_of g ++ [] = ap (λ x. x ++ []) (a.productions ∙ sym b.productions) in
    (same-forest a.grows b.grows [] [] e).0

pub goes-start : (y : Syntax) (ps : List ℕ) → (ts : List ℕ) × IsDerivation y ps ts → (first second : List Task) (none' : List Step) → first ≡ [] ++ Visit (Terminal y.end) ∷ [] → second ≡ first ++ Visit (Nonterminal 0) ∷ [] → none' ≡ [] → Goes y ps second 0 none'
goes-start y ps d first second none' e f n =
    let t = parse-tree y ps d.0 d.1 in
    let tasks : reverse second ≡ reads (start_of y) ++ [] = ap reverse (f ∙ ap (λ x. x ++ Visit (Nonterminal 0) ∷ []) e) in
    let given = gives-of t.1.grows none in (
      steps_of t.0 ++ [],
      subst (λ x. TasksGive y.rules x ps (steps_of t.0 ++ [])) (sym tasks)
          (subst (λ x. TasksGive y.rules (reads (start_of y) ++ []) x (steps_of t.0 ++ [])) (append-nil (productions_of t.0) ∙ t.1.productions) given),
      λ us g h. ap steps_of (one-tree y ps us d.0 g t.0 h t.1) ∙ sym (append-nil (steps_of t.0)) ∙ ap (λ x. x ++ (steps_of t.0 ++ [])) (sym n),
    )

-- ---- one task at a time

record Shifted (rules : List Rule) (tasks : List Task) (ps : List ℕ) (steps : List Step) (x : Step) : Type 0 where
  pub others : List Step
  pub is : steps ≡ x ∷ others
  pub gives : TasksGive rules tasks ps others

shifted : {rules : List Rule} {t : ℕ} {tasks : List Task} {ps : List ℕ} {steps : List Step} → TasksGive rules (Visit (Terminal t) ∷ tasks) ps steps → Shifted rules tasks ps steps made.Shift
shifted (shift {steps = others} g) = record { others = others; is = refl; gives = g }

reduced : {rules : List Rule} {p : ℕ} {tasks : List Task} {ps : List ℕ} {steps : List Step} → TasksGive rules (Reduce p ∷ tasks) ps steps → Shifted rules tasks ps steps (made.Reduce p)
reduced (reduce {steps = others} g) = record { others = others; is = refl; gives = g }

record Expanded (rules : List Rule) (n : ℕ) (tasks : List Task) (ps : List ℕ) (steps : List Step) : Type 0 where
  pub number : ℕ
  pub body : List Symbol
  pub others : List ℕ
  pub is : ps ≡ number ∷ others
  pub rule : IsRule rules number n body
  pub gives : TasksGive rules (reads body ++ Reduce number ∷ tasks) others steps

expanded : {rules : List Rule} {n : ℕ} {tasks : List Task} {ps : List ℕ} {steps : List Step} → TasksGive rules (Visit (Nonterminal n) ∷ tasks) ps steps → Expanded rules n tasks ps steps
expanded (expand {p = p} b {ps = others} r g) = record { number = p; body = b; others = others; is = refl; rule = r; gives = g }

one-more : (y : Syntax) (ps : List ℕ) (steps more rest others : List Step) (x : Step) → rest ≡ x ∷ others → more ≡ steps ++ x ∷ [] → ((ts : List ℕ) (f : Forest) → IsParseTree y ps ts f → steps_of f ≡ steps ++ rest) → (ts : List ℕ) (f : Forest) → IsParseTree y ps ts f → steps_of f ≡ more ++ others
one-more y ps steps more rest others x e m whole ts f t =
    whole ts f t ∙ ap (λ r. steps ++ r) e ∙ sym (append_assoc steps (x ∷ []) others) ∙ ap (λ s. s ++ others) (sym m)

pub goes-shift : (y : Syntax) (ps : List ℕ) (items left : List Task) (task : Task) (symbol : Symbol) (t next : ℕ) (steps more : List Step) → Goes y ps items next steps → items ≡ left ++ task ∷ [] → task ≡ Visit symbol → symbol ≡ Terminal t → more ≡ steps ++ made.Shift ∷ [] → Goes y ps left next more
goes-shift y ps items left task symbol t next steps more g e i j m =
    let x = shifted (subst (λ r. TasksGive y.rules r (drop next ps) g.0) (popped items left task e ∙ ap (λ r. r ∷ reverse left) (i ∙ ap (λ r. Visit r) j)) g.1) in
    (x.others, x.gives, one-more y ps steps more g.0 x.others made.Shift x.is m g.2)

pub goes-reduce : (y : Syntax) (ps : List ℕ) (items left : List Task) (task : Task) (p next : ℕ) (steps more : List Step) → Goes y ps items next steps → items ≡ left ++ task ∷ [] → task ≡ Reduce p → more ≡ steps ++ made.Reduce p ∷ [] → Goes y ps left next more
goes-reduce y ps items left task p next steps more g e i m =
    let x = reduced (subst (λ r. TasksGive y.rules r (drop next ps) g.0) (popped items left task e ∙ ap (λ r. r ∷ reverse left) i) g.1) in
    (x.others, x.gives, one-more y ps steps more g.0 x.others (made.Reduce p) x.is m g.2)

-- where a nonterminal is on top, the next production is one of its
pub record Next (y : Syntax) (ps : List ℕ) (left : List Task) (next n : ℕ) (steps : List Step) : Type 0 where
  pub within : next < length ps
  pub body : List Symbol
  pub rule : IsRule y.rules (slice_index_or ps next 0) n body
  pub listed : slice_index_or ps next 0 < length y.rules
  pub others : drop next ps ≡ slice_index_or ps next 0 ∷ drop (next + 1) ps
  pub rest : List Step
  pub gives : TasksGive y.rules (reads body ++ Reduce (slice_index_or ps next 0) ∷ reverse left) (drop (next + 1) ps) rest
  pub whole : (ts : List ℕ) (f : Forest) → IsParseTree y ps ts f → steps_of f ≡ steps ++ rest

at-drop : (xs : List ℕ) (i x : ℕ) (ys : List ℕ) → drop i xs ≡ x ∷ ys → slice_index_or xs i 0 ≡ x
at-drop [] zero x ys e = cc
at-drop [] (suc i) x ys e = cc
at-drop (y ∷ xs) zero x ys e = cc
at-drop (y ∷ xs) (suc i) x ys e = at-drop xs i x ys e

pub goes-next : (y : Syntax) (ps : List ℕ) (items left : List Task) (task : Task) (symbol : Symbol) (n next : ℕ) (steps : List Step) → Goes y ps items next steps → items ≡ left ++ task ∷ [] → task ≡ Visit symbol → symbol ≡ Nonterminal n → Next y ps left next n steps
goes-next y ps items left task symbol n next steps g e i j =
    let x = expanded (subst (λ r. TasksGive y.rules r (drop next ps) g.0) (popped items left task e ∙ ap (λ r. r ∷ reverse left) (i ∙ ap (λ r. Visit r) j)) g.1) in
    let here = at-drop ps next x.number x.others x.is in
    let behind : drop (next + 1) ps ≡ x.others = sym (drop-drop 1 next ps) ∙ ap (drop 1) x.is in
    let rule : IsRule y.rules (slice_index_or ps next 0) n x.body = subst (λ p. IsRule y.rules p n x.body) (sym here) x.rule in
    record {
      within = within-drop ps next x.number x.others x.is;
      body = x.body;
      rule = rule;
      listed = slice_get_within y.rules (slice_index_or ps next 0) _ rule;
      others = x.is ∙ ap (λ r. r ∷ x.others) (sym here) ∙ ap (λ r. slice_index_or ps next 0 ∷ r) (sym behind);
      rest = g.0;
      gives = subst (λ r. TasksGive y.rules (reads x.body ++ Reduce (slice_index_or ps next 0) ∷ reverse left) r g.0) (sym behind) (subst (λ p. TasksGive y.rules (reads x.body ++ Reduce p ∷ reverse left) x.others g.0) (sym here) x.gives);
      whole = g.2;
    }

reads-reverse : (s : List Symbol) → reverse (reads s) ≡ reads (reverse s)
reads-reverse [] = refl
reads-reverse (x ∷ s) =
    reverse-append (Visit x ∷ []) (reads s) ∙ ap (λ r. r ++ Visit x ∷ []) (reads-reverse s) ∙ sym (reads-append (reverse s) (x ∷ [])) ∙ ap reads (sym (reverse-append (x ∷ []) s))

pushed : (left with' all : List Task) (p : ℕ) (body : List Symbol) → with' ≡ left ++ Reduce p ∷ [] → all ≡ with' ++ reads (reverse body) → reverse all ≡ reads body ++ (Reduce p ∷ reverse left)
pushed left with' all p body e a =
    let turned : reverse (reads (reverse body)) ≡ reads body = reads-reverse (reverse body) ∙ ap reads (reverse-reverse body) in
    ap reverse a ∙ reverse-append with' (reads (reverse body)) ∙ ap (λ r. r ++ reverse with') turned ∙ ap (λ r. reads body ++ r) (popped with' left (Reduce p) e)

pub goes-expand : (y : Syntax) (ps : List ℕ) (left with' all : List Task) (next n : ℕ) (steps : List Step) (given : (head : ℕ) × (body : List Symbol) × IsRule y.rules (slice_index_or ps next 0) head body) → Next y ps left next n steps → with' ≡ left ++ Reduce (slice_index_or ps next 0) ∷ [] → all ≡ with' ++ reads (reverse given.1) → Goes y ps all (next + 1) steps
goes-expand y ps left with' all next n steps given x e a =
    let p = slice_index_or ps next 0 in
    let bodies : given.1 ≡ x.body = IsRule-body y.rules p given.0 n given.1 x.body given.2 x.rule in
    let tasks : reverse all ≡ reads x.body ++ Reduce p ∷ reverse left = pushed left with' all p given.1 e a ∙ ap (λ b. reads b ++ Reduce p ∷ reverse left) bodies in
    (x.rest, subst (λ r. TasksGive y.rules r (drop (next + 1) ps) x.rest) (sym tasks) x.gives, x.whole)

-- each task that is done leaves less to do
pub less-visit : (rules : List Rule) (ps : List ℕ) (items left : List Task) (task : Task) (next : ℕ) → items ≡ left ++ task ∷ [] → length (reverse left) + tasks_of rules (drop next ps) < length (reverse items) + tasks_of rules (drop next ps)
less-visit rules ps items left task next e = let l : length (reverse items) ≡ suc (length (reverse left)) = ap length (popped items left task e) in omega (arith, l)

pub less-expand : (y : Syntax) (ps : List ℕ) (items left with' all : List Task) (task : Task) (next n : ℕ) (steps : List Step) (given : (head : ℕ) × (body : List Symbol) × IsRule y.rules (slice_index_or ps next 0) head body) → Next y ps left next n steps → items ≡ left ++ task ∷ [] → with' ≡ left ++ Reduce (slice_index_or ps next 0) ∷ [] → all ≡ with' ++ reads (reverse given.1) → length (reverse all) + tasks_of y.rules (drop (next + 1) ps) < length (reverse items) + tasks_of y.rules (drop next ps)
less-expand y ps items left with' all task next n steps given x i e a =
    let p = slice_index_or ps next 0 in
    let l : length (reverse items) ≡ suc (length (reverse left)) = ap length (popped items left task i) in
    let m : length (reverse all) ≡ length (reads given.1) + suc (length (reverse left)) = ap length (pushed left with' all p given.1 e a) ∙ length-append (reads given.1) (Reduce p ∷ reverse left) in
    let k : length (reads given.1) ≡ length given.1 = length-map given.1 (λ x. Visit x) in
    let b : length (body_of (slice_get y.rules p)) ≡ length given.1 = ap (λ o. length (body_of o)) given.2 in
    let t : tasks_of y.rules (drop next ps) ≡ suc (length (body_of (slice_get y.rules p))) + tasks_of y.rules (drop (next + 1) ps) = ap (tasks_of y.rules) x.others in
    omega (arith, l, m, k, b, t)

-- Where no task is left, all steps were made.
pub goes-end : (y : Syntax) (ps : List ℕ) (tasks : List Task) (next : ℕ) (steps : List Step) → Goes y ps tasks next steps → reverse tasks ≡ [] → (ts : List ℕ) (f : Forest) → IsParseTree y ps ts f → steps ≡ steps_of f
goes-end y ps tasks next steps g e ts f t =
    let nothing-left : g.0 ≡ [] = no-steps (subst (λ r. TasksGive y.rules r (drop next ps) g.0) e g.1) in
    sym (g.2 ts f t ∙ ap (λ r. steps ++ r) nothing-left ∙ append-nil steps)
  where
    no-steps : {ps : List ℕ} {steps : List Step} → TasksGive y.rules [] ps steps → steps ≡ []
    no-steps none = refl
