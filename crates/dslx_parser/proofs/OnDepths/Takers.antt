-- Which rule took each token, along the tree.
use Rattle.std.proofs.Common.{◌≡◌, ℕ, List, [], ◌∷◌, ◌++◌, refl, ap, sym, ◌∙◌}
use Rattle.std.proofs.lemmas.List.{append_assoc, append-nil}
use Rattle.base.specs.declared.grammar.table.Symbol.{Symbol}
use Rattle.base.specs.declared.grammar.table.Symbol.TheVariants.{Terminal}
use Rattle.base.specs.Grammar.Syntax.{Rule}
use Rattle.base.specs.Grammar.Tree.{Forest, Grows, empty, leaf, branch, leaves_of, productions_of}
use Rattle.base.specs.Grammar.Tree as forests
use Rattle.xb_span.specs.declared.nesting.bracket_class.BracketClass.{BracketClass}
use Rattle.dslx_token.specs.declared.bracket_classes.owners.Owned.{Owned}
use Rattle.dslx_token.specs.BracketClasses.BracketClasses.{bracket_class_of, bracket_classes_by}
use Rattle.dslx_token.specs.BracketClasses.Takers.{body_of, body_of_rule, owned_by, takers_from}

-- the rule of each token, where this one has the trees in its body
abbrev pub takers_along : ℕ → Forest → List ℕ
takers_along p forests.nothing = []
takers_along p (forests.token t right) = p ∷ takers_along p right
takers_along p (forests.node q below right) = takers_along q below ++ takers_along p right

-- what each token does to the nesting
abbrev pub bracket_classes_along : ℕ → Forest → List BracketClass
bracket_classes_along p forests.nothing = []
bracket_classes_along p (forests.token t right) = bracket_class_of p t ∷ bracket_classes_along p right
bracket_classes_along p (forests.node q below right) = bracket_classes_along q below ++ bracket_classes_along p right

took : (rules : List Rule) (ps : List ℕ) (p t : ℕ) (ahead : List Owned) → takers_from rules ps (record { rule = p; symbol = Terminal t } ∷ ahead) ≡ p ∷ takers_from rules ps ahead
took rules [] p t ahead = refl
took rules (q ∷ ps) p t ahead = refl

along : (rules : List Rule) (p : ℕ) {s : List Symbol} {f : Forest} → Grows rules s f → (ps : List ℕ) (ahead : List Owned)
    → takers_from rules (productions_of f ++ ps) (owned_by p s ++ ahead) ≡ takers_along p f ++ takers_from rules ps ahead
along rules p empty ps ahead = refl
along rules p (leaf {t = t} {s = s} {f = f} grows) ps ahead =
    took rules (productions_of f ++ ps) p t (owned_by p s ++ ahead) ∙ ap (λ (ts : List ℕ). p ∷ ts) (along rules p grows ps ahead)
along rules p (branch {p = q} b {s = s} {below = below} {right = right} rule under more) ps ahead =
    let body : body_of rules q ≡ b = ap body_of_rule rule in
    ap (λ (bs : List Symbol). takers_from rules ((productions_of below ++ productions_of right) ++ ps) (owned_by q bs ++ (owned_by p s ++ ahead))) body
    ∙ ap (λ (qs : List ℕ). takers_from rules qs (owned_by q b ++ (owned_by p s ++ ahead))) (append_assoc (productions_of below) (productions_of right) ps)
    ∙ along rules q under (productions_of right ++ ps) (owned_by p s ++ ahead)
    ∙ ap (λ (ts : List ℕ). takers_along q below ++ ts) (along rules p more ps ahead)
    ∙ sym (append_assoc (takers_along q below) (takers_along p right) (takers_from rules ps ahead))

by_taker : (p : ℕ) (f : Forest) (ts ks : List ℕ) → bracket_classes_by (takers_along p f ++ ts) (leaves_of f ++ ks) ≡ bracket_classes_along p f ++ bracket_classes_by ts ks
by_taker p forests.nothing ts ks = refl
by_taker p (forests.token t right) ts ks = ap (λ (rs : List BracketClass). bracket_class_of p t ∷ rs) (by_taker p right ts ks)
by_taker p (forests.node q below right) ts ks =
    ap (λ (xs : List ℕ). bracket_classes_by xs ((leaves_of below ++ leaves_of right) ++ ks)) (append_assoc (takers_along q below) (takers_along p right) ts)
    ∙ ap (λ (xs : List ℕ). bracket_classes_by (takers_along q below ++ (takers_along p right ++ ts)) xs) (append_assoc (leaves_of below) (leaves_of right) ks)
    ∙ by_taker q below (takers_along p right ++ ts) (leaves_of right ++ ks)
    ∙ ap (λ (rs : List BracketClass). bracket_classes_along q below ++ rs) (by_taker p right ts ks)
    ∙ sym (append_assoc (bracket_classes_along q below) (bracket_classes_along p right) (bracket_classes_by ts ks))

-- the roles of the tokens of a derivation are those along its tree
pub bracket_classes_are : (rules : List Rule) {s : List Symbol} {f : Forest} → Grows rules s f → bracket_classes_by (takers_from rules (productions_of f) (owned_by 0 s)) (leaves_of f) ≡ bracket_classes_along 0 f
bracket_classes_are rules {s} {f} grows =
    let nothing_more : List ℕ = [] in
    ap (λ (ps : List ℕ). bracket_classes_by (takers_from rules ps (owned_by 0 s)) (leaves_of f)) (sym (append-nil (productions_of f)))
    ∙ ap (λ (os : List Owned). bracket_classes_by (takers_from rules (productions_of f ++ []) os) (leaves_of f)) (sym (append-nil (owned_by 0 s)))
    ∙ ap (λ (ts : List ℕ). bracket_classes_by ts (leaves_of f)) (along rules 0 grows [] [])
    ∙ ap (λ (ks : List ℕ). bracket_classes_by (takers_along 0 f ++ []) ks) (sym (append-nil (leaves_of f)))
    ∙ by_taker 0 f [] []
    ∙ append-nil (bracket_classes_along 0 f)
