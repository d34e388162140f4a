-- Parse trees of any grammar.
use Rattle.std.proofs.Common.{◌≡◌, ℕ, zero, suc, ◌+◌, ◌-◌, ◌^◌, ◌<◌, ◌≤◌, inl, inr, List, [], ◌∷◌, ◌++◌, length, drop, slice_index_or, slice_set, ◌⊎◌, Some, slice_index, sym, ap, ◌∙◌, subst, refl, append_assoc, length-append, arith}
use Rattle.std.specs.Prelude.{slice_get}
use Rattle.std.proofs.lemmas.Bool.{cases_lt}
use Rattle.std.proofs.lemmas.List.{append-nil, drop-drop, drop_at, drop_more, length-drop, length-set}
use Rattle.base.specs.declared.grammar.table.Symbol.{Symbol}
use Rattle.base.specs.declared.grammar.table.Symbol.TheVariants.{Terminal, Nonterminal}
use Rattle.base.specs.declared.grammar.tree.Node.{Node}
use Rattle.base.specs.Grammar.Syntax.{Rule, Syntax}
use Rattle.base.specs.Grammar.Derivation.{IsRule, IsDerivation, Derives}
use Rattle.base.specs.Grammar.Derivation.Derives.{done, shift, expand}
use Rattle.base.specs.Grammar.Tree.{Forest, nothing, token, node, Grows, productions_of, leaves_of, IsNode, AreNodes, IsParseTree, Derived, TreePosition, Tree, IsTreeAt, IsExtent, AreLaid, beginning, below_of, behind}
use Rattle.base.specs.Grammar.Inner.Nodes.{HasTree, AreNodesFrom}
use Rattle.base.specs.Grammar.Tree.Grows.{empty, leaf, branch}
use Rattle.base.proofs.OnGrammar.Deriving.{IsRule-body, Derives-append}
use Rattle.base.proofs.OnGrammar.Tested.{get-within}

-- what grows has a derivation
pub Grows-derives : {rules : List Rule} {s : List Symbol} {f : Forest} → Grows rules s f → Derives rules s (productions_of f) (leaves_of f)
Grows-derives empty = done
Grows-derives (leaf g) = shift (Grows-derives g)
Grows-derives (branch b e g h) = expand b e (Derives-append (Grows-derives g) (Grows-derives h))

-- the trees of symbols side by side
pub record Parts (rules : List Rule) (a s : List Symbol) (ps ts : List ℕ) : Type 0 where
  pub left : Forest
  pub right : Forest
  pub grows_left : Grows rules a left
  pub grows_right : Grows rules s right
  pub productions : productions_of left ++ productions_of right ≡ ps
  pub tokens : leaves_of left ++ leaves_of right ≡ ts

pub record Grown (rules : List Rule) (s : List Symbol) (ps ts : List ℕ) : Type 0 where
  pub forest : Forest
  pub grows : Grows rules s forest
  pub productions : productions_of forest ≡ ps
  pub tokens : leaves_of forest ≡ ts

with-token : {rules : List Rule} {a s : List Symbol} {ps ts : List ℕ} (t : ℕ) → Parts rules a s ps ts → Parts rules (Terminal t ∷ a) s ps (t ∷ ts)
with-token t x = record {
  left = token t x.left;
  right = x.right;
  grows_left = leaf x.grows_left;
  grows_right = x.grows_right;
  productions = x.productions;
  tokens = ap (λ l. t ∷ l) x.tokens;
}

with-node : {rules : List Rule} {a s : List Symbol} {ps ts : List ℕ} (p n : ℕ) (b : List Symbol) (below : Forest) → IsRule rules p n b → Grows rules b below → Parts rules a s ps ts → Parts rules (Nonterminal n ∷ a) s (p ∷ (productions_of below ++ ps)) (leaves_of below ++ ts)
with-node p n b below e g x = record {
  left = node p below x.left;
  right = x.right;
  grows_left = branch b e g x.grows_left;
  grows_right = x.grows_right;
  productions = ap (λ l. p ∷ l) (append_assoc (productions_of below) (productions_of x.left) (productions_of x.right) ∙ ap (λ l. productions_of below ++ l) x.productions);
  tokens = append_assoc (leaves_of below) (leaves_of x.left) (leaves_of x.right) ∙ ap (λ l. leaves_of below ++ l) x.tokens;
}

parts : {rules : List Rule} (a s : List Symbol) {f : Forest} → Grows rules (a ++ s) f → Parts rules a s (productions_of f) (leaves_of f)
parts [] s {f = f} g = record { left = nothing; right = f; grows_left = empty; grows_right = g; productions = refl; tokens = refl }
parts (Terminal t ∷ a) s (leaf g) = with-token t (parts a s g)
parts (Nonterminal n ∷ a) s (branch {p = p} b {below = below} e g h) = with-node p n b below e g (parts a s h)

grown : {rules : List Rule} {s : List Symbol} {ps ts : List ℕ} (p n : ℕ) (b : List Symbol) → IsRule rules p n b → Parts rules b s ps ts → Grown rules (Nonterminal n ∷ s) (p ∷ ps) ts
grown p n b e x = record {
  forest = node p x.left x.right;
  grows = branch b e x.grows_left x.grows_right;
  productions = ap (λ l. p ∷ l) x.productions;
  tokens = x.tokens;
}

parts-of : {rules : List Rule} (a s : List Symbol) {ps ts : List ℕ} → Grown rules (a ++ s) ps ts → Parts rules a s ps ts
parts-of {rules} a s {ps} {ts} x =
    subst (λ l. Parts rules a s l ts) x.productions (subst (λ l. Parts rules a s (productions_of x.forest) l) x.tokens (parts a s x.grows))

-- each derivation has a tree
pub tree-of : {rules : List Rule} {s : List Symbol} {ps ts : List ℕ} → Derives rules s ps ts → Grown rules s ps ts
tree-of done = record { forest = nothing; grows = empty; productions = refl; tokens = refl }
tree-of (shift {t = t} d) =
    let x = tree-of d in
    record { forest = token t x.forest; grows = leaf x.grows; productions = x.productions; tokens = ap (λ l. t ∷ l) x.tokens }
tree-of (expand {p = p} {n = n} b {s = s} e d) = grown p n b e (parts-of b s (tree-of d))

same_node : {p q : ℕ} {a b c d : Forest} → p ≡ q → a ≡ b → c ≡ d → node p a c ≡ node q b d
same_node e f g = cc

-- Trees of the same symbols whose productions begin the same list are the same.
pub same-forest : {rules : List Rule} {s : List Symbol} {f : Forest} → Grows rules s f → {g : Forest} → Grows rules s g → (x y : List ℕ) → productions_of f ++ x ≡ productions_of g ++ y → (f ≡ g) × (x ≡ y)
same-forest empty empty x y e = (refl, e)
same-forest (leaf {t = t} a) (leaf b) x y e = let q = same-forest a b x y e in (ap (token t) q.0, q.1)
same-forest {rules} (branch {p = p} {n = n} b {s = s} {below = l} {right = r} e g h) (branch {p = p'} b' {below = l'} {right = r'} e' g' h') x y same =
    let heads : p ≡ p' = cc in
    let tails : (productions_of l ++ productions_of r) ++ x ≡ (productions_of l' ++ productions_of r') ++ y = cc in
    let bodies : b' ≡ b = IsRule-body rules p n n b' b (subst (λ i. IsRule rules i n b') (sym heads) e') e in
    let lefts = same-forest g (subst (λ c. Grows rules c l') bodies g') (productions_of r ++ x) (productions_of r' ++ y) (sym (append_assoc (productions_of l) (productions_of r) x) ∙ tails ∙ append_assoc (productions_of l') (productions_of r') y) in
    let rights = same-forest h h' x y lefts.1 in
    (same_node heads lefts.0 rights.0, rights.1)

-- ---- a tree at each place

record TreeAt (rules : List Rule) (most : ℕ) (here : List ℕ) : Type 0 where
  pub number : ℕ
  pub head : ℕ
  pub body : List Symbol
  pub below : Forest
  pub rest : List ℕ
  pub rule : IsRule rules number head body
  pub grows : Grows rules body below
  pub is : here ≡ number ∷ (productions_of below ++ rest)
  pub counted : length (leaves_of below) ≤ most

tree-more : {rules : List Rule} {m n : ℕ} {here : List ℕ} → m ≤ n → TreeAt rules m here → TreeAt rules n here
tree-more le t = record {
  number = t.number;
  head = t.head;
  body = t.body;
  below = t.below;
  rest = t.rest;
  rule = t.rule;
  grows = t.grows;
  is = t.is;
  counted = let c = t.counted in omega (arith, c, le);
}

drop-past : (xs ys : List ℕ) (k : ℕ) → length xs ≤ k → drop k (xs ++ ys) ≡ drop (k - length xs) ys
drop-past [] ys k le = ap (λ i. drop i ys) (omega arith)
drop-past (x ∷ xs) ys zero le = absurd (omega arith)
drop-past (x ∷ xs) ys (suc k) le =
    let same : k - length xs ≡ suc k - suc (length xs) = omega arith in
    drop-past xs ys k (omega arith) ∙ ap (λ i. drop i ys) same

tree-at : {rules : List Rule} {s : List Symbol} {f : Forest} → Grows rules s f → (rest : List ℕ) (k : ℕ) → k < length (productions_of f) → TreeAt rules (length (leaves_of f)) (drop k (productions_of f ++ rest))
tree-at empty rest k lt = absurd (omega arith)
tree-at (leaf {f = f} g) rest k lt = tree-more (omega arith) (tree-at g rest k lt)
tree-at {rules} (branch {p = p} {n = n} b {below = l} {right = r} e g h) rest zero lt = record {
  number = p;
  head = n;
  body = b;
  below = l;
  rest = productions_of r ++ rest;
  rule = e;
  grows = g;
  is = ap (λ x. p ∷ x) (append_assoc (productions_of l) (productions_of r) rest);
  counted = omega (arith, length-append (leaves_of l) (leaves_of r));
}
tree-at {rules} (branch {p = p} {n = n} b {below = l} {right = r} e g h) rest (suc k) lt =
    elim (cases_lt k (length (productions_of l))) [
      | inl inside ↦
          tree-more (omega (arith, length-append (leaves_of l) (leaves_of r)))
          (subst (λ x. TreeAt rules (length (leaves_of l)) (drop k x)) (sym (append_assoc (productions_of l) (productions_of r) rest)) (tree-at g (productions_of r ++ rest) k inside))
      | inr behind ↦
          let fewer : k - length (productions_of l) < length (productions_of r) = omega (arith, length-append (productions_of l) (productions_of r)) in
          tree-more (omega (arith, length-append (leaves_of l) (leaves_of r)))
          (subst (λ x. TreeAt rules (length (leaves_of r)) x) (sym (ap (drop k) (append_assoc (productions_of l) (productions_of r) rest) ∙ drop-past (productions_of l) (productions_of r ++ rest) k behind)) (tree-at h rest (k - length (productions_of l)) fewer))
    ]

pub has-tree : {rules : List Rule} {s : List Symbol} {ps ts : List ℕ} → Derives rules s ps ts → (k : ℕ) → k < length ps → length ts < 2 ^ 64 → HasTree rules ps k
has-tree {rules} {s} {ps} {ts} d k lt small = from (tree-of d)
  where
    from : Grown rules s ps ts → HasTree rules ps k
    from x =
        let whole = x.productions in
        let at = tree-at x.grows [] k (subst (λ l. k < length l) (sym whole) lt) in
        record {
          number = at.number;
          head = at.head;
          body = at.body;
          below = at.below;
          rest = at.rest;
          rule = at.rule;
          grows = at.grows;
          here = ap (drop k) (sym (append-nil (productions_of x.forest) ∙ whole)) ∙ at.is;
          counted = let most = at.counted in let all = ap length x.tokens in omega (arith, most, all, small);
        }

-- ---- the loop over a body

-- The symbols that are left grow to the trees that are left, from the end so far on.
pub record Walk (rules : List Rule) (productions : List ℕ) (place : ℕ) (left : List Symbol) (n : Node) : Type 0 where
  pub tree : HasTree rules productions place
  pub forest : Forest
  pub rest : List ℕ
  pub grows : Grows rules left forest
  pub here : drop n.end productions ≡ productions_of forest ++ rest
  pub behind : place + 1 ≤ n.end
  pub ends : n.end + length (productions_of forest) ≡ place + suc (length (productions_of tree.below))
  pub counts : n.tokens + length (leaves_of forest) ≡ length (leaves_of tree.below)

-- the first of what is left is what stands there
pub index-drop : (xs : List ℕ) (k a : ℕ) (ys : List ℕ) → drop k xs ≡ a ∷ ys → slice_index xs k ≡ a
index-drop [] zero a ys e = cc
index-drop [] (suc k) a ys e = cc
index-drop (x ∷ xs) zero a ys e = cc
index-drop (x ∷ xs) (suc k) a ys e = index-drop xs k a ys e

pub within-drop : (xs : List ℕ) (k a : ℕ) (ys : List ℕ) → drop k xs ≡ a ∷ ys → k < length xs
within-drop xs k a ys e =
    let l : length xs - k ≡ suc (length ys) = sym (length-drop k xs) ∙ ap length e in
    omega (arith, l)

pub walk-start : (rules : List Rule) (productions : List ℕ) (place head : ℕ) (body : List Symbol) → HasTree rules productions place → IsRule rules (slice_index productions place) head body → Walk rules productions place body (record { end = place + 1; tokens = 0 })
walk-start rules productions place head body t r =
    let first : slice_index productions place ≡ t.number = index-drop productions place t.number (productions_of t.below ++ t.rest) t.here in
    let bodies : t.body ≡ body = IsRule-body rules t.number t.head head t.body body t.rule (subst (λ i. IsRule rules i head body) first r) in
    record {
      tree = t;
      forest = t.below;
      rest = t.rest;
      grows = subst (λ b. Grows rules b t.below) bodies t.grows;
      here = sym (drop-drop 1 place productions) ∙ ap (drop 1) t.here;
      behind = omega arith;
      ends = omega arith;
      counts = omega arith;
    }

record TokenFirst (rules : List Rule) (t : ℕ) (s : List Symbol) (f : Forest) : Type 0 where
  pub right : Forest
  pub is : f ≡ token t right
  pub grows : Grows rules s right

token-first : {rules : List Rule} {t : ℕ} {s : List Symbol} {f : Forest} → Grows rules (Terminal t ∷ s) f → TokenFirst rules t s f
token-first (leaf {f = f} g) = record { right = f; is = refl; grows = g }

record NodeFirst (rules : List Rule) (n : ℕ) (s : List Symbol) (f : Forest) : Type 0 where
  pub number : ℕ
  pub body : List Symbol
  pub below : Forest
  pub right : Forest
  pub is : f ≡ node number below right
  pub rule : IsRule rules number n body
  pub grows_below : Grows rules body below
  pub grows_right : Grows rules s right

node-first : {rules : List Rule} {n : ℕ} {s : List Symbol} {f : Forest} → Grows rules (Nonterminal n ∷ s) f → NodeFirst rules n s f
node-first (branch {p = p} b {below = l} {right = r} e g h) = record {
  number = p;
  body = b;
  below = l;
  right = r;
  is = refl;
  rule = e;
  grows_below = g;
  grows_right = h;
}

pub walk-token : (rules : List Rule) (productions : List ℕ) (place t : ℕ) (s : List Symbol) (end tokens : ℕ) → Walk rules productions place (Terminal t ∷ s) (record { end = end; tokens = tokens }) → Walk rules productions place s (record { end = end; tokens = tokens + 1 })
walk-token rules productions place t s end tokens w =
    let x = token-first w.grows in
    let ps : productions_of w.forest ≡ productions_of x.right = ap productions_of x.is in
    let ts : length (leaves_of w.forest) ≡ suc (length (leaves_of x.right)) = ap (λ f. length (leaves_of f)) x.is in
    record {
      tree = w.tree;
      forest = x.right;
      rest = w.rest;
      grows = x.grows;
      here = w.here ∙ ap (λ l. l ++ w.rest) ps;
      behind = w.behind;
      ends = let e = w.ends in let l = ap length ps in omega (arith, e, l);
      counts = let c = w.counts in omega (arith, c, ts);
    }

pub child-within : (rules : List Rule) (productions : List ℕ) (place n : ℕ) (s : List Symbol) (m : Node) → Walk rules productions place (Nonterminal n ∷ s) m → m.end < length productions
child-within rules productions place n s m w =
    let x = node-first w.grows in
    let e : drop m.end productions ≡ x.number ∷ ((productions_of x.below ++ productions_of x.right) ++ w.rest) = w.here ∙ ap (λ f. productions_of f ++ w.rest) x.is in
    let l : length productions - m.end ≡ suc (length ((productions_of x.below ++ productions_of x.right) ++ w.rest)) = sym (length-drop m.end productions) ∙ ap length e in
    omega (arith, l)

pub child-known : (rules : List Rule) (productions : List ℕ) (nodes : List Node) (place n : ℕ) (s : List Symbol) (m d : Node) → Walk rules productions place (Nonterminal n ∷ s) m → AreNodesFrom rules productions nodes (place + 1) → IsNode rules productions m.end (slice_index_or nodes m.end d)
child-known rules productions nodes place n s m d w known =
    let lt = child-within rules productions place n s m w in
    let all = known.all in
    let later = w.behind in
    known.each m.end (slice_index_or nodes m.end d) later (get-within nodes m.end d (omega (arith, lt, all)))

pub walk-node : (rules : List Rule) (productions : List ℕ) (place n : ℕ) (s : List Symbol) (end tokens : ℕ) (child : Node) → Walk rules productions place (Nonterminal n ∷ s) (record { end = end; tokens = tokens }) → IsNode rules productions end child → Walk rules productions place s (record { end = child.end; tokens = tokens + child.tokens })
walk-node rules productions place n s end tokens child w c =
    let x = node-first w.grows in
    let e : drop end productions ≡ x.number ∷ ((productions_of x.below ++ productions_of x.right) ++ w.rest) = w.here ∙ ap (λ f. productions_of f ++ w.rest) x.is in
    let heads : c.number ≡ x.number = let h = sym c.here ∙ e in cc in
    let tails : productions_of c.below ++ c.rest ≡ (productions_of x.below ++ productions_of x.right) ++ w.rest = let h = sym c.here ∙ e in cc in
    let bodies : c.body ≡ x.body = IsRule-body rules x.number c.head n c.body x.body (subst (λ i. IsRule rules i c.head c.body) heads c.rule) x.rule in
    let both = same-forest (subst (λ b. Grows rules b c.below) bodies c.grows) x.grows_below c.rest (productions_of x.right ++ w.rest) (tails ∙ append_assoc (productions_of x.below) (productions_of x.right) w.rest) in
    let long : length (productions_of w.forest) ≡ suc (length (productions_of x.below) + length (productions_of x.right)) = ap (λ f. length (productions_of f)) x.is ∙ ap suc (length-append (productions_of x.below) (productions_of x.right)) in
    let many : length (leaves_of w.forest) ≡ length (leaves_of x.below) + length (leaves_of x.right) = ap (λ f. length (leaves_of f)) x.is ∙ length-append (leaves_of x.below) (leaves_of x.right) in
    let same_long : length (productions_of c.below) ≡ length (productions_of x.below) = ap (λ f. length (productions_of f)) both.0 in
    let same_many : length (leaves_of c.below) ≡ length (leaves_of x.below) = ap (λ f. length (leaves_of f)) both.0 in
    let far : child.end ≡ end + suc (length (productions_of c.below)) = c.ends in
    record {
      tree = w.tree;
      forest = x.right;
      rest = w.rest;
      grows = x.grows_right;
      here = ap (λ i. drop i productions) far ∙ sym (drop-drop (suc (length (productions_of c.below))) end productions) ∙ ap (drop (suc (length (productions_of c.below)))) c.here ∙ drop_at (productions_of c.below) c.rest (length (productions_of c.below)) refl ∙ both.1;
      behind = let h = w.behind in omega (arith, h, far);
      ends = let h = w.ends in omega (arith, h, long, same_long, far);
      counts = let h = w.counts in let k = c.counts in omega (arith, h, many, same_many, k);
    }

pub walk-end : (rules : List Rule) (productions : List ℕ) (place : ℕ) (n : Node) → Walk rules productions place [] n → IsNode rules productions place n
walk-end rules productions place n w = done_at (no-more w.grows)
  where
    no-more : {f : Forest} → Grows rules [] f → f ≡ nothing
    no-more empty = refl

    done_at : w.forest ≡ nothing → IsNode rules productions place n
    done_at e =
        let l = ap (λ f. length (productions_of f)) e in
        let k = ap (λ f. length (leaves_of f)) e in
        let h = w.ends in
        let j = w.counts in
        record {
          number = w.tree.number;
          head = w.tree.head;
          body = w.tree.body;
          below = w.tree.below;
          rest = w.tree.rest;
          rule = w.tree.rule;
          grows = w.tree.grows;
          here = w.tree.here;
          ends = omega (arith, h, l);
          counts = omega (arith, j, k);
        }

-- the sum of the tokens fits
pub tokens-fit : (rules : List Rule) (productions : List ℕ) (nodes : List Node) (place n : ℕ) (s : List Symbol) (end tokens : ℕ) (d : Node) → Walk rules productions place (Nonterminal n ∷ s) (record { end = end; tokens = tokens }) → AreNodesFrom rules productions nodes (place + 1) → tokens + (slice_index_or nodes end d).tokens < 2 ^ 64
tokens-fit rules productions nodes place n s end tokens d w known =
    let next = walk-node rules productions place n s end tokens (slice_index_or nodes end d) w (child-known rules productions nodes place n s (record { end = end; tokens = tokens }) d w known) in
    let most = next.counts in
    let small = next.tree.counted in
    omega (arith, most, small)

pub token-fits : (rules : List Rule) (productions : List ℕ) (place t : ℕ) (s : List Symbol) (end tokens : ℕ) → Walk rules productions place (Terminal t ∷ s) (record { end = end; tokens = tokens }) → tokens + 1 < 2 ^ 64
token-fits rules productions place t s end tokens w =
    let next = walk-token rules productions place t s end tokens w in
    let most = next.counts in
    let small = next.tree.counted in
    omega (arith, most, small)

-- the next symbol of the body
pub walk-here : (rules : List Rule) (productions : List ℕ) (place : ℕ) (body : List Symbol) (i : ℕ) (d x : Symbol) (n : Node) → Walk rules productions place (drop i body) n → i < length body → slice_index_or body i d ≡ x → Walk rules productions place (x ∷ drop (i + 1) body) n
walk-here rules productions place body i d x n w lt e =
    subst (λ l. Walk rules productions place l n) (drop_more body i d lt ∙ ap (λ y. y ∷ drop (i + 1) body) e) w

get-set : (xs : List Node) (i j : ℕ) (v x : Node) → slice_get (slice_set xs i v) j ≡ Some x → ((j ≡ i) × (v ≡ x)) ⊎ ((j ≡ i → ⊥) × (slice_get xs j ≡ Some x))
get-set [] i j v x e = cc
get-set (y ∷ xs) zero zero v x e = inl (refl, cc)
get-set (y ∷ xs) zero (suc j) v x e = inr (λ h. cc, e)
get-set (y ∷ xs) (suc i) zero v x e = inr (λ h. cc, e)
get-set (y ∷ xs) (suc i) (suc j) v x e =
    elim (get-set xs i j v x e) [ inl q ↦ inl (ap suc q.0, q.1) | inr q ↦ inr (λ h. q.0 (omega arith), q.1) ]

-- one more node, before the others
pub nodes-more : (rules : List Rule) (productions : List ℕ) (nodes : List Node) (from : ℕ) (n : Node) → AreNodesFrom rules productions nodes (from + 1) → IsNode rules productions from n → AreNodesFrom rules productions (slice_set nodes from n) from
nodes-more rules productions nodes from n known here = record {
  all = length-set nodes from n ∙ known.all;
  each = λ j m le e. step j m le (get-set nodes from j n m e);
}
  where
    step : (j : ℕ) (m : Node) → from ≤ j → ((j ≡ from) × (n ≡ m)) ⊎ ((j ≡ from → ⊥) × (slice_get nodes j ≡ Some m)) → IsNode rules productions j m
    step j m le (inl q) = subst (λ i. IsNode rules productions i m) (sym q.0) (subst (IsNode rules productions from) q.1 here)
    step j m le (inr q) = let other : j ≡ from → ⊥ = q.0 in known.each j m (omega arith) q.1

pub parse-tree : (y : Syntax) (ps ts : List ℕ) → IsDerivation y ps ts → (f : Forest) × IsParseTree y ps ts f
parse-tree y ps ts d =
    let x = tree-of d in
    (x.forest, record { grows = x.grows; productions = x.productions; tokens = x.tokens })

-- ---- the children of a node

record NodeLaid (rules : List Rule) (productions tokens : List ℕ) (nodes : List Node) (n number : ℕ) (below right : Forest) (place start : ℕ) (others more : List ℕ) : Type 0 where
  pub child : Node
  pub at : slice_get nodes place ≡ Some child
  pub ends : child.end ≡ place + suc (length (productions_of below))
  pub counts : child.tokens ≡ length (leaves_of below)
  pub stands : IsTreeAt (record { rules = rules; productions = productions; tokens = tokens }) (record { production = place; token = start }) n (record { number = number; below = below })
  pub next : drop child.end productions ≡ productions_of right ++ others
  pub reads : drop (start + child.tokens) tokens ≡ leaves_of right ++ more

node-laid : (rules : List Rule) (productions tokens : List ℕ) (nodes : List Node) → AreNodes rules productions nodes → (p n : ℕ) (b : List Symbol) (below right : Forest) → IsRule rules p n b → Grows rules b below → (place start : ℕ) (others more : List ℕ) → drop place productions ≡ productions_of (node p below right) ++ others → drop start tokens ≡ leaves_of (node p below right) ++ more → start ≤ length tokens → NodeLaid rules productions tokens nodes n p below right place start others more
node-laid rules productions tokens nodes known p n b below right e g place start others more here reads inside =
    let d : Node = record { end = 0; tokens = 0 } in
    let lt = within-drop productions place p ((productions_of below ++ productions_of right) ++ others) here in
    let all = known.all in
    let got = get-within nodes place d (omega (arith, lt, all)) in
    let c = known.each place (slice_index_or nodes place d) got in
    let heads : c.number ≡ p = let h = sym c.here ∙ here in cc in
    let tails : productions_of c.below ++ c.rest ≡ (productions_of below ++ productions_of right) ++ others = let h = sym c.here ∙ here in cc in
    let bodies : c.body ≡ b = IsRule-body rules p c.head n c.body b (subst (λ i. IsRule rules i c.head c.body) heads c.rule) e in
    let both = same-forest (subst (λ x. Grows rules x c.below) bodies c.grows) g c.rest (productions_of right ++ others) (tails ∙ append_assoc (productions_of below) (productions_of right) others) in
    let reads' : drop start tokens ≡ leaves_of below ++ (leaves_of right ++ more) = reads ∙ append_assoc (leaves_of below) (leaves_of right) more in
    let count : (slice_index_or nodes place d).tokens ≡ length (leaves_of below) = c.counts ∙ ap (λ f. length (leaves_of f)) both.0 in
    record {
      child = slice_index_or nodes place d;
      at = got;
      ends = c.ends ∙ ap (λ f. place + suc (length (productions_of f))) both.0;
      counts = count;
      stands = record {
        body = b;
        rule = e;
        grows = g;
        others = productions_of right ++ others;
        here = here ∙ ap (λ l. p ∷ l) (append_assoc (productions_of below) (productions_of right) others);
        more = leaves_of right ++ more;
        reads = reads';
        within = inside;
      };
      next = ap (λ i. drop i productions) c.ends ∙ sym (drop-drop (suc (length (productions_of c.below))) place productions) ∙ ap (drop (suc (length (productions_of c.below)))) c.here ∙ drop_at (productions_of c.below) c.rest (length (productions_of c.below)) refl ∙ both.1;
      reads = ap (λ i. drop (start + i) tokens) count ∙ sym (drop-drop (length (leaves_of below)) start tokens) ∙ ap (drop (length (leaves_of below))) reads' ∙ drop_at (leaves_of below) (leaves_of right ++ more) (length (leaves_of below)) refl;
    }

get-drop : (xs : List ℕ) (i x : ℕ) (ys : List ℕ) → drop i xs ≡ x ∷ ys → slice_get xs i ≡ Some x
get-drop [] zero x ys e = cc
get-drop [] (suc i) x ys e = cc
get-drop (y ∷ xs) zero x ys e = let h : y ≡ x = cc in ap (λ z. Some z) h
get-drop (y ∷ xs) (suc i) x ys e = get-drop xs i x ys e

room : (xs : List ℕ) (i : ℕ) (ys zs : List ℕ) → drop i xs ≡ ys ++ zs → i ≤ length xs → i + length ys ≤ length xs
room xs i ys zs e le =
    let l : length xs - i ≡ length ys + length zs = sym (length-drop i xs) ∙ ap length e ∙ length-append ys zs in
    omega (arith, l, le)

pub laid : {rules : List Rule} {s : List Symbol} {f : Forest} → Grows rules s f → (productions tokens : List ℕ) (nodes : List Node) → AreNodes rules productions nodes → (place start end stop : ℕ) (others more : List ℕ) → drop place productions ≡ productions_of f ++ others → drop start tokens ≡ leaves_of f ++ more → place + length (productions_of f) ≡ end → start + length (leaves_of f) ≡ stop → start ≤ length tokens → AreLaid (record { rules = rules; productions = productions; tokens = tokens }) nodes s f (record { production = place; token = start }) (record { production = end; token = stop })
laid empty productions tokens nodes known place start end stop others more here reads e h inside = (refl, omega arith, omega arith)
laid (leaf {t = t} {f = right} g) productions tokens nodes known place start end stop others more here reads e h inside =
    let lt = within-drop tokens start t (leaves_of right ++ more) reads in
    (right, refl, get-drop tokens start t (leaves_of right ++ more) reads, laid g productions tokens nodes known place (start + 1) end stop others more here (sym (drop-drop 1 start tokens) ∙ ap (drop 1) reads) e (omega arith) (omega (arith, lt)))
laid {rules} (branch {p = p} {n = n} b {below = below} {right = right} r g h) productions tokens nodes known place start end stop others more here reads e j inside =
    let x = node-laid rules productions tokens nodes known p n b below right r g place start others more here reads inside in
    let far : x.child.end ≡ place + suc (length (productions_of below)) = x.ends in
    let count : x.child.tokens ≡ length (leaves_of below) = x.counts in
    let wide = room tokens start (leaves_of below) (leaves_of right ++ more) (reads ∙ append_assoc (leaves_of below) (leaves_of right) more) inside in
    (record { number = p; below = below }, right, x.child, refl, x.at, x.stands, laid h productions tokens nodes known x.child.end (start + x.child.tokens) end stop others more x.next x.reads (omega (arith, far, length-append (productions_of below) (productions_of right))) (omega (arith, count, length-append (leaves_of below) (leaves_of right))) (omega (arith, wide, count)))

-- what is below a tree
pub laid-below : (d : Derived) (nodes : List Node) (n : Node) (at : TreePosition) (head : ℕ) (t : Tree) (body : List Symbol) → AreNodes d.rules d.productions nodes → slice_get nodes at.production ≡ Some n → IsTreeAt d at head t → IsRule d.rules t.number head body → AreLaid d nodes body t.below (below_of at) (behind n at)
laid-below d nodes n at head t body known got s r =
    let rules = d.rules in
    let productions = d.productions in
    let tokens = d.tokens in
    let number = t.number in
    let below = t.below in
    let place = at.production in
    let start = at.token in
    let bodies : s.body ≡ body = IsRule-body rules number head head s.body body s.rule r in
    let c = known.each place n got in
    let heads : c.number ≡ number = let h = sym c.here ∙ s.here in cc in
    let tails : productions_of c.below ++ c.rest ≡ productions_of below ++ s.others = let h = sym c.here ∙ s.here in cc in
    let same : c.body ≡ s.body = IsRule-body rules number c.head head c.body s.body (subst (λ i. IsRule rules i c.head c.body) heads c.rule) s.rule in
    let both = same-forest (subst (λ b. Grows rules b c.below) same c.grows) s.grows c.rest s.others tails in
    let far : n.end ≡ place + suc (length (productions_of below)) = c.ends ∙ ap (λ f. place + suc (length (productions_of f))) both.0 in
    let count : n.tokens ≡ length (leaves_of below) = c.counts ∙ ap (λ f. length (leaves_of f)) both.0 in
    subst (λ b. AreLaid d nodes b below (below_of at) (behind n at)) bodies
    (laid s.grows productions tokens nodes known (place + 1) start n.end (start + n.tokens) s.others s.more (sym (drop-drop 1 place productions) ∙ ap (drop 1) s.here) s.reads (omega (arith, far)) (omega (arith, count)) s.within)

-- the tree of a whole derivation
pub stands-whole : (y : Syntax) (ps ts : List ℕ) → IsDerivation y ps ts → (t : Tree) × IsTreeAt (record { rules = y.rules; productions = ps; tokens = ts }) beginning 0 t
stands-whole y ps ts d =
    let x = tree-of d in
    let f = node-first x.grows in (
      record { number = f.number; below = f.below },
      record {
        body = f.body;
        rule = f.rule;
        grows = f.grows_below;
        others = productions_of f.right;
        here = sym x.productions ∙ ap productions_of f.is;
        more = leaves_of f.right;
        reads = sym x.tokens ∙ ap leaves_of f.is;
        within = omega arith;
      },
    )

-- how far a tree goes
pub stands-extent : (d : Derived) (nodes : List Node) (n : Node) (at : TreePosition) (head : ℕ) (t : Tree) → AreNodes d.rules d.productions nodes → slice_get nodes at.production ≡ Some n → IsTreeAt d at head t → IsExtent d at n
stands-extent d nodes n at head t known got s =
    let rules = d.rules in
    let productions = d.productions in
    let tokens = d.tokens in
    let number = t.number in
    let below = t.below in
    let place = at.production in
    let start = at.token in
    let c = known.each place n got in
    let heads : c.number ≡ number = let h = sym c.here ∙ s.here in cc in
    let tails : productions_of c.below ++ c.rest ≡ productions_of below ++ s.others = let h = sym c.here ∙ s.here in cc in
    let same : c.body ≡ s.body = IsRule-body rules number c.head head c.body s.body (subst (λ i. IsRule rules i c.head c.body) heads c.rule) s.rule in
    let both = same-forest (subst (λ b. Grows rules b c.below) same c.grows) s.grows c.rest s.others tails in
    let far : n.end ≡ place + suc (length (productions_of below)) = c.ends ∙ ap (λ f. place + suc (length (productions_of f))) both.0 in
    let count : n.tokens ≡ length (leaves_of below) = c.counts ∙ ap (λ f. length (leaves_of f)) both.0 in
    let lt = within-drop productions place number (productions_of below ++ s.others) s.here in
    let long = room productions place (number ∷ productions_of below) s.others s.here (omega (arith, lt)) in
    let wide = room tokens start (leaves_of below) s.more s.reads s.within in
    record { some = omega (arith, far); end = omega (arith, far, long); stop = omega (arith, count, wide) }

-- where a tree's production is
pub stands-within : (d : Derived) (at : TreePosition) (head : ℕ) (t : Tree) → IsTreeAt d at head t → (at.production < length d.productions) × (slice_get d.productions at.production ≡ Some t.number)
stands-within d at head t s =
    let others = productions_of t.below ++ s.others in
    (within-drop d.productions at.production t.number others s.here, get-drop d.productions at.production t.number others s.here)
