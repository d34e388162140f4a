-- What the merging of levels does to a chain.
use Rattle.std.proofs.Common.{◌≡◌, ℕ, zero, suc, ◌+◌, ◌<◌, ◌≤◌, inl, inr, List, [], ◌∷◌, ◌++◌, sym, ap, ◌∙◌, subst, refl, arith}
use Rattle.std.specs.Prelude.{if◌then◌else◌}
use Rattle.std.proofs.lemmas.Bool.{cases_order}
use Rattle.std.proofs.lemmas.Bool.Decides.{eqb_tells}
use Rattle.dslx_tree.specs.declared.operator.Binary.{Binary}
use Rattle.dslx_tree.specs.declared.operator.Binary.TheVariants.{Mul, Div, Rem, Add, Sub, Concat, Shl, Shr, And, Xor, Or, Eq, Ne, Lt, Le, Gt, Ge, Both, Either}
use Rattle.dslx_tree.specs.Levels.{level_of}
use Rattle.dslx_tree.specs.declared.operators.chain.Operand.{Operand}
use Rattle.dslx_tree.specs.declared.operators.chain.Link.{Link}
use Rattle.dslx_tree.specs.Operators.Levels.{AreBelow, Operands, joined, merged, merged_to}

abbrev made : Operand → List Link → Operands
made first links = record { first = first; links = links }

abbrev link_of : Binary → Operand → Link
link_of operator operand = record { operator = operator; operand = operand }

level-below : (o : Binary) → level_of o < 9
level-below Mul = omega arith
level-below Div = omega arith
level-below Rem = omega arith
level-below Add = omega arith
level-below Sub = omega arith
level-below Concat = omega arith
level-below Shl = omega arith
level-below Shr = omega arith
level-below And = omega arith
level-below Xor = omega arith
level-below Or = omega arith
level-below Eq = omega arith
level-below Ne = omega arith
level-below Lt = omega arith
level-below Le = omega arith
level-below Gt = omega arith
level-below Ge = omega arith
level-below Both = omega arith
level-below Either = omega arith

-- ---- one link

merged-at : (level : ℕ) (x : Operand) (l : Link) (links : List Link) → level_of l.operator ≡ level → merged level x (l ∷ links) ≡ merged level (joined l.operator x l.operand) links
merged-at level x l links e =
    elim (eqb_tells (level_of l.operator) level) [
      | inl t ↦ ap (λ b. if b then merged level (joined l.operator x l.operand) links else made x (link_of l.operator (merged level l.operand links).first ∷ (merged level l.operand links).links)) t.0
      | inr t ↦ absurd (t.1 e)
    ]

merged-past : (level : ℕ) (x : Operand) (l : Link) (links : List Link) → (level_of l.operator ≡ level → ⊥) → merged level x (l ∷ links) ≡ made x (link_of l.operator (merged level l.operand links).first ∷ (merged level l.operand links).links)
merged-past level x l links ne =
    elim (eqb_tells (level_of l.operator) level) [
      | inl t ↦ absurd (ne t.1)
      | inr t ↦ ap (λ b. if b then merged level (joined l.operator x l.operand) links else made x (link_of l.operator (merged level l.operand links).first ∷ (merged level l.operand links).links)) t.0
    ]

-- ---- which operators are left

-- the operators are of this level or a looser one
AreFrom : ℕ → List Link → Type 0
AreFrom level [] = Unit {0}
AreFrom level (l ∷ links) = (level ≤ level_of l.operator) × AreFrom level links

all-from : (links : List Link) → AreFrom 0 links
unfolding AreFrom
all-from [] = tt
all-from (l ∷ links) = (omega arith, all-from links)

merged-from : (level : ℕ) (x : Operand) (links : List Link) → AreFrom level links → AreFrom (suc level) (merged level x links).links
unfolding AreFrom
merged-from level x [] f = tt
merged-from level x (l ∷ links) f =
    elim (eqb_tells (level_of l.operator) level) [
      | inl t ↦ subst (λ (m : Operands). AreFrom (suc level) m.links) (sym (merged-at level x l links t.1)) (merged-from level (joined l.operator x l.operand) links f.1)
      | inr t ↦ let le = f.0 in let ne = t.1 in subst (λ (m : Operands). AreFrom (suc level) m.links) (sym (merged-past level x l links t.1)) (omega (arith, le, ne), merged-from level l.operand links f.1)
    ]

merged_to-from : (level : ℕ) (x : Operand) (links : List Link) → AreFrom level (merged_to level x links).links
merged_to-from zero x links = all-from links
merged_to-from (suc level) x links =
    merged-from level (merged_to level x links).first (merged_to level x links).links (merged_to-from level x links)

merged-below : (level most : ℕ) (x : Operand) (links : List Link) → AreBelow most links → AreBelow most (merged level x links).links
merged-below level most x [] f = tt
merged-below level most x (l ∷ links) f =
    elim (eqb_tells (level_of l.operator) level) [
      | inl t ↦ subst (λ (m : Operands). AreBelow most m.links) (sym (merged-at level x l links t.1)) (merged-below level most (joined l.operator x l.operand) links f.1)
      | inr t ↦ subst (λ (m : Operands). AreBelow most m.links) (sym (merged-past level x l links t.1)) (f.0, merged-below level most l.operand links f.1)
    ]

merged_to-below : (level most : ℕ) (x : Operand) (links : List Link) → AreBelow most links → AreBelow most (merged_to level x links).links
merged_to-below zero most x links f = f
merged_to-below (suc level) most x links f =
    merged-below level most (merged_to level x links).first (merged_to level x links).links (merged_to-below level most x links f)

none-between : (level : ℕ) (links : List Link) → AreFrom level links → AreBelow level links → links ≡ []
unfolding AreFrom
none-between level [] f g = refl
none-between level (l ∷ links) f g = let a = f.0 in let b = g.0 in absurd (omega (arith, a, b))

all-below : (links : List Link) → AreBelow 9 links
all-below [] = tt
all-below (l ∷ links) = (level-below l.operator, all-below links)

-- once the levels of all operators are made none is left
none-left : (level : ℕ) (x : Operand) (links : List Link) → AreBelow level links → (merged_to level x links).links ≡ []
none-left level x links below =
    none-between level (merged_to level x links).links (merged_to-from level x links) (merged_to-below level level x links below)

pub all-made : (x : Operand) (links : List Link) → (merged_to 9 x links).links ≡ []
all-made x links = none-left 9 x links (all-below links)

-- and further levels change nothing
stays : (k m : ℕ) (x y : Operand) (links : List Link) → m ≤ k → merged_to m x links ≡ made y [] → merged_to k x links ≡ made y []
stays zero m x y links le e = let z : m ≡ 0 = omega arith in subst (λ i. merged_to i x links ≡ made y []) z e
stays (suc k) m x y links le e =
    elim (cases_order m (suc k)) [
      | inl same ↦ subst (λ i. merged_to i x links ≡ made y []) same e
      | inr o ↦
          elim o [
            | inl lt ↦ let le' : m ≤ k = omega (arith, lt) in ap (λ (s : Operands). merged k s.first s.links) (stays k m x y links le' e)
            | inr gt ↦ absurd (omega (arith, le, gt))
          ]
    ]

tree-from : (m : ℕ) (x : Operand) (links : List Link) → m ≤ 9 → (merged_to m x links).links ≡ [] → (merged_to 9 x links).first ≡ (merged_to m x links).first
tree-from m x links le e =
    let whole : merged_to m x links ≡ made (merged_to m x links).first [] = ap (λ ls. made (merged_to m x links).first ls) e in
    ap (λ (s : Operands). s.first) (stays 9 m x (merged_to m x links).first links le whole)

-- ---- a chain at one of its operators

-- tighter levels leave the operator where it is
merged-split : (level : ℕ) (x : Operand) (before : List Link) (o : Binary) (y : Operand) (after : List Link) → (level_of o ≡ level → ⊥) → merged level x (before ++ link_of o y ∷ after) ≡ made (merged level x before).first ((merged level x before).links ++ link_of o (merged level y after).first ∷ (merged level y after).links)
merged-split level x [] o y after ne = merged-past level x (link_of o y) after ne
merged-split level x (b ∷ before) o y after ne =
    let tail : List Link = link_of o (merged level y after).first ∷ (merged level y after).links in
    elim (eqb_tells (level_of b.operator) level) [
      | inl t ↦
          merged-at level x b (before ++ link_of o y ∷ after) t.1 ∙ merged-split level (joined b.operator x b.operand) before o y after ne ∙ ap (λ (m : Operands). made m.first (m.links ++ tail)) (sym (merged-at level x b before t.1))
      | inr t ↦
          merged-past level x b (before ++ link_of o y ∷ after) t.1 ∙ ap (λ (m : Operands). made x (link_of b.operator m.first ∷ m.links)) (merged-split level b.operand before o y after ne) ∙ ap (λ (m : Operands). made m.first (m.links ++ tail)) (sym (merged-past level x b before t.1))
    ]

merged_to-split : (level : ℕ) (x : Operand) (before : List Link) (o : Binary) (y : Operand) (after : List Link) → level ≤ level_of o → merged_to level x (before ++ link_of o y ∷ after) ≡ made (merged_to level x before).first ((merged_to level x before).links ++ link_of o (merged_to level y after).first ∷ (merged_to level y after).links)
merged_to-split zero x before o y after le = refl
merged_to-split (suc level) x before o y after le =
    let ne : level_of o ≡ level → ⊥ = λ e. absurd (omega (arith, le, e)) in
    ap (λ (s : Operands). merged level s.first s.links) (merged_to-split level x before o y after (omega (arith, le))) ∙ merged-split level (merged_to level x before).first (merged_to level x before).links o (merged_to level y after).first (merged_to level y after).links ne

-- its own level, where all before it are of that level, makes it the last
merged-last : (level : ℕ) (x : Operand) (links : List Link) (o : Binary) (y : Operand) → level_of o ≡ level → AreFrom level links → AreBelow (suc level) links → merged level x (links ++ link_of o y ∷ []) ≡ made (joined o (merged level x links).first y) []
unfolding AreFrom
merged-last level x [] o y e f g = merged-at level x (link_of o y) [] e
merged-last level x (b ∷ links) o y e f g =
    let from = f.0 in
    let below = g.0 in
    let same : level_of b.operator ≡ level = omega (arith, from, below) in
    merged-at level x b (links ++ link_of o y ∷ []) same ∙ merged-last level (joined b.operator x b.operand) links o y e f.1 g.1 ∙ ap (λ (m : Operands). made (joined o m.first y) []) (sym (merged-at level x b links same))

pub splits : (x : Operand) (before after : List Link) (l : Link) → AreBelow (level_of l.operator + 1) before → AreBelow (level_of l.operator) after → (merged_to 9 x (before ++ l ∷ after)).first ≡ joined l.operator (merged_to 9 x before).first (merged_to 9 l.operand after).first
splits x before after l loose tight =
    let n = level_of l.operator in
    let below = level-below l.operator in
    let a = merged_to n x before in
    let c = merged_to n l.operand after in
    let more : n + 1 ≡ suc n = omega arith in
    let loose' : AreBelow (suc n) before = subst (λ i. AreBelow i before) more loose in
    let none : c.links ≡ [] = none-left n l.operand after tight in
    let here : merged_to n x (before ++ l ∷ after) ≡ made a.first (a.links ++ link_of l.operator c.first ∷ c.links) = merged_to-split n x before l.operator l.operand after (omega arith) in
    let last : merged n a.first (a.links ++ link_of l.operator c.first ∷ []) ≡ made (joined l.operator (merged n a.first a.links).first c.first) [] =
    merged-last n a.first a.links l.operator c.first refl (merged_to-from n x before) (merged_to-below n (suc n) x before loose') in
    let whole : merged_to (suc n) x (before ++ l ∷ after) ≡ made (joined l.operator (merged_to (suc n) x before).first c.first) [] =
    ap (λ (s : Operands). merged n s.first s.links) here ∙ ap (λ ls. merged n a.first (a.links ++ link_of l.operator c.first ∷ ls)) none ∙ last in
    let all = ap (λ (s : Operands). s.first) (stays 9 (suc n) x (joined l.operator (merged_to (suc n) x before).first c.first) (before ++ l ∷ after) (omega (arith, below)) whole) in
    let left = tree-from (suc n) x before (omega (arith, below)) (none-left (suc n) x before loose') in
    let right = tree-from n l.operand after (omega (arith, below)) none in
    all ∙ ap (λ o. joined l.operator o c.first) (sym left) ∙ ap (λ o. joined l.operator (merged_to 9 x before).first o) (sym right)
