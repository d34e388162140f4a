-- A chain splits at the last of its loosest operators, and so its ordered tree is the tree by levels.
use Rattle.std.proofs.Common.{◌≡◌, ◌≤◌, ◌<◌, leb, ◌+◌, ℕ, zero, suc, inl, inr, List, [], ◌∷◌, ◌++◌, length, refl, ap, sym, ◌∙◌, subst, arith}
use Rattle.std.proofs.lemmas.Bool.{cases_Bool, leb-true, leb-false}
use Rattle.std.proofs.lemmas.List.{length-append}
use Rattle.dslx_tree.specs.Levels.{level_of}
use Rattle.dslx_tree.specs.declared.operators.chain.Link.{Link}
use Rattle.dslx_tree.specs.declared.operators.chain.Operand.{Operand}
use Rattle.dslx_tree.specs.Operators.Levels.{AreBelow, joined, tree_of}
use Rattle.dslx_tree.specs.Chains.Ordered.{IsOrderedTree, alone, split}

-- the law of the tree by levels
abbrev pub Splits : Type 0
Splits = (first : Operand) (before after : List Link) (link : Link) → AreBelow (level_of link.operator + 1) before → AreBelow (level_of link.operator) after → tree_of first (before ++ link ∷ after) ≡ joined link.operator (tree_of first before) (tree_of link.operand after)

pub only_one : Splits → {first : Operand} {links : List Link} {tree : Operand} → IsOrderedTree first links tree → tree ≡ tree_of first links
only_one splits (alone operand) = refl
only_one splits (split first before after link left right loose tight l r) =
    ap (λ t. joined link.operator t right) (only_one splits l)
    ∙ ap (λ t. joined link.operator (tree_of first before) t) (only_one splits r)
    ∙ sym (splits first before after link loose tight)

-- ---- the last of the loosest operators

record HasSplit (links : List Link) : Type 0 where
  before : List Link
  link : Link
  after : List Link
  whole : links ≡ before ++ link ∷ after
  loose : AreBelow (level_of link.operator + 1) before
  tight : AreBelow (level_of link.operator) after

looser : (m n : ℕ) (links : List Link) → m ≤ n → AreBelow m links → AreBelow n links
looser m n [] le below = tt
looser m n (l ∷ links) le below = let first = below.0 in (omega (arith, le, first), looser m n links le below.1)

all_below : (n : ℕ) (before after : List Link) (link : Link) → level_of link.operator < n → AreBelow (level_of link.operator + 1) before → AreBelow (level_of link.operator) after → AreBelow n (before ++ link ∷ after)
all_below n [] after link more loose tight = (more, looser (level_of link.operator) n after (omega (arith, more)) tight)
all_below n (b ∷ before) after link more loose tight = let first = loose.0 in (omega (arith, more, first), all_below n before after link more loose.1 tight)

with_first : (l : Link) (links : List Link) → HasSplit links → HasSplit (l ∷ links)
with_first l links s = elim (cases_Bool (leb (level_of l.operator) (level_of s.link.operator))) [
  | inl fits ↦
      let le = leb-true (level_of l.operator) (level_of s.link.operator) fits in
      record { before = l ∷ s.before; link = s.link; after = s.after; whole = ap (λ xs. l ∷ xs) s.whole; loose = (omega (arith, le), s.loose); tight = s.tight }
  | inr past ↦
      let more = leb-false (level_of l.operator) (level_of s.link.operator) past in
      let rest = all_below (level_of l.operator) s.before s.after s.link more s.loose s.tight in
      record { before = []; link = l; after = links; whole = refl; loose = tt; tight = subst (λ xs. AreBelow (level_of l.operator) xs) (sym s.whole) rest }
]

split_of : (l : Link) (links : List Link) → HasSplit (l ∷ links)
split_of l [] = record { before = []; link = l; after = []; whole = refl; loose = tt; tight = tt }
split_of l (m ∷ links) = with_first l (m ∷ links) (split_of m links)

none_left : {n : ℕ} → suc n ≤ 0 → ⊥
none_left le = omega (arith, le)

both_shorter : (links before after : List Link) (link : Link) (fuel : ℕ) → links ≡ before ++ link ∷ after → length links ≤ suc fuel → (length before ≤ fuel) × (length after ≤ fuel)
both_shorter links before after link fuel whole le =
    let count : length links ≡ length before + suc (length after) = ap length whole ∙ length-append before (link ∷ after) in
    (omega (arith, count, le), omega (arith, count, le))

pub ordered : Splits → (fuel : ℕ) (first : Operand) (links : List Link) → length links ≤ fuel → IsOrderedTree first links (tree_of first links)
ordered splits fuel first [] le = alone first
ordered splits zero first (l ∷ links) le = absurd (none_left le)
ordered splits (suc fuel) first (l ∷ links) le =
    let s = split_of l links in
    let shorter = both_shorter (l ∷ links) s.before s.after s.link fuel s.whole le in
    let tree = split first s.before s.after s.link (tree_of first s.before) (tree_of s.link.operand s.after) s.loose s.tight (ordered splits fuel first s.before shorter.0) (ordered splits fuel s.link.operand s.after shorter.1) in
    subst (λ xs. IsOrderedTree first xs (tree_of first xs)) (sym s.whole)
    (subst (λ t. IsOrderedTree first (s.before ++ s.link ∷ s.after) t) (sym (splits first s.before s.after s.link s.loose s.tight)) tree)

pub at_most_itself : (n : ℕ) → n ≤ n
at_most_itself n = omega arith
