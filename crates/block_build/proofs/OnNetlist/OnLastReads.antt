-- The last stages in which values are read.
use Rattle.std.proofs.Common.{◌≡◌, ℕ, zero, suc, ◌+◌, ◌-◌, ◌<◌, ◌≤◌, max, Bool, true, false, cond, eqb, nat_lt, List, [], ◌∷◌, ◌++◌, length, drop, get_or, set, replicate, Option, Some, None, refl, sym, ap, ap₂, ◌∙◌, subst, arith}
use Rattle.std.specs.Prelude.{◌||◌, ◌==◌, ◌≢◌}
use Rattle.std.specs.List.{list_any}
use Rattle.std.proofs.Math.Seq.{drop-cons}
use Rattle.std.proofs.lemmas.Bool.Decides.{nat_tests}
use Rattle.std.proofs.lemmas.List.{length-set, get_or-set_same, get_or-set_other, get_or-replicate, drop_all}
use Rattle.std.proofs.lemmas.List.Folds.{list_any-append}
use Rattle.ir_tree.specs.declared.node.Node.{Node}
use Rattle.ir_tree.specs.declared.node.Operand.{Operand}
use Rattle.ir_tree.specs.declared.node.Operand.TheVariants as operand
use Rattle.ir_tree.specs.declared.package.Proc.{Proc}
use Rattle.block_build.specs.declared.netlist.last_reads.LastReads.{LastReads}
use Rattle.block_build.specs.Netlist.LastReads.{stage_by, read_at, raised, ReadsNoted}
use Rattle.block_build.specs.Netlist.Layout.{same_operand, reads_operand, last_read, node_readers, proc_readers}
use Rattle.block_build.specs.Netlist.Nodes.{IsEarlier, operands_read}

-- ---- one operand

raised_count : (numbers : List ℕ) (index least : ℕ) → length (raised numbers index least) ≡ length numbers
raised_count numbers index least = go (nat_lt index (length numbers))
  where
    go : (t : Bool) → length (cond t (set numbers index (max (get_or numbers index 0) least)) numbers) ≡ length numbers
    go true = length-set numbers index (max (get_or numbers index 0) least)
    go false = refl

raised_at : (numbers : List ℕ) (index least k : ℕ) → k < length numbers → get_or (raised numbers index least) k 0 ≡ cond (k == index) (max (get_or numbers k 0) least) (get_or numbers k 0)
raised_at numbers index least k l = within (nat_lt index (length numbers)) refl
  where
    same : (t : Bool) → eqb k index ≡ t → index < length numbers → get_or (set numbers index (max (get_or numbers index 0) least)) k 0 ≡ cond t (max (get_or numbers k 0) least) (get_or numbers k 0)
    same true e m =
        let is : k ≡ index = grind (arith, nat_tests) in
        ap (λ j. get_or (set numbers index (max (get_or numbers index 0) least)) j 0) is ∙ get_or-set_same numbers index (max (get_or numbers index 0) least) 0 m ∙ ap (λ j. max (get_or numbers j 0) least) (sym is)
    same false e m =
        let other : k ≢ index = grind (arith, nat_tests) in
        get_or-set_other numbers index k (max (get_or numbers index 0) least) 0 other

    apart : eqb k index ≡ false → get_or numbers k 0 ≡ cond (eqb k index) (max (get_or numbers k 0) least) (get_or numbers k 0)
    apart e = ap (λ t. cond t (max (get_or numbers k 0) least) (get_or numbers k 0)) (sym e)

    within : (t : Bool) → nat_lt index (length numbers) ≡ t → get_or (cond t (set numbers index (max (get_or numbers index 0) least)) numbers) k 0 ≡ cond (k == index) (max (get_or numbers k 0) least) (get_or numbers k 0)
    within true e = let m : index < length numbers = grind (arith, nat_tests) in same (eqb k index) refl m
    within false e = let other : eqb k index ≡ false = grind (arith, nat_tests) in apart other

any_one : (t : Bool) → (t || false) ≡ t
any_one true = refl
any_one false = refl

pub state_noted : (reads : LastReads) (stage : ℕ) → ReadsNoted reads (record { state = max reads.state stage; nodes = reads.nodes }) stage (operand.State ∷ [])
state_noted reads stage = record { count = refl; read = λ o. at o }
  where
    at : (o : Operand) → IsEarlier (length reads.nodes.items) o → read_at (record { state = max reads.state stage; nodes = reads.nodes }) o ≡ cond (list_any (same_operand o) (operand.State ∷ [])) (max (read_at reads o) stage) (read_at reads o)
    at operand.State l = refl
    at (operand.Node k) l = refl

pub node_noted : (old new : LastReads) (stage k : ℕ) → new.state ≡ old.state → new.nodes.items ≡ raised old.nodes.items k stage → ReadsNoted old new stage (operand.Node k ∷ [])
node_noted old new stage k state nodes = record { count = ap length nodes ∙ raised_count old.nodes.items k stage; read = λ o. at o }
  where
    at : (o : Operand) → IsEarlier (length old.nodes.items) o → read_at new o ≡ cond (list_any (same_operand o) (operand.Node k ∷ [])) (max (read_at old o) stage) (read_at old o)
    at operand.State l = state
    at (operand.Node j) l =
        ap (λ xs. get_or xs j 0) nodes ∙ raised_at old.nodes.items k stage j l ∙ ap (λ t. cond t (max (get_or old.nodes.items j 0) stage) (get_or old.nodes.items j 0)) (sym (any_one (j == k)))

-- ---- several

pub nothing_noted : (reads : LastReads) (stage : ℕ) → ReadsNoted reads reads stage []
nothing_noted reads stage = record { count = refl; read = λ o l. refl }

pub noted_both : (a b c : LastReads) (stage : ℕ) (xs ys : List Operand) → ReadsNoted a b stage xs → ReadsNoted b c stage ys → ReadsNoted a c stage (xs ++ ys)
noted_both a b c stage xs ys p q = record {
  count = q.count ∙ p.count;
  read = λ o l.
      q.read o (earlier_as o l)
      ∙ ap (λ n. cond (list_any (same_operand o) ys) (max n stage) n) (p.read o l)
      ∙ joined (list_any (same_operand o) xs) (list_any (same_operand o) ys) (read_at a o)
      ∙ ap (λ t. cond t (max (read_at a o) stage) (read_at a o)) (sym (list_any-append (same_operand o) xs ys));
}
  where
    earlier_as : (o : Operand) → IsEarlier (length a.nodes.items) o → IsEarlier (length b.nodes.items) o
    earlier_as operand.State l = tt
    earlier_as (operand.Node k) l = let count = p.count in omega (arith, l, count)

    joined : (s t : Bool) (n : ℕ) → cond t (max (cond s (max n stage) n) stage) (cond s (max n stage) n) ≡ cond (s || t) (max n stage) n
    joined true true n = omega arith
    joined true false n = refl
    joined false true n = refl
    joined false false n = refl

-- what is noted so far, and what is left
pub record NotedLeft (a b : LastReads) (stage : ℕ) (rest whole : List Operand) : Type 0 where
  pub note : (c : LastReads) → ReadsNoted b c stage rest → ReadsNoted a c stage whole

pub noted_begun : (a : LastReads) (stage : ℕ) (whole : List Operand) → NotedLeft a a stage whole whole
noted_begun a stage whole = record { note = λ c p. p }

pub noted_more : (a b c : LastReads) (stage : ℕ) (operands : List Operand) (i : ℕ) (d : Operand) → i < length operands → NotedLeft a b stage (drop i operands) operands → ReadsNoted b c stage (get_or operands i d ∷ []) → NotedLeft a c stage (drop (i + 1) operands) operands
noted_more a b c stage operands i d l p q =
    let one : suc i ≡ i + 1 = omega arith in
    let left : drop i operands ≡ get_or operands i d ∷ drop (i + 1) operands = drop-cons operands i d l ∙ ap (λ n. get_or operands i d ∷ drop n operands) one in
    record { note = λ e r. p.note e (subst (ReadsNoted b e stage) (sym left) (noted_both b c e stage (get_or operands i d ∷ []) (drop (i + 1) operands) q r)) }

pub noted_all : (a b : LastReads) (stage : ℕ) (operands : List Operand) (i : ℕ) → length operands ≤ i → NotedLeft a b stage (drop i operands) operands → ReadsNoted a b stage operands
noted_all a b stage operands i l p = p.note b (subst (ReadsNoted b b stage) (sym (drop_all i operands l)) (nothing_noted b stage))

-- ---- all readers

pub record ReadsLeft (b : LastReads) (stages : List ℕ) (proc : Proc) (last i : ℕ) : Type 0 where
  pub count : length b.nodes.items ≡ length proc.nodes
  pub read : (o : Operand) → IsEarlier (length proc.nodes) o → max (read_at b o) (last_read (node_readers (stage_by stages) i (drop i proc.nodes)) o) ≡ last_read (proc_readers (stage_by stages) proc last) o

pub reads_begun : (a b : LastReads) (stages : List ℕ) (proc : Proc) (last : ℕ) → a.state ≡ 0 → a.nodes.items ≡ replicate (length proc.nodes) 0 → length a.nodes.items ≡ length proc.nodes → ReadsNoted a b last (proc.next ∷ []) → ReadsLeft b stages proc last 0
reads_begun a b stages proc last state nodes count p = record {
  count = p.count ∙ count;
  read = λ o l.
      let rest = last_read (node_readers (stage_by stages) 0 proc.nodes) o in
      ap (λ n. max n rest) (p.read o (earlier_as o l) ∙ ap (λ n. cond (list_any (same_operand o) (proc.next ∷ [])) (max n last) n) (none o l)) ∙ first (list_any (same_operand o) (proc.next ∷ [])) rest;
}
  where
    earlier_as : (o : Operand) → IsEarlier (length proc.nodes) o → IsEarlier (length a.nodes.items) o
    earlier_as operand.State l = tt
    earlier_as (operand.Node k) l = omega (arith, l, count)

    none : (o : Operand) → IsEarlier (length proc.nodes) o → read_at a o ≡ 0
    none operand.State l = state
    none (operand.Node k) l = ap (λ xs. get_or xs k 0) nodes ∙ get_or-replicate (length proc.nodes) k 0 0 l

    first : (t : Bool) (rest : ℕ) → max (cond t (max 0 last) 0) rest ≡ cond t (max last rest) rest
    first true rest = omega arith
    first false rest = omega arith

pub reads_more : (b c : LastReads) (stages : List ℕ) (proc : Proc) (last i stage : ℕ) (n : Node) → i < length proc.nodes → n ≡ get_or proc.nodes i n → stage ≡ get_or stages i 0 → ReadsLeft b stages proc last i → ReadsNoted b c stage (operands_read n) → ReadsLeft c stages proc last (i + 1)
reads_more b c stages proc last i stage n l n_is stage_is p q = record {
  count = q.count ∙ p.count;
  read = λ o m.
      let one : suc i ≡ i + 1 = omega arith in
      let rest = last_read (node_readers (stage_by stages) (i + 1) (drop (i + 1) proc.nodes)) o in
      let any = list_any (same_operand o) (operands_read n) in
      let left : node_readers (stage_by stages) i (drop i proc.nodes) ≡ record { stage = get_or stages i 0; operands = operands_read n } ∷ node_readers (stage_by stages) (i + 1) (drop (i + 1) proc.nodes) =
      ap (node_readers (stage_by stages) i) (drop-cons proc.nodes i n l ∙ ap (λ x. x ∷ drop (suc i) proc.nodes) (sym n_is)) ∙ ap (λ k. record { stage = get_or stages i 0; operands = operands_read n } ∷ node_readers (stage_by stages) k (drop k proc.nodes)) one in
      ap (λ k. max k rest) (q.read o (earlier_as o m))
      ∙ joined any (read_at b o) rest
      ∙ ap (λ s. max (read_at b o) (cond any (max s rest) rest)) stage_is
      ∙ ap (λ rs. max (read_at b o) (last_read rs o)) (sym left)
      ∙ p.read o m;
}
  where
    earlier_as : (o : Operand) → IsEarlier (length proc.nodes) o → IsEarlier (length b.nodes.items) o
    earlier_as operand.State m = tt
    earlier_as (operand.Node k) m = let count = p.count in omega (arith, m, count)

    joined : (t : Bool) (k rest : ℕ) → max (cond t (max k stage) k) rest ≡ max k (cond t (max stage rest) rest)
    joined true k rest = omega arith
    joined false k rest = refl

pub reads_done : (b : LastReads) (stages : List ℕ) (proc : Proc) (last i : ℕ) → length proc.nodes ≤ i → ReadsLeft b stages proc last i → (o : Operand) → IsEarlier (length proc.nodes) o → read_at b o ≡ last_read (proc_readers (stage_by stages) proc last) o
reads_done b stages proc last i l p o m =
    let none = drop_all i proc.nodes l in
    most (read_at b o) ∙ ap (λ xs. max (read_at b o) (last_read (node_readers (stage_by stages) i xs) o)) (sym none) ∙ p.read o m
  where
    most : (n : ℕ) → n ≡ max n 0
    most n = omega arith
