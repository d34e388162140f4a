-- The copies of a layout serve all stages, and none of them can be spared.
use Rattle.std.proofs.Common.{◌≡◌, ℕ, zero, suc, ◌+◌, ◌-◌, ◌<◌, ◌≤◌, max, min, List, [], ◌∷◌, refl, sym, ap, ◌∙◌, subst, arith, cond, true, false, Bool, Some}
use Rattle.std.specs.Prelude.{◌⊎◌, ◌&&◌, slice_get, nat_lt, nat_le}
use Rattle.std.proofs.Common.{inl, inr}
use Rattle.std.proofs.lemmas.Bool.{cases_lt}
use Rattle.std.proofs.lemmas.Bool.Decides.{nat_tests}
use Rattle.ir_tree.specs.declared.node.Operand.{Operand}
use Rattle.block_build.specs.Netlist.Layout.{StageReader, reads_operand, last_read, is_carried, count_copies, ServesAll}

lt_true : (a b : ℕ) → a < b → nat_lt a b ≡ true
lt_true a b h = grind (arith, nat_tests)

true_lt : (a b : ℕ) → nat_lt a b ≡ true → a < b
true_lt a b h = grind (arith, nat_tests)

le_true : (a b : ℕ) → a ≤ b → nat_le a b ≡ true
le_true a b h = grind (arith, nat_tests)

true_le : (a b : ℕ) → nat_le a b ≡ true → a ≤ b
true_le a b h = grind (arith, nat_tests)

both : (x y : Bool) → x ≡ true → y ≡ true → (x && y) ≡ true
both x y e f = rw (e, f)

left : (x y : Bool) → (x && y) ≡ true → x ≡ true
left true y e = refl
left false y e = e

right : (x y : Bool) → (x && y) ≡ true → y ≡ true
right true y e = e
right false y e = cc

carried_is : (stage : Operand → ℕ) (readers : List StageReader) (o : Operand) (j : ℕ) → stage o < j → j ≤ last_read readers o → is_carried stage readers o j ≡ true
carried_is stage readers o j l h = both _ _ (lt_true (stage o) j l) (le_true j (last_read readers o) h)

-- a reader is no later than the last one
max_if : (t : Bool) (a b : ℕ) → b ≤ cond t (max a b) b
max_if true a b = omega arith
max_if false a b = omega arith

read_by_last : (readers : List StageReader) (i : ℕ) (reader : StageReader) (o : Operand) → slice_get readers i ≡ Some reader → reads_operand o reader ≡ true → reader.stage ≤ last_read readers o
read_by_last [] i reader o e r = cc
read_by_last (x ∷ xs) zero reader o e r =
    let same : x ≡ reader = cc in
    subst (λ y. reader.stage ≤ cond (reads_operand o y) (max y.stage (last_read xs o)) (last_read xs o)) (sym same) (rw r (omega arith))
read_by_last (x ∷ xs) (suc i) reader o e r =
    let ih = read_by_last xs i reader o e r in
    let grows = max_if (reads_operand o x) x.stage (last_read xs o) in
    omega (arith, ih, grows)

pub the_layout_serves_all : (stage : Operand → ℕ) (readers : List StageReader) → ServesAll stage readers (is_carried stage readers)
the_layout_serves_all stage readers = record {
  read = λ i reader o e r l. carried_is stage readers o reader.stage l (read_by_last readers i reader o e r);
  passed_on = λ o j l c. carried_is stage readers o j l (let h = true_le (suc j) (last_read readers o) (right (nat_lt (stage o) (suc j)) (nat_le (suc j) (last_read readers o)) c) in omega (arith, h));
}

-- the last reader is one
record LastReader (readers : List StageReader) (o : Operand) : Type 0 where
  index : ℕ
  reader : StageReader
  here : slice_get readers index ≡ Some reader
  reads : reads_operand o reader ≡ true
  last : reader.stage ≡ last_read readers o

max_is : (a b : ℕ) → (max a b ≡ a) ⊎ (max a b ≡ b)
max_is a b = go (cases_lt a b)
  where
    go : (a < b) ⊎ (b ≤ a) → (max a b ≡ a) ⊎ (max a b ≡ b)
    go (inl l) = inr (omega arith)
    go (inr l) = inl (omega arith)

last_reader : (readers : List StageReader) (o : Operand) → 0 < last_read readers o → LastReader readers o
last_reader [] o l = absurd (omega (arith, l))
last_reader (x ∷ xs) o l = go (reads_operand o x) refl (λ h. last_reader xs o h)
  where
    later : LastReader xs o → last_read (x ∷ xs) o ≡ last_read xs o → LastReader (x ∷ xs) o
    later r e = record { index = suc r.index; reader = r.reader; here = r.here; reads = r.reads; last = r.last ∙ sym e }

    go : (t : Bool) → reads_operand o x ≡ t → (0 < last_read xs o → LastReader xs o) → LastReader (x ∷ xs) o
    go false f ih =
        let e : last_read (x ∷ xs) o ≡ last_read xs o = ap (λ t. cond t (max x.stage (last_read xs o)) (last_read xs o)) f in
        later (ih (omega (arith, l, e))) e
    go true f ih = either (max_is x.stage (last_read xs o))
      where
        is : last_read (x ∷ xs) o ≡ max x.stage (last_read xs o)
        is = ap (λ t. cond t (max x.stage (last_read xs o)) (last_read xs o)) f

        either : (max x.stage (last_read xs o) ≡ x.stage) ⊎ (max x.stage (last_read xs o) ≡ last_read xs o) → LastReader (x ∷ xs) o
        either (inl m) = record { index = 0; reader = x; here = refl; reads = f; last = sym m ∙ sym is }
        either (inr m) = later (ih (let e = is ∙ m in omega (arith, l, e))) (is ∙ m)

-- so whatever serves all has its copies
down : (stage : Operand → ℕ) (readers : List StageReader) (carried : Operand → ℕ → Bool) → ServesAll stage readers carried → (o : Operand) (n j k : ℕ) → j + n ≡ k → stage o < j → carried o k ≡ true → carried o j ≡ true
down stage readers carried serves o zero j k e l c = let same : k ≡ j = omega arith in subst (λ x. carried o x ≡ true) same c
down stage readers carried serves o (suc n) j k e l c =
    serves.passed_on o j l (down stage readers carried serves o n (suc j) k (omega arith) (omega arith) c)

pub the_layout_is_least : (stage : Operand → ℕ) (readers : List StageReader) (carried : Operand → ℕ → Bool) → ServesAll stage readers carried → (o : Operand) (j : ℕ)
    → is_carried stage readers o j ≡ true → carried o j ≡ true
the_layout_is_least stage readers carried serves o j c =
    let l = true_lt (stage o) j (left (nat_lt (stage o) j) (nat_le j (last_read readers o)) c) in
    let h = true_le j (last_read readers o) (right (nat_lt (stage o) j) (nat_le j (last_read readers o)) c) in
    let r = last_reader readers o (omega (arith, l, h)) in
    let at = r.last in
    down stage readers carried serves o (r.reader.stage - j) j r.reader.stage (omega (arith, h, at)) l
    (serves.read r.index r.reader o r.here r.reads (omega (arith, l, h, at)))

-- how many copies there are of a value
carried_not : (stage : Operand → ℕ) (readers : List StageReader) (o : Operand) (j : ℕ) → ((stage o < j → j ≤ last_read readers o → ⊥)) → is_carried stage readers o j ≡ false
carried_not stage readers o j h = go (nat_lt (stage o) j) (nat_le j (last_read readers o)) refl refl
  where
    go : (s t : Bool) → nat_lt (stage o) j ≡ s → nat_le j (last_read readers o) ≡ t → (s && t) ≡ false
    go true true e f = absurd (h (true_lt (stage o) j e) (true_le j (last_read readers o) f))
    go true false e f = refl
    go false t e f = refl

copies_below : (stage : Operand → ℕ) (readers : List StageReader) (o : Operand) (j : ℕ) → count_copies (is_carried stage readers) o (suc j) ≡ min j (last_read readers o) - stage o
copies_below stage readers o zero =
    let none = carried_not stage readers o 0 (λ l m. omega (arith, l)) in
    rw none (omega arith)
copies_below stage readers o (suc j) = go (cases_lt (stage o) (suc j)) (cases_lt (last_read readers o) (suc j)) (copies_below stage readers o j)
  where
    go : (stage o < suc j) ⊎ (suc j ≤ stage o) → (last_read readers o < suc j) ⊎ (suc j ≤ last_read readers o)
        → count_copies (is_carried stage readers) o (suc j) ≡ min j (last_read readers o) - stage o
        → count_copies (is_carried stage readers) o (suc (suc j)) ≡ min (suc j) (last_read readers o) - stage o
    go (inl a) (inr b) ih =
        let one = carried_is stage readers o (suc j) a b in
        ap (λ t. cond t (suc (count_copies (is_carried stage readers) o (suc j))) (count_copies (is_carried stage readers) o (suc j))) one ∙ (omega (arith, ih, a, b))
    go (inl a) (inl b) ih =
        let none = carried_not stage readers o (suc j) (λ l m. omega (arith, m, b)) in
        ap (λ t. cond t (suc (count_copies (is_carried stage readers) o (suc j))) (count_copies (is_carried stage readers) o (suc j))) none ∙ (omega (arith, ih, a, b))
    go (inr a) x ih =
        let none = carried_not stage readers o (suc j) (λ l m. omega (arith, l, a)) in
        ap (λ t. cond t (suc (count_copies (is_carried stage readers) o (suc j))) (count_copies (is_carried stage readers) o (suc j))) none ∙ (omega (arith, ih, a))

pub copies_are_counted : (stage : Operand → ℕ) (readers : List StageReader) (o : Operand) (stages : ℕ) → last_read readers o < stages → count_copies (is_carried stage readers) o stages ≡ last_read readers o - stage o
copies_are_counted stage readers o zero l = absurd (omega (arith, l))
copies_are_counted stage readers o (suc j) l =
    let most : min j (last_read readers o) ≡ last_read readers o = omega (arith, l) in
    copies_below stage readers o j ∙ ap (λ k. k - stage o) most
