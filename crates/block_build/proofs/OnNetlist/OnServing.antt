-- The copies of the layout are those that a proc's stages need, and operands have values of their types.
use Rattle.std.proofs.Common.{◌≡◌, ℕ, zero, suc, ◌+◌, ◌<◌, ◌≤◌, max, List, [], ◌∷◌, length, refl, sym, ap, ◌∙◌, subst, arith, cond, true, false, Bool, Option, Some, None}
use Rattle.std.specs.Prelude.{◌&&◌, ◌||◌, slice_get, nat_lt, nat_le, get_or}
use Rattle.std.specs.List.{AllByRecursion, list_any}
use Rattle.std.proofs.lemmas.Bool.Decides.{nat_tests}
use Rattle.std.proofs.lemmas.List.{get_or_past}
use Rattle.xb_value.specs.declared.value.Value.{Value}
use Rattle.xb_value.specs.Typing.{IsOfType}
use Rattle.ir_tree.specs.declared.ir_type.IrType.{IrType, Token}
use Rattle.ir_tree.specs.declared.node.Node.{Node}
use Rattle.ir_tree.specs.declared.node.Operand.{Operand}
use Rattle.ir_tree.specs.declared.node.Operand.TheVariants as operand
use Rattle.ir_tree.specs.declared.package.Proc.{Proc}
use Rattle.ir_tree.specs.Constants.{no_value}
use Rattle.ir_tree.specs.Types.{ty_of}
use Rattle.ir_tree.specs.Rules.Fitting.{type_or}
use Rattle.ir_tree.specs.Rules.Typed.Typed.{HaveTypes}
use Rattle.ir_tree.proofs.Lemmas.Rules.Typed.Scopes.{token_value}
use Rattle.block_build.specs.Netlist.Holding.{CarriesOn}
use Rattle.block_build.specs.Netlist.Layout.{StageReader, same_operand, reads_operand, last_read, is_carried, ServesAll, node_readers, proc_readers}
use Rattle.block_build.specs.Netlist.Nodes.{operands_read, IsEarlier, ReadEarlierNodes, HaveOperandTypes}
use Rattle.block_build.proofs.OnNetlist.OnLayout.{the_layout_serves_all}

-- ---- readers

reader_at : (stage : Operand → ℕ) (nodes : List Node) (i k : ℕ) (n : Node) → slice_get nodes k ≡ Some n → slice_get (node_readers stage i nodes) k ≡ Some (record { stage = stage (operand.Node (i + k)); operands = operands_read n })
reader_at stage [] i k n e = absurd (cc)
reader_at stage (x ∷ nodes) i zero n e =
    let same : x ≡ n = cc in
    let at : i ≡ i + 0 = omega arith in
    ap (λ y. Some (record { stage = stage (operand.Node i); operands = operands_read y })) same ∙ ap (λ j. Some (record { stage = stage (operand.Node j); operands = operands_read n })) at
reader_at stage (x ∷ nodes) i (suc k) n e =
    let at : suc i + k ≡ i + suc k = omega arith in
    reader_at stage nodes (suc i) k n e ∙ ap (λ j. Some (record { stage = stage (operand.Node j); operands = operands_read n })) at

itself : (o : Operand) → same_operand o o ≡ true
itself operand.State = refl
itself (operand.Node i) = grind (arith, nat_tests)

or_same : (x y : Bool) → y ≡ true → (x || y) ≡ true
or_same true y e = refl
or_same false y e = e

first_or : (x y : Bool) → x ≡ true → (x || y) ≡ true
first_or x y e = rw e

-- what is read of earlier stages has copies
read_there : (stage : Operand → ℕ) (carried : Operand → ℕ → Bool) (reader : StageReader) → ((o : Operand) → reads_operand o reader ≡ true → stage o < reader.stage → carried o reader.stage ≡ true)
    → (os : List Operand) → ((o : Operand) → list_any (same_operand o) os ≡ true → reads_operand o reader ≡ true) → AllByRecursion (λ o. stage o < reader.stage → carried o reader.stage ≡ true) os
read_there stage carried reader serves [] among = tt
read_there stage carried reader serves (o ∷ os) among = (
  serves o (among o (first_or (same_operand o o) (list_any (same_operand o) os) (itself o))),
  read_there stage carried reader serves os (λ x h. among x (or_same (same_operand x o) (list_any (same_operand x) os) h)),
)

-- what is read anywhere is real
same_is : (o x : Operand) → same_operand o x ≡ true → x ≡ o
same_is operand.State operand.State e = refl
same_is operand.State (operand.Node k) e = absurd (cc)
same_is (operand.Node i) operand.State e = absurd (cc)
same_is (operand.Node i) (operand.Node k) e = let h : k ≡ i = grind (arith, nat_tests) in ap operand.Node h

any_real : (o : Operand) (n : ℕ) (os : List Operand) → AllByRecursion (IsEarlier n) os → list_any (same_operand o) os ≡ true → IsEarlier n o
any_real o n [] h e = absurd (cc)
any_real o n (x ∷ os) h e = go (same_operand o x) refl e (any_real o n os h.1)
  where
    go : (t : Bool) → same_operand o x ≡ t → (t || list_any (same_operand o) os) ≡ true → (list_any (same_operand o) os ≡ true → IsEarlier n o) → IsEarlier n o
    go true s e ih = subst (IsEarlier n) (same_is o x s) h.0
    go false s e ih = ih e

earlier_grows : (k n : ℕ) (os : List Operand) → k ≤ n → AllByRecursion (IsEarlier k) os → AllByRecursion (IsEarlier n) os
earlier_grows k n [] l h = tt
earlier_grows k n (operand.State ∷ os) l h = (tt, earlier_grows k n os l h.1)
earlier_grows k n (operand.Node i ∷ os) l h = (omega (arith, l, h.0), earlier_grows k n os l h.1)

last_real : (stage : Operand → ℕ) (o : Operand) (n : ℕ) (nodes : List Node) (i : ℕ) → ((k : ℕ) (m : Node) → slice_get nodes k ≡ Some m → AllByRecursion (IsEarlier n) (operands_read m)) → 0 < last_read (node_readers stage i nodes) o → IsEarlier n o
last_real stage o n [] i h l = absurd (omega (arith, l))
last_real stage o n (x ∷ nodes) i h l = go (list_any (same_operand o) (operands_read x)) refl l (last_real stage o n nodes (suc i) (λ k m there. h (suc k) m there))
  where
    go : (t : Bool) → list_any (same_operand o) (operands_read x) ≡ t → 0 < cond t (max (stage (operand.Node i)) (last_read (node_readers stage (suc i) nodes) o)) (last_read (node_readers stage (suc i) nodes) o)
        → (0 < last_read (node_readers stage (suc i) nodes) o → IsEarlier n o) → IsEarlier n o
    go true e l ih = any_real o n (operands_read x) (h 0 x refl) e
    go false e l ih = ih l

within : (nodes : List Node) (k : ℕ) (n : Node) → slice_get nodes k ≡ Some n → k < length nodes
within [] k n e = absurd (cc)
within (x ∷ nodes) zero n e = omega arith
within (x ∷ nodes) (suc k) n e = omega (arith, within nodes k n e)

carried_parts : (a b : Bool) → (a && b) ≡ true → (a ≡ true) × (b ≡ true)
carried_parts true b h = (refl, h)
carried_parts false b h = absurd (cc)

pub the_layout_serves_procs : (proc : Proc) (last : ℕ) (stage : Operand → ℕ) → ReadEarlierNodes proc.nodes → IsEarlier (length proc.nodes) proc.next → CarriesOn proc last stage (is_carried stage (proc_readers stage proc last))
the_layout_serves_procs proc last stage earlier next =
    record {
      read =
          λ k n there.
          read_there stage (is_carried stage readers) (record { stage = stage (operand.Node k); operands = operands_read n })
          (λ o h l. serves.read (suc k) (record { stage = stage (operand.Node k); operands = operands_read n }) o
          (reader_at stage proc.nodes 0 k n there ∙ (let at : 0 + k ≡ k = omega arith in ap (λ j. Some (record { stage = stage (operand.Node j); operands = operands_read n })) at)) h l)
          (operands_read n) (λ o h. h);
      next = λ l. serves.read 0 (record { stage = last; operands = proc.next ∷ [] }) proc.next refl (first_or (same_operand proc.next proc.next) false (itself proc.next)) l;
      passed_on = serves.passed_on;
      real = real;
    }
  where
    readers : List StageReader
    readers = proc_readers stage proc last

    serves : ServesAll stage readers (is_carried stage readers)
    serves = the_layout_serves_all stage readers

    real : (o : Operand) (j : ℕ) → is_carried stage readers o j ≡ true → IsEarlier (length proc.nodes) o
    real o j h =
        let parts = carried_parts (nat_lt (stage o) j) (nat_le j (last_read readers o)) h in
        let early : stage o < j = grind (arith, nat_tests, parts.0) in
        let late : j ≤ last_read readers o = grind (arith, nat_tests, parts.1) in
        go (same_operand o proc.next) refl (omega (arith, early, late))
      where
        go : (t : Bool) → same_operand o proc.next ≡ t → 0 < cond (t || false) (max last (last_read (node_readers stage 0 proc.nodes) o)) (last_read (node_readers stage 0 proc.nodes) o) → IsEarlier (length proc.nodes) o
        go true e l = subst (IsEarlier (length proc.nodes)) (same_is o proc.next e) next
        go false e l =
            last_real stage o (length proc.nodes) proc.nodes 0
            (λ k m there. earlier_grows k (length proc.nodes) (operands_read m) (let w = within proc.nodes k m there in omega (arith, w)) (earlier k m there)) l

-- ---- types

past_end : (nodes : List Node) (k : ℕ) → slice_get nodes k ≡ None → length nodes ≤ k
past_end [] k e = omega arith
past_end (n ∷ ns) zero e = absurd (cc)
past_end (n ∷ ns) (suc k) e = omega (arith, past_end ns k e)

pub operands_have_types : (state : IrType) (nodes : List Node) (s : Value) (values : List Value) → IsOfType (ty_of state) s → HaveTypes nodes values → HaveOperandTypes state nodes s values
operands_have_types state nodes s values typed have operand.State = typed
operands_have_types state nodes s values typed have (operand.Node k) = by (slice_get nodes k) refl
  where
    by : (o : Option Node) → slice_get nodes k ≡ o → IsOfType (ty_of (type_or (Token []) (slice_get nodes k))) (get_or values k no_value)
    by None e =
        let count = have.count in
        let none : get_or values k no_value ≡ no_value = get_or_past values k no_value (omega (arith, count, past_end nodes k e)) in
        subst (λ x. IsOfType (ty_of (type_or (Token []) x)) (get_or values k no_value)) (sym e) (subst (IsOfType (ty_of (Token []))) (sym none) token_value.value)
    by (Some n) e = subst (λ x. IsOfType (ty_of (type_or (Token []) x)) (get_or values k no_value)) (sym e) (have.each k n e)
