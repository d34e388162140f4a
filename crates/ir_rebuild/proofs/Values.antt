-- The values of a walk over checked nodes are values that the nodes may have.
use Rattle.std.proofs.Common.{◌≡◌, ℕ, suc, ◌+◌, ◌<◌, List, [], ◌∷◌, ◌++◌, length, get_or, true, Some, refl, sym, ap, subst, ◌∙◌, arith, length-append}
use Rattle.std.specs.Prelude.{slice_get}
use Rattle.std.specs.List.{list_all}
use Rattle.std.proofs.lemmas.List.{append-nil, append_assoc, get_or_append_left}
use Rattle.xb_span.specs.Spans.{nowhere}
use Rattle.xb_bits.specs.Word.{Word}
use Rattle.xb_value.specs.declared.value.Value.{Value}
use Rattle.ir_tree.specs.declared.ir_type.IrType.{IrType}
use Rattle.ir_tree.specs.declared.node.Node.{Node}
use Rattle.ir_tree.specs.declared.node.Role.{Role}
use Rattle.ir_tree.specs.declared.node.Role.TheVariants as role
use Rattle.ir_tree.specs.declared.package.Channel.{Channel}
use Rattle.ir_tree.specs.Constants.{no_value}
use Rattle.ir_tree.specs.NodeValues.{role_of, Setting, is_on, pure_value, no_word, role_value, value_by}
use Rattle.ir_tree.specs.Rules.Fitting.{types_behind}
use Rattle.ir_tree.specs.Rules.Lines.{Seen, see, is_there, node_checks}
use Rattle.ir_tree.specs.Rules.Verified.{nodes_checks}
use Rattle.ir_tree.specs.Rules.Typed.Typed.{AreChannels}
use Rattle.ir_tree.proofs.Lemmas.Rules.Typed.Scopes.{IsOperand, IsTyped, AreTyped, none_typed, more_typed, operands_typed}
use Rattle.ir_tree.proofs.Lemmas.Rules.Typed.Nodes.{no_fault, node_typed}
use Rattle.ir_rebuild.specs.Operands.{operands_in}
use Rattle.ir_rebuild.specs.Built.{AreValues, is_plain_op}
use Rattle.ir_rebuild.proofs.Walking.{Walk, Words, word_at, step_by, step, walk, start}
use Rattle.ir_rebuild.proofs.Building.{at_place, IsLast, all_there, pure_more, last_value}
use Rattle.ir_rebuild.proofs.NodeChecks.{node_says, plain_role, AreChecked, quiet_parts}

-- each node has a value of its type, plain ones that of their operation, and its operands stand before
pub record Valued (nodes : List Node) (s : Value) (values : List Value) : Type 0 where
  pub typed : AreTyped nodes values
  pub plain : (j : ℕ) (n : Node) → slice_get nodes j ≡ Some n → is_plain_op n.op ≡ true → get_or values j no_value ≡ pure_value n s values
  pub there : (j : ℕ) (n : Node) → slice_get nodes j ≡ Some n → list_all (is_there j) (operands_in n) ≡ true

none_valued : (s : Value) → Valued [] s []
none_valued s = record { typed = none_typed; plain = λ j n e p. absurd (cc); there = λ j n e. absurd (cc) }

more_valued : (nodes : List Node) (s : Value) (values : List Value) (n : Node) (v : Value) → Valued nodes s values → IsTyped n v → (is_plain_op n.op ≡ true → v ≡ pure_value n s values) → list_all (is_there (length nodes)) (operands_in n) ≡ true → Valued (nodes ++ n ∷ []) s (values ++ v ∷ [])
more_valued nodes s values n v h typed value there = record {
  typed = more_typed nodes values n v h.typed typed;
  plain = λ j m e p.
      at_place (get_or (values ++ v ∷ []) j no_value ≡ pure_value m s (values ++ v ∷ [])) nodes n j m e
      (λ less here. before j m less here p)
      (λ l. last j m l p);
  there = λ j m e.
      at_place (list_all (is_there j) (operands_in m) ≡ true) nodes n j m e
      (λ less here. h.there j m here)
      (λ l. subst (λ i. list_all (is_there i) (operands_in m) ≡ true) (sym l.place) (subst (λ x. list_all (is_there (length nodes)) (operands_in x) ≡ true) l.item there));
}
  where
    before : (j : ℕ) (m : Node) → j < length nodes → slice_get nodes j ≡ Some m → is_plain_op m.op ≡ true → get_or (values ++ v ∷ []) j no_value ≡ pure_value m s (values ++ v ∷ [])
    before j m less here p =
        let same = h.typed.count in
        let within : j < length values = omega arith in
        get_or_append_left values (v ∷ []) no_value j within
        ∙ h.plain j m here p
        ∙ sym (pure_more s values (v ∷ []) j m (omega (arith, within)) (h.there j m here))

    last : (j : ℕ) (m : Node) → IsLast nodes n j m → is_plain_op m.op ≡ true → get_or (values ++ v ∷ []) j no_value ≡ pure_value m s (values ++ v ∷ [])
    last j m l p =
        let same = h.typed.count in
        let at : j ≡ length values = l.place ∙ sym same in
        last_value values v j at
        ∙ value (ap (λ (x : Node). is_plain_op x.op) l.item ∙ p)
        ∙ sym (pure_more s values (v ∷ []) (length nodes) n (omega arith) there)
        ∙ ap (λ x. pure_value x s (values ++ v ∷ [])) l.item

-- what a site's word is
role_word : Words → Walk → Value → Role → Word
role_word words w s role.Pure = no_word
role_word words w s (role.Receive predicate c) = word_at words w.site w.left (is_on s w.values predicate)
role_word words w s (role.Send predicate c) = no_word

own_setting : List Channel → Value → Word → Setting
own_setting channels s x = record { channels = channels; state = s; words = λ i. x }

step_values : (channels : List Channel) (s : Value) (words : Words) (w : Walk) (n : Node) (r : Role) → (step_by channels s words w n r).values ≡ w.values ++ role_value (own_setting channels s (role_word words w s r)) w.values 0 n r ∷ []
unfolding role_word own_setting
step_values channels s words w n role.Pure = refl
step_values channels s words w n (role.Receive predicate c) = refl
step_values channels s words w n (role.Send predicate c) = refl

walk_valued : (channels : List Channel) (state : IrType) (s : Value) (words : Words) (opened : IsOperand state s) (word_types : AreChannels channels) (nodes before : List Node) (w : Walk) (i : ℕ) (seen : Seen) → i ≡ length before → Valued before s w.values → AreChecked channels state before i seen nodes → Valued (before ++ nodes) s (walk channels s words w nodes).values
unfolding own_setting
walk_valued channels state s words opened word_types [] before w i seen e h k = subst (λ ns. Valued ns s w.values) (sym (append-nil before)) h
walk_valued channels state s words opened word_types (n ∷ ns) before w i seen e h k =
    let parts = quiet_parts (node_checks channels state before nowhere i seen n) (nodes_checks channels state [] (before ++ n ∷ []) (suc i) (see i n seen) ns) k in
    let free = no_fault channels state before nowhere i seen n parts.0 in
    let says = node_says channels state before i seen n parts.0 in
    let m = own_setting channels s (role_word words w s (role_of n)) in
    let v = value_by m w.values 0 n in
    let typed = node_typed m (types_behind state before) w.values 0 (operands_typed state s before w.values opened h.typed) word_types n free in
    let there : list_all (is_there (length before)) (operands_in n) ≡ true = subst (λ j. list_all (is_there j) (operands_in n) ≡ true) e (all_there i n says.operands says.attributes) in
    let one : Valued (before ++ n ∷ []) s (w.values ++ v ∷ []) =
    more_valued before s w.values n v h (record { value = typed; sound = free.limits.sound }) (λ p. ap (role_value m w.values 0 n) (plain_role n.op n.attributes p)) there in
    let next : Valued (before ++ n ∷ []) s (step channels s words w n).values = subst (Valued (before ++ n ∷ []) s) (sym (step_values channels s words w n (role_of n))) one in
    let place : suc i ≡ length (before ++ n ∷ []) = omega (arith, e, length-append before (n ∷ [])) in
    subst (λ xs. Valued xs s (walk channels s words w (n ∷ ns)).values) (append_assoc before (n ∷ []) ns)
    (walk_valued channels state s words opened word_types ns (before ++ n ∷ []) (step channels s words w n) (suc i) (see i n seen) place next parts.1)

pub walk_has_values : (channels : List Channel) (state : IrType) (s : Value) (words : Words) (got : List Word) → AreChannels channels → IsOperand state s → (nodes : List Node) (seen : Seen) → AreChecked channels state [] 0 seen nodes → AreValues state nodes s (walk channels s words (start got) nodes).values
walk_has_values channels state s words got word_types opened nodes seen k =
    let h = walk_valued channels state s words opened word_types nodes [] (start got) 0 seen refl (none_valued s) k in
    record {
      opened = opened.value;
      typed = λ j n e. (h.typed.each j n e).value;
      plain = h.plain;
    }

-- a walk has a value for each node
pub walk_count : (channels : List Channel) (s : Value) (words : Words) (w : Walk) (nodes : List Node) → length (walk channels s words w nodes).values ≡ length w.values + length nodes
walk_count channels s words w [] = omega arith
walk_count channels s words w (n ∷ ns) =
    let more = walk_count channels s words (step channels s words w n) ns in
    let one = step_count n (role_of n) in
    omega (arith, more, one)
  where
    step_count : (n : Node) (r : Role) → length (step_by channels s words w n r).values ≡ suc (length w.values)
    step_count n role.Pure = omega (arith, length-append w.values (pure_value n s w.values ∷ []))
    step_count n (role.Receive predicate c) = omega (arith, length-append {A = Value})
    step_count n (role.Send predicate c) = omega (arith, length-append w.values (no_value ∷ []))
