-- What the machine comes to, and that each step keeps it.
use Rattle.std.proofs.Common.{◌≡◌, ◌==◌, ℕ, zero, suc, Bool, true, false, List, [], ◌∷◌, ◌++◌, Option, Some, None, take, drop, length, map, reverse, refl, sym, ap, ◌∙◌, arith, if◌then◌else◌}
use Rattle.std.specs.Prelude.{slice_get}
use Rattle.std.proofs.lemmas.List.{length-map, take_all}
use Rattle.xb_bits.specs.Word.{Word, word}
use Rattle.xb_bits.specs.Operations.{add}
use Rattle.xb_value.specs.declared.value.Value.{Value, Bits, Tuple, Array, out-Value}
use Rattle.dslx_meaning.specs.Lists.{and_then}
use Rattle.dslx_core.specs.CoreValues.{Bindings, Functions, CoreDen, CoreArmDen, core_value, core_step, arm_step, values_in, taken_apart, first_apart, chosen, is_one, word_of_value, select, arm_or, turns, one_turn}
use Rattle.dslx_core.specs.CoreValues as core
use Rattle.dslx_core.specs.declared.design.Function.{Function}
use Rattle.dslx_core.specs.declared.expr.CoreExpr.{CoreExpr, out-CoreExpr}
use Rattle.dslx_core.specs.declared.expr.CoreExpr.TheOpen.{CoreExpr-F}
use Rattle.dslx_core.specs.declared.expr.CoreExpr.TheFolds.{map-CoreExpr, fold_out-CoreExpr, fold_out-Arm}
use Rattle.dslx_core.specs.declared.expr.Shape.{Shape}
use Rattle.dslx_core.specs.declared.expr.Arm.{Arm, out-Arm, fold-Arm}
use Rattle.dslx_interp.specs.Eval.Inner.Operations.{top_of, below, top_word, put_on, operated}
use Rattle.dslx_interp.specs.Eval.Inner.Tasks.{PlainTask, ValueDen, EachValueDen, Operates, Binds, Chooses, Selects, Turns, Calls, Forgets, Returns}
use Rattle.dslx_interp.specs.Eval.Inner.Machine.{MachineState, todo_with, with_values, begun, entered, inside, tried_by, selected, turned_from, called, callee, chosen_of, off_top, stepped}
use Rattle.dslx_interp.proofs.OnEval.Calls.{calls_before, body_value, called_gives}
use Rattle.dslx_interp.proofs.OnEval.Prefixes.{Extends, shape_keeps, first_keeps, extends_on, prefix_left}
use Rattle.dslx_interp.proofs.OnEval.Options.{Answer, in_turn, one_goes, two_goes, three_goes, first_goes, each_goes, all_length}

abbrev pub core_arm_den : Arm → CoreArmDen
core_arm_den = fold-Arm CoreDen CoreArmDen core_step arm_step

abbrev layer_value : CoreExpr-F CoreExpr Arm → CoreDen
layer_value x = core_step (map-CoreExpr CoreExpr Arm CoreDen CoreArmDen core_value core_arm_den x)

opened : (e : CoreExpr) → core_value e ≡ layer_value (out-CoreExpr e)
opened e = fold_out-CoreExpr CoreDen CoreArmDen core_step arm_step e

abbrev plain_arm : Arm → CoreArmDen
plain_arm a = record { shapes = (out-Arm a).shapes; value = core_value (out-Arm a).value }

arm_opened : (a : Arm) → core_arm_den a ≡ plain_arm a
arm_opened a = fold_out-Arm CoreDen CoreArmDen core_step arm_step a

-- what comes of what is still to be done, over the values that were found and what is bound; and what is bound then
abbrev pub answer : List Function → List PlainTask → List Value → Bindings → ℕ → Option Answer
answer fs [] vs bound n = and_then (slice_get vs 0) (λ v. Some (v, bound))
answer fs (ValueDen e ∷ todo) vs bound n = and_then (core_value e (calls_before fs n) bound) (λ v. answer fs todo (v ∷ vs) bound n)
answer fs (EachValueDen es ∷ todo) vs bound n = and_then (values_in (map core_value es) (calls_before fs n) bound) (λ ws. answer fs todo (reverse ws ++ vs) bound n)
answer fs (Operates o ∷ todo) vs bound n = and_then (operated o vs) (λ ws. answer fs todo ws bound n)
answer fs (Binds shape e ∷ todo) vs bound n =
    and_then (top_of vs) (λ v. and_then (and_then (taken_apart shape v bound) (core_value e (calls_before fs n))) (λ w. answer fs todo (w ∷ below vs) bound n))
answer fs (Chooses a c ∷ todo) vs bound n =
    and_then (chosen (and_then (top_word vs) is_one) (core_value a (calls_before fs n) bound) (core_value c (calls_before fs n) bound)) (λ w. answer fs todo (w ∷ below vs) bound n)
answer fs (Selects arms ∷ todo) vs bound n =
    and_then (top_of vs) (λ v. and_then (select (map core_arm_den arms) v (calls_before fs n) bound) (λ w. answer fs todo (w ∷ below vs) bound n))
answer fs (Turns k i index acc e ∷ todo) vs bound n =
    and_then (top_of vs) (λ v. and_then (turns (one_turn index acc (core_value e) (calls_before fs n) bound) k i v) (λ w. answer fs todo (w ∷ below vs) bound n))
answer fs (Calls f k ∷ todo) vs bound n = and_then (calls_before fs n f (reverse (take k vs))) (λ w. answer fs todo (w ∷ drop k vs) bound n)
answer fs (Forgets k ∷ todo) vs bound n = answer fs todo vs (take k bound) n
answer fs (Returns others k ∷ todo) vs bound n = answer fs todo vs others k

abbrev pub answer_of : MachineState → Option Answer
answer_of run = answer run.functions run.todo run.values run.bound run.before

-- what comes behind a value
abbrev goes_on : MachineState → List Value → Option Answer
goes_on run vs = answer run.functions run.todo vs run.bound run.before

abbrev calls_in : MachineState → Functions
calls_in run = calls_before run.functions run.before

-- ---- expressions

several : (es : List CoreExpr) (run : MachineState) (ws : List Value) → values_in (map core_value es) (calls_in run) run.bound ≡ Some ws → length ws ≡ length es
several es run ws h =
    all_length (map (λ (m : CoreDen). m (calls_in run) run.bound) (map core_value es)) ws h
    ∙ (length-map (map core_value es) (λ (m : CoreDen). m (calls_in run) run.bound) ∙ length-map es core_value)

value_put : (o : Option Value) (run : MachineState) → and_then o (λ v. goes_on run (v ∷ run.values)) ≡ and_then (with_values run (put_on o run.values)) answer_of
value_put None run = refl
value_put (Some v) run = refl

planned : (x : CoreExpr-F CoreExpr Arm) (run : MachineState) → and_then (layer_value x (calls_in run) run.bound) (λ v. goes_on run (v ∷ run.values)) ≡ and_then (begun x run) answer_of
planned (CoreExpr-F.Literal v) run = refl
planned (CoreExpr-F.Slot k) run = value_put (slice_get run.bound k) run
planned (CoreExpr-F.Tuple es) run =
    each_goes (values_in (map core_value es) (calls_in run) run.bound) (length es) (λ vs. Some (Tuple vs)) run.values (goes_on run) (several es run)
planned (CoreExpr-F.Array es) run =
    each_goes (values_in (map core_value es) (calls_in run) run.bound) (length es) (λ vs. Some (Array vs)) run.values (goes_on run) (several es run)
planned (CoreExpr-F.Unary op e) run = one_goes (core_value e (calls_in run) run.bound) word_of_value _ run.values (goes_on run)
planned (CoreExpr-F.Binary op l r) run =
    two_goes (core_value l (calls_in run) run.bound) (core_value r (calls_in run) run.bound) word_of_value word_of_value (core.binary_words op) run.values (goes_on run)
planned (CoreExpr-F.Cast sign w e) run = one_goes (core_value e (calls_in run) run.bound) word_of_value _ run.values (goes_on run)
planned (CoreExpr-F.Slice e from w) run = one_goes (core_value e (calls_in run) run.bound) word_of_value _ run.values (goes_on run)
planned (CoreExpr-F.Part e i w) run =
    two_goes (core_value e (calls_in run) run.bound) (core_value i (calls_in run) run.bound) word_of_value word_of_value _ run.values (goes_on run)
planned (CoreExpr-F.Element e k) run =
    one_goes (core_value e (calls_in run) run.bound) (λ v. core.tuple_values_step (out-Value v)) _ run.values (goes_on run)
planned (CoreExpr-F.Index e i) run =
    two_goes (core_value e (calls_in run) run.bound) (core_value i (calls_in run) run.bound) (λ v. core.array_values_step (out-Value v)) word_of_value _ run.values (goes_on run)
planned (CoreExpr-F.Update e i v) run =
    three_goes (core_value e (calls_in run) run.bound) (core_value i (calls_in run) run.bound) (core_value v (calls_in run) run.bound)
    (λ v. core.array_values_step (out-Value v)) word_of_value _ run.values (goes_on run)
planned (CoreExpr-F.Bind e shape body) run = in_turn (core_value e (calls_in run) run.bound) _ _
planned (CoreExpr-F.Choose c a d) run = by (core_value c (calls_in run) run.bound)
  where
    by : (o : Option Value)
        → and_then (chosen (and_then (and_then o word_of_value) is_one) (core_value a (calls_in run) run.bound) (core_value d (calls_in run) run.bound)) (λ v. goes_on run (v ∷ run.values))
        ≡ and_then o (λ v. answer run.functions (Chooses a d ∷ run.todo) (v ∷ run.values) run.bound run.before)
    by None = refl
    by (Some v) = refl
planned (CoreExpr-F.Select e arms) run = in_turn (core_value e (calls_in run) run.bound) _ _
planned (CoreExpr-F.Loop k from index acc body start) run = in_turn (core_value start (calls_in run) run.bound) _ _
planned (CoreExpr-F.Call f es) run =
    each_goes (values_in (map core_value es) (calls_in run) run.bound) (length es) (calls_in run f) run.values (goes_on run) (several es run)

-- ---- where a value decides

-- an expression over more that is bound
inside_keeps : (e : CoreExpr) (run : MachineState) (o : Option Bindings) → ((more : Bindings) → o ≡ Some more → Extends run.bound more)
    → and_then (and_then o (core_value e (calls_in run))) (λ w. goes_on run (w ∷ run.values)) ≡ and_then (inside e run o) answer_of
inside_keeps e run None front = refl
inside_keeps e run (Some more) front =
    let back : take (length run.bound) more ≡ run.bound = prefix_left run.bound more (front more refl) in
    λ i. and_then (core_value e (calls_in run) more) (λ w. answer run.functions run.todo (w ∷ run.values) (sym back i) run.before)

same_keeps : (e : CoreExpr) (run : MachineState) → and_then (core_value e (calls_in run) run.bound) (λ w. goes_on run (w ∷ run.values)) ≡ answer_of (entered (length run.bound) e run)
same_keeps e run =
    let back : take (length run.bound) run.bound ≡ run.bound = take_all (length run.bound) run.bound (omega arith) in
    λ i. and_then (core_value e (calls_in run) run.bound) (λ w. answer run.functions run.todo (w ∷ run.values) (sym back i) run.before)

bind_keeps : (shape : Shape) (e : CoreExpr) (run : MachineState) (o : Option Value)
    → and_then o (λ v. and_then (and_then (taken_apart shape v run.bound) (core_value e (calls_in run))) (λ w. goes_on run (w ∷ below run.values)))
    ≡ and_then (and_then o (λ v. inside e (off_top run) (taken_apart shape v run.bound))) answer_of
bind_keeps shape e run None = refl
bind_keeps shape e run (Some v) = inside_keeps e (off_top run) (taken_apart shape v run.bound) (shape_keeps shape v run.bound)

choose_keeps : (a c : CoreExpr) (run : MachineState) (o : Option Bool)
    → and_then (chosen o (core_value a (calls_in run) run.bound) (core_value c (calls_in run) run.bound)) (λ w. goes_on run (w ∷ below run.values))
    ≡ and_then (and_then o (λ b. Some (todo_with (ValueDen (chosen_of a c b) ∷ []) (off_top run)))) answer_of
choose_keeps a c run None = refl
choose_keeps a c run (Some true) = refl
choose_keeps a c run (Some false) = refl

select_keeps : (arms : List Arm) (v : Value) (run : MachineState)
    → and_then (select (map core_arm_den arms) v (calls_in run) run.bound) (λ w. goes_on run (w ∷ run.values)) ≡ and_then (selected arms v run) answer_of
select_keeps [] v run = refl
select_keeps (a ∷ []) v run =
    ap (λ m. and_then (select (m ∷ []) v (calls_in run) run.bound) (λ w. goes_on run (w ∷ run.values))) (arm_opened a)
    ∙ by (first_apart (out-Arm a).shapes v run.bound) (first_keeps (out-Arm a).shapes v run.bound)
  where
    by : (o : Option Bindings) → ((more : Bindings) → o ≡ Some more → Extends run.bound more)
        → and_then (arm_or (calls_in run) (core_value (out-Arm a).value) o (core_value (out-Arm a).value (calls_in run) run.bound)) (λ w. goes_on run (w ∷ run.values))
        ≡ answer_of (tried_by o a [] v run)
    by None front = same_keeps (out-Arm a).value run
    by (Some more) front = inside_keeps (out-Arm a).value run (Some more) front
select_keeps (a ∷ c ∷ cs) v run =
    ap (λ m. and_then (select (m ∷ map core_arm_den (c ∷ cs)) v (calls_in run) run.bound) (λ w. goes_on run (w ∷ run.values))) (arm_opened a)
    ∙ by (first_apart (out-Arm a).shapes v run.bound) (first_keeps (out-Arm a).shapes v run.bound)
  where
    by : (o : Option Bindings) → ((more : Bindings) → o ≡ Some more → Extends run.bound more)
        → and_then (arm_or (calls_in run) (core_value (out-Arm a).value) o (select (map core_arm_den (c ∷ cs)) v (calls_in run) run.bound)) (λ w. goes_on run (w ∷ run.values))
        ≡ answer_of (tried_by o a (c ∷ cs) v run)
    by None front = refl
    by (Some more) front = inside_keeps (out-Arm a).value run (Some more) front

arms_keep : (arms : List Arm) (run : MachineState) (o : Option Value)
    → and_then o (λ v. and_then (select (map core_arm_den arms) v (calls_in run) run.bound) (λ w. goes_on run (w ∷ below run.values)))
    ≡ and_then (and_then o (λ v. selected arms v (off_top run))) answer_of
arms_keep arms run None = refl
arms_keep arms run (Some v) = select_keeps arms v (off_top run)

-- what both patterns of a loop bind
both_keep : (index acc : Shape) (i v : Value) (bound more : Bindings) → and_then (taken_apart index i bound) (λ m. taken_apart acc v m) ≡ Some more → Extends bound more
both_keep index acc i v bound more h = by (taken_apart index i bound) refl h
  where
    by : (o : Option Bindings) → taken_apart index i bound ≡ o → and_then o (λ m. taken_apart acc v m) ≡ Some more → Extends bound more
    by None e h = absurd (cc)
    by (Some mid) e h = extends_on bound mid more (shape_keeps index i bound mid e) (shape_keeps acc v mid more h)

turn_keeps : (k : ℕ) (i : Word) (index acc : Shape) (e : CoreExpr) (v : Value) (run : MachineState)
    → and_then (turns (one_turn index acc (core_value e) (calls_in run) run.bound) k i v) (λ w. goes_on run (w ∷ run.values)) ≡ and_then (turned_from k i index acc e v run) answer_of
turn_keeps zero i index acc e v run = refl
turn_keeps (suc k) i index acc e v run =
    let next = add i (word i.width 1) in
    let body = one_turn index acc (core_value e) (calls_in run) run.bound in
    let more : MachineState = todo_with (Turns k next index acc e ∷ []) run in
    in_turn (body (Bits i) v) (turns body k next) (λ w. goes_on run (w ∷ run.values))
    ∙ (ap (λ o. and_then o (λ w. and_then (turns body k next w) (λ u. goes_on run (u ∷ run.values)))) (sym (in_turn (taken_apart index (Bits i) run.bound) (λ m. taken_apart acc v m) (core_value e (calls_in run))))
    ∙ inside_keeps e more (and_then (taken_apart index (Bits i) run.bound) (λ m. taken_apart acc v m)) (both_keep index acc (Bits i) v run.bound))

turns_keep : (k : ℕ) (i : Word) (index acc : Shape) (e : CoreExpr) (run : MachineState) (o : Option Value)
    → and_then o (λ v. and_then (turns (one_turn index acc (core_value e) (calls_in run) run.bound) k i v) (λ w. goes_on run (w ∷ below run.values)))
    ≡ and_then (and_then o (λ v. turned_from k i index acc e v (off_top run))) answer_of
turns_keep k i index acc e run None = refl
turns_keep k i index acc e run (Some v) = turn_keeps k i index acc e v (off_top run)

call_keeps : (o : Option Function) (f : ℕ) (vs : List Value) (run : MachineState)
    → and_then (body_value run.functions o f vs) (λ w. goes_on run (w ∷ run.values)) ≡ and_then (called o f vs run) answer_of
call_keeps None f vs run = refl
call_keeps (Some g) f vs run = by (length vs == g.arity)
  where
    by : (b : Bool) → and_then (if b then core_value g.body (calls_before run.functions f) vs else None) (λ w. goes_on run (w ∷ run.values))
        ≡ and_then (if b then Some (record { functions = run.functions; todo = ValueDen g.body ∷ Returns run.bound run.before ∷ run.todo; values = run.values; bound = vs; before = f }) else None) answer_of
    by true = refl
    by false = refl

operation_keeps : (o : Option (List Value)) (run : MachineState) → and_then o (goes_on run) ≡ and_then (with_values run o) answer_of
operation_keeps None run = refl
operation_keeps (Some vs) run = refl

-- ---- each step

pub keeps : (d : PlainTask) (run : MachineState) → answer run.functions (d ∷ run.todo) run.values run.bound run.before ≡ and_then (stepped d run) answer_of
keeps (ValueDen e) run = ap (λ m. and_then (m (calls_in run) run.bound) (λ v. goes_on run (v ∷ run.values))) (opened e) ∙ planned (out-CoreExpr e) run
keeps (EachValueDen []) run = refl
keeps (EachValueDen (e ∷ es)) run =
    first_goes (core_value e (calls_in run) run.bound) (map (λ (m : CoreDen). m (calls_in run) run.bound) (map core_value es)) run.values (goes_on run)
keeps (Operates o) run = operation_keeps (operated o run.values) run
keeps (Binds shape e) run = bind_keeps shape e run (top_of run.values)
keeps (Chooses a c) run = choose_keeps a c run (and_then (top_word run.values) is_one)
keeps (Selects arms) run = arms_keep arms run (top_of run.values)
keeps (Turns k i index acc e) run = turns_keep k i index acc e run (top_of run.values)
keeps (Calls f k) run =
    ap (λ o. and_then o (λ w. goes_on run (w ∷ drop k run.values))) (called_gives run.functions run.before f (reverse (take k run.values)))
    ∙ call_keeps (callee run.functions run.before f) f (reverse (take k run.values)) (record run { values = drop k run.values })
keeps (Forgets k) run = refl
keeps (Returns others k) run = refl
