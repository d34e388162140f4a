-- What each step of the machine does.
use Rattle.std.specs.Prelude.{ℕ, zero, suc, List, [], ◌∷◌, ◌++◌, ◌==◌, nat_lt, take, drop, reverse, length, map, slice_get, Bool, true, false, Option, Some, None, if◌then◌else◌}
use Rattle.xb_bits.specs.Word.{Word, word}
use Rattle.xb_bits.specs.Operations.{add}
use Rattle.xb_value.specs.declared.value.Value.{Value, Bits}
use Rattle.dslx_meaning.specs.Lists.{and_then}
use Rattle.dslx_core.specs.CoreValues.{Bindings, is_one, taken_apart, first_apart}
use Rattle.dslx_core.specs.declared.design.Function.{Function}
use Rattle.dslx_core.specs.declared.expr.CoreExpr.{CoreExpr, out-CoreExpr}
use Rattle.dslx_core.specs.declared.expr.CoreExpr.TheOpen.{CoreExpr-F}
use Rattle.dslx_core.specs.declared.expr.Shape.{Shape}
use Rattle.dslx_core.specs.declared.expr.Arm.{Arm, out-Arm}
use Rattle.dslx_interp.specs.declared.eval.machine.Machine.{Machine}
use Rattle.dslx_interp.specs.declared.eval.operation.Operation.TheVariants as o
use Rattle.dslx_interp.specs.Eval.Inner.Operations.{top_of, below, top_word, put_on, operated}
use Rattle.dslx_interp.specs.Eval.Inner.Tasks.{PlainTask, ValueDen, EachValueDen, Operates, Binds, Chooses, Selects, Turns, Calls, Forgets, Returns, plain_task}

-- where the machine stands
pub record MachineState : Type 0 where
  pub functions : List Function
  pub todo : List PlainTask
  pub values : List Value
  pub bound : Bindings
  -- how many functions may be called
  pub before : ℕ

abbrev pub shown : Machine → MachineState
shown m = record { functions = m.functions.now; todo = map plain_task m.tasks; values = m.values; bound = m.bound.items; before = m.before }

-- with these things to be done first
abbrev pub todo_with : List PlainTask → MachineState → MachineState
todo_with more run = record run { todo = more ++ run.todo }

abbrev pub with_values : MachineState → Option (List Value) → Option MachineState
with_values run None = None
with_values run (Some vs) = Some (record run { values = vs })

abbrev pub put_in : Option Value → MachineState → Option MachineState
put_in v run = with_values run (put_on v run.values)

-- ---- what is to be done for an expression

abbrev pub begun : CoreExpr-F CoreExpr Arm → MachineState → Option MachineState
begun (CoreExpr-F.Literal v) run = put_in (Some v) run
begun (CoreExpr-F.Slot k) run = put_in (slice_get run.bound k) run
begun (CoreExpr-F.Tuple es) run = Some (todo_with (EachValueDen es ∷ Operates (o.Tuple (length es)) ∷ []) run)
begun (CoreExpr-F.Array es) run = Some (todo_with (EachValueDen es ∷ Operates (o.Array (length es)) ∷ []) run)
begun (CoreExpr-F.Unary op e) run = Some (todo_with (ValueDen e ∷ Operates (o.Unary op) ∷ []) run)
begun (CoreExpr-F.Binary op l r) run = Some (todo_with (ValueDen l ∷ ValueDen r ∷ Operates (o.Binary op) ∷ []) run)
begun (CoreExpr-F.Cast sign w e) run = Some (todo_with (ValueDen e ∷ Operates (o.Cast sign w) ∷ []) run)
begun (CoreExpr-F.Slice e from w) run = Some (todo_with (ValueDen e ∷ Operates (o.Slice from w) ∷ []) run)
begun (CoreExpr-F.Part e i w) run = Some (todo_with (ValueDen e ∷ ValueDen i ∷ Operates (o.Part w) ∷ []) run)
begun (CoreExpr-F.Element e k) run = Some (todo_with (ValueDen e ∷ Operates (o.Element k) ∷ []) run)
begun (CoreExpr-F.Index e i) run = Some (todo_with (ValueDen e ∷ ValueDen i ∷ Operates o.Index ∷ []) run)
begun (CoreExpr-F.Update e i v) run = Some (todo_with (ValueDen e ∷ ValueDen i ∷ ValueDen v ∷ Operates o.Update ∷ []) run)
begun (CoreExpr-F.Bind e shape body) run = Some (todo_with (ValueDen e ∷ Binds shape body ∷ []) run)
begun (CoreExpr-F.Choose c a d) run = Some (todo_with (ValueDen c ∷ Chooses a d ∷ []) run)
begun (CoreExpr-F.Select e arms) run = Some (todo_with (ValueDen e ∷ Selects arms ∷ []) run)
begun (CoreExpr-F.Loop n from index acc body start) run = Some (todo_with (ValueDen start ∷ Turns n from index acc body ∷ []) run)
begun (CoreExpr-F.Call f es) run = Some (todo_with (EachValueDen es ∷ Calls f (length es) ∷ []) run)

-- ---- where a value decides

-- an expression, behind which only so many are bound
abbrev pub entered : ℕ → CoreExpr → MachineState → MachineState
entered n e run = todo_with (ValueDen e ∷ Forgets n ∷ []) run

-- an expression over more that is bound
abbrev pub inside : CoreExpr → MachineState → Option Bindings → Option MachineState
inside e run None = None
inside e run (Some more) = Some (entered (length run.bound) e (record run { bound = more }))

abbrev pub selecting : List Arm → Value → MachineState → MachineState
selecting arms v run = record run { todo = Selects arms ∷ run.todo; values = v ∷ run.values }

-- an arm that fits or is the last one, else those behind it
abbrev pub tried_by : Option Bindings → Arm → List Arm → Value → MachineState → MachineState
tried_by (Some more) a rest v run = entered (length run.bound) (out-Arm a).value (record run { bound = more })
tried_by None a [] v run = entered (length run.bound) (out-Arm a).value run
tried_by None a (c ∷ cs) v run = selecting (c ∷ cs) v run

abbrev pub tried : Arm → List Arm → Value → MachineState → MachineState
tried a rest v run = tried_by (first_apart (out-Arm a).shapes v run.bound) a rest v run

abbrev pub selected : List Arm → Value → MachineState → Option MachineState
selected [] v run = None
selected (a ∷ rest) v run = Some (tried a rest v run)

-- a turn, behind which so many are left
abbrev pub turned : ℕ → Word → Shape → Shape → CoreExpr → Value → MachineState → Option MachineState
turned n i index acc e v run =
    inside e (todo_with (Turns n (add i (word i.width 1)) index acc e ∷ []) run)
    (and_then (taken_apart index (Bits i) run.bound) (λ more. taken_apart acc v more))

abbrev pub turned_from : ℕ → Word → Shape → Shape → CoreExpr → Value → MachineState → Option MachineState
turned_from zero i index acc e v run = Some (record run { values = v ∷ run.values })
turned_from (suc n) i index acc e v run = turned n i index acc e v run

-- the body of a function that is there and takes so many operands
abbrev pub called : Option Function → ℕ → List Value → MachineState → Option MachineState
called None f vs run = None
called (Some g) f vs run =
    if length vs == g.arity
    then Some (record { functions = run.functions; todo = ValueDen g.body ∷ Returns run.bound run.before ∷ run.todo; values = run.values; bound = vs; before = f })
    else None

-- the function of this number, if it may be called
abbrev pub callee : List Function → ℕ → ℕ → Option Function
callee fs before f = if nat_lt f before then slice_get fs f else None

abbrev pub chosen_of : CoreExpr → CoreExpr → Bool → CoreExpr
chosen_of a c true = a
chosen_of a c false = c

-- ---- one step

-- the top is taken off
abbrev pub off_top : MachineState → MachineState
off_top run = record run { values = below run.values }

abbrev pub stepped : PlainTask → MachineState → Option MachineState
stepped (ValueDen e) run = begun (out-CoreExpr e) run
stepped (EachValueDen []) run = Some run
stepped (EachValueDen (e ∷ es)) run = Some (todo_with (ValueDen e ∷ EachValueDen es ∷ []) run)
stepped (Operates o) run = with_values run (operated o run.values)
stepped (Binds shape e) run = and_then (top_of run.values) (λ v. inside e (off_top run) (taken_apart shape v run.bound))
stepped (Chooses a c) run = and_then (and_then (top_word run.values) is_one) (λ b. Some (todo_with (ValueDen (chosen_of a c b) ∷ []) (off_top run)))
stepped (Selects arms) run = and_then (top_of run.values) (λ v. selected arms v (off_top run))
stepped (Turns n i index acc e) run = and_then (top_of run.values) (λ v. turned_from n i index acc e v (off_top run))
stepped (Calls f n) run = called (callee run.functions run.before f) f (reverse (take n run.values)) (record run { values = drop n run.values })
stepped (Forgets n) run = Some (record run { bound = take n run.bound })
stepped (Returns bound before) run = Some (record run { bound = bound; before = before })
