-- From the least stages to the answer: the number of stages, the interval, and causes.
use Rattle.std.proofs.Common.{◌≡◌, ℕ, zero, suc, ◌+◌, ◌<◌, ◌≤◌, ◌-◌, max, ◌*◌, Result, Ok, Err, IfErr, IsErrAnd, List, [], ◌∷◌, map, length, get_or, Bool, true, false, Option, Some, None, refl, sym, ap, subst, ◌∙◌, arith, ⊎_elim}
use Rattle.std.specs.Prelude.{nat_le, nat_lt, not, position, if◌then◌else◌}
use Rattle.std.specs.List.{prefix_len, position_or_len}
use Rattle.std.proofs.Common.{cond}
use Rattle.std.proofs.lemmas.Bool.{cases_lt, leb-true}
use Rattle.std.proofs.lemmas.Bool.Decides.{nat_tests}
use Rattle.std.proofs.lemmas.List.{get_or-map as get_or-map-in}
use Rattle.std.proofs.lemmas.List.Quantifiers.{position-Some}
use Rattle.ir_tree.specs.declared.node.Operand.{Operand}
use Rattle.ir_tree.specs.declared.node.Operand.TheVariants as operand
use Rattle.ir_tree.specs.declared.node.Node.{Node}
use Rattle.ir_tree.specs.declared.package.Proc.{Proc}
use Rattle.ir_tree.specs.NodeValues.{role_of}
use Rattle.pipe_schedule.specs.declared.slot.Slot.{Slot}
use Rattle.pipe_schedule.specs.declared.schedule.Demands.{Demands}
use Rattle.pipe_schedule.specs.declared.schedule.Schedule.{Schedule}
use Rattle.pipe_schedule.specs.declared.schedule.NoSchedule.{NoSchedule}
use Rattle.pipe_schedule.specs.declared.schedule.NoSchedule.TheVariants.{TooSlow, Stages, Interval, OutOfMemory}
use Rattle.pipe_schedule.specs.Timed.{TimedNode, TimedProc, timed_node, timed_nodes, timed_proc, is_receive}
use Rattle.pipe_schedule.specs.Legal.{stage_of, greatest, depth_of, last_receive, operand_stage, turn_stage, interval_of, IsLeastAt, IsLeastLegal}
use Rattle.pipe_schedule.specs.Answer.{IsSchedule, AreInTime, IsTooSlow, IsTooManyStages, IsTooRare, IsCause, NoneIsLegal, HasNone}
use Rattle.pipe_schedule.specs.Inner.Delays.{timed_within}
use Rattle.pipe_schedule.specs.Inner.Slots.{stages_of, slot_at, no_slot, receive_within, turn_within, AreUpTo, AreSourcesEarlier, AreSlotsInTime, IsFirstSlow}
use Rattle.pipe_schedule.proofs.Least.{stage_at, past, past_slots, least}
use Rattle.pipe_schedule.proofs.Order.{are_placed}

-- what is known of a proc of a verified package
pub record IsReady (p : Proc) : Type 0 where
  pub same : timed_within p ≡ timed_nodes p
  pub order : AreSourcesEarlier (timed_nodes p)

-- ---- lists of stages

pub greatest_over : (stages : List ℕ) (i : ℕ) → stage_of stages i ≤ greatest stages
greatest_over [] i = omega arith
greatest_over (k ∷ stages) zero = omega arith
greatest_over (k ∷ stages) (suc i) = let x = greatest_over stages i in omega arith

pub greatest_under : (stages : List ℕ) (m : ℕ) → ((i : ℕ) → stage_of stages i ≤ m) → greatest stages ≤ m
greatest_under [] m h = omega arith
greatest_under (k ∷ stages) m h = let x = greatest_under stages m (λ i. h (suc i)) in let y = h 0 in omega arith

last_mono : (nodes : List TimedNode) (a b : List ℕ) (f g : ℕ) → length a ≡ length nodes → length b ≡ length nodes → f ≤ g → ((i : ℕ) → stage_of a i ≤ stage_of b i) → last_receive f nodes a ≤ last_receive g nodes b
last_mono [] a b f g k l h e = h
last_mono (n ∷ nodes) [] b f g k l h e = absurd (omega arith)
last_mono (n ∷ nodes) (x ∷ a) [] f g k l h e = absurd (omega arith)
last_mono (n ∷ nodes) (x ∷ a) (y ∷ b) f g k l h e =
    last_mono nodes a b (if is_receive n.role then x else f) (if is_receive n.role then y else g) (omega arith) (omega arith) (by (is_receive n.role) x y f g (e 0) h) (λ i. e (suc i))
  where
    by : (r : Bool) (x y f g : ℕ) → x ≤ y → f ≤ g → (if r then x else f) ≤ (if r then y else g)
    by true x y f g h k = h
    by false x y f g h k = k

last_under : (nodes : List TimedNode) (stages : List ℕ) (f m : ℕ) → f ≤ m → greatest stages ≤ m → last_receive f nodes stages ≤ m
last_under [] stages f m h k = h
last_under (n ∷ nodes) [] f m h k = h
last_under (n ∷ nodes) (x ∷ stages) f m h k = last_under nodes stages (if is_receive n.role then x else f) m (by (is_receive n.role)) (omega arith)
  where
    by : (r : Bool) → (if r then x else f) ≤ m
    by true = omega arith
    by false = h

operand_mono : (a b : List ℕ) (o : Operand) → ((i : ℕ) → stage_of a i ≤ stage_of b i) → operand_stage a o ≤ operand_stage b o
operand_mono a b operand.State h = omega arith
operand_mono a b (operand.Node i) h = h i

operand_under : (stages : List ℕ) (o : Operand) → operand_stage stages o ≤ greatest stages
operand_under stages operand.State = omega arith
operand_under stages (operand.Node i) = greatest_over stages i

interval_mono : (p : TimedProc) (a b : List ℕ) → length a ≡ length p.nodes → length b ≡ length p.nodes → ((i : ℕ) → stage_of a i ≤ stage_of b i) → interval_of p a ≤ interval_of p b
interval_mono p a b k l h =
    let x = last_mono p.nodes a b 0 0 k l (omega arith) h in
    let y = operand_mono a b p.next h in
    omega arith

depth_mono : (a b : List ℕ) → ((i : ℕ) → stage_of a i ≤ stage_of b i) → depth_of a ≤ depth_of b
depth_mono a b h = let x = greatest_under a (greatest b) (λ i. (let y = greatest_over b i in let z = h i in omega arith)) in omega arith

pub turn_under : (p : TimedProc) (stages : List ℕ) → turn_stage p stages ≤ greatest stages
turn_under p stages =
    let x = last_under p.nodes stages 0 (greatest stages) (omega arith) (omega arith) in
    let y = operand_under stages p.next in
    omega arith

-- ---- what the code reads is what the schedule has

receive_same : (f : Node → TimedNode) → ((n : Node) → is_receive (f n).role ≡ is_receive (role_of n)) → (found : ℕ) (nodes : List Node) (stages : List ℕ) → receive_within found nodes stages ≡ last_receive found (map f nodes) stages
receive_same f h found [] stages = refl
receive_same f h found (n ∷ nodes) [] = refl
receive_same f h found (n ∷ nodes) (k ∷ stages) =
    ap (λ r. receive_within (if r then k else found) nodes stages) (sym (h n)) ∙ receive_same f h (if is_receive (f n).role then k else found) nodes stages

pub turn_same : (p : Proc) (stages : List ℕ) → turn_within p stages ≡ turn_stage (timed_proc p) stages
turn_same p stages = ap (λ x. max x (operand_stage stages p.next)) (receive_same (timed_node p.state p.nodes) (λ n. refl) 0 p.nodes stages)

-- ---- the least stages

pub least_stages : (p : Proc) (clock : ℕ) (slots : List Slot) → IsReady p → AreSlotsInTime (timed_within p) clock slots → IsLeastAt (timed_nodes p) clock (stages_of slots)
least_stages p clock slots r s =
    least (timed_nodes p) clock slots (are_placed (timed_nodes p) clock slots (subst (λ ns. AreSlotsInTime ns clock slots) r.same s) r.order)

pub all_in_time : (p : Proc) (clock : ℕ) (slots : List Slot) → IsReady p → AreSlotsInTime (timed_within p) clock slots → AreInTime (timed_nodes p) clock
all_in_time p clock slots r s i =
    let t = subst (λ ns. AreSlotsInTime ns clock slots) r.same s in
    ⊎_elim (t.in_time i) (λ h. (let e = ap (λ (n : TimedNode). n.delay) (past (timed_nodes p) i h) in omega arith)) (cases_lt i (length (timed_nodes p)))

-- ---- no node is late

not_late : (a b : ℕ) → nat_le a b ≡ false → b < a
not_late a b h = grind (arith, nat_tests)

past_end : (a b : ℕ) → nat_lt a b ≡ false → b ≤ a
past_end a b h = grind (arith, nat_tests)

not_true : (b : Bool) → not b ≡ true → b ≡ false
not_true true h = absurd (cc)
not_true false h = refl

all_pass : (q : Slot → Bool) (slots : List Slot) → length slots ≤ prefix_len q slots → (i : ℕ) (d : Slot) → i < length slots → q (get_or slots i d) ≡ true
all_pass q [] h i d l = absurd (omega arith)
all_pass q (s ∷ slots) h i d l = by (q s) refl h i l (λ k j m. all_pass q slots k j d m)
  where
    by : (b : Bool) → q s ≡ b → suc (length slots) ≤ cond b (1 + prefix_len q slots) 0 → (i : ℕ) → i < suc (length slots) → (length slots ≤ prefix_len q slots → (j : ℕ) → j < length slots → q (get_or slots j d) ≡ true) → q (get_or (s ∷ slots) i d) ≡ true
    by false e h i l k = absurd (omega arith)
    by true e h zero l k = e
    by true e h (suc i) l k = k (omega arith) i (omega arith)

none_late : (stages : ℕ) (slots : List Slot) → position (λ (s : Slot). nat_le stages s.stage) slots ≡ None → (i : ℕ) → i < length slots → (slot_at slots i).stage < stages
none_late stages slots e i h = not_late stages (slot_at slots i).stage (not_true (nat_le stages (slot_at slots i).stage) (all_pass (λ (s : Slot). not (nat_le stages s.stage)) slots (by (nat_lt (position_or_len (λ (s : Slot). nat_le stages s.stage) slots) (length slots)) refl e) i no_slot h))
  where
    by : (b : Bool) → nat_lt (position_or_len (λ (s : Slot). nat_le stages s.stage) slots) (length slots) ≡ b → cond b (Some (position_or_len (λ (s : Slot). nat_le stages s.stage) slots)) None ≡ None → length slots ≤ position_or_len (λ (s : Slot). nat_le stages s.stage) slots
    by true f g = absurd (cc)
    by false f g = past_end (position_or_len (λ (s : Slot). nat_le stages s.stage) slots) (length slots) f

pub few_stages : (stages : ℕ) (slots : List Slot) → 1 ≤ stages → position (λ (s : Slot). nat_le stages s.stage) slots ≡ None → depth_of (stages_of slots) ≤ stages
few_stages stages slots l e = let x = greatest_under (stages_of slots) (stages - 1) each in omega arith
  where
    each : (i : ℕ) → stage_of (stages_of slots) i ≤ stages - 1
    each i =
        let a = stage_at slots i in
        ⊎_elim
        (λ h. let x = none_late stages slots e i h in omega arith)
        (λ h. let x : (slot_at slots i).stage ≡ 0 = ap (λ (s : Slot). s.stage) (past_slots slots i h) in omega arith)
        (cases_lt i (length slots))

-- ---- answers

pub too_slow_none : (p : TimedProc) (demands : Demands) (node delay : ℕ) → IsTooSlow p.nodes demands.clock node delay → NoneIsLegal p demands
too_slow_none p demands node delay s stages l =
    let t = l.at.paths (stage_of stages node) (node ∷ []) s.there (refl, tt) in
    let e = s.exact in
    let m = s.slow in
    omega arith

pub too_deep_none : (p : TimedProc) (demands : Demands) (node need : ℕ) → IsTooManyStages p demands node need → NoneIsLegal p demands
too_deep_none p demands node need s stages l =
    let m = depth_mono s.stages stages (s.least.least stages l.at) in
    let e = s.exact in
    let a = s.more in
    let b = l.depth in
    omega arith

pub too_rare_none : (p : TimedProc) (demands : Demands) (need : ℕ) → IsTooRare p demands need → NoneIsLegal p demands
too_rare_none p demands need s stages l =
    let m = interval_mono p s.stages stages s.least.legal.count l.at.count (s.least.least stages l.at) in
    let e = s.exact in
    let a = s.more in
    let b = l.interval in
    omega arith

pub causes_leave_none : (p : TimedProc) (demands : Demands) (e : NoSchedule) → IsCause p demands e → HasNone p demands e
causes_leave_none p demands (TooSlow node delay) c = too_slow_none p demands node delay c
causes_leave_none p demands (Stages node need) c = too_deep_none p demands node need c
causes_leave_none p demands (Interval need) c = too_rare_none p demands need c
causes_leave_none p demands OutOfMemory c = tt

pub slow_cause : (p : Proc) (demands : Demands) (e : NoSchedule) → IsReady p → IsFirstSlow (timed_within p) demands.clock e → IsCause (timed_proc p) demands e
slow_cause p demands (TooSlow node delay) r c = subst (λ ns. IsTooSlow ns demands.clock node delay) r.same c
slow_cause p demands (Stages node need) r c = absurd c
slow_cause p demands (Interval need) r c = absurd c
slow_cause p demands OutOfMemory r c = tt

pub late_cause : (p : Proc) (demands : Demands) (slots : List Slot) (node need : ℕ) → IsReady p → AreSlotsInTime (timed_within p) demands.clock slots
    → position (λ (s : Slot). nat_le demands.stages s.stage) slots ≡ Some node → need ≡ greatest (stages_of slots) + 1 → IsTooManyStages (timed_proc p) demands node need
late_cause p demands slots node need r s e n =
    let found = position-Some (λ (s : Slot). nat_le demands.stages s.stage) slots node no_slot e in
    let late = leb-true demands.stages (slot_at slots node).stage found.1 in
    let at = stage_at slots node in
    let over = greatest_over (stages_of slots) node in
    let count = s.count in
    record {
      in_time = all_in_time p demands.clock slots r s;
      stages = stages_of slots;
      least = least_stages p demands.clock slots r s;
      exact = omega arith;
      more = omega arith;
      there = let k = found.0 in let same = ap (λ (ns : List TimedNode). length ns) r.same in omega arith;
      late = omega arith;
      first = λ i h. (let f = not_late demands.stages (slot_at slots i).stage (found.2 i h) in let a = stage_at slots i in omega arith);
    }

pub rare_cause : (p : Proc) (demands : Demands) (slots : List Slot) (turn need : ℕ) → IsReady p → AreSlotsInTime (timed_within p) demands.clock slots → 1 ≤ demands.stages
    → position (λ (s : Slot). nat_le demands.stages s.stage) slots ≡ None → turn ≡ turn_within p (stages_of slots) → demands.interval ≤ turn → need ≡ turn + 1 → IsTooRare (timed_proc p) demands need
rare_cause p demands slots turn need r s l e t m n =
    let same = turn_same p (stages_of slots) in
    record {
      in_time = all_in_time p demands.clock slots r s;
      stages = stages_of slots;
      least = least_stages p demands.clock slots r s;
      fits = few_stages demands.stages slots l e;
      exact = omega arith;
      more = omega arith;
    }

pub schedule_is : (p : Proc) (demands : Demands) (slots : List Slot) (turn : ℕ) (s : Schedule) → IsReady p → AreSlotsInTime (timed_within p) demands.clock slots → 1 ≤ demands.stages
    → position (λ (s : Slot). nat_le demands.stages s.stage) slots ≡ None → turn ≡ turn_within p (stages_of slots) → turn < demands.interval
    → s.stage ≡ stages_of slots → s.stages ≡ greatest (stages_of slots) + 1 → s.interval ≡ turn + 1 → IsSchedule (timed_proc p) demands s
schedule_is p demands slots turn s r a l e t m x y z =
    let same = turn_same p (stages_of slots) in
    let best = least_stages p demands.clock slots r a in
    let few = few_stages demands.stages slots l e in
    let i : interval_of (timed_proc p) (stages_of slots) ≡ s.interval = omega arith in
    let ok : IsLeastLegal (timed_proc p) demands (stages_of slots) = record {
      legal = record { at = best.legal; depth = few; interval = omega arith };
      least = λ other o. best.least other o.at;
    } in
    record {
      least = subst (IsLeastLegal (timed_proc p) demands) (sym x) ok;
      stages = subst (λ ks. s.stages ≡ depth_of ks) (sym x) (omega arith);
      interval = subst (λ ks. s.interval ≡ interval_of (timed_proc p) ks) (sym x) (sym i);
    }

-- ---- bounds

pub low_greatest : (nodes : List TimedNode) (clock : ℕ) (slots : List Slot) → AreSlotsInTime nodes clock slots → greatest (stages_of slots) ≤ 2 * length slots
low_greatest nodes clock slots s = greatest_under (stages_of slots) (2 * length slots) each
  where
    each : (i : ℕ) → stage_of (stages_of slots) i ≤ 2 * length slots
    each i =
        let a = stage_at slots i in
        let k = s.count in
        ⊎_elim
        (λ h. let x = s.up_to i no_slot h in omega arith)
        (λ h. let x : (slot_at slots i).stage ≡ 0 = ap (λ (s : Slot). s.stage) (past_slots slots i h) in omega arith)
        (cases_lt i (length slots))

pub up_to_greatest : (slots : List Slot) (m : ℕ) → greatest (stages_of slots) ≤ m → AreUpTo slots m
up_to_greatest slots m h k d l =
    let a = greatest_over (stages_of slots) k in
    let b : stage_of (stages_of slots) k ≡ (get_or slots k d).stage = get_or-map-in (λ (s : Slot). s.stage) slots k d 0 l in
    omega arith

-- ---- what `?` hands on

pub err_handed : {T E : Type 0} (r : Result T E) (e : E) (P : E → Type 0) → IsErrAnd r (λ x. x ≡ e) → P e → IfErr r P
err_handed (Ok x) e P is p = tt
err_handed (Err x) e P is p = subst P (sym is) p

pub is_none : {A : Type 0} (o : Option A) → ((x : A) → o ≡ Some x → ⊥) → o ≡ None
is_none None h = refl
is_none (Some x) h = absurd (h x refl)
