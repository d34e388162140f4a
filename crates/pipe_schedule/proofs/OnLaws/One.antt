-- One answer.
use Rattle.std.proofs.Common.{◌≡◌, ℕ, zero, suc, ◌<◌, ◌≤◌, List, [], ◌∷◌, length, Bool, true, false, refl, sym, ap, ◌∙◌, arith}
use Rattle.std.specs.Prelude.{if◌then◌else◌}
use Rattle.ir_tree.specs.declared.node.Operand.{Operand}
use Rattle.ir_tree.specs.declared.node.Operand.TheVariants as operand
use Rattle.pipe_schedule.specs.declared.schedule.Demands.{Demands}
use Rattle.pipe_schedule.specs.declared.schedule.Schedule.{Schedule}
use Rattle.pipe_schedule.specs.declared.schedule.NoSchedule.{NoSchedule}
use Rattle.pipe_schedule.specs.declared.schedule.NoSchedule.TheVariants.{TooSlow, Stages, Interval, OutOfMemory}
use Rattle.pipe_schedule.specs.Timed.{TimedNode, TimedProc, node_at, is_receive}
use Rattle.pipe_schedule.specs.Legal.{stage_of, depth_of, interval_of, greatest, last_receive, operand_stage, IsLegal, IsLeastAt, IsLeastLegal}
use Rattle.pipe_schedule.specs.Answer.{IsSchedule, IsTooSlow, IsTooManyStages, IsTooRare, IsCause, AreInTime}

same_stages : (a b : List ℕ) → length a ≡ length b → ((i : ℕ) → stage_of a i ≡ stage_of b i) → a ≡ b
same_stages [] [] h e = refl
same_stages [] (y ∷ b) h e = absurd (omega arith)
same_stages (x ∷ a) [] h e = absurd (omega arith)
same_stages (x ∷ a) (y ∷ b) h e = ap (λ k. k ∷ a) (e 0) ∙ ap (λ ks. y ∷ ks) (same_stages a b (omega arith) (λ i. e (suc i)))

least_one : (p : TimedProc) (demands : Demands) (a b : List ℕ) → IsLeastLegal p demands a → IsLeastLegal p demands b → a ≡ b
least_one p demands a b h k = same_stages a b (h.legal.at.count ∙ sym k.legal.at.count)
    (λ i. (let x = h.least b k.legal i in let y = k.least a h.legal i in omega arith))

least_at_one : (nodes : List TimedNode) (clock : ℕ) (a b : List ℕ) → IsLeastAt nodes clock a → IsLeastAt nodes clock b → a ≡ b
least_at_one nodes clock a b h k = same_stages a b (h.legal.count ∙ sym k.legal.count)
    (λ i. (let x = h.least b k.legal i in let y = k.least a h.legal i in omega arith))

pub one_schedule : (p : TimedProc) (demands : Demands) (s t : Schedule) → IsSchedule p demands s → IsSchedule p demands t → s ≡ t
one_schedule p demands s t h k =
    let stage = least_one p demands s.stage t.stage h.least k.least in
    let stages : s.stages ≡ t.stages = h.stages ∙ ap depth_of stage ∙ sym k.stages in
    let interval : s.interval ≡ t.interval = h.interval ∙ ap (interval_of p) stage ∙ sym k.interval in
    λ i. record { stage = stage i; stages = stages i; interval = interval i }

pub first_one : (a b : ℕ) → (a < b → ⊥) → (b < a → ⊥) → a ≡ b
first_one a b h k = omega arith

slow_one : (nodes : List TimedNode) (clock m d n e : ℕ) → IsTooSlow nodes clock m d → IsTooSlow nodes clock n e → (m ≡ n) × (d ≡ e)
slow_one nodes clock m d n e h k = (same, h.exact ∙ ap (λ i. (node_at nodes i).delay) same ∙ sym k.exact)
  where
    same : m ≡ n
    same = first_one m n
        (λ l. (let x = k.first m l in let y = h.exact in let z = h.slow in omega arith))
        (λ l. (let x = h.first n l in let y = k.exact in let z = k.slow in omega arith))

not_slow : (nodes : List TimedNode) (clock m d : ℕ) → IsTooSlow nodes clock m d → AreInTime nodes clock → ⊥
not_slow nodes clock m d h k = let x = k m in let y = h.exact in let z = h.slow in omega arith

many_one : (p : TimedProc) (demands : Demands) (m d n e : ℕ) → IsTooManyStages p demands m d → IsTooManyStages p demands n e → (m ≡ n) × (d ≡ e)
many_one p demands m d n e h k = (same, h.exact ∙ ap depth_of stages ∙ sym k.exact)
  where
    stages : h.stages ≡ k.stages
    stages = least_at_one p.nodes demands.clock h.stages k.stages h.least k.least

    at : (i : ℕ) → stage_of h.stages i ≡ stage_of k.stages i
    at i = ap (λ ks. stage_of ks i) stages

    same : m ≡ n
    same = first_one m n
        (λ l. (let x = k.first m l in let y = h.late in let z = at m in omega arith))
        (λ l. (let x = h.first n l in let y = k.late in let z = at n in omega arith))

many_rare : (p : TimedProc) (demands : Demands) (m d n : ℕ) → IsTooManyStages p demands m d → IsTooRare p demands n → ⊥
many_rare p demands m d n h k =
    let stages = ap depth_of (least_at_one p.nodes demands.clock h.stages k.stages h.least k.least) in
    let x = h.exact in
    let y = h.more in
    let z = k.fits in
    omega arith

rare_one : (p : TimedProc) (demands : Demands) (m n : ℕ) → IsTooRare p demands m → IsTooRare p demands n → m ≡ n
rare_one p demands m n h k = h.exact ∙ ap (interval_of p) (least_at_one p.nodes demands.clock h.stages k.stages h.least k.least) ∙ sym k.exact

pub one_cause : (p : TimedProc) (demands : Demands) (c d : NoSchedule) → IsCause p demands c → IsCause p demands d → (c ≡ OutOfMemory → ⊥) → (d ≡ OutOfMemory → ⊥) → c ≡ d
one_cause p demands (TooSlow m d) (TooSlow n e) h k x y = let r = slow_one p.nodes demands.clock m d n e h k in λ i. TooSlow (r.0 i) (r.1 i)
one_cause p demands (TooSlow m d) (Stages n e) h k x y = absurd (not_slow p.nodes demands.clock m d h k.in_time)
one_cause p demands (TooSlow m d) (Interval n) h k x y = absurd (not_slow p.nodes demands.clock m d h k.in_time)
one_cause p demands (Stages m d) (TooSlow n e) h k x y = absurd (not_slow p.nodes demands.clock n e k h.in_time)
one_cause p demands (Stages m d) (Stages n e) h k x y = let r = many_one p demands m d n e h k in λ i. Stages (r.0 i) (r.1 i)
one_cause p demands (Stages m d) (Interval n) h k x y = absurd (many_rare p demands m d n h k)
one_cause p demands (Interval m) (TooSlow n e) h k x y = absurd (not_slow p.nodes demands.clock n e k h.in_time)
one_cause p demands (Interval m) (Stages n e) h k x y = absurd (many_rare p demands n e m k h)
one_cause p demands (Interval m) (Interval n) h k x y = ap (λ z. Interval z) (rare_one p demands m n h k)
one_cause p demands OutOfMemory d h k x y = absurd (x refl)
one_cause p demands (TooSlow m d) OutOfMemory h k x y = absurd (y refl)
one_cause p demands (Stages m d) OutOfMemory h k x y = absurd (y refl)
one_cause p demands (Interval m) OutOfMemory h k x y = absurd (y refl)

-- ---- a schedule leaves no cause

slow_none : (p : TimedProc) (demands : Demands) (s : Schedule) (m d : ℕ) → IsSchedule p demands s → IsTooSlow p.nodes demands.clock m d → ⊥
slow_none p demands s m d h k =
    let t = h.least.legal.at.paths (stage_of s.stage m) (m ∷ []) k.there (refl, tt) in
    let e = k.exact in
    let z = k.slow in
    omega arith

least_below : (p : TimedProc) (demands : Demands) (a b : List ℕ) → IsLeastAt p.nodes demands.clock a → IsLegal p demands b → ((i : ℕ) → stage_of a i ≤ stage_of b i)
least_below p demands a b h k = h.least b k.at

greatest_over : (stages : List ℕ) (i : ℕ) → stage_of stages i ≤ greatest stages
greatest_over [] i = omega arith
greatest_over (k ∷ stages) zero = omega arith
greatest_over (k ∷ stages) (suc i) = let x = greatest_over stages i in omega arith

many_none : (p : TimedProc) (demands : Demands) (s : Schedule) (m d : ℕ) → IsSchedule p demands s → IsTooManyStages p demands m d → ⊥
many_none p demands s m d h k =
    let x = k.least.least s.stage h.least.legal.at m in
    let y = greatest_over s.stage m in
    let z = h.least.legal.depth in
    let w = k.late in
    omega arith

last_mono : (nodes : List TimedNode) (a b : List ℕ) (f g : ℕ) → length a ≡ length nodes → length b ≡ length nodes → f ≤ g → ((i : ℕ) → stage_of a i ≤ stage_of b i) → last_receive f nodes a ≤ last_receive g nodes b
last_mono [] a b f g k l h e = h
last_mono (n ∷ nodes) [] b f g k l h e = absurd (omega arith)
last_mono (n ∷ nodes) (x ∷ a) [] f g k l h e = absurd (omega arith)
last_mono (n ∷ nodes) (x ∷ a) (y ∷ b) f g k l h e =
    last_mono nodes a b (if is_receive n.role then x else f) (if is_receive n.role then y else g) (omega arith) (omega arith) (by (is_receive n.role) x y f g (e 0) h) (λ i. e (suc i))
  where
    by : (r : Bool) (x y f g : ℕ) → x ≤ y → f ≤ g → (if r then x else f) ≤ (if r then y else g)
    by true x y f g h k = h
    by false x y f g h k = k

operand_mono : (a b : List ℕ) (o : Operand) → ((i : ℕ) → stage_of a i ≤ stage_of b i) → operand_stage a o ≤ operand_stage b o
operand_mono a b operand.State h = omega arith
operand_mono a b (operand.Node i) h = h i

rare_none : (p : TimedProc) (demands : Demands) (s : Schedule) (n : ℕ) → IsSchedule p demands s → IsTooRare p demands n → ⊥
rare_none p demands s n h k =
    let below = least_below p demands k.stages s.stage k.least h.least.legal in
    let x = last_mono p.nodes k.stages s.stage 0 0 k.least.legal.count h.least.legal.at.count (omega arith) below in
    let y = operand_mono k.stages s.stage p.next below in
    let z = h.least.legal.interval in
    let e = k.exact in
    let w = k.more in
    omega arith

pub schedule_or_cause : (p : TimedProc) (demands : Demands) (s : Schedule) (c : NoSchedule) → IsSchedule p demands s → IsCause p demands c → c ≡ OutOfMemory
schedule_or_cause p demands s (TooSlow m d) h k = absurd (slow_none p demands s m d h k)
schedule_or_cause p demands s (Stages m d) h k = absurd (many_none p demands s m d h k)
schedule_or_cause p demands s (Interval n) h k = absurd (rare_none p demands s n h k)
schedule_or_cause p demands s OutOfMemory h k = refl
