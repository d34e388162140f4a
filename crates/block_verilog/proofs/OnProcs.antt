-- The procs of a package, one after another: their registers, their wires, and what their registers hold next.
use Rattle.std.proofs.Common.{◌≡◌, ℕ, zero, suc, ◌+◌, ◌-◌, ◌<◌, ◌≤◌, List, [], ◌∷◌, ◌++◌, length, drop, get_or, map, min, refl, sym, ap, ap₂, ◌∙◌, subst, arith}
use Rattle.std.specs.Prelude.{slice_get, Option, Some, None}
use Rattle.std.proofs.lemmas.List.{append_assoc, append-nil, drop_all, length-append}
use Rattle.std.proofs.lemmas.Option.{slice_get-get_or}
use Rattle.ir_tree.specs.declared.package.Channel.{Channel}
use Rattle.ir_tree.specs.declared.package.Proc.{Proc}
use Rattle.vlog_tree.specs.declared.expression.Atom.{Atom}
use Rattle.vlog_tree.specs.Value.{Values}
use Rattle.block_build.specs.declared.netlist.fifos.ChannelView.{ChannelView}
use Rattle.block_build.specs.declared.netlist.registers.Register.{Register}
use Rattle.block_build.specs.declared.netlist.registers.RegisterList.{RegisterList}
use Rattle.block_build.specs.declared.netlist.wires.WireList.{WireList}
use Rattle.block_build.specs.Netlist.Added.{AddsWires}
use Rattle.block_build.specs.Netlist.Registers.{next_register, Lays}
use Rattle.block_verilog.specs.declared.signals.layout.Staging.{Staging}
use Rattle.pipe_schedule.specs.declared.schedule.Schedule.{Schedule}
use Rattle.block_verilog.specs.declared.pipelines.layout.ProcLayout.{ProcLayout}
use Rattle.block_verilog.specs.declared.pipelines.pipelines.ProcWires.{ProcWires}
use Rattle.block_verilog.specs.Pipelines.Nets.{ProcParts}
use Rattle.block_verilog.specs.Pipelines.Pipelines.{ScheduledProc, scheduled, IsLaidOut, StageNumbers, HasStages, ProcDriven, NextNumbers, NextsDriven, proc_registers, next_nets}
use Rattle.block_verilog.specs.Each.{EachFrom}
use Rattle.block_verilog.proofs.Lemmas.Each.{each_at, EachSoFar, each_more, longer, behind_there, one_there, wires_more}
use Rattle.block_verilog.proofs.OnMade.{map_there}
use Rattle.block_verilog.specs.Parts.{nexts_of}
use Rattle.block_verilog.specs.Procs.{by_schedule, AreLaidOut, laid_registers, MadeProc, IsMadeProc, IsMadeBy, AreMade, IsPartOf, GoesNext, ArePutNext}

pub scheduled_is : (channels : List Channel) (proc : Proc) (staging : Staging) (schedule : Schedule) → staging.stage.now ≡ schedule.stage → staging.stages ≡ schedule.stages → staging.last ≡ schedule.interval - 1 → scheduled channels proc staging ≡ by_schedule channels proc schedule
scheduled_is channels proc staging schedule e f g = λ i. record { channels = channels; proc = proc; stages = e i; depth = f i; last = g i }

-- ---- registers

nothing_more : (a : RegisterList) → Lays a a []
nothing_more a = record { first = refl; laid = sym (append-nil a.registers.items) }

lays_behind : (a b c : RegisterList) (xs ys : List Register) → Lays a b xs → Lays b c ys → Lays a c (xs ++ ys)
lays_behind a b c xs ys p q = record { first = q.first ∙ p.first; laid = q.laid ∙ ap (λ zs. zs ++ ys) p.laid ∙ append_assoc a.registers.items xs ys }

next_behind : (a b : RegisterList) (xs : List Register) → Lays a b xs → next_register b ≡ next_register a + length xs
next_behind a b xs p =
    ap (λ k. k + length b.registers.items) p.first ∙ ap (λ zs. a.first + length zs) p.laid ∙ ap (λ k. a.first + k) (length-append a.registers.items xs) ∙ here a.first (length a.registers.items) (length xs)
  where
    here : (i j k : ℕ) → i + (j + k) ≡ i + j + k
    here i j k = omega arith

-- what is laid so far, and what is left
pub record ProcsLeft (a b : RegisterList) (channels : List Channel) (procs : List Proc) (schedules : List Schedule) (i : ℕ) (layouts : List ProcLayout) : Type 0 where
  pub laid : (rest : List ProcLayout) → AreLaidOut channels (next_register b) (drop i procs) (drop i schedules) rest → AreLaidOut channels (next_register a) procs schedules (layouts ++ rest)
  pub lay : (c : RegisterList) (rest : List ProcLayout) → Lays b c (laid_registers channels (drop i procs) (drop i schedules) rest) → Lays a c (laid_registers channels procs schedules (layouts ++ rest))

pub procs_begun : (a : RegisterList) (channels : List Channel) (procs : List Proc) (schedules : List Schedule) (layouts : List ProcLayout) → layouts ≡ [] → ProcsLeft a a channels procs schedules 0 layouts
procs_begun a channels procs schedules layouts e = record {
  laid = λ rest h. subst (λ ls. AreLaidOut channels (next_register a) procs schedules (ls ++ rest)) (sym e) h;
  lay = λ c rest h. subst (λ ls. Lays a c (laid_registers channels procs schedules (ls ++ rest))) (sym e) h;
}

pub procs_more : (a b c : RegisterList) (channels : List Channel) (procs : List Proc) (schedules : List Schedule) (i : ℕ) (proc : Proc) (schedule : Schedule) (s : ScheduledProc) (layout : ProcLayout) (layouts more : List ProcLayout)
    → i < length procs → i < length schedules → proc ≡ get_or procs i proc → schedule ≡ get_or schedules i schedule → s ≡ by_schedule channels proc schedule → ProcsLeft a b channels procs schedules i layouts
    → IsLaidOut s (next_register b) layout → Lays b c (proc_registers s layout.reads) → more ≡ layouts ++ layout ∷ [] → ProcsLeft a c channels procs schedules (i + 1) more
procs_more a b c channels procs schedules i proc schedule s layout layouts more l m p_is s_is same p own q put =
    let by = by_schedule channels proc schedule in
    let laid = subst (λ x. IsLaidOut x (next_register b) layout) same own in
    let lays = subst (λ x. Lays b c (proc_registers x layout.reads)) same q in
    let ps = behind_there procs i proc l p_is in
    let ss = behind_there schedules i schedule m s_is in
    record {
      laid = λ rest h.
          let numbered = subst (λ k. AreLaidOut channels k (drop (i + 1) procs) (drop (i + 1) schedules) rest) (next_behind b c (proc_registers by layout.reads) lays) h in
          let whole = p.laid (layout ∷ rest) (subst (λ xs. AreLaidOut channels (next_register b) xs (drop i schedules) (layout ∷ rest)) (sym ps) (subst (λ ys. AreLaidOut channels (next_register b) (proc ∷ drop (i + 1) procs) ys (layout ∷ rest)) (sym ss) (laid, numbered))) in
          subst (AreLaidOut channels (next_register a) procs schedules) (sym (append_assoc layouts (layout ∷ []) rest) ∙ ap (λ ls. ls ++ rest) (sym put)) whole;
      lay = λ d rest h.
          let both = lays_behind b c d (proc_registers by layout.reads) (laid_registers channels (drop (i + 1) procs) (drop (i + 1) schedules) rest) lays h in
          let whole = p.lay d (layout ∷ rest) (subst (λ xs. Lays b d (laid_registers channels xs (drop i schedules) (layout ∷ rest))) (sym ps) (subst (λ ys. Lays b d (laid_registers channels (proc ∷ drop (i + 1) procs) ys (layout ∷ rest))) (sym ss) both)) in
          subst (λ ls. Lays a d (laid_registers channels procs schedules ls)) (sym (append_assoc layouts (layout ∷ []) rest) ∙ ap (λ ls. ls ++ rest) (sym put)) whole;
    }

-- where one of the lists has ended
none_laid : (channels : List Channel) (k : ℕ) (procs : List Proc) (schedules : List Schedule) (i : ℕ) → min (length procs) (length schedules) ≤ i → AreLaidOut channels k (drop i procs) (drop i schedules) []
none_laid channels k [] schedules i l = subst (λ ps. AreLaidOut channels k ps (drop i schedules) []) (sym (drop_all i [] (omega arith))) refl
none_laid channels k (p ∷ procs) [] i l = subst (λ ss. AreLaidOut channels k (drop i (p ∷ procs)) ss []) (sym (drop_all i [] (omega arith))) (ended (drop i (p ∷ procs)))
  where
    ended : (ps : List Proc) → AreLaidOut channels k ps [] []
    ended [] = refl
    ended (q ∷ ps) = refl
none_laid channels k (p ∷ procs) (s ∷ schedules) zero l = absurd (omega (arith, l))
none_laid channels k (p ∷ procs) (s ∷ schedules) (suc i) l = none_laid channels k procs schedules i (omega (arith, l))

none_registers : (channels : List Channel) (procs : List Proc) (schedules : List Schedule) → laid_registers channels procs schedules [] ≡ []
none_registers channels [] schedules = refl
none_registers channels (p ∷ procs) [] = refl
none_registers channels (p ∷ procs) (s ∷ schedules) = refl

pub procs_done : (a b : RegisterList) (channels : List Channel) (procs : List Proc) (schedules : List Schedule) (i : ℕ) (layouts : List ProcLayout) → min (length procs) (length schedules) ≤ i → ProcsLeft a b channels procs schedules i layouts
    → AreLaidOut channels (next_register a) procs schedules layouts × Lays a b (laid_registers channels procs schedules layouts)
procs_done a b channels procs schedules i layouts l p = (
  subst (AreLaidOut channels (next_register a) procs schedules) (append-nil layouts) (p.laid [] (none_laid channels (next_register b) procs schedules i l)),
  subst (λ ls. Lays a b (laid_registers channels procs schedules ls)) (append-nil layouts) (p.lay b [] (subst (Lays b b) (sym (none_registers channels (drop i procs) (drop i schedules))) (nothing_more b))),
)

-- ---- wires

map_behind : {A B : Type 0} (f : A → B) (xs : List A) (x : A) → map f (xs ++ x ∷ []) ≡ map f xs ++ f x ∷ []
map_behind f [] x = refl
map_behind f (y ∷ xs) x = ap (λ ys. f y ∷ ys) (map_behind f xs x)

there : {A : Type 0} (xs : List A) (k : ℕ) (x : A) → k < length xs → x ≡ get_or xs k x → slice_get xs k ≡ Some x
there xs k x lt e = slice_get-get_or xs k x lt ∙ ap Some (sym e)

pub record MadeSoFar (a b : WireList) (run : Atom) (channels : List Channel) (procs : List Proc) (schedules : List Schedule) (layouts : List ProcLayout) (views : List ChannelView) (i : ℕ) (made : List ProcWires) : Type 0 where
  pub each : List MadeProc
  pub are : map (λ (one : MadeProc). one.made) each ≡ made
  pub stages : EachSoFar (IsMadeProc channels procs schedules layouts) i each
  pub wired : AddsWires a b (λ v. EachFrom (IsMadeBy v run channels procs schedules layouts views) 0 each)

pub made_begun : (a : WireList) (run : Atom) (channels : List Channel) (procs : List Proc) (schedules : List Schedule) (layouts : List ProcLayout) (views : List ChannelView) (made : List ProcWires) → made ≡ [] → MadeSoFar a a run channels procs schedules layouts views 0 made
made_begun a run channels procs schedules layouts views made e = record { each = []; are = sym e; stages = record { count = refl; each = tt }; wired = λ v h. (h, tt) }

pub made_more : (a b c : WireList) (run : Atom) (channels : List Channel) (procs : List Proc) (schedules : List Schedule) (layouts : List ProcLayout) (views : List ChannelView) (i : ℕ) (proc : Proc) (schedule : Schedule) (s : ScheduledProc) (layout : ProcLayout) (one : ProcWires)
    (made more : List ProcWires) → i < length procs → i < length schedules → i < length layouts → proc ≡ get_or procs i proc → schedule ≡ get_or schedules i schedule → layout ≡ get_or layouts i layout → s ≡ by_schedule channels proc schedule
    → MadeSoFar a b run channels procs schedules layouts views i made → more ≡ made ++ one ∷ [] → (at : StageNumbers) × HasStages s layout one at × AddsWires b c (λ v. ProcDriven v run s layout views one at)
    → MadeSoFar a c run channels procs schedules layouts views (i + 1) more
made_more a b c run channels procs schedules layouts views i proc schedule s layout one made more l m n p_is s_is l_is same p put got =
    let pair : MadeProc = record { made = one; at = got.0 } in
    let P = IsMadeProc channels procs schedules layouts in
    let stages : P i pair = λ q t y q_at t_at y_at.
    subst (λ x. HasStages (by_schedule channels x t) y one got.0) (one_there procs i proc l (there procs i proc l p_is) q q_at)
    (subst (λ x. HasStages (by_schedule channels proc x) y one got.0) (one_there schedules i schedule m (there schedules i schedule m s_is) t t_at)
    (subst (λ x. HasStages (by_schedule channels proc schedule) x one got.0) (one_there layouts i layout n (there layouts i layout n l_is) y y_at) (subst (λ x. HasStages x layout one got.0) same got.1))) in
    let wired : AddsWires b c (λ v. IsMadeBy v run channels procs schedules layouts views i pair) = λ v h. (
      (got.2 v h).0,
      λ q t y q_at t_at y_at.
          subst (λ x. ProcDriven v run (by_schedule channels x t) y views one got.0) (one_there procs i proc l (there procs i proc l p_is) q q_at)
          (subst (λ x. ProcDriven v run (by_schedule channels proc x) y views one got.0) (one_there schedules i schedule m (there schedules i schedule m s_is) t t_at)
          (subst (λ x. ProcDriven v run (by_schedule channels proc schedule) x views one got.0) (one_there layouts i layout n (there layouts i layout n l_is) y y_at) (subst (λ x. ProcDriven v run x layout views one got.0) same (got.2 v h).1))),
    ) in
    record {
      each = p.each ++ pair ∷ [];
      are = map_behind (λ (x : MadeProc). x.made) p.each pair ∙ ap (λ xs. xs ++ one ∷ []) p.are ∙ sym put;
      stages = each_more P i p.each (p.each ++ pair ∷ []) pair p.stages refl stages;
      wired = wires_more a b c (λ v. IsMadeBy v run channels procs schedules layouts views) i p.each (p.each ++ pair ∷ []) pair p.stages.count refl p.wired wired;
    }

pub made_done : (a b : WireList) (run : Atom) (channels : List Channel) (procs : List Proc) (schedules : List Schedule) (layouts : List ProcLayout) (views : List ChannelView) (i : ℕ) (made : List ProcWires) → i ≡ length layouts → MadeSoFar a b run channels procs schedules layouts views i made
    → AreMade a b run channels procs schedules layouts views made
made_done a b run channels procs schedules layouts views i made end p = record { each = p.each; are = p.are; count = p.stages.count ∙ end; stages = p.stages.each; wired = p.wired }

-- ---- what registers hold next

pub record NextSoFar (a b : WireList) (channels : List Channel) (procs : List Proc) (schedules : List Schedule) (layouts : List ProcLayout) (made : List MadeProc) (i : ℕ) (old new : List Atom) : Type 0 where
  pub each : List ProcParts
  pub parts : EachSoFar (IsPartOf channels procs schedules layouts made) i each
  pub nexts : new ≡ old ++ nexts_of each
  pub wired : AddsWires a b (λ v. EachFrom (GoesNext v) 0 each)

pub next_begun : (a : WireList) (channels : List Channel) (procs : List Proc) (schedules : List Schedule) (layouts : List ProcLayout) (made : List MadeProc) (old : List Atom) → NextSoFar a a channels procs schedules layouts made 0 old old
next_begun a channels procs schedules layouts made old = record { each = []; parts = record { count = refl; each = tt }; nexts = sym (append-nil old); wired = λ v h. (h, tt) }

nexts_behind : (parts : List ProcParts) (one : ProcParts) → nexts_of (parts ++ one ∷ []) ≡ nexts_of parts ++ next_nets one.scheduled one.layout one.made one.at one.nums
nexts_behind [] one = append-nil (next_nets one.scheduled one.layout one.made one.at one.nums)
nexts_behind (x ∷ parts) one =
    ap (λ ys. next_nets x.scheduled x.layout x.made x.at x.nums ++ ys) (nexts_behind parts one)
    ∙ sym (append_assoc (next_nets x.scheduled x.layout x.made x.at x.nums) (nexts_of parts) (next_nets one.scheduled one.layout one.made one.at one.nums))

pub next_more : (a b c : WireList) (channels : List Channel) (procs : List Proc) (schedules : List Schedule) (layouts : List ProcLayout) (made : List MadeProc) (i : ℕ) (proc : Proc) (schedule : Schedule) (s : ScheduledProc) (layout : ProcLayout) (one : MadeProc) (old now more : List Atom)
    → i < length procs → i < length schedules → i < length layouts → proc ≡ get_or procs i proc → schedule ≡ get_or schedules i schedule → layout ≡ get_or layouts i layout → s ≡ by_schedule channels proc schedule → slice_get made i ≡ Some one
    → EachFrom (IsMadeProc channels procs schedules layouts) 0 made → NextSoFar a b channels procs schedules layouts made i old now
    → (nums : NextNumbers) × (HasStages s layout one.made one.at → (more ≡ now ++ next_nets s layout one.made one.at nums) × AddsWires b c (λ v. NextsDriven v s layout one.made one.at nums))
    → HasStages s layout one.made one.at → NextSoFar a c channels procs schedules layouts made (i + 1) old more
next_more a b c channels procs schedules layouts made i proc schedule s layout one old now more l m n p_is s_is l_is same made_is stages p got has =
    let by = by_schedule channels proc schedule in
    let part : ProcParts = record { scheduled = by; layout = layout; made = one.made; at = one.at; nums = got.0 } in
    let put = got.1 has in
    let nexts : more ≡ now ++ next_nets by layout one.made one.at got.0 = put.0 ∙ ap (λ x. now ++ next_nets x layout one.made one.at got.0) same in
    let wired : AddsWires b c (λ v. GoesNext v i part) = λ v h. ((put.1 v h).0, subst (λ x. NextsDriven v x layout one.made one.at got.0) same (put.1 v h).1) in
    let is : IsPartOf channels procs schedules layouts made i part = record {
      proc = there procs i proc l p_is;
      schedule = (schedule, there schedules i schedule m s_is, refl);
      layout = there layouts i layout n l_is;
      made_is = made_is;
    } in
    record {
      each = p.each ++ part ∷ [];
      parts = each_more (IsPartOf channels procs schedules layouts made) i p.each (p.each ++ part ∷ []) part p.parts refl is;
      nexts = nexts ∙ ap (λ xs. xs ++ next_nets by layout one.made one.at got.0) p.nexts ∙ append_assoc old (nexts_of p.each) (next_nets by layout one.made one.at got.0) ∙ ap (λ xs. old ++ xs) (sym (nexts_behind p.each part));
      wired = wires_more a b c GoesNext i p.each (p.each ++ part ∷ []) part p.parts.count refl p.wired wired;
    }

pub made_long : (each : List MadeProc) (made : List ProcWires) → map (λ (one : MadeProc). one.made) each ≡ made → length each ≡ length made
made_long each made e = long each ∙ ap length e
  where
    long : (xs : List MadeProc) → length xs ≡ length (map (λ (one : MadeProc). one.made) xs)
    long [] = refl
    long (x ∷ xs) = ap suc (long xs)

-- the signals of the proc of an index are those of its pair
pub next_step : (a b c : WireList) (channels : List Channel) (procs : List Proc) (schedules : List Schedule) (layouts : List ProcLayout) (made : List ProcWires) (each : List MadeProc) (i : ℕ) (proc : Proc) (schedule : Schedule) (staging : Staging) (layout : ProcLayout) (own : ProcWires)
    (old now more : List Atom) → i < length procs → i < length schedules → i < length layouts → i < length made → proc ≡ get_or procs i proc → schedule ≡ get_or schedules i schedule → layout ≡ get_or layouts i layout → own ≡ get_or made i own
    → scheduled channels proc staging ≡ by_schedule channels proc schedule → map (λ (one : MadeProc). one.made) each ≡ made → EachFrom (IsMadeProc channels procs schedules layouts) 0 each → NextSoFar a b channels procs schedules layouts each i old now
    → (nums : NextNumbers) × ((cs : List Channel) (at : StageNumbers) → HasStages (scheduled cs proc staging) layout own at → (more ≡ now ++ next_nets (scheduled cs proc staging) layout own at nums) × AddsWires b c (λ v. NextsDriven v (scheduled cs proc staging) layout own at nums))
    → NextSoFar a c channels procs schedules layouts each (i + 1) old more
next_step a b c channels procs schedules layouts made each i proc schedule staging layout own old now more l m n q p_is s_is l_is o_is same are stages p got =
    let mapped : slice_get (map (λ (one : MadeProc). one.made) each) i ≡ Some own = ap (λ xs. slice_get xs i) are ∙ there made i own q o_is in
    let pair = map_there (λ (one : MadeProc). one.made) each i own mapped in
    let zero : 0 + i ≡ i = omega arith in
    let at_i = subst (λ k. IsMadeProc channels procs schedules layouts k pair.0) zero (each_at (IsMadeProc channels procs schedules layouts) 0 each i pair.0 stages pair.1) in
    let has = subst (λ x. HasStages x layout (pair.0).made (pair.0).at) (sym same) (at_i proc schedule layout (there procs i proc l p_is) (there schedules i schedule m s_is) (there layouts i layout n l_is)) in
    let s = scheduled channels proc staging in
    let its : (nums : NextNumbers) × (HasStages s layout (pair.0).made (pair.0).at → (more ≡ now ++ next_nets s layout (pair.0).made (pair.0).at nums) × AddsWires b c (λ v. NextsDriven v s layout (pair.0).made (pair.0).at nums)) = (
      got.0,
      subst (λ w. HasStages s layout w (pair.0).at → (more ≡ now ++ next_nets s layout w (pair.0).at got.0) × AddsWires b c (λ v. NextsDriven v s layout w (pair.0).at got.0)) (sym pair.2) (got.1 channels (pair.0).at),
    ) in
    next_more a b c channels procs schedules layouts each i proc schedule s layout pair.0 old now more l m n p_is s_is l_is same pair.1 stages p its has

pub next_done : (a b : WireList) (channels : List Channel) (procs : List Proc) (schedules : List Schedule) (layouts : List ProcLayout) (made : List MadeProc) (i : ℕ) (old now : List Atom) → i ≡ length layouts → NextSoFar a b channels procs schedules layouts made i old now
    → ArePutNext a b channels procs schedules layouts made old now
next_done a b channels procs schedules layouts made i old now end p = record { each = p.each; count = p.parts.count ∙ end; parts = p.parts.each; nexts = p.nexts; wired = p.wired }
