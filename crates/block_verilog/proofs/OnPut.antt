-- The parts of a package that are put together are a module of it.
use Rattle.std.proofs.Common.{◌≡◌, ℕ, zero, suc, ◌+◌, ◌-◌, ◌<◌, ◌≤◌, ◌^◌, min, List, [], ◌∷◌, ◌++◌, length, map, get_or, refl, sym, ap, ap₂, ◌∙◌, subst, arith}
use Rattle.std.specs.Prelude.{slice_get, Option, Some, None, option_map}
use Rattle.std.proofs.lemmas.List.{length-append}
use Rattle.net_core.specs.declared.net.Kind.TheVariants.{Inner}
use Rattle.ir_tree.specs.declared.package.Channel.{Channel}
use Rattle.ir_tree.specs.declared.package.Package.{Package}
use Rattle.ir_tree.specs.declared.package.Proc.{Proc}
use Rattle.ir_tree.specs.Networks.{kind_of}
use Rattle.ir_tree.specs.Rules.Verified.{IsVerified}
use Rattle.pipe_schedule.specs.declared.schedule.Schedule.{Schedule}
use Rattle.pipe_schedule.specs.Legal.{IsLegalAt, depth_of, turn_stage, interval_of}
use Rattle.pipe_schedule.specs.Timed.{timed_nodes, timed_proc}
use Rattle.vlog_tree.specs.declared.expression.Atom.{Atom}
use Rattle.vlog_tree.specs.declared.module.VModule.{VModule}
use Rattle.vlog_tree.specs.Value.{Values}
use Rattle.block_build.specs.declared.netlist.fifos.ChannelEnds.{ChannelEnds}
use Rattle.block_build.specs.declared.netlist.fifos.ChannelView.{ChannelView}
use Rattle.block_build.specs.declared.netlist.fifos.Fifo.{Fifo}
use Rattle.block_build.specs.declared.netlist.registers.Register.{Register}
use Rattle.block_build.specs.declared.netlist.registers.RegisterList.{RegisterList}
use Rattle.block_build.specs.declared.netlist.wires.WireList.{WireList}
use Rattle.block_build.specs.Netlist.Added.{Carries, AddsWires}
use Rattle.block_verilog.specs.Schedule.Pipelines.{AreLegal, pipeline_of, pipelines_of}
use Rattle.block_verilog.specs.declared.pipelines.layout.ProcLayout.{ProcLayout}
use Rattle.block_verilog.specs.declared.pipelines.pipelines.ProcWires.{ProcWires}
use Rattle.block_verilog.specs.Pipelines.Nets.{ProcParts, ArePut, PartsDriven}
use Rattle.block_verilog.specs.Pipelines.Pipelines.{ScheduledProc, IsLaidOut, HasStages, ProcDriven, proc_registers}
use Rattle.block_verilog.specs.Assembly.{IsAssembled, port_drivers}
use Rattle.block_verilog.specs.Each.{EachFrom}
use Rattle.block_verilog.specs.Ports.{module_ports, ports_from}
use Rattle.block_verilog.specs.Queues.{all_registers, all_next, fifos_from}
use Rattle.block_verilog.proofs.Lemmas.Each.{each_at}
use Rattle.block_verilog.specs.Modules.{IsMadeOfParts, AreScheduled}
use Rattle.block_verilog.specs.Parts.{BlockParts, ArePutFrom, registers_of, nexts_of, IsBlockPut, IsBlockDriven}
use Rattle.block_verilog.specs.Procs.{by_schedule, AreLaidOut, laid_registers, MadeProc, IsMadeProc, IsMadeBy, IsPartOf, GoesNext}
use Rattle.block_verilog.specs.Sides.{IsEnd}
use Rattle.block_verilog.specs.Put.{AllLaid, AllDriven, AllPut, AllNext}

abbrev stages_of : List Schedule → List (List ℕ)
stages_of schedules = map (λ (schedule : Schedule). schedule.stage) schedules

legal_of : (clock : ℕ) (procs : List Proc) (schedules : List Schedule) → AreScheduled clock procs schedules → AreLegal clock procs (stages_of schedules)
legal_of clock [] [] h = tt
legal_of clock [] (s ∷ schedules) h = absurd h
legal_of clock (p ∷ procs) [] h = absurd h
legal_of clock (p ∷ procs) (s ∷ schedules) h = (h.0, legal_of clock procs schedules h.3)

-- what is known of a proc with its schedule
record Scheduled (clock : ℕ) (proc : Proc) (schedule : Schedule) : Type 0 where
  pub legal : IsLegalAt (timed_nodes proc) clock schedule.stage
  pub depth : schedule.stages ≡ depth_of schedule.stage
  pub interval : schedule.interval ≡ interval_of (timed_proc proc) schedule.stage

scheduled_at : (clock : ℕ) (procs : List Proc) (schedules : List Schedule) → AreScheduled clock procs schedules → (p : ℕ) (proc : Proc) (schedule : Schedule) → slice_get procs p ≡ Some proc → slice_get schedules p ≡ Some schedule → Scheduled clock proc schedule
scheduled_at clock [] schedules h p proc schedule there at = absurd (cc)
scheduled_at clock (x ∷ procs) [] h p proc schedule there at = absurd h
scheduled_at clock (x ∷ procs) (s ∷ schedules) h zero proc schedule there at =
    let e : x ≡ proc = cc in
    let f : s ≡ schedule = cc in
    subst (λ y. Scheduled clock y schedule) e (subst (Scheduled clock x) f (record { legal = h.0; depth = h.1; interval = h.2 }))
scheduled_at clock (x ∷ procs) (s ∷ schedules) h (suc p) proc schedule there at = scheduled_at clock procs schedules h.3 p proc schedule there at

pub same_many : (clock : ℕ) (procs : List Proc) (schedules : List Schedule) → AreScheduled clock procs schedules → length schedules ≡ length procs
same_many clock [] [] h = refl
same_many clock [] (s ∷ schedules) h = absurd h
same_many clock (p ∷ procs) [] h = absurd h
same_many clock (p ∷ procs) (s ∷ schedules) h = ap suc (same_many clock procs schedules h.3)

-- as many layouts as procs, where there are as many schedules
pub laid_many : (channels : List Channel) (procs : List Proc) (schedules : List Schedule) (layouts : List ProcLayout) (k : ℕ) → length schedules ≡ length procs → AreLaidOut channels k procs schedules layouts → length layouts ≡ length procs
laid_many channels [] schedules layouts k e h = ap length h
laid_many channels (p ∷ procs) [] layouts k e h = absurd (cc)
laid_many channels (p ∷ procs) (s ∷ schedules) [] k e h = absurd h
laid_many channels (p ∷ procs) (s ∷ schedules) (l ∷ layouts) k e h = ap suc (laid_many channels procs schedules layouts _ (omega (arith, e)) h.1)

-- ---- the parts of procs from one on

module _ (ir : Package) (clock : ℕ) (schedules : List Schedule) (layouts : List ProcLayout) (each : List MadeProc) (verified : IsVerified ir) (legal : AreScheduled clock ir.procs schedules) (stages : EachFrom (IsMadeProc ir.channels ir.procs schedules layouts) 0 each) where
  one_put : (p k : ℕ) (proc : Proc) (schedule : Schedule) (layout : ProcLayout) (one : ProcParts) → slice_get ir.procs p ≡ Some proc → slice_get schedules p ≡ Some schedule → slice_get layouts p ≡ Some layout → IsPartOf ir.channels ir.procs schedules layouts each p one
      → IsLaidOut (by_schedule ir.channels proc schedule) k layout → (one.scheduled ≡ by_schedule ir.channels proc schedule) × (one.layout ≡ layout) × ArePut ir p clock k one
  one_put p k proc schedule layout one p_at s_at l_at is laid =
      let e1 : one.scheduled.proc ≡ proc = (let both : Some one.scheduled.proc ≡ Some proc = sym is.proc ∙ p_at in cc) in
      let e2 : (is.schedule).0 ≡ schedule = (let both : Some (is.schedule).0 ≡ Some schedule = sym (is.schedule).1 ∙ s_at in cc) in
      let e3 : one.layout ≡ layout = (let both : Some one.layout ≡ Some layout = sym is.layout ∙ l_at in cc) in
      let same : one.scheduled ≡ by_schedule ir.channels proc schedule = (is.schedule).2 ∙ ap₂ (by_schedule ir.channels) e1 e2 in
      let known = scheduled_at clock ir.procs schedules legal p proc schedule p_at s_at in
      let zero : 0 + p ≡ p = omega arith in
      let made = each_at (IsMadeProc ir.channels ir.procs schedules layouts) 0 each p (record { made = one.made; at = one.at }) stages is.made_is in
      let stage = subst (λ n. IsMadeProc ir.channels ir.procs schedules layouts n (record { made = one.made; at = one.at })) zero made proc schedule layout p_at s_at l_at in
      let turn : schedule.interval - 1 ≡ turn_stage (timed_proc proc) schedule.stage = (let i = known.interval in omega (arith, i)) in (
        same,
        e3,
        record {
          verified = verified;
          there = is.proc;
          channels = ap (λ (s : ScheduledProc). s.channels) same;
          legal = subst (λ (s : ScheduledProc). IsLegalAt (timed_nodes s.proc) clock s.stages) (sym same) known.legal;
          depth = subst (λ (s : ScheduledProc). s.depth ≡ depth_of s.stages) (sym same) known.depth;
          last = subst (λ (s : ScheduledProc). s.last ≡ turn_stage (timed_proc s.proc) s.stages) (sym same) turn;
          laid = subst (λ (s : ScheduledProc). IsLaidOut s k one.layout) (sym same) (subst (IsLaidOut (by_schedule ir.channels proc schedule) k) (sym e3) laid);
          stages = subst (λ (s : ScheduledProc). HasStages s one.layout one.made one.at) (sym same) (subst (λ l. HasStages (by_schedule ir.channels proc schedule) l one.made one.at) (sym e3) stage);
        },
      )

  -- those that stand in lists from index p on
  record Behind (p : ℕ) (procs : List Proc) (later : List Schedule) (laid : List ProcLayout) : Type 0 where
    pub procs_at : (q : ℕ) → slice_get ir.procs (p + q) ≡ slice_get procs q
    pub later_at : (q : ℕ) → slice_get schedules (p + q) ≡ slice_get later q
    pub laid_at : (q : ℕ) → slice_get layouts (p + q) ≡ slice_get laid q

  behind_more : (p : ℕ) (proc : Proc) (procs : List Proc) (s : Schedule) (later : List Schedule) (l : ProcLayout) (laid : List ProcLayout) → Behind p (proc ∷ procs) (s ∷ later) (l ∷ laid) → Behind (suc p) procs later laid
  behind_more p proc procs s later l laid b = record {
    procs_at = λ q. let e : suc p + q ≡ p + suc q = omega arith in ap (slice_get ir.procs) e ∙ b.procs_at (suc q);
    later_at = λ q. let e : suc p + q ≡ p + suc q = omega arith in ap (slice_get schedules) e ∙ b.later_at (suc q);
    laid_at = λ q. let e : suc p + q ≡ p + suc q = omega arith in ap (slice_get layouts) e ∙ b.laid_at (suc q);
  }

  record PartsPut (p k : ℕ) (procs : List Proc) (later : List Schedule) (laid : List ProcLayout) (parts : List ProcParts) : Type 0 where
    pub put : ArePutFrom ir clock p k parts
    pub registers : registers_of parts ≡ laid_registers ir.channels procs later laid
    pub pipelines : map (λ (one : ProcParts). pipeline_of one.scheduled.channels one.scheduled.proc one.scheduled.stages) parts ≡ pipelines_of ir.channels procs (stages_of later)

  parts_put : (p k : ℕ) (procs : List Proc) (later : List Schedule) (laid : List ProcLayout) (parts : List ProcParts) → length later ≡ length procs → length parts ≡ length laid → AreLaidOut ir.channels k procs later laid → Behind p procs later laid
      → EachFrom (IsPartOf ir.channels ir.procs schedules layouts each) p parts → PartsPut p k procs later laid parts
  parts_put p k [] [] laid [] many long are b is = record { put = tt; registers = refl; pipelines = refl }
  parts_put p k [] [] laid (one ∷ parts) many long are b is = absurd (let none = ap length are in omega (arith, none, long))
  parts_put p k [] (s ∷ later) laid parts many long are b is = absurd (cc)
  parts_put p k (proc ∷ procs) [] laid parts many long are b is = absurd (cc)
  parts_put p k (proc ∷ procs) (s ∷ later) [] parts many long are b is = absurd are
  parts_put p k (proc ∷ procs) (s ∷ later) (l ∷ laid) [] many long are b is = absurd (cc)
  parts_put p k (proc ∷ procs) (s ∷ later) (l ∷ laid) (one ∷ parts) many long are b is =
      let none : p ≡ p + 0 = omega arith in
      let own = one_put p k proc s l one (ap (slice_get ir.procs) none ∙ b.procs_at 0) (ap (slice_get schedules) none ∙ b.later_at 0) (ap (slice_get layouts) none ∙ b.laid_at 0) is.0 are.0 in
      let by = by_schedule ir.channels proc s in
      let registers : proc_registers one.scheduled one.layout.reads ≡ proc_registers by l.reads = ap₂ (λ x (y : ProcLayout). proc_registers x y.reads) own.0 own.1 in
      let rest = parts_put (suc p) (k + length (proc_registers by l.reads)) procs later laid parts (omega (arith, many)) (omega (arith, long)) are.1 (behind_more p proc procs s later l laid b) is.1 in
      record {
        put = (own.2, subst (λ n. ArePutFrom ir clock (suc p) (k + n) parts) (sym (ap length registers)) rest.put);
        registers = ap₂ (λ x y. x ++ y) registers rest.registers;
        pipelines = ap₂ (λ x y. x ∷ y) (ap (λ (x : ScheduledProc). pipeline_of x.channels x.proc x.stages) own.0) rest.pipelines;
      }

pub ports_long : (channels : List Channel) (k : ℕ) → length (ports_from k channels) ≡ length channels
ports_long [] k = refl
ports_long (channel ∷ channels) k = ap suc (ports_long channels _)

pub fifos_long : (depths : List ℕ) (i k : ℕ) (channels : List Channel) → length (fifos_from depths i k channels) ≡ length channels
fifos_long depths i k [] = refl
fifos_long depths i k (channel ∷ channels) = ap suc (fifos_long depths (suc i) _ channels)

map_made : (channels : List Channel) (procs : List Proc) (schedules : List Schedule) (layouts : List ProcLayout) (each : List MadeProc) (p : ℕ) (parts : List ProcParts) (rest : List MadeProc) → length parts ≡ length rest → ((q : ℕ) → slice_get each (p + q) ≡ slice_get rest q)
    → EachFrom (IsPartOf channels procs schedules layouts each) p parts → map (λ (one : ProcParts). one.made) parts ≡ map (λ (one : MadeProc). one.made) rest
map_made channels procs schedules layouts each p [] [] long at is = refl
map_made channels procs schedules layouts each p [] (x ∷ rest) long at is = absurd (cc)
map_made channels procs schedules layouts each p (one ∷ parts) [] long at is = absurd (cc)
map_made channels procs schedules layouts each p (one ∷ parts) (x ∷ rest) long at is =
    let none : p ≡ p + 0 = omega arith in
    let same : record { made = one.made; at = one.at } ≡ x = (let both : Some (record { made = one.made; at = one.at }) ≡ Some x = sym (is.0).made_is ∙ ap (slice_get each) none ∙ at 0 in cc) in
    ap₂ (λ y ys. y ∷ ys) (ap (λ (y : MadeProc). y.made) same) (map_made channels procs schedules layouts each (suc p) parts rest (omega (arith, long)) (λ q. let e : suc p + q ≡ p + suc q = omega arith in ap (slice_get each) e ∙ at (suc q)) is.1)

pub put_together : (m : VModule) (ir : Package) (clock : ℕ) (schedules : List Schedule) (depths : List ℕ) (registers : RegisterList) (fifos : List (Option Fifo)) (layouts : List ProcLayout) (a b c : WireList) (views : List ChannelView) (made : List ProcWires) (sides : List ChannelEnds) (nexts : List Atom)
    → IsVerified ir → AreScheduled clock ir.procs schedules → ((i : ℕ) (channel : Channel) → slice_get ir.channels i ≡ Some channel → kind_of channel.ends ≡ Inner → (1 ≤ get_or depths i 0) × (get_or depths i 0 ≤ 64))
    → AllLaid ir schedules depths (length (module_ports ir.channels)) registers fifos layouts → registers.first + length registers.registers.items < 2 ^ 32
    → (put : AllPut a b ir schedules (ports_from 2 ir.channels) fifos layouts views made sides) → AllNext b c ir schedules fifos layouts views put.each sides nexts
    → IsAssembled m (module_ports ir.channels) registers nexts c (port_drivers ir.channels (ports_from 2 ir.channels) sides) → IsMadeOfParts m ir clock (stages_of schedules) depths
put_together m ir clock schedules depths registers fifos layouts a b c views made sides nexts verified legal deep laid few put next assembled =
    let first = length (module_ports ir.channels) in
    let many = same_many clock ir.procs schedules legal in
    let long = laid_many ir.channels ir.procs schedules layouts _ many laid.procs in
    let begin : Behind ir clock schedules layouts put.each verified legal put.stages 0 ir.procs schedules layouts =
    record { procs_at = λ q. let e : 0 + q ≡ q = omega arith in ap (slice_get ir.procs) e; later_at = λ q. let e : 0 + q ≡ q = omega arith in ap (slice_get schedules) e; laid_at = λ q. let e : 0 + q ≡ q = omega arith in ap (slice_get layouts) e } in
    let procs = parts_put ir clock schedules layouts put.each verified legal put.stages 0 (first + length (all_registers depths 0 ir.channels)) ir.procs schedules layouts next.parts many next.part_count laid.procs begin next.parts_are in
    let ports = ports_long ir.channels 2 in
    let many_fifos = ap length laid.fifos_are ∙ fifos_long depths 0 first ir.channels in
    let view_count = put.view_count in
    let side_count = put.side_count in
    let goes_count = next.goes_count in
    let parts : BlockParts = record { procs = next.parts; fifos = fifos; views = views; sides = sides; goes = next.goes } in
    let part_count = next.part_count in
    let each_count = put.count in
    let same : map (λ (one : ProcParts). one.made) next.parts ≡ made = map_made ir.channels ir.procs schedules layouts put.each 0 next.parts put.each (omega (arith, part_count, each_count)) (λ q. let e : 0 + q ≡ q = omega arith in ap (slice_get put.each) e) next.parts_are ∙ put.are in
    record {
      parts = parts;
      registers = registers;
      wires = c;
      put = record {
        verified = verified;
        legal = legal_of clock ir.procs schedules legal;
        procs = procs.put;
        pipelines = procs.pipelines;
        deep = deep;
        fifos = laid.fifos_are;
        views = put.views_are;
        view_count = omega (arith, view_count, ports, many_fifos);
        side_count = side_count;
        goes_count = omega (arith, goes_count, view_count, ports, many_fifos, side_count);
      };
      first = laid.first_is;
      registers_are = laid.registers_are ∙ ap (λ rs. all_registers depths 0 ir.channels ++ rs) (sym procs.registers);
      few = few;
      run = put.run;
      driven = λ v h.
          let later = next.fifos_go v h in
          let sooner = (put.driven v later.0).1 in
          record {
            procs = λ p one there.
                let zero : 0 + p ≡ p = omega arith in
                let is = subst (λ n. IsPartOf ir.channels ir.procs schedules layouts put.each n one) zero (each_at (IsPartOf ir.channels ir.procs schedules layouts put.each) 0 next.parts p one next.parts_are there) in
                let own = subst (λ n. IsMadeBy v put.run ir.channels ir.procs schedules layouts views n (record { made = one.made; at = one.at })) zero
                (each_at (IsMadeBy v put.run ir.channels ir.procs schedules layouts views) 0 put.each p (record { made = one.made; at = one.at }) sooner.procs is.made_is) in
                record {
                  now = subst (λ s. ProcDriven v put.run s one.layout views one.made one.at) (sym (is.schedule).2) (own one.scheduled.proc (is.schedule).0 one.layout is.proc (is.schedule).1 is.layout);
                  next = each_at (λ n. GoesNext v n) 0 next.parts p one later.1.1 there;
                };
            views = sooner.viewed;
            goes = later.1.0;
            sides = subst (λ ms. EachFrom (IsEnd v ir.procs ms ir.channels) 0 sides) (sym same) sooner.ends_are;
          };
      runs = λ v h. ((put.driven v (next.fifos_go v h).0).1).runs;
      assembled = subst (λ ns. IsAssembled m (module_ports ir.channels) registers ns c (port_drivers ir.channels (ports_from 2 ir.channels) sides)) next.nexts_are assembled;
    }
