-- The words that an activation of an IR proc has received by a stage, by the words on a netlist's signals.
use Rattle.std.proofs.Common.{◌≡◌, ℕ, zero, suc, ◌+◌, ◌<◌, List, [], ◌∷◌, ◌++◌, length, refl, sym, ap, ◌∙◌, subst, arith, true, false, Bool, Option, Some, None}
use Rattle.xb_bits.specs.Word.{Word}
use Rattle.xb_value.specs.declared.value.Value.{Value}
use Rattle.net_core.specs.Behavior.{Behavior, Turn, Skip, Receive, Give, chan_at}
use Rattle.ir_tree.specs.declared.package.Channel.{Channel}
use Rattle.ir_tree.specs.declared.package.Proc.{Proc}
use Rattle.ir_tree.specs.Activations.{activation}
use Rattle.block_stage.specs.Machine.Pipeline.{Pipeline, first}
use Rattle.block_stage.specs.Machine.Cycle.{Ports, Registers, Walk, circuit, brought, walk_by, follow, step_of}
use Rattle.vlog_tree.specs.Value.{Values}
use Rattle.block_build.specs.Netlist.Handshakes.{SiteNets}
use Rattle.block_build.specs.Netlist.Walks.{AreRead}
use Rattle.block_build.specs.Netlist.Receives.{received_by}
use Rattle.block_build.specs.Netlist.Turns.{grown, DoesTurns, AreTurns}
use Rattle.block_build.specs.Netlist.Procs.{turns_by_words, gathered}
use Rattle.block_build.proofs.OnNetlist.OnTurns.{turns_are_read}
use Rattle.block_build.proofs.OnNetlist.OnProcs.{procs_do_what_words_say, procs_do_their_turns}

-- a stage's signals are right where they are by the words on them
pub does_from : (b : Behavior) (channels : List Channel) (proc : Proc) → activation channels proc ≡ b → (s : Value) (words : ℕ → Word) (got : List Word) (i n : ℕ)
    → got ≡ gathered (turns_by_words channels proc.nodes s words) words i → DoesTurns b s (turns_by_words channels proc.nodes s words) words got i n
does_from b channels proc e s words got i n g =
    let turns = turns_by_words channels proc.nodes s words in
    subst (λ x. DoesTurns x s turns words got i n) e
    (subst (λ xs. DoesTurns (activation channels proc) s turns words xs i n) (sym g) (procs_do_their_turns channels proc s words i n))

pub stages_read_their_words : (v : Values) (q : Pipeline) (channels : List Channel) (proc : Proc) → activation channels proc ≡ q.proc.behavior → (c : Registers) (ports : Ports) (j : ℕ) (words : ℕ → Word) (sites : List SiteNets)
    → (brought c j).got ≡ gathered (turns_by_words channels proc.nodes (brought c j).state words) words (first q j)
    → AreTurns v q.proc.behavior.sites (turns_by_words channels proc.nodes (brought c j).state words) words c.done c.kept ports (first q j) sites
    → AreRead v q.proc.behavior c.done c.kept ports (brought c j).state (brought c j).got (first q j) sites
stages_read_their_words v q channels proc e c ports j words sites g are =
    turns_are_read v q.proc.behavior (turns_by_words channels proc.nodes (brought c j).state words) words c.done c.kept ports (brought c j).state sites (brought c j).got (first q j) are
    (does_from q.proc.behavior channels proc e (brought c j).state words (brought c j).got (first q j) (length sites) g)

-- ---- where it passes

abbrev grown_on : (ℕ → Turn) → (ℕ → Word) → ℕ → ℕ → List Word → List Word
grown_on turns words i zero got = got
grown_on turns words i (suc n) got = grown_on turns words (suc i) n (grown (turns i) (words i) got)

gathered_on : (turns : ℕ → Turn) (words : ℕ → Word) (i n : ℕ) → grown_on turns words i n (gathered turns words i) ≡ gathered turns words (i + n)
gathered_on turns words i zero = let e : i + 0 ≡ i = omega arith in ap (gathered turns words) (sym e)
gathered_on turns words i (suc n) = let e : suc i + n ≡ i + suc n = omega arith in gathered_on turns words (suc i) n ∙ ap (gathered turns words) e

step_grows : (i : ℕ) (got : List Word) (turn : Turn) (done : Bool) (kept : Word) (valid_word : Option Word) (room : Bool) (word : Word) (next : List Word → Walk) (goal : List Word)
    → ((w : Word) → received_by (step_of turn done kept valid_word room) ≡ Some w → word ≡ w)
    → ((next (grown turn word got)).stall ≡ None → (next (grown turn word got)).got ≡ goal)
    → (follow i got next (step_of turn done kept valid_word room)).stall ≡ None → (follow i got next (step_of turn done kept valid_word room)).got ≡ goal
step_grows i got Skip done kept valid_word room word next goal h ih none = ih none
step_grows i got Receive true kept valid_word room word next goal h ih none =
    subst (λ w. (next (got ++ w ∷ [])).stall ≡ None → (next (got ++ w ∷ [])).got ≡ goal) (h kept refl) ih none
step_grows i got Receive false kept (Some w) room word next goal h ih none =
    subst (λ u. (next (got ++ u ∷ [])).stall ≡ None → (next (got ++ u ∷ [])).got ≡ goal) (h w refl) ih none
step_grows i got Receive false kept None room word next goal h ih none = cc
step_grows i got (Give w) true kept valid_word room word next goal h ih none = ih none
step_grows i got (Give w) false kept valid_word true word next goal h ih none = ih none
step_grows i got (Give w) false kept valid_word false word next goal h ih none = cc

walk_grows : (v : Values) (b : Behavior) (turns : ℕ → Turn) (words : ℕ → Word) (done : ℕ → Bool) (kept : ℕ → Word) (ports : Ports) (s : Value) (sites : List SiteNets) (got : List Word) (i : ℕ)
    → AreTurns v b.sites turns words done kept ports i sites → DoesTurns b s turns words got i (length sites)
    → (walk_by circuit b done kept ports s got i (length sites)).stall ≡ None → (walk_by circuit b done kept ports s got i (length sites)).got ≡ grown_on turns words i (length sites) got
walk_grows v b turns words done kept ports s [] got i are does none = refl
walk_grows v b turns words done kept ports s (site ∷ sites) got i are does none =
    let valid_word = ports.valid_word (chan_at b.sites i) in
    let room = ports.room (chan_at b.sites i) in
    let next = λ (got' : List Word). walk_by circuit b done kept ports s got' (suc i) (length sites) in
    let goal = grown_on turns words (suc i) (length sites) (grown (turns i) (words i) got) in
    subst (λ turn. (follow i got next (step_of turn (done i) (kept i) valid_word room)).stall ≡ None → (follow i got next (step_of turn (done i) (kept i) valid_word room)).got ≡ goal) (sym does.0)
    (step_grows i got (turns i) (done i) (kept i) valid_word room (words i) next goal are.2
    (walk_grows v b turns words done kept ports s sites (grown (turns i) (words i) got) (suc i) are.3 does.1)) none

-- it has the words of its sites too
pub stages_gather_their_words : (v : Values) (q : Pipeline) (channels : List Channel) (proc : Proc) → activation channels proc ≡ q.proc.behavior → (c : Registers) (ports : Ports) (j : ℕ) (words : ℕ → Word) (sites : List SiteNets)
    → (brought c j).got ≡ gathered (turns_by_words channels proc.nodes (brought c j).state words) words (first q j)
    → AreTurns v q.proc.behavior.sites (turns_by_words channels proc.nodes (brought c j).state words) words c.done c.kept ports (first q j) sites
    → (walk_by circuit q.proc.behavior c.done c.kept ports (brought c j).state (brought c j).got (first q j) (length sites)).stall ≡ None
    → (walk_by circuit q.proc.behavior c.done c.kept ports (brought c j).state (brought c j).got (first q j) (length sites)).got
    ≡ gathered (turns_by_words channels proc.nodes (brought c j).state words) words (first q j + length sites)
stages_gather_their_words v q channels proc e c ports j words sites g are none =
    let turns = turns_by_words channels proc.nodes (brought c j).state words in
    walk_grows v q.proc.behavior turns words c.done c.kept ports (brought c j).state sites (brought c j).got (first q j) are
    (does_from q.proc.behavior channels proc e (brought c j).state words (brought c j).got (first q j) (length sites) g) none
    ∙ ap (grown_on turns words (first q j) (length sites)) g
    ∙ gathered_on turns words (first q j) (length sites)

-- and words that agree at the sites before gather the same
pub gathered_words_agree : (channels : List Channel) (proc : Proc) (s : Value) (words others : ℕ → Word) (i : ℕ) → ((k : ℕ) → k < i → words k ≡ others k)
    → gathered (turns_by_words channels proc.nodes s words) words i ≡ gathered (turns_by_words channels proc.nodes s others) others i
gathered_words_agree channels proc s words others zero h = refl
gathered_words_agree channels proc s words others (suc i) h =
    let ih = gathered_words_agree channels proc s words others i (λ k l. h k (omega arith)) in
    let mine = procs_do_what_words_say channels proc s words i in
    let theirs = procs_do_what_words_say channels proc s others i in
    let same : turns_by_words channels proc.nodes s words i ≡ turns_by_words channels proc.nodes s others i = sym mine ∙ ap (λ got. (activation channels proc).turn s got i) ih ∙ theirs in
    ap (λ t. grown t (words i) (gathered (turns_by_words channels proc.nodes s words) words i)) same
    ∙ ap (λ w. grown (turns_by_words channels proc.nodes s others i) w (gathered (turns_by_words channels proc.nodes s words) words i)) (h i (omega arith))
    ∙ ap (grown (turns_by_words channels proc.nodes s others i) (others i)) ih
