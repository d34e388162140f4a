-- What comes of steps on patterns, matches and loops.
use Rattle.std.proofs.Common.{◌≡◌, ℕ, zero, suc, Bool, true, false, List, [], ◌∷◌, ◌++◌, Option, Some, None, length, map, refl, sym, ap, ◌∙◌, if◌then◌else◌}
use Rattle.std.specs.List.{list_all}
use Rattle.std.proofs.lemmas.List.{append_assoc, append-nil}
use Rattle.std.proofs.Math.Seq.{drop-append_seam}
use Rattle.xb_bits.specs.Word.{Word, word}
use Rattle.xb_bits.specs.Operations.{add}
use Rattle.dslx_tree.specs.declared.block.Stmt.TheOpen.{Shape-F}
use Rattle.dslx_tree.specs.declared.expr.Arm.{Arm, out-Arm}
use Rattle.dslx_tree.specs.declared.expr.Expr.{Expr}
use Rattle.dslx_tree.specs.declared.expr.For.{For, out-For}
use Rattle.dslx_tree.specs.declared.item.Module.{Module}
use Rattle.dslx_tree.specs.declared.pattern.Pattern.{Pattern}
use Rattle.dslx_meaning.specs.Environment.{Env, Given, bind}
use Rattle.dslx_meaning.specs.Lists.{and_then, or_else, with_both}
use Rattle.dslx_meaning.specs.Meaning as m
use Rattle.dslx_meaning.specs.Meaning.{ArmDen, PatternDen, pattern_denotation, value_of, value_of_block, fitted}
use Rattle.dslx_meaning.specs.Operators.{of_one_type}
use Rattle.dslx_meaning.specs.Values.{same_value, bool_value, elements_of, bits_of}
use Rattle.dslx_meaning.specs.declared.value.DslxValue.{DslxValue, Bits}
use Rattle.dslx_meaning.specs.declared.value.SignedWord.{SignedWord}
use Rattle.dslx_meaning.specs.Names.ConstMachine.Kept.{KeptValues, items_within}
use Rattle.dslx_meaning.specs.Names.ConstMachine.Tasks.{ConstState, Waiting, Sequel, ThenStatements, ThenAccumulator, ThenBody, ThenArm, Compares, Turns}
use Rattle.dslx_meaning.specs.Names.ConstMachine.Items.{is_constant_within}
use Rattle.dslx_meaning.specs.Names.ConstMachine.Layers.{PatternLayer, shape_of}
use Rattle.dslx_meaning.specs.Names.ConstMachine.Patterns as s
use Rattle.dslx_meaning.specs.Names.ConstMachine.States.{doing, binding_all}
use Rattle.dslx_meaning.proofs.OnNames.OnConstMachine.Gathered.{uses_number_keeps}
use Rattle.dslx_meaning.proofs.OnNames.OnConstMachine.Meanings.{pattern_opened, shape_means, statements_mean, arm_means, arm_by_parts, arm_opened, turn_of}
use Rattle.dslx_meaning.proofs.OnNames.OnConstMachine.Options.{in_turn, gives_itself, one_then_other}
use Rattle.dslx_meaning.proofs.OnNames.OnConstMachine.Places.{Place, place_of, env_in, env_behind, gives, forgot, fitting, fit_all, rest_value, tried_value, names_in, value_if_nothing, from_first, answer, answer_of}
use Rattle.dslx_meaning.proofs.OnNames.OnConstMachine.Uses.{uses_constant_keeps, uses_member_keeps}

-- ---- one pattern

-- what is in sight where these names are bound too
abbrev env_past : List Given → ConstState → Env
env_past names run = env_behind names (place_of run)

fails_keep : (next : Sequel) (run : ConstState) → answer_of (s.fails next run) ≡ answer run.todo (fitting next None (place_of run))
fails_keep (ThenStatements ss last) run = refl
fails_keep (ThenAccumulator p v b) run = refl
fails_keep (ThenBody k b) run = refl
fails_keep (ThenArm ps a rest v) run = refl

fits_if_keeps : (b : Bool) (work : List Waiting) (names : List Given) (next : Sequel) (run : ConstState)
    → answer_of (s.fits_if b work names next run)
    ≡ answer run.todo (fitting next (and_then (if b then Some (env_past names run) else None) (fit_all (env_in run) work)) (place_of run))
fits_if_keeps true work names next run = refl
fits_if_keeps false work names next run = fails_keep next run

pub fits_if_same_keeps : (o : Option DslxValue) (v : DslxValue) (work : List Waiting) (names : List Given) (next : Sequel) (run : ConstState)
    → answer_of (s.fits_if_same o v work names next run)
    ≡ answer run.todo (fitting next (and_then (m.fit_value o v (env_past names run)) (fit_all (env_in run) work)) (place_of run))
fits_if_same_keeps None v work names next run = fails_keep next run
fits_if_same_keeps (Some w) v work names next run = fits_if_keeps (same_value v w) work names next run

constant_is : (kept : Option KeptValues) (text : Module) (n : ℕ) (name : List ℕ) → (items_within kept text n).is_constant name ≡ is_constant_within text n name
constant_is None text zero name = refl
constant_is None text (suc n) name = refl
constant_is (Some kept) text zero name = refl
constant_is (Some kept) text (suc n) name = refl

-- a name that is a constant's or not
abbrev named_fits : Bool → List ℕ → DslxValue → Env → Option Env
named_fits b name v env = if b then m.fit_value (env.items.constant name) v env else Some (bind name v env)

fits_name_keeps : (b : Bool) (name : List ℕ) (v : DslxValue) (work : List Waiting) (names : List Given) (next : Sequel) (run : ConstState)
    → answer_of (s.fits_name b name v work names next run)
    ≡ answer run.todo (fitting next (and_then (named_fits b name v (env_past names run)) (fit_all (env_in run) work)) (place_of run))
fits_name_keeps true name v work names next run = uses_constant_keeps name (doing (Compares v work names next ∷ []) run)
fits_name_keeps false name v work names next run = refl

fits_parts_keep : (o : Option (List DslxValue)) (ps : List Pattern) (work : List Waiting) (names : List Given) (next : Sequel) (run : ConstState)
    → answer_of (s.fits_parts o ps work names next run)
    ≡ answer run.todo (fitting next (and_then (and_then o (λ vs. m.fit_each (env_in run) (map pattern_denotation ps) vs (env_past names run))) (fit_all (env_in run) work)) (place_of run))
fits_parts_keep None ps work names next run = fails_keep next run
fits_parts_keep (Some vs) ps work names next run = refl

fits_shape_keeps : (x : PatternLayer) (v : DslxValue) (work : List Waiting) (names : List Given) (next : Sequel) (run : ConstState)
    → answer_of (s.fits_shape x v work names next run)
    ≡ answer run.todo (fitting next (and_then ((shape_means x).fits (env_in run) v (env_past names run)) (fit_all (env_in run) work)) (place_of run))
fits_shape_keeps Shape-F.Wild v work names next run = refl
fits_shape_keeps (Shape-F.Shape::Bool b) v work names next run = fits_if_keeps (same_value v (bool_value b)) work names next run
fits_shape_keeps (Shape-F.Shape::Number n) v work names next run = uses_number_keeps n (doing (Compares v work names next ∷ []) run)
fits_shape_keeps (Shape-F.Shape::Name name) v work names next run =
    fits_name_keeps (is_constant_within run.text run.left name) name v work names next run
    ∙ ap (λ b. answer run.todo (fitting next (and_then (named_fits b name v (env_past names run)) (fit_all (env_in run) work)) (place_of run)))
    (sym (constant_is run.kept run.text run.left name))
fits_shape_keeps (Shape-F.Shape::Member e a) v work names next run = uses_member_keeps e.name a.name (doing (Compares v work names next ∷ []) run)
fits_shape_keeps (Shape-F.Shape::Tuple ps) v work names next run = fits_parts_keep (elements_of v) ps work names next run

-- a pattern at a place, where these names of the whole pattern are bound already
abbrev fits_past : Pattern → DslxValue → List Given → ConstState → Option Env
fits_past p v names run = (pattern_denotation p).fits (env_in run) v (env_past names run)

pub fits_one_keeps : (p : Pattern) (v : DslxValue) (work : List Waiting) (names : List Given) (next : Sequel) (run : ConstState)
    → answer_of (s.fits_one p v work names next run)
    ≡ answer run.todo (fitting next (and_then (fits_past p v names run) (fit_all (env_in run) work)) (place_of run))
fits_one_keeps p v work names next run =
    fits_shape_keeps (shape_of p) v work names next run
    ∙ ap (λ (x : PatternDen). answer run.todo (fitting next (and_then (x.fits (env_in run) v (env_past names run)) (fit_all (env_in run) work)) (place_of run)))
    (sym (pattern_opened p))

-- a pattern in which nothing is bound yet, and behind which nothing waits
pub fits_alone : (p : Pattern) (v : DslxValue) (next : Sequel) (run : ConstState)
    → answer_of (s.fits_one p v [] [] next run) ≡ answer run.todo (fitting next (fitted p v (env_in run)) (place_of run))
fits_alone p v next run = fits_one_keeps p v [] [] next run ∙ ap (λ o. answer run.todo (fitting next o (place_of run))) (gives_itself (fitted p v (env_in run)))

-- ---- all patterns

-- with other names bound
abbrev bound_as : Place → List Given → Place
bound_as p bound = record p { bound = bound }

goes_on_keeps : (names : List Given) (next : Sequel) (run : ConstState)
    → answer_of (s.goes_on names next run) ≡ answer run.todo (fitting next (Some (env_past names run)) (place_of run))
goes_on_keeps names (ThenStatements ss last) run =
    ap (λ bound. answer run.todo (bound_as (gives (statements_mean ss last (env_past names run)) (place_of run)) bound)) (drop-append_seam names run.bound)
goes_on_keeps names (ThenAccumulator p v b) run =
    fits_alone p v (ThenBody (length names) b) (binding_all names run)
    ∙ ap (λ bound. answer run.todo (bound_as (gives (and_then (fitted p v (env_past names run)) (value_of_block b)) (place_of run)) bound)) (drop-append_seam names run.bound)
goes_on_keeps names (ThenBody k b) run =
    ap (λ bound. answer run.todo (forgot k (bound_as (gives (value_of_block b (env_past names run)) (place_of run)) bound))) (drop-append_seam names run.bound)
goes_on_keeps names (ThenArm ps a rest v) run =
    ap (λ bound. answer run.todo (bound_as (gives (value_of (out-Arm a).value (env_past names run)) (place_of run)) bound)) (drop-append_seam names run.bound)

fits_first_keeps : (ps : List Pattern) (vs : List DslxValue) (work : List Waiting) (names : List Given) (next : Sequel) (run : ConstState)
    → answer_of (s.fits_first ps vs work names next run)
    ≡ answer run.todo (fitting next (and_then (m.fit_each (env_in run) (map pattern_denotation ps) vs (env_past names run)) (fit_all (env_in run) work)) (place_of run))
fits_first_keeps [] [] work names next run = refl
fits_first_keeps [] (v ∷ vs) work names next run = fails_keep next run
fits_first_keeps (p ∷ ps) [] work names next run = fails_keep next run
fits_first_keeps (p ∷ ps) (v ∷ vs) work names next run =
    fits_one_keeps p v (record { patterns = ps; values = vs } ∷ work) names next run
    ∙ ap (λ o. answer run.todo (fitting next o (place_of run)))
    (sym (in_turn (fits_past p v names run) (m.fit_each (env_in run) (map pattern_denotation ps) vs) (fit_all (env_in run) work)))

pub fits_all_keep : (work : List Waiting) (names : List Given) (next : Sequel) (run : ConstState)
    → answer_of (s.fits_all work names next run) ≡ answer run.todo (fitting next (fit_all (env_in run) work (env_past names run)) (place_of run))
fits_all_keep [] names next run = goes_on_keeps names next run
fits_all_keep (w ∷ work) names next run = fits_first_keeps w.patterns w.values work names next run

-- ---- matches

-- arms, of which the first is tried by all its patterns
arms_tried : (a : Arm) (rest : List Arm) (v : DslxValue) (env : Env) → m.match_arms (map arm_means (a ∷ rest)) v env ≡ tried_value (out-Arm a).patterns a rest v env
arms_tried a [] v env = ap (λ (x : ArmDen). m.take_arm x (m.first_fit x.patterns v env) (m.value_without x env)) (arm_opened a)
arms_tried a (b ∷ rest) v env = ap (λ (x : ArmDen). m.take_arm x (m.first_fit x.patterns v env) (m.match_arms (map arm_means (b ∷ rest)) v env)) (arm_opened a)

last_or_next_keeps : (a : Arm) (rest : List Arm) (v : DslxValue) (run : ConstState)
    → answer_of (s.last_or_next a rest v run) ≡ answer run.todo (gives (rest_value a rest v (env_in run)) (place_of run))
last_or_next_keeps a [] v run =
    ap (λ ns. answer run.todo (gives (if list_all (env_in run).items.is_constant ns then value_of (out-Arm a).value (env_in run) else None) (place_of run)))
    (append-nil (m.all_names (map pattern_denotation (out-Arm a).patterns)))
last_or_next_keeps a (b ∷ rest) v run = ap (λ o. answer run.todo (gives o (place_of run))) (sym (arms_tried b rest v (env_in run)))

-- a pattern that fits, or else those behind it
either_fits : (x : ArmDen) (o q : Option Env) (rest : Option DslxValue) → m.take_arm x o (m.take_arm x q rest) ≡ m.take_arm x (or_else o q) rest
either_fits x None q rest = refl
either_fits x (Some env) q rest = refl

pub tries_keep : (ps : List Pattern) (a : Arm) (rest : List Arm) (v : DslxValue) (run : ConstState)
    → answer_of (s.tries ps a rest v run) ≡ answer run.todo (gives (tried_value ps a rest v (env_in run)) (place_of run))
tries_keep [] a rest v run = last_or_next_keeps a rest v run
tries_keep (p ∷ ps) a rest v run =
    fits_alone p v (ThenArm ps a rest v) run
    ∙ ap (λ o. answer run.todo (gives o (place_of run)))
    (either_fits (arm_by_parts a) (fitted p v (env_in run)) (m.first_fit (map pattern_denotation ps) v (env_in run)) (rest_value a rest v (env_in run)))

pub selects_keep : (arms : List Arm) (v : DslxValue) (run : ConstState)
    → answer_of (s.selects arms v run) ≡ answer run.todo (gives (m.match_arms (map arm_means arms) v (env_in run)) (place_of run))
selects_keep [] v run = refl
selects_keep (a ∷ rest) v run = ap (λ o. answer run.todo (gives o (place_of run))) (sym (arms_tried a rest v (env_in run)))

-- an expression where all these names are constants'
abbrev if_constant : Env → List (List ℕ) → Expr → Option DslxValue
if_constant env names e = if list_all env.items.is_constant names then value_of e env else None

binds_nothing_keeps : (x : PatternLayer) (ps : List Pattern) (pss : List (List Pattern)) (e : Expr) (run : ConstState)
    → answer_of (s.binds_nothing x (ps ∷ pss) e run)
    ≡ answer run.todo (gives (if_constant (env_in run) (((shape_means x).names ++ m.all_names (map pattern_denotation ps)) ++ names_in pss) e) (place_of run))
binds_nothing_keeps Shape-F.Wild ps pss e run = refl
binds_nothing_keeps (Shape-F.Shape::Bool b) ps pss e run = refl
binds_nothing_keeps (Shape-F.Shape::Number n) ps pss e run = refl
binds_nothing_keeps (Shape-F.Shape::Name name) ps pss e run = by (is_constant_within run.text run.left name) refl
  where
    by : (b : Bool) → is_constant_within run.text run.left name ≡ b
        → answer_of (s.binds_nothing (Shape-F.Shape::Name name) (ps ∷ pss) e run)
        ≡ answer run.todo (gives (if_constant (env_in run) (name ∷ (m.all_names (map pattern_denotation ps) ++ names_in pss)) e) (place_of run))
    by true is =
        let known : (env_in run).items.is_constant name ≡ true = constant_is run.kept run.text run.left name ∙ is in
        rw (is, known) refl
    by false is =
        let known : (env_in run).items.is_constant name ≡ false = constant_is run.kept run.text run.left name ∙ is in
        rw (is, known) refl
binds_nothing_keeps (Shape-F.Shape::Member x a) ps pss e run = refl
binds_nothing_keeps (Shape-F.Shape::Tuple qs) ps pss e run =
    ap (λ ns. answer run.todo (gives (if_constant (env_in run) ns e) (place_of run)))
    (sym (append_assoc (m.all_names (map pattern_denotation qs)) (m.all_names (map pattern_denotation ps)) (names_in pss)))

pub all_bind_nothing_keep : (pss : List (List Pattern)) (e : Expr) (run : ConstState)
    → answer_of (s.all_bind_nothing pss e run) ≡ answer run.todo (gives (value_if_nothing pss e (env_in run)) (place_of run))
all_bind_nothing_keep [] e run = refl
all_bind_nothing_keep ([] ∷ pss) e run = refl
all_bind_nothing_keep ((p ∷ ps) ∷ pss) e run =
    binds_nothing_keeps (shape_of p) ps pss e run
    ∙ ap (λ (x : PatternDen). answer run.todo (gives (if_constant (env_in run) ((x.names ++ m.all_names (map pattern_denotation ps)) ++ names_in pss) e) (place_of run))) (sym (pattern_opened p))

-- ---- loops

pub turns_keep : (f : For) (signed : Bool) (n : ℕ) (i : Word) (o : Option DslxValue) (run : ConstState)
    → answer_of (s.turns f signed n i o run) ≡ answer run.todo (gives (and_then o (m.turns_from (turn_of f (env_in run)) signed n i)) (place_of run))
turns_keep f signed n i None run = refl
turns_keep f signed zero i (Some v) run = refl
turns_keep f signed (suc n) i (Some v) run =
    fits_alone (out-For f).index (Bits signed i) (ThenAccumulator (out-For f).accumulator v (out-For f).body) (doing (Turns f signed n (add i (word i.width 1)) ∷ []) run)

pub last_keeps : (f : For) (start : DslxValue) (a : SignedWord) (o : Option SignedWord) (run : ConstState)
    → answer_of (s.last_found f start a o run) ≡ answer run.todo (gives (and_then o (m.loop_over (turn_of f (env_in run)) start a)) (place_of run))
last_keeps f start a None run = refl
last_keeps f start a (Some b) run = by (of_one_type a b) refl
  where
    by : (t : Bool) → of_one_type a b ≡ t → answer_of (s.last_found f start a (Some b) run) ≡ answer run.todo (gives (m.loop_over (turn_of f (env_in run)) start a b) (place_of run))
    by true is = rw is refl
    by false is = rw is refl

pub first_keeps : (f : For) (start : DslxValue) (o : Option SignedWord) (run : ConstState)
    → answer_of (s.first_found f start o run)
    ≡ answer run.todo (gives (with_both o (and_then (value_of (out-For f).to (env_in run)) bits_of) (m.loop_over (turn_of f (env_in run)) start)) (place_of run))
first_keeps f start None run = refl
first_keeps f start (Some a) run =
    ap (λ o. answer run.todo (gives o (place_of run)))
    (sym (one_then_other (Some a) (and_then (value_of (out-For f).to (env_in run)) bits_of) (m.loop_over (turn_of f (env_in run)) start)))

pub loop_keeps : (f : For) (o : Option DslxValue) (run : ConstState)
    → answer_of (s.loop_begins f o run) ≡ answer run.todo (gives (and_then o (λ start. from_first f start (value_of (out-For f).from (env_in run)) (env_in run))) (place_of run))
loop_keeps f None run = refl
loop_keeps f (Some start) run = refl
