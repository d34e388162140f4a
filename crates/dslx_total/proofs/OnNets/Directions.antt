-- What a proc does at a site, whatever its state and the words are: it only receives, or only sends; and there are no more turns than sites.
use Rattle.std.proofs.Common.{◌≡◌, ◌≤◌, ◌++◌, ℕ, zero, suc, Bool, true, false, List, [], ◌∷◌, map, length, Option, Some, None, arith, refl, subst, ◌∙◌}
use Rattle.std.specs.Prelude.{slice_get}
use Rattle.xb_bits.specs.Word.{Word}
use Rattle.xb_value.specs.declared.value.Value.{Value}
use Rattle.net_core.specs.Behavior.{Turn, Skip, Receive, Give, IsInDirection}
use Rattle.net_core.specs.declared.net.Site.{Site}
use Rattle.dslx_tree.specs.declared.block.Block.{out-Block}
use Rattle.dslx_tree.specs.declared.block.Let.{out-Let}
use Rattle.dslx_tree.specs.declared.block.Stmt.{Stmt, out-Stmt}
use Rattle.dslx_tree.specs.declared.block.Stmt.TheOpen.{Stmt-F}
use Rattle.dslx_tree.specs.declared.expr.Expr.{Expr}
use Rattle.dslx_tree.specs.declared.process.Proc.{Proc}
use Rattle.dslx_meaning.specs.Activation.{Activity, Binder, Computes, Further, SendsWord, SendsWordIf, SiteAct, SiteEnv, SiteName, StmtLayer, TakesWord, TakesWordIf, act_of, activation_of, activity_from, do_act, do_stmt, do_stmts, further, if_on, pair_with, send_word, site_names, sites_in_act, sites_in_stmt, sites_in_stmts, state_type_of, take_word, turn_at, word_type_at}
use Rattle.dslx_meaning.specs.Environment.{Env, Meanings, bind}
use Rattle.dslx_meaning.specs.Items.{instance_env}
use Rattle.dslx_meaning.specs.Lists.{and_then}
use Rattle.dslx_meaning.specs.Meaning.{fitted, value_of}
use Rattle.dslx_meaning.specs.Operators.{truth}
use Rattle.dslx_meaning.specs.Values.{at_type, from_word}
use Rattle.dslx_meaning.specs.declared.ty.DslxType.{DslxType}
use Rattle.dslx_meaning.specs.declared.value.DslxValue.{DslxValue, Token}
use Rattle.dslx_core.proofs.Lemmas.Typing.Typed.{same_some}

-- a turn at a site that receives or sends
abbrev pub GoesBy : SiteName → Turn → Type 0
GoesBy n Skip = Unit {0}
GoesBy n Receive = n.sends ≡ false
GoesBy n (Give w) = n.sends ≡ true

-- the first of these sites have these turns
abbrev pub AllGoBy : List SiteName → List Turn → Type 0
AllGoBy ns [] = Unit {0}
AllGoBy [] (t ∷ ts) = ⊥
AllGoBy (n ∷ ns) (t ∷ ts) = GoesBy n t × AllGoBy ns ts

abbrev RestGoesBy : List SiteName → Further → Type 0
RestGoesBy more rest = (env : Env) (words : List Word) → AllGoBy more (rest env words).turns

none_go : (ns : List SiteName) → AllGoBy ns []
none_go [] = tt
none_go (n ∷ ns) = tt

module _ (more : List SiteName) (rest : Further) (k : RestGoesBy more rest) where
  further_goes_by : (o : Option Env) (words : List Word) → AllGoBy more (further rest o words).turns
  further_goes_by None words = none_go more
  further_goes_by (Some env) words = k env words

  take_goes_by : (n : SiteName) → n.sends ≡ false → (o : Option DslxType) (binds : Binder) (words : List Word) → AllGoBy (n ∷ more) (take_word o binds rest words).turns
  take_goes_by n e None binds words = tt
  take_goes_by n e (Some t) binds [] = (e, none_go more)
  take_goes_by n e (Some t) binds (w ∷ words) = (e, further_goes_by (binds (pair_with (from_word t w))) words)

  send_goes_by : (n : SiteName) → n.sends ≡ true → (o : Option DslxValue) (binds : Binder) (words : List Word) → AllGoBy (n ∷ more) (send_word o binds rest words).turns
  send_goes_by n e None binds words = tt
  send_goes_by n e (Some v) binds words = (e, further_goes_by (binds Token) words)

  if_goes_by : (n : SiteName) (o : Option Bool) (on : Activity) → AllGoBy (n ∷ more) on.turns → (default : Option DslxValue) (binds : Binder) (words : List Word) → AllGoBy (n ∷ more) (if_on o on default binds rest words).turns
  if_goes_by n None on h default binds words = tt
  if_goes_by n (Some true) on h default binds words = h
  if_goes_by n (Some false) on h default binds words = (tt, further_goes_by (and_then default binds) words)

  act_goes_by : (site : SiteEnv) (a : SiteAct) (e : Expr) (binds : Binder) (env : Env) (words : List Word) → AllGoBy (sites_in_act a ++ more) (do_act site a e binds rest env words).turns
  act_goes_by site Computes e binds env words = further_goes_by (and_then (value_of e env) binds) words
  act_goes_by site (TakesWord c) e binds env words = take_goes_by (record { member = c; sends = false }) refl (word_type_at site c) binds words
  act_goes_by site (TakesWordIf c p other) e binds env words =
      if_goes_by (record { member = c; sends = false }) (and_then (value_of p env) truth) (take_word (word_type_at site c) binds rest words)
      (take_goes_by (record { member = c; sends = false }) refl (word_type_at site c) binds words) (and_then (value_of other env) (λ v. Some (pair_with v))) binds words
  act_goes_by site (SendsWord c word) e binds env words = send_goes_by (record { member = c; sends = true }) refl (value_of word env) binds words
  act_goes_by site (SendsWordIf c p word) e binds env words =
      if_goes_by (record { member = c; sends = true }) (and_then (value_of p env) truth) (send_word (value_of word env) binds rest words)
      (send_goes_by (record { member = c; sends = true }) refl (value_of word env) binds words) (Some Token) binds words

  stmt_goes_by : (site : SiteEnv) (x : StmtLayer) (env : Env) (words : List Word) → AllGoBy (sites_in_stmt x ++ more) (do_stmt site x rest env words).turns
  stmt_goes_by site (Stmt-F.Let l) env words = act_goes_by site (act_of (out-Let l).value) (out-Let l).value (λ v. fitted (out-Let l).pattern v env) env words
  stmt_goes_by site (Stmt-F.Bare e) env words = act_goes_by site (act_of e) e (λ v. Some env) env words

stmts_go_by : (site : SiteEnv) (ss : List Stmt) (last : Option Expr) (env : Env) (words : List Word) → AllGoBy (sites_in_stmts ss) (do_stmts site ss last env words).turns
stmts_go_by site [] last env words = tt
stmts_go_by site (s ∷ ss) last env words = stmt_goes_by (sites_in_stmts ss) (do_stmts site ss last) (λ inner words. stmts_go_by site ss last inner words) site (out-Stmt s) env words

-- of an activation, from any state and over any words
pub activation_goes_by : (items : Meanings) (p : Proc) (parametric_args : List DslxValue) (state : Value) (words : List Word) → AllGoBy (site_names p) (activation_of items p parametric_args state words).turns
activation_goes_by items p parametric_args state words = by_type (state_type_of items p parametric_args)
  where
    by_type : (o : Option DslxType) → AllGoBy (site_names p) (activity_from items p parametric_args state words o).turns
    by_type None = none_go (site_names p)
    by_type (Some t) =
        let env = instance_env items p.parametrics parametric_args in
        stmts_go_by (record { members = p.members; env = env }) (out-Block p.next.body).statements (out-Block p.next.body).value (bind p.next.state.name (at_type t state) env) words

-- ---- what follows

pub no_more_turns : (ns : List SiteName) (ts : List Turn) → AllGoBy ns ts → length ts ≤ length ns
no_more_turns ns [] h = omega arith
no_more_turns [] (t ∷ ts) h = absurd h
no_more_turns (n ∷ ns) (t ∷ ts) h = let rest = no_more_turns ns ts h.1 in omega (arith, rest)

goes_in_direction : (n : SiteName) (site : Site) (t : Turn) → site.sends ≡ n.sends → GoesBy n t → IsInDirection site t
goes_in_direction n site Skip e h = tt
goes_in_direction n site Receive e h = e ∙ h
goes_in_direction n site (Give w) e h = e ∙ h

-- each site of the network keeps its direction
pub direction_at : (f : SiteName → Site) → ((n : SiteName) → (f n).sends ≡ n.sends) → (ns : List SiteName) (ts : List Turn) → AllGoBy ns ts
    → (i : ℕ) (site : Site) → slice_get (map f ns) i ≡ Some site → IsInDirection site (turn_at (slice_get ts i))
direction_at f same ns [] h zero site e = tt
direction_at f same ns [] h (suc i) site e = tt
direction_at f same [] (t ∷ ts) h i site e = absurd h
direction_at f same (n ∷ ns) (t ∷ ts) h zero site e = subst (λ (x : Site). IsInDirection x t) (same_some (f n) site e) (goes_in_direction n (f n) t (same n) h.0)
direction_at f same (n ∷ ns) (t ∷ ts) h (suc i) site e = direction_at f same ns ts h.1 i site e
