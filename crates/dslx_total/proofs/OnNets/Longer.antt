-- What a proc does over some words it does over more words, too.
use Rattle.std.proofs.Common.{◌++◌, Bool, true, false, List, [], ◌∷◌, Option, Some, None, refl}
use Rattle.base.specs.Lists.Prefix.{IsPrefix}
use Rattle.xb_bits.specs.Word.{Word}
use Rattle.xb_value.specs.declared.value.Value.{Value}
use Rattle.dslx_tree.specs.declared.block.Block.{out-Block}
use Rattle.dslx_tree.specs.declared.block.Let.{out-Let}
use Rattle.dslx_tree.specs.declared.block.Stmt.{Stmt, out-Stmt}
use Rattle.dslx_tree.specs.declared.block.Stmt.TheOpen.{Stmt-F}
use Rattle.dslx_tree.specs.declared.expr.Expr.{Expr}
use Rattle.dslx_tree.specs.declared.process.Proc.{Proc}
use Rattle.dslx_meaning.specs.Activation.{Activity, Binder, Computes, Further, SendsWord, SendsWordIf, SiteAct, SiteEnv, StmtLayer, TakesWord, TakesWordIf, act_of, activation_of, activity_from, do_act, do_stmt, do_stmts, further, if_on, pair_with, send_word, state_type_of, take_word, word_type_at}
use Rattle.dslx_meaning.specs.Environment.{Env, Meanings, bind}
use Rattle.dslx_meaning.specs.Items.{instance_env}
use Rattle.dslx_meaning.specs.Lists.{and_then}
use Rattle.dslx_meaning.specs.Meaning.{fitted, value_of}
use Rattle.dslx_meaning.specs.Operators.{truth}
use Rattle.dslx_meaning.specs.Values.{at_type, from_word}
use Rattle.dslx_meaning.specs.declared.ty.DslxType.{DslxType}
use Rattle.dslx_meaning.specs.declared.value.DslxValue.{DslxValue, Token}

-- the one does all that the other does, and more
abbrev pub DoesMore : Activity → Activity → Type 0
DoesMore a b = IsPrefix a.turns b.turns

abbrev RestGrows : Further → Type 0
RestGrows rest = (env : Env) (words more : List Word) → DoesMore (rest env words) (rest env (words ++ more))

module _ (rest : Further) (k : RestGrows rest) where
  further_grows : (o : Option Env) (words more : List Word) → DoesMore (further rest o words) (further rest o (words ++ more))
  further_grows None words more = tt
  further_grows (Some env) words more = k env words more

  take_grows : (o : Option DslxType) (binds : Binder) (words more : List Word) → DoesMore (take_word o binds rest words) (take_word o binds rest (words ++ more))
  take_grows None binds words more = tt
  take_grows (Some t) binds [] [] = (refl, tt)
  take_grows (Some t) binds [] (w ∷ more) = (refl, tt)
  take_grows (Some t) binds (w ∷ words) more = (refl, further_grows (binds (pair_with (from_word t w))) words more)

  send_grows : (o : Option DslxValue) (binds : Binder) (words more : List Word) → DoesMore (send_word o binds rest words) (send_word o binds rest (words ++ more))
  send_grows None binds words more = tt
  send_grows (Some v) binds words more = (refl, further_grows (binds Token) words more)

  if_grows : (o : Option Bool) (on on_more : Activity) → DoesMore on on_more → (default : Option DslxValue) (binds : Binder) (words more : List Word)
      → DoesMore (if_on o on default binds rest words) (if_on o on_more default binds rest (words ++ more))
  if_grows None on on_more h default binds words more = tt
  if_grows (Some true) on on_more h default binds words more = h
  if_grows (Some false) on on_more h default binds words more = (refl, further_grows (and_then default binds) words more)

  act_grows : (site : SiteEnv) (a : SiteAct) (e : Expr) (binds : Binder) (env : Env) (words more : List Word) → DoesMore (do_act site a e binds rest env words) (do_act site a e binds rest env (words ++ more))
  act_grows site Computes e binds env words more = further_grows (and_then (value_of e env) binds) words more
  act_grows site (TakesWord c) e binds env words more = take_grows (word_type_at site c) binds words more
  act_grows site (TakesWordIf c p other) e binds env words more =
      if_grows (and_then (value_of p env) truth) (take_word (word_type_at site c) binds rest words) (take_word (word_type_at site c) binds rest (words ++ more))
      (take_grows (word_type_at site c) binds words more) (and_then (value_of other env) (λ v. Some (pair_with v))) binds words more
  act_grows site (SendsWord c word) e binds env words more = send_grows (value_of word env) binds words more
  act_grows site (SendsWordIf c p word) e binds env words more =
      if_grows (and_then (value_of p env) truth) (send_word (value_of word env) binds rest words) (send_word (value_of word env) binds rest (words ++ more))
      (send_grows (value_of word env) binds words more) (Some Token) binds words more

  stmt_grows : (site : SiteEnv) (x : StmtLayer) (env : Env) (words more : List Word) → DoesMore (do_stmt site x rest env words) (do_stmt site x rest env (words ++ more))
  stmt_grows site (Stmt-F.Let l) env words more = act_grows site (act_of (out-Let l).value) (out-Let l).value (λ v. fitted (out-Let l).pattern v env) env words more
  stmt_grows site (Stmt-F.Bare e) env words more = act_grows site (act_of e) e (λ v. Some env) env words more

stmts_grow : (site : SiteEnv) (ss : List Stmt) (last : Option Expr) (env : Env) (words more : List Word) → DoesMore (do_stmts site ss last env words) (do_stmts site ss last env (words ++ more))
stmts_grow site [] last env words more = tt
stmts_grow site (s ∷ ss) last env words more = stmt_grows (do_stmts site ss last) (λ inner words more. stmts_grow site ss last inner words more) site (out-Stmt s) env words more

pub activation_grows : (items : Meanings) (p : Proc) (parametric_args : List DslxValue) (state : Value) (words more : List Word)
    → DoesMore (activation_of items p parametric_args state words) (activation_of items p parametric_args state (words ++ more))
activation_grows items p parametric_args state words more = by_type (state_type_of items p parametric_args)
  where
    by_type : (o : Option DslxType) → DoesMore (activity_from items p parametric_args state words o) (activity_from items p parametric_args state (words ++ more) o)
    by_type None = tt
    by_type (Some t) =
        let env = instance_env items p.parametrics parametric_args in
        stmts_grow (record { members = p.members; env = env }) (out-Block p.next.body).statements (out-Block p.next.body).value (bind p.next.state.name (at_type t state) env) words more
