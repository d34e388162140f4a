-- One activation of a proc: what it does at each site, in textual order, and then the next state.
use Rattle.std.specs.Prelude.{ℕ, List, [], ◌∷◌, ◌++◌, Bool, true, false, Option, Some, None, if◌then◌else◌}
use Rattle.std.specs.Str.{bytes_eq}
use Rattle.xb_bits.specs.Word.{Word}
use Rattle.xb_value.specs.declared.value.Value.{Value}
use Rattle.xb_value.specs.declared.value.Value as plain
use Rattle.net_core.specs.Behavior.{Turn, Skip, Receive, Give}
use Rattle.dslx_tree.specs.declared.block.Stmt.{Stmt, out-Stmt}
use Rattle.dslx_tree.specs.declared.block.Stmt.TheOpen.{Stmt-F, Node-F}
use Rattle.dslx_tree.specs.declared.block.Block.{Block, out-Block}
use Rattle.dslx_tree.specs.declared.block.Let.{Let, out-Let}
use Rattle.dslx_tree.specs.declared.expr.Expr.{Expr, out-Expr}
use Rattle.dslx_tree.specs.declared.expr.Node.{Node, out-Node}
use Rattle.dslx_tree.specs.declared.expr.Number.{Number}
use Rattle.dslx_tree.specs.declared.expr.Arg.{Arg}
use Rattle.dslx_tree.specs.declared.expr.Arm.{Arm}
use Rattle.dslx_tree.specs.declared.expr.For.{For}
use Rattle.dslx_tree.specs.declared.expr.FieldValue.{FieldValue}
use Rattle.dslx_tree.specs.declared.pattern.Pattern.{Pattern}
use Rattle.dslx_tree.specs.declared.pattern.Shape.{Shape}
use Rattle.dslx_tree.specs.declared.type_expr.TypeExpr.{TypeExpr}
use Rattle.dslx_tree.specs.declared.type_expr.TypeNode.{TypeNode}
use Rattle.dslx_tree.specs.declared.process.Proc.{Proc}
use Rattle.dslx_tree.specs.declared.process.End.{End}
use Rattle.dslx_meaning.specs.Lists.{and_then}
use Rattle.dslx_meaning.specs.Callees.{CallKind, kind_of_call, Receives, ReceivesIf, Sends, SendsIf}
use Rattle.dslx_meaning.specs.Values.{plain_value, at_type, flat_word, from_word, unit_value}
use Rattle.dslx_meaning.specs.Operators.{truth}
use Rattle.dslx_meaning.specs.Environment.{Meanings, Env, bind}
use Rattle.dslx_meaning.specs.Meaning.{value_of, value_of_block, written_type, fitted}
use Rattle.dslx_meaning.specs.Items.{instance_env}
use Rattle.dslx_meaning.specs.declared.ty.DslxType.{DslxType}
use Rattle.dslx_meaning.specs.declared.value.DslxValue.{DslxValue, Tuple, Token}

-- one level of a statement and of what an expression is
abbrev pub NodeLayer : Type 0
NodeLayer = Node-F Stmt Node Shape TypeNode Block Let Arg Arm Expr FieldValue For Number Pattern TypeExpr

abbrev pub StmtLayer : Type 0
StmtLayer = Stmt-F Stmt Node Shape TypeNode Block Let Arg Arm Expr FieldValue For Number Pattern TypeExpr

abbrev pub node_of : Expr → NodeLayer
node_of e = out-Node (out-Expr e).node

-- the name that an expression is
abbrev pub name_in_node : NodeLayer → Option (List ℕ)
name_in_node (Node-F.Node::Name name) = Some name
name_in_node _ = None

-- what an expression does as a statement or as the whole value of a `let`
pub data SiteAct : Type 0 where
  -- it has a value alone
  Computes : SiteAct
  -- it receives from the channel of this name
  TakesWord : List ℕ → SiteAct
  -- where the first expression holds; else it gives the value of the second one and takes nothing
  TakesWordIf : List ℕ → Expr → Expr → SiteAct
  -- it sends the value of the expression there
  SendsWord : List ℕ → Expr → SiteAct
  -- where the first expression holds
  SendsWordIf : List ℕ → Expr → Expr → SiteAct

abbrev pub at_channel : Expr → (List ℕ → SiteAct) → SiteAct
at_channel e act = if_named (name_in_node (node_of e))
  where
    if_named : Option (List ℕ) → SiteAct
    if_named None = Computes
    if_named (Some name) = act name

abbrev pub act_of_call : CallKind → List Expr → SiteAct
act_of_call Receives (t ∷ c ∷ []) = at_channel c TakesWord
act_of_call ReceivesIf (t ∷ c ∷ p ∷ e ∷ []) = at_channel c (λ name. TakesWordIf name p e)
act_of_call Sends (t ∷ c ∷ e ∷ []) = at_channel c (λ name. SendsWord name e)
act_of_call SendsIf (t ∷ c ∷ p ∷ e ∷ []) = at_channel c (λ name. SendsWordIf name p e)
act_of_call _ _ = Computes

abbrev pub act_of_node : NodeLayer → SiteAct
act_of_node (Node-F.Call f parametric_args es) = act_of_call (kind_of_call f.name) es
act_of_node _ = Computes

abbrev pub act_of : Expr → SiteAct
act_of e = act_of_node (node_of e)

-- what an activation comes to: what it does at its sites, in their order, and the value that the block then has.
-- Where a value or a word is missing, both end
pub record Activity : Type 0 where
  pub turns : List Turn
  pub last : Option DslxValue

abbrev pub at_an_end : Activity
at_an_end = record { turns = []; last = None }

abbrev pub then_goes : Turn → Activity → Activity
then_goes turn rest = record { turns = turn ∷ rest.turns; last = rest.last }

-- the rest of a block, from what is bound and the words that will be received
abbrev pub Further : Type 0
Further = Env → List Word → Activity

-- what is bound by a value that was taken apart
abbrev pub Binder : Type 0
Binder = DslxValue → Option Env

abbrev pub further : Further → Option Env → List Word → Activity
further rest None words = at_an_end
further rest (Some env) words = rest env words

-- a token and a word
abbrev pub pair_with : DslxValue → DslxValue
pair_with v = Tuple (Token ∷ v ∷ [])

abbrev pub take_word : Option DslxType → Binder → Further → List Word → Activity
take_word None binds rest words = at_an_end
take_word (Some t) binds rest [] = record { turns = Receive ∷ []; last = None }
take_word (Some t) binds rest (w ∷ words) = then_goes Receive (further rest (binds (pair_with (from_word t w))) words)

abbrev pub send_word : Option DslxValue → Binder → Further → List Word → Activity
send_word None binds rest words = at_an_end
send_word (Some v) binds rest words = then_goes (Give (flat_word v)) (further rest (binds Token) words)

-- at a site that is off nothing is done
abbrev pub if_on : Option Bool → Activity → Option DslxValue → Binder → Further → List Word → Activity
if_on None on default binds rest words = at_an_end
if_on (Some true) on default binds rest words = on
if_on (Some false) on default binds rest words = then_goes Skip (further rest (and_then default binds) words)

-- the type of the words at a member
abbrev pub member_type : Env → List End → List ℕ → Option DslxType
member_type env [] name = None
member_type env (e ∷ es) name = if bytes_eq name e.name.name then written_type e.word env else member_type env es name

-- the type environment of the statements: the members, and what they were instantiated with
pub record SiteEnv : Type 0 where
  pub members : List End
  pub env : Env

abbrev pub word_type_at : SiteEnv → List ℕ → Option DslxType
word_type_at site name = member_type site.env site.members name

abbrev pub do_act : SiteEnv → SiteAct → Expr → Binder → Further → Further
do_act site Computes e binds rest env words = further rest (and_then (value_of e env) binds) words
do_act site (TakesWord c) e binds rest env words = take_word (word_type_at site c) binds rest words
do_act site (TakesWordIf c p other) e binds rest env words =
    if_on (and_then (value_of p env) truth) (take_word (word_type_at site c) binds rest words)
    (and_then (value_of other env) (λ v. Some (pair_with v))) binds rest words
do_act site (SendsWord c word) e binds rest env words = send_word (value_of word env) binds rest words
do_act site (SendsWordIf c p word) e binds rest env words =
    if_on (and_then (value_of p env) truth) (send_word (value_of word env) binds rest words) (Some Token) binds rest words

abbrev pub do_stmt : SiteEnv → StmtLayer → Further → Further
do_stmt site (Stmt-F.Let l) rest env words = do_act site (act_of (out-Let l).value) (out-Let l).value (λ v. fitted (out-Let l).pattern v env) rest env words
do_stmt site (Stmt-F.Bare e) rest env words = do_act site (act_of e) e (λ v. Some env) rest env words

-- the value of the last expression, () without one
abbrev pub last_value_of : Option Expr → Env → Option DslxValue
last_value_of None env = Some unit_value
last_value_of (Some e) env = value_of e env

abbrev pub do_stmts : SiteEnv → List Stmt → Option Expr → Further
do_stmts site [] last env words = record { turns = []; last = last_value_of last env }
do_stmts site (s ∷ ss) last env words = do_stmt site (out-Stmt s) (do_stmts site ss last) env words

-- ---- an instance of a proc

abbrev pub state_type_of : Meanings → Proc → List DslxValue → Option DslxType
state_type_of items p parametric_args = written_type p.next.ty (instance_env items p.parametrics parametric_args)

abbrev pub activity_from : Meanings → Proc → List DslxValue → Value → List Word → Option DslxType → Activity
activity_from items p parametric_args state words None = at_an_end
activity_from items p parametric_args state words (Some t) =
    let env = instance_env items p.parametrics parametric_args in
    do_stmts (record { members = p.members; env = env }) (out-Block p.next.body).statements (out-Block p.next.body).value
    (bind p.next.state.name (at_type t state) env) words

-- an activation of a proc with these parametric arguments, from a state, over the words that it receives
abbrev pub activation_of : Meanings → Proc → List DslxValue → Value → List Word → Activity
activation_of items p parametric_args state words = activity_from items p parametric_args state words (state_type_of items p parametric_args)

-- the value of `init`
abbrev pub opening_state : Meanings → Proc → List DslxValue → Option DslxValue
opening_state items p parametric_args = value_of_block p.init (instance_env items p.parametrics parametric_args)

abbrev pub turn_at : Option Turn → Turn
turn_at None = Skip
turn_at (Some turn) = turn

abbrev pub state_of : Option DslxValue → Value
state_of None = plain.Tuple []
state_of (Some v) = plain_value v

-- ---- its sites, in textual order

-- a site: the member's name, and whether it sends
pub record SiteName : Type 0 where
  pub member : List ℕ
  pub sends : Bool

abbrev pub sites_in_act : SiteAct → List SiteName
sites_in_act Computes = []
sites_in_act (TakesWord c) = record { member = c; sends = false } ∷ []
sites_in_act (TakesWordIf c p e) = record { member = c; sends = false } ∷ []
sites_in_act (SendsWord c e) = record { member = c; sends = true } ∷ []
sites_in_act (SendsWordIf c p e) = record { member = c; sends = true } ∷ []

abbrev pub sites_in_stmt : StmtLayer → List SiteName
sites_in_stmt (Stmt-F.Let l) = sites_in_act (act_of (out-Let l).value)
sites_in_stmt (Stmt-F.Bare e) = sites_in_act (act_of e)

abbrev pub sites_in_stmts : List Stmt → List SiteName
sites_in_stmts [] = []
sites_in_stmts (s ∷ ss) = sites_in_stmt (out-Stmt s) ++ sites_in_stmts ss

abbrev pub site_names : Proc → List SiteName
site_names p = sites_in_stmts (out-Block p.next.body).statements
