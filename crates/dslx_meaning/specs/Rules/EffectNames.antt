-- Which calls are effects, and at which channel.
use Rattle.std.specs.Prelude.{ℕ, List, ◌∷◌, Bool, true, false, Option, None}
use Rattle.dslx_tree.specs.declared.block.Stmt.TheOpen.{Node-F}
use Rattle.dslx_tree.specs.declared.expr.Expr.{Expr}
use Rattle.dslx_meaning.specs.Callees.{CallKind, kind_of_call, Receives, ReceivesIf, Sends, SendsIf}
use Rattle.dslx_meaning.specs.Activation.{NodeLayer, node_of, name_in_node}

abbrev pub is_effect_kind : CallKind → Bool
is_effect_kind Receives = true
is_effect_kind ReceivesIf = true
is_effect_kind Sends = true
is_effect_kind SendsIf = true
is_effect_kind _ = false

abbrev pub is_effect_node : NodeLayer → Bool
is_effect_node (Node-F.Call f parametric_args es) = is_effect_kind (kind_of_call f.name)
is_effect_node _ = false

-- the expression is a receive or a send
abbrev pub is_effect : Expr → Bool
is_effect e = is_effect_node (node_of e)

abbrev pub second_name : List Expr → Option (List ℕ)
second_name (t ∷ c ∷ es) = name_in_node (node_of c)
second_name _ = None

abbrev pub channel_if : Bool → List Expr → Option (List ℕ)
channel_if true es = second_name es
channel_if false es = None

abbrev pub channel_in : NodeLayer → Option (List ℕ)
channel_in (Node-F.Call f parametric_args es) = channel_if (is_effect_kind (kind_of_call f.name)) es
channel_in _ = None

-- the name of an effect's channel, if it is an effect whose channel is a name
abbrev pub effect_channel : Expr → Option (List ℕ)
effect_channel e = channel_in (node_of e)
