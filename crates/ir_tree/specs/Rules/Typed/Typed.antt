-- That each node has a value of its type, and what the rules and limits say of a proc of a verified package.
use Rattle.std.specs.Prelude.{◌≡◌, ℕ, ◌≤◌, Bool, not, List, [], length, get_or, slice_get, Some, IsTrue}
use Rattle.std.specs.List.{list_all}
use Rattle.xb_span.specs.declared.span.Span.{Span}
use Rattle.xb_value.specs.declared.ty.Ty.{Ty}
use Rattle.xb_value.specs.declared.value.Value.{Value}
use Rattle.xb_value.specs.Typing.{IsOfType}
use Rattle.xb_value.specs.Width.{width_of, HasWidths}
use Rattle.ir_tree.specs.declared.node.Node.{Node}
use Rattle.ir_tree.specs.declared.package.Channel.{Channel}
use Rattle.ir_tree.specs.declared.package.Proc.{Proc}
use Rattle.ir_tree.specs.Types.{ty_of}
use Rattle.ir_tree.specs.Constants.{no_value}
use Rattle.ir_tree.specs.Activations.{sites_of}
use Rattle.ir_tree.specs.Rules.Checks.{Check}
use Rattle.ir_tree.specs.Rules.Lines.{Seen, head_checks, next_checks}
use Rattle.ir_tree.specs.Rules.Verified.{nodes_checks}

-- each node has a value, which is of its type
pub record HaveTypes (nodes : List Node) (values : List Value) : Type 0 where
  pub count : length values ≡ length nodes
  pub each : (i : ℕ) (n : Node) → slice_get nodes i ≡ Some n → IsOfType (ty_of n.ty) (get_or values i no_value)

-- words can be of the type: its bits are 1 to 128 wide, each and all together
pub record IsWordType (t : Ty) : Type 0 where
  pub widths : HasWidths t
  pub some_width : 1 ≤ width_of t
  pub most_width : width_of t ≤ 128

-- words can go over each channel
abbrev pub AreChannels : List Channel → Type 0
AreChannels channels = (c : ℕ) (channel : Channel) → slice_get channels c ≡ Some channel → IsWordType (ty_of channel.ty)

-- no check says that something is broken
abbrev pub none_broken : List Check → Bool
none_broken cs = list_all (λ (c : Check). not c.broken) cs

-- what rules and limits say of a proc, wherever its lines stand and whatever the procs before it leave
pub record IsVerifiedProc (channels : List Channel) (proc : Proc) : Type 0 where
  pub word_types : AreChannels channels
  pub head_span : Span
  pub names : List (List ℕ)
  pub head : IsTrue (none_broken (head_checks head_span names proc))
  pub spans : List Span
  pub seen : Seen
  pub nodes : IsTrue (none_broken (nodes_checks channels proc.state spans [] 0 seen proc.nodes))
  pub next_span : Span
  pub next : IsTrue (none_broken (next_checks next_span proc))
  pub sites : length (sites_of proc.nodes) ≤ 32
