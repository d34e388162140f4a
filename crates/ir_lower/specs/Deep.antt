-- Words that no lowered proc receives: with its token beside such a word, more than 64 tuples and arrays would stand one in another.
use Rattle.std.specs.Prelude.{ℕ, Bool, false, not, ◌&&◌, nat_lt, List, Option, Some, None, option_map, slice_get}
use Rattle.std.specs.List.{list_any}
use Rattle.xb_span.specs.declared.limit.Limit.{Limit}
use Rattle.xb_span.specs.declared.limit.What.TheVariants as what
use Rattle.xb_value.specs.declared.ty.Ty.{Ty}
use Rattle.net_core.specs.declared.net.Chan.{Chan}
use Rattle.net_core.specs.declared.net.Net.{Net}
use Rattle.net_core.specs.declared.net.ProcHead.{ProcHead}
use Rattle.net_core.specs.declared.net.Site.{Site}
use Rattle.ir_tree.specs.NodeTypes.Types.{levels_of}
use Rattle.ir_rebuild.specs.Putting.Types.{ir_type_of}

-- the type of a channel's words
abbrev pub word_type : List Chan → ℕ → Option Ty
word_type chans c = option_map (λ (chan : Chan). chan.ty) (slice_get chans c)

abbrev pub is_deep : Option Ty → Bool
is_deep None = false
is_deep (Some t) = nat_lt 63 (levels_of (ir_type_of t))

abbrev pub is_deep_site : List Chan → Site → Bool
is_deep_site chans site = not site.sends && is_deep (word_type chans site.chan)

abbrev pub is_deep_head : List Chan → ProcHead → Bool
is_deep_head chans head = list_any (is_deep_site chans) head.sites

-- some proc of the network receives such a word
abbrev pub receives_deep : Net → Bool
receives_deep net = list_any (is_deep_head net.chans) net.procs

-- the limit that it passes
abbrev pub deep_limit : Limit
deep_limit = record { what = what.Levels; found = 65; most = 64 }
