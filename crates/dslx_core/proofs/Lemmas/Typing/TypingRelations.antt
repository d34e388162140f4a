-- What parts of whole trees and items reach, and how long chains of items are. This module is for other crates' proofs; nothing else
-- of this folder is.
pub use Rattle.dslx_core.proofs.OnTyping.OnTyping.Joined.{expression_reaches, block_of_text_reaches, written_type_reaches, argument_reaches}
pub use Rattle.dslx_core.proofs.OnTyping.OnTyping.Parts.{join, parts, three_parts, unmarked}
pub use Rattle.dslx_core.proofs.OnTyping.OnTyping.OfItems.{arguments_reach, own_reached, found_ends, found_parametrics, parametrics_reach, cyclic_is, whole_is, item_so_named, function_is, den_reach, instances_reach, items_reach, default_reached}
pub use Rattle.dslx_core.proofs.OnTyping.OnTyping.OfCalls.{given_reach, parametric_args_reach}
pub use Rattle.dslx_core.proofs.OnTyping.OnTyping.Closed.{all_weaker, longer, closed, ends_so, every_item, in_first, in_second, itself}
pub use Rattle.dslx_core.proofs.OnTyping.OnCycles.Bare.{bare_mentions_nothing}
