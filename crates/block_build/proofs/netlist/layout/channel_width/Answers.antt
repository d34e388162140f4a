use Rattle.std.proofs.Common.{◌≡◌, ◌-◌, ◌^◌, min, Some, sym, ap, ◌∙◌}
use Rattle.std.specs.Prelude.{option_map, slice_get}
use Rattle.std.specs.Option.{option_copied}
use Rattle.ir_tree.specs.declared.package.Channel.{Channel}
use Rattle.ir_tree.specs.Activations.{width_at}
use Rattle.block_build.proofs.netlist.layout.channel_width.Goals as goal

pub returns-in-Some : goal.returns-in-Some
returns-in-Some c =
    let there : slice_get c.args.channels.now c.args.channel ≡ Some c.in-Some.channel.now = sym c.at.ensures ∙ ap option_copied c.in-Some.is in
    c.width_of.ensures ∙ ap (λ o. min (width_at (option_map (λ (channel : Channel). channel.ty) o)) (2 ^ 64 - 1)) (sym there)
