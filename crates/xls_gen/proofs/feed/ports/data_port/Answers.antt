use Rattle.std.proofs.Common.{◌∙◌, ◌+◌, ◌*◌, length, get_or, ap, arith}
use Rattle.xls_gen.proofs.OnFeed.Channels.{channel_read, ports_there}
use Rattle.xls_gen.proofs.feed.ports.data_port.Goals as goal

pub overflow_mul-result : goal.overflow_mul-result
overflow_mul-result c = omega (arith, ports_there c.args.design.now c.args.channel c.requires, ap length c.as_slice.ensures, c.as_slice.type_inv)

pub overflow_add-result : goal.overflow_add-result
overflow_add-result c = omega (arith, ports_there c.args.design.now c.args.channel c.requires, ap length c.as_slice.ensures, c.as_slice.type_inv)

pub offset_bounds-as_slice-channel : goal.offset_bounds-as_slice-channel
offset_bounds-as_slice-channel c = omega (arith, ports_there c.args.design.now c.args.channel c.requires, ap length c.as_slice.ensures, c.as_slice.type_inv)

pub bounds-as_slice-channel : goal.bounds-as_slice-channel
bounds-as_slice-channel c = omega (arith, ports_there c.args.design.now c.args.channel c.requires, ap length c.as_slice.ensures)

pub returns : goal.returns
returns c =
    let p = c.index-as_slice-channel.result in
    channel_read c.args.design.now c.args.channel p c.requires (c.index-as_slice-channel.is ∙ ap (λ ports. get_or ports (2 + 3 * c.args.channel) p) c.as_slice.ensures)
