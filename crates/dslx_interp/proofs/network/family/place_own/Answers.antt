use Rattle.std.proofs.Common.{◌≡◌, ◌+◌, ◌∙◌, length, map, ap, sym, subst, arith}
use Rattle.dslx_core.specs.Designs.{channel_of_end}
use Rattle.dslx_interp.specs.Network.Linked.{AllBelow}
use Rattle.dslx_interp.proofs.OnNetwork.OnFamily.Bounds.{member_channels}
use Rattle.dslx_interp.proofs.network.family.place_own.Goals as goal

pub channels_of_ends-requires : goal.channels_of_ends-requires
channels_of_ends-requires c =
    let made = length c.args.instance.now.made in
    let count : c.len-number.result ≡ length c.args.family.now.chans.items = c.len-number.ensures ∙ c.args.family.now.chans.ok.0 in
    let members = subst (AllBelow (length c.args.next.now.given + made)) (sym c.as_slice-members.ensures) c.requires.members in
    (made, omega (arith, count, c.requires.few), subst (λ given. AllBelow (length given + made) c.as_slice-members.result.now) (sym c.as_slice-given.ensures) members)

pub head_of-requires : goal.head_of-requires
head_of-requires c =
    let given = c.args.next.now.given in
    let members = c.args.instance.now.members in
    let number = length c.args.family.now.chans.items in
    let count : c.len-number.result ≡ number = c.len-number.ensures ∙ c.args.family.now.chans.ok.0 in
    let all = member_channels given number (length c.args.instance.now.made) members c.requires.given c.requires.members c.requires.few in
    let same : c.as_slice.result.now ≡ map (channel_of_end given number) members =
    c.as_slice.ensures
    ∙ c.in_ok-channels.ensures
    ∙ ap (λ g. map (channel_of_end g c.len-number.result) c.as_slice-members.result.now) c.as_slice-given.ensures
    ∙ ap (λ n. map (channel_of_end given n) c.as_slice-members.result.now) count
    ∙ ap (map (channel_of_end given number)) c.as_slice-members.ensures in
    subst (AllBelow 4294967296) (sym same) all
