use Rattle.std.proofs.Common.{◌≡◌, sym, subst, Some, ap, ◌∙◌}
use Rattle.std.specs.Prelude.{slice_get}
use Rattle.std.specs.Option.{option_copied}
use Rattle.ir_tree.specs.Rules.Typed.Typed.{IsWordType}
use Rattle.ir_eval.proofs.walk.heard.Goals as goal

pub word_value-requires : goal.word_value-requires
word_value-requires c =
    let there : slice_get c.args.channels.now c.args.channel ≡ Some c.in-Some.channel.now = sym c.at.ensures ∙ ap option_copied c.in-Some.is in
    subst IsWordType (sym c.in_ok-ty-in-Some.ensures) (c.requires c.args.channel c.in-Some.channel.now there)
