use Rattle.std.proofs.Common.{◌≡◌, ◌≢◌, ◌+◌, true, take, length, arith, [], subst, sym, ◌∙◌}
use Rattle.std.proofs.lemmas.Grind.{common_steps}
use Rattle.std.proofs.lemmas.List.{take_rest, take_all, drop_all}
use Rattle.base.specs.Texts.Inner.Split.{IsSplit}
use Rattle.base.proofs.OnTexts.Cuts.{is_one_line, cut_at, cut_whole}
use Rattle.base.proofs.texts.lines.split_line.Goals as goal

pub returns-then-byte-eq10 : goal.returns-then-byte-eq10
returns-then-byte-eq10 c =
    subst (λ rest. IsSplit c.args.text.now (take c.loop-at.at c.args.text.now) rest) (sym (take_rest c.args.text.now (c.loop-at.at + 1)))
    (cut_at c.args.text.now c.loop-at.at c.loop-at.invariant (omega arith) (omega arith))

pub returns : goal.returns
returns c =
    let whole : take c.loop-at.at c.args.text.now ≡ c.args.text.now = take_all c.loop-at.at c.args.text.now (omega arith) in
    let plain : is_one_line c.args.text.now ≡ true = subst (λ t. is_one_line t ≡ true) whole c.loop-at.invariant in
    let some : c.args.text.now ≢ [] = λ e. grind (arith, common_steps) in
    let none = take_rest c.args.text.now (length c.args.text.now) ∙ drop_all (length c.args.text.now) c.args.text.now (omega arith) in
    subst (λ rest. IsSplit c.args.text.now c.args.text.now rest) (sym none) (cut_whole c.args.text.now plain some)
