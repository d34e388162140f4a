use Rattle.std.proofs.Common.{◌≡◌, [], ◌∷◌, ◌++◌, length, true, false, sym, ap, subst, ◌∙◌, IfOk}
use Rattle.ir_rebuild.specs.Built.{numbered}
use Rattle.pass_fold.specs.Constants.{constant_of}
use Rattle.pass_fold.specs.Folds.{is_foldable, folded_value}
use Rattle.pass_fold.proofs.Settling.{kept_if, kept_folds, folded_if, folded_folds}
use Rattle.pass_fold.proofs.pass.settled.Goals as goal

pub returns-then-not-is_foldable-clause-rewrites :
    goal.returns-then-not-is_foldable-clause-rewrites
returns-then-not-is_foldable-clause-rewrites c = kept_if c.append.result c.args.nodes.now.items c.append.new.nodes.items c.args.node c.append.ensures.nodes c.append.ensures.operand

pub returns-clause-rewrites : goal.returns-clause-rewrites
returns-clause-rewrites c =
    let old = c.args.nodes.now.items in
    let new = c.append-2.new.nodes.items in
    let n = c.args.node in
    let k = c.in_ok-constant.constant in
    let foldable : is_foldable old n ≡ true = ap (λ ns. is_foldable ns n) (sym c.as_slice.ensures.value) ∙ sym c.is_foldable.ensures ∙ c.if-not-is_foldable.false in
    folded_if c.append-2.result old new n k foldable
    (c.in_ok-constant.ensures ∙ ap constant_of (c.in_ok-value.ensures ∙ ap (λ ns. folded_value ns n) c.as_slice-2.ensures.value))
    (subst (λ m. IfOk c.append-2.result (λ o. new ≡ old ++ numbered (length old) m ∷ [])) c.literal.ensures c.append-2.ensures.nodes)
    c.append-2.ensures.operand

pub returns-then-not-is_foldable-clause-folded : goal.returns-then-not-is_foldable-clause-folded
returns-then-not-is_foldable-clause-folded c =
    let old = c.args.nodes.now.items in
    let n = c.args.node in
    let free : is_foldable old n ≡ false = ap (λ ns. is_foldable ns n) (sym c.as_slice.ensures.value) ∙ sym c.is_foldable.ensures ∙ c.if-not-is_foldable.true in
    kept_folds c.append.result old c.append.new.nodes.items n free c.append.ensures.nodes c.append.ensures.operand

pub returns-clause-folded : goal.returns-clause-folded
returns-clause-folded c =
    let old = c.args.nodes.now.items in
    let new = c.append-2.new.nodes.items in
    let n = c.args.node in
    let k = c.in_ok-constant.constant in
    let foldable : is_foldable old n ≡ true = ap (λ ns. is_foldable ns n) (sym c.as_slice.ensures.value) ∙ sym c.is_foldable.ensures ∙ c.if-not-is_foldable.false in
    folded_folds c.append-2.result old new n k foldable
    (c.in_ok-constant.ensures ∙ ap constant_of (c.in_ok-value.ensures ∙ ap (λ ns. folded_value ns n) c.as_slice-2.ensures.value))
    (subst (λ m. IfOk c.append-2.result (λ o. new ≡ old ++ numbered (length old) m ∷ [])) c.literal.ensures c.append-2.ensures.nodes)
    c.append-2.ensures.operand
