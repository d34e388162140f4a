use Rattle.std.proofs.Common.{◌≡◌, ℕ, ◌-◌, [], ◌∷◌, map, ap, sym, ◌∙◌}
use Rattle.xb_span.specs.declared.limit.What.TheVariants as what
use Rattle.xb_value.specs.Width.{leaf_count}
use Rattle.ir_tree.specs.Types.{ty_of}
use Rattle.ir_tree.specs.Rules.Checks.{noted, limit_at, bounded}
use Rattle.ir_tree.specs.NodeTypes.Types.{widths_in, levels_of}
use Rattle.ir_tree.proofs.OnRules.Noted.{noted-append, limit_bounded}
use Rattle.ir_tree.proofs.rules.lines.note_type.Goals as goal

pub returns : goal.returns
returns c =
    let end = c.args.end in
    let t = c.args.ty.now in
    let wide = map (λ (w : ℕ). limit_at end what.Width w 128) (widths_in t) in
    let leaves = limit_at end what.Leaves (leaf_count (ty_of t)) 256 in
    let levels = limit_at end what.Levels (bounded (levels_of t) - c.args.own) 64 in
    let sub = c.saturating_sub-levels.ensures ∙ ap (λ (n : ℕ). n - c.args.own) c.levels_of.ensures in
    let leaf : limit_at end what.Leaves c.leaves_of.result 256 ≡ leaves = ap (λ n. limit_at end what.Leaves n 256) c.leaves_of.ensures ∙ limit_bounded end what.Leaves (leaf_count (ty_of t)) 256 in
    c.note_limit.ensures
    ∙ ap (λ n. noted c.note_limit-held.result (limit_at end what.Levels n 64 ∷ [])) sub
    ∙ ap (λ h. noted h (levels ∷ [])) (c.note_limit-held.ensures ∙ ap (λ check. noted c.note_widths-held.result (check ∷ [])) leaf ∙ ap (λ h. noted h (leaves ∷ [])) c.note_widths-held.ensures)
    ∙ sym (noted-append wide (leaves ∷ levels ∷ []) c.args.held)
