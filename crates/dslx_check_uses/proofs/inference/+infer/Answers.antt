use Rattle.std.proofs.Common.{◌≡◌, ◌∙◌, ◌<◌, ◌≤◌, ◌+◌, ◌++◌, append_assoc, arith, drop, get_or, length, map, min, sym, ap}
use Rattle.std.proofs.lemmas.List.{append-nil}
use Rattle.dslx_meaning.specs.Inference.{infer_each, inferred_in}
use Rattle.dslx_check_rules.specs.Interned.{type_at, types_in}
use Rattle.dslx_check_uses.specs.Inferring.{number_of}
use Rattle.dslx_check_uses.specs.Inner.Inferring.{level_of}
use Rattle.dslx_check_uses.proofs.OnInference.{each_ended, each_next, on_ok, tuple_by}
use Rattle.dslx_check_uses.proofs.inference.+infer.Goals as goal

pub infer_each-parts-preserved : goal.infer_each-parts-preserved
infer_each-parts-preserved t c = λ names later p.
    let within : c.parts.i < length c.args.parts.now = omega arith in
    let inside : c.parts.i < length c.args.own.now = omega arith in
    let part = c.index-parts-i.result in
    let next = each_next c.args.parts.now c.args.own.now (type_at names later) c.parts.i part _ within inside c.index-parts-i.is in
    let rest = infer_each (map inferred_in (drop (c.parts.i + 1) c.args.parts.now)) (map (type_at names later) (drop (c.parts.i + 1) c.args.own.now)) in
    ap (λ l. l ++ rest) (c.in_ok-infer.ensures names later p) ∙ append_assoc (map number_of c.parts.found.items) (inferred_in part (type_at names later (get_or c.args.own.now c.parts.i _))) rest
    ∙ ap (λ l. map number_of c.parts.found.items ++ l) (sym next) ∙ c.parts.invariant names later p

pub infer_each-returns : goal.infer_each-returns
infer_each-returns t c = λ names later p.
    let past : min (length c.args.parts.now) (length c.args.own.now) ≤ c.parts.i = omega arith in
    sym (ap (λ xs. map number_of c.parts.found.items ++ xs) (each_ended c.args.parts.now c.args.own.now (type_at names later) c.parts.i past) ∙ append-nil (map number_of c.parts.found.items)) ∙ c.parts.invariant names later p

pub infer_tuple-returns-then-parts-len : goal.infer_tuple-returns-then-parts-len
infer_tuple-returns-then-parts-len t c =
    let long : length c.args.parts.now ≡ length c.in-Tuple.own = omega (arith, c.if-parts-len.true, c.len.ensures) in
    on_ok c.infer_each.result _ _ (λ h names later p. h names later p ∙ ap (λ xs. map number_of c.args.found.now.items ++ xs)
    (tuple_by c.args.parts.now c.in-Tuple.own c.as_slice.result.now (type_at names later) _ (c.in_ok-row.ensures names later p ∙ ap (level_of names (types_in names later)) c.in-Tuple.is) c.as_slice.ensures long)) c.infer_each.ensures
