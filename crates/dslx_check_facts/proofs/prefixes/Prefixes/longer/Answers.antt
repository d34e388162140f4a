use Rattle.std.proofs.Common.{◌≡◌, ◌∙◌, ◌∷◌, ◌≤◌, List, Option, Some, sym, ap, subst, slice_get, length, arith}
use Rattle.std.proofs.lemmas.Result.{IfOk-weaker}
use Rattle.dslx_meaning.specs.declared.value.DslxValue.{DslxValue}
use Rattle.base.specs.Lists.Prefix.{IsPrefix}
use Rattle.dslx_check_facts.specs.declared.prefixes.Prefix.{Prefix}
use Rattle.dslx_check_facts.specs.Keys.{AreEarlier, list_or_none, lists_of}
use Rattle.dslx_check_facts.proofs.OnKeys.Lists.{earlier_inserted, lists_grow, longer_list}
use Rattle.dslx_check_facts.proofs.OnKeys.Numbers.{prefix_stored, prefixes_grow}
use Rattle.dslx_check_facts.proofs.prefixes.Prefixes.longer.Goals as goal

pub returns-clause-list : goal.returns-clause-list
returns-clause-list c =
    let old : List Prefix = c.self.inside.keys.keys in
    let new : List Prefix = c.insert_full.new.self.keys in
    let p : Prefix = record { before = c.args.before; last = c.args.last } in
    let within : c.args.before ≤ length old = omega (arith, c.if-len-before.false, c.len.ensures.len) in
    let grows : IsPrefix old new = subst (IsPrefix old) (sym c.in_ok-at.ensures.keys) (prefixes_grow old p) in
    let earlier : AreEarlier new = subst AreEarlier (sym c.in_ok-at.ensures.keys) (earlier_inserted old p c.self.invariant within) in
    let at : slice_get new c.in_ok-at.at ≡ Some p = prefix_stored new c.in_ok-at.at p c.in_ok-at.ensures.stored in
    IfOk-weaker c.number.result _ _ (λ n e.
    ap (slice_get (lists_of new)) e ∙ longer_list old new p c.in_ok-at.at grows earlier within at
    ∙ ap (λ (lists : List (List (Option DslxValue))). Some (c.args.last ∷ list_or_none lists c.args.before)) c.self.view_is)
    c.number.ensures

pub returns-clause-grows : goal.returns-clause-grows
returns-clause-grows c =
    let old : List Prefix = c.self.inside.keys.keys in
    let new : List Prefix = c.insert_full.new.self.keys in
    let p : Prefix = record { before = c.args.before; last = c.args.last } in
    let grows : IsPrefix old new = subst (IsPrefix old) (sym c.in_ok-at.ensures.keys) (prefixes_grow old p) in
    IfOk-weaker c.number.result _ _ (λ n e. subst (λ (lists : List (List (Option DslxValue))). IsPrefix lists (lists_of new)) c.self.view_is (lists_grow old new grows)) c.number.ensures
