use Rattle.std.proofs.Common.{◌≡◌, ◌<◌, ◌+◌, ℕ, List, Some, length, refl, sym, ap, ◌∙◌, subst, arith}
use Rattle.std.specs.Prelude.{slice_get}
use Rattle.std.proofs.lemmas.List.{length-set}
use Rattle.std.proofs.lemmas.Option.{slice_get_read, slice_get-get_or}
use Rattle.base.proofs.Lemmas.Lists.Indices.{slice_get-set_other}
use Rattle.proc_task.specs.declared.port.Outlet.{Outlet}
use Rattle.proc_runner.specs.Inner.Ended.{AreOutletsOf, IsNewOutlet, out_chan}
use Rattle.proc_runner.proofs.Ends.{ends_more}
use Rattle.proc_runner.proofs.ports.outlets.Goals as goal

pub loop-c-preserved : goal.loop-c-preserved
loop-c-preserved g c =
    let at = c.loop-c.c in
    let passes = c.loop-c.sends.items in
    let owners = c.args.senders.now in
    let is = c.loop-c.invariant in
    let within : at < length passes = omega (arith, c.loop-c-test.true, c.requires.0, is.0) in
    let own = slice_get-get_or owners at 0 c.loop-c-test.true ∙ ap Some c.if-senders-c.false in
    let there = slice_get_read passes _ at c.index_mut.result.now refl within c.index_mut.ensures.value in
    let pass = sym (is.2 at (omega arith)) ∙ (there ∙ ap Some (sym c.take-pass.ensures.value)) in (
      length-set passes at _ ∙ is.0,
      (λ d other. slice_get-set_other passes at d _ (λ same. other (ap (λ (i : ℕ). slice_get owners i) same ∙ own)) ∙ is.1 d other),
      (λ d l. slice_get-set_other passes at d _ (λ same. omega (arith, l, same)) ∙ is.2 d (omega (arith, l))),
      subst (λ (xs : List (Outlet _)). AreOutletsOf c.args.p owners c.args.sends.now.items (at + 1) xs) (sym c.in_ok-push.ensures.items)
          (ends_more out_chan (λ d. slice_get owners d ≡ Some c.args.p) (IsNewOutlet c.args.sends.now.items) at c.loop-c.outlets.items _ is.3 refl own (pass, c.new-words.ensures.items)),
    )
