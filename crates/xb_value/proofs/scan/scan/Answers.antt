use Rattle.std.proofs.Common.{◌≡◌, get_or, Some, None, option_map, refl, sym, ap, ap₂, subst, ◌∙◌, arith}
use Rattle.base.specs.Lists.Fault.{IsFirstFault}
use Rattle.xb_value.specs.Form.{IsValueText, Spells}
use Rattle.xb_value.specs.Inner.Scanner.{class_of, step, ended}
use Rattle.xb_value.specs.Inner.ScannerState.{state_of, Stepped}
use Rattle.xb_value.proofs.Faults.{fault_at, fault_at_end, spelled_at_end, stands_next, stepped_refused, stepped_went}
use Rattle.xb_value.proofs.Sound.{step_sound}
use Rattle.xb_value.proofs.scan.scan.Goals as goal

pub returns-then-not-branch : goal.returns-then-not-branch
returns-then-not-branch c =
    let s = state_of c.bytes.scanner in
    let t = c.args.text.now in
    let i = c.bytes.byte-index in
    let b = get_or c.args.text.now c.bytes.byte-index 0 in
    let offset = c.bytes.invariant.offset in
    let answered = subst (λ w. Stepped (step s c.bytes.at c.class_of.result) w (state_of c.step.new.self)) c.if-not-branch.true c.in_ok-step.ensures in
    let refused : step s i (class_of b) ≡ None =
    ap₂ (λ p k. step s p k) (sym offset) (sym c.class_of.ensures.value) ∙ stepped_refused (step s c.bytes.at c.class_of.result) (state_of c.step.new.self) answered in
    subst (IsFirstFault IsValueText t) (sym offset) (fault_at s t i b c.bytes-test.true refl c.bytes.invariant.stands refused)

pub bytes-preserved : goal.bytes-preserved
bytes-preserved c =
    let s = state_of c.bytes.scanner in
    let u = state_of c.step.new.self in
    let t = c.args.text.now in
    let i = c.bytes.byte-index in
    let b = get_or c.args.text.now c.bytes.byte-index 0 in
    let answered = subst (λ w. Stepped (step s c.bytes.at c.class_of.result) w u) c.if-not-branch.false c.in_ok-step.ensures in
    let went : step s c.bytes.at c.class_of.result ≡ Some u = stepped_went (step s c.bytes.at c.class_of.result) u answered in
    let went_there : step s i (class_of b) ≡ Some u =
    ap₂ (λ p k. step s p k) (sym c.bytes.invariant.offset) (sym c.class_of.ensures.value) ∙ went in
    record {
      offset = omega (arith, c.bytes.invariant.offset);
      sound = step_sound s u c.bytes.at c.class_of.result c.bytes.invariant.sound c.class_of.ensures.small went;
      stands = stands_next s u t i b c.bytes-test.true refl c.bytes.invariant.stands went_there;
    }

pub returns-in-Some : goal.returns-in-Some
returns-in-Some c =
    let s = state_of c.bytes.scanner in
    let t = c.args.text.now in
    let end : ended s ≡ Some c.in-Some.tokens.items = sym c.in_ok-tokens.ensures ∙ ap (option_map (λ v. v.items)) c.in-Some.is in
    subst (Spells t) (sym c.from_vec.ensures)
    (spelled_at_end s t c.bytes.byte-index c.in-Some.tokens.items c.bytes-test.false c.bytes.auto.byte-index-end c.bytes.invariant.stands end)

pub returns-in-None : goal.returns-in-None
returns-in-None c =
    let s = state_of c.bytes.scanner in
    let t = c.args.text.now in
    let end : ended s ≡ None = sym c.in_ok-tokens.ensures ∙ ap (option_map (λ v. v.items)) c.in-None.is in
    subst (IsFirstFault IsValueText t) (sym c.bytes.invariant.offset)
    (fault_at_end s t c.bytes.byte-index c.bytes-test.false c.bytes.auto.byte-index-end c.bytes.invariant.stands end)
