-- A module that stands still: further cycles with the same row change nothing.
use Rattle.std.proofs.Common.{◌≡◌, ℕ, suc, ◌<◌, List, [], ◌∷◌, ◌++◌, length, eqb, refl, sym, ap, ◌∙◌, subst, Option, Some, None, arith}
use Rattle.std.specs.Bool.{Decides}
use Rattle.std.specs.Prelude.{slice_get, ◌&&◌}
use Rattle.std.proofs.lemmas.Bool.Decides.{Decides-and, Decides-eqb, Decides-like}
use Rattle.std.proofs.lemmas.Option.{slice_get-get_or}
use Rattle.xb_bits.specs.Word.{Word}
use Rattle.vlog_tree.specs.declared.module.Storage.TheVariants as storage
use Rattle.vlog_tree.specs.declared.module.VModule.{VModule}
use Rattle.vlog_tree.specs.declared.row.Row.{Row}
use Rattle.vlog_tree.specs.declared.signal.Role.{Role}
use Rattle.vlog_tree.specs.declared.signal.Role.TheVariants.{InputSignal, WireSignal, RegisterSignal}
use Rattle.vlog_tree.specs.Meaning.{IsNow}
use Rattle.vlog_tree.specs.Rows.{IsRowOf, given, outs_of}
use Rattle.vlog_tree.specs.Settled.{values_of}
use Rattle.vlog_tree.specs.Signals.{Declared, IsSignal, declared_own, signals}
use Rattle.cycle_sim.specs.Sim.{IsRunning, SameRegisters, StandsAfter, IsUnchangedBy}
use Rattle.cycle_sim.specs.Stored.{cycled, evaluated, stored}
use Rattle.cycle_sim.proofs.Cycling.{AreCycled, AreEvaluated, cycling, evaluating, now_only, runs_on, sets_by, stands_on}

-- equality of words, as code tests it
pub word_decides : (a b : Word) → Decides (eqb a.width b.width && eqb a.value b.value) (a ≡ b)
word_decides a b = Decides-like _ (λ (p : (a.width ≡ b.width) × (a.value ≡ b.value)) i. record { width = p.0 i; value = p.1 i }) (λ e. (ap (λ w. w.width) e, ap (λ w. w.value) e))
    (Decides-and _ _ (Decides-eqb a.width b.width) (Decides-eqb a.value b.value))

-- lists of words that give each signal the same number are the same
same_words : (xs ys : List Word) → length xs ≡ length ys → ((s : ℕ) → s < length xs → values_of xs s ≡ values_of ys s) → xs ≡ ys
same_words [] [] e h = refl
same_words [] (y ∷ ys) e h = absurd (omega (arith, e))
same_words (x ∷ xs) [] e h = absurd (omega (arith, e))
same_words (x ∷ xs) (y ∷ ys) e h =
    let first : x ≡ y = h 0 (omega arith) in
    let rest = same_words xs ys (omega (arith, e)) (λ s inside. h (suc s) (omega (arith, inside))) in
    cc

-- where no number changed as the registers took theirs, one more cycle with the row gives the same numbers
cycled_again : (m : VModule) (indices : List ℕ) (words before : List Word) (row : Row) → IsRunning m indices words before → IsRowOf m row
    → evaluated m indices row words ≡ cycled m indices row words → cycled m indices row (cycled m indices row words) ≡ cycled m indices row words
cycled_again m indices words before row running fits e =
    ap (λ ws. stored (sets_by m row.reset) (values_of ws) ws) (settled_again ∙ sym e)
  where
    next : List Word
    next = cycled m indices row words

    running_next : IsRunning m indices next before
    running_next = runs_on m indices words before before row running fits refl

    now : IsNow m (values_of words) (given m row) (values_of (evaluated m indices row words))
    now = (evaluating m indices words before row running fits).now

    now_next : IsNow m (values_of next) (given m row) (values_of next)
    now_next = subst (λ ws. IsNow m (values_of ws) (given m row) (values_of ws)) e record { inputs = now.inputs; registers = λ s d is role. refl; wires = now.wires }

    size : length (evaluated m indices row next) ≡ length next
    size = (evaluating m indices next before row running_next fits).size

    same_at : (s : ℕ) → s < length next → values_of next s ≡ values_of (evaluated m indices row next) s
    same_at s inside =
        now_only m indices next before row (values_of next) (values_of next) running_next fits (λ s d is role. refl) now_next s (subst (λ n. s < n) running_next.covers inside)

    settled_again : evaluated m indices row next ≡ next
    settled_again = sym (same_words next (evaluated m indices row next) (sym size) same_at)

pub stands_still : (m : VModule) (indices : List ℕ) (words before : List Word) (row : Row) → IsRunning m indices words before → IsRowOf m row
    → evaluated m indices row words ≡ cycled m indices row words → IsUnchangedBy (record { design = m; words = cycled m indices row words }) row
stands_still m indices words before row running fits e rows outs stood =
    subst (λ ws. StandsAfter (record { design = m; words = ws }) (rows ++ row ∷ []) (outs ++ outs_of m (values_of ws) ∷ []))
    (cycled_again m indices words before row running fits e)
    (stands_on m indices (cycled m indices row words) before row (runs_on m indices words before before row running fits refl) fits rows outs stood)

-- no number changed as the registers took theirs just where each register has what it held
pub held_where_same : (m : VModule) (indices : List ℕ) (words before : List Word) (row : Row) → IsRunning m indices words before → IsRowOf m row
    → evaluated m indices row words ≡ cycled m indices row words → SameRegisters m (values_of words) (values_of (cycled m indices row words))
held_where_same m indices words before row running fits e s d is role =
    sym ((evaluating m indices words before row running fits).now.registers s d is role) ∙ ap (λ ws. values_of ws s) e

pub same_where_held : (m : VModule) (indices : List ℕ) (words before : List Word) (row : Row) → IsRunning m indices words before → IsRowOf m row
    → SameRegisters m (values_of words) (values_of (cycled m indices row words)) → evaluated m indices row words ≡ cycled m indices row words
same_where_held m indices words before row running fits held =
    same_words (evaluated m indices row words) (cycled m indices row words) (now.size ∙ sym known.size) (λ s inside. at s (slice_get (signals m) s) refl (subst (λ n. s < n) (now.size ∙ running.covers) inside))
  where
    known : AreCycled m indices row words
    known = cycling m indices words before row running fits

    now : AreEvaluated m indices row words
    now = evaluating m indices words before row running fits

    by_role : (s : ℕ) (d : Declared) → IsSignal m s d → (r : Role) → d.role ≡ r → values_of (evaluated m indices row words) s ≡ values_of (cycled m indices row words) s
    by_role s d is RegisterSignal role = now.now.registers s d is role ∙ held s d is role
    by_role s d is InputSignal role = sym (known.others s d is (λ e. let wrong : InputSignal ≡ RegisterSignal = sym role ∙ e in cc))
    by_role s d is WireSignal role = sym (known.others s d is (λ e. let wrong : WireSignal ≡ RegisterSignal = sym role ∙ e in cc))

    at : (s : ℕ) (o : Option Declared) → slice_get (signals m) s ≡ o → s < length (signals m) → values_of (evaluated m indices row words) s ≡ values_of (cycled m indices row words) s
    at s (Some d) is inside = by_role s d is d.role refl
    at s None missing inside =
        let there = slice_get-get_or (signals m) s (declared_own record { storage = storage.Wire; name = []; width = 1; some_width = omega arith }) inside in
        absurd (cc)
