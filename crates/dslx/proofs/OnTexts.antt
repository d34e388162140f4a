-- From a text to its tree, and that it gives one thing.
use Rattle.std.proofs.Common.{◌≡◌, inl, inr, ℕ, List, Option, Some, None, Result, Ok, Err, sym, ap, subst}
use Rattle.std.specs.Prelude.{IfOk, IfErr}
use Rattle.xb_span.specs.Fault.{error_of}
use Rattle.xb_span.specs.declared.fault.Fault.{Fault}
use Rattle.xb_span.specs.declared.read_error.ReadError.{ReadError}
use Rattle.xb_span.specs.declared.read_error.ReadError.TheVariants.{Syntax, Broken, Over, OutOfMemory}
use Rattle.dslx_tree.specs.declared.item.Module.{Module}
use Rattle.dslx_meaning.specs.Rules.NetworkLimits.{refusal_of}
use Rattle.dslx_parser.specs.Reads.{IsTextRefusal, TextGives, TextReads, misplaced, no_token, too_deep, tokens, tree}
use Rattle.dslx_core.specs.declared.design.Design.{Design}
use Rattle.dslx_elab.specs.Runs.{IsAcceptedText, IsMadeOfChecked}
use Rattle.dslx.specs.declared.count.size.NetworkSize.{NetworkSize}
use Rattle.dslx.specs.Texts.{GivesTree, HasCheckedText, HasNetworkSize, IsNetworkSize, RefusesText, judged, unless_refused, unread}
use Rattle.dslx.specs.Trees.{RefusesTree}

-- the text gives its tree
pub given_by : (text : List ℕ) (m : Module) → TextReads text m → TextGives text (Ok m)
given_by text m is = tokens is.tokens (Ok m) is.cut (tree m is.reads is.within)

pub refused_unread : (text : List ℕ) (top : Option (List ℕ)) (e : ReadError) → IsTextRefusal text e → RefusesText text top e
refused_unread text top (Syntax at) (inl is) = unread (Syntax at) (no_token at is)
refused_unread text top (Syntax at) (inr is) = unread (Syntax at) (tokens is.tokens (Err (Syntax at)) is.cut (misplaced at is.refusal))
refused_unread text top (Broken rule span) (inl is) = absurd is
refused_unread text top (Broken rule span) (inr is) = absurd is.refusal
refused_unread text top (Over limit) (inl is) = absurd is
refused_unread text top (Over limit) (inr is) = unread (Over limit) (tokens is.tokens (Err (Over limit)) is.cut (too_deep limit is.refusal))
refused_unread text top OutOfMemory is = tt

pub accepted_tree : (text : List ℕ) (top : Option (List ℕ)) (m : Module) → TextReads text m → refusal_of m top ≡ None → GivesTree text top (Ok m)
accepted_tree text top m is none = subst (λ o. GivesTree text top (unless_refused m o)) none (judged m (given_by text m is))

refused_for : (text : List ℕ) (top : Option (List ℕ)) (m : Module) (e : ReadError) → TextReads text m → (fault : Fault) × (refusal_of m top ≡ Some fault) × (e ≡ error_of fault) → GivesTree text top (Err e)
refused_for text top m e is h =
    subst (λ x. GivesTree text top (Err x)) (sym h.2) (subst (λ o. GivesTree text top (unless_refused m o)) h.1 (judged m (given_by text m is)))

refused_tree : (text : List ℕ) (top : Option (List ℕ)) (m : Module) (e : ReadError) → TextReads text m → RefusesTree m top e → RefusesText text top e
refused_tree text top m (Syntax at) is h = refused_for text top m (Syntax at) is h
refused_tree text top m (Broken rule span) is h = refused_for text top m (Broken rule span) is h
refused_tree text top m (Over limit) is h = refused_for text top m (Over limit) is h
refused_tree text top m OutOfMemory is h = tt

pub tree_refused : {T : Type 0} (text : List ℕ) (top : Option (List ℕ)) (m : Module) (r : Result T ReadError) → TextReads text m → IfErr r (λ e. RefusesTree m top e) → IfErr r (λ e. RefusesText text top e)
tree_refused text top m (Ok x) is h = tt
tree_refused text top m (Err e) is h = refused_tree text top m e is h

pub size_given : {E : Type 0} (text : List ℕ) (top : Option (List ℕ)) (m : Module) (r : Result NetworkSize E) → TextReads text m → IfOk r (λ size. refusal_of m top ≡ None) → IfOk r (λ size. IsNetworkSize m top size)
    → IfOk r (λ size. HasNetworkSize text top size)
size_given text top m (Ok size) is none fits = record { tree = m; given = accepted_tree text top m is none; is = fits }
size_given text top m (Err e) is none fits = tt

pub design_given : {E : Type 0} (text : List ℕ) (top : Option (List ℕ)) (m : Module) (r : Result Design E) → TextReads text m → IfOk r (λ design. IsAcceptedText m top) → IfOk r (λ design. IsMadeOfChecked m top design)
    → IfOk r (λ design. HasCheckedText text top design)
design_given text top m (Ok design) is accepted made = record { tree = m; given = accepted_tree text top m is accepted.none; accepted = accepted; is = made }
design_given text top m (Err e) is accepted made = tt

-- ---- one tree

abbrev pub OneReading : Type 0
OneReading = (text : List ℕ) (a b : Result Module ReadError) → TextGives text a → TextGives text b → a ≡ b

pub one_given : OneReading → (text : List ℕ) (top : Option (List ℕ)) (a b : Result Module ReadError) → GivesTree text top a → GivesTree text top b → a ≡ b
one_given law text top a b (judged m reads) (judged n also) =
    let same : m ≡ n = let e : ◌≡◌ {A = Result Module ReadError} (Ok m) (Ok n) = law text (Ok m) (Ok n) reads also in cc in
    ap (λ x. unless_refused x (refusal_of x top)) same
one_given law text top a b (judged m reads) (unread e is) = let no : ◌≡◌ {A = Result Module ReadError} (Ok m) (Err e) = law text (Ok m) (Err e) reads is in absurd (cc)
one_given law text top a b (unread e is) (judged m reads) = let no : ◌≡◌ {A = Result Module ReadError} (Ok m) (Err e) = law text (Ok m) (Err e) reads is in absurd (cc)
one_given law text top a b (unread e is) (unread f also) = law text (Err e) (Err f) is also
