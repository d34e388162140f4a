-- Parts of other declarations, by their kinds.
use Rattle.std.proofs.Common.{◌≡◌, Option, Some, None, subst}
use Rattle.std.proofs.lemmas.Option.{none-some, same_Some}
use Rattle.dslx_check_facts.specs.Known.{Has}
use Rattle.dslx_check_facts.specs.Typings.{default_of, parameter_of, signature_of}
use Rattle.dslx_check_facts.specs.declared.facts.DefaultThere.{DefaultThere}
use Rattle.dslx_check_facts.specs.declared.facts.ForeignSeen.{ForeignSeen}
use Rattle.dslx_check_facts.specs.declared.facts.ForeignSeen.TheVariants as foreign
use Rattle.dslx_check_facts.specs.declared.facts.SignatureThere.{SignatureThere}
use Rattle.dslx_check_facts.specs.declared.facts.TypingThere.{TypingThere}

pub has_weaker : {A : Type 0} (o : Option A) (P Q : A → Type 0) → ((a : A) → P a → Q a) → Has o P → Has o Q
has_weaker None P Q weaker h = h
has_weaker (Some a) P Q weaker h = weaker a h

pub parameter_claim : (claim : ForeignSeen → Type 0) (o : Option ForeignSeen) (t : TypingThere) → parameter_of o ≡ Some t → Has o claim → claim (foreign.Parameter t)
parameter_claim claim None t e h = absurd h
parameter_claim claim (Some (foreign.Parameter u)) t e h = subst (λ x. claim (foreign.Parameter x)) (same_Some u t e) h
parameter_claim claim (Some (foreign.Default d)) t e h = absurd (none-some t e)
parameter_claim claim (Some (foreign.Signature s)) t e h = absurd (none-some t e)

pub default_claim : (claim : ForeignSeen → Type 0) (o : Option ForeignSeen) (d : DefaultThere) → default_of o ≡ Some d → Has o claim → claim (foreign.Default d)
default_claim claim None d e h = absurd h
default_claim claim (Some (foreign.Parameter t)) d e h = absurd (none-some d e)
default_claim claim (Some (foreign.Default c)) d e h = subst (λ x. claim (foreign.Default x)) (same_Some c d e) h
default_claim claim (Some (foreign.Signature s)) d e h = absurd (none-some d e)

pub signature_claim : (claim : ForeignSeen → Type 0) (o : Option ForeignSeen) (s : SignatureThere) → signature_of o ≡ Some s → Has o claim → claim (foreign.Signature s)
signature_claim claim None s e h = absurd h
signature_claim claim (Some (foreign.Parameter t)) s e h = absurd (none-some s e)
signature_claim claim (Some (foreign.Default d)) s e h = absurd (none-some s e)
signature_claim claim (Some (foreign.Signature r)) s e h = subst (λ x. claim (foreign.Signature x)) (same_Some r s e) h
