use Rattle.std.proofs.Common.{◌≡◌, string_bytes, sym, subst, rules}
use Rattle.xb_value.specs.Reads.{Reads}
use Rattle.xb_value.specs.Text.{text_of}
use Rattle.xb_value.proofs.Written.{reads_back}
use Rattle.xb_value.proofs.writer.value_text.Goals as goal

pub returns-clause-reads_back : goal.returns-clause-reads_back
returns-clause-reads_back c = λ t of.
    let written : string_bytes c.push_value.new.text ≡ text_of c.args.value.now = search rules in
    subst (λ s. Reads s t c.args.value.now) (sym written) (reads_back t c.args.value.now of)
