use Rattle.std.proofs.Common.{◌∙◌, bytes_eq}
use Rattle.dslx_token.specs.Inner.Names.{has_name}
use Rattle.dslx_token.proofs.NameSets.{cond_is_or}
use Rattle.dslx_token.proofs.declared.insert.Goals as goal

pub returns : goal.returns
returns c = λ q. (c.in_ok-insert.ensures {u = tt}).updates.0 (record { ref_ptr = (0, 0); now = q }) ∙ cond_is_or (bytes_eq c.args.name.now q) (has_name c.args.names.now q)
