use Rattle.dslx_check_declarations.proofs.value_types.kind_of.Goals as goal

pub returns : goal.returns
returns c = λ i. record { signed = c.args.signed; width = c.width.ensures.width i }
