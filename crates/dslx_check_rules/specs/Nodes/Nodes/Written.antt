-- Written types.
use Rattle.std.specs.Prelude.{◌++◌, List, map, Some}
use Rattle.xb_span.specs.declared.span.Span.{Span}
use Rattle.dslx_meaning.specs.Lists.{all_some, and_then}
use Rattle.dslx_meaning.specs.declared.ty.DslxType as ty
use Rattle.dslx_meaning.specs.Rules.TypeEnvs.{Judgement, settled, faults_of_all, reached_of_all, types_of}
use Rattle.dslx_meaning.specs.Rules.TypeRules.{unit_faults}
use Rattle.dslx_check_rules.specs.Nodes.Parts.{Placed}

-- a part where () may not stand
abbrev pub inside : Span → Judgement → Judgement
inside span j = record j { faults = j.faults ++ unit_faults span j.ty }

-- a tuple of types
abbrev pub tuple_type_of : Span → List Placed → Judgement
tuple_type_of span xs =
    let js = map (λ (x : Placed). inside x.span x.judgement) xs in
    settled span (and_then (all_some (types_of js)) (λ ts. Some (ty.Tuple ts))) (faults_of_all js) (reached_of_all js) (Some 0)
