-- Taking the links of a chain, from the top of the stacks.
use Rattle.std.proofs.Common.{◌≡◌, ◌<◌, ◌+◌, ◌-◌, ℕ, suc, List, [], ◌∷◌, ◌++◌, drop, reverse, ap, sym, ◌∙◌, arith}
use Rattle.std.proofs.lemmas.List.{append_assoc, drop-drop, reverse-append}
use Rattle.dslx_tree.specs.declared.operator.Binary.TheVariants.{Mul}
use Rattle.dslx_tree.specs.declared.operators.chain.Link.{Link}
use Rattle.dslx_actions.specs.declared.parts.SemanticStacks.{SemanticStacks}
use Rattle.base.specs.Stacks.Tops.{top_or}
use Rattle.dslx_node_actions.specs.Exprs.Operators.Operators.{links_of, operand_of}

abbrev pub link_on_top : SemanticStacks → Link
link_on_top s = record { operator = top_or Mul s.operators; operand = operand_of s.expr_spans s.exprs }

-- the parts without so many links on top
abbrev pub without_links : ℕ → SemanticStacks → SemanticStacks
without_links k s = record s { operators = drop k s.operators; expr_spans = drop k s.expr_spans; exprs = drop k s.exprs }

abbrev pub links_on : ℕ → SemanticStacks → List Link
links_on count s = links_of count s.operators s.expr_spans s.exprs

one_link : (n : ℕ) (s : SemanticStacks) (links : List Link) → links_on (suc n) s ++ reverse links ≡ links_on n (without_links 1 s) ++ reverse (links ++ link_on_top s ∷ [])
one_link n s links =
    append_assoc (links_on n (without_links 1 s)) (link_on_top s ∷ []) (reverse links)
    ∙ ap (λ (xs : List Link). links_on n (without_links 1 s) ++ xs) (sym (reverse-append links (link_on_top s ∷ [])))

pub links_step : (count k : ℕ) (whole : List Link) (old new : SemanticStacks) (links more : List Link) → k < count → whole ≡ links_on (count - k) old ++ reverse links → new ≡ without_links 1 old → more ≡ links ++ link_on_top old ∷ [] → whole ≡ links_on (count - (k + 1)) new ++ reverse more
links_step count k whole old new links more below so_far left one =
    let left_over : count - k ≡ suc (count - (k + 1)) = omega arith in
    so_far ∙ ap (λ n. links_on n old ++ reverse links) left_over ∙ one_link (count - (k + 1)) old links
    ∙ ap (λ s. links_on (count - (k + 1)) s ++ reverse (links ++ link_on_top old ∷ [])) (sym left)
    ∙ ap (λ (xs : List Link). links_on (count - (k + 1)) new ++ reverse xs) (sym one)

pub rest_step : (k : ℕ) (first old new : SemanticStacks) → old ≡ without_links k first → new ≡ without_links 1 old → new ≡ without_links (k + 1) first
rest_step k first old new so_far left =
    left ∙ ap (λ s. without_links 1 s) so_far
    ∙ (λ i. record first { operators = drop-drop 1 k first.operators i; expr_spans = drop-drop 1 k first.expr_spans i; exprs = drop-drop 1 k first.exprs i })
