-- What the rules of items make of the parts that their symbols left.
use Rattle.std.specs.Prelude.{true, false, ◌∷◌, None, drop, take, reverse}
use Rattle.dslx_tree.specs.declared.block.Block.{out-Block}
use Rattle.dslx_tree.specs.declared.item.Definition.TheVariants as definitions
use Rattle.dslx_actions.specs.declared.parts.SemanticStacks.{SemanticStacks}
use Rattle.dslx_actions.specs.Common.{across}
use Rattle.dslx_actions.specs.Empty.{join, no_block, no_definition, no_expr, no_ident, no_type}
use Rattle.base.specs.Stacks.Tops.{top_or}

-- `name : type = { expr }` between `<` and `>`
abbrev pub parametric : SemanticStacks → SemanticStacks
parametric s = record s {
  token_spans = drop 1 s.token_spans;
  idents = drop 1 s.idents;
  types = drop 1 s.types;
  values = drop 1 s.values;
  parametrics = record { name = top_or no_ident s.idents; ty = top_or no_type s.types; default = top_or None s.values } ∷ s.parametrics;
}

-- `name : type`
abbrev pub field : SemanticStacks → SemanticStacks
field s = record s {
  token_spans = drop 1 s.token_spans;
  idents = drop 1 s.idents;
  types = drop 1 s.types;
  fields = record { name = top_or no_ident s.idents; ty = top_or no_type s.types } ∷ s.fields;
}

-- `name = expr` in an enum
abbrev pub member : SemanticStacks → SemanticStacks
member s = record s {
  token_spans = drop 1 s.token_spans;
  idents = drop 1 s.idents;
  expr_spans = drop 1 s.expr_spans;
  exprs = drop 1 s.exprs;
  members = record { name = top_or no_ident s.idents; value = top_or no_expr s.exprs } ∷ s.members;
}

-- `fn name parametrics ( fields ) -> type block`
abbrev pub function : SemanticStacks → SemanticStacks
function s =
    let arguments = top_or 0 s.counts in
    let parametrics = top_or 0 (drop 1 s.counts) in
    let body = top_or no_block s.blocks in
    record s {
      token_spans = drop 3 s.token_spans;
      counts = drop 1 (drop 1 s.counts);
      idents = drop 1 s.idents;
      parametrics = drop parametrics s.parametrics;
      fields = drop arguments s.fields;
      annotations = drop 1 s.annotations;
      blocks = drop 1 s.blocks;
      definitions = definitions.Function (record {
        span = join (across 3 s.token_spans) (out-Block body).span;
        name = top_or no_ident s.idents;
        parametrics = reverse (take parametrics s.parametrics);
        arguments = reverse (take arguments s.fields);
        result = top_or None s.annotations;
        body = body;
      }) ∷ s.definitions;
    }

-- `const name : type = expr ;`
abbrev pub constant : SemanticStacks → SemanticStacks
constant s = record s {
  token_spans = drop 3 s.token_spans;
  idents = drop 1 s.idents;
  annotations = drop 1 s.annotations;
  expr_spans = drop 1 s.expr_spans;
  exprs = drop 1 s.exprs;
  definitions = definitions.Constant (record {
    span = across 3 s.token_spans;
    name = top_or no_ident s.idents;
    ty = top_or None s.annotations;
    value = top_or no_expr s.exprs;
  }) ∷ s.definitions;
}

-- `type name = type ;`
abbrev pub alias : SemanticStacks → SemanticStacks
alias s = record s {
  token_spans = drop 3 s.token_spans;
  idents = drop 1 s.idents;
  types = drop 1 s.types;
  definitions = definitions.Alias (record { span = across 3 s.token_spans; name = top_or no_ident s.idents; ty = top_or no_type s.types }) ∷ s.definitions;
}

-- `struct name { fields }`
abbrev pub structure : SemanticStacks → SemanticStacks
structure s =
    let count = top_or 0 s.counts in
    record s {
      token_spans = drop 3 s.token_spans;
      counts = drop 1 s.counts;
      idents = drop 1 s.idents;
      fields = drop count s.fields;
      definitions = definitions.Struct (record { span = across 3 s.token_spans; name = top_or no_ident s.idents; fields = reverse (take count s.fields) }) ∷ s.definitions;
    }

-- `enum name : type { members }`
abbrev pub enumeration : SemanticStacks → SemanticStacks
enumeration s =
    let count = top_or 0 s.counts in
    record s {
      token_spans = drop 4 s.token_spans;
      counts = drop 1 s.counts;
      idents = drop 1 s.idents;
      types = drop 1 s.types;
      members = drop count s.members;
      definitions = definitions.Enum (record {
        span = across 4 s.token_spans;
        name = top_or no_ident s.idents;
        base = top_or no_type s.types;
        members = reverse (take count s.members);
      }) ∷ s.definitions;
    }

-- a definition, and whether `pub` stands before it
abbrev pub private_item : SemanticStacks → SemanticStacks
private_item s = record s {
  definitions = drop 1 s.definitions;
  items = record { is_public = false; definition = top_or no_definition s.definitions } ∷ s.items;
}

abbrev pub public_item : SemanticStacks → SemanticStacks
public_item s = record s {
  token_spans = drop 1 s.token_spans;
  definitions = drop 1 s.definitions;
  items = record { is_public = true; definition = top_or no_definition s.definitions } ∷ s.items;
}
