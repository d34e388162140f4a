-- What the builder does at the rules of modules, functions, constants and types that are named is what they make.
use Rattle.std.proofs.Common.{refl, ◌∷◌}
use Rattle.dslx_tree.specs.declared.block.Block.{out-Block}
use Rattle.dslx_tree.specs.declared.item.Definition.TheVariants as definitions
use Rattle.dslx_parser.specs.Builder.Building.{rule_of}
use Rattle.dslx_parser.specs.Builder.Table.{table}
use Rattle.dslx_parser.specs.Syntax.Nodes.{from_to}
use Rattle.dslx_parser.specs.Syntax.Items as items_rules
use Rattle.dslx_parser.proofs.OnBuilt.Onto.{dropped, taken}
use Rattle.dslx_parser.proofs.OnBuilt.Fitting.{AllFit}

pub fit : AllFit rule_of items_rules.rules
unfolding table items_rules.rules
fit =
    -- module = items
    (
      λ parts s. refl,
      -- items = item items
      (
        λ parts s. refl,
        -- items = (nothing)
        (
          λ parts s. refl,
          -- item = PUB definition
          (
            λ parts s. refl,
            -- item = definition
            (
              λ parts s. refl,
              -- definition = function
              (
                λ parts s. refl,
                -- definition = proc
                (
                  λ parts s. refl,
                  -- definition = constant
                  (
                    λ parts s. refl,
                    -- definition = alias
                    (
                      λ parts s. refl,
                      -- definition = structure
                      (
                        λ parts s. refl,
                        -- definition = enumeration
                        (
                          λ parts s. refl,
                          -- any_name = NAME
                          (
                            λ parts s. refl,
                            -- any_name = TYPENAME
                            (
                              λ parts s. refl,
                              -- any_name = FUNNAME
                              (
                                λ parts s. refl,
                                -- any_name = STRUCTNAME
                                (
                                  λ parts s. refl,
                                  -- any_name = BOTHNAME
                                  (
                                    λ parts s. refl,
                                    -- open_brace = LBRACE
                                    (
                                      λ parts s. refl,
                                      -- open_brace = FIELDS
                                      (
                                        λ parts s. refl,
                                        -- open_angle = LT
                                        (
                                          λ parts s. refl,
                                          -- open_angle = ARGS
                                          (
                                            λ parts s. refl,
                                            -- function = FN any_name parameters LPAREN arguments_declared RPAREN result_type block
                                            (
                                              λ parts s. λ i. record s { fields = dropped parts.1.1.1.1.0 s.fields i; parametrics = dropped parts.1.1.0 s.parametrics i; definitions = definitions.Function (record { span = from_to parts.0.span (out-Block parts.1.1.1.1.1.1.1.0).span; name = parts.1.0; parametrics = taken parts.1.1.0 s.parametrics i; arguments = taken parts.1.1.1.1.0 s.fields i; result = parts.1.1.1.1.1.1.0; body = parts.1.1.1.1.1.1.1.0 }) ∷ s.definitions },
                                              -- result_type = ARROW type
                                              (
                                                λ parts s. refl,
                                                -- result_type = (nothing)
                                                (
                                                  λ parts s. refl,
                                                  -- parameters = open_angle parameter parameters_more GT
                                                  (
                                                    λ parts s. refl,
                                                    -- parameters = (nothing)
                                                    (
                                                      λ parts s. refl,
                                                      -- parameters_more = COMMA parameter parameters_more
                                                      (
                                                        λ parts s. refl,
                                                        -- parameters_more = (nothing)
                                                        (
                                                          λ parts s. refl,
                                                          -- parameter = any_name COLON type parameter_default
                                                          (
                                                            λ parts s. refl,
                                                            -- parameter_default = ASSIGN LBRACE expr RBRACE
                                                            (
                                                              λ parts s. refl,
                                                              -- parameter_default = (nothing)
                                                              (
                                                                λ parts s. refl,
                                                                -- arguments_declared = argument_declared arguments_declared_more
                                                                (
                                                                  λ parts s. refl,
                                                                  -- arguments_declared = (nothing)
                                                                  (
                                                                    λ parts s. refl,
                                                                    -- arguments_declared_more = COMMA arguments_declared
                                                                    (
                                                                      λ parts s. refl,
                                                                      -- arguments_declared_more = (nothing)
                                                                      (
                                                                        λ parts s. refl,
                                                                        -- argument_declared = any_name COLON type
                                                                        (
                                                                          λ parts s. refl,
                                                                          -- constant = CONST any_name constant_type ASSIGN expr SEMI
                                                                          (
                                                                            λ parts s. refl,
                                                                            -- constant_type = COLON type
                                                                            (
                                                                              λ parts s. refl,
                                                                              -- constant_type = (nothing)
                                                                              (
                                                                                λ parts s. refl,
                                                                                -- alias = TYPE any_name ASSIGN type SEMI
                                                                                (
                                                                                  λ parts s. refl,
                                                                                  -- structure = STRUCT any_name open_brace arguments_declared RBRACE
                                                                                  (
                                                                                    λ parts s. λ i. record s { fields = dropped parts.1.1.1.0 s.fields i; definitions = definitions.Struct (record { span = from_to parts.0.span parts.1.1.1.1.0.span; name = parts.1.0; fields = taken parts.1.1.1.0 s.fields i }) ∷ s.definitions },
                                                                                    -- enumeration = ENUM any_name COLON type open_brace members RBRACE
                                                                                    (
                                                                                      λ parts s. λ i. record s { members = dropped parts.1.1.1.1.1.0 s.members i; definitions = definitions.Enum (record { span = from_to parts.0.span parts.1.1.1.1.1.1.0.span; name = parts.1.0; base = parts.1.1.1.0; members = taken parts.1.1.1.1.1.0 s.members i }) ∷ s.definitions },
                                                                                      -- members = member members_more
                                                                                      (
                                                                                        λ parts s. refl,
                                                                                        -- members = (nothing)
                                                                                        (
                                                                                          λ parts s. refl,
                                                                                          -- members_more = COMMA members
                                                                                          (
                                                                                            λ parts s. refl,
                                                                                            -- members_more = (nothing)
                                                                                            (
                                                                                              λ parts s. refl,
                                                                                              -- member = any_name ASSIGN expr
                                                                                              (
                                                                                                λ parts s. refl,
                                                                                                tt,
                                                                                              ),
                                                                                            ),
                                                                                          ),
                                                                                        ),
                                                                                      ),
                                                                                    ),
                                                                                  ),
                                                                                ),
                                                                              ),
                                                                            ),
                                                                          ),
                                                                        ),
                                                                      ),
                                                                    ),
                                                                  ),
                                                                ),
                                                              ),
                                                            ),
                                                          ),
                                                        ),
                                                      ),
                                                    ),
                                                  ),
                                                ),
                                              ),
                                            ),
                                          ),
                                        ),
                                      ),
                                    ),
                                  ),
                                ),
                              ),
                            ),
                          ),
                        ),
                      ),
                    ),
                  ),
                ),
              ),
            ),
          ),
        ),
      ),
    )
