-- What the code hands on, as the rules give it.
use Rattle.std.specs.Prelude.{List, Option, Some, None, map, codes}
use denote.Ref.{Bor}
use Rattle.smv_tree.specs.Trees.{expr_tree}
use Rattle.smv_token.specs.declared.token.Token.{Token}
use Rattle.smv_grammar.specs.Branches.{arm_of}
use Rattle.smv_rules.specs.Sorts.{Branches, Expression, Operands}
use Rattle.smv_rules.specs.Keys as key
use Rattle.smv_reader.specs.declared.opening.Opener.{Opener}
use Rattle.smv_reader.specs.declared.opening.Opener.TheVariants as opener
use Rattle.smv_reader.specs.declared.opening.Opening.{Opening}
use Rattle.smv_reader.specs.declared.opening.Opening.TheVariants as opening
use Rattle.smv_reader.specs.declared.parsed.Parsed.{Parsed}
use Rattle.smv_reader.specs.declared.parsed.ParsedList.{ParsedList}
use Rattle.smv_reader.specs.declared.parsed.ParsedCase.{ParsedCase}

abbrev pub expression_of : Parsed → Expression
expression_of x = record { tree = expr_tree x.expr; depth = x.depth; bare = x.bare }

abbrev pub operands_of : ParsedList → Operands
operands_of x = record { trees = map expr_tree x.exprs.items; depth = x.depth }

abbrev pub branches_of : ParsedCase → Branches
branches_of x = record { arms = map arm_of x.branches.items; depth = x.depth }

-- an expression, and the tokens behind it
abbrev pub found : Parsed × Bor (List Token) → Expression × List Token
found x = (expression_of x.0, x.1.now)

abbrev pub opener_of : Opener → key.Opener
opener_of opener.Round = key.round
opener_of opener.Set = key.set
opener_of opener.Branches = key.branches
opener_of opener.Count = key.count
opener_of opener.Next = key.next
opener_of (opener.Function o) = key.function o
opener_of (opener.Widen resize) = key.widen resize
opener_of (opener.Const signed) = key.const signed

abbrev pub opening_of : Opening → key.Primary
opening_of (opening.Truth b) = key.truth b
opening_of opening.SelfPath = key.path (codes "self")
opening_of opening.Below = key.below
opening_of (opening.Opens o) = key.opens (opener_of o)

abbrev pub primary_seen : Option Opening → Option key.Primary
primary_seen None = None
primary_seen (Some o) = Some (opening_of o)
