-- The grammar of programs.
use Rattle.std.specs.Prelude.{◌++◌, ℕ, min, Bool, true, false, List, [], ◌∷◌, Option, Some, None}
use Rattle.smv_tree.specs.declared.place.Place.{Place}
use Rattle.smv_tree.specs.declared.program.Kind.{Kind}
use Rattle.smv_tree.specs.declared.program.Moment.{Moment}
use Rattle.smv_tree.specs.declared.program.Moment.TheVariants as moment
use Rattle.smv_tree.specs.declared.program.Section.{Section}
use Rattle.smv_tree.specs.declared.value.Ty.TheVariants as ty
use Rattle.smv_tree.specs.declared.value.Value.{Value}
use Rattle.smv_tree.specs.declared.value.Value.TheVariants as value
use Rattle.smv_tree.specs.Models.{Body, Formal, Part, plain, instance, variable, define, assign, constraint, property}
use Rattle.smv_token.specs.declared.mark.Mark.TheVariants as marks
use Rattle.smv_grammar.specs.Forms.{integer}
use Rattle.smv_grammar.specs.Formulas.{outermost}
use Rattle.smv_rules.specs.Keys.{Heading, Target, variables, definitions, assignments, constraints, properties, itself, of_moment}
use Rattle.smv_rules.specs.Keys as key
use Rattle.smv_rules.specs.Rules.{Rule, gives, must, may, again, ◌>>=◌}
use Rattle.smv_rules.specs.Expressions.{an_int, expr, mark, name, number, operands, optional}
use Rattle.smv_rules.specs.Formulas.{formula_level}
use Rattle.smv_rules.specs.Sorts.{a_shape, a_value, some_bodies, some_formals, some_parts, some_values}

-- the width of a word; what is above 255 stands as that
abbrev pub width : ℕ → ℕ
width n = min n 255

-- a formal parameter
abbrev pub formal : List ℕ → Place → Formal
formal n p = record { name = n; place = p }

-- elem: a name or an int
abbrev pub an_elem : Rule a_value
an_elem = may a_value key.name (λ n. gives a_value (value.Sym n.0)) (an_int >>= (λ i. gives a_value (value.Int i)))

-- { , elem }*, behind elements
abbrev pub more_elems : List Value → Rule some_values
more_elems vs = again some_values (key.mark marks.Comma) (λ vs q. an_elem >>= (λ w. gives some_values (vs ++ w ∷ []))) vs

-- elem { , elem }* "}"
abbrev pub enumeration : Place → Rule a_shape
enumeration p = do
  v ← an_elem
  vs ← more_elems (v ∷ [])
  q ← mark marks.CloseCurly
  gives a_shape (plain (ty.Enum vs) p)

-- .. int, behind the first int
abbrev pub interval : Place → Bool → ℕ → Rule a_shape
interval p minus n = do
  q ← mark marks.Dots
  high ← an_int
  gives a_shape (plain (ty.Range (integer minus n) high) p)

-- "[" number "]"
abbrev pub sized : Place → Bool → Rule a_shape
sized p signed = do
  q ← mark marks.OpenSquare
  n ← number
  r ← mark marks.CloseSquare
  gives a_shape (plain (ty.Word signed (width n)) p)

-- int .. int, with a number at its front
abbrev pub a_range : Rule a_shape
a_range = must a_shape key.counted (λ n. interval n.1 false n.0)

-- type: boolean, an enumeration, a range, or a word
abbrev pub a_type : Rule a_shape
a_type =
    may a_shape (key.mark marks.Boolean) (λ p. gives a_shape (plain ty.Bool p))
    (may a_shape (key.mark marks.OpenCurly) (λ p. enumeration p)
    (may a_shape (key.mark marks.Minus) (λ p. number >>= (λ n. interval p true n))
    (may a_shape (key.mark marks.WordType) (λ p. sized p false)
    (may a_shape (key.mark marks.Unsigned) (λ p. mark marks.WordType >>= (λ q. sized p false))
    (may a_shape (key.mark marks.Signed) (λ p. mark marks.WordType >>= (λ q. sized p true)) a_range)))))

-- expr { , expr }* ")"
abbrev pub some_actuals : List ℕ → Place → Rule a_shape
some_actuals m p = do
  xs ← operands
  q ← mark marks.CloseRound
  gives a_shape (instance m p xs.trees)

-- [ expr { , expr }* ] ")"
abbrev pub actuals : List ℕ → Place → Rule a_shape
actuals m p = may a_shape (key.mark marks.CloseRound) (λ q. gives a_shape (instance m p [])) (some_actuals m p)

-- instance: name [ "(" [ expr { , expr }* ] ")" ], behind the name
abbrev pub instantiated : List ℕ → Place → Rule a_shape
instantiated m p = may a_shape (key.mark marks.OpenRound) (λ q. actuals m p) (gives a_shape (instance m p []))

-- type | instance, or type alone
abbrev pub a_declared : Bool → Rule a_shape
a_declared true = may a_shape key.name (λ m. instantiated m.0 m.1) a_type
a_declared false = a_type

-- a part behind others
abbrev pub with_part : List Part → Part → Rule some_parts
with_part ps p = gives some_parts (ps ++ p ∷ [])

-- { name : type ; }*, or with instances
abbrev pub declared : Kind → Bool → List Part → Rule some_parts
declared k instances ps = again some_parts key.name (λ ps n. do
  p ← mark marks.Colon
  y ← a_declared instances
  q ← mark marks.Semicolon
  with_part ps (variable k n.0 n.1 y)) ps

-- { name := expr ; }*
abbrev pub defined : List Part → Rule some_parts
defined ps = again some_parts key.name (λ ps n. do
  p ← mark marks.Becomes
  x ← expr
  q ← mark marks.Semicolon
  with_part ps (define n.0 n.1 x.tree)) ps

-- := expr ;
abbrev pub assigned : List Part → Moment → List ℕ → Place → Rule some_parts
assigned ps m n p = do
  q ← mark marks.Becomes
  x ← expr
  r ← mark marks.Semicolon
  with_part ps (assign m n p x.tree)

-- what follows the first token of an assignment
abbrev pub assigned_from : List Part → Target → Place → Rule some_parts
assigned_from ps (itself n) p = assigned ps moment.Each n p
assigned_from ps (of_moment m) p = do
  q ← mark marks.OpenRound
  n ← name
  r ← mark marks.CloseRound
  assigned ps m n.0 n.1

-- { ( name | init "(" name ")" | next "(" name ")" ) := expr ; }*
abbrev pub all_assigned : List Part → Rule some_parts
all_assigned ps = again some_parts key.target (λ ps t. assigned_from ps t.0 t.1) ps

-- expr [ ; ]
abbrev pub constrained : List Part → Section → Place → Rule some_parts
constrained ps s p = do
  x ← expr
  q ← optional marks.Semicolon
  with_part ps (constraint s p x.tree)

-- formula [ ; ]
abbrev pub specified : List Part → Option (List ℕ) → Place → Rule some_parts
specified ps n p = do
  x ← formula_level outermost
  q ← optional marks.Semicolon
  with_part ps (property n p x.claim)

-- name := formula [ ; ]
abbrev pub specified_by_name : List Part → Place → Rule some_parts
specified_by_name ps p = do
  n ← name
  r ← mark marks.Becomes
  specified ps (Some n.0) p

-- [ NAME name := ] formula [ ; ]
abbrev pub a_property : List Part → Place → Rule some_parts
a_property ps p = may some_parts (key.mark marks.NameWord) (λ q. specified_by_name ps p) (specified ps None p)

-- a section, behind its word and behind other parts
abbrev pub section_from : List Part → Heading → Place → Rule some_parts
section_from ps (variables k instances) p = declared k instances ps
section_from ps definitions p = defined ps
section_from ps assignments p = all_assigned ps
section_from ps (constraints s) p = constrained ps s p
section_from ps properties p = a_property ps p

-- { section }*, behind other parts
abbrev pub more_sections : List Part → Rule some_parts
more_sections ps = again some_parts key.heading (λ ps h. section_from ps h.0 h.1) ps

abbrev pub sections : Rule some_parts
sections = more_sections []

-- { , name }*, behind names
abbrev pub more_formals : List Formal → Rule some_formals
more_formals fs = again some_formals (key.mark marks.Comma) (λ fs p. name >>= (λ m. gives some_formals (fs ++ formal m.0 m.1 ∷ []))) fs

-- name { , name }* ")"
abbrev pub some_names : Rule some_formals
some_names = do
  n ← name
  fs ← more_formals (formal n.0 n.1 ∷ [])
  q ← mark marks.CloseRound
  gives some_formals fs

-- [ "(" [ name { , name }* ] ")" ]
abbrev pub formals : Rule some_formals
formals = may some_formals (key.mark marks.OpenRound) (λ p. may some_formals (key.mark marks.CloseRound) (λ q. gives some_formals []) some_names) (gives some_formals [])

-- name [ "(" [ name { , name }* ] ")" ] { section }*, behind modules
abbrev pub one_module : List Body → Rule some_bodies
one_module ms = do
  n ← name
  fs ← formals
  ps ← sections
  gives some_bodies (ms ++ record { name = n.0; place = n.1; params = fs; parts = ps } ∷ [])

-- { MODULE name [ "(" [ name { , name }* ] ")" ] { section }* }*, behind modules
abbrev pub more_modules : List Body → Rule some_bodies
more_modules ms = again some_bodies (key.mark marks.Module) (λ ms p. one_module ms) ms

abbrev pub program : Rule some_bodies
program = more_modules []
