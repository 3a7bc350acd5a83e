-- What is wrong where an expression is used: as a constraint, as the right side of an assignment, as the body of a
-- define, as an actual parameter; and with a declared type.
use Rattle.std.specs.Prelude.{ℕ, Bool, true, false, List, [], ◌∷◌, ◌++◌, Option, Some, None, Ok, Err}
use Rattle.smv_tree.specs.declared.place.Place.{Place}
use Rattle.smv_tree.specs.declared.program.Kind.{Kind}
use Rattle.smv_tree.specs.declared.program.Kind.TheVariants as kind
use Rattle.smv_tree.specs.declared.program.Moment.{Moment}
use Rattle.smv_tree.specs.declared.program.Moment.TheVariants as moment
use Rattle.smv_tree.specs.declared.program.Section.{Section}
use Rattle.smv_tree.specs.declared.program.Section.TheVariants as section
use Rattle.smv_tree.specs.declared.value.Ty.{Ty}
use Rattle.smv_tree.specs.Trees.{Tree, truth, number, word, name, span, set, cases, choice, one, two, select, next, widen, const, count}
use Rattle.smv_kinds.specs.declared.typing.Typing.{Typing}
use Rattle.smv_kinds.specs.declared.typing.NodeFault.{NodeFault}
use Rattle.smv_kinds.specs.Nodes.{constraint_fault, assignment_fault, body_fault, type_fault}
use Rattle.type_fault.specs.declared.fault.TypeFault.{TypeFault}
use Rattle.type_fault.specs.declared.fault.TypeFault.TheVariants as faults
use Rattle.smv_typing.specs.declared.scope.Scope.{Scope}
use Rattle.smv_typing.specs.declared.standing.Standing.{Standing}
use Rattle.smv_typing.specs.declared.target.Target.{Target}
use Rattle.smv_typing.specs.Judging.{Judgement, fault_at, judged}

-- a fault at a place, if there is one
abbrev pub listed : Place → Option NodeFault → List TypeFault
listed p None = []
listed p (Some f) = fault_at p f ∷ []

-- what is wrong in an expression; or, where nothing is, with its use, at the place of that
abbrev pub used : Place → (Typing → Option NodeFault) → Judgement Typing → List TypeFault
used p wrong (Ok t) = listed p (wrong t)
used p wrong (Err fs) = fs

-- the place that an expression carries
abbrev pub place_in : Tree → Place
place_in (truth p b) = p
place_in (number p n) = p
place_in (word p w) = p
place_in (name p path) = p
place_in (span p low high) = p
place_in (set p es) = p
place_in (cases p bs) = p
place_in (choice p c a b) = p
place_in (one p o a) = p
place_in (two p o a b) = p
place_in (select p a high low) = p
place_in (next p a) = p
place_in (widen p resize a n) = p
place_in (const p signed v n) = p
place_in (count p es) = p

-- what may stand where one state is spoken of, in a define or an actual, and where a step is spoken of
abbrev pub of_state : Scope
of_state = record { next = false; inputs = false }

abbrev pub of_definition : Scope
of_definition = record { next = false; inputs = true }

abbrev pub of_step : Scope
of_step = record { next = true; inputs = true }

-- what may stand in a constraint, and on the right side of an assignment
abbrev pub constraint_scope : Section → Scope
constraint_scope section.Trans = of_step
constraint_scope _ = of_state

abbrev pub assignment_scope : Moment → Scope
assignment_scope moment.Next = of_step
assignment_scope _ = of_state

-- a constraint, at the place of its section word: one boolean
unfoldable pub constraint_faults : (List (List ℕ) → Standing) → Section → Place → Tree → List TypeFault
constraint_faults names s p e = used p constraint_fault (judged names (constraint_scope s) e)

-- the body of a define: no instance
unfoldable pub body_faults : (List (List ℕ) → Standing) → Tree → List TypeFault
body_faults names e = used (place_in e) body_fault (judged names of_definition e)

-- an actual parameter: no instance, unless it is a path alone
abbrev pub actual_fault : Tree → Typing → Option NodeFault
actual_fault (name p path) t = None
actual_fault _ t = body_fault t

unfoldable pub actual_faults : (List (List ℕ) → Standing) → Tree → List TypeFault
actual_faults names e = used (place_in e) (actual_fault e) (judged names of_definition e)

-- two assignments of one variable exclude each other: of one moment, or one of them holds at each
abbrev pub excludes : Moment → Moment → Bool
excludes moment.First moment.Next = false
excludes moment.Next moment.First = false
excludes _ _ = true

-- what is wrong with assigning to a variable, at the place of its name: an input, one that an earlier assignment
-- excludes, and one that keeps its first value
abbrev pub input_fault : Kind → Place → List ℕ → List TypeFault
input_fault kind.Input p n = faults.InputHere p (n ∷ []) ∷ []
input_fault _ p n = []

abbrev pub again_fault : Bool → Place → List ℕ → List TypeFault
again_fault true p n = faults.Assigned p n ∷ []
again_fault false p n = []

abbrev pub frozen_fault : Kind → Moment → Place → List ℕ → List TypeFault
frozen_fault kind.Frozen moment.First p n = []
frozen_fault kind.Frozen m p n = faults.FrozenAssigned p n ∷ []
frozen_fault _ m p n = []

abbrev pub target_faults : Target → Moment → Place → List ℕ → List TypeFault
target_faults v m p n = input_fault v.kind p n ++ (again_fault v.again p n ++ frozen_fault v.kind m p n)

-- an assignment: its values are of the variable's kind
unfoldable pub assignment_faults : (List (List ℕ) → Standing) → Target → Moment → Place → List ℕ → Tree → List TypeFault
assignment_faults names v m p n e =
    used p (assignment_fault v.sort) (judged names (assignment_scope m) e)
    ++ target_faults v m p n

-- a declared type, at the place of its first token
unfoldable pub type_faults : Place → Ty → List TypeFault
type_faults p t = listed p (type_fault t)
