-- What holds at a moment, and the runs of a program.
use Rattle.std.specs.Prelude.{◌≡◌, ℕ, true, List, [], ◌∷◌, ◌++◌, Contains, ⊤}
use Rattle.std.specs.List.{AllByRecursion}
use Rattle.smv_tree.specs.Trees.{Tree}
use Rattle.smv_tree.specs.Models.{Body, Part, assign, constraint}
use Rattle.smv_tree.specs.declared.program.Kind.TheVariants as kind
use Rattle.smv_tree.specs.declared.program.Moment.TheVariants as moment
use Rattle.smv_tree.specs.declared.program.Section.TheVariants as section
use Rattle.smv_tree.specs.declared.value.Value.{Value}
use Rattle.smv_tree.specs.declared.value.Value.TheVariants.{Truth}
use Rattle.smv_tree.specs.Legal.{IsLegal}
use Rattle.smv_meaning.specs.Instances.{Instance, Variable, instances, variables}
use Rattle.smv_meaning.specs.Values.{Naming, Snapshot, IsNaming, values, variable_values, state_variables, input_variables}

-- one legal value for each variable
abbrev pub AreLegal : List Variable → List Value → Type 0
AreLegal [] [] = ⊤
AreLegal (v ∷ vars) (x ∷ xs) = IsLegal v.type x × AreLegal vars xs
AreLegal _ _ = ⊥

-- a state, and an input
abbrev pub IsState : List Body → List Value → Type 0
IsState program s = AreLegal (state_variables (variables program)) s

abbrev pub IsInput : List Body → List Value → Type 0
IsInput program i = AreLegal (input_variables (variables program)) i

-- an expression has exactly these values at a moment and the next one
abbrev pub HasValues : List Body → Snapshot → Snapshot → List (List ℕ) → Tree → List Value → Type 0
HasValues program m n up e vs =
    (now : Naming) × (later : Naming) × IsNaming program m now × IsNaming program n later
    × (values now later up e ≡ vs)

-- a constraint holds where its one value is true
abbrev pub Holds : List Body → Snapshot → Snapshot → List (List ℕ) → Tree → Type 0
Holds program m n up e = HasValues program m n up e (Truth true ∷ [])

-- a moment without a next one: what nothing may look at
abbrev pub nothing_else : Snapshot
nothing_else = record { state = []; input = [] }

-- a variable has one of the values of an expression: the value that it has at one moment, of those
-- that the expression has at another
abbrev pub Takes : List Body → Snapshot → Snapshot → Snapshot → Instance → List ℕ → Tree → Type 0
Takes program when m n i x e =
    (vs : List Value) × (v : Value) × HasValues program m n i.up e vs
    × (variable_values (variables program) when (i.path ++ x ∷ []) ≡ v ∷ [])
    × Contains vs v

-- what a declaration asks of the first state
abbrev pub AsksFirst : List Body → Snapshot → Instance → Part → Type 0
AsksFirst program m i (constraint section.Init p e) = Holds program m nothing_else i.up e
AsksFirst program m i (assign moment.First x p e) = Takes program m m nothing_else i x e
AsksFirst program m i _ = ⊤

-- what it asks of each state
abbrev pub AsksEach : List Body → Snapshot → Instance → Part → Type 0
AsksEach program m i (constraint section.Invar p e) = Holds program m nothing_else i.up e
AsksEach program m i (assign moment.Each x p e) = Takes program m m nothing_else i x e
AsksEach program m i _ = ⊤

-- what it asks of a moment and the one after it
abbrev pub AsksStep : List Body → Snapshot → Snapshot → Instance → Part → Type 0
AsksStep program m n i (constraint section.Trans p e) = Holds program m n i.up e
AsksStep program m n i (assign moment.Next x p e) = Takes program n m n i x e
AsksStep program m n i _ = ⊤

-- each declaration of each instance has what it asks for
abbrev pub AllAsked : (Instance → Part → Type 0) → List Body → Type 0
AllAsked asks program = AllByRecursion (λ i. AllByRecursion (asks i) i.body.parts) (instances program)

-- a state alone
abbrev pub at_state : List Value → Snapshot
at_state s = record { state = s; input = [] }

abbrev pub IsFirst : List Body → List Value → Type 0
IsFirst program s = AllAsked (AsksFirst program (at_state s)) program

abbrev pub IsAllowed : List Body → List Value → Type 0
IsAllowed program s = IsState program s × AllAsked (AsksEach program (at_state s)) program

-- a frozen variable keeps its value
abbrev pub Keeps : Snapshot → Snapshot → List Variable → Variable → Type 0
Keeps m n vars v = v.kind ≡ kind.Frozen → variable_values vars n v.path ≡ variable_values vars m v.path

abbrev pub IsStep : List Body → List Value → List Value → List Value → Type 0
IsStep program s i t =
    IsInput program i
    × AllByRecursion (Keeps (at_state s) (at_state t) (variables program)) (variables program)
    × AllAsked (AsksStep program (record { state = s; input = i }) (at_state t)) program

-- from a state on, each state is allowed, and each input leads to the next state
abbrev pub IsPath : List Body → List Value → List (List Value) → List (List Value) → Type 0
IsPath program s [] [] = IsAllowed program s
IsPath program s (t ∷ states) (i ∷ inputs) =
    IsAllowed program s × IsStep program s i t × IsPath program t states inputs
IsPath program s _ _ = ⊥

-- a run: a first state, and the states and inputs after it
abbrev pub IsRun : List Body → List (List Value) → List (List Value) → Type 0
IsRun program [] inputs = ⊥
IsRun program (s ∷ states) inputs = IsFirst program s × IsPath program s states inputs
