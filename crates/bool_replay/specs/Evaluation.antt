-- The truth of plain expressions, and the first constraint that is false.
use Rattle.std.specs.Prelude.{ℕ, ◌+◌, Bool, false, not, if◌then◌else◌, List, [], ◌∷◌, Option, Some, None}
use Rattle.std.specs.Option.{option_or, option_map}
use Rattle.std.specs.Str.{bytes_eq}
use Rattle.std.proofs.Math.Bool.{beq}
use Rattle.smv_tree.specs.Trees.{Tree, truth, name, next, one, two}
use Rattle.smv_tree.specs.Models.{Part, constraint}
use Rattle.smv_tree.specs.declared.expr.Op1.TheVariants as op1
use Rattle.smv_tree.specs.declared.expr.Op2.TheVariants as op2
use Rattle.smv_tree.specs.declared.program.Section.TheVariants as section
use Rattle.bool_replay.specs.declared.verdict.Cause.{Cause}
use Rattle.bool_replay.specs.declared.verdict.Cause.TheVariants.{Init, Trans}

-- the truth value at the place of a name
abbrev pub bool_at : List (List ℕ) → List Bool → List ℕ → Bool
bool_at (m ∷ names) (x ∷ xs) n = if bytes_eq n m then x else bool_at names xs n
bool_at _ _ n = false

-- the truth of a plain expression, where names have these values now and those later
abbrev pub truth_of : List (List ℕ) → List Bool → List Bool → Tree → Bool
truth_of names now later (truth p b) = b
truth_of names now later (name p (n ∷ [])) = bool_at names now n
truth_of names now later (next p e) = truth_of names later later e
truth_of names now later (one p op1.Not e) = not (truth_of names now later e)
truth_of names now later (two p op2.Eq a b) = beq (truth_of names now later a) (truth_of names now later b)
truth_of names now later _ = false

-- the cause of a constraint of this section that is false
abbrev pub init_cause : List (List ℕ) → List Bool → Part → Option Cause
init_cause names s (constraint section.Init p e) = if truth_of names s [] e then None else Some (Init p)
init_cause names s _ = None

abbrev pub step_cause : List (List ℕ) → List Bool → List Bool → Part → Option Cause
step_cause names s t (constraint section.Trans p e) = if truth_of names s t e then None else Some (Trans p)
step_cause names s t _ = None

abbrev pub first_init : List (List ℕ) → List Bool → List Part → Option Cause
first_init names s [] = None
first_init names s (part ∷ parts) = option_or (init_cause names s part) (first_init names s parts)

abbrev pub first_step : List (List ℕ) → List Bool → List Bool → List Part → Option Cause
first_step names s t [] = None
first_step names s t (part ∷ parts) = option_or (step_cause names s t part) (first_step names s t parts)

-- where a replay stops: the number of the state, from 1, and the cause
abbrev pub at_number : ℕ → Option Cause → Option (ℕ × Cause)
at_number n = option_map (λ cause. (n, cause))

-- the first stop behind state n, which is s
abbrev pub stop_behind : List (List ℕ) → List Part → ℕ → List Bool → List (List Bool) → Option (ℕ × Cause)
stop_behind names parts n s [] = None
stop_behind names parts n s (t ∷ states) = option_or (at_number (n + 1) (first_step names s t parts)) (stop_behind names parts (n + 1) t states)

abbrev pub stop_of : List (List ℕ) → List Part → List (List Bool) → Option (ℕ × Cause)
stop_of names parts [] = None
stop_of names parts (s ∷ states) = option_or (at_number 1 (first_init names s parts)) (stop_behind names parts 1 s states)
