-- The variables that the shell knows, their defaults and the values that they take.
use Rattle.std.specs.Prelude.{ℕ, Bool, true, false, ◌&&◌, ◌||◌, ◌==◌, nat_le, List, [], ◌∷◌, codes, Option, Some, None, option_and_then, is_none, if◌then◌else◌, not}
use Rattle.std.specs.Option.{option_map_or}
use Rattle.std.specs.Str.{bytes_eq}
use Rattle.outside.specs.Number.{number_of}
use Rattle.shell_lang.specs.Keyed.{at_name, with_name, without_name}
use Rattle.shell_lang.specs.declared.known.Known.{Known}
use Rattle.shell_lang.specs.declared.known.Known.TheVariants.{Length, Loopback, Steps, Plugin, Shown, Budget, Quits, Input}

-- the known variable of this name
abbrev pub known_of : List ℕ → Option Known
known_of name =
    if bytes_eq name (codes "bmc_length") then Some Length
    else (if bytes_eq name (codes "bmc_loopback") then Some Loopback
    else (if bytes_eq name (codes "default_simulation_steps") then Some Steps
    else (if bytes_eq name (codes "default_trace_plugin") then Some Plugin
    else (if bytes_eq name (codes "shown_states") then Some Shown
    else (if bytes_eq name (codes "conflict_budget") then Some Budget
    else (if bytes_eq name (codes "on_failure_script_quits") then Some Quits
    else (if bytes_eq name (codes "input_file") then Some Input else None)))))))

-- the value that a variable has as long as it is not set
abbrev pub default_of : Known → Option (List ℕ)
default_of Length = Some (codes "10")
default_of Loopback = Some (codes "*")
default_of Steps = Some (codes "10")
default_of Plugin = Some (codes "0")
default_of Shown = Some (codes "25")
default_of Budget = None
default_of Quits = Some (codes "0")
default_of Input = None

-- a number from the first to the last
abbrev pub in_range : ℕ → ℕ → List ℕ → Bool
in_range least most text = option_map_or (λ n. nat_le least n && nat_le n most) (number_of text) false

-- a loop choice: `X`, `*`, a number, or `-` and a number from 1
abbrev pub is_loop_choice : List ℕ → Bool
is_loop_choice [] = false
is_loop_choice (first ∷ rest) =
    bytes_eq (first ∷ rest) (codes "X") || bytes_eq (first ∷ rest) (codes "*")
    || (if first == 45 then in_range 1 4294967295 rest else in_range 0 4294967295 (first ∷ rest))

-- the variable takes the value
abbrev pub takes : Known → List ℕ → Bool
takes Length value = in_range 0 10000 value
takes Loopback value = is_loop_choice value
takes Steps value = in_range 1 10000 value
takes Plugin value = in_range 0 3 value
takes Shown value = in_range 1 1000 value
takes Budget value = in_range 1 9223372036854775807 value
takes Quits value = bytes_eq value [] || in_range 0 1 value
takes Input value = true

-- a known variable that does not take the value
abbrev pub is_illegal : List ℕ → List ℕ → Bool
is_illegal name value = option_map_or (λ known. not (takes known value)) (known_of name) false

-- a name that is not known and has no value
abbrev pub is_unknown : List (List ℕ × List ℕ) → List ℕ → Bool
is_unknown vars name = is_none (known_of name) && is_none (at_name vars name)

-- the default of the name, if it has one
abbrev pub default_at : List ℕ → Option (List ℕ)
default_at name = option_and_then default_of (known_of name)

-- the variables after one is taken back: it has its default, or no value
abbrev pub taken_back : List (List ℕ × List ℕ) → List ℕ → List (List ℕ × List ℕ)
taken_back vars name = option_map_or (with_name vars name) (default_at name) (without_name vars name)

-- the variables at the start: those with a default, in order
abbrev pub defaults : List (List ℕ × List ℕ)
defaults =
    (codes "bmc_length", codes "10") ∷ (codes "bmc_loopback", codes "*") ∷ (codes "default_simulation_steps", codes "10")
    ∷ (codes "default_trace_plugin", codes "0") ∷ (codes "on_failure_script_quits", codes "0") ∷ (codes "shown_states", codes "25") ∷ []
