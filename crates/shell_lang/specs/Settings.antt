-- What is always so of the variables: the known ones are settled.
use Rattle.std.specs.Prelude.{◌≡◌, ℕ, true, List, Option, Some, IsSome, cond, codes}
use Rattle.std.specs.Ordering.{nat_cmp}
use Rattle.std.specs.Cmp.Lexicographic.{slice_cmp}
use Rattle.std.specs.BTreeMap.{is_at}
use Rattle.shell_lang.specs.Keyed.{at_name}
use Rattle.shell_lang.specs.Known.{default_of, takes}
use Rattle.shell_lang.specs.declared.known.Known.{Known}
use Rattle.shell_lang.specs.declared.known.Known.TheVariants.{Length, Loopback, Steps, Plugin, Shown, Budget, Quits, Input}

-- the name of a known variable
abbrev pub name_of : Known → List ℕ
name_of Length = codes "bmc_length"
name_of Loopback = codes "bmc_loopback"
name_of Steps = codes "default_simulation_steps"
name_of Plugin = codes "default_trace_plugin"
name_of Shown = codes "shown_states"
name_of Budget = codes "conflict_budget"
name_of Quits = codes "on_failure_script_quits"
name_of Input = codes "input_file"

-- Each known variable with a default has a value, and each known one that has a value takes it.
pub record AreSettled (vars : List (List ℕ × List ℕ)) : Type 0 where
  pub held : (known : Known) → IsSome (default_of known) → IsSome (at_name vars (name_of known))
  pub taken : (known : Known) (value : List ℕ) → at_name vars (name_of known) ≡ Some value → takes known value ≡ true

-- the name has this value or none, and each other name what it had
abbrev pub Changes : List (List ℕ × List ℕ) → List (List ℕ × List ℕ) → List ℕ → Option (List ℕ) → Type 0
Changes old new name value =
    (other : List ℕ) → at_name new other ≡ cond (is_at (slice_cmp nat_cmp name) other) value (at_name old other)
