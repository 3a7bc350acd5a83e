-- The phases of a session, in their order, and what a session lacks for a command.
use Rattle.std.specs.Prelude.{ℕ, ◌&&◌, nat_le, nat_lt, List, [], ◌∷◌, Option, Some, None, codes, find, option_map}
use Rattle.smv_tree.specs.declared.program.Program.{Program}
use Rattle.shell_world.specs.declared.phase.Phase.{Phase}
use Rattle.shell_world.specs.declared.phase.Phase.TheVariants.{Start, Read, Flat, Encoded, Built, SetUp}
use Rattle.shell_world.specs.declared.refusal.Refusal.{Refusal}
use Rattle.shell_world.specs.declared.refusal.Refusal.TheVariants as refusal
use Rattle.shell_world.specs.declared.state.State.{State}

-- the phases in their order
abbrev pub phases : List Phase
phases = Start ∷ Read ∷ Flat ∷ Encoded ∷ Built ∷ SetUp ∷ []

-- the place of a phase in the order
abbrev pub rank : Phase → ℕ
rank Start = 0
rank Read = 1
rank Flat = 2
rank Encoded = 3
rank Built = 4
rank SetUp = 5

-- the word of the command that does a phase; none does the first
abbrev pub phase_word : Phase → List ℕ
phase_word Start = []
phase_word Read = codes "read_model"
phase_word Flat = codes "flatten_hierarchy"
phase_word Encoded = codes "encode_variables"
phase_word Built = codes "build_boolean_model"
phase_word SetUp = codes "bmc_setup"

-- the first phase behind one, up to the one that is needed
abbrev pub missing : Phase → Phase → Option Phase
missing reached needed =
    find (λ p. nat_lt (rank reached) (rank p) && nat_le (rank p) (rank needed)) phases

-- the phase of a session with this model, with which so much was done
abbrev pub phase_of : Option Program → Phase → Phase
phase_of None done = Start
phase_of (Some program) done = done

-- the refusal of a command for which this phase is the first that is missing
abbrev pub too_early : Option Program → Phase → Refusal
too_early None first = refusal.NoModel
too_early (Some program) first = refusal.MustComeFirst first

-- what a session lacks for a command that needs a phase: it has not reached it
abbrev pub lacks : State → Phase → Option Refusal
lacks state needed =
    option_map (too_early state.model) (missing (phase_of state.model state.done) needed)
