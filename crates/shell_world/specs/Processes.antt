-- Processes: what may happen in a scene, with its events, its end and the scene after. Each command is
-- said in the few words that build them.
use Rattle.std.specs.Prelude.{◌≡◌, ◌⊎◌, Bool, true, false, List, [], ◌∷◌, ◌++◌}
use Rattle.shell_world.specs.declared.end.End.{End}
use Rattle.shell_world.specs.declared.end.End.TheVariants as ends
use Rattle.shell_world.specs.declared.event.Event.{Event}
use Rattle.shell_world.specs.declared.event.Event.TheVariants as event
use Rattle.shell_world.specs.declared.refusal.Refusal.{Refusal}
use Rattle.shell_world.specs.declared.refusal.Refusal.TheVariants as refusal
use Rattle.shell_world.specs.declared.state.State.{State}
use Rattle.shell_world.specs.Happenings.{Asked, Happening, asks, tells}
use Rattle.shell_world.specs.Scenes.{Scene, goes_along}
use Rattle.shell_world.specs.Texts.{refusal_number}

-- from a scene, with these events and this end, to a scene
abbrev pub Process : Type 1
Process = Scene → List Happening → End → Scene → Type 0

-- nothing is told and nothing changes
pub record IsOver (wanted : End)
    (old : Scene) (events : List Happening) (end : End) (new : Scene) : Type 0 where
  pub told : events ≡ []
  pub ended : end ≡ wanted
  pub same : new ≡ old

unfoldable pub Ends : End → Process
Ends wanted old events end new = IsOver wanted old events end new

-- one event is told, and the end is the one that is wanted, or the sink failed at this event
pub record IsSaid (said : Event) (wanted : End)
    (old : Scene) (events : List Happening) (end : End) (new : Scene) : Type 0 where
  pub told : events ≡ tells said ∷ []
  pub ended : (end ≡ wanted) ⊎ (end ≡ ends.Cut)
  pub same : new ≡ old

unfoldable pub EndsSaying : Event → End → Process
EndsSaying said wanted old events end new = IsSaid said wanted old events end new

-- a question is asked; what its answer changes is said beside it
pub record IsAsked (asked : Asked)
    (old : Scene) (events : List Happening) (end : End) (new : Scene) : Type 0 where
  pub told : events ≡ asks asked ∷ []
  pub ended : end ≡ ends.Went
  pub same : new ≡ old

unfoldable pub Asks : Asked → Process
Asks asked old events end new = IsAsked asked old events end new

-- the state becomes f of it
pub record IsChanged (f : State → State)
    (old : Scene) (events : List Happening) (end : End) (new : Scene) : Type 0 where
  pub told : events ≡ []
  pub ended : end ≡ ends.Went
  pub changed : new ≡ record old { state = f old.state }

unfoldable pub Becomes : (State → State) → Process
Becomes f old events end new = IsChanged f old events end new

-- one of two
unfoldable pub Either : Process → Process → Process
Either P Q old events end new = P old events end new ⊎ Q old events end new

-- one of many: what is free
unfoldable pub ForSome : {A : Type 0} → (A → Process) → Process
ForSome {A = A} P old events end new = (a : A) × P a old events end new

-- only where the fact holds
unfoldable pub Where : Type 0 → Process → Process
Where fact P old events end new = fact × P old events end new

-- by the state before
unfoldable pub Knowing : (State → Process) → Process
Knowing P old events end new = P old.state old events end new

-- the first of two, whose end does not lead on
pub record Stops (leads : State → End → Bool) (P : Process)
    (old : Scene) (events : List Happening) (end : End) (new : Scene) : Type 0 where
  pub first : P old events end new
  pub stops : leads new.state end ≡ false

-- the first of two, and then the second
pub record Leads (leads : State → End → Bool) (P Q : Process)
    (old : Scene) (events : List Happening) (end : End) (new : Scene) : Type 0 where
  pub mid : Scene
  pub middle : End
  pub before : List Happening
  pub behind : List Happening
  pub first : P old before middle mid
  pub leads_on : leads mid.state middle ≡ true
  pub second : Q mid behind end new
  pub joined : events ≡ before ++ behind

-- the first, and where its end leads on, then the second
unfoldable pub Chain : (State → End → Bool) → Process → Process → Process
Chain leads P Q old events end new =
    Stops leads P old events end new ⊎ Leads leads P Q old events end new

-- the second follows where the first went well
abbrev pub Then : Process → Process → Process
Then P Q = Chain goes_along P Q

-- each in turn, as long as the ends lead on
abbrev pub Each : {A : Type 0} → (State → End → Bool) → (A → Process) → List A → Process
Each leads P [] = Ends ends.Went
Each leads P (x ∷ xs) = Chain leads (P x) (Each leads P xs)

abbrev pub Says : Event → Process
Says said = EndsSaying said ends.Went

abbrev pub Refuses : Refusal → Process
Refuses r = EndsSaying (event.Refused r) ends.Refused

-- memory was refused outside a command, which ends the session
abbrev pub LacksMemory : Process
LacksMemory = EndsSaying (event.Refused refusal.NoMemory) ends.NoMemory

-- a command that memory may be refused for
abbrev pub MayLack : Process → Process
MayLack P = Either (ForSome (λ r. Where (refusal_number r ≡ 900) (Refuses r))) P

-- the event is told where the test holds
abbrev pub SaysIf : Bool → Event → Process
SaysIf true said = Says said
SaysIf false said = Ends ends.Went
