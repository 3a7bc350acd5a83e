-- The commands that show and change variables, aliases and the lines that were entered.
use Rattle.std.specs.Prelude.{◌+◌, ◌-◌, ◌&&◌, ℕ, Bool, true, false, List, [], ◌∷◌, Option, Some, None, codes, is_none, length, min, nat_le}
use Rattle.std.specs.List.{range_with_len}
use Rattle.cmd_table.specs.declared.fault.OptFault.TheVariants as options
use Rattle.outside.specs.Number.{number_of}
use Rattle.shell_lang.specs.declared.fault.LangFault.{LangFault}
use Rattle.shell_lang.specs.declared.fault.LangFault.TheVariants as language
use Rattle.shell_lang.specs.Keyed.{at_name, with_name, without_name}
use Rattle.shell_lang.specs.Known.{is_illegal, is_unknown, taken_back}
use Rattle.shell_lang.specs.Past.{Past, line_of}
use Rattle.shell_settings.specs.declared.settings.SettingsCommand.{SettingsCommand}
use Rattle.shell_settings.specs.declared.settings.SettingsCommand.TheVariants as command
use Rattle.cmd_table.specs.declared.commands.TheConstants.{ALIAS, HISTORY, SET, UNALIAS, UNSET}
use Rattle.shell_world.specs.declared.phase.Phase.TheVariants.{Start}
use Rattle.shell_world.specs.declared.end.End.TheVariants as ends
use Rattle.shell_world.specs.declared.event.Event.TheVariants as event
use Rattle.shell_world.specs.declared.settings_event.SettingsEvent.TheVariants as settings
use Rattle.shell_world.specs.declared.refusal.Refusal.TheVariants as refusal
use Rattle.shell_world.specs.declared.state.State.{State}
use Rattle.shell_world.specs.Processes.{Becomes, Each, Ends, Knowing, MayLack, Process, Refuses, Says}
use Rattle.shell_world.specs.Scenes.{goes_along}
use Rattle.shell_world.specs.Rows.{WithRow}
use Rattle.shell_world.specs.Steps.{WithFirst}
use Rattle.shell_world.specs.Texts.{joined}

-- the word that a command is called by
abbrev pub settings_word : SettingsCommand → List ℕ
settings_word command.Alias = codes "alias"
settings_word command.History = codes "history"
settings_word command.Set = codes "set"
settings_word command.Unalias = codes "unalias"
settings_word command.Unset = codes "unset"

-- the command as a user writes it
abbrev pub settings_help : SettingsCommand → List ℕ
settings_help command.Alias = codes "alias [name [words]]"
settings_help command.History = codes "history [n]"
settings_help command.Set = codes "set [name [value]]"
settings_help command.Unalias = codes "unalias name"
settings_help command.Unset = codes "unset name"

-- the state becomes f of it, or the fault is answered and nothing changes
abbrev pub RefusesOr : Bool → LangFault → (State → State) → Process
RefusesOr true fault f = Refuses (refusal.Language fault)
RefusesOr false fault f = Becomes f

-- a change, which is refused where the test holds
abbrev pub Alters : (State → Bool) → LangFault → (State → State) → Process
Alters test fault f = MayLack (Knowing (λ state. RefusesOr (test state) fault f))

-- a variable has a value
abbrev pub with_value : List ℕ → List ℕ → State → State
with_value name value state = record state { vars = with_name state.vars name value }

abbrev pub SetsTo : List ℕ → List ℕ → Process
SetsTo name value =
    Alters (λ state. is_illegal name value) (language.BadValue name) (with_value name value)

-- it has its default, or no value
abbrev pub without_value : List ℕ → State → State
without_value name state = record state { vars = taken_back state.vars name }

abbrev pub TakesBack : List ℕ → Process
TakesBack name =
    Alters (λ state. is_unknown state.vars name) (language.NoName name) (without_value name)

-- a name stands for words
abbrev pub with_alias : List ℕ → List (List ℕ) → State → State
with_alias name words state = record state { aliases = with_name state.aliases name words }

-- the name is new, and a thousand are there
abbrev pub has_no_place : List ℕ → State → Bool
has_no_place name state = is_none (at_name state.aliases name) && nat_le 1000 (length state.aliases)

abbrev pub PutsAlias : List ℕ → List (List ℕ) → Process
PutsAlias name words = Alters (has_no_place name) language.TooManyAliases (with_alias name words)

-- the name is no alias
abbrev pub is_no_alias : List ℕ → State → Bool
is_no_alias name state = is_none (at_name state.aliases name)

-- it stands for itself alone
abbrev pub without_alias : List ℕ → State → State
without_alias name state = record state { aliases = without_name state.aliases name }

abbrev pub DropsAlias : List ℕ → Process
DropsAlias name = Alters (is_no_alias name) (language.NoName name) (without_alias name)

-- a variable with its value is shown; an alias with its words
abbrev pub ShowsValue : List ℕ × List ℕ → Process
ShowsValue entry = MayLack (Says (event.Settings (settings.Entry entry.0 entry.1)))

abbrev pub ShowsAlias : List ℕ × List (List ℕ) → Process
ShowsAlias entry = MayLack (Says (event.Settings (settings.Entry entry.0 (joined entry.1))))

-- all of them, by name
abbrev pub ListsValues : Process
ListsValues = Knowing (λ state. Each goes_along ShowsValue state.vars)

abbrev pub ListsAliases : Process
ListsAliases = Knowing (λ state. Each goes_along ShowsAlias state.aliases)

-- one alias, if it is one
abbrev pub ShowsNamed : List ℕ → Option (List (List ℕ)) → Process
ShowsNamed name (Some words) = ShowsAlias (name, words)
ShowsNamed name None = MayLack (Refuses (refusal.Language (language.NoName name)))

abbrev pub ListsAlias : List ℕ → Process
ListsAlias name = Knowing (λ state. ShowsNamed name (at_name state.aliases name))

-- a remembered line, after its number
abbrev pub ShowsLine : ℕ → Option (List ℕ) → Process
ShowsLine number (Some line) = MayLack (Says (event.Settings (settings.Past number line)))
ShowsLine number None = Ends ends.Went

-- the last of them, so many at most
abbrev pub ShowsLast : ℕ → Past → Process
ShowsLast most past =
    let shown = min most (length past.kept) in
    let numbers = range_with_len (past.count - shown + 1) shown in
    Each goes_along (λ number. ShowsLine number (line_of past number)) numbers

-- so many as a word says, which has to be a number
abbrev pub ShowsMost : List ℕ → Option ℕ → Process
ShowsMost word (Some most) = Knowing (λ state. ShowsLast most state.past)
ShowsMost word None = MayLack (Refuses (refusal.Options (options.Number word)))

-- each command with its free words
abbrev pub SetsWith : List (List ℕ) → Process
SetsWith [] = ListsValues
SetsWith (name ∷ []) = SetsTo name []
SetsWith (name ∷ value ∷ words) = SetsTo name value

abbrev pub AliasesWith : List (List ℕ) → Process
AliasesWith [] = ListsAliases
AliasesWith (name ∷ []) = ListsAlias name
AliasesWith (name ∷ word ∷ words) = PutsAlias name (word ∷ words)

abbrev pub ShowsWith : List (List ℕ) → Process
ShowsWith [] = Knowing (λ state. ShowsLast state.past.count state.past)
ShowsWith (word ∷ words) = ShowsMost word (number_of word)

-- the commands
abbrev pub Sets : List (List ℕ) → Process
Sets words = WithRow SET Start words (λ given. SetsWith given.rest)

abbrev pub Unsets : List (List ℕ) → Process
Unsets words = WithRow UNSET Start words (λ given. WithFirst TakesBack given.rest)

abbrev pub Aliases : List (List ℕ) → Process
Aliases words = WithRow ALIAS Start words (λ given. AliasesWith given.rest)

abbrev pub Unaliases : List (List ℕ) → Process
Unaliases words = WithRow UNALIAS Start words (λ given. WithFirst DropsAlias given.rest)

abbrev pub ShowsHistory : List (List ℕ) → Process
ShowsHistory words = WithRow HISTORY Start words (λ given. ShowsWith given.rest)

-- a command of the settings, one case each
abbrev pub DoesSettings : SettingsCommand → List (List ℕ) → Process
DoesSettings command.Alias words = Aliases words
DoesSettings command.History words = ShowsHistory words
DoesSettings command.Set words = Sets words
DoesSettings command.Unalias words = Unaliases words
DoesSettings command.Unset words = Unsets words
