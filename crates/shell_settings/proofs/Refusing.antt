-- A refused command of the settings changes nothing.
use Rattle.std.proofs.Common.{◌≡◌, ℕ, Bool, true, false, List, [], ◌∷◌, refl}
use Rattle.std.specs.Prelude.{Option, None, Some}
use Rattle.outside.specs.Number.{number_of}
use Rattle.shell_lang.specs.declared.fault.LangFault.{LangFault}
use Rattle.shell_lang.specs.Keyed.{at_name}
use Rattle.shell_lang.specs.Past.{Past, line_of}
use Rattle.shell_settings.specs.declared.settings.SettingsCommand.{SettingsCommand}
use Rattle.shell_settings.specs.declared.settings.SettingsCommand.TheVariants as command
use Rattle.cmd_table.specs.declared.commands.TheConstants.{ALIAS, HISTORY, SET, UNALIAS, UNSET}
use Rattle.shell_world.specs.declared.phase.Phase.TheVariants.{Start}
use Rattle.shell_settings.specs.Refused.{SettingsMayChange}
use Rattle.shell_settings.specs.Settings.{AliasesWith, Alters, DoesSettings, DropsAlias, ListsAlias, ListsAliases, ListsValues, RefusesOr, SetsWith, ShowsAlias, ShowsLast, ShowsLine, ShowsMost, ShowsNamed, ShowsValue, ShowsWith, TakesBack}
use Rattle.shell_world.specs.declared.end.End.TheVariants as ends
use Rattle.shell_world.specs.declared.state.State.{State}
use Rattle.shell_world.specs.Keeping.{Always, IsCaused, KeepsRefused}
use Rattle.shell_world.specs.Processes.{Each}
use Rattle.shell_world.specs.Scenes.{goes_along}
use Rattle.shell_world.specs.Steps.{WithFirst}
use Rattle.shell_world.proofs.Keeping.{Guards, Still, becomes_guards, each_leave, ends_leave, first_leave, guarded_caused, guarded_refused, guards_fact, knowing_leave, may_lack_leave, refuses_leave, row_leave, says_leave, still_fact}

-- a change is made, or refused and not made
alters_guard : (test : State → Bool) (fault : LangFault) (f : State → State) → ((s : State) → (f s).past ≡ s.past) → Always (Alters test fault f) Guards
alters_guard test fault f k = may_lack_leave guards_fact (knowing_leave (λ s. RefusesOr (test s) fault f) (λ s. by_test (test s)))
  where
    by_test : (t : Bool) → Always (RefusesOr t fault f) Guards
    by_test true = says_leave guards_fact _ _ refl refl
    by_test false = becomes_guards f k

values_leave : Always ListsValues Guards
values_leave = knowing_leave (λ s. Each goes_along ShowsValue s.vars) (λ s. each_leave guards_fact goes_along ShowsValue s.vars (λ entry. may_lack_leave still_fact (says_leave still_fact _ _ refl refl)))

aliases_leave : Always ListsAliases Guards
aliases_leave = knowing_leave (λ s. Each goes_along ShowsAlias s.aliases) (λ s. each_leave guards_fact goes_along ShowsAlias s.aliases (λ entry. may_lack_leave still_fact (says_leave still_fact _ _ refl refl)))

named_leaves : (name : List ℕ) (found : Option (List (List ℕ))) → Always (ShowsNamed name found) Guards
named_leaves name (Some words) = may_lack_leave guards_fact (says_leave guards_fact _ _ refl refl)
named_leaves name None = refuses_leave guards_fact _ refl

alias_leaves : (name : List ℕ) → Always (ListsAlias name) Guards
alias_leaves name = knowing_leave (λ s. ShowsNamed name (at_name s.aliases name)) (λ s. named_leaves name (at_name s.aliases name))

line_leaves : (number : ℕ) (line : Option (List ℕ)) → Always (ShowsLine number line) Still
line_leaves number (Some line) = may_lack_leave still_fact (says_leave still_fact _ _ refl refl)
line_leaves number None = ends_leave still_fact ends.Went refl

last_leaves : (most : ℕ) (past : Past) → Always (ShowsLast most past) Guards
last_leaves most past = each_leave guards_fact goes_along (λ number. ShowsLine number (line_of past number)) _ (λ number. line_leaves number (line_of past number))

most_leaves : (word : List ℕ) (most : Option ℕ) → Always (ShowsMost word most) Guards
most_leaves word (Some most) = knowing_leave (λ s. ShowsLast most s.past) (λ s. last_leaves most s.past)
most_leaves word None = refuses_leave guards_fact _ refl

shows_leave : (words : List (List ℕ)) → Always (ShowsWith words) Guards
shows_leave [] = knowing_leave (λ s. ShowsLast s.past.count s.past) (λ s. last_leaves s.past.count s.past)
shows_leave (word ∷ words) = most_leaves word (number_of word)

sets_guard : (words : List (List ℕ)) → Always (SetsWith words) Guards
sets_guard [] = values_leave
sets_guard (name ∷ []) = alters_guard _ _ _ (λ s. refl)
sets_guard (name ∷ value ∷ words) = alters_guard _ _ _ (λ s. refl)

aliases_guard : (words : List (List ℕ)) → Always (AliasesWith words) Guards
aliases_guard [] = aliases_leave
aliases_guard (name ∷ []) = alias_leaves name
aliases_guard (name ∷ word ∷ words) = alters_guard _ _ _ (λ s. refl)

settings_guard : (c : SettingsCommand) (words : List (List ℕ)) → Always (DoesSettings c words) Guards
settings_guard command.Alias words = row_leave guards_fact ALIAS Start words (λ given. AliasesWith given.rest) (λ given. aliases_guard given.rest)
settings_guard command.History words = row_leave guards_fact HISTORY Start words (λ given. ShowsWith given.rest) (λ given. shows_leave given.rest)
settings_guard command.Set words = row_leave guards_fact SET Start words (λ given. SetsWith given.rest) (λ given. sets_guard given.rest)
settings_guard command.Unalias words = row_leave guards_fact UNALIAS Start words (λ given. WithFirst DropsAlias given.rest) (λ given. first_leave guards_fact DropsAlias given.rest (λ name. alters_guard _ _ _ (λ s. refl)))
settings_guard command.Unset words = row_leave guards_fact UNSET Start words (λ given. WithFirst TakesBack given.rest) (λ given. first_leave guards_fact TakesBack given.rest (λ name. alters_guard _ _ _ (λ s. refl)))

pub settings_refused : (c : SettingsCommand) (words : List (List ℕ)) → KeepsRefused (SettingsMayChange c words) (DoesSettings c words)
settings_refused c words = guarded_refused (SettingsMayChange c words) (settings_guard c words)

pub settings_caused : (c : SettingsCommand) (words : List (List ℕ)) → Always (DoesSettings c words) IsCaused
settings_caused c words = guarded_caused (settings_guard c words)
