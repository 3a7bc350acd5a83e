-- What a refused command of the settings may have changed.
use Rattle.std.specs.Prelude.{ℕ, List}
use Rattle.shell_settings.specs.declared.settings.SettingsCommand.{SettingsCommand}
use Rattle.shell_world.specs.Happenings.{Happening}
use Rattle.shell_world.specs.Scenes.{Scene}

-- nothing
abbrev pub SettingsMayChange : SettingsCommand → List (List ℕ) → Scene → List Happening → Scene → Type 0
SettingsMayChange c words old events new = ⊥
