-- The texts of what is told of settings.
use Rattle.std.specs.Prelude.{ℕ, List, ◌++◌, codes, decimal}
use Rattle.shell_world.specs.declared.settings_event.SettingsEvent.{SettingsEvent}
use Rattle.shell_world.specs.declared.settings_event.SettingsEvent.TheVariants.{Entry, Past}

-- a remembered line, after its number
abbrev pub past_text : ℕ → List ℕ → List ℕ
past_text number line = decimal number ++ (codes "\t" ++ (line ++ codes "\n"))

abbrev pub settings_text : SettingsEvent → List ℕ
settings_text (Entry name value) = name ++ (codes " = " ++ (value ++ codes "\n"))
settings_text (Past number line) = past_text number line
