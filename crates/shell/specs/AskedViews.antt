-- What the words ask for, of the values that hold references to them.
use Rattle.std.specs.Prelude.{option_copied}
use Rattle.shell.specs.declared.asked.Wanted.{Wanted}
use Rattle.shell.specs.Sessions.{Invocation}

abbrev pub asked_of : Wanted → Invocation
asked_of wanted = record {
  prompts = wanted.prompts;
  script = option_copied wanted.script;
  model = option_copied wanted.model;
}
