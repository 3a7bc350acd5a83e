use Rattle.shell.proofs.Causing.{TopicsCause}
use Rattle.shell.proofs.Ending.{sound_status}
use Rattle.shell.proofs.laws.sound_sessions_end_well.Goals as goal

pub returns : goal.returns
returns c =
    let t : TopicsCause = record { settings = c.settings_have_causes.ensures; log = c.commands_have_causes.ensures.log; model = c.commands_have_causes.ensures.model; trace = c.commands_have_causes.ensures.trace } in
    sound_status t
