use Rattle.shell.proofs.Causing.{TopicsCause}
use Rattle.shell.proofs.Quieting.{session_quiet}
use Rattle.shell.proofs.laws.sound_sessions_tell_no_fault.Goals as goal

pub returns : goal.returns
returns c =
    let t : TopicsCause = record { settings = c.settings_have_causes.ensures; log = c.commands_have_causes.ensures.log; model = c.commands_have_causes.ensures.model; trace = c.commands_have_causes.ensures.trace } in
    session_quiet t
