use Rattle.shell_world.proofs.telling.end_saying.Goals as goal

pub returns : goal.returns
returns g c = c.tell_event.ensures c.args.state.now
