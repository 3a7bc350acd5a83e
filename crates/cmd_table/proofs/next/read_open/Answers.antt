use Rattle.std.proofs.Common.{◌≡◌, ℕ, Option, Some, subst}
use Rattle.cmd_table.specs.Options.{place_of}
use Rattle.cmd_table.specs.Steps.{next_open, Goes}
use Rattle.cmd_table.proofs.next.read_open.Goals as goal

pub returns-in-Some-clause-next : goal.returns-in-Some-clause-next
returns-in-Some-clause-next c =
    let found : Some c.in-Some.place ≡ place_of c.args.opts.now c.args.word.now = rw c.as_slice.ensures at c.in-Some.ensures in
    subst (λ (place : Option ℕ). Goes (next_open c.args.opts.now c.args.most c.args.given.now c.args.word.now c.args.rest.now place) c.read_option.new.given c.args.rest.now c.read_option.result) found c.read_option.ensures.next
