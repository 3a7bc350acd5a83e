use Rattle.std.proofs.Common.{◌++◌, ap, sym, ◌∙◌}
use Rattle.std.specs.Prelude.{codes}
use Rattle.outside.proofs.WriteLemmas.{writes_as}
use Rattle.shell_world.specs.Texts.{long_text, no_value_text, refusal_said}
use Rattle.shell_world.proofs.refusal.Refusal.print_text.Goals as goal

pub returns-in-TooDeep : goal.returns-in-TooDeep
returns-in-TooDeep g c = writes_as (ap refusal_said (sym c.in-TooDeep.is)) c.put_all.ensures

pub returns-in-NoCommand : goal.returns-in-NoCommand
returns-in-NoCommand g c =
    writes_as (ap (λ w. w ++ codes " is no command") c.as_slice-in-NoCommand.ensures ∙ ap refusal_said (sym c.in-NoCommand.is)) c.put_parts.ensures

pub returns-in-NoFile : goal.returns-in-NoFile
returns-in-NoFile g c =
    writes_as (ap (λ w. w ++ codes ": no such file") c.as_slice-in-NoFile.ensures ∙ ap refusal_said (sym c.in-NoFile.is)) c.put_parts-in-NoFile.ensures

pub returns-in-FileFault : goal.returns-in-FileFault
returns-in-FileFault g c =
    writes_as (ap (λ w. w ++ codes ": file fault") c.as_slice-in-FileFault.ensures ∙ ap refusal_said (sym c.in-FileFault.is)) c.put_parts-in-FileFault.ensures

pub returns-in-FileTooLong : goal.returns-in-FileTooLong
returns-in-FileTooLong g c =
    writes_as (ap (λ w. long_text w c.in-FileTooLong.limit) c.as_slice-in-FileTooLong.ensures ∙ ap refusal_said (sym c.in-FileTooLong.is)) c.print_long.ensures

pub returns-in-TooManyLines : goal.returns-in-TooManyLines
returns-in-TooManyLines g c = writes_as (ap refusal_said (sym c.in-TooManyLines.is)) c.put_all-in-TooManyLines.ensures

pub returns-in-NoMemory : goal.returns-in-NoMemory
returns-in-NoMemory g c = writes_as (ap refusal_said (sym c.in-NoMemory.is)) c.put_all-in-NoMemory.ensures

pub returns-in-NoValue : goal.returns-in-NoValue
returns-in-NoValue g c =
    writes_as (ap (λ w. no_value_text c.in-NoValue.line w) c.as_slice.ensures ∙ ap refusal_said (sym c.in-NoValue.is)) c.print_no_value.ensures

pub returns-in-NoModel : goal.returns-in-NoModel
returns-in-NoModel g c = writes_as (ap refusal_said (sym c.in-NoModel.is)) c.put_all-in-NoModel.ensures

pub returns-in-ModelIsThere : goal.returns-in-ModelIsThere
returns-in-ModelIsThere g c = writes_as (ap refusal_said (sym c.in-ModelIsThere.is)) c.put_all-in-ModelIsThere.ensures

pub returns-in-NotBuilt : goal.returns-in-NotBuilt
returns-in-NotBuilt g c = writes_as (ap refusal_said (sym c.in-NotBuilt.is)) c.put_all-in-NotBuilt.ensures
