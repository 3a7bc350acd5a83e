-- What a section holds, as the rules name it.
use Rattle.std.specs.Prelude.{Option, Some, None}
use Rattle.smv_rules.specs.Keys as key
use Rattle.smv_program_reader.specs.declared.sections.Heading.{Heading}
use Rattle.smv_program_reader.specs.declared.sections.Heading.TheVariants as heading

abbrev pub heading_of : Heading → key.Heading
heading_of (heading.Variables k instances) = key.variables k instances
heading_of heading.Definitions = key.definitions
heading_of heading.Assignments = key.assignments
heading_of (heading.Constraint s) = key.constraints s
heading_of heading.Property = key.properties

abbrev pub heading_seen : Option Heading → Option key.Heading
heading_seen None = None
heading_seen (Some h) = Some (heading_of h)
