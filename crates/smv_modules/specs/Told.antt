-- The rows of instances.
use Rattle.smv_meaning.specs.Rows.{Row}
use Rattle.smv_modules.specs.declared.instances.Instance.{Instance}

abbrev pub row_of : Instance → Row
row_of i = record { path = i.path; module_number = i.module_number; parent = i.parent }
