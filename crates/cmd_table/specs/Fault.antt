-- The numbers and the texts of the refusals.
use Rattle.std.specs.Prelude.{ℕ, List, ◌++◌, codes}
use Rattle.cmd_table.specs.declared.fault.OptFault.{OptFault}
use Rattle.cmd_table.specs.declared.fault.OptFault.TheVariants.{Unknown, NoArgument, Repeated, Excluded, Number, Many, Required, NoMemory}

-- the number that users see
abbrev pub number_of : OptFault → ℕ
number_of (Unknown word) = 621
number_of (NoArgument word) = 622
number_of (Repeated word) = 623
number_of (Excluded first second) = 624
number_of (Number word) = 625
number_of (Many word) = 626
number_of (Required word) = 627
number_of (NoMemory _) = 900

-- what users read after the number
abbrev pub text_of : OptFault → List ℕ
text_of (Unknown word) = word ++ codes ": unknown option"
text_of (NoArgument word) = word ++ codes ": argument missing"
text_of (Repeated word) = word ++ codes ": given twice"
text_of (Excluded first second) = first ++ (codes " and " ++ (second ++ codes " exclude each other"))
text_of (Number word) = word ++ codes ": number unreadable or out of range"
text_of (Many word) = word ++ codes ": too many words"
text_of (Required word) = word ++ codes ": missing"
text_of (NoMemory _) = codes "out of memory"
