-- The numbers and the texts of the refusals.
use Rattle.std.specs.Prelude.{ℕ, List, ◌++◌, codes}
use Rattle.shell_lang.specs.declared.fault.LangFault.{LangFault}
use Rattle.shell_lang.specs.declared.fault.LangFault.TheVariants.{Quote, Unset, NoEvent, NoName, BadValue, TooManyAliases, NoMemory}

-- the number that users see
abbrev pub number_of : LangFault → ℕ
number_of Quote = 631
number_of (Unset name) = 632
number_of (NoEvent event) = 633
number_of (NoName name) = 635
number_of (BadValue name) = 636
number_of TooManyAliases = 637
number_of (NoMemory _) = 900

-- what users read after the number
abbrev pub text_of : LangFault → List ℕ
text_of Quote = codes "unclosed quote"
text_of (Unset name) = name ++ codes " is not set"
text_of (NoEvent event) = codes "no such event"
text_of (NoName name) = name ++ codes " is unknown"
text_of (BadValue name) = name ++ codes ": illegal value"
text_of TooManyAliases = codes "more than 1000 aliases"
text_of (NoMemory _) = codes "out of memory"
