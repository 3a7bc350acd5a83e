-- What calls answer beside want of memory.
use Rattle.std.specs.Prelude.{◌≡◌, ◌⊎◌, Result, Err, alloc_error}
use Rattle.cmd_table.specs.declared.fault.OptFault.{OptFault}
use Rattle.cmd_table.specs.declared.fault.OptFault.TheVariants.{NoMemory}

-- the expected answer, or want of memory
abbrev pub Answers : {A : Type 0} → Result A OptFault → Result A OptFault → Type 0
Answers expected result = (result ≡ expected) ⊎ (result ≡ Err (NoMemory alloc_error))
