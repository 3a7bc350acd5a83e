-- What the reading of one mark answers.
use Rattle.std.specs.Prelude.{◌≡◌, ◌⊎◌, ◌<◌, ◌≤◌, ℕ, List, length, drop, Option, Result, MatchOption, MatchResult, alloc_error}
use Rattle.shell_lang.specs.declared.fault.LangFault.{LangFault}
use Rattle.shell_lang.specs.declared.fault.LangFault.TheVariants.{Quote, NoMemory}
use Rattle.shell_lang.specs.declared.mark.Mark.{Mark}
use Rattle.shell_lang.specs.Lines.{Start}
use Rattle.shell_lang.specs.Lines.Start.{over, unclosed, begins}

-- the bytes begin with this mark, which takes so many of them, and at least one
abbrev pub Takes : Start → List ℕ → Mark × ℕ → Type 0
Takes start bytes first = (start ≡ begins first.0 (drop first.1 bytes)) × (first.1 ≤ length bytes)

-- the first mark was read, or there is none, or a quote is not closed, or memory was refused
abbrev pub IsFirst : Start → List ℕ → Result (Option (Mark × ℕ)) LangFault → Type 0
IsFirst start line result =
    MatchResult result
    (λ first. MatchOption first (start ≡ over) (λ taken. Takes start line taken × (0 < taken.1)))
    (λ fault. ((fault ≡ Quote) × (start ≡ unclosed)) ⊎ (fault ≡ NoMemory alloc_error))
