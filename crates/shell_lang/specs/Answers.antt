-- What calls answer beside want of memory.
use Rattle.std.specs.Prelude.{◌≡◌, ◌⊎◌, ℕ, Bool, true, false, List, ◌++◌, Result, Ok, Err, MatchResult, alloc_error}
use Rattle.shell_lang.specs.declared.fault.LangFault.{LangFault}
use Rattle.shell_lang.specs.declared.fault.LangFault.TheVariants.{NoMemory}

-- the expected answer, or want of memory
abbrev pub Answers : {A : Type 0} → Result A LangFault → Result A LangFault → Type 0
Answers expected result = (result ≡ expected) ⊎ (result ≡ Err (NoMemory alloc_error))

-- refused with this fault exactly where the test holds, but for want of memory
abbrev pub RefusedWhere : {A : Type 0} → Bool → LangFault → Result A LangFault → Type 0
RefusedWhere test fault result =
    MatchResult result (λ _. test ≡ false) (λ e. ((e ≡ fault) × (test ≡ true)) ⊎ (e ≡ NoMemory alloc_error))

-- a piece's text was added, or a variable is not set, or memory was refused
abbrev pub AddsPiece : Result (List ℕ) LangFault → List ℕ → List ℕ → Result (Unit {0}) LangFault → Type 0
AddsPiece piece old new result =
    MatchResult result
    (λ _. (added : List ℕ) × (piece ≡ Ok added) × (new ≡ old ++ added))
    (λ fault. (piece ≡ Err fault) ⊎ (fault ≡ NoMemory alloc_error))
