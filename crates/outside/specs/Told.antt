-- What an object outside tells of its contents, with its count of faults.
use Rattle.std.specs.Prelude.{◌≡◌, ◌+◌, ℕ, List, ◌++◌, min, Option}
use Rattle.std.specs.Io.KnownBytes.{append_known}

-- an input: the bytes that are still to come, if it tells them, and how often a read has failed
pub record Input : Type 0 where
  pub left : Option (List ℕ)
  pub faults : ℕ

-- an output: the bytes that were written, if it tells them, and how often a write has failed
pub record Output : Type 0 where
  pub written : Option (List ℕ)
  pub faults : ℕ

-- files: what each name holds, if they tell it, and how often a call has failed
pub record Disk : Type 0 where
  pub held : Option (List ℕ → Option (List ℕ))
  pub faults : ℕ

-- one more, up to the last value of 64 bits
abbrev pub one_more : ℕ → ℕ
one_more count = min (count + 1) 18446744073709551615

-- A count of faults rose by one. One that stands at the last value of 64 bits can rise no further.
abbrev pub HasRisen : ℕ → ℕ → Type 0
HasRisen before after = after ≡ one_more before

-- a front of the bytes was added to what was written
abbrev pub AddsFront : Option (List ℕ) → Option (List ℕ) → List ℕ → Type 0
AddsFront old new bytes = (front : List ℕ) × (rest : List ℕ) × (bytes ≡ front ++ rest) × (new ≡ append_known old front)
