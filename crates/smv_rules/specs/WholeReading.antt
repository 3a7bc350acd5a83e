-- How whole texts are read by a rule.
use Rattle.std.specs.Prelude.{◌≡◌, ℕ, List, Result, Ok, Err}
use Rattle.smv_grammar.specs.declared.fault.ParseFault.{ParseFault}
use Rattle.smv_grammar.specs.Forms.{deepest}
use Rattle.smv_rules.specs.Reading.{all_read}
use Rattle.smv_rules.specs.Verdicts.{judged_by}
use Rattle.smv_rules.specs.Sorts.{Gift, Sort}
use Rattle.smv_rules.specs.Rules.{Rule}
use Rattle.smv_rules.specs.Running.{run}
use Rattle.smv_rules.specs.Texts.{ExplainsBy, SpellsBy}

-- the verdict on a text by a rule
abbrev pub judged : {s : Sort} → Rule s → List ℕ → Result (Gift s) ParseFault
judged r bytes = judged_by (λ ts. all_read (run deepest r ts)) bytes

-- What the verdict says is so, and what is so the verdict says; and a text spells at most one.
pub record Right {s : Sort} (r : Rule s) : Type 0 where
  pub found : (bytes : List ℕ) (x : Gift s) → judged r bytes ≡ Ok x → SpellsBy r bytes x
  pub only : (bytes : List ℕ) (x : Gift s) → SpellsBy r bytes x → judged r bytes ≡ Ok x
  pub refused : (bytes : List ℕ) (f : ParseFault) → judged r bytes ≡ Err f → ExplainsBy r bytes f
  pub cause : (bytes : List ℕ) (f : ParseFault) → ExplainsBy r bytes f → judged r bytes ≡ Err f
  pub one : (bytes : List ℕ) (x y : Gift s) → SpellsBy r bytes x → SpellsBy r bytes y → x ≡ y
