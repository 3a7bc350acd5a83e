-- Reading stops within the tokens.
use Rattle.std.proofs.Common.{◌≡◌, ◌<◌, ◌≤◌, ℕ, List, Result, Ok, Err, length}
use Rattle.smv_token.specs.declared.token.Token.{Token}
use Rattle.smv_grammar.specs.Forms.{deepest}
use Rattle.smv_rules.specs.Reading.{wrong, deep, all_read}
use Rattle.smv_rules.specs.Expressions.{expr}
use Rattle.smv_rules.specs.Programs.{program}
use Rattle.smv_rules.specs.Rules.{Rule}
use Rattle.smv_rules.specs.Running.{run}
use Rattle.smv_rules.specs.Sorts.{Gift, Sort, some_bodies}
use Rattle.smv_rules.specs.Follows.{by_token, plain, Leads, anywhere, at_depth}
use Rattle.smv_rules.specs.Texts.{IsAll}
use Rattle.smv_rules.specs.PartTexts.{claim_of, formula, tree_of}
use Rattle.smv_rules.proofs.Deciding.{DecidesAll}
use Rattle.smv_rules.proofs.PlainLaws.{Whole, expression_whole, formula_whole, plain_decides, program_whole}
use Rattle.smv_parse.specs.TextReading.{expression_of, formula_of, modules_of, viewed}
use Rattle.smv_parse.proofs.TextLaws.{viewed_err}

within : {s : Sort} {Y : Type 0} (r : Rule s) (seen : Gift s → Y) → Whole r → (ts : List Token) (k : ℕ) → viewed seen (all_read (run deepest r ts)) ≡ Err (wrong k) → k ≤ length ts
within r seen w ts k e = ((plain_decides r w).stuck ts k (viewed_err seen (all_read (run deepest r ts)) (wrong k) e)).0

sunk : {s : Sort} {Y : Type 0} (r : Rule s) (seen : Gift s → Y) → Whole r → (ts : List Token) (k : ℕ) → viewed seen (all_read (run deepest r ts)) ≡ Err (deep k) → k < length ts
sunk r seen w ts k e = ((plain_decides r w).sunk ts k (viewed_err seen (all_read (run deepest r ts)) (deep k) e)).0

pub expression_within : (ts : List Token) (k : ℕ) → expression_of ts ≡ Err (wrong k) → k ≤ length ts
unfolding expression_of
expression_within ts k e = within expr tree_of expression_whole ts k e

pub expression_deep : (ts : List Token) (k : ℕ) → expression_of ts ≡ Err (deep k) → k < length ts
unfolding expression_of
expression_deep ts k e = sunk expr tree_of expression_whole ts k e

pub formula_within : (ts : List Token) (k : ℕ) → formula_of ts ≡ Err (wrong k) → k ≤ length ts
unfolding formula_of
formula_within ts k e = within formula claim_of formula_whole ts k e

pub formula_deep : (ts : List Token) (k : ℕ) → formula_of ts ≡ Err (deep k) → k < length ts
unfolding formula_of
formula_deep ts k e = sunk formula claim_of formula_whole ts k e

pub program_decides : DecidesAll (IsAll program) (Leads plain anywhere deepest some_bodies program) (Leads by_token at_depth deepest some_bodies program) modules_of
unfolding modules_of
program_decides = plain_decides program program_whole

pub program_within : (ts : List Token) (k : ℕ) → modules_of ts ≡ Err (wrong k) → k ≤ length ts
program_within ts k e = (program_decides.stuck ts k e).0

pub program_deep : (ts : List Token) (k : ℕ) → modules_of ts ≡ Err (deep k) → k < length ts
program_deep ts k e = (program_decides.sunk ts k e).0
