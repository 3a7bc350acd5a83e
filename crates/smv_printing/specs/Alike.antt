-- Trees that agree, places aside.
use Rattle.std.specs.Prelude.{◌≡◌}
use Rattle.smv_tree.specs.declared.place.Place.{Place}
use Rattle.smv_tree.specs.Models.{Claim, atom, no, after, always, some_time, both}
use Rattle.smv_tree.specs.Trees.{Tree, Trees, Arms, truth, number, word, name, span, set, cases, choice, one, two, select, next, widen, const, count, no_trees, tree, no_arms, arm}
use Rattle.smv_rules.specs.PartTexts.{SpellsExpr, SpellsFormulaText}
use Rattle.smv_printing.specs.Printing.{claim_printed, printed}

-- the place that stands for each place
abbrev pub nowhere : Place
nowhere = record { line = 0; column = 0 }

-- an expression without its places
unfoldable mutual
  pub unplaced : Tree → Tree
  unplaced (truth p b) = truth nowhere b
  unplaced (number p n) = number nowhere n
  unplaced (word p w) = word nowhere w
  unplaced (name p ns) = name nowhere ns
  unplaced (span p low high) = span nowhere low high
  unplaced (set p es) = set nowhere (unplaced_all es)
  unplaced (cases p bs) = cases nowhere (unplaced_arms bs)
  unplaced (choice p c a b) = choice nowhere (unplaced c) (unplaced a) (unplaced b)
  unplaced (one p o a) = one nowhere o (unplaced a)
  unplaced (two p o a b) = two nowhere o (unplaced a) (unplaced b)
  unplaced (select p a high low) = select nowhere (unplaced a) high low
  unplaced (next p a) = next nowhere (unplaced a)
  unplaced (widen p resize a n) = widen nowhere resize (unplaced a) n
  unplaced (const p signed v n) = const nowhere signed v n
  unplaced (count p es) = count nowhere (unplaced_all es)

  pub unplaced_all : Trees → Trees
  unplaced_all no_trees = no_trees
  unplaced_all (tree x xs) = tree (unplaced x) (unplaced_all xs)

  pub unplaced_arms : Arms → Arms
  unplaced_arms no_arms = no_arms
  unplaced_arms (arm c v bs) = arm (unplaced c) (unplaced v) (unplaced_arms bs)

-- the expressions agree, places aside
abbrev pub Alike : Tree → Tree → Type 0
Alike x y = (unplaced x ≡ unplaced y)

-- a formula without the places of its atoms
unfoldable pub claim_unplaced : Claim → Claim
claim_unplaced (atom x) = atom (unplaced x)
claim_unplaced (no a) = no (claim_unplaced a)
claim_unplaced (after a) = after (claim_unplaced a)
claim_unplaced (always a) = always (claim_unplaced a)
claim_unplaced (some_time a) = some_time (claim_unplaced a)
claim_unplaced (both o a b) = both o (claim_unplaced a) (claim_unplaced b)

-- the formulas agree, places aside
abbrev pub AlikeClaims : Claim → Claim → Type 0
AlikeClaims c d = (claim_unplaced c ≡ claim_unplaced d)

-- what is printed of the expression is a text that spells it, places aside
pub record Reparsed (x : Tree) : Type 0 where
  pub tree : Tree
  pub spelled : SpellsExpr (printed x) tree
  pub alike : Alike x tree

-- what is printed of the formula is a text that spells it, places aside
pub record ReparsedFormula (c : Claim) : Type 0 where
  pub claim : Claim
  pub spelled : SpellsFormulaText (claim_printed c) claim
  pub alike : AlikeClaims c claim
