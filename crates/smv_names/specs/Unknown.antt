-- Names that stand for nothing.
use Rattle.std.specs.Prelude.{ℕ, Bool, List, [], ◌∷◌, ◌++◌, if◌then◌else◌}
use Rattle.smv_tree.specs.Trees.{Tree, Trees, Arms, truth, number, word, name, span, set, cases, choice, one, two, select, next, widen, const, count, no_trees, tree, no_arms, arm}
use Rattle.smv_tree.specs.Models.{Claim, atom, no, after, always, some_time, both}
use Rattle.type_fault.specs.declared.fault.TypeFault.{TypeFault}
use Rattle.type_fault.specs.declared.fault.TypeFault.TheVariants as faults

module _ (is_known : List (List ℕ) → Bool) where
  -- the paths of names in an expression that are not known, in the order of the text
  abbrev mutual
    pub unknown_in : Tree → List TypeFault
    unknown_in (truth p b) = []
    unknown_in (number p n) = []
    unknown_in (word p w) = []
    unknown_in (name p names) = if is_known names then [] else faults.Unknown p names ∷ []
    unknown_in (span p low high) = []
    unknown_in (set p es) = unknown_in_all es
    unknown_in (cases p bs) = unknown_in_arms bs
    unknown_in (choice p c a b) = unknown_in c ++ (unknown_in a ++ unknown_in b)
    unknown_in (one p o a) = unknown_in a
    unknown_in (two p o a b) = unknown_in a ++ unknown_in b
    unknown_in (select p a high low) = unknown_in a
    unknown_in (next p a) = unknown_in a
    unknown_in (widen p resize a n) = unknown_in a
    unknown_in (const p signed v n) = []
    unknown_in (count p es) = unknown_in_all es

    pub unknown_in_all : Trees → List TypeFault
    unknown_in_all no_trees = []
    unknown_in_all (tree e es) = unknown_in e ++ unknown_in_all es

    pub unknown_in_arms : Arms → List TypeFault
    unknown_in_arms no_arms = []
    unknown_in_arms (arm c a bs) = unknown_in c ++ (unknown_in a ++ unknown_in_arms bs)

  abbrev pub unknown_in_claim : Claim → List TypeFault
  unknown_in_claim (atom e) = unknown_in e
  unknown_in_claim (no f) = unknown_in_claim f
  unknown_in_claim (after f) = unknown_in_claim f
  unknown_in_claim (always f) = unknown_in_claim f
  unknown_in_claim (some_time f) = unknown_in_claim f
  unknown_in_claim (both o f g) = unknown_in_claim f ++ unknown_in_claim g
