-- The judgement of an expression: its type, or all that is wrong in it.
use Rattle.std.specs.Prelude.{ℕ, Bool, true, false, if◌then◌else◌, List, [], ◌∷◌, ◌++◌, Result, Ok, Err}
use Rattle.smv_tree.specs.declared.place.Place.{Place}
use Rattle.smv_tree.specs.declared.expr.Op1.{Op1}
use Rattle.smv_tree.specs.declared.expr.Op2.{Op2}
use Rattle.smv_tree.specs.Trees.{Tree, Trees, Arms, truth, number, word, name, span, set, cases, choice, one, two, select, next, widen, const, count, no_trees, tree, no_arms, arm}
use Rattle.smv_kinds.specs.declared.sort.Sort.TheVariants.{Boolean}
use Rattle.smv_kinds.specs.declared.typing.Typing.{Typing}
use Rattle.smv_kinds.specs.declared.typing.NodeFault.{NodeFault}
use Rattle.smv_kinds.specs.declared.typing.NodeFault.TheVariants as node
use Rattle.smv_kinds.specs.Results.{single}
use Rattle.smv_kinds.specs.Operators.{one_typing, two_typing}
use Rattle.smv_kinds.specs.Nodes.{number_typing, word_typing, span_typing, select_typing, widen_typing, const_typing, next_typing, set_typing, count_typing, cases_typing}
use Rattle.type_fault.specs.declared.fault.TypeFault.{TypeFault}
use Rattle.type_fault.specs.declared.fault.TypeFault.TheVariants as faults
use Rattle.smv_typing.specs.declared.scope.Scope.{Scope}
use Rattle.smv_typing.specs.declared.standing.Standing.{Standing}
use Rattle.smv_typing.specs.declared.standing.Standing.TheVariants.{Typed, Faulty}

-- What is found where nothing is wrong, or all faults in the order of the text. A name of what is itself at fault
-- is ill with no fault of its own.
abbrev pub Judgement : Type 0 → Type 0
Judgement A = Result A (List TypeFault)

-- what two parts make, where both are well
unfoldable pub both : {A B C : Type 0} → (A → B → C) → Judgement A → Judgement B → Judgement C
both f (Ok a) (Ok b) = Ok (f a b)
both f (Ok a) (Err gs) = Err gs
both f (Err fs) (Ok b) = Err fs
both f (Err fs) (Err gs) = Err (fs ++ gs)

-- a node over its parts: where one of them is ill, the node has no fault itself
unfoldable pub over : {A B : Type 0} → (A → Judgement B) → Judgement A → Judgement B
over f (Ok a) = f a
over f (Err fs) = Err fs

-- what is wrong at a node, with its place
abbrev pub fault_at : Place → NodeFault → TypeFault
fault_at p (node.Operands a b) = faults.Operands p a b
fault_at p node.SetHere = faults.SetHere p
fault_at p node.Reversed = faults.Reversed p
fault_at p node.Width = faults.Width p
fault_at p (node.Interval end) = faults.Interval p end

-- a node whose parts are well
abbrev pub at : Place → Result Typing NodeFault → Judgement Typing
at p (Ok t) = Ok t
at p (Err f) = Err (fault_at p f ∷ [])

-- a name: an input may stand only where there is one
abbrev pub named : Scope → Place → List (List ℕ) → Standing → Judgement Typing
named s p names (Typed t false) = Ok t
named s p names (Typed t true) = if s.inputs then Ok t else Err (faults.InputHere p names ∷ [])
named s p names Faulty = Err []

-- what may stand inside `next`: there is no input of the next state
abbrev pub within_next : Scope → Scope
within_next s = record { next = s.next; inputs = false }

-- nodes from the types of their parts
abbrev pub one_at : Place → Op1 → Typing → Judgement Typing
one_at p o t = at p (one_typing o t)

abbrev pub pair : {A B : Type 0} → A → B → A × B
pair a b = (a, b)

abbrev pub two_at : Place → Op2 → Typing × Typing → Judgement Typing
two_at p o ts = at p (two_typing o ts.0 ts.1)

abbrev pub select_at : Place → ℕ → ℕ → Typing → Judgement Typing
select_at p high low t = at p (select_typing high low t)

abbrev pub widen_at : Place → Bool → ℕ → Typing → Judgement Typing
widen_at p resize n t = at p (widen_typing resize n t)

-- that a set stands here goes before `next` out of place, and this before a width
abbrev pub next_at : Scope → Place → Typing → Judgement Typing
next_at s p t =
    if t.is_set then Err (faults.SetHere p ∷ [])
    else (if s.next then at p (next_typing t) else Err (faults.NextHere p ∷ []))

abbrev pub set_at : Place → List Typing → Judgement Typing
set_at p ts = at p (set_typing ts)

abbrev pub count_at : Place → List Typing → Judgement Typing
count_at p ts = at p (count_typing ts)

-- conditions and values of branches
abbrev pub cases_at : Place → List Typing × List Typing → Judgement Typing
cases_at p ts = at p (cases_typing ts.0 ts.1)

abbrev pub choice_at : Place → Typing × (Typing × Typing) → Judgement Typing
choice_at p ts = at p (cases_typing (ts.0 ∷ []) (ts.1.0 ∷ ts.1.1 ∷ []))

-- types, and one more before them
abbrev pub before : Typing → List Typing → List Typing
before t ts = t ∷ ts

abbrev pub arm_before : Typing × Typing → List Typing × List Typing → List Typing × List Typing
arm_before t ts = (t.0 ∷ ts.0, t.1 ∷ ts.1)

-- the judgement of an expression, where names stand for these
unfoldable mutual
  pub judged : (List (List ℕ) → Standing) → Scope → Tree → Judgement Typing
  judged names s (truth p b) = Ok (single Boolean)
  judged names s (number p n) = at p (number_typing n)
  judged names s (word p w) = at p (word_typing w)
  judged names s (name p path) = named s p path (names path)
  judged names s (span p low high) = at p (span_typing low high)
  judged names s (set p es) = over (set_at p) (all_judged names s es)
  judged names s (cases p bs) = over (cases_at p) (arms_judged names s bs)
  judged names s (choice p c a b) =
      over (choice_at p) (both pair (judged names s c) (both pair (judged names s a) (judged names s b)))
  judged names s (one p o a) = over (one_at p o) (judged names s a)
  judged names s (two p o a b) = over (two_at p o) (both pair (judged names s a) (judged names s b))
  judged names s (select p a high low) = over (select_at p high low) (judged names s a)
  judged names s (next p a) = over (next_at s p) (judged names (within_next s) a)
  judged names s (widen p resize a n) = over (widen_at p resize n) (judged names s a)
  judged names s (const p signed v n) = at p (const_typing signed n)
  judged names s (count p es) = over (count_at p) (all_judged names s es)

  -- that of several expressions: the type of each
  pub all_judged : (List (List ℕ) → Standing) → Scope → Trees → Judgement (List Typing)
  all_judged names s no_trees = Ok []
  all_judged names s (tree e es) = both before (judged names s e) (all_judged names s es)

  -- that of branches: the types of their conditions, and those of their values
  pub arms_judged : (List (List ℕ) → Standing) → Scope → Arms → Judgement (List Typing × List Typing)
  arms_judged names s no_arms = Ok ([], [])
  arms_judged names s (arm c a bs) =
      both arm_before (both pair (judged names s c) (judged names s a)) (arms_judged names s bs)
