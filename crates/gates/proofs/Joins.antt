-- What a new conjunction leaves.
use Rattle.std.proofs.Common.{◌≡◌, ◌&&◌, List, [], ◌∷◌, ◌++◌, length, None, sym, ap, ◌∙◌, subst, arith}
use Rattle.indexmap.specs.IndexMap.{IndexMap, insert_entry}
use Rattle.indexmap.proofs.CallerLemmas.{insert_entry-new}
use Rattle.gates.specs.Literal.{Literal, positive}
use Rattle.gates.specs.declared.node.Node.{Node}
use Rattle.gates.specs.declared.node.Node.TheVariants.{And}
use Rattle.gates.specs.Nodes.{WellFormed, Belongs}
use Rattle.gates.specs.Sharing.{earlier, later, is_same, conjunction, pairs_from}
use Rattle.gates.proofs.Growth.{WellFormed-push}
use Rattle.gates.proofs.Pairs.{pairs_from-push_and}
use Rattle.gates.proofs.Meaning.{lookup-absent, StandsAt-next}

-- the nodes stay well formed, and the pairs are theirs
pub joined_invariant : {S : Type 0} (nodes new : List Node) (a b x y l : Literal) (pairs : IndexMap (Literal × Literal) Literal S) (after : List ((Literal × Literal) × Literal))
    → WellFormed nodes → pairs.entries ≡ pairs_from 0 nodes → Belongs nodes a → Belongs nodes b → conjunction nodes a b ≡ None
    → x ≡ earlier a b → y ≡ later a b → l ≡ positive (length nodes) → new ≡ nodes ++ And x y ∷ []
    → after ≡ insert_entry (λ (p q : Literal × Literal). is_same p.0 q.0 && is_same p.1 q.1) pairs.entries (x, y) l
    → WellFormed new × (after ≡ pairs_from 0 new)
joined_invariant nodes new a b x y l pairs after well es in_a in_b none first second literal pushed inserted =
    let node : new ≡ nodes ++ And (earlier a b) (later a b) ∷ [] = pushed ∙ (λ i. nodes ++ And (first i) (second i) ∷ []) in (
      subst WellFormed (sym node) (WellFormed-push nodes (And (earlier a b) (later a b)) well (StandsAt-next nodes a b in_a in_b none)),
      inserted
          ∙ insert_entry-new (λ (p q : Literal × Literal). is_same p.0 q.0 && is_same p.1 q.1) pairs (x, y) l (lookup-absent nodes a b x y pairs.entries es first second none)
          ∙ (λ i. es i ++ ((first i, second i), literal i) ∷ [])
          ∙ sym (pairs_from-push_and 0 (length nodes) nodes (earlier a b) (later a b) (omega arith))
          ∙ ap (pairs_from 0) (sym node),
    )
