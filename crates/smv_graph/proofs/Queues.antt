-- How a queue of reached modules grows, and that it has them all in the end.
use Rattle.std.proofs.Common.{◌≡◌, ◌+◌, ◌<◌, ◌≤◌, ℕ, zero, suc, Bool, true, false, List, [], ◌∷◌, ◌++◌, length, refl, ap, sym, ◌∙◌, subst, arith, inl, inr, eqb, append_assoc, take, get_or}
use Rattle.std.specs.Prelude.{◌⊎◌, Contains, Option, Some, None, slice_get, if◌then◌else◌}
use Rattle.std.specs.List.{list_any, IsDistinct}
use Rattle.std.proofs.lemmas.Bool.{eqb-true, eq-eqb}
use Rattle.std.proofs.lemmas.List.Folds.{list_any_at}
use Rattle.std.proofs.lemmas.List.{append-nil, take_more}
use Rattle.std.proofs.lemmas.List.Elements.{Contains-append_left, Contains-append_right, Contains-append_cases, Contains-push, Contains-push_cases}
use Rattle.std.proofs.lemmas.Map.Steps.{length-le_from_distinct_below}
use Rattle.indexmap.specs.IndexSet.{insert_key}
use Rattle.indexmap.proofs.CallerLemmas.{Contains-insert_key, Contains-list_any}
use Rattle.smv_meaning.specs.Walks.{IsWalk}
use Rattle.smv_graph.specs.Graph.{Leads, Reaches, IsClosed, row_of}
use Rattle.smv_graph.specs.Queues.{IsAdded, IsQueue}

none_in : {X : Type 0} (x : X) → Contains [] x → ⊥
none_in x (k, l, e) = omega arith

pub added_none : (old : List ℕ) → IsAdded old [] old
added_none old = record { more = []; behind = sym (append-nil old); only = λ b c. inl c; added = λ b c. absurd (none_in (Some b) c) }

-- a part that leads nowhere
pub added_nowhere : (old : List ℕ) (row : List (Option ℕ)) (new : List ℕ) → IsAdded old row new → IsAdded old (row ++ None ∷ []) new
added_nowhere old row new a = record { more = a.more; behind = a.behind; only = λ b c. only_more b (a.only b c); added = λ b c. a.added b (before b (Contains-push_cases row None (Some b) c)) }
  where
    only_more : (b : ℕ) → Contains old b ⊎ Contains row (Some b) → Contains old b ⊎ Contains (row ++ None ∷ []) (Some b)
    only_more b (inl c) = inl c
    only_more b (inr c) = inr (Contains-append_left row (None ∷ []) (Some b) c)

    before : (b : ℕ) → Contains row (Some b) ⊎ (None ≡ Some b) → Contains row (Some b)
    before b (inl c) = c
    before b (inr e) = absurd (cc)

-- one more of a row
pub row_more : (row : List (Option ℕ)) (i : ℕ) (d x : Option ℕ) → i < length row → get_or row i d ≡ x → take (i + 1) row ≡ take i row ++ x ∷ []
row_more row i d x l e = take_more row i d l ∙ ap (λ y. take i row ++ y ∷ []) e

-- what is inserted is there, and nothing else is new
pub inserted_only : (keys : List ℕ) (v b : ℕ) → Contains (insert_key eqb keys v) b → Contains keys b ⊎ (v ≡ b)
inserted_only keys v b c = by_there (list_any (eqb v) keys) c
  where
    by_there : (t : Bool) → Contains (if t then keys else keys ++ v ∷ []) b → Contains keys b ⊎ (v ≡ b)
    by_there true d = inl d
    by_there false d = Contains-push_cases keys v b d

inserted_behind : (keys : List ℕ) (v : ℕ) → (more : List ℕ) × (insert_key eqb keys v ≡ keys ++ more)
inserted_behind keys v = by_there (list_any (eqb v) keys)
  where
    by_there : (t : Bool) → (more : List ℕ) × ((if t then keys else keys ++ v ∷ []) ≡ keys ++ more)
    by_there true = ([], sym (append-nil keys))
    by_there false = (v ∷ [], refl)

-- a part that leads to a module
pub added_one : (old : List ℕ) (row : List (Option ℕ)) (new later : List ℕ) (v : ℕ) → IsAdded old row new → later ≡ insert_key eqb new v → IsAdded old (row ++ Some v ∷ []) later
added_one old row new later v a e =
    record {
      more = a.more ++ next.0;
      behind = e ∙ (next.1 ∙ (ap (λ l. l ++ next.0) a.behind ∙ append_assoc old a.more next.0));
      only = λ b c. only_more b (inserted_only new v b (subst (λ l. Contains l b) e c));
      added = λ b c. kept_more b (Contains-push_cases row (Some v) (Some b) c);
    }
  where
    next : (more : List ℕ) × (insert_key eqb new v ≡ new ++ more)
    next = inserted_behind new v

    v_there : Contains later v
    v_there = subst (λ l. Contains l v) (sym e) (Contains-insert_key eqb eqb-true new v)

    only_more : (b : ℕ) → Contains new b ⊎ (v ≡ b) → Contains old b ⊎ Contains (row ++ Some v ∷ []) (Some b)
    only_more b (inr d) = inr (subst (λ x. Contains (row ++ Some v ∷ []) (Some x)) d (Contains-push row (Some v)))
    only_more b (inl d) = elim (a.only b d) [ inl c ↦ inl c | inr c ↦ inr (Contains-append_left row (Some v ∷ []) (Some b) c) ]

    kept_more : (b : ℕ) → Contains row (Some b) ⊎ (Some v ≡ Some b) → Contains later b
    kept_more b (inl c) = subst (λ l. Contains l b) (sym (e ∙ next.1)) (Contains-append_left new next.0 b (a.added b c))
    kept_more b (inr d) = let is : v ≡ b = cc in subst (Contains later) is v_there

module _ (graph : List (List (Option ℕ))) (start : ℕ) where
  -- a walk goes on by one step
  walk_on : (a : ℕ) (xs : List ℕ) (b c : ℕ) → IsWalk (Leads graph) a xs b → Leads graph b c → IsWalk (Leads graph) a (xs ++ b ∷ []) c
  walk_on a [] b c w r = (w, r)
  walk_on a (x ∷ xs) b c w r = (w.0, walk_on x xs b c w.1 r)

  -- the last step of a walk leads to its end
  walk_end : (a : ℕ) (xs : List ℕ) (b : ℕ) → IsWalk (Leads graph) a xs b → (c : ℕ) × Leads graph c b
  walk_end a [] b w = (a, w)
  walk_end a (x ∷ xs) b w = walk_end x xs b w.1

  pub reached_below : IsClosed graph → (b : ℕ) → Reaches graph start b → b < length graph
  reached_below closed b (xs, w) = let end = walk_end start xs b w in closed end.0 b end.1

  -- at first, the queue has what the start leads to
  pub queue_begun : (keys : List ℕ) → IsAdded [] (row_of graph start) keys → IsQueue graph start 0 keys
  queue_begun keys a = record {
    sound = λ b c. elim (a.only b c) [ inl d ↦ absurd (none_in b d) | inr d ↦ ([], d) ];
    first = a.added;
    done = λ k x b l e d. absurd (omega arith);
  }

  kept_place : (keys more : List ℕ) (k a : ℕ) → k < length keys → slice_get (keys ++ more) k ≡ slice_get keys k
  kept_place [] more k a l = absurd (omega arith)
  kept_place (x ∷ xs) more zero a l = refl
  kept_place (x ∷ xs) more (suc k) a l = kept_place xs more k a (omega arith)

  placed : (keys : List ℕ) (k a : ℕ) → slice_get keys k ≡ Some a → (k < length keys) × Contains keys a
  placed [] k a e = absurd (cc)
  placed (x ∷ xs) zero a e = let same : x ≡ a = cc in (omega arith, subst (Contains (x ∷ xs)) same (Contains-append_left (x ∷ []) xs x (0, omega arith, refl)))
  placed (x ∷ xs) (suc k) a e = let r = placed xs k a e in (omega arith, Contains-append_right (x ∷ []) xs a r.1)

  -- the next of the queue is taken up
  pub queue_on : (next : ℕ) (keys later : List ℕ) (a : ℕ) → IsQueue graph start next keys → slice_get keys next ≡ Some a → IsAdded keys (row_of graph a) later → IsQueue graph start (next + 1) later
  queue_on next keys later a q at_next add = record {
    sound = λ b c. elim (add.only b c) [ inl d ↦ q.sound b d | inr d ↦ further b d ];
    first = λ b l. kept b (q.first b l);
    done = done;
  }
    where
      there : (next < length keys) × Contains keys a
      there = placed keys next a at_next

      further : (b : ℕ) → Leads graph a b → Reaches graph start b
      further b d = let w = q.sound a there.1 in (w.0 ++ a ∷ [], walk_on start w.0 a b w.1 d)

      kept : (b : ℕ) → Contains keys b → Contains later b
      kept b c = subst (λ l. Contains l b) (sym add.behind) (Contains-append_left keys add.more b c)

      done_at : (k x b : ℕ) → (k < next) ⊎ (k ≡ next) → slice_get keys k ≡ Some x → Leads graph x b → Contains later b
      done_at k x b (inl l) e d = kept b (q.done k x b l e d)
      done_at k x b (inr s) e d =
          let same : a ≡ x = cc in
          add.added b (subst (λ y. Leads graph y b) (sym same) d)

      done : (k x b : ℕ) → k < next + 1 → slice_get later k ≡ Some x → Leads graph x b → Contains later b
      done k x b l e d =
          let first = there.0 in
          let before : slice_get keys k ≡ Some x = sym (kept_place keys add.more k x (omega arith)) ∙ (ap (λ l. slice_get l k) (sym add.behind) ∙ e) in
          done_at k x b (cases k next l) before d
        where
          cases : (k n : ℕ) → k < n + 1 → (k < n) ⊎ (k ≡ n)
          cases k n l = grind arith

  -- in a queue that is done, all is there to which walks lead
  walk_there : (keys : List ℕ) → ((x b : ℕ) → Contains keys x → Leads graph x b → Contains keys b) → (a : ℕ) (xs : List ℕ) (b : ℕ) → ((x : ℕ) → Leads graph a x → Contains keys x) → IsWalk (Leads graph) a xs b → Contains keys b
  walk_there keys h a [] b first w = first b w
  walk_there keys h a (x ∷ xs) b first w = walk_there keys h x xs b (λ y l. h x y (first x w.0) l) w.1

  find_place : (keys : List ℕ) (x : ℕ) → Contains keys x → (k : ℕ) × (k < length keys) × (slice_get keys k ≡ Some x)
  find_place [] x c = absurd (none_in x c)
  find_place (y ∷ ys) x c = by_place (Contains-append_cases (y ∷ []) ys x c) (find_place ys x)
    where
      by_place : Contains (y ∷ []) x ⊎ Contains ys x → (Contains ys x → (k : ℕ) × (k < length ys) × (slice_get ys k ≡ Some x)) → (k : ℕ) × (k < length (y ∷ ys)) × (slice_get (y ∷ ys) k ≡ Some x)
      by_place (inl (zero, l, e)) rest = (0, omega arith, ap Some e)
      by_place (inl (suc k, l, e)) rest = absurd (omega arith)
      by_place (inr d) rest = let r = rest d in (suc r.0, omega arith, r.2)

  pub queue_done : (next : ℕ) (keys : List ℕ) → IsQueue graph start next keys → length keys ≤ next → (b : ℕ) → Reaches graph start b → Contains keys b
  queue_done next keys q l b (xs, w) = walk_there keys closed start xs b q.first w
    where
      closed : (x y : ℕ) → Contains keys x → Leads graph x y → Contains keys y
      closed x y c d = let p = find_place keys x c in q.done p.0 x y (let k = p.1 in omega arith) p.2 d

  -- the queue is no longer than there are modules
  pub queue_short : (next : ℕ) (keys : List ℕ) → IsClosed graph → IsQueue graph start next keys → IsDistinct eqb keys → length keys ≤ length graph
  queue_short next keys closed q distinct = length-le_from_distinct_below keys (length graph) distinct (λ b h. reached_below closed b (q.sound b (Contains-list_any eqb eqb-true keys b h)))

-- a test for a number tells whether it is there
pub has_tells : (keys : List ℕ) (n : ℕ) (t : Bool) → t ≡ list_any (eqb n) keys → (t ≡ true → Contains keys n) × (Contains keys n → t ≡ true)
has_tells keys n t e =
    (λ h. Contains-list_any eqb eqb-true keys n (sym e ∙ h), λ c. e ∙ list_any_at (eqb n) keys c.0 n c.1 (eq-eqb n (get_or keys c.0 n) (sym c.2)))
