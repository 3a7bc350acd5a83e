-- Where definitions use only earlier ones, names come to an end; where names come to an end, no definition is on a cycle.
use Rattle.std.proofs.Common.{◌≡◌, ◌<◌, ℕ, zero, suc, List, [], ◌∷◌, ◌++◌, length, ap, sym, ◌∙◌, subst, arith, length-append, append_assoc, inl, inr}
use Rattle.std.specs.Prelude.{Contains, ◌⊎◌}
use Rattle.std.proofs.lemmas.List.{append-nil}
use Rattle.std.proofs.lemmas.List.Elements.{Contains-append_cases}
use Rattle.smv_tree.specs.Models.{Body}
use Rattle.smv_meaning.specs.Names.{Target, to_variable, to_body, to_instance, to_symbol, to_nothing, resolve}
use Rattle.smv_meaning.specs.Walks.{IsWalk, IsOnCycle, IsTopological}
use Rattle.smv_meaning.specs.Definitions.{Definition, definitions, names_in, Names, Uses}
use Rattle.smv_meaning.specs.Cycles.{EachName, Settles, IsSettled, HasDefinitionCycle, IsInstanceName, IsAmong, IsOrder}
use Rattle.smv_meaning.specs.FlatTrees.{FlatName, Flat}
use Rattle.smv_meaning.specs.FlatLines.{Refers, to_slot, to_def, to_name, AreLined, IsLine}
use Rattle.smv_meaning.proofs.Lists.{contains_only, only_contained, contains_none, slice_get-contained}
use Rattle.smv_meaning.proofs.FirstNames.{IsNoBody}
use Rattle.smv_meaning.proofs.Settling.{settles_later}
use Rattle.smv_meaning.proofs.NamedDefinitions.{Stands, by_body, by_name, named_stands}
use Rattle.smv_meaning.proofs.NamedOrNot.{named_or_not, named_is_listed}
use Rattle.smv_meaning.proofs.FlatFits.{fits_refer}

-- from the body of a definition, names lead through fewer bodies than this
abbrev pub BodySettles : List Body → ℕ → Definition → Type 0
BodySettles program n d = EachName (λ names. Settles program n (resolve program d.around names)) d.body

body_settles_later : (program : List Body) (n : ℕ) (d : Definition) → BodySettles program n d → BodySettles program (suc n) d
body_settles_later program n d h names c = settles_later program n (resolve program d.around names) (h names c)

pub no_body_settles : (program : List Body) (n : ℕ) (t : Target) → IsNoBody t → Settles program (suc n) t
no_body_settles program n (to_variable path) h = tt
no_body_settles program n (to_body up e) h = absurd h
no_body_settles program n (to_instance up) h = tt
no_body_settles program n (to_symbol s) h = tt
no_body_settles program n to_nothing h = tt

-- so a name of the definition does through one more
pub named_settles : (program : List Body) (n : ℕ) (up names : List (List ℕ)) (d : Definition) → Names program up names d → BodySettles program n d → Settles program (suc n) (resolve program up names)
named_settles program n up names d named h = by_case (named_stands program up names d named)
  where
    by_case : Stands program up names d → Settles program (suc n) (resolve program up names)
    by_case (by_body e) = subst (Settles program (suc n)) (sym e) h
    by_case (by_name p other e r l) =
        let only : Contains (names_in d.body) other = subst (λ b. Contains (names_in b) other) (sym e) (contains_only other) in
        subst (Settles program (suc n)) (sym r) (settles_later program n (resolve program d.around other) (h other only))

module _ (program : List Body) where
  -- each of these definitions settles through no more bodies than there are
  abbrev AllSettle : List Definition → Type 0
  AllSettle ds = (d : Definition) → Contains ds d → BodySettles program (suc (length ds)) d

  settle_next : (before : List Definition) (d : Definition) → AllSettle before → BodySettles program (suc (suc (length before))) d → AllSettle (before ++ d ∷ [])
  settle_next before d h last_settles e c =
      subst (λ n. BodySettles program (suc n) e) (sym longer) (by_place (Contains-append_cases before (d ∷ []) e c))
    where
      longer : length (before ++ d ∷ []) ≡ suc (length before)
      longer = rw (length-append before (d ∷ [])) (omega arith)

      by_place : Contains before e ⊎ Contains (d ∷ []) e → BodySettles program (suc (suc (length before))) e
      by_place (inl k) = body_settles_later program (suc (length before)) e (h e k)
      by_place (inr k) = subst (BodySettles program (suc (suc (length before)))) (only_contained d e k) last_settles

  -- a name of an instance settles at once
  instance_name_settles : (n : ℕ) (d : Definition) → IsInstanceName program d → BodySettles program (suc n) d
  instance_name_settles n d i y c =
      let only : i.names ≡ y = only_contained i.names y (subst (λ b. Contains (names_in b) y) i.only c) in
      subst (Settles program (suc n)) (sym i.stands ∙ ap (resolve program d.around) only) tt

  -- a definition that uses only those before it
  user_settles : (before : List Definition) (d : Definition) → AllSettle before → ((e : Definition) → Uses program d e → IsAmong program before e) → BodySettles program (suc (suc (length before))) d
  user_settles before d h uses names k =
      elim (named_or_not program d.around names) [
        | inl (f, named) ↦ named_settles program (suc (length before)) d.around names f named (used_settles f (uses f (names, k, named)))
        | inr plain ↦ no_body_settles program (suc (length before)) (resolve program d.around names) plain
      ]
    where
      used_settles : (e : Definition) → IsAmong program before e → BodySettles program (suc (length before)) e
      used_settles e (inl c) = h e c
      used_settles e (inr i) = instance_name_settles (length before) e i

  ordered_settle : (before rest : List Definition) → AllSettle before → IsTopological (Uses program) (IsAmong program) before rest → AllSettle (before ++ rest)
  ordered_settle before [] h o = subst AllSettle (sym (append-nil before)) h
  ordered_settle before (d ∷ ds) h o = subst AllSettle (append_assoc before (d ∷ []) ds) (ordered_settle (before ++ d ∷ []) ds (settle_next before d h (user_settles before d h o.0)) o.1)

  -- a flat name in the line refers to what settles
  referred_settles : (before : List Definition) → AllSettle before → (up names : List (List ℕ)) (x : FlatName) → Refers program before up names x → Settles program (suc (suc (length before))) (resolve program up names)
  referred_settles before h up names _ (to_slot k v at_k e) = subst (Settles program (suc (suc (length before)))) (sym e) tt
  referred_settles before h up names _ (to_name n e) = subst (Settles program (suc (suc (length before)))) (sym e) tt
  referred_settles before h up names _ (to_def k d at_k named) = named_settles program (suc (length before)) up names d named (h d (slice_get-contained before k d at_k))

  lined_settle : (before rest : List Definition) (fs : List Flat) → AllSettle before → AreLined program before rest fs → AllSettle (before ++ rest)
  lined_settle before [] [] h o = subst AllSettle (sym (append-nil before)) h
  lined_settle before [] (f ∷ fs) h o = absurd o
  lined_settle before (d ∷ ds) [] h o = absurd o
  lined_settle before (d ∷ ds) (f ∷ fs) h o =
      subst AllSettle (append_assoc before (d ∷ []) ds)
      (lined_settle (before ++ d ∷ []) ds fs
      (settle_next before d h (λ names k. let r = fits_refer program before d.around d.body f o.0 names k in referred_settles before h d.around names r.0 r.1)) o.1)

  -- where all these settle, and all definitions are among them but for names of instances, each path of names comes to an end
  all_settled : (order : List Definition) → AllSettle order → ((d : Definition) → Contains (definitions program) d → IsAmong program order d) → IsSettled program
  all_settled order h complete up names = (suc (suc (length order)), by_case (named_or_not program up names))
    where
      settles : (d : Definition) → IsAmong program order d → BodySettles program (suc (length order)) d
      settles d (inl c) = h d c
      settles d (inr i) = instance_name_settles (length order) d i

      by_case : ((d : Definition) × Names program up names d) ⊎ IsNoBody (resolve program up names) → Settles program (suc (suc (length order))) (resolve program up names)
      by_case (inl (d, named)) = named_settles program (suc (length order)) up names d named (settles d (complete d (named_is_listed program up names d named)))
      by_case (inr plain) = no_body_settles program (suc (length order)) (resolve program up names) plain

  pub ordered_is_settled : (order : List Definition) → IsOrder program order → IsSettled program
  ordered_is_settled order o = all_settled order (ordered_settle [] order (λ d c. absurd (contains_none d c)) o.ordered) o.listed.complete

  pub lined_is_settled : (defs : List Definition) (bodies : List Flat) → IsLine program defs bodies → IsSettled program
  lined_is_settled defs bodies l = all_settled defs (lined_settle [] defs bodies (λ d c. absurd (contains_none d c)) l.lined) l.listed.complete

-- a walk goes on by one step
pub walk_on : {A : Type 0} (R : A → A → Type 0) (a : A) (xs : List A) (b c : A) → IsWalk R a xs b → R b c → IsWalk R a (xs ++ b ∷ []) c
walk_on R a [] b c w r = (w, r)
walk_on R a (x ∷ xs) b c w r = (w.0, walk_on R x xs b c w.1 r)

-- from an element on a cycle, a step leads to one on a cycle
pub cycle_on : {A : Type 0} (R : A → A → Type 0) (a : A) → IsOnCycle R a → (b : A) × R a b × IsOnCycle R b
cycle_on R a ([], w) = (a, w, ([], w))
cycle_on R a (x ∷ xs, w) = (x, w.0, (xs ++ a ∷ [], walk_on R x xs a x w.1 w.0))

module _ (program : List Body) where
  -- names of definitions on a cycle don't settle through fewer bodies than this
  abbrev NoneSettles : ℕ → Type 0
  NoneSettles n = (up names : List (List ℕ)) (d : Definition) → Names program up names d → IsOnCycle (Uses program) d → Settles program n (resolve program up names) → ⊥

  -- in instances of fewer names than k
  none_settles_in : (n : ℕ) → NoneSettles n → (k : ℕ) (up names : List (List ℕ)) (d : Definition) → Names program up names d → IsOnCycle (Uses program) d → length up < k → Settles program (suc n) (resolve program up names) → ⊥
  none_settles_in n none zero up names d named cycle l s = omega arith
  none_settles_in n none (suc k) up names d named cycle l s = by_next (cycle_on (Uses program) d cycle) (named_stands program up names d named)
      (λ around z e y r m t. none_settles_in n none k around z e y r m t)
    where
      by_next : (e : Definition) × Uses program d e × IsOnCycle (Uses program) e → Stands program up names d
          → ((around z : List (List ℕ)) (e : Definition) → Names program around z e → IsOnCycle (Uses program) e → length around < k → Settles program (suc n) (resolve program around z) → ⊥) → ⊥
      by_next (e, (y, c, next_named), next_cycle) (by_body b) further =
          let h : BodySettles program n d = subst (Settles program (suc n)) b s in
          none d.around y e next_named next_cycle (h y c)
      by_next (e, (y, c, next_named), next_cycle) (by_name p other b r m) further =
          let only : other ≡ y = only_contained other y (subst (λ x. Contains (names_in x) y) b c) in
          further d.around y e next_named next_cycle (omega arith) (subst (Settles program (suc n)) (r ∙ ap (resolve program d.around) only) s)

  none_settles : (n : ℕ) → NoneSettles n
  none_settles zero up names d named cycle s = absurd s
  none_settles (suc n) up names d named cycle s = none_settles_in n (none_settles n) (suc (length up)) up names d named cycle (omega arith) s

  pub settled_has_no_cycle : IsSettled program → HasDefinitionCycle program → ⊥
  settled_has_no_cycle h (d, cycle) =
      let step = cycle_on (Uses program) d cycle in
      let used = step.1 in
      none_settles (h d.around used.0).0 d.around used.0 step.0 used.2 step.2 (h d.around used.0).1
