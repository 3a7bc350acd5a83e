-- Aliases at the head are replaced one after another.
use Rattle.std.proofs.Common.{◌≡◌, ◌↔◌, ℕ, ◌+◌, ◌<◌, ◌≤◌, Bool, true, false, cond, List, [], ◌∷◌, ◌++◌, length, refl, ap, sym, ◌∙◌, subst, arith}
use Rattle.std.specs.Prelude.{Some, None, option_map, reverse, if◌then◌else◌, ◌||◌}
use Rattle.std.specs.List.{list_any}
use Rattle.std.specs.Str.{bytes_eq}
use Rattle.std.specs.Ordering.{is_eq, nat_cmp}
use Rattle.std.specs.Cmp.Lexicographic.{slice_cmp}
use Rattle.std.specs.BTreeMap.{is_at}
use Rattle.std.specs.BTreeSet.{BTreeSet, contains}
use Rattle.std.proofs.lemmas.List.{reverse-append}
use Rattle.std.proofs.lemmas.List.Folds.{list_any-append}
use Rattle.std.proofs.lemmas.Map.Text.{is_eq-slice_cmp}
use Rattle.std.proofs.lemmas.Slice.Eq.{bytes_eq-Decides}
use Rattle.shell_lang.specs.Keyed.{at_name}
use Rattle.shell_lang.specs.Filled.{Bodies, body_of, is_used, replaced, Unfolds, stays, unfolds}

unfolds_on : {aliases : Bodies} {used words last : List (List ℕ)} → Unfolds aliases used words last → (name : List ℕ) (rest more : List (List ℕ)) → words ≡ name ∷ rest → replaced aliases used words ≡ Some more → Unfolds aliases (used ++ name ∷ []) more last
unfolds_on (stays used words none) name rest more is some = cc
unfolds_on {aliases = aliases} (unfolds used words more' last name' some' h) name rest more is some =
    let same_name : name' ≡ name = cc in
    let same_more : more' ≡ more = cc in
    subst (λ (n : List ℕ). Unfolds aliases (used ++ n ∷ []) more last) same_name (subst (λ (m : List (List ℕ)). Unfolds aliases (used ++ name' ∷ []) m last) same_more h)

stays_there : {aliases : Bodies} {used words last : List (List ℕ)} → Unfolds aliases used words last → replaced aliases used words ≡ None → last ≡ words
stays_there (stays used words none) is = refl
stays_there (unfolds used words more last name some h) is = cc

-- what is left to replace in words that stand the last one first leads to the same words as at the start
abbrev pub Leads : Bodies → List (List ℕ) → List (List ℕ) → List (List ℕ) → Type 0
Leads aliases start used words =
    (last : List (List ℕ)) → Unfolds aliases used (reverse words) last ↔ Unfolds aliases [] (reverse start) last

last_first : (popped : List (List ℕ)) (name : List ℕ) → reverse (popped ++ name ∷ []) ≡ name ∷ reverse popped
last_first popped name = reverse-append popped (name ∷ [])

next_body : (aliases : Bodies) (used old popped body : List (List ℕ)) (name : List ℕ) → old ≡ popped ++ name ∷ [] → body_of aliases (is_used used name) name ≡ Some body → replaced aliases used (reverse old) ≡ Some (body ++ reverse popped)
next_body aliases used old popped body name is some =
    ap (λ (ws : List (List ℕ)). replaced aliases used (reverse ws)) is
    ∙ ap (replaced aliases used) (last_first popped name)
    ∙ ap (option_map (λ (b : List (List ℕ)). b ++ reverse popped)) some

-- one alias is replaced
pub leads-more : (aliases : Bodies) (start used old popped new body : List (List ℕ)) (name : List ℕ) → old ≡ popped ++ name ∷ [] → body_of aliases (is_used used name) name ≡ Some body → reverse new ≡ body ++ reverse popped → Leads aliases start used old → Leads aliases start (used ++ name ∷ []) new
leads-more aliases start used old popped new body name is some pushed before last =
    let some_more : replaced aliases used (reverse old) ≡ Some (body ++ reverse popped) = next_body aliases used old popped body name is some in
    let head : reverse old ≡ name ∷ reverse popped = ap reverse is ∙ last_first popped name in (
      λ h. (before last).0 (subst (λ (ws : List (List ℕ)). Unfolds aliases used ws last) (sym head) (unfolds used (reverse popped) (body ++ reverse popped) last name (ap (replaced aliases used) (sym head) ∙ some_more) (subst (λ (ws : List (List ℕ)). Unfolds aliases (used ++ name ∷ []) ws last) pushed h))),
      λ h. subst (λ (ws : List (List ℕ)). Unfolds aliases (used ++ name ∷ []) ws last) (sym pushed) (unfolds_on ((before last).1 h) name (reverse popped) (body ++ reverse popped) head some_more),
    )

none_replaced : (aliases : Bodies) (used old popped : List (List ℕ)) (name : List ℕ) → old ≡ popped ++ name ∷ [] → body_of aliases (is_used used name) name ≡ None → replaced aliases used (reverse old) ≡ None
none_replaced aliases used old popped name is none =
    ap (λ (ws : List (List ℕ)). replaced aliases used (reverse ws)) is
    ∙ ap (replaced aliases used) (last_first popped name)
    ∙ ap (option_map (λ (b : List (List ℕ)). b ++ reverse popped)) none

-- nothing can be replaced any more
pub leads-right : (aliases : Bodies) (start used words : List (List ℕ)) → replaced aliases used (reverse words) ≡ None → Leads aliases start used words → Unfolds aliases [] (reverse start) (reverse words)
leads-right aliases start used words none before = (before (reverse words)).0 (stays used (reverse words) none)

pub leads-only : (aliases : Bodies) (start used words : List (List ℕ)) → replaced aliases used (reverse words) ≡ None → Leads aliases start used words → (other : List (List ℕ)) → Unfolds aliases [] (reverse start) other → other ≡ reverse words
leads-only aliases start used words none before other h = stays_there ((before other).1 h) none

-- the first word cannot be replaced, and is put back
pub put_back-right : (aliases : Bodies) (start used old popped new : List (List ℕ)) (name : List ℕ) → old ≡ popped ++ name ∷ [] → new ≡ popped ++ name ∷ [] → body_of aliases (is_used used name) name ≡ None → Leads aliases start used old → Unfolds aliases [] (reverse start) (reverse new)
put_back-right aliases start used old popped new name was is none before =
    let same : old ≡ new = was ∙ sym is in
    subst (λ (ws : List (List ℕ)). Unfolds aliases [] (reverse start) (reverse ws)) same (leads-right aliases start used old (none_replaced aliases used old popped name was none) before)

pub put_back-only : (aliases : Bodies) (start used old popped new : List (List ℕ)) (name : List ℕ) → old ≡ popped ++ name ∷ [] → new ≡ popped ++ name ∷ [] → body_of aliases (is_used used name) name ≡ None → Leads aliases start used old → (other : List (List ℕ)) → Unfolds aliases [] (reverse start) other → other ≡ reverse new
put_back-only aliases start used old popped new name was is none before other h =
    leads-only aliases start used old (none_replaced aliases used old popped name was none) before other h ∙ ap reverse (was ∙ sym is)

-- the names that a set has
abbrev pub is_in : BTreeSet (List ℕ) → List ℕ → Bool
is_in set name = contains (slice_cmp nat_cmp) set name

-- the set has the names that were replaced
abbrev pub Agrees : BTreeSet (List ℕ) → List (List ℕ) → Type 0
Agrees set used = (name : List ℕ) → is_in set name ≡ is_used used name

-- the test holds of one more name
abbrev pub Widens : (List ℕ → Bool) → (List ℕ → Bool) → List ℕ → Type 0
Widens old new name = (other : List ℕ) → new other ≡ cond (is_eq (slice_cmp nat_cmp name other)) true (old other)

-- no name is replaced yet
pub agrees-none : (set : BTreeSet (List ℕ)) → set.keys ≡ [] → Agrees set []
agrees-none set none name = ap (λ (keys : List (List ℕ)). list_any (is_at (slice_cmp nat_cmp name)) keys) none

at_end : (is was : Bool) → cond is true was ≡ (was || (is || false))
at_end true true = refl
at_end true false = refl
at_end false true = refl
at_end false false = refl

-- one more name is replaced
pub agrees-more : (old new : BTreeSet (List ℕ)) (used : List (List ℕ)) (name : List ℕ) → Widens (is_in old) (is_in new) name → Agrees old used → Agrees new (used ++ name ∷ [])
agrees-more old new used name added before other =
    added other
    ∙ ap (λ (b : Bool). cond b true (is_in old other)) (is_eq-slice_cmp name other)
    ∙ ap (cond (bytes_eq name other) true) (before other)
    ∙ at_end (bytes_eq name other) (is_used used other)
    ∙ sym (list_any-append (λ (n : List ℕ). bytes_eq n other) used (name ∷ []))

-- how many aliases do not pass the test
abbrev pub unused : Bodies → (List ℕ → Bool) → ℕ
unused [] used = 0
unused (alias ∷ aliases) used = (if used alias.0 then 0 else 1) + unused aliases used

no_more_at : (is was : Bool) (m n : ℕ) → m ≤ n → (if cond is true was then 0 else 1) + m ≤ (if was then 0 else 1) + n
no_more_at true true m n le = omega arith
no_more_at true false m n le = omega arith
no_more_at false true m n le = omega arith
no_more_at false false m n le = omega arith

unused_no_more : (aliases : Bodies) (old new : List ℕ → Bool) (name : List ℕ) → Widens old new name → unused aliases new ≤ unused aliases old
unused_no_more [] old new name added = omega arith
unused_no_more (alias ∷ aliases) old new name added =
    rw (added alias.0) (no_more_at (is_eq (slice_cmp nat_cmp name alias.0)) (old alias.0) _ _ (unused_no_more aliases old new name added))

fewer_here : (m n : ℕ) → m ≤ n → 0 + m < 1 + n
fewer_here m n le = omega arith

fewer_later : (was : Bool) (m n : ℕ) → m < n → (if was then 0 else 1) + m < (if was then 0 else 1) + n
fewer_later true m n lt = omega arith
fewer_later false m n lt = omega arith

unused_fewer_at : (aliases : Bodies) (old new : List ℕ → Bool) (name : List ℕ) (body : List (List ℕ)) → Widens old new name → old name ≡ false → at_name aliases name ≡ Some body → unused aliases new < unused aliases old
unused_fewer_at [] old new name body added absent is = cc
unused_fewer_at (alias ∷ aliases) old new name body added absent is =
    elim (is_eq (slice_cmp nat_cmp name alias.0)) as (λ b. is_eq (slice_cmp nat_cmp name alias.0) ≡ b → cond b (Some alias.1) (at_name aliases name) ≡ Some body → unused (alias ∷ aliases) new < unused (alias ∷ aliases) old) [
      | true ↦ λ e h.
          let name_is : name ≡ alias.0 = (bytes_eq-Decides name alias.0).0 (sym (is_eq-slice_cmp name alias.0) ∙ e) in
          let was : old alias.0 ≡ false = ap old (sym name_is) ∙ absent in
          rw (added alias.0, e, was) (fewer_here _ _ (unused_no_more aliases old new name added))
      | false ↦ λ e h. rw (added alias.0, e) (fewer_later (old alias.0) _ _ (unused_fewer_at aliases old new name body added absent h))
    ] refl is

-- an alias that did not pass the test is one less after it does
pub unused_fewer : (aliases : Bodies) (old new : List ℕ → Bool) (name : List ℕ) (body : List (List ℕ)) → Widens old new name → body_of aliases (old name) name ≡ Some body → unused aliases new < unused aliases old
unused_fewer aliases old new name body added is =
    elim (old name) as (λ b. old name ≡ b → body_of aliases b name ≡ Some body → unused aliases new < unused aliases old) [
      | true ↦ λ e h. cc
      | false ↦ λ e h. unused_fewer_at aliases old new name body added e h
    ] refl is

no_words : (words : List (List ℕ)) → length words ≡ 0 → words ≡ []
no_words [] none = refl
no_words (word ∷ words) none = absurd (omega arith)

-- no word is left
pub none_left-right : (aliases : Bodies) (start used old new : List (List ℕ)) → length old ≡ 0 → length new ≡ 0 → Leads aliases start used old → Unfolds aliases [] (reverse start) (reverse new)
none_left-right aliases start used old new was is before =
    let none : replaced aliases used (reverse old) ≡ None = ap (λ (ws : List (List ℕ)). replaced aliases used (reverse ws)) (no_words old was) in
    subst (λ (ws : List (List ℕ)). Unfolds aliases [] (reverse start) (reverse ws)) (no_words old was ∙ sym (no_words new is)) (leads-right aliases start used old none before)

pub none_left-only : (aliases : Bodies) (start used old new : List (List ℕ)) → length old ≡ 0 → length new ≡ 0 → Leads aliases start used old → (other : List (List ℕ)) → Unfolds aliases [] (reverse start) other → other ≡ reverse new
none_left-only aliases start used old new was is before other h =
    let none : replaced aliases used (reverse old) ≡ None = ap (λ (ws : List (List ℕ)). replaced aliases used (reverse ws)) (no_words old was) in
    leads-only aliases start used old none before other h ∙ ap reverse (no_words old was ∙ sym (no_words new is))
