-- The known variables stay settled.
use Rattle.std.proofs.Common.{◌≡◌, ℕ, Bool, true, false, true≢false, List, refl, ap, sym, ◌∙◌, subst}
use Rattle.std.specs.Prelude.{Some, None, IsSome, cond, not}
use Rattle.std.specs.Option.{option_map_or}
use Rattle.std.specs.Ordering.{nat_cmp}
use Rattle.std.specs.Cmp.Lexicographic.{slice_cmp}
use Rattle.std.specs.BTreeMap.{is_at}
use Rattle.std.proofs.lemmas.Map.Text.{is_eq-slice_cmp}
use Rattle.std.proofs.lemmas.Slice.Eq.{bytes_eq-Decides}
use Rattle.shell_lang.specs.declared.known.Known.{Known}
use Rattle.shell_lang.specs.declared.known.Known.TheVariants.{Length, Loopback, Steps, Plugin, Shown, Budget, Quits, Input}
use Rattle.shell_lang.specs.Keyed.{at_name}
use Rattle.shell_lang.specs.Known.{default_of, defaults, is_illegal, known_of, takes}
use Rattle.shell_lang.specs.Settings.{AreSettled, Changes, name_of}

-- a known variable is found under its name
known_by_name : (known : Known) → known_of (name_of known) ≡ Some known
known_by_name Length = refl
known_by_name Loopback = refl
known_by_name Steps = refl
known_by_name Plugin = refl
known_by_name Shown = refl
known_by_name Budget = refl
known_by_name Quits = refl
known_by_name Input = refl

-- a name at which another stands is the same
same_name : (name other : List ℕ) → is_at (slice_cmp nat_cmp name) other ≡ true → name ≡ other
same_name name other at = (bytes_eq-Decides name other).0 (sym (is_eq-slice_cmp name other) ∙ at)

-- the defaults are settled
default_held : (known : Known) → IsSome (default_of known) → IsSome (at_name defaults (name_of known))
default_held Length has = refl
default_held Loopback has = refl
default_held Steps has = refl
default_held Plugin has = refl
default_held Shown has = refl
default_held Quits has = refl
default_held Budget has = absurd (true≢false (sym has))
default_held Input has = absurd (true≢false (sym has))

default_taken : (known : Known) (value : List ℕ) → at_name defaults (name_of known) ≡ Some value → takes known value ≡ true
default_taken Length value e = subst (λ v. option_map_or (takes Length) v true ≡ true) e refl
default_taken Loopback value e = subst (λ v. option_map_or (takes Loopback) v true ≡ true) e refl
default_taken Steps value e = subst (λ v. option_map_or (takes Steps) v true ≡ true) e refl
default_taken Plugin value e = subst (λ v. option_map_or (takes Plugin) v true ≡ true) e refl
default_taken Shown value e = subst (λ v. option_map_or (takes Shown) v true ≡ true) e refl
default_taken Budget value e = subst (λ v. option_map_or (takes Budget) v true ≡ true) e refl
default_taken Quits value e = subst (λ v. option_map_or (takes Quits) v true ≡ true) e refl
default_taken Input value e = refl

pub defaults-settled : AreSettled defaults
defaults-settled = record { held = default_held; taken = default_taken }

-- a default is no illegal value
pub default-legal : (known : Known) (name value : List ℕ) → known_of name ≡ Some known → default_of known ≡ Some value → is_illegal name value ≡ false
default-legal known name value is default = ap (λ k. option_map_or (λ known. not (takes known value)) k false) is ∙ legal known value default where
  legal : (known : Known) (value : List ℕ) → default_of known ≡ Some value → not (takes known value) ≡ false
  legal Length value e = subst (λ v. option_map_or (λ w. not (takes Length w)) v false ≡ false) e refl
  legal Loopback value e = subst (λ v. option_map_or (λ w. not (takes Loopback w)) v false ≡ false) e refl
  legal Steps value e = subst (λ v. option_map_or (λ w. not (takes Steps w)) v false ≡ false) e refl
  legal Plugin value e = subst (λ v. option_map_or (λ w. not (takes Plugin w)) v false ≡ false) e refl
  legal Shown value e = subst (λ v. option_map_or (λ w. not (takes Shown w)) v false ≡ false) e refl
  legal Budget value e = subst (λ v. option_map_or (λ w. not (takes Budget w)) v false ≡ false) e refl
  legal Quits value e = subst (λ v. option_map_or (λ w. not (takes Quits w)) v false ≡ false) e refl
  legal Input value e = subst (λ v. option_map_or (λ w. not (takes Input w)) v false ≡ false) e refl

takes_if : (b : Bool) → not b ≡ false → b ≡ true
takes_if true e = refl
takes_if false e = absurd (true≢false e)

-- a variable gets a value that is not illegal
pub set-settled : (old new : List (List ℕ × List ℕ)) (name value : List ℕ) → AreSettled old → Changes old new name (Some value) → is_illegal name value ≡ false → AreSettled new
set-settled old new name value settled changes legal = record { held = held; taken = taken } where
  held : (known : Known) → IsSome (default_of known) → IsSome (at_name new (name_of known))
  held known has = go (is_at (slice_cmp nat_cmp name) (name_of known)) (changes (name_of known)) where
    go : (b : Bool) → at_name new (name_of known) ≡ cond b (Some value) (at_name old (name_of known)) → IsSome (at_name new (name_of known))
    go true e = subst IsSome (sym e) refl
    go false e = subst IsSome (sym e) (settled.held known has)

  taken : (known : Known) (text : List ℕ) → at_name new (name_of known) ≡ Some text → takes known text ≡ true
  taken known text is = go (is_at (slice_cmp nat_cmp name) (name_of known)) refl (sym (changes (name_of known)) ∙ is) where
    go : (b : Bool) → is_at (slice_cmp nat_cmp name) (name_of known) ≡ b → cond b (Some value) (at_name old (name_of known)) ≡ Some text → takes known text ≡ true
    go false at e = settled.taken known text e
    go true at e =
        let same = same_name name (name_of known) at in
        let found : known_of name ≡ Some known = ap known_of same ∙ known_by_name known in
        let fits : takes known value ≡ true = takes_if (takes known value) (sym (ap (λ k. option_map_or (λ known. not (takes known value)) k false) found) ∙ legal) in
        let equal : value ≡ text = (cc) in
        sym (ap (takes known) equal) ∙ fits

-- a variable without a default loses its value
pub removed-settled : (old new : List (List ℕ × List ℕ)) (name : List ℕ) → AreSettled old → Changes old new name None → ((known : Known) → known_of name ≡ Some known → default_of known ≡ None) → AreSettled new
removed-settled old new name settled changes free = record { held = held; taken = taken } where
  held : (known : Known) → IsSome (default_of known) → IsSome (at_name new (name_of known))
  held known has = go (is_at (slice_cmp nat_cmp name) (name_of known)) refl (changes (name_of known)) where
    go : (b : Bool) → is_at (slice_cmp nat_cmp name) (name_of known) ≡ b → at_name new (name_of known) ≡ cond b None (at_name old (name_of known)) → IsSome (at_name new (name_of known))
    go false at e = subst IsSome (sym e) (settled.held known has)
    go true at e =
        absurd (true≢false (sym (subst IsSome (free known (ap known_of (same_name name (name_of known) at) ∙ known_by_name known)) has)))

  taken : (known : Known) (text : List ℕ) → at_name new (name_of known) ≡ Some text → takes known text ≡ true
  taken known text is = go (is_at (slice_cmp nat_cmp name) (name_of known)) (sym (changes (name_of known)) ∙ is) where
    go : (b : Bool) → cond b None (at_name old (name_of known)) ≡ Some text → takes known text ≡ true
    go false e = settled.taken known text e
    go true e = absurd (no e) where
      no : None ≡ Some text → ⊥
      no e = (cc)

-- a known variable without a default has none under its name, and neither has a name that is not known
pub free-known : (name : List ℕ) (known : Known) → known_of name ≡ Some known → default_of known ≡ None → (other : Known) → known_of name ≡ Some other → default_of other ≡ None
free-known name known is none other also = ap default_of same ∙ none where
  same : other ≡ known
  same = (cc)

pub free-unknown : (name : List ℕ) → known_of name ≡ None → (other : Known) → known_of name ≡ Some other → default_of other ≡ None
free-unknown name none other also = absurd no where
  no : ⊥
  no = (cc)
