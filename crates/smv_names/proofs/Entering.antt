-- Names that are entered one after the other: the first of a name counts.
use Rattle.std.proofs.Common.{◌≡◌, ℕ, ◌+◌, ◌<◌, ◌≤◌, Bool, true, false, cond, List, [], ◌∷◌, ◌++◌, length, map, fold, take, get_or, refl, ap, sym, ◌∙◌, append_assoc, arith}
use Rattle.std.specs.Prelude.{Option, Some, None, is_some, if◌then◌else◌}
use Rattle.std.specs.Option.{option_or}
use Rattle.std.specs.Map.{lookup}
use Rattle.std.specs.Str.{bytes_eq}
use Rattle.std.proofs.lemmas.List.{append-nil, map-append, take_more, length-map, length-take-le}
use Rattle.std.proofs.lemmas.Grind.{fold-append}
use Rattle.std.proofs.lemmas.Slice.Eq.{bytes_eq-Decides}
use Rattle.smv_graph.proofs.Numbering.{lookup-append, option_or-none}
use Rattle.smv_tree.specs.Models.{Part, variable, define, assign, constraint, property}
use Rattle.smv_names.specs.declared.declared.Declared.{Declared}
use Rattle.smv_names.specs.Entries.{put}
use Rattle.smv_names.specs.Tables.{AreSame, defines_of, part_entry, part_entries}

abbrev Entries : Type 0
Entries = List (List ℕ × Declared)

-- one more name, by what is written of it
pub put_one : (es : Entries) (e : List ℕ × Declared) (m : List ℕ) → lookup (bytes_eq m) (put es e) ≡ lookup (bytes_eq m) (es ++ e ∷ [])
put_one es e m = by_there (lookup (bytes_eq e.0) es) refl ∙ sym (lookup-append (bytes_eq m) es (e ∷ []))
  where
    own : Option Declared
    own = lookup (bytes_eq m) (e ∷ [])

    kept : (d : Declared) → lookup (bytes_eq e.0) es ≡ Some d → (b : Bool) → bytes_eq m e.0 ≡ b → lookup (bytes_eq m) es ≡ option_or (lookup (bytes_eq m) es) (cond b (Some e.1) None)
    kept d there true h = let is : m ≡ e.0 = (bytes_eq-Decides m e.0).0 h in rw (ap (λ k. lookup (bytes_eq k) es) is ∙ there) refl
    kept d there false h = sym (option_or-none (lookup (bytes_eq m) es))

    by_there : (o : Option Declared) → lookup (bytes_eq e.0) es ≡ o → lookup (bytes_eq m) (if is_some o then es else es ++ e ∷ []) ≡ option_or (lookup (bytes_eq m) es) own
    by_there None h = lookup-append (bytes_eq m) es (e ∷ [])
    by_there (Some d) h = kept d h (bytes_eq m e.0) refl

-- what is the same of each name stays so with more behind it
same_behind : (xs ys zs : Entries) → AreSame xs ys → AreSame (xs ++ zs) (ys ++ zs)
same_behind xs ys zs h m =
    lookup-append (bytes_eq m) xs zs ∙ (ap (λ o. option_or o (lookup (bytes_eq m) zs)) (h m) ∙ sym (lookup-append (bytes_eq m) ys zs))

pub all_put : (es before : Entries) → AreSame (fold put before es) (before ++ es)
all_put [] before m = ap (lookup (bytes_eq m)) (sym (append-nil before))
all_put (e ∷ es) before m =
    all_put es (put before e) m
    ∙ (same_behind (put before e) (before ++ e ∷ []) es (put_one before e) m
    ∙ ap (lookup (bytes_eq m)) (append_assoc before (e ∷ []) es))

-- how many defines are among some items
abbrev pub defines_in : List Part → ℕ
defines_in [] = 0
defines_in (part ∷ parts) = defines_of part + defines_in parts

pub defines_push : (parts : List Part) (part : Part) → defines_in (parts ++ part ∷ []) ≡ defines_in parts + defines_of part
defines_push [] part = omega arith
defines_push (p ∷ parts) part = omega (arith, defines_push parts part)

one_define : (part : Part) → defines_of part ≤ 1
one_define (define n p e) = omega arith
one_define (variable k n p t) = omega arith
one_define (assign m n p e) = omega arith
one_define (constraint s p e) = omega arith
one_define (property n p f) = omega arith

pub few_defines : (parts : List Part) → defines_in parts ≤ length parts
few_defines [] = omega arith
few_defines (p ∷ parts) = omega (arith, one_define p, few_defines parts)

parts_push : (k r : ℕ) (parts : List Part) (part : Part) → part_entries k r (parts ++ part ∷ []) ≡ part_entries k r parts ++ part_entry (k + length parts) (r + defines_in parts) part
parts_push k r [] part =
    append-nil (part_entry k r part) ∙ (ap (λ j. part_entry j r part) (omega arith) ∙ ap (λ j. part_entry (k + 0) j part) (omega arith))
parts_push k r (p ∷ parts) part =
    ap (λ es. part_entry k r p ++ es)
    (parts_push (k + 1) (r + defines_of p) parts part
    ∙ (ap (λ j. part_entries (k + 1) (r + defines_of p) parts ++ part_entry j (r + defines_of p + defines_in parts) part) (omega arith)
    ∙ ap (λ j. part_entries (k + 1) (r + defines_of p) parts ++ part_entry (k + length (p ∷ parts)) j part) (omega arith)))
    ∙ sym (append_assoc (part_entry k r p) (part_entries (k + 1) (r + defines_of p) parts) (part_entry (k + length (p ∷ parts)) (r + defines_in (p ∷ parts)) part))

module _ {X : Type 0} where
  -- one more element of a list of which a number was looked at
  pub one_on : {Y : Type 0} (g : X → Y) (xs : List X) (i : ℕ) (x : X) → i < length xs → x ≡ get_or xs i x → map g (take (i + 1) xs) ≡ map g (take i xs) ++ g x ∷ []
  one_on g xs i x l at =
      ap (map g) (take_more xs i x l ∙ ap (λ y. take i xs ++ y ∷ []) (sym at)) ∙ map-append g (take i xs) (x ∷ [])

  pub so_many : {Y : Type 0} (g : X → Y) (xs : List X) (i : ℕ) → i < length xs → length (map g (take i xs)) ≡ i
  so_many g xs i l = length-map (take i xs) g ∙ length-take-le i xs (omega arith)

  pub part_on : (g : X → Part) (xs : List X) (i d : ℕ) (x : X) (table now new : Entries) → i < length xs → x ≡ get_or xs i x → d ≡ defines_in (map g (take i xs))
      → now ≡ fold put table (part_entries 0 0 (map g (take i xs))) → new ≡ fold put now (part_entry i d (g x)) → new ≡ fold put table (part_entries 0 0 (map g (take (i + 1) xs)))
  part_on g xs i d x table now new l at many so e =
      let front = map g (take i xs) in
      let size : 0 + length front ≡ i = omega (arith, so_many g xs i l) in
      let rank : 0 + defines_in front ≡ d = omega (arith, many) in
      e ∙ (ap (λ es. fold put es (part_entry i d (g x))) so
      ∙ (sym (fold-append put table (part_entries 0 0 front) (part_entry i d (g x)))
      ∙ ap (fold put table) (sym (ap (part_entries 0 0) (one_on g xs i x l at) ∙ (parts_push 0 0 front (g x)
      ∙ (ap (λ j. part_entries 0 0 front ++ part_entry j (0 + defines_in front) (g x)) size
      ∙ ap (λ j. part_entries 0 0 front ++ part_entry i j (g x)) rank))))))

  pub defines_on : (g : X → Part) (xs : List X) (i d : ℕ) (x : X) → i < length xs → x ≡ get_or xs i x → d ≡ defines_in (map g (take i xs)) → d + defines_of (g x) ≡ defines_in (map g (take (i + 1) xs))
  defines_on g xs i d x l at many =
      ap (λ j. j + defines_of (g x)) many ∙ (sym (defines_push (map g (take i xs)) (g x)) ∙ ap defines_in (sym (one_on g xs i x l at)))

  pub defines_fit : (g : X → Part) (xs : List X) (i d : ℕ) (x : X) → i < length xs → d ≡ defines_in (map g (take i xs)) → d + defines_of (g x) ≤ length xs
  defines_fit g xs i d x l many =
      let few : defines_in (map g (take i xs)) ≤ length (map g (take i xs)) = few_defines (map g (take i xs)) in
      let size : length (map g (take i xs)) ≡ i = so_many g xs i l in
      let own : defines_of (g x) ≤ 1 = one_define (g x) in
      omega (arith, few, size, own, many, l)
