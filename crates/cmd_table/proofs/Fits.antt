-- What is read fits: each option is given a word that it takes.
use Rattle.std.proofs.Common.{◌≡◌, ℕ, true, false, true≢false, Bool, List, [], ◌∷◌, length, zero, suc, refl, ap, sym, ◌∙◌, subst, inl, inr}
use Rattle.std.specs.Prelude.{◌⊎◌, Option, Some, None, Result, Ok, Err, IfOk, replicate, slice_set, alloc_error}
use Rattle.cmd_table.specs.declared.fault.OptFault.{OptFault}
use Rattle.cmd_table.specs.declared.fault.OptFault.TheVariants.{NoMemory}
use Rattle.cmd_table.specs.declared.given.Given.{Given}
use Rattle.cmd_table.specs.declared.table.Opt.{Opt}
use Rattle.cmd_table.specs.declared.table.Takes.{Takes}
use Rattle.cmd_table.specs.declared.table.Takes.TheVariants.{Nothing, Word}
use Rattle.cmd_table.specs.declared.table.Takes.TheVariants as takes
use Rattle.cmd_table.specs.Fitting.{AllFit}
use Rattle.cmd_table.specs.Options.{Reads, ends, takes_none, takes_one, stands_free, unknown, repeated, no_argument, no_number, too_many, nothing, fits, takes_at, takes_word, value_at}

-- a place holds what was put there, or what it held
value-set : (values : List (Option (List ℕ))) (i j : ℕ) (text : List ℕ) → ((j ≡ i) × (value_at (slice_set values i (Some text)) j ≡ Some text)) ⊎ (value_at (slice_set values i (Some text)) j ≡ value_at values j)
value-set [] i j text = inr refl
value-set (value ∷ values) zero zero text = inl (refl, refl)
value-set (value ∷ values) zero (suc j) text = inr refl
value-set (value ∷ values) (suc i) zero text = inr refl
value-set (value ∷ values) (suc i) (suc j) text = go (value-set values i j text) where
  go : ((j ≡ i) × (value_at (slice_set values i (Some text)) j ≡ Some text)) ⊎ (value_at (slice_set values i (Some text)) j ≡ value_at values j) → ((suc j ≡ suc i) × (value_at (slice_set values i (Some text)) j ≡ Some text)) ⊎ (value_at (slice_set values i (Some text)) j ≡ value_at values j)
  go (inl (same, held)) = inl (ap suc same, held)
  go (inr kept) = inr kept

some-injective : (a b : List ℕ) → Some a ≡ Some b → a ≡ b
some-injective a b e = cc

-- one more option is given a word that it takes
set-fits : (opts : List Opt) (values : List (Option (List ℕ))) (place : ℕ) (text : List ℕ) → fits (takes_at opts place) text ≡ true → AllFit opts values → AllFit opts (slice_set values place (Some text))
set-fits opts values place text takes fit other word held = go (value-set values place other text) where
  go : ((other ≡ place) × (value_at (slice_set values place (Some text)) other ≡ Some text)) ⊎ (value_at (slice_set values place (Some text)) other ≡ value_at values other) → fits (takes_at opts other) word ≡ true
  go (inl (same, put)) =
      ap (λ i. fits (takes_at opts i) word) same ∙ ap (fits (takes_at opts place)) (some-injective word text (sym held ∙ put)) ∙ takes
  go (inr kept) = fit other word (sym kept ∙ held)

-- an option that takes nothing takes any word as nothing
none-fits : (taken : Takes) (text : List ℕ) → takes_word taken ≡ false → fits taken text ≡ true
none-fits Nothing text is = refl
none-fits Word text is = refl
none-fits (takes.Number least most) text is = absurd (true≢false is)

-- nothing is given at first
value-none : (count place : ℕ) → value_at (replicate count None) place ≡ None
value-none zero place = refl
value-none (suc count) zero = refl
value-none (suc count) (suc place) = value-none count place

none-given : (opts : List Opt) (count : ℕ) → AllFit opts (replicate count None)
none-given opts count place text held = absurd (no (sym (value-none count place) ∙ held)) where
  no : None ≡ Some text → ⊥
  no e = (cc)

-- what is given after the words are read fits, if what was given before them does
reads-fit : {opts : List Opt} {most : ℕ} {raw : Bool} {old : Given} {words : List (List ℕ)} {end : Result Given OptFault} → Reads opts most raw old words end → AllFit opts old.values → IfOk end (λ given. AllFit opts given.values)
reads-fit (ends given) fit = fit
reads-fit {opts = opts} (takes_none given word words place end is new none on) fit =
    reads-fit on (set-fits opts given.values place [] (none-fits (takes_at opts place) [] none) fit)
reads-fit {opts = opts} (takes_one given word text words place end is new one takes on) fit =
    reads-fit on (set-fits opts given.values place text takes fit)
reads-fit (stands_free given word words end is room on) fit = reads-fit on fit
reads-fit (unknown given word words is) fit = _
reads-fit (repeated given word words place is old) fit = _
reads-fit (no_argument given word place is new one) fit = _
reads-fit (no_number given word text words place is new one wrong) fit = _
reads-fit (too_many given word words is full) fit = _

-- what was read from the first word on fits
pub read-fits : {opts list : List Opt} {most : ℕ} {raw : Bool} {words : List (List ℕ)} (given : Given) → list ≡ opts → (Reads list most raw (nothing (length list)) words (Ok given)) ⊎ (Ok given ≡ Err (NoMemory alloc_error)) → AllFit opts given.values
read-fits {list = list} given is (inl reads) = subst (λ opts. AllFit opts given.values) is (reads-fit reads (none-given list (length list)))
read-fits given is (inr e) = absurd (no e) where
  no : Ok given ≡ Err (NoMemory alloc_error) → ⊥
  no e = (cc)
