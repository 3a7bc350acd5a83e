-- The words of a command are read one after another.
use Rattle.std.proofs.Common.{◌≡◌, ◌↔◌, ℕ, ◌+◌, ◌<◌, ◌≤◌, Bool, true, false, true≢false, List, [], ◌∷◌, length, get_or, drop, refl, ap, sym, ◌∙◌, subst, inl, inr, arith}
use Rattle.std.specs.Prelude.{◌⊎◌, ◌&&◌, not, nat_lt, is_none, Option, Some, None, Result, Ok, Err, alloc_error, if◌then◌else◌}
use Rattle.std.proofs.lemmas.List.{drop-drop, at_drop_more, at_drop_all}
use Rattle.cmd_table.specs.declared.fault.OptFault.{OptFault}
use Rattle.cmd_table.specs.declared.fault.OptFault.TheVariants.{Unknown, NoArgument, Repeated, Many, NoMemory}
use Rattle.cmd_table.specs.declared.fault.OptFault.TheVariants as faults
use Rattle.cmd_table.specs.declared.given.Given.{Given}
use Rattle.cmd_table.specs.declared.table.Opt.{Opt}
use Rattle.cmd_table.specs.declared.table.Takes.{Takes}
use Rattle.cmd_table.specs.declared.table.Takes.TheVariants.{Nothing, Word}
use Rattle.cmd_table.specs.declared.table.Takes.TheVariants as takes
use Rattle.cmd_table.specs.Answers.{Answers}
use Rattle.cmd_table.specs.Options.{Reads, ends, takes_none, takes_one, stands_free, unknown, repeated, no_argument, no_number, too_many, nothing, is_closed, is_given, is_free, is_unknown, option_of, place_of, takes_at, takes_word, fits, begins_with_dash, with_option, with_free}
use Rattle.cmd_table.specs.Steps.{Next, over, wrong, goes, next, next_open, next_option, next_free, with_argument, with_word}

-- what the words end with, by what the next of them mean
abbrev pub After : List Opt → ℕ → Bool → Given → Next → Result Given OptFault → Type 0
After opts most raw given over end = end ≡ Ok given
After opts most raw given (wrong fault) end = end ≡ Err fault
After opts most raw given (goes more left) end = Reads opts most raw more left end

-- what the next word means, by the tests that say what it is
next-option : (opts : List Opt) (most : ℕ) (raw : Bool) (given : Given) (word : List ℕ) (words : List (List ℕ)) (place : ℕ) → option_of opts raw given word ≡ Some place → next opts most raw given (word ∷ words) ≡ next_option opts given place word words
next-option opts most raw given word words place is =
    elim (is_closed raw given) as (λ b. (if b then None else place_of opts word) ≡ Some place → (if b then next_free most given word words else next_open opts most given word words (place_of opts word)) ≡ next_option opts given place word words) [
      | true ↦ λ h. cc
      | false ↦ λ h. ap (next_open opts most given word words) h
    ] is

next-argument : (opts : List Opt) (most : ℕ) (raw : Bool) (given : Given) (word : List ℕ) (words : List (List ℕ)) (place : ℕ) → option_of opts raw given word ≡ Some place → is_given given place ≡ false → next opts most raw given (word ∷ words) ≡ with_argument given place word words (takes_at opts place)
next-argument opts most raw given word words place is new =
    next-option opts most raw given word words place is ∙ ap (λ (b : Bool). if b then wrong (Repeated word) else with_argument given place word words (takes_at opts place)) new

next-repeated : (opts : List Opt) (most : ℕ) (raw : Bool) (given : Given) (word : List ℕ) (words : List (List ℕ)) (place : ℕ) → option_of opts raw given word ≡ Some place → is_given given place ≡ true → next opts most raw given (word ∷ words) ≡ wrong (Repeated word)
next-repeated opts most raw given word words place is old =
    next-option opts most raw given word words place is ∙ ap (λ (b : Bool). if b then wrong (Repeated word) else with_argument given place word words (takes_at opts place)) old

argument-none : (given : Given) (place : ℕ) (word : List ℕ) (words : List (List ℕ)) (taken : Takes) → takes_word taken ≡ false → with_argument given place word words taken ≡ goes (with_option given place []) words
argument-none given place word words Nothing is = refl
argument-none given place word words Word is = absurd (true≢false is)
argument-none given place word words (takes.Number least most) is = absurd (true≢false is)

argument-one : (given : Given) (place : ℕ) (word : List ℕ) (words : List (List ℕ)) (taken : Takes) → takes_word taken ≡ true → with_argument given place word words taken ≡ with_word given place word words taken
argument-one given place word words Nothing is = absurd (true≢false (sym is))
argument-one given place word words Word is = refl
argument-one given place word words (takes.Number least most) is = refl

word-fits : (given : Given) (place : ℕ) (word text : List ℕ) (words : List (List ℕ)) (taken : Takes) (b : Bool) → fits taken text ≡ b → with_word given place word (text ∷ words) taken ≡ (if b then goes (with_option given place text) words else wrong (faults.Number text))
word-fits given place word text words taken b is =
    ap (λ (b : Bool). if b then goes (with_option given place text) words else wrong (faults.Number text)) is

next-free : (opts : List Opt) (most : ℕ) (raw : Bool) (given : Given) (word : List ℕ) (words : List (List ℕ)) → is_free opts raw given word ≡ true → next opts most raw given (word ∷ words) ≡ next_free most given word words
next-free opts most raw given word words is =
    elim (is_closed raw given) as (λ b. is_none (if b then None else place_of opts word) && not (not b && (is_none (place_of opts word) && begins_with_dash word)) ≡ true → (if b then next_free most given word words else next_open opts most given word words (place_of opts word)) ≡ next_free most given word words) [
      | true ↦ λ h. refl
      | false ↦ λ h.
          elim (place_of opts word) as (λ p. is_none p && not (is_none p && begins_with_dash word) ≡ true → next_open opts most given word words p ≡ next_free most given word words) [
            | None ↦ λ k.
                elim (begins_with_dash word) as (λ d. not d ≡ true → (if d then wrong (Unknown word) else next_free most given word words) ≡ next_free most given word words) [
                  | true ↦ λ l. absurd (true≢false (sym l))
                  | false ↦ λ l. refl
                ] k
            | Some place ↦ λ k. absurd (true≢false (sym k))
          ] h
    ] is

next-unknown : (opts : List Opt) (most : ℕ) (raw : Bool) (given : Given) (word : List ℕ) (words : List (List ℕ)) → is_unknown opts raw given word ≡ true → next opts most raw given (word ∷ words) ≡ wrong (Unknown word)
next-unknown opts most raw given word words is =
    elim (is_closed raw given) as (λ b. not b && (is_none (place_of opts word) && begins_with_dash word) ≡ true → (if b then next_free most given word words else next_open opts most given word words (place_of opts word)) ≡ wrong (Unknown word)) [
      | true ↦ λ h. absurd (true≢false (sym h))
      | false ↦ λ h.
          elim (place_of opts word) as (λ p. is_none p && begins_with_dash word ≡ true → next_open opts most given word words p ≡ wrong (Unknown word)) [
            | None ↦ λ k. ap (λ (d : Bool). if d then wrong (Unknown word) else next_free most given word words) k
            | Some place ↦ λ k. absurd (true≢false (sym k))
          ] h
    ] is

free-next : (most : ℕ) (given : Given) (word : List ℕ) (words : List (List ℕ)) (b : Bool) → nat_lt (length given.rest) most ≡ b → next_free most given word words ≡ (if b then goes (with_free given word) words else wrong (Many word))
free-next most given word words b is =
    ap (λ (b : Bool). if b then goes (with_free given word) words else wrong (Many word)) is

-- reading goes on by what the next words mean
reads-after : {opts : List Opt} {most : ℕ} {raw : Bool} {given : Given} {words : List (List ℕ)} {end : Result Given OptFault} → Reads opts most raw given words end → After opts most raw given (next opts most raw given words) end
reads-after (ends given) = refl
reads-after {opts = opts} {most = most} {raw = raw} (takes_none given word words place end is new none on) =
    subst (λ (n : Next). After opts most raw given n end) (sym (next-argument opts most raw given word words place is new ∙ argument-none given place word words (takes_at opts place) none)) on
reads-after {opts = opts} {most = most} {raw = raw} (takes_one given word text words place end is new one fit on) =
    subst (λ (n : Next). After opts most raw given n end) (sym (next-argument opts most raw given word (text ∷ words) place is new ∙ argument-one given place word (text ∷ words) (takes_at opts place) one ∙ word-fits given place word text words (takes_at opts place) true fit)) on
reads-after {opts = opts} {most = most} {raw = raw} (stands_free given word words end is room on) =
    subst (λ (n : Next). After opts most raw given n end) (sym (next-free opts most raw given word words is ∙ free-next most given word words true room)) on
reads-after {opts = opts} {most = most} {raw = raw} (unknown given word words is) =
    subst (λ (n : Next). After opts most raw given n (Err (Unknown word))) (sym (next-unknown opts most raw given word words is)) refl
reads-after {opts = opts} {most = most} {raw = raw} (repeated given word words place is old) =
    subst (λ (n : Next). After opts most raw given n (Err (Repeated word))) (sym (next-repeated opts most raw given word words place is old)) refl
reads-after {opts = opts} {most = most} {raw = raw} (no_argument given word place is new one) =
    subst (λ (n : Next). After opts most raw given n (Err (NoArgument word))) (sym (next-argument opts most raw given word [] place is new ∙ argument-one given place word [] (takes_at opts place) one)) refl
reads-after {opts = opts} {most = most} {raw = raw} (no_number given word text words place is new one misfit) =
    subst (λ (n : Next). After opts most raw given n (Err (faults.Number text))) (sym (next-argument opts most raw given word (text ∷ words) place is new ∙ argument-one given place word (text ∷ words) (takes_at opts place) one ∙ word-fits given place word text words (takes_at opts place) false misfit)) refl
reads-after {opts = opts} {most = most} {raw = raw} (too_many given word words is full) =
    subst (λ (n : Next). After opts most raw given n (Err (Many word))) (sym (next-free opts most raw given word words is ∙ free-next most given word words false full)) refl

-- and the other way round, by what the next word is
free-reads : (opts : List Opt) (most : ℕ) (raw : Bool) (given : Given) (word : List ℕ) (words : List (List ℕ)) (end : Result Given OptFault) → is_free opts raw given word ≡ true → After opts most raw given (next_free most given word words) end → Reads opts most raw given (word ∷ words) end
free-reads opts most raw given word words end is after =
    elim (nat_lt (length given.rest) most) as (λ b. nat_lt (length given.rest) most ≡ b → After opts most raw given (if b then goes (with_free given word) words else wrong (Many word)) end → Reads opts most raw given (word ∷ words) end) [
      | true ↦ λ e h. stands_free given word words end is e h
      | false ↦ λ e h. subst (λ (r : Result Given OptFault). Reads opts most raw given (word ∷ words) r) (sym h) (too_many given word words is e)
    ] refl after

word-reads : (opts : List Opt) (most : ℕ) (raw : Bool) (given : Given) (word : List ℕ) (words : List (List ℕ)) (place : ℕ) (end : Result Given OptFault) → option_of opts raw given word ≡ Some place → is_given given place ≡ false → takes_word (takes_at opts place) ≡ true → After opts most raw given (with_word given place word words (takes_at opts place)) end → Reads opts most raw given (word ∷ words) end
word-reads opts most raw given word [] place end is new one after =
    subst (λ (r : Result Given OptFault). Reads opts most raw given (word ∷ []) r) (sym after) (no_argument given word place is new one)
word-reads opts most raw given word (text ∷ words) place end is new one after =
    elim (fits (takes_at opts place) text) as (λ b. fits (takes_at opts place) text ≡ b → After opts most raw given (if b then goes (with_option given place text) words else wrong (faults.Number text)) end → Reads opts most raw given (word ∷ text ∷ words) end) [
      | true ↦ λ e h. takes_one given word text words place end is new one e h
      | false ↦ λ e h. subst (λ (r : Result Given OptFault). Reads opts most raw given (word ∷ text ∷ words) r) (sym h) (no_number given word text words place is new one e)
    ] refl after

argument-reads : (opts : List Opt) (most : ℕ) (raw : Bool) (given : Given) (word : List ℕ) (words : List (List ℕ)) (place : ℕ) (end : Result Given OptFault) → option_of opts raw given word ≡ Some place → is_given given place ≡ false → After opts most raw given (with_argument given place word words (takes_at opts place)) end → Reads opts most raw given (word ∷ words) end
argument-reads opts most raw given word words place end is new after =
    elim (takes_word (takes_at opts place)) as (λ b. takes_word (takes_at opts place) ≡ b → Reads opts most raw given (word ∷ words) end) [
      | true ↦ λ e. word-reads opts most raw given word words place end is new e (subst (λ (n : Next). After opts most raw given n end) (argument-one given place word words (takes_at opts place) e) after)
      | false ↦ λ e. takes_none given word words place end is new e (subst (λ (n : Next). After opts most raw given n end) (argument-none given place word words (takes_at opts place) e) after)
    ] refl

option-reads : (opts : List Opt) (most : ℕ) (raw : Bool) (given : Given) (word : List ℕ) (words : List (List ℕ)) (place : ℕ) (end : Result Given OptFault) → option_of opts raw given word ≡ Some place → After opts most raw given (next_option opts given place word words) end → Reads opts most raw given (word ∷ words) end
option-reads opts most raw given word words place end is after =
    elim (is_given given place) as (λ b. is_given given place ≡ b → After opts most raw given (if b then wrong (Repeated word) else with_argument given place word words (takes_at opts place)) end → Reads opts most raw given (word ∷ words) end) [
      | true ↦ λ e h. subst (λ (r : Result Given OptFault). Reads opts most raw given (word ∷ words) r) (sym h) (repeated given word words place is e)
      | false ↦ λ e h. argument-reads opts most raw given word words place end is e h
    ] refl after

-- a word that gives no option
other-reads : (opts : List Opt) (most : ℕ) (raw : Bool) (given : Given) (word : List ℕ) (words : List (List ℕ)) (end : Result Given OptFault) → option_of opts raw given word ≡ None → After opts most raw given (if is_unknown opts raw given word then wrong (Unknown word) else next_free most given word words) end → Reads opts most raw given (word ∷ words) end
other-reads opts most raw given word words end is after =
    elim (is_unknown opts raw given word) as (λ b. is_unknown opts raw given word ≡ b → After opts most raw given (if b then wrong (Unknown word) else next_free most given word words) end → Reads opts most raw given (word ∷ words) end) [
      | true ↦ λ e h. subst (λ (r : Result Given OptFault). Reads opts most raw given (word ∷ words) r) (sym h) (unknown given word words e)
      | false ↦ λ e h. free-reads opts most raw given word words end (ap (λ (p : Option ℕ). is_none p && not (is_unknown opts raw given word)) is ∙ ap not e) h
    ] refl after

-- the next word means this, whether it gives an option or not
next-is : (opts : List Opt) (most : ℕ) (raw : Bool) (given : Given) (word : List ℕ) (words : List (List ℕ)) → option_of opts raw given word ≡ None → next opts most raw given (word ∷ words) ≡ (if is_unknown opts raw given word then wrong (Unknown word) else next_free most given word words)
next-is opts most raw given word words is =
    elim (is_closed raw given) as (λ b. (if b then None else place_of opts word) ≡ None → (if b then next_free most given word words else next_open opts most given word words (place_of opts word)) ≡ (if not b && (is_none (place_of opts word) && begins_with_dash word) then wrong (Unknown word) else next_free most given word words)) [
      | true ↦ λ h. refl
      | false ↦ λ h. rw h refl
    ] is

after-reads : (opts : List Opt) (most : ℕ) (raw : Bool) (given : Given) (words : List (List ℕ)) (end : Result Given OptFault) → After opts most raw given (next opts most raw given words) end → Reads opts most raw given words end
after-reads opts most raw given [] end after = subst (λ (r : Result Given OptFault). Reads opts most raw given [] r) (sym after) (ends given)
after-reads opts most raw given (word ∷ words) end after =
    elim (option_of opts raw given word) as (λ p. option_of opts raw given word ≡ p → Reads opts most raw given (word ∷ words) end) [
      | None ↦ λ e. other-reads opts most raw given word words end e (subst (λ (n : Next). After opts most raw given n end) (next-is opts most raw given word words e) after)
      | Some place ↦ λ e. option-reads opts most raw given word words place end e (subst (λ (n : Next). After opts most raw given n end) (next-option opts most raw given word words place e) after)
    ] refl

reads-next : (opts : List Opt) (most : ℕ) (raw : Bool) (given : Given) (words : List (List ℕ)) (means : Next) → next opts most raw given words ≡ means → (end : Result Given OptFault) → Reads opts most raw given words end ↔ After opts most raw given means end
reads-next opts most raw given words means is end = (
  λ h. subst (λ (n : Next). After opts most raw given n end) is (reads-after h),
  λ h. after-reads opts most raw given words end (subst (λ (n : Next). After opts most raw given n end) (sym is) h),
)

-- reading the words that are left ends as reading all words does
abbrev pub Leads : List Opt → ℕ → Bool → List (List ℕ) → Given → List (List ℕ) → Type 0
Leads opts most raw words given left =
    (end : Result Given OptFault) → Reads opts most raw given left end ↔ Reads opts most raw (nothing (length opts)) words end

pub leads-none : (opts : List Opt) (most : ℕ) (raw : Bool) (words : List (List ℕ)) (given : Given) → given ≡ nothing (length opts) → Leads opts most raw words given words
leads-none opts most raw words given is end = (
  λ h. subst (λ (g : Given). Reads opts most raw g words end) is h,
  λ h. subst (λ (g : Given). Reads opts most raw g words end) (sym is) h,
)

word_before : (words : List (List ℕ)) (at : ℕ) (word : List ℕ) → at < length words → word ≡ get_or words at word → drop at words ≡ word ∷ drop (at + 1) words
word_before words at word within is =
    at_drop_more (λ (ws : List (List ℕ)). ws) words at word within ∙ ap (λ (w : List ℕ). w ∷ drop (at + 1) words) (sym is)

-- one more word is read, with what it takes
pub leads-more : (opts : List Opt) (most : ℕ) (raw : Bool) (words rest : List (List ℕ)) (at taken : ℕ) (word : List ℕ) (old new : Given) → at < length words → word ≡ get_or words at word → rest ≡ drop (at + 1) words → next opts most raw old (word ∷ rest) ≡ goes new (drop taken rest) → Leads opts most raw words old (drop at words) → Leads opts most raw words new (drop (at + (1 + taken)) words)
leads-more opts most raw words rest at taken word old new within is rest_is first before end =
    let here : word ∷ rest ≡ drop at words = ap (λ (ws : List (List ℕ)). word ∷ ws) rest_is ∙ sym (word_before words at word within is) in
    let there : drop taken rest ≡ drop (at + (1 + taken)) words = ap (λ (ws : List (List ℕ)). drop taken ws) rest_is ∙ drop-drop taken (at + 1) words ∙ ap (λ n. drop n words) (omega arith) in
    let first_here : next opts most raw old (drop at words) ≡ goes new (drop (at + (1 + taken)) words) = ap (next opts most raw old) (sym here) ∙ first ∙ ap (goes new) there in
    let on = reads-next opts most raw old (drop at words) (goes new (drop (at + (1 + taken)) words)) first_here end in (
      λ h. (before end).0 (on.1 h),
      λ h. on.0 ((before end).1 h),
    )

-- a word is wrong, or memory was refused
pub wrong-right : (opts : List Opt) (most : ℕ) (raw : Bool) (words rest : List (List ℕ)) (at : ℕ) (word : List ℕ) (given : Given) (fault : OptFault) (result : Result Given OptFault) → at < length words → word ≡ get_or words at word → rest ≡ drop (at + 1) words → result ≡ Err fault → (next opts most raw given (word ∷ rest) ≡ wrong fault) ⊎ (fault ≡ NoMemory alloc_error) → Leads opts most raw words given (drop at words) → Reads opts most raw (nothing (length opts)) words result ⊎ (result ≡ Err (NoMemory alloc_error))
wrong-right opts most raw words rest at word given fault result within is rest_is e (inl first) before =
    let here : word ∷ rest ≡ drop at words = ap (λ (ws : List (List ℕ)). word ∷ ws) rest_is ∙ sym (word_before words at word within is) in
    inl ((before result).0 ((reads-next opts most raw given (drop at words) (wrong fault) (ap (next opts most raw given) (sym here) ∙ first) result).1 e))
wrong-right opts most raw words rest at word given fault result within is rest_is e (inr memory) before = inr (e ∙ ap Err memory)

pub wrong-only : (opts : List Opt) (most : ℕ) (raw : Bool) (words rest : List (List ℕ)) (at : ℕ) (word : List ℕ) (given : Given) (fault : OptFault) (result : Result Given OptFault) → at < length words → word ≡ get_or words at word → rest ≡ drop (at + 1) words → result ≡ Err fault → (next opts most raw given (word ∷ rest) ≡ wrong fault) ⊎ (fault ≡ NoMemory alloc_error) → Leads opts most raw words given (drop at words) → (end : Result Given OptFault) → Reads opts most raw (nothing (length opts)) words end → Answers end result
wrong-only opts most raw words rest at word given fault result within is rest_is e (inl first) before end h =
    let here : word ∷ rest ≡ drop at words = ap (λ (ws : List (List ℕ)). word ∷ ws) rest_is ∙ sym (word_before words at word within is) in
    inl (e ∙ sym ((reads-next opts most raw given (drop at words) (wrong fault) (ap (next opts most raw given) (sym here) ∙ first) end).0 ((before end).1 h)))
wrong-only opts most raw words rest at word given fault result within is rest_is e (inr memory) before end h = inr (e ∙ ap Err memory)

over_at : (opts : List Opt) (most : ℕ) (raw : Bool) (words : List (List ℕ)) (at : ℕ) (given : Given) → length words ≤ at → next opts most raw given (drop at words) ≡ over
over_at opts most raw words at given past = at_drop_all (next opts most raw given) words at past

-- all words are read
pub over-right : (opts : List Opt) (most : ℕ) (raw : Bool) (words : List (List ℕ)) (at : ℕ) (given : Given) → length words ≤ at → Leads opts most raw words given (drop at words) → Reads opts most raw (nothing (length opts)) words (Ok given)
over-right opts most raw words at given past before =
    (before (Ok given)).0 ((reads-next opts most raw given (drop at words) over (over_at opts most raw words at given past) (Ok given)).1 refl)

pub over-only : (opts : List Opt) (most : ℕ) (raw : Bool) (words : List (List ℕ)) (at : ℕ) (given : Given) → length words ≤ at → Leads opts most raw words given (drop at words) → (end : Result Given OptFault) → Reads opts most raw (nothing (length opts)) words end → Answers end (Ok given)
over-only opts most raw words at given past before end h =
    inl (sym ((reads-next opts most raw given (drop at words) over (over_at opts most raw words at given past) end).0 ((before end).1 h)))
