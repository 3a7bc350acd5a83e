-- Texts that are written one after another.
use Rattle.std.proofs.Common.{◌≡◌, ◌≤◌, ℕ, List, [], ◌∷◌, ◌++◌, ◌+◌, ◌<◌, ap, drop, get_or, length, refl, subst, sym, take, ◌∙◌, append_assoc}
use Rattle.std.specs.Prelude.{None, flat_map, Option, Result, Some, Ok, Err}
use Rattle.std.specs.Result.{IsErrAnd}
use Rattle.std.specs.Io.KnownBytes.{append_known}
use Rattle.std.proofs.lemmas.List.{append-nil, take-append-drop, take_all, take_more}
use Rattle.std.proofs.lemmas.Grind.{flat_map-append}
use Rattle.std.proofs.lemmas.Result.{err_from_is_err_and, on_err_weaker, on_ok_weaker}
use Rattle.outside.specs.declared.Failed.{Failed}
use Rattle.outside.specs.Calls.{Writes}
use Rattle.outside.specs.Told.{AddsFront, HasRisen, Output, one_more}
use Rattle.outside.proofs.ToldLemmas.{append_known-twice}

-- a text was added and then another
pub added_both : (old mid new : Option (List ℕ)) (a b : List ℕ) → mid ≡ append_known old a → new ≡ append_known mid b → new ≡ append_known old (a ++ b)
added_both old mid new a b e f = f ∙ ap (λ m. append_known m b) e ∙ append_known-twice old a b

-- a text was added and then a front of another
pub added_front : (old mid new : Option (List ℕ)) (a b : List ℕ) → mid ≡ append_known old a → AddsFront mid new b → AddsFront old new (a ++ b)
added_front old mid new a b e (front, rest, whole, w) =
    (a ++ front, rest, ap (λ xs. a ++ xs) whole ∙ sym (append_assoc a front rest), added_both old mid new a front e w)

-- a front of a text is one of a longer text
pub front_more : (old new : Option (List ℕ)) (a b : List ℕ) → AddsFront old new a → AddsFront old new (a ++ b)
front_more old new a b (front, rest, whole, w) =
    (front, rest ++ b, ap (λ xs. xs ++ b) whole ∙ append_assoc front rest b, w)

-- no text was added
pub nothing_added : (told : Option (List ℕ)) → told ≡ append_known told []
nothing_added None = refl
nothing_added (Some old) = ap Some (sym (append-nil old))

-- a fault behind calls that did not fail is the first
pub risen_later : (before mid after : ℕ) → mid ≡ before → HasRisen mid after → HasRisen before after
risen_later before mid after quiet risen = risen ∙ ap one_more quiet

-- all of the bytes were written, as loops that write say it of what they have done
abbrev pub HasWritten : List ℕ → Output → Output → Type 0
HasWritten bytes old new = Writes bytes old (Ok (tt {0})) new

-- nothing was written
pub writes_none : {X : Type 0} (x : X) (old : Output) → Writes [] old (Ok x) old
writes_none x old = record { ok = nothing_added old.written; err = _; quiet = refl; cause = _ }

-- two writes in sequence are one of the joined text
pub writes_then : {X Y : Type 0} {x : X} {r : Result Y Failed} {old mid new : Output} {a b : List ℕ} → Writes a old (Ok x) mid → Writes b mid r new → Writes (a ++ b) old r new
writes_then {r = r} {old = old} {mid = mid} {new = new} {a = a} {b = b} v w = record {
  ok = on_ok_weaker r (added_both old.written mid.written new.written a b v.ok) w.ok;
  err = on_err_weaker r (added_front old.written mid.written new.written a b v.ok) w.err;
  quiet = on_ok_weaker r (λ quiet. quiet ∙ v.quiet) w.quiet;
  cause = on_err_weaker r (risen_later old.faults mid.faults new.faults v.quiet) w.cause;
}

-- a write that stopped is one of any longer text
pub writes_stopped : {X : Type 0} {f : Failed} {old new : Output} {a : List ℕ} (b : List ℕ) → Writes {X = X} a old (Err f) new → Writes {X = X} (a ++ b) old (Err f) new
writes_stopped {old = old} {new = new} {a = a} b w = record {
  ok = w.ok;
  err = front_more old.written new.written a b w.err;
  quiet = w.quiet;
  cause = w.cause;
}

-- the same text, put otherwise
pub writes_as : {X : Type 0} {r : Result X Failed} {old new : Output} {a b : List ℕ} → a ≡ b → Writes a old r new → Writes b old r new
writes_as {r = r} {old = old} {new = new} e w = subst (λ text. Writes text old r new) e w

-- what a `?` returns
pub writes_returned : {X Y : Type 0} {f : Failed} {old new : Output} {a : List ℕ} (Q : Failed → Type 0) (r : Result Y Failed) → IsErrAnd r Q → Writes {X = X} a old (Err f) new → Writes a old r new
writes_returned {Y = Y} {old = old} {new = new} {a = a} Q r q w =
    let p = err_from_is_err_and r q in
    let v : Writes {X = Y} a old (Err p.0) new = record { ok = _; err = w.err; quiet = _; cause = w.cause } in
    subst (λ s. Writes a old s new) (sym p.1) v

-- the texts of the items up to one more place
items_more : {A : Type 0} (f : A → List ℕ) (xs : List A) (i : ℕ) (d : A) → i < length xs → flat_map f (take i xs) ++ f (get_or xs i d) ≡ flat_map f (take (i + 1) xs)
items_more f xs i d h =
    sym (ap (flat_map f) (take_more xs i d h) ∙ (flat_map-append f (take i xs) (get_or xs i d ∷ []) ∙ ap (λ y. flat_map f (take i xs) ++ y) (append-nil (f (get_or xs i d)))))

-- the texts of the items so far were written, and then that of the next one
pub writes_item : {A X Y : Type 0} {x : X} {r : Result Y Failed} {old mid new : Output} (f : A → List ℕ) (xs : List A) (i : ℕ) (d : A) → i < length xs → Writes (flat_map f (take i xs)) old (Ok x) mid → Writes (f (get_or xs i d)) mid r new → Writes (flat_map f (take (i + 1) xs)) old r new
writes_item f xs i d h v w = writes_as (items_more f xs i d h) (writes_then v w)

-- the write of an item's text stopped, behind those of the items before it
pub writes_item_stopped : {A X Y : Type 0} {x : X} {k : Failed} {old mid new : Output} (f : A → List ℕ) (xs : List A) (i : ℕ) (d : A) → i < length xs → Writes (flat_map f (take i xs)) old (Ok x) mid → Writes {X = Y} (f (get_or xs i d)) mid (Err k) new → Writes {X = Y} (flat_map f xs) old (Err k) new
writes_item_stopped f xs i d h v w =
    writes_as (sym (flat_map-append f (take (i + 1) xs) (drop (i + 1) xs)) ∙ ap (flat_map f) (take-append-drop (i + 1) xs)) (writes_stopped (flat_map f (drop (i + 1) xs)) (writes_item f xs i d h v w))

-- the texts of all items were written
pub writes_items : {A X : Type 0} {r : Result X Failed} {old new : Output} (f : A → List ℕ) (xs : List A) (i : ℕ) → length xs ≤ i → Writes (flat_map f (take i xs)) old r new → Writes (flat_map f xs) old r new
writes_items f xs i h w = writes_as (ap (flat_map f) (take_all i xs h)) w
