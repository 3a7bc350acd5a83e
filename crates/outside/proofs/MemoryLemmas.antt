-- Laws of the objects in memory.
use Rattle.std.proofs.Common.{◌≡◌, ◌+◌, ◌<◌, ◌≤◌, ℕ, List, ◌++◌, take, drop, length, get_or, refl, add-one, subst, sym}
use Rattle.std.specs.Prelude.{Err, Result, Some, if◌then◌else◌}
use Rattle.std.specs.Str.{bytes_eq}
use Rattle.std.proofs.Math.Seq.{drop-cons}
use Rattle.std.proofs.lemmas.List.{take-append-drop, take_at, drop-drop, length-take-le}
use Rattle.std.specs.Result.{IsErrAnd}
use Rattle.std.proofs.lemmas.Result.{err_from_is_err_and}
use Rattle.outside.specs.declared.Failed.{Failed}
use Rattle.outside.specs.Memory.{stored}
use Rattle.outside.specs.Calls.{Fills, Takes}
use Rattle.outside.specs.Told.{HasRisen, Input, Output}

-- looking from a place on is looking at that file and then behind it
pub stored_step : (files : List (List ℕ × List ℕ)) (i : ℕ) (name : List ℕ) (d : List ℕ × List ℕ) → i < length files → stored (drop i files) name ≡ (if bytes_eq (get_or files i d).0 name then Some (get_or files i d).1 else stored (drop (i + 1) files) name)
stored_step files i name d h = rw (add-one, drop-cons files i d h) refl

-- what was given and what is left behind it is what was left
pub given_back : (bytes buf : List ℕ) (at n : ℕ) → n ≤ length (drop at bytes) → take n (take n (drop at bytes) ++ buf) ++ drop (at + n) bytes ≡ drop at bytes
given_back bytes buf at n h =
    rw (take_at (take n (drop at bytes)) buf n (length-take-le n (drop at bytes) h), ← drop-drop n at bytes) (take-append-drop n (drop at bytes))

-- a read that failed gave nothing and raised the count
pub fails_to_fill : (buffer : List ℕ) (old new : Input) (Q : Failed → Type 0) (r : Result ℕ Failed) → IsErrAnd r Q → new.left ≡ old.left → HasRisen old.faults new.faults → Fills buffer buffer old r new
fails_to_fill buffer old new Q r q kept risen =
    let p = err_from_is_err_and r q in
    let v : Fills buffer buffer old (Err p.0) new = record { within = _; ok = _; end = λ h. _; err = kept; quiet = _; cause = risen } in
    subst (λ s. Fills buffer buffer old s new) (sym p.1) v

-- a write that failed took nothing and raised the count
pub fails_to_take : (bytes : List ℕ) (old new : Output) (f : Failed) → new.written ≡ old.written → HasRisen old.faults new.faults → Takes bytes old (Err f) new
fails_to_take bytes old new f kept risen = record { within = _; some = λ h. _; ok = _; err = kept; quiet = _; cause = risen }

pub fails_to_take_at : (bytes : List ℕ) (old new : Output) (Q : Failed → Type 0) (r : Result ℕ Failed) → IsErrAnd r Q → new.written ≡ old.written → HasRisen old.faults new.faults → Takes bytes old r new
fails_to_take_at bytes old new Q r q kept risen =
    let p = err_from_is_err_and r q in subst (λ s. Takes bytes old s new) (sym p.1) (fails_to_take bytes old new p.0 kept risen)
