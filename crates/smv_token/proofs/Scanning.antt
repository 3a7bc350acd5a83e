-- Reading the tokens of a text, one piece after the other.
use Rattle.std.proofs.Common.{◌≡◌, ◌≤◌, ◌-◌, ℕ, zero, suc, Bool, true, false, ◌==◌, List, [], ◌∷◌, ◌++◌, length, take, drop, fold, Some, None, Ok, Err, refl, sym, ◌∙◌, ap, append_assoc, append-nil, arith}
use Rattle.std.specs.List.{prefix_len}
use Rattle.std.proofs.lemmas.List.{length-take-le, take-append-drop}
use Rattle.std.proofs.lemmas.List.Sums.{prefix_len-le-length}
use Rattle.smv_tree.specs.declared.place.Place.{Place}
use Rattle.smv_token.specs.declared.token.Flaw.{Flaw}
use Rattle.smv_token.specs.declared.token.Token.{Token}
use Rattle.smv_token.specs.declared.token.Piece.{Piece}
use Rattle.smv_token.specs.Scans.{Fits}
use Rattle.smv_token.specs.Tokens.{Scanned, after, cut_name, joined, piece_at, stopped, token_of, tokens_from, with_front}

pub front_within : (p : ℕ → Bool) (bs : List ℕ) → prefix_len p bs ≤ length bs
front_within p bs = prefix_len-le-length p bs

pub front_some : (p : ℕ → Bool) (b : ℕ) (bs : List ℕ) → p b ≡ true → 1 ≤ prefix_len p (b ∷ bs)
front_some p b bs h = rw h (omega arith)

-- the bytes of a piece that are left are passed over
passes : (p : Place) (n : ℕ) (bs : List ℕ) → n ≤ length bs → tokens_from p n bs ≡ tokens_from (fold after p (take n bs)) 0 (drop n bs)
unfolding tokens_from
passes p zero bs h = refl
passes p (suc n) [] h = absurd (omega arith)
passes p (suc n) (b ∷ bs) h = passes (after p b) n bs (omega arith)

stops_here : (p : Place) (bs : List ℕ) (f : Flaw) → Err f ≡ piece_at bs → 1 ≤ length bs → tokens_from p 0 bs ≡ stopped p bs f
unfolding tokens_from
stops_here p [] f e h = absurd (omega arith)
stops_here p (b ∷ bs) f e h = ap (joined p (b ∷ bs) (λ n. tokens_from (after p b) n bs)) (sym e)

some_left : (bs : List ℕ) → false ≡ (length bs == 0) → 1 ≤ length bs
some_left [] h = absurd (cc)
some_left (b ∷ bs) h = omega arith

-- the loop's end at what is no token
pub no_piece : (front new : List Token) (p : Place) (bs : List ℕ) (f : Flaw) (all : Scanned) → Err f ≡ piece_at bs → false ≡ (length bs == 0) → new ≡ front ++ cut_name p bs f → with_front front (tokens_from p 0 bs) ≡ all → record { tokens = new; stop = Some (p, f) } ≡ all
no_piece front new p bs f all e h ew ea =
    let s = stops_here p bs f e (some_left bs h) in
    ap (λ ts. record { tokens = ts; stop = Some (p, f) }) ew ∙ ap (with_front front) (sym s) ∙ ea

pub front_length : (n : ℕ) (bs : List ℕ) → n ≤ length bs → length (take n bs) ≡ n
front_length n bs h = length-take-le n bs h

-- no more bytes than there are
pub front_of : (n : ℕ) (bs : List ℕ) → length bs ≤ n → take n bs ≡ bs
front_of zero [] h = refl
front_of zero (b ∷ bs) h = absurd (omega arith)
front_of (suc n) [] h = refl
front_of (suc n) (b ∷ bs) h = ap (λ cs. b ∷ cs) (front_of n bs (omega arith))

-- what is left to read after the piece at the front
pub after_piece : (p : Place) (bs : List ℕ) (k : ℕ × Piece) → piece_at bs ≡ Ok k → 1 ≤ k.0 → k.0 ≤ length bs → tokens_from p 0 bs ≡ with_front (token_of p k.1 (take k.0 bs)) (tokens_from (fold after p (take k.0 bs)) 0 (drop k.0 bs))
unfolding tokens_from
after_piece p [] k e some fits = absurd (omega arith)
after_piece p (b ∷ bs) (zero, m) e some fits = absurd (omega arith)
after_piece p (b ∷ bs) (suc n, m) e some fits =
    let s : suc n - 1 ≡ n = omega arith in
    ap (joined p (b ∷ bs) (λ n. tokens_from (after p b) n bs)) e
    ∙ ap (λ k. with_front (token_of p m (b ∷ take n bs)) (tokens_from (after p b) k bs)) s
    ∙ ap (with_front (token_of p m (b ∷ take n bs))) (passes (after p b) n bs (omega arith))

one_more : (front : List Token) (p : Place) (bs : List ℕ) (k : ℕ × Piece) → piece_at bs ≡ Ok k → Fits bs k → with_front (front ++ token_of p k.1 (take k.0 bs)) (tokens_from (fold after p (take k.0 bs)) 0 (drop k.0 bs)) ≡ with_front front (tokens_from p 0 bs)
one_more front p bs k e fits =
    let more = tokens_from (fold after p (take k.0 bs)) 0 (drop k.0 bs) in
    ap (λ ts. record { tokens = ts; stop = more.stop }) (append_assoc front (token_of p k.1 (take k.0 bs)) more.tokens)
    ∙ ap (with_front front) (sym (after_piece p bs k e fits.some fits.within))

-- one turn of the loop over the pieces
pub turn : (front new : List Token) (p q : Place) (bs text next : List ℕ) (n : ℕ) (m : Piece) (all : Scanned) → Ok (n, m) ≡ piece_at bs → Fits bs (n, m) → text ≡ take n bs → next ≡ drop n bs → new ≡ front ++ token_of p m text → q ≡ fold after p text → with_front front (tokens_from p 0 bs) ≡ all → with_front new (tokens_from q 0 next) ≡ all
turn front new p q bs text next n m all e fits et en ew eq ea = let h = one_more front p bs (n, m) (sym e) fits in rw (ew, eq, et, en) (h ∙ ea)

fold_append : (p : Place) (xs ys : List ℕ) → fold after p (xs ++ ys) ≡ fold after (fold after p xs) ys
fold_append p [] ys = refl
fold_append p (x ∷ xs) ys = fold_append (after p x) xs ys

-- the place goes on with the loop
pub goes : (p q end : Place) (bs text next : List ℕ) (n : ℕ) → text ≡ take n bs → next ≡ drop n bs → q ≡ fold after p text → fold after p bs ≡ end → fold after q next ≡ end
goes p q end bs text next n et en eq ee = rw (eq, et, en) (sym (fold_append p (take n bs) (drop n bs)) ∙ ap (fold after p) (take-append-drop n bs) ∙ ee)

pub all_read : (front : List Token) (p : Place) (bs : List ℕ) (all : Scanned) → length bs ≡ 0 → with_front front (tokens_from p 0 bs) ≡ all → record { tokens = front; stop = None } ≡ all
unfolding tokens_from
all_read front p [] all e ea = ap (λ ts. record { tokens = ts; stop = None }) (sym (append-nil front)) ∙ ea
all_read front p (b ∷ bs) all e ea = absurd (omega arith)

pub at_end : (p end : Place) (bs : List ℕ) → length bs ≡ 0 → fold after p bs ≡ end → p ≡ end
at_end p end [] e ee = ee
at_end p end (b ∷ bs) e ee = absurd (omega arith)
