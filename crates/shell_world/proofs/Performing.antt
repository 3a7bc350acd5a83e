-- How performances of processes are put together.
use Rattle.std.proofs.Common.{◌≡◌, ◌≢◌, ◌⊎◌, ◌+◌, ◌<◌, ◌≤◌, ℕ, suc, Bool, true, false, List, [], ◌∷◌, ◌++◌, inl, inr, refl, ap, sym, ◌∙◌, subst, append_assoc, add-one, drop, get_or, length}
use Rattle.std.specs.Prelude.{Result, Ok, Err}
use Rattle.std.specs.Io.KnownBytes.{append_known}
use Rattle.std.proofs.Math.Seq.{drop-cons}
use Rattle.std.proofs.lemmas.Bool.{false≢true}
use Rattle.std.proofs.lemmas.List.{append-nil, drop_all}
use Rattle.std.proofs.lemmas.Grind.{flat_map-append}
use Rattle.outside.specs.declared.Failed.{Failed}
use Rattle.outside.proofs.WriteLemmas.{added_both, nothing_added}
use Rattle.shell_world.specs.declared.end.End.{End}
use Rattle.shell_world.specs.declared.end.End.TheVariants as ends
use Rattle.shell_world.specs.declared.event.Event.{Event}
use Rattle.shell_world.specs.declared.event.Side.{Side}
use Rattle.shell_world.specs.declared.event.Side.TheVariants as side
use Rattle.shell_world.specs.declared.state.State.{State}
use Rattle.shell_world.specs.Happenings.{Asked, Happening, asks, tells, text_at, text_on}
use Rattle.shell_world.specs.Outsides.{Tells, WritesOn}
use Rattle.shell_world.specs.Processes.{Asks, Becomes, Chain, Each, Either, Ends, EndsSaying, ForSome, IsAsked, IsChanged, IsOver, IsSaid, Knowing, Leads, Process, Stops, Where}
use Rattle.shell_world.specs.Scenes.{Moment, Told, at, goes_along, goes_on, scene_of}
use Rattle.shell_world.specs.Texts.{side_of, text_if, text_of}
use Rattle.shell_world.specs.Written.{AreWritten, Breaks, Performs, Written}

-- nothing was written
pub none_written : (told : Told) → AreWritten [] told told
none_written told = record { out = nothing_added told.out.written; err = nothing_added told.err.written; out_quiet = refl; err_quiet = refl }

-- events one after another are written as one list
are_then : (a b : List Happening) (old mid new : Told) → AreWritten a old mid → AreWritten b mid new → AreWritten (a ++ b) old new
are_then a b old mid new p q = record {
  out = added_both old.out.written mid.out.written new.out.written (text_on side.Output a) (text_on side.Output b) p.out q.out ∙ ap (append_known old.out.written) (sym (flat_map-append (text_at side.Output) a b));
  err = added_both old.err.written mid.err.written new.err.written (text_on side.Errors a) (text_on side.Errors b) p.err q.err ∙ ap (append_known old.err.written) (sym (flat_map-append (text_at side.Errors) a b));
  out_quiet = q.out_quiet ∙ p.out_quiet;
  err_quiet = q.err_quiet ∙ p.err_quiet;
}

pub written_then : (a b : List Happening) (e : End) (old mid new : Told) → AreWritten a old mid → Written b e mid new → Written (a ++ b) e old new
written_then a b e old mid new p (inl (n, q)) = inl (n, are_then a b old mid new p q)
written_then a b e old mid new p (inr (c, k)) = inr (
  c,
  record {
    before = a ++ k.before;
    last = k.last;
    mid = k.mid;
    are = ap (λ xs. a ++ xs) k.are ∙ sym (append_assoc a k.before (tells k.last ∷ []));
    written = are_then a k.before old mid k.mid p k.written;
    breaks = k.breaks;
  },
)

-- where no sink failed, all was written
pub uncut : (events : List Happening) (e : End) (old new : Told) → e ≢ ends.Cut → Written events e old new → AreWritten events old new
uncut events e old new n (inl (m, w)) = w
uncut events e old new n (inr (c, k)) = absurd (n c)

-- the texts of one event, on each side
one_text : (s t : Side) (e : Event) → side_of e ≡ t → text_on s (tells e ∷ []) ≡ text_if s t (text_of e)
one_text s t e is = append-nil (text_if s (side_of e) (text_of e)) ∙ ap (λ u. text_if s u (text_of e)) is

-- an event was written
one_written : (t : Side) (e : Event) (old new : Told) → side_of e ≡ t → WritesOn t (text_of e) old (Ok (tt {0})) new → AreWritten (tells e ∷ []) old new
one_written side.Output e old new is (w, others) = record {
  out = w.ok ∙ ap (append_known old.out.written) (sym (one_text side.Output side.Output e is));
  err = ap (λ t. t.err.written) others ∙ nothing_added old.err.written ∙ ap (append_known old.err.written) (sym (one_text side.Errors side.Output e is));
  out_quiet = w.quiet;
  err_quiet = ap (λ t. t.err.faults) others;
}
one_written side.Errors e old new is (w, others) = record {
  out = ap (λ t. t.out.written) others ∙ nothing_added old.out.written ∙ ap (append_known old.out.written) (sym (one_text side.Output side.Errors e is));
  err = w.ok ∙ ap (append_known old.err.written) (sym (one_text side.Errors side.Errors e is));
  out_quiet = ap (λ t. t.out.faults) others;
  err_quiet = w.quiet;
}

-- a sink failed at it
one_broken : (t : Side) (e : Event) (old new : Told) (f : Failed) → WritesOn t (text_of e) old (Err f) new → Breaks t (text_of e) old new
one_broken side.Output e old new f (w, others) = (record { front = w.err; risen = w.cause }, ap (λ t. t.err) others)
one_broken side.Errors e old new f (w, others) = (record { front = w.err; risen = w.cause }, ap (λ t. t.out) others)

-- a write leaves the files, the input and the objects
write_keeps : (t : Side) (text : List ℕ) (state : State) (old new : Told) (r : Result (Unit {0}) Failed) → WritesOn t text old r new → (scene_of (at state new) ≡ scene_of (at state old)) × (new.objects ≡ old.objects)
write_keeps side.Output text state old new r (w, others) = (ap (λ t. scene_of (at state t)) others, ap (λ t. t.objects) others)
write_keeps side.Errors text state old new r (w, others) = (ap (λ t. scene_of (at state t)) others, ap (λ t. t.objects) others)

-- an event was told
pub said : (e : Event) (wanted : End) (state : State) (old new : Told) → wanted ≢ ends.Cut → Tells e old (Ok (tt {0})) new → Performs (EndsSaying e wanted) (at state old) wanted (at state new)
unfolding EndsSaying
said e wanted state old new n t =
    let k = write_keeps (side_of e) (text_of e) state old new _ t.writes in
    let is : IsSaid e wanted (scene_of (at state old)) (tells e ∷ []) wanted (scene_of (at state new)) = record { told = refl; ended = inl refl; same = k.0 } in
    record {
      events = tells e ∷ [];
      happens = is;
      written = inl (n, one_written (side_of e) e old new refl t.writes);
      same = k.1;
    }

-- a sink failed at an event
pub said_not : (e : Event) (wanted : End) (state : State) (old new : Told) (f : Failed) → Tells e old (Err f) new → Performs (EndsSaying e wanted) (at state old) ends.Cut (at state new)
unfolding EndsSaying
said_not e wanted state old new f t =
    let k = write_keeps (side_of e) (text_of e) state old new _ t.writes in
    let is : IsSaid e wanted (scene_of (at state old)) (tells e ∷ []) ends.Cut (scene_of (at state new)) = record { told = refl; ended = inr refl; same = k.0 } in
    record {
      events = tells e ∷ [];
      happens = is;
      written = inr (refl, record { before = []; last = e; mid = old; are = refl; written = none_written old; breaks = one_broken (side_of e) e old new f t.writes });
      same = k.1;
    }

-- nothing was told
pub ended : (wanted : End) (now : Moment) → wanted ≢ ends.Cut → Performs (Ends wanted) now wanted now
unfolding Ends
ended wanted now n =
    let is : IsOver wanted (scene_of now) [] wanted (scene_of now) = record { told = refl; ended = refl; same = refl } in
    record { events = []; happens = is; written = inl (n, none_written now.told); same = refl }

pub went_on : ends.Went ≢ ends.Cut
went_on e = cc

-- nothing was told, and it went well
pub went : (now : Moment) → Performs (Ends ends.Went) now ends.Went now
went now = ended ends.Went now went_on

-- the state became f of it
pub became : (f : State → State) (old new : State) (told : Told) → new ≡ f old → Performs (Becomes f) (at old told) ends.Went (at new told)
unfolding Becomes
became f old new told e =
    let is : IsChanged f (scene_of (at old told)) [] ends.Went (scene_of (at new told)) = record { told = refl; ended = refl; changed = ap (λ s. scene_of (at s told)) e } in
    record { events = []; happens = is; written = inl (went_on, none_written told); same = refl }

-- a question was asked, and nothing written
pub asked : (a : Asked) (now : Moment) → Performs (Asks a) now ends.Went now
unfolding Asks
asked a now =
    let is : IsAsked a (scene_of now) (asks a ∷ []) ends.Went (scene_of now) = record { told = refl; ended = refl; same = refl } in
    let w = none_written now.told in
    let written : AreWritten (asks a ∷ []) now.told now.told = record { out = w.out; err = w.err; out_quiet = refl; err_quiet = refl } in
    record { events = asks a ∷ []; happens = is; written = inl (went_on, written); same = refl }

-- a process whose performance is one of another
pub also : {P Q : Process} {old new : Moment} {e : End} → ((events : List Happening) → P (scene_of old) events e (scene_of new) → Q (scene_of old) events e (scene_of new)) → Performs P old e new → Performs Q old e new
also f p = record { events = p.events; happens = f p.events p.happens; written = p.written; same = p.same }

pub left : {P : Process} (Q : Process) {old new : Moment} {e : End} → Performs P old e new → Performs (Either P Q) old e new
unfolding Either
left Q p = record { events = p.events; happens = inl p.happens; written = p.written; same = p.same }

pub right : (P : Process) {Q : Process} {old new : Moment} {e : End} → Performs Q old e new → Performs (Either P Q) old e new
unfolding Either
right P p = record { events = p.events; happens = inr p.happens; written = p.written; same = p.same }

pub some : {A : Type 0} (P : A → Process) (a : A) {old new : Moment} {e : End} → Performs (P a) old e new → Performs (ForSome P) old e new
unfolding ForSome
some P a p = record { events = p.events; happens = (a, p.happens); written = p.written; same = p.same }

pub here : {Fact : Type 0} {P : Process} {old new : Moment} {e : End} → Fact → Performs P old e new → Performs (Where Fact P) old e new
unfolding Where
here fact p = record { events = p.events; happens = (fact, p.happens); written = p.written; same = p.same }

pub known : (P : State → Process) {old new : Moment} {e : End} → Performs (P old.state) old e new → Performs (Knowing P) old e new
unfolding Knowing
known P p = record { events = p.events; happens = p.happens; written = p.written; same = p.same }

-- after an end that leads on a sink did not fail
pub leads_uncut : (leads : State → End → Bool) (s : State) (e : End) → ((t : State) → leads t ends.Cut ≡ false) → leads s e ≡ true → e ≢ ends.Cut
leads_uncut leads s e cuts l is = false≢true (sym (cuts s) ∙ ap (leads s) (sym is) ∙ l)

-- the first led on, and the second followed
pub led : (leads : State → End → Bool) {P Q : Process} {old mid new : Moment} {e f : End} → ((t : State) → leads t ends.Cut ≡ false) → Performs P old e mid → leads mid.state e ≡ true → Performs Q mid f new → Performs (Chain leads P Q) old f new
unfolding Chain
led leads {P = P} {Q = Q} {old = old} {mid = mid} {new = new} {e = e} {f = f} cuts p l q =
    let is : Leads leads P Q (scene_of old) (p.events ++ q.events) f (scene_of new) = record {
      mid = scene_of mid;
      middle = e;
      before = p.events;
      behind = q.events;
      first = p.happens;
      leads_on = l;
      second = q.happens;
      joined = refl;
    } in
    record {
      events = p.events ++ q.events;
      happens = inr is;
      written = written_then p.events q.events f old.told mid.told new.told (uncut p.events e old.told mid.told (leads_uncut leads mid.state e cuts l) p.written) q.written;
      same = q.same ∙ p.same;
    }

-- the first did not lead on
pub stopped : (leads : State → End → Bool) {P : Process} (Q : Process) {old new : Moment} {e : End} → Performs P old e new → leads new.state e ≡ false → Performs (Chain leads P Q) old e new
unfolding Chain
stopped leads {P = P} Q {old = old} {new = new} {e = e} p l =
    let is : Stops leads P (scene_of old) p.events e (scene_of new) = record { first = p.happens; stops = l } in
    record { events = p.events; happens = inl is; written = p.written; same = p.same }

-- what completes the rest from now on completes the whole from the start
pub record Completes (rest : Process) (now : Moment) (whole : Process) (start : Moment) : Type 0 where
  pub onwards : (e : End) (last : Moment) → Performs rest now e last → Performs whole start e last

pub begun : (P : Process) (now : Moment) → Completes P now P now
begun P now = record { onwards = λ e last p. p }

-- one more of a list was done and led on
pub each_more : {A : Type 0} (leads : State → End → Bool) (does : A → Process) (xs : List A) (i : ℕ) (d : A) {now next : Moment} {e : End} {whole : Process} {start : Moment} → ((t : State) → leads t ends.Cut ≡ false) → i < length xs → Completes (Each leads does (drop i xs)) now whole start → Performs (does (get_or xs i d)) now e next → leads next.state e ≡ true → Completes (Each leads does (drop (i + 1) xs)) next whole start
each_more leads does xs i d {now = now} {next = next} {whole = whole} {start = start} cuts h c p l = record {
  onwards = λ f last q. c.onwards f last (subst (λ ys. Performs (Each leads does ys) now f last) (sym (drop-cons xs i d h)) (led leads cuts p l (subst (λ n. Performs (Each leads does (drop n xs)) next f last) (add-one i) q)));
}

-- one of a list did not lead on
pub each_stops : {A : Type 0} (leads : State → End → Bool) (does : A → Process) (xs : List A) (i : ℕ) (d : A) {now new : Moment} {e : End} {whole : Process} {start : Moment} → i < length xs → Completes (Each leads does (drop i xs)) now whole start → Performs (does (get_or xs i d)) now e new → leads new.state e ≡ false → Performs whole start e new
each_stops leads does xs i d {now = now} {new = new} {e = e} h c p l =
    c.onwards e new (subst (λ ys. Performs (Each leads does ys) now e new) (sym (drop-cons xs i d h)) (stopped leads (Each leads does (drop (suc i) xs)) p l))

-- all of a list were done
pub each_over : {A : Type 0} (leads : State → End → Bool) (does : A → Process) (xs : List A) (i : ℕ) {now : Moment} {whole : Process} {start : Moment} → length xs ≤ i → Completes (Each leads does (drop i xs)) now whole start → Performs whole start ends.Went now
each_over leads does xs i {now = now} h c =
    c.onwards ends.Went now (subst (λ ys. Performs (Each leads does ys) now ends.Went now) (sym (drop_all i xs h)) (went now))

-- the same of a list whose rest is known as a list
pub items_more : {A : Type 0} (leads : State → End → Bool) (does : A → Process) (items rest : List A) (x : A) {now next : Moment} {e : End} {whole : Process} {start : Moment} → ((t : State) → leads t ends.Cut ≡ false) → items ≡ x ∷ rest → Completes (Each leads does items) now whole start → Performs (does x) now e next → leads next.state e ≡ true → Completes (Each leads does rest) next whole start
items_more leads does items rest x {now = now} cuts is c p l = record {
  onwards = λ f last q. c.onwards f last (subst (λ ys. Performs (Each leads does ys) now f last) (sym is) (led leads cuts p l q));
}

pub items_stop : {A : Type 0} (leads : State → End → Bool) (does : A → Process) (items rest : List A) (x : A) {now new : Moment} {e : End} {whole : Process} {start : Moment} → items ≡ x ∷ rest → Completes (Each leads does items) now whole start → Performs (does x) now e new → leads new.state e ≡ false → Performs whole start e new
items_stop leads does items rest x {now = now} {new = new} {e = e} is c p l =
    c.onwards e new (subst (λ ys. Performs (Each leads does ys) now e new) (sym is) (stopped leads (Each leads does rest) p l))

pub items_over : {A : Type 0} (leads : State → End → Bool) (does : A → Process) (items : List A) {now : Moment} {whole : Process} {start : Moment} → items ≡ [] → Completes (Each leads does items) now whole start → Performs whole start ends.Went now
items_over leads does items {now = now} is c =
    c.onwards ends.Went now (subst (λ ys. Performs (Each leads does ys) now ends.Went now) (sym is) (went now))

-- only one end leads along
pub along : (state : State) (e : End) → e ≡ ends.Went → goes_along state e ≡ true
along state e is = ap (goes_along state) is

-- what was said ended as is wanted, or a sink failed
pub said_ended : (said : Event) (wanted : End) {old new : Moment} {e : End} → Performs (EndsSaying said wanted) old e new → (e ≡ wanted) ⊎ (e ≡ ends.Cut)
unfolding EndsSaying
said_ended said wanted p = p.happens.ended

-- where the wanted end does not go on, the session does not
pub over_said : (state : State) (said : Event) (wanted : End) {old new : Moment} {e : End} → goes_on state wanted ≡ false → Performs (EndsSaying said wanted) old e new → goes_on state e ≡ false
over_said state said wanted {e = e} w p = by_end (said_ended said wanted p)
  where
    by_end : ((e ≡ wanted) ⊎ (e ≡ ends.Cut)) → goes_on state e ≡ false
    by_end (inl is) = ap (goes_on state) is ∙ w
    by_end (inr is) = ap (goes_on state) is

-- where nothing is said, it went well
pub over_went : (wanted : End) {old new : Moment} {e : End} → Performs (Ends wanted) old e new → e ≡ wanted
unfolding Ends
over_went wanted p = p.happens.ended
