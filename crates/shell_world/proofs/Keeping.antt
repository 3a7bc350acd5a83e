-- Facts that each performance of a process has. Two are wanted: that nothing changes at all, and that nothing changes where it is
-- refused, and the remembered lines never.
use Rattle.std.proofs.Common.{◌≡◌, ◌⊎◌, ◌+◌, ◌<◌, ◌≤◌, ◌++◌, ℕ, Bool, true, false, List, [], ◌∷◌, inl, inr, refl, ap, sym, subst, ◌∙◌, arith}
use Rattle.std.proofs.lemmas.Bool.{false≢true}
use Rattle.std.proofs.lemmas.List.Folds.{list_any-append}
use Rattle.std.proofs.lemmas.Option.{none-some, same_Some}
use Rattle.std.specs.List.{list_any}
use Rattle.std.specs.Prelude.{◌||◌, Option, None, Some, Result, Ok, Err, is_err, min, option_map}
use Rattle.smv_tree.specs.declared.program.Program.{Program}
use Rattle.outside.specs.declared.files.FileFault.{FileFault}
use Rattle.outside.specs.declared.files.FileFault.TheVariants as faults
use Rattle.outside.specs.declared.source.LineFault.TheVariants as line_faults
use Rattle.outside.specs.Disk as disks
use Rattle.outside.specs.Disk.{BreaksOff, IsLonger, ReadsFile, WritesFile}
use Rattle.outside.specs.Told.{Disk, HasRisen}
use Rattle.cmd_table.specs.declared.fault.OptFault.{OptFault}
use Rattle.cmd_table.specs.declared.given.Given.{Given}
use Rattle.cmd_table.specs.declared.table.Table.{Table}
use Rattle.cmd_table.specs.Options.{Options}
use Rattle.shell_world.specs.declared.end.End.{End}
use Rattle.shell_world.specs.declared.end.End.TheVariants as ends
use Rattle.shell_world.specs.declared.event.Event.{Event}
use Rattle.shell_world.specs.declared.event.Event.TheVariants as event
use Rattle.shell_world.specs.declared.phase.Phase.{Phase}
use Rattle.shell_world.specs.declared.refusal.Refusal.{Refusal}
use Rattle.shell_world.specs.declared.refusal.Refusal.TheVariants as refusal
use Rattle.shell_world.specs.declared.state.State.{State}
use Rattle.shell_world.specs.Happenings.{Asked, Happening, tells}
use Rattle.shell_world.specs.Keeping.{Always, IsCaused, IsKept, IsKeptBut, KeepsRefused, is_inner, last_count, tells_fault}
use Rattle.shell_world.specs.Phases.{missing, phase_of, too_early}
use Rattle.shell_world.specs.Processes.{Asks, Becomes, Chain, Each, Either, Ends, EndsSaying, ForSome, Knowing, MayLack, Process, Refuses, Where}
use Rattle.shell_world.specs.Rows.{AfterRow, ByRow, Gives, WithRow, given_unless}
use Rattle.shell_world.specs.Scenes.{Scene, goes_along}
use Rattle.shell_world.specs.Steps.{AfterFile, AfterStore, ReadsWhole, RefusesFile, Stores, WithFile, WithFirst, WritesWhole, file_refusal}
use Rattle.shell_world.specs.Texts.{refusal_number}

-- nothing changed
pub record Still (old : Scene) (events : List Happening) (end : End) (new : Scene) : Type 0 where
  pub kept : IsKept old new
  pub caused : IsCaused old events end new

-- nothing changed where it was refused, and the remembered lines did not
pub record Guards (old : Scene) (events : List Happening) (end : End) (new : Scene) : Type 0 where
  pub past : new.state.past ≡ old.state.past
  pub refused : end ≡ ends.Refused → IsKept old new
  pub caused : IsCaused old events end new

-- the fact holds where nothing changed, and of more that is done behind that
pub record IsFact (R : Process) : Type 0 where
  pub still : (old : Scene) (events : List Happening) (end : End) (new : Scene) → Still old events end new → R old events end new
  pub behind : (old mid : Scene) (before events : List Happening) (middle end : End) (new : Scene) → Still old before middle mid → R mid events end new → R old (before ++ events) end new

pub kept_same : {old new : Scene} → new ≡ old → IsKept old new
kept_same e = record { state = ap (λ s. s.state) e; input = ap (λ s. s.input) e; held = ap (λ s. s.disk.held) e }

pub kept_both : {old mid new : Scene} → IsKept old mid → IsKept mid new → IsKept old new
kept_both k l = record { state = l.state ∙ k.state; input = l.input ∙ k.input; held = l.held ∙ k.held }

pub caused_both : {old mid new : Scene} {before events : List Happening} {middle end : End} → IsCaused old before middle mid → IsCaused mid events end new → IsCaused old (before ++ events) end new
caused_both {old = old} {mid = mid} {new = new} {before = before} {events = events} k l = record {
  input = l.input ∙ k.input;
  inner = l.inner;
  rises = λ low. rise_both low;
  quiet = λ low same. quiet_both low same;
}
  where
    rise_both : old.disk.faults ≤ last_count → (old.disk.faults ≤ new.disk.faults) × (new.disk.faults ≤ last_count)
    rise_both low = let a = k.rises low in let b = l.rises a.1 in (omega (arith, a.0, b.0), b.1)

    between : old.disk.faults < last_count → new.disk.faults ≡ old.disk.faults → mid.disk.faults ≡ old.disk.faults
    between low same =
        let a = k.rises (omega (arith, low)) in
        let b = l.rises a.1 in
        omega (arith, a.0, b.0, same)

    quiet_both : old.disk.faults < last_count → new.disk.faults ≡ old.disk.faults → list_any tells_fault (before ++ events) ≡ false
    quiet_both low same =
        let m : mid.disk.faults ≡ old.disk.faults = between low same in
        let a : list_any tells_fault before ≡ false = k.quiet low m in
        let b : list_any tells_fault events ≡ false = l.quiet (subst (λ n. n < last_count) (sym m) low) (same ∙ sym m) in
        list_any-append tells_fault before events ∙ (ap (λ t. t || list_any tells_fault events) a ∙ b)

-- what is told, and an end alone, change nothing
pub said_kept : (said : Event) (wanted : End) (events : List Happening) (end : End) {old new : Scene} → EndsSaying said wanted old events end new → IsKept old new
unfolding EndsSaying
said_kept said wanted events end p = kept_same p.same

pub ended_kept : (wanted : End) (events : List Happening) (end : End) {old new : Scene} → Ends wanted old events end new → IsKept old new
unfolding Ends
ended_kept wanted events end p = kept_same p.same

pub lack_kept : (events : List Happening) (end : End) {old new : Scene} → ForSome (λ r. Where (refusal_number r ≡ 900) (Refuses r)) old events end new → IsKept old new
unfolding ForSome Where
lack_kept events end (r, (n, p)) = said_kept (event.Refused r) ends.Refused events end p

pub refusal_kept : (r : Refusal) (events : List Happening) (end : End) {old new : Scene} → MayLack (Refuses r) old events end new → IsKept old new
unfolding Either
refusal_kept r events end (inl p) = lack_kept events end p
refusal_kept r events end (inr p) = said_kept (event.Refused r) ends.Refused events end p

pub still_both : {old mid new : Scene} {before events : List Happening} {middle end : End} → Still old before middle mid → Still mid events end new → Still old (before ++ events) end new
still_both k l = record { kept = kept_both k.kept l.kept; caused = caused_both k.caused l.caused }

pub still_fact : IsFact Still
still_fact = record { still = λ old events end new k. k; behind = λ old mid before events middle end new k l. still_both k l }

pub guards_fact : IsFact Guards
guards_fact = record {
  still = λ old events end new k. record { past = ap (λ s. s.past) k.kept.state; refused = λ r. k.kept; caused = k.caused };
  behind = λ old mid before events middle end new k g. record {
    past = g.past ∙ ap (λ s. s.past) k.kept.state;
    refused = λ r. kept_both k.kept (g.refused r);
    caused = caused_both k.caused g.caused;
  };
}

pub caused_fact : IsFact IsCaused
caused_fact = record {
  still = λ old events end new k. k.caused;
  behind = λ old mid before events middle end new k l. caused_both k.caused l;
}

-- what a topic's law says of a refusal, and of causes
pub guarded_refused : (May : Scene → List Happening → Scene → Type 0) {P : Process} → Always P Guards → KeepsRefused May P
guarded_refused May g old events end new r p = inl ((g old events end new p).refused r)

pub guarded_caused : {P : Process} → Always P Guards → Always P IsCaused
guarded_caused g old events end new p = (g old events end new p).caused

-- a count of faults is as before, or rose by one
abbrev pub Counts : ℕ → ℕ → Type 0
Counts before after = (after ≡ before) ⊎ HasRisen before after

pub count_step : {a b : ℕ} → Counts a b → a ≤ last_count → (a ≤ b) × (b ≤ last_count)
count_step (inl e) low = (omega (arith, e), omega (arith, e, low))
count_step {a = a} {b = b} (inr r) low = let e : b ≡ min (a + 1) 18446744073709551615 = r in (omega (arith, e, low), omega (arith, e))

-- a scene that stays, with events that tell no fault
stays : {old new : Scene} {events : List Happening} {end : End} → new ≡ old → list_any tells_fault events ≡ false → is_inner end ≡ true → Still old events end new
stays {old = old} {new = new} same none inner = record {
  kept = kept_same same;
  caused = record {
    input = ap (λ s. s.input) same;
    inner = inner;
    rises = count_step (inl (ap (λ s. s.disk.faults) same));
    quiet = λ a b. none;
  };
}

pub ends_leave : {R : Process} → IsFact R → (wanted : End) → is_inner wanted ≡ true → Always (Ends wanted) R
unfolding Ends
ends_leave f wanted inner old events end new p =
    f.still old events end new (stays p.same (ap (λ es. list_any tells_fault es) p.told) (ap is_inner p.ended ∙ inner))

-- all that happened tells no fault
one_quiet : (happening : Happening) → tells_fault happening ≡ false → list_any tells_fault (happening ∷ []) ≡ false
one_quiet happening q = ap (λ t. t || false) q

-- the end of an event that is told
said_inner : {end wanted : End} → is_inner wanted ≡ true → ((end ≡ wanted) ⊎ (end ≡ ends.Cut)) → is_inner end ≡ true
said_inner inner (inl e) = ap is_inner e ∙ inner
said_inner inner (inr e) = ap is_inner e

pub says_leave : {R : Process} → IsFact R → (said : Event) (wanted : End) → tells_fault (tells said) ≡ false → is_inner wanted ≡ true → Always (EndsSaying said wanted) R
unfolding EndsSaying
says_leave f said wanted q inner old events end new p =
    f.still old events end new (stays p.same (ap (λ es. list_any tells_fault es) p.told ∙ one_quiet (tells said) q) (said_inner inner p.ended))

pub asks_leave : {R : Process} → IsFact R → (asked : Asked) → Always (Asks asked) R
unfolding Asks
asks_leave f asked old events end new p =
    f.still old events end new (stays p.same (ap (λ es. list_any tells_fault es) p.told) (ap is_inner p.ended))

-- what a call of the files says of their count
refused_counts : (held : Option (List ℕ → Option (List ℕ))) (name : List ℕ) (before after : ℕ) (P : Option (List ℕ) → Type 0) → disks.Refuses held name before after P → Counts before after
refused_counts None name before after P r = inr r
refused_counts (Some held) name before after P (h, e) = inl e

read_counts : (limit : ℕ) (name : List ℕ) (answer : Result (List ℕ) FileFault) (old new : Disk) → ReadsFile limit name old answer new → Counts old.faults new.faults
read_counts limit name (Ok text) old new (told, fits, e) = inl e
read_counts limit name (Err faults.NotThere) old new r = refused_counts old.held name old.faults new.faults (λ file. file ≡ None) r
read_counts limit name (Err (faults.TooLong n)) old new (r, e) = refused_counts old.held name old.faults new.faults (IsLonger limit) r
read_counts limit name (Err faults.Failed) old new r = inr r
read_counts limit name (Err (faults.NoMemory e)) old new r = inl r

write_counts : (name bytes : List ℕ) (answer : Result (Unit {0}) FileFault) (old new : Disk) → WritesFile name bytes old answer new → Counts old.faults new.faults
write_counts name bytes (Ok u) old new (w, e) = inl e
write_counts name bytes (Err faults.Failed) old new (w, r) = inr r
write_counts name bytes (Err (faults.NoMemory m)) old new (w, e) = inl e
write_counts name bytes (Err faults.NotThere) old new w = absurd w
write_counts name bytes (Err (faults.TooLong n)) old new w = absurd w

-- a file was read
pub reads_still : (limit : ℕ) (name : List ℕ) (answer : Result (List ℕ) FileFault) → Always (ReadsWhole limit name answer) Still
unfolding ReadsWhole
reads_still limit name answer old events end new p = record {
  kept = record { state = ap (λ s. s.state) p.others; input = ap (λ s. s.input) p.others; held = p.held };
  caused = record {
    input = ap (λ s. s.input) p.others;
    inner = ap is_inner p.ended;
    rises = count_step (read_counts limit name answer old.disk new.disk p.reads);
    quiet = λ a b. ap (λ es. list_any tells_fault es) p.told;
  };
}

-- a file was written
writes_caused : (name bytes : List ℕ) (answer : Result (Unit {0}) FileFault) → Always (WritesWhole name bytes answer) IsCaused
unfolding WritesWhole
writes_caused name bytes answer old events end new p = record {
  input = ap (λ s. s.input) p.others;
  inner = ap is_inner p.ended;
  rises = count_step (write_counts name bytes answer old.disk new.disk p.writes);
  quiet = λ a b. ap (λ es. list_any tells_fault es) p.told;
}

pub refused_not_went : {end : End} → end ≡ ends.Refused → end ≡ ends.Went → ⊥
refused_not_went r w = refused_went (sym r ∙ w)
  where
    refused_went : ends.Refused ≡ ends.Went → ⊥
    refused_went e = cc

-- another state is no cause of anything
pub becomes_caused : (f : State → State) → Always (Becomes f) IsCaused
unfolding Becomes
becomes_caused f old events end new p = record {
  input = ap (λ s. s.input) p.changed;
  inner = ap is_inner p.ended;
  rises = count_step (inl (ap (λ s. s.disk.faults) p.changed));
  quiet = λ a b. ap (λ es. list_any tells_fault es) p.told;
}

-- what becomes another state is never refused
pub becomes_guards : (f : State → State) → ((s : State) → (f s).past ≡ s.past) → Always (Becomes f) Guards
unfolding Becomes
becomes_guards f k old events end new p = record {
  past = ap (λ s. s.state.past) p.changed ∙ k old.state;
  refused = λ r. absurd (refused_not_went r p.ended);
  caused = becomes_caused f old events end new p;
}

pub either_leave : {R : Process} {P Q : Process} → Always P R → Always Q R → Always (Either P Q) R
unfolding Either
either_leave k l old events end new (inl p) = k old events end new p
either_leave k l old events end new (inr p) = l old events end new p

pub some_leave : {R : Process} {A : Type 0} (P : A → Process) → ((a : A) → Always (P a) R) → Always (ForSome P) R
unfolding ForSome
some_leave P k old events end new (a, p) = k a old events end new p

pub where_leave : {R : Process} (fact : Type 0) {P : Process} → (fact → Always P R) → Always (Where fact P) R
unfolding Where
where_leave fact k old events end new (h, p) = k h old events end new p

pub knowing_leave : {R : Process} (P : State → Process) → ((s : State) → Always (P s) R) → Always (Knowing P) R
unfolding Knowing
knowing_leave P k old events end new p = k old.state old events end new p

-- the first never changes anything
pub chain_leave : {R : Process} → IsFact R → (leads : State → End → Bool) {P Q : Process} → Always P Still → Always Q R → Always (Chain leads P Q) R
unfolding Chain
chain_leave f leads k l old events end new (inl p) = f.still old events end new (k old events end new p.first)
chain_leave {R = R} f leads k l old events end new (inr p) =
    subst (λ es. R old es end new) (sym p.joined) (f.behind old p.mid p.before p.behind p.middle end new (k old p.before p.middle p.mid p.first) (l p.mid p.behind end new p.second))

pub each_leave : {R : Process} → IsFact R → {A : Type 0} (leads : State → End → Bool) (does : A → Process) (xs : List A) → ((x : A) → Always (does x) Still) → Always (Each leads does xs) R
each_leave f leads does [] k = ends_leave f ends.Went refl
each_leave f leads does (x ∷ xs) k = chain_leave f leads (k x) (each_leave f leads does xs k)

-- want of memory is no fault of the outside
lack_quiet : (r : Refusal) → refusal_number r ≡ 900 → tells_fault (tells (event.Refused r)) ≡ false
lack_quiet (refusal.FileFault name) n = absurd (let e : 647 ≡ 900 = n in omega (arith, e))
lack_quiet (refusal.Line line_faults.ReadFault) n = absurd (let e : 801 ≡ 900 = n in omega (arith, e))
lack_quiet (refusal.Line line_faults.TooLong) n = refl
lack_quiet (refusal.Line (line_faults.NoMemory e)) n = refl
lack_quiet r n = refl

pub lacks_leave : {R : Process} → IsFact R → Always (ForSome (λ r. Where (refusal_number r ≡ 900) (Refuses r))) R
lacks_leave f = some_leave _ (λ r. where_leave _ (λ n. says_leave f _ _ (lack_quiet r n) refl))

pub may_lack_leave : {R : Process} → IsFact R → {P : Process} → Always P R → Always (MayLack P) R
may_lack_leave f k = either_leave (lacks_leave f) k

-- a refusal that memory may be lacking for
pub refuses_leave : {R : Process} → IsFact R → (r : Refusal) → tells_fault (tells (event.Refused r)) ≡ false → Always (MayLack (Refuses r)) R
refuses_leave f r q = may_lack_leave f (says_leave f _ _ q refl)

-- a fault of the files is told behind the call whose count rose
failed_caused : (limit : ℕ) (name : List ℕ) (events : List Happening) {old mid new : Scene} {before : List Happening} {middle end : End} → IsCaused old before middle mid → HasRisen old.disk.faults mid.disk.faults → RefusesFile limit name faults.Failed mid events end new → (IsKept mid new) × IsCaused old (before ++ events) end new
unfolding Either EndsSaying
failed_caused limit name events {old = old} {mid = mid} {new = new} {end = end} k risen (inl p) =
    let s : Still mid events end new = lacks_leave still_fact mid events end new p in
    (s.kept, caused_both k s.caused)
failed_caused limit name events {old = old} {mid = mid} {new = new} k risen (inr p) = (
  kept_same p.same,
  record {
    input = ap (λ s. s.input) p.same ∙ k.input;
    inner = said_inner refl p.ended;
    rises = λ low. subst (λ n. (old.disk.faults ≤ n) × (n ≤ last_count)) (sym (ap (λ s. s.disk.faults) p.same)) (k.rises low);
    quiet = λ low same. absurd (rose (sym (ap (λ s. s.disk.faults) p.same) ∙ same) low);
  },
)
  where
    rose : mid.disk.faults ≡ old.disk.faults → old.disk.faults < last_count → ⊥
    rose same low = let e : mid.disk.faults ≡ min (old.disk.faults + 1) 18446744073709551615 = risen in omega (arith, e, same, low)

-- a file at which the files failed is refused
unread_failed : (limit : ℕ) (name : List ℕ) → Always (Chain goes_along (ReadsWhole limit name (Err faults.Failed)) (RefusesFile limit name faults.Failed)) Still
unfolding Chain ReadsWhole
unread_failed limit name old events end new (inl p) = reads_still limit name _ old events end new p.first
unread_failed limit name old events end new (inr p) =
    let k : Still old p.before p.middle p.mid = reads_still limit name _ old p.before p.middle p.mid p.first in
    let l = failed_caused limit name p.behind k.caused p.first.reads p.second in
    subst (λ es. Still old es end new) (sym p.joined) record { kept = kept_both k.kept l.0; caused = l.1 }

-- a file that was not read is refused
pub unread_leave : (limit : ℕ) (name : List ℕ) (fault : FileFault) → Always (Chain goes_along (ReadsWhole limit name (Err fault)) (RefusesFile limit name fault)) Still
unread_leave limit name faults.NotThere = chain_leave still_fact goes_along (reads_still limit name _) (refuses_leave still_fact _ refl)
unread_leave limit name (faults.TooLong n) = chain_leave still_fact goes_along (reads_still limit name _) (refuses_leave still_fact _ refl)
unread_leave limit name (faults.NoMemory e) = chain_leave still_fact goes_along (reads_still limit name _) (refuses_leave still_fact _ refl)
unread_leave limit name faults.Failed = unread_failed limit name

pub file_leave : {R : Process} → IsFact R → (limit : ℕ) (name : List ℕ) (P : List ℕ → Process) → ((text : List ℕ) → Always (P text) R) → Always (WithFile limit name P) R
file_leave {R = R} f limit name P k = some_leave _ after
  where
    after : (answer : Result (List ℕ) FileFault) → Always (Chain goes_along (ReadsWhole limit name answer) (AfterFile limit name P answer)) R
    after (Ok text) = chain_leave f goes_along (reads_still limit name (Ok text)) (k text)
    after (Err fault) = λ old events end new p. f.still old events end new (unread_leave limit name fault old events end new p)

pub first_leave : {R : Process} → IsFact R → (P : List ℕ → Process) (words : List (List ℕ)) → ((word : List ℕ) → Always (P word) R) → Always (WithFirst P words) R
first_leave f P [] k = ends_leave f ends.Went refl
first_leave f P (word ∷ words) k = k word

-- what is given in an answer, if anything is
abbrev given_in : Given → Result Given Refusal → Given
given_in given (Ok read) = read
given_in given (Err r) = given

-- the options that are given are those that were read
given_by : (lack : Option Refusal) (options : Result Given OptFault) (given : Given) → Ok given ≡ given_unless lack options → options ≡ Ok given
given_by lack (Err fault) given e = absurd (false≢true (ap is_err e))
given_by None (Ok read) given e = ap (λ x. Ok (given_in given x)) (sym e)
given_by (Some r) (Ok read) given e = absurd (false≢true (ap is_err e))

-- what is refused by a row is no fault of the outside
abbrev refused_in : Refusal → Result Given Refusal → Refusal
refused_in r (Ok given) = r
refused_in r (Err s) = s

early_quiet : (model : Option Program) (first : Option Phase) (r : Refusal) → option_map (too_early model) first ≡ Some r → tells_fault (tells (event.Refused r)) ≡ false
early_quiet model None r e = absurd (none-some r e)
early_quiet None (Some first) r e = ap (λ s. tells_fault (tells (event.Refused s))) (sym (same_Some _ _ e))
early_quiet (Some program) (Some first) r e = ap (λ s. tells_fault (tells (event.Refused s))) (sym (same_Some _ _ e))

row_quiet : (lack : Option Refusal) (options : Result Given OptFault) (r : Refusal) → ((s : Refusal) → lack ≡ Some s → tells_fault (tells (event.Refused s)) ≡ false) → Err r ≡ given_unless lack options → tells_fault (tells (event.Refused r)) ≡ false
row_quiet lack (Err fault) r q e = ap (λ x. tells_fault (tells (event.Refused (refused_in r x)))) e
row_quiet None (Ok read) r q e = absurd (false≢true (ap is_err (sym e)))
row_quiet (Some s) (Ok read) r q e = ap (λ x. tells_fault (tells (event.Refused (refused_in r x)))) e ∙ q s refl

pub row_leave : {R : Process} → IsFact R → {N : ℕ} (table : Table N) (needs : Phase) (words : List (List ℕ)) (P : Given → Process) → ((given : Given) → Always (P given) R) → Always (WithRow table needs words P) R
row_leave {R = R} f table needs words P k =
    may_lack_leave f (knowing_leave (ByRow table needs words P) (λ s. some_leave _ (λ answer. where_leave _ (after s answer))))
  where
    after : (s : State) (answer : Result Given Refusal) → Gives table needs words s answer → Always (AfterRow P answer) R
    after s (Ok given) g = k given
    after s (Err r) (options, o, e) = says_leave f _ _ (row_quiet _ options r (early_quiet s.model (missing (phase_of s.model s.done) needs)) e) refl

-- a command by its row is refused and changes nothing, or does what follows on its options
pub by_row : {N : ℕ} (table : Table N) (needs : Phase) (words : List (List ℕ)) (P : Given → Process) (old : Scene) (events : List Happening) (end : End) (new : Scene) → WithRow table needs words P old events end new → IsKept old new ⊎ ((given : Given) × Options table words (Ok given) × P given old events end new)
unfolding Either ForSome Knowing Where
by_row table needs words P old events end new (inl (r, (n, p))) = inl (said_kept (event.Refused r) ends.Refused events end p)
by_row table needs words P old events end new (inr (Ok given, ((options, o, e), p))) = inr (given, subst (λ x. Options table words x) (given_by _ options given e) o, p)
by_row table needs words P old events end new (inr (Err r, (g, p))) = inl (said_kept (event.Refused r) ends.Refused events end p)

-- a write that did not go well broke off
broke_off : (name bytes : List ℕ) (fault : FileFault) (old new : Disk) → WritesFile name bytes old (Err fault) new → BreaksOff name bytes old.held new.held
broke_off name bytes faults.Failed old new (w, r) = w
broke_off name bytes (faults.NoMemory e) old new (w, r) = w
broke_off name bytes faults.NotThere old new w = absurd w
broke_off name bytes (faults.TooLong n) old new w = absurd w

-- a file that is refused may have a front of its bytes
pub stores_refused : (name bytes : List ℕ) (old : Scene) (events : List Happening) (end : End) (new : Scene) → end ≡ ends.Refused → Stores name bytes old events end new → IsKeptBut name bytes old new
unfolding ForSome Chain WritesWhole Ends
stores_refused name bytes old events end new r (answer, inl p) = absurd (refused_not_went r p.first.ended)
stores_refused name bytes old events end new r (Ok u, inr p) = absurd (refused_not_went r p.second.ended)
stores_refused name bytes old events end new r (Err fault, inr p) =
    let k : IsKept p.mid new = refusal_kept (file_refusal 0 name fault) p.behind end p.second in
    record {
      state = k.state ∙ ap (λ s. s.state) p.first.others;
      input = k.input ∙ ap (λ s. s.input) p.first.others;
      held = subst (λ held. BreaksOff name bytes old.disk.held held) (sym k.held) (broke_off name bytes fault old.disk p.mid.disk p.first.writes);
    }

-- a file is written, or refused
pub stores_caused : (name bytes : List ℕ) → Always (Stores name bytes) IsCaused
unfolding ForSome Chain WritesWhole
stores_caused name bytes old events end new (answer, inl p) = writes_caused name bytes answer old events end new p.first
stores_caused name bytes old events end new (answer, inr p) = subst (λ es. IsCaused old es end new) (sym p.joined) (by_answer answer p.first p.second)
  where
    by_answer : (a : Result (Unit {0}) FileFault) → WritesWhole name bytes a old p.before p.middle p.mid → AfterStore name a p.mid p.behind end new → IsCaused old (p.before ++ p.behind) end new
    by_answer (Ok u) w q = caused_both (writes_caused name bytes _ old p.before p.middle p.mid w) (ends_leave still_fact ends.Went refl p.mid p.behind end new q).caused
    by_answer (Err faults.Failed) w q = (failed_caused 0 name p.behind (writes_caused name bytes _ old p.before p.middle p.mid w) w.writes.1 q).1
    by_answer (Err (faults.NoMemory e)) w q = caused_both (writes_caused name bytes _ old p.before p.middle p.mid w) (refuses_leave still_fact _ refl p.mid p.behind end new q).caused
    by_answer (Err faults.NotThere) w q = absurd w.writes
    by_answer (Err (faults.TooLong n)) w q = absurd w.writes
