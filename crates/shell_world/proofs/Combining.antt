-- How the steps of commands are put together: options and files that were read, and memory that was refused.
use Rattle.std.proofs.Common.{◌≡◌, ℕ, List, [], ◌∷◌, inl, refl, ap, ◌∙◌, ◌<◌, length, arith}
use Rattle.std.specs.Prelude.{Result, Ok, Err}
use Rattle.outside.specs.declared.files.FileFault.{FileFault}
use Rattle.outside.specs.declared.source.Line.{Line}
use Rattle.outside.specs.declared.source.LineFault.{LineFault}
use Rattle.shell_world.specs.declared.end.End.{End}
use Rattle.shell_world.specs.declared.end.End.TheVariants as ends
use Rattle.shell_world.specs.declared.refusal.Refusal.{Refusal}
use Rattle.shell_world.specs.declared.state.State.{State}
use Rattle.shell_world.specs.Outsides.{ReadsDisk, ReadsInput, WritesDisk}
use Rattle.shell_world.specs.Processes.{ForSome, MayLack, Process, Refuses, Then, Where}
use Rattle.shell_world.specs.Scenes.{Moment, Told, at, goes_along, scene_of}
use Rattle.shell_world.specs.Steps.{AfterFile, AfterStore, IsFileRead, IsFileWritten, IsLineRead, ReadsWhole, RefusesFile, Stores, TakesLine, WithFile, WithFirst, WritesWhole}
use Rattle.shell_world.specs.Texts.{refusal_number}
use Rattle.shell_world.specs.Written.{AreWritten, Performs}
use Rattle.shell_world.proofs.Performing.{here, led, left, none_written, right, some, went, went_on}

-- the sinks are as before
same_sinks : (old new : Told) → new.out ≡ old.out → new.err ≡ old.err → AreWritten [] old new
same_sinks old new o e =
    let w = none_written old in
    record { out = ap (λ x. x.written) o ∙ w.out; err = ap (λ x. x.written) e ∙ w.err; out_quiet = ap (λ x. x.faults) o; err_quiet = ap (λ x. x.faults) e }

-- memory was refused for a command, and it said so
pub lacked : (P : Process) (r : Refusal) {old new : Moment} {e : End} → refusal_number r ≡ 900 → Performs (Refuses r) old e new → Performs (MayLack P) old e new
lacked P r n p = left P (some (λ r. Where (refusal_number r ≡ 900) (Refuses r)) r (here n p))

-- memory was not refused
pub lacked_not : {P : Process} {old new : Moment} {e : End} → Performs P old e new → Performs (MayLack P) old e new
lacked_not p = right (ForSome (λ r. Where (refusal_number r ≡ 900) (Refuses r))) p

-- a line was read
pub line_read : (limit : ℕ) (answer : Result Line LineFault) (state : State) (old new : Told) → ReadsInput limit old answer new → Performs (TakesLine limit answer) (at state old) ends.Went (at state new)
unfolding TakesLine
line_read limit answer state old new r =
    let is : IsLineRead limit answer (scene_of (at state old)) [] ends.Went (scene_of (at state new)) = record {
      told = refl;
      ended = refl;
      reads = r.reads;
      others = ap (λ d. record { state = state; disk = d; input = new.input }) (ap (λ t. t.disk) r.others);
    } in
    record { events = []; happens = is; written = inl (went_on, same_sinks old new (ap (λ t. t.out) r.others) (ap (λ t. t.err) r.others)); same = ap (λ t. t.objects) r.others }

-- a file was read
pub file_read : (limit : ℕ) (name : List ℕ) (answer : Result (List ℕ) FileFault) (state : State) (old new : Told) → ReadsDisk limit name old answer new → Performs (ReadsWhole limit name answer) (at state old) ends.Went (at state new)
unfolding ReadsWhole
file_read limit name answer state old new r =
    let is : IsFileRead limit name answer (scene_of (at state old)) [] ends.Went (scene_of (at state new)) = record {
      told = refl;
      ended = refl;
      reads = r.reads;
      held = r.held;
      others = ap (λ i. record { state = state; disk = new.disk; input = i }) (ap (λ t. t.input) r.others);
    } in
    record { events = []; happens = is; written = inl (went_on, same_sinks old new (ap (λ t. t.out) r.others) (ap (λ t. t.err) r.others)); same = ap (λ t. t.objects) r.others }

-- a file was written
pub file_written : (name bytes : List ℕ) (answer : Result (Unit {0}) FileFault) (state : State) (old new : Told) → WritesDisk name bytes old answer new → Performs (WritesWhole name bytes answer) (at state old) ends.Went (at state new)
unfolding WritesWhole
file_written name bytes answer state old new r =
    let is : IsFileWritten name bytes answer (scene_of (at state old)) [] ends.Went (scene_of (at state new)) = record {
      told = refl;
      ended = refl;
      writes = r.writes;
      others = ap (λ i. record { state = state; disk = new.disk; input = i }) (ap (λ t. t.input) r.others);
    } in
    record { events = []; happens = is; written = inl (went_on, same_sinks old new (ap (λ t. t.out) r.others) (ap (λ t. t.err) r.others)); same = ap (λ t. t.objects) r.others }

-- what follows on a file that was read
pub with_file : (limit : ℕ) (name : List ℕ) (P : List ℕ → Process) (text : List ℕ) {old mid new : Moment} {e : End} → Performs (ReadsWhole limit name (Ok text)) old ends.Went mid → Performs (P text) mid e new → Performs (WithFile limit name P) old e new
with_file limit name P text p q = some (λ answer. Then (ReadsWhole limit name answer) (AfterFile limit name P answer)) (Ok text) (led goes_along (λ t. refl) p refl q)

-- a file was not read, and is refused
pub without_file : (limit : ℕ) (name : List ℕ) (P : List ℕ → Process) (fault : FileFault) {old mid new : Moment} {e : End} → Performs (ReadsWhole limit name (Err fault)) old ends.Went mid → Performs (RefusesFile limit name fault) mid e new → Performs (WithFile limit name P) old e new
without_file limit name P fault p q = some (λ answer. Then (ReadsWhole limit name answer) (AfterFile limit name P answer)) (Err fault) (led goes_along (λ t. refl) p refl q)

-- a file was written
pub stored : (name bytes : List ℕ) (u : Unit {0}) {old new : Moment} → Performs (WritesWhole name bytes (Ok u)) old ends.Went new → Performs (Stores name bytes) old ends.Went new
stored name bytes u {new = new} p = some (λ answer. Then (WritesWhole name bytes answer) (AfterStore name answer)) (Ok u) (led goes_along (λ t. refl) p refl (went new))

-- a file was not written, and is refused
pub stored_not : (name bytes : List ℕ) (fault : FileFault) {old mid new : Moment} {e : End} → Performs (WritesWhole name bytes (Err fault)) old ends.Went mid → Performs (RefusesFile 0 name fault) mid e new → Performs (Stores name bytes) old e new
stored_not name bytes fault p q = some (λ answer. Then (WritesWhole name bytes answer) (AfterStore name answer)) (Err fault) (led goes_along (λ t. refl) p refl q)

-- there is no first word
pub with_none : (P : List ℕ → Process) (words : List (List ℕ)) (now : Moment) → length words < 1 → Performs (WithFirst P words) now ends.Went now
with_none P [] now h = went now
with_none P (word ∷ words) now h = absurd (omega arith)
