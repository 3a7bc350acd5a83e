-- What the calls on an input and an output answer and leave.
use Rattle.std.specs.Prelude.{◌≡◌, ◌<◌, ◌≤◌, ℕ, List, [], ◌++◌, length, take, Result, IfOk, IfSome, OnOk, OnErr, ◌↔◌}
use Rattle.std.specs.Io.KnownBytes.{append_known, prepend_known}
use Rattle.outside.specs.declared.Failed.{Failed}
use Rattle.outside.specs.Told.{AddsFront, HasRisen, Input, Output}

-- What a call that writes these bytes answers and leaves: all of them were written and no write
-- failed, or, after the first write that failed, a front of them.
pub record Writes {X : Type 0} (bytes : List ℕ) (old : Output) (result : Result X Failed) (new : Output) : Type 0 where
  pub ok : OnOk result (new.written ≡ append_known old.written bytes)
  pub err : OnErr result (AddsFront old.written new.written bytes)
  pub quiet : OnOk result (new.faults ≡ old.faults)
  pub cause : OnErr result (HasRisen old.faults new.faults)

-- What an output that is offered these bytes answers and leaves: how many of them it took, one at
-- least if there are any, or a fault.
pub record Takes (bytes : List ℕ) (old : Output) (result : Result ℕ Failed) (new : Output) : Type 0 where
  pub within : IfOk result (λ n. n ≤ length bytes)
  pub some : 0 < length bytes → IfOk result (λ n. 0 < n)
  pub ok : IfOk result (λ n. new.written ≡ append_known old.written (take n bytes))
  pub err : OnErr result (new.written ≡ old.written)
  pub quiet : OnOk result (new.faults ≡ old.faults)
  pub cause : OnErr result (HasRisen old.faults new.faults)

-- What an input answers that is asked to fill a buffer, and what it leaves: how many bytes it gave,
-- none for a buffer with room exactly at its end, or a fault.
pub record Fills (buffer filled : List ℕ) (old : Input) (result : Result ℕ Failed) (new : Input) : Type 0 where
  pub within : IfOk result (λ n. n ≤ length buffer)
  pub ok : IfOk result (λ n. old.left ≡ prepend_known (take n filled) new.left)
  pub end : 0 < length buffer → IfOk result (λ n. IfSome old.left (λ bytes. (n ≡ 0) ↔ (bytes ≡ [])))
  pub err : OnErr result (new.left ≡ old.left)
  pub quiet : OnOk result (new.faults ≡ old.faults)
  pub cause : OnErr result (HasRisen old.faults new.faults)
