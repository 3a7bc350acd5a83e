use Rattle.std.proofs.Common.{inl, subst, arith}
use Rattle.std.specs.Prelude.{Ok, Err}
use Rattle.sat_log_text.specs.Answers.{IsAnswer}
use Rattle.sat_log_text.proofs.FaultLaws.{read_log, log_read, refused_fault, fault_read}
use Rattle.sat_log_text.proofs.text.read_text.Goals as goal

pub returns-in-Ok-clause-read : goal.returns-in-Ok-clause-read
returns-in-Ok-clause-read c = read_log _ _ c.in-Ok.ensures

pub returns-in-Err-clause-refused : goal.returns-in-Err-clause-refused
returns-in-Err-clause-refused c = refused_fault _ _ c.in-Err.ensures

pub returns-in-Ok-clause-log : goal.returns-in-Ok-clause-log
returns-in-Ok-clause-log c =
    λ log h t. subst (IsAnswer (Ok c.in-Ok.log)) (log_read _ log (omega arith) h t) c.in-Ok.ensures

pub returns-in-Err-clause-log : goal.returns-in-Err-clause-log
returns-in-Err-clause-log c =
    λ log h t. subst (IsAnswer (Err c.in-Err.fault)) (log_read _ log (omega arith) h t) c.in-Err.ensures

pub returns-in-Ok-clause-fault : goal.returns-in-Ok-clause-fault
returns-in-Ok-clause-fault c =
    λ fault h. subst (IsAnswer (Ok c.in-Ok.log)) (fault_read _ fault (omega arith) h) c.in-Ok.ensures

pub returns-in-Err-clause-fault : goal.returns-in-Err-clause-fault
returns-in-Err-clause-fault c =
    λ fault h. subst (IsAnswer (Err c.in-Err.fault)) (fault_read _ fault (omega arith) h) c.in-Err.ensures

pub returns-in-Ok-clause-written : goal.returns-in-Ok-clause-written
returns-in-Ok-clause-written c =
    λ log h e. subst (IsAnswer (Ok c.in-Ok.log)) (log_read _ log (omega arith) h (inl e)) c.in-Ok.ensures

pub returns-in-Err-clause-written : goal.returns-in-Err-clause-written
returns-in-Err-clause-written c =
    λ log h e. subst (IsAnswer (Err c.in-Err.fault)) (log_read _ log (omega arith) h (inl e)) c.in-Err.ensures
