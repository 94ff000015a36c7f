mod MappingLemmas
mod AnswerLemmas
mod AuditLemmas
mod MethodLemmas
mod FilesFaults
mod AuditRun
mod Collected
mod OtherServer
