use Rattle.sv_container.proofs.seeded_start.start_resumed.Goals as goal

pub returns-in-Err : goal.returns-in-Err
returns-in-Err g c = (
  c.from_seed.result,
  c.from_seed.ensures,
  (
    c.resume-started.new.journal,
    c.in-Err.fault,
    rw c.new-journal.ensures at c.in-Err.ensures,
    rw (c.into_cause-code.ensures.code, c.into_cause-code.ensures.context) at c.start_fault.ensures,
  ),
)
