mod AnsweringLemmas
mod DroppingLemmas
mod SignalLemmas
mod SlewingLemmas
