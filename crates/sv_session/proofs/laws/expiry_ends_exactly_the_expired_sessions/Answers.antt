use Rattle.sv_session.proofs.ExpiryLemmas.{ends_all, ends_none_again, none_from_none, none_where_none}
use Rattle.sv_session.proofs.laws.expiry_ends_exactly_the_expired_sessions.Goals as goal

pub returns-clause-none : goal.returns-clause-none
returns-clause-none c now store = (none_where_none now store, none_from_none now store)

pub returns-clause-all : goal.returns-clause-all
returns-clause-all c now before after sessions orderly runs = ends_all now sessions before after orderly runs

pub returns-clause-again : goal.returns-clause-again
returns-clause-again c now before after sessions runs = ends_none_again now sessions before after runs
