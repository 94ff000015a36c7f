-- The session that a message holds, and its caller (Jakarta Servlet 6.0, sections 7.1.1, 7.6 and 13.3).
use Rattle.std.specs.Prelude.{ℕ, List, Option, None, Some, option_and_then}
use Rattle.sv_login.specs.Held.{held}
use Rattle.sv_descriptor.specs.declared.web_app.WebApp.{WebApp}
use Rattle.sv_realm.specs.Realm.{caller_at}
use Rattle.sv_realm.specs.declared.caller.Caller.{Caller}
use Rattle.sv_realm.specs.declared.account.User.{User}
use Rattle.sv_session.specs.Calls.{caller_of, touched}
use Rattle.sv_session.specs.Store.{Store}
use Rattle.sv_exchange.specs.Asked.{Asked}

-- The session that the message's cookies name. Only cookies with the name of the context's session cookie count.
abbrev pub session_held : WebApp → Asked → Store → Option ℕ
session_held app asked store = held app.session.cookie.name asked.message.fields store

-- The message accesses the session that it holds, if any.
abbrev pub accessed : Option ℕ → ℕ → Store → Store
accessed None moment store = store
accessed (Some number) moment store = touched number moment store

-- The user who is logged in to a session, if any.
abbrev pub caller_held : List User → Option ℕ → Store → Option Caller
caller_held users session store = option_and_then (caller_at users) (option_and_then (λ number. caller_of number store) session)
