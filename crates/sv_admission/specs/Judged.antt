-- The findings about a message, and its outcome (Jakarta Servlet 6.0, sections 10.5, 13.6.3 and 13.8).
use Rattle.std.specs.Prelude.{ℕ, List, Option, codes, find, if◌then◌else◌}
use Rattle.std.specs.Option.{option_map, option_map_or}
use Rattle.sv_constraints.specs.Verdict.{verdict}
use Rattle.sv_mapping.specs.Protected.{is_protected}
use Rattle.sv_descriptor.specs.declared.web_app.WebApp.{WebApp}
use Rattle.sv_message.specs.Fields.{is_named}
use Rattle.sv_message.specs.declared.field.Field.{Field}
use Rattle.sv_login.specs.Login.{login}
use Rattle.sv_login.specs.Post.{Post, post_of}
use Rattle.sv_login.specs.declared.step.LoginOutcome.{LoginOutcome}
use Rattle.sv_login.specs.Outcome.{Findings, outcome}
use Rattle.sv_login.specs.declared.outcome.Outcome.{Outcome}
use Rattle.sv_policy.specs.Compiled.{Standing}
use Rattle.sv_realm.specs.declared.account.User.{User}
use Rattle.sv_session.specs.Store.{Store}
use Rattle.sv_exchange.specs.Asked.{Asked}
use Rattle.sv_admission.specs.Held.{caller_held}

-- The content type of the body.
abbrev pub content_type : List Field → Option (List ℕ)
content_type fields = option_map (λ field. field.value.bytes) (find (is_named (codes "content-type")) fields)

abbrev pub post_in : Asked → Post
post_in asked = post_of asked.message.method asked.canon.path (content_type asked.message.fields) asked.message.body

-- The login step of the message, if the context has form login: its outcome and the sessions after it.
abbrev pub login_step : WebApp → List User → Asked → Option ℕ → Store → Option (LoginOutcome × Store)
login_step app users asked session store =
    option_map (λ pages. login users (post_in asked) session asked.words asked.moment store) app.login

-- The findings about a message. The verdict is that of the current constraints.
abbrev pub findings : WebApp → Standing → List User → Asked → Option ℕ → Store → Findings
findings app standing users asked session store = record {
  is_protected = is_protected asked.canon.path;
  login = option_map (λ step. step.0) (login_step app users asked session store);
  verdict = verdict standing.constraints standing.rules asked.message.method asked.canon.path (caller_held users session store);
}

abbrev pub outcome_of : WebApp → Standing → List User → Asked → Option ℕ → Store → Outcome
outcome_of app standing users asked session store = outcome (findings app standing users asked session store)

-- The sessions after the login step. A message to a hidden folder has no login step.
abbrev pub left_by_login : WebApp → List User → Asked → Option ℕ → Store → Store
left_by_login app users asked session store =
    if is_protected asked.canon.path then store
    else option_map_or (λ step. step.1) (login_step app users asked session store) store
