-- The policy of one context, and the caller: Jakarta Servlet 6.0, section 13.8.
use Rattle.std.specs.Prelude.{ℕ, List, [], ◌∷◌, codes, Option, None, Some, Ok}
use Rattle.sv_text.specs.Steps.{◌>>=◌}
use Rattle.sv_descriptor.specs.Fault.{Reads}
use Rattle.sv_descriptor.specs.Descriptor.{descriptor_of}
use Rattle.sv_policy.specs.Compiled.{compiled}
use Rattle.sv_realm.specs.declared.account.User.{User}
use Rattle.sv_policy.specs.Context.{policy}
use Rattle.sv_policy.specs.Explanation.{Answer, explanation}
use Rattle.sv_policy_c.specs.declared.engine.Engine.{Engine}

-- the engine of a context with this path and a descriptor with this text, without a caller
abbrev pub engine_of : List ℕ → List ℕ → Reads Engine
engine_of path text = do
  web_app ← descriptor_of text
  Ok (record { path = path; policy = compiled web_app.constraints web_app.rules; caller = None })

-- the users of the context: one with these roles, if there is a caller
abbrev pub users_of : Option (List (List ℕ)) → List User
users_of None = []
users_of (Some roles) = record { name = codes "caller"; salt = []; digest = []; roles = roles } ∷ []

-- the name of the caller
abbrev pub user_of : Option (List (List ℕ)) → Option (List ℕ)
user_of None = None
user_of (Some roles) = Some (codes "caller")

-- the answer to a request: that of a server with only this context
abbrev pub explained : Engine → List ℕ → List ℕ → Answer
explained engine method target = explanation (policy engine.path engine.policy (users_of engine.caller) ∷ []) method target (user_of engine.caller)
