-- The context of a request (Jakarta Servlet 6.0, section 12.1).
use Rattle.std.specs.Prelude.{ℕ, List, map, find, Option}
use Rattle.sv_mapping.specs.Chosen.{is_chosen}
use Rattle.sv_policy.specs.declared.explained_context.ContextPolicy.{ContextPolicy}
use Rattle.sv_policy.specs.Compiled.{Standing}
use Rattle.sv_realm.specs.declared.account.User.{User}

-- A context with this path, these current constraints and these users.
abbrev pub policy : List ℕ → Standing → List User → ContextPolicy
policy its_path its_standing its_users = record { path = its_path; policy = its_standing; realm = its_users }

abbrev pub context_paths : List ContextPolicy → List (List ℕ)
context_paths contexts = map (λ context. context.path) contexts

-- The first context with the chosen context path.
abbrev pub context_of : List ContextPolicy → List ℕ → Option ContextPolicy
context_of contexts path = find (λ context. is_chosen (context_paths contexts) path context.path) contexts
