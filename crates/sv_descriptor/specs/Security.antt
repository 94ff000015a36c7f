-- Jakarta Servlet 6.0 section 13.8: the constraints, the roles and the login.
use Rattle.std.specs.Prelude.{Bool, [], codes, Ok}
use Rattle.toml.specs.Data.{Members}
use Rattle.sv_text.specs.Steps.{◌>>=◌}
use Rattle.sv_descriptor.specs.Fault.{Located}
use Rattle.sv_descriptor.specs.Table.{optional, optional_or}
use Rattle.sv_descriptor.specs.Value.{table_of}
use Rattle.sv_descriptor.specs.Constraint.{constraints}
use Rattle.sv_descriptor.specs.Login.{login_config}
use Rattle.sv_descriptor.specs.Role.{security_role}
use Rattle.sv_descriptor.specs.Tables.{tables}
use Rattle.sv_descriptor.specs.declared.security.Security.{Security}

-- The constraints, roles and login, and whether uncovered requests are denied.
abbrev pub security : Bool → Members → Located Security
security deny table = do
  its_constraints ← optional_or [] constraints (codes "security-constraint") table
  roles ← optional_or [] (tables security_role) (codes "security-role") table
  its_login ← optional (table_of login_config) (codes "login-config") table
  Ok (record { constraints = its_constraints; rules = record { declared = roles; deny_uncovered = deny }; login = its_login })
