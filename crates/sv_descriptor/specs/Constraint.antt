-- Jakarta Servlet 6.0 section 13.8 (security-constraint).
use Rattle.std.specs.Prelude.{ℕ, ◌+◌, List, [], ◌∷◌, codes, if◌then◌else◌, Ok}
use Rattle.std.specs.Str.{bytes_eq}
use Rattle.toml.specs.Data.{Members}
use Rattle.sv_constraints.specs.declared.constraint.Constraint.{Constraint}
use Rattle.sv_constraints.specs.declared.constraint.Auth.{Auth}
use Rattle.sv_constraints.specs.declared.constraint.Auth.TheVariants as auth
use Rattle.sv_constraints.specs.declared.constraint.Transport.{Transport}
use Rattle.sv_constraints.specs.declared.constraint.Transport.TheVariants as transport
use Rattle.sv_text.specs.Steps.{◌>>=◌, ◌>>◌}
use Rattle.sv_descriptor.specs.Fault.{Located, refuse}
use Rattle.sv_descriptor.specs.ListOf.{list_of_texts}
use Rattle.sv_descriptor.specs.Table.{required, optional_or}
use Rattle.sv_descriptor.specs.Value.{Reader, name, text_of, table_of}
use Rattle.sv_descriptor.specs.declared.fault.FaultCode.TheVariants.{BadValue}
use Rattle.sv_descriptor.specs.declared.limits.TheConstants.{MAX_LIST_ITEMS}
use Rattle.sv_descriptor.specs.Collection.{collections}
use Rattle.sv_descriptor.specs.Ignored.{element_keys}
use Rattle.sv_descriptor.specs.Tables.{tables}

abbrev pub auth_constraint : Members → Located Auth
auth_constraint table = do
  element_keys (codes "role-name" ∷ []) table
  roles ← optional_or [] (list_of_texts 0 MAX_LIST_ITEMS name) (codes "role-name") table
  Ok (auth.Roles roles)

abbrev pub transport_guarantee : List ℕ → List ℕ → Located Transport
transport_guarantee key text =
    if bytes_eq text (codes "NONE") then Ok transport.Plain
    else if bytes_eq text (codes "INTEGRAL") then Ok transport.Integral
    else if bytes_eq text (codes "CONFIDENTIAL") then Ok transport.Confidential
    else refuse BadValue key

abbrev pub user_data_constraint : Members → Located Transport
user_data_constraint table = do
  element_keys (codes "transport-guarantee" ∷ []) table
  required (text_of transport_guarantee) (codes "transport-guarantee") table

-- A constraint has the number 0 until all are numbered.
abbrev pub constraint : Members → Located Constraint
constraint table = do
  element_keys (codes "web-resource-collection" ∷ codes "auth-constraint" ∷ codes "user-data-constraint" ∷ []) table
  its_collections ← required collections (codes "web-resource-collection") table
  its_auth ← optional_or auth.Absent (table_of auth_constraint) (codes "auth-constraint") table
  its_transport ← optional_or transport.Absent (table_of user_data_constraint) (codes "user-data-constraint") table
  Ok (record { number = 0; collections = its_collections; auth = its_auth; transport = its_transport })

-- The constraints, numbered in order.
abbrev pub numbered : ℕ → List Constraint → List Constraint
numbered number [] = []
numbered number (c ∷ rest) = record c { number = number } ∷ numbered (number + 1) rest

abbrev pub constraints : Reader (List Constraint)
constraints key value = do
  unnumbered ← tables constraint key value
  Ok (numbered 1 unnumbered)
