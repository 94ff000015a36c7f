-- The content of a file: a context that was suspended, and when (Jakarta Servlet 6.0, chapter 7 and section 13.8).
use Rattle.std.specs.Prelude.{ℕ, List, [], ◌∷◌, codes}
use Rattle.std.specs.List.{concat}
use Rattle.sv_constraints.specs.declared.constraint.Auth.{Auth}
use Rattle.sv_constraints.specs.declared.constraint.Auth.TheVariants as auth
use Rattle.sv_constraints.specs.declared.constraint.Collection.{Collection}
use Rattle.sv_constraints.specs.declared.constraint.Constraint.{Constraint}
use Rattle.sv_constraints.specs.declared.constraint.Methods.{Methods}
use Rattle.sv_constraints.specs.declared.constraint.Methods.TheVariants as methods
use Rattle.sv_constraints.specs.declared.constraint.Transport.{Transport}
use Rattle.sv_constraints.specs.declared.constraint.Transport.TheVariants as transport
use Rattle.sv_lifecycle.specs.declared.suspended_context.SuspendedContext.{SuspendedContext}
use Rattle.sv_realm.specs.declared.account.User.{User}
use Rattle.sv_saved_sessions.specs.Encoding.{list_bytes, number_bytes, optional_bytes, text_bytes}
use Rattle.sv_session.specs.Store.{Session}
use Rattle.sv_session.specs.declared.slot.Attribute.{Attribute}

-- The first line of each file: the program and the version of the format.
abbrev pub magic_line : List ℕ
magic_line = codes "fitskhela sessions 1\n"

abbrev pub texts_bytes : List (List ℕ) → List ℕ
texts_bytes texts = list_bytes text_bytes texts

abbrev pub user_bytes : User → List ℕ
user_bytes user = concat (text_bytes user.name ∷ text_bytes user.salt ∷ text_bytes user.digest ∷ texts_bytes user.roles ∷ [])

-- The methods of a collection: a byte for the kind, and their names if there are any.
abbrev pub methods_bytes : Methods → List ℕ
methods_bytes methods.All = 0 ∷ []
methods_bytes (methods.Only names) = 1 ∷ texts_bytes names
methods_bytes (methods.Except names) = 2 ∷ texts_bytes names

abbrev pub collection_bytes : Collection → List ℕ
collection_bytes collection = concat (texts_bytes collection.patterns ∷ methods_bytes collection.methods ∷ [])

-- The roles that an authorization constraint names: an option of a list.
abbrev pub auth_bytes : Auth → List ℕ
auth_bytes auth.Absent = 0 ∷ []
auth_bytes (auth.Roles names) = 1 ∷ texts_bytes names

abbrev pub transport_bytes : Transport → List ℕ
transport_bytes transport.Absent = 0 ∷ []
transport_bytes transport.Plain = 1 ∷ []
transport_bytes transport.Integral = 2 ∷ []
transport_bytes transport.Confidential = 3 ∷ []

abbrev pub constraint_bytes : Constraint → List ℕ
constraint_bytes constraint = concat (
    number_bytes constraint.number
    ∷ list_bytes collection_bytes constraint.collections
    ∷ auth_bytes constraint.auth
    ∷ transport_bytes constraint.transport
    ∷ [])

abbrev pub attribute_bytes : Attribute → List ℕ
attribute_bytes attribute = concat (text_bytes attribute.name ∷ text_bytes attribute.value ∷ [])

abbrev pub session_bytes : Session → List ℕ
session_bytes session = concat (
    number_bytes session.number
    ∷ text_bytes session.id
    ∷ number_bytes session.last_access
    ∷ optional_bytes number_bytes session.caller
    ∷ optional_bytes text_bytes session.saved
    ∷ list_bytes attribute_bytes session.attributes
    ∷ [])

-- A context that was suspended at a time, in seconds.
unfoldable pub content : ℕ → SuspendedContext → List ℕ
content moment context = concat (
    magic_line
    ∷ text_bytes context.path
    ∷ number_bytes moment
    ∷ list_bytes user_bytes context.users
    ∷ list_bytes constraint_bytes context.declared
    ∷ list_bytes constraint_bytes context.constraints
    ∷ number_bytes context.greatest
    ∷ number_bytes context.sessions.store.serial
    ∷ list_bytes session_bytes context.sessions.store.sessions
    ∷ [])
