-- The attributes of a request, set by components or by dispatches (Jakarta Servlet 6.0, sections 3.3, 9.3.1, 9.4.2 and
-- 10.9.1).
use Rattle.std.specs.Prelude.{ℕ, Bool, List, [], ◌∷◌, length, drop, reverse, bytes_eq, nat_eq, codes, Option, None, Some, if◌then◌else◌}
use Rattle.std.specs.List.{starts_with}
use Rattle.std.specs.Option.{option_and_then, option_map_or}
use Rattle.sv_mapping.specs.declared.kind.Kind.{Kind}
use Rattle.sv_mapping.specs.declared.kind.Kind.TheVariants as kinds
use Rattle.sv_exchange.specs.declared.attributes.Attribute.{Attribute}
use Rattle.sv_exchange.specs.declared.dispatch.Dispatch.{Dispatch}
use Rattle.sv_exchange.specs.Paths.{Paths}
use Rattle.sv_exchange.specs.declared.error.ToldError.{ToldError}
use Rattle.sv_exchange.specs.State.{State}

-- The names that only dispatches set.
abbrev pub is_reserved_attribute : List ℕ → Bool
is_reserved_attribute name = starts_with nat_eq name (codes "jakarta.servlet.")

-- The value of the attribute with the name.
abbrev pub value_named : List ℕ → List Attribute → Option (List ℕ)
value_named name [] = None
value_named name (attribute ∷ attributes) =
    if bytes_eq attribute.name name then Some attribute.value else value_named name attributes

-- Sets the value of the attribute with the name, or adds one.
abbrev pub set_value : List ℕ → List ℕ → List Attribute → List Attribute
set_value name value [] = (record { name = name; value = value }) ∷ []
set_value name value (attribute ∷ attributes) =
    if bytes_eq attribute.name name then (record { name = name; value = value }) ∷ attributes
    else attribute ∷ set_value name value attributes

-- The rest of a name after a prefix, if the name begins with it.
abbrev pub behind : List ℕ → List ℕ → Option (List ℕ)
behind front name = if starts_with nat_eq name front then Some (drop (length front) name) else None

-- The rest of a name after the prefix of the attributes that a kind of dispatch sets.
abbrev pub rest_of : Kind → List ℕ → Option (List ℕ)
rest_of kinds.Request name = None
rest_of kinds.Forward name = behind (codes "jakarta.servlet.forward.") name
rest_of kinds.Include name = behind (codes "jakarta.servlet.include.") name
rest_of kinds.Error name = behind (codes "jakarta.servlet.error.") name

-- The value that paths give for the rest of a name.
abbrev pub told_of : List ℕ → List ℕ → Paths → Option (List ℕ)
told_of rest context_path paths =
    if bytes_eq rest (codes "request_uri") then Some paths.uri
    else if bytes_eq rest (codes "context_path") then Some context_path
    else if bytes_eq rest (codes "servlet_path") then paths.servlet_path
    else if bytes_eq rest (codes "path_info") then paths.path_info
    else if bytes_eq rest (codes "query_string") then paths.query
    else None

-- The value that an error gives for the rest of a name.
abbrev pub told_of_error : List ℕ → ToldError → Option (List ℕ)
told_of_error rest error =
    if bytes_eq rest (codes "status_code") then Some error.status_code
    else if bytes_eq rest (codes "message") then Some error.message
    else if bytes_eq rest (codes "servlet_name") then error.servlet_name
    else None

-- The value that a dispatch gives for the rest of a name. A forward describes the client's request, an include the
-- included path, and an error page the client's URI and the error.
abbrev pub told_by : Kind → Dispatch → State → List ℕ → Option (List ℕ)
told_by kinds.Request dispatch x rest = None
told_by kinds.Forward dispatch x rest = told_of rest x.context_path x.client
told_by kinds.Include dispatch x rest = told_of rest x.context_path dispatch.paths
told_by kinds.Error dispatch x rest =
    if bytes_eq rest (codes "request_uri") then Some x.client.uri else option_and_then (told_of_error rest) dispatch.error

-- The value of a reserved attribute, from the innermost dispatch that sets names with its prefix.
abbrev pub told_innermost : State → List ℕ → List Dispatch → Option (List ℕ)
told_innermost x name [] = None
told_innermost x name (dispatch ∷ outer) =
    option_map_or (told_by dispatch.kind dispatch x) (rest_of dispatch.kind name) (told_innermost x name outer)

-- The value of the attribute with the name.
abbrev pub attribute_of : List ℕ → State → Option (List ℕ)
attribute_of name x =
    if is_reserved_attribute name then told_innermost x name (reverse x.dispatches) else value_named name x.attributes
