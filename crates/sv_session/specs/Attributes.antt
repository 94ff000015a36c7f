-- Jakarta Servlet 6.0, section 7.4: the attributes of a session, in the order they were first set.
use Rattle.std.specs.Prelude.{ℕ, Bool, List, [], ◌∷◌, ◌++◌, Option, find, if◌then◌else◌}
use Rattle.std.specs.List.{list_any}
use Rattle.std.specs.Option.{option_map}
use Rattle.std.specs.Str.{bytes_eq}
use Rattle.sv_session.specs.declared.slot.Attribute.{Attribute}
use Rattle.sv_session.specs.Lists.{on_first, without_first}

abbrev pub is_named : List ℕ → Attribute → Bool
is_named name attribute = bytes_eq attribute.name name

abbrev pub value_named : List ℕ → List Attribute → Option (List ℕ)
value_named name attributes = option_map (λ attribute. attribute.value) (find (is_named name) attributes)

abbrev pub names_one : List ℕ → List Attribute → Bool
names_one name attributes = list_any (is_named name) attributes

-- The value of an existing attribute is replaced; otherwise the attribute is appended.
abbrev pub with_named : List ℕ → List ℕ → List Attribute → List Attribute
with_named name value attributes =
    if names_one name attributes
    then on_first (is_named name) (λ attribute. record attribute { value = value }) attributes
    else attributes ++ record { name = name; value = value } ∷ []

abbrev pub without_named : List ℕ → List Attribute → List Attribute
without_named name attributes = without_first (is_named name) attributes
