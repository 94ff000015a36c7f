-- Jakarta Servlet 6.0, sections 10.5 and 10.6: folders of an application whose content is never served to clients.
use Rattle.std.specs.Prelude.{ℕ, Bool, ◌||◌, List, codes}
use Rattle.std.specs.List.{after_first, before_first}
use Rattle.std.specs.Str.{str_eq_ignore_ascii_case}
use Rattle.sv_mapping.specs.Pattern.{is_slash}

-- The bytes between the first slash of a path and the next.
abbrev pub first_segment : List ℕ → List ℕ
first_segment path = before_first is_slash (after_first is_slash path)

abbrev pub is_protected_folder : List ℕ → Bool
is_protected_folder name = str_eq_ignore_ascii_case name (codes "WEB-INF") || str_eq_ignore_ascii_case name (codes "META-INF")

-- The path within a context leads into one of these folders.
abbrev pub is_protected : List ℕ → Bool
is_protected path = is_protected_folder (first_segment path)
