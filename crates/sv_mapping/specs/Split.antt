-- The split of a matched path into servlet path and path info (Jakarta Servlet 6.0, section 3.5).
use Rattle.std.specs.Prelude.{ℕ, nat_lt, List, [], length, drop, codes, if◌then◌else◌, Option, Some, None}
use Rattle.sv_mapping.specs.Pattern.{Form, Root, Default, Extension, Prefix, Exact, form}

abbrev pub form_servlet_path : Form → List ℕ → List ℕ
form_servlet_path Root path = []
form_servlet_path Default path = path
form_servlet_path (Extension wanted) path = path
form_servlet_path (Prefix prefix) path = prefix
form_servlet_path (Exact text) path = path

-- The rest after the first bytes, unless it is empty.
abbrev pub rest_from : ℕ → List ℕ → Option (List ℕ)
rest_from len path = if nat_lt len (length path) then Some (drop len path) else None

abbrev pub form_path_info : Form → List ℕ → Option (List ℕ)
form_path_info Root path = Some (codes "/")
form_path_info Default path = None
form_path_info (Extension wanted) path = None
form_path_info (Prefix prefix) path = rest_from (length prefix) path
form_path_info (Exact text) path = None

abbrev pub servlet_path : List ℕ → List ℕ → List ℕ
servlet_path pattern path = form_servlet_path (form pattern) path

abbrev pub path_info : List ℕ → List ℕ → Option (List ℕ)
path_info pattern path = form_path_info (form pattern) path
