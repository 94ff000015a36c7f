-- The page for an error: Jakarta Servlet 6.0, section 10.9.2.
use Rattle.std.specs.Prelude.{ℕ, Bool, true, false, ◌==◌, List, Option, find}
use Rattle.std.specs.Option.{option_and_then, option_map, option_or}
use Rattle.std.specs.Str.{bytes_eq}
use Rattle.sv_descriptor.specs.declared.error_page.ErrorPage.{ErrorPage}
use Rattle.sv_descriptor.specs.declared.error_page.PageFor.{PageFor}
use Rattle.sv_descriptor.specs.declared.error_page.PageFor.TheVariants.{Status, Exception, Any}

-- The page is for faults of this kind.
abbrev pub is_for_kind : List ℕ → PageFor → Bool
is_for_kind kind (Status status) = false
is_for_kind kind (Exception name) = bytes_eq name kind
is_for_kind kind Any = false

-- The page is for this status.
abbrev pub is_for_status : ℕ → PageFor → Bool
is_for_status wanted (Status status) = status == wanted
is_for_status wanted (Exception name) = false
is_for_status wanted Any = false

-- The page is for all errors that have no other page.
abbrev pub is_for_any : PageFor → Bool
is_for_any (Status status) = false
is_for_any (Exception name) = false
is_for_any Any = true

-- The first page that passes the test.
abbrev pub first_page : (PageFor → Bool) → List ErrorPage → Option ErrorPage
first_page test pages = find (λ page. test page.page_for) pages

-- The page for an error: for its kind, if it has one, otherwise for its status, otherwise for all errors.
abbrev pub chosen : List ErrorPage → ℕ → Option (List ℕ) → Option ErrorPage
chosen pages status kind =
    option_or (option_and_then (λ name. first_page (is_for_kind name) pages) kind)
    (option_or (first_page (is_for_status status) pages) (first_page is_for_any pages))

-- The location of that page.
abbrev pub page_for : List ErrorPage → ℕ → Option (List ℕ) → Option (List ℕ)
page_for pages status kind = option_map (λ page. page.location) (chosen pages status kind)
