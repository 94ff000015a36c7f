-- The order in which the components of a context are initialized (Jakarta Servlet 6.0, sections 2.3.1, 6.2.1 and 14.4).
use Rattle.std.specs.Prelude.{◌≡◌, ℕ, ℤ, pos, negsuc, ◌<◌, ◌≤◌, ◌⊎◌, List, ◌++◌, length, map, slice_get, Option, Some, None}
use Rattle.std.specs.Option.{option_and_then}
use Rattle.std.specs.List.{AllAdjacentBelow, range_with_len}
use Rattle.std.specs.List.Sorted.{IsPermutation}
use Rattle.sv_descriptor.specs.declared.servlet.ServletEntry.{ServletEntry}
use Rattle.sv_descriptor.specs.declared.web_app.WebApp.{WebApp}
use Rattle.sv_journal.specs.declared.calls.Place.{Place}
use Rattle.sv_journal.specs.declared.calls.Place.TheVariants.{Filter, Servlet}
use Rattle.sv_lifecycle.specs.declared.order.TheConstants.{LAST}

-- The rank of a load-on-startup: its number, or a rank after all numbers if it is missing or negative.
abbrev pub rank_of : Option ℤ → ℕ
rank_of (Some (pos number)) = number
rank_of (Some (negsuc number)) = LAST
rank_of None = LAST

-- The rank of the servlet at an index.
abbrev pub rank_at : List ServletEntry → ℕ → ℕ
rank_at servlets place = rank_of (option_and_then (λ servlet. servlet.load_on_startup) (slice_get servlets place))

-- Lower ranks come first. Servlets of equal rank keep the order of their declaration.
abbrev pub ComesFirst : List ServletEntry → ℕ → ℕ → Type 0
ComesFirst servlets one other =
    (rank_at servlets one < rank_at servlets other) ⊎ ((rank_at servlets one ≡ rank_at servlets other) × (one ≤ other))

-- The indexes of the servlets, each once, in load-on-startup order.
pub record IsLoadOrder (servlets : List ServletEntry) (order : List ℕ) : Type 0 where
  pub each_once : IsPermutation (range_with_len 0 (length servlets)) order
  pub in_order : AllAdjacentBelow (ComesFirst servlets) order (length order)

-- Filters in descriptor order, followed by servlets in load-on-startup order.
abbrev pub init_order : WebApp → List ℕ → List Place
init_order app order = map Filter (range_with_len 0 (length app.filters)) ++ map Servlet order
