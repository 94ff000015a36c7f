-- The effects of the book's SQL statements, from SQLite's contracts.
use Rattle.std.specs.Prelude.{◌≡◌, ℕ, pos, List, [], ◌∷◌, Ok, string_bytes}
use Rattle.sqlite.specs.Held.{Held, state}
use Rattle.sqlite.specs.Order.{Row, column}
use Rattle.sqlite.specs.State.{Executes, HasCleanDisk}
use Rattle.sqlite.specs.Store.{Ghosts}
use Rattle.sqlite.specs.declared.types.Value.TheVariants.{Int, Text}
use Rattle.guestbook_components.specs.declared.book.Entry.{Entry}

-- the statement ran with these values and had its effect; a disk that lost its data is excluded
abbrev pub HasRun : {S : Type 0} → Ghosts S → List ℕ → Row → Held S → Held S → Type 0
HasRun g sql values old new = HasCleanDisk (state g new) → (count : ℕ) × Executes sql values (state g old) (state g new) (Ok count)

-- the columns of an entry: the author, the time in seconds since 1970, and the words
abbrev pub entry_values : List ℕ → ℕ → List ℕ → Row
entry_values author moment words = Text author ∷ Int (pos moment) ∷ Text words ∷ []

-- the columns of a row: the entry's number, author, time and words
pub record IsEntryOf (row : Row) (entry : Entry) : Type 0 where
  pub number : column row 0 ≡ Int entry.number
  pub author : column row 1 ≡ Text (string_bytes entry.author)
  pub moment : column row 2 ≡ Int entry.moment
  pub words : column row 3 ≡ Text (string_bytes entry.words)
