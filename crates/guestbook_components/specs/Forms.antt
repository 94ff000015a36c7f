-- The effects of the book's forms, and the users that may send them.
use Rattle.std.specs.Prelude.{◌≡◌, ℕ, IsTrue, List, [], ◌∷◌, Option, None, Some, codes}
use Rattle.std.specs.Option.{option_map_or}
use Rattle.std.specs.Str.Parse.{signed_digits_value}
use Rattle.sqlite.specs.Held.{Held}
use Rattle.sqlite.specs.Store.{Ghosts}
use Rattle.sqlite.specs.declared.types.Value.TheVariants.{Int}
use Rattle.sv_exchange.specs.Parameters.{parameter_of}
use Rattle.sv_exchange.specs.Sessions.{is_in_role}
use Rattle.sv_exchange.specs.State.{State}
use Rattle.sv_web.specs.Methods.{asked_for}
use Rattle.sv_web.specs.declared.methods.Verb.TheVariants.{Get, Post}
use Rattle.guestbook_components.specs.Book.{HasRun, entry_values}
use Rattle.guestbook_components.specs.declared.book.TheConstants.{DELETE, INSERT}
use Rattle.guestbook_components.specs.declared.guestbook.TheConstants.{ADMINISTRATOR}
use Rattle.guestbook_components.specs.declared.pages.Member.{Member}

-- a form is sent by POST and requested by GET
abbrev pub IsSent : State → Type 0
IsSent asked = asked_for asked.method (Get ∷ Post ∷ []) ≡ Some Post

abbrev pub or_empty : Option (List ℕ) → List ℕ
or_empty None = []
or_empty (Some text) = text

-- the first value of this name, or an empty text
abbrev pub value_of : List ℕ → State → List ℕ
value_of name asked = or_empty (parameter_of name asked)

-- the name of the caller, or an empty text
abbrev pub caller_name : State → List ℕ
caller_name asked = option_map_or (λ caller. caller.name) asked.caller []

-- the page has the name of the caller, and the forms of the caller's role
pub record IsOfMember (asked : State) (member : Member) : Type 0 where
  pub name : member.name.now ≡ caller_name asked
  pub role : member.is_administrator ≡ is_in_role ADMINISTRATOR.now asked.caller

module _ {S : Type 0} (g : Ghosts S) where
  -- adds an entry with the caller's name, the time of the request in seconds, and the words that were sent
  abbrev pub Writes : State → Held S → Held S → Type 0
  Writes asked = HasRun g INSERT.now (entry_values (caller_name asked) asked.moment (value_of (codes "words") asked))

  -- removes the entry of the number that was sent; the caller is an administrator
  abbrev pub Removes : State → Held S → Held S → Type 0
  Removes asked old new =
      IsTrue (is_in_role ADMINISTRATOR.now asked.caller) × HasRun g DELETE.now (Int (signed_digits_value 10 (value_of (codes "number") asked)) ∷ []) old new
