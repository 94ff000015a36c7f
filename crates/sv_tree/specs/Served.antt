-- The response to a request (Jakarta Servlet 6.0, sections 9.5 and 10.9): one dispatch. If it ends in an error that can
-- still be shown, the error page follows, or the plain response.
use Rattle.std.specs.Prelude.{ℕ, List, [], ◌++◌, codes, decimal, Option, None, Some}
use Rattle.sv_exchange.specs.Changing.{SetHeader, SetStatus, Write}
use Rattle.sv_exchange.specs.Keeping.{broken_off}
use Rattle.sv_mapping.specs.declared.kind.Kind.{Kind}
use Rattle.sv_mapping.specs.declared.kind.Kind.TheVariants as kinds
use Rattle.sv_tree.specs.Does.{Does, ◌>>=◌, ◌>>◌, becomes, choose, gives, makes, sees, wants_memory}
use Rattle.sv_tree.specs.Endings.{keeps}
use Rattle.sv_tree.specs.Site.{Site}
use Rattle.sv_tree.specs.State.{Exchange, KeptError, KeptField, on_exchange}
use Rattle.sv_tree.specs.Tree.{Tree}
use Rattle.sv_tree.specs.declared.finished.Finished.{Finished}
use Rattle.sv_tree.specs.declared.finished.Finished.TheVariants.{Done, Error, Failed}
use Rattle.sv_tree.specs.declared.limits.TheConstants.{INTERNAL_SERVER_ERROR, MAX_NESTING}
use Rattle.sv_uri.specs.declared.path.Canon.{Canon}
use Rattle.sv_message.specs.Phrases.{phrase_of}

-- The field that goes with the kept error.
abbrev pub kept_field : Option KeptError → Option KeptField
kept_field None = None
kept_field (Some kept) = kept.field

abbrev pub sets : Option KeptField → Does (Unit {0})
sets None = gives tt
sets (Some field) = makes (SetHeader field.name field.value)

abbrev pub reset : Exchange → Exchange
reset exchange = record exchange { buffer = []; fields = [] }

-- Discards the buffer and all fields, and sets the status and the field of the error.
abbrev pub Resets : ℕ → Option KeptField → Does (Unit {0})
Resets status field = do
  becomes (on_exchange reset)
  makes (SetStatus status)
  sets field

abbrev pub plain_text : ℕ → List ℕ
plain_text status = decimal status ++ codes " " ++ phrase_of status ++ codes "\n"

abbrev pub Plain : ℕ → Option KeptField → Does (Unit {0})
Plain status field = do
  Resets status field
  makes (SetHeader (codes "content-type") (codes "text/plain"))
  makes (Write (plain_text status))

-- A committed response is truncated after its last flush.
abbrev pub breaks : Does (Unit {0})
breaks = becomes (on_exchange broken_off)

abbrev pub unless_committed : Does (Unit {0}) → Does (Unit {0})
unless_committed next = sees λ state. choose state.exchange.committed breaks next

-- If an error page itself ends in an error, the plain response to the first error replaces it, unless it is committed.
abbrev pub Shown : ℕ → Option KeptField → Finished → Does (Unit {0})
Shown status field Done = gives tt
Shown status field (Error other text) = unless_committed (Plain status field)
Shown status field (Failed kind text) = unless_committed (Plain status field)

module _ (site : Site) where
  -- The page of an error, if any.
  abbrev pub Pages : ℕ → Option KeptField → Option Canon → Does (Unit {0})
  Pages status field None = Plain status field
  Pages status field (Some page) = do
    Resets status field
    result ← Tree site MAX_NESTING kinds.Error page
    Shown status field result

  -- The response to an error; a failure also gives its kind.
  abbrev pub Shows : ℕ → Option (List ℕ) → Does (Unit {0})
  Shows status kind = unless_committed do
    wants_memory
    sees λ state. Pages status (kept_field state.exchange.kept) (site.page status kind)

  -- The response to an error that no dispatch raised. Its text is the reason phrase of its status, and it has neither
  -- servlet nor field. A committed response is truncated.
  abbrev pub ShowsError : ℕ → Option Canon → Does (Unit {0})
  ShowsError status page = do
    keeps record { status = status; text = phrase_of status; servlet = None; field = None }
    unless_committed (Pages status None page)

  abbrev pub Settled : Finished → Does (Unit {0})
  Settled Done = gives tt
  Settled (Error status text) = Shows status None
  Settled (Failed kind text) = Shows INTERNAL_SERVER_ERROR (Some kind)

  -- Dispatches a request and answers it.
  abbrev pub Served : Kind → Canon → Does (Unit {0})
  Served kind canon = do
    result ← Tree site MAX_NESTING kind canon
    Settled result
