-- The file of a suspended context: its content, followed by its code, which no one can make without the key.
use Rattle.std.specs.Prelude.{◌≡◌, ℕ, List, ◌++◌, MatchResult, Result}
use Rattle.sv_lifecycle.specs.declared.suspended_context.SuspendedContext.{SuspendedContext}
use Rattle.sv_saved_sessions.specs.Content.{content}
use Rattle.sv_saved_sessions.specs.Hmac.{hmac_sha256}
use Rattle.sv_saved_sessions.specs.Saved.{CanBeSaved}
use Rattle.sv_saved_sessions.specs.declared.reading_fault.ReadingFault.{ReadingFault}
use Rattle.sv_saved_sessions.specs.declared.reading_fault.ReadingFault.TheVariants.{NoMemory}
use Rattle.sv_saved_sessions.specs.declared.saved_context.SavedContext.{SavedContext}

-- A text followed by its code.
abbrev pub signed : List ℕ → List ℕ → List ℕ
signed key text = text ++ hmac_sha256 key text

-- The file of a context that was suspended at a time, in seconds.
abbrev pub file_of : List ℕ → ℕ → SuspendedContext → List ℕ
file_of key moment context = signed key (content moment context)

-- The bytes are a text followed by its code.
abbrev pub IsAuthentic : List ℕ → List ℕ → Type 0
IsAuthentic key bytes = (text : List ℕ) × (bytes ≡ signed key text)

-- The context as a file keeps it. The limits of sessions come from the descriptor, and expiries are counted anew in each
-- run.
abbrev pub kept : SuspendedContext → SuspendedContext
kept context = record context {
  sessions = record { store = record context.sessions.store { limit = 0; interval = 0 }; judged = 0 };
}

-- The bytes are the content of a context that can be saved.
pub record IsContent (bytes : List ℕ) (saved : SavedContext) : Type 0 where
  pub fits : CanBeSaved saved.moment saved.context
  pub written : bytes ≡ content saved.moment saved.context
  pub kept_alone : saved.context ≡ kept saved.context

-- The bytes are the file of a context that can be saved.
pub record IsFile (key bytes : List ℕ) (saved : SavedContext) : Type 0 where
  pub fits : CanBeSaved saved.moment saved.context
  pub written : bytes ≡ file_of key saved.moment saved.context
  pub kept_alone : saved.context ≡ kept saved.context

-- The result is the context, as a file keeps it, unless memory ran out.
abbrev pub GivesContext : Result SavedContext ReadingFault → ℕ → SuspendedContext → Type 0
GivesContext result moment context =
    MatchResult result (λ saved. saved ≡ record { moment = moment; context = kept context }) (λ fault. fault ≡ NoMemory)
