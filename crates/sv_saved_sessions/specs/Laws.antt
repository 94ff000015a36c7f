-- Theorems about files of suspended contexts.
use Rattle.std.specs.Prelude.{◌≡◌, ℕ, List}
use Rattle.sv_lifecycle.specs.declared.suspended_context.SuspendedContext.{SuspendedContext}
use Rattle.sv_saved_sessions.specs.File.{file_of, kept}
use Rattle.sv_saved_sessions.specs.Saved.{CanBeSaved}

-- No two contexts, or times, have the same file.
abbrev pub FileNamesContext : Type 0
FileNamesContext = (key : List ℕ) (moment other_moment : ℕ) (context other : SuspendedContext)
    → CanBeSaved moment context → CanBeSaved other_moment other
    → file_of key moment context ≡ file_of key other_moment other
    → (moment ≡ other_moment) × (kept context ≡ kept other)
