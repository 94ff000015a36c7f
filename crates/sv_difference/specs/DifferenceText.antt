-- The text of what two servers decide differently.
use Rattle.std.specs.Prelude.{ℕ, Bool, true, false, List, [], ◌∷◌, ◌++◌, codes, Option, None, Some, if◌then◌else◌}
use Rattle.std.specs.List.{flat_map}
use Rattle.sv_uri.specs.ContextPath.{shown_context}
use Rattle.sv_uri.specs.LocationField.{location}
use Rattle.sv_constraints.specs.declared.constraint.Methods.{Methods}
use Rattle.sv_constraints.specs.declared.constraint.Methods.TheVariants.{All, Only, Except}
use Rattle.sv_audit.specs.Reading.{is_same}
use Rattle.sv_difference.specs.declared.difference.Difference.{Difference}
use Rattle.sv_audit.specs.declared.visitors.DifferenceKind.{DifferenceKind}
use Rattle.sv_audit.specs.declared.visitors.DifferenceKind.TheVariants.{Changed, Closed, Opened}
use Rattle.sv_report.specs.Escaped.{escaped}
use Rattle.sv_report.specs.Folded.{folded}
use Rattle.sv_report.specs.Parts.{joined}
use Rattle.sv_report.specs.Words.{names_text, pattern_text, who_text}
use Rattle.sv_difference.specs.OpenedFirst.{opened_first}
use Rattle.sv_difference.specs.declared.contexts.ContextDifference.{ContextDifference}
use Rattle.sv_difference.specs.declared.contexts.ContextSide.{ContextSide}
use Rattle.sv_difference.specs.declared.contexts.ServerDifference.{ServerDifference}

abbrev pub kind_word : DifferenceKind → List ℕ
kind_word Opened = codes "opened"
kind_word Closed = codes "closed"
kind_word Changed = codes "changed"

-- Whether callers can log in on a side; they cannot in a context that is not there.
abbrev pub has_login : Option ContextSide → Bool
has_login None = false
has_login (Some side) = side.has_login

-- The location of a path within the context.
abbrev pub example_of : List ℕ → Difference → List ℕ
example_of context difference = location (context ++ difference.path)

-- The pattern of both rows, or each.
abbrev pub place_text : Difference → List ℕ
place_text difference =
    if is_same difference.before difference.after then pattern_text difference.after
    else joined (pattern_text difference.after ∷ codes " (before " ∷ pattern_text difference.before ∷ codes ")" ∷ [])

-- The methods of a difference, each by its name or by those of the others.
abbrev pub methods_words : Methods → List ℕ
methods_words All = codes "all methods"
methods_words (Only names) = names_text names
methods_words (Except []) = codes "all methods"
methods_words (Except (name ∷ names)) = joined (codes "all methods but " ∷ names_text (name ∷ names) ∷ [])

-- The requests of a difference: the methods at the pattern, and a path.
abbrev pub requests_text : List ℕ → Difference → List ℕ
requests_text context difference = joined (methods_words difference.methods ∷ codes " at " ∷ place_text difference ∷ codes ", such as " ∷ example_of context difference ∷ [])

-- Who may make them, before and after.
abbrev pub callers_text : ContextDifference → Difference → List ℕ
callers_text context difference = joined (who_text (has_login context.before) difference.was ∷ codes " before, " ∷ who_text (has_login context.after) difference.becomes ∷ codes " after" ∷ [])

abbrev pub difference_line : ContextDifference → Difference → List ℕ
difference_line context difference = joined (kind_word difference.kind ∷ codes ": " ∷ requests_text context.path difference ∷ codes ": " ∷ callers_text context difference ∷ codes "\n" ∷ [])

-- Requests that log in succeed on one side only (section 13.6.3).
abbrev pub login_line : Bool → Bool → List ℕ
login_line true true = []
login_line true false = codes "login: only before\n"
login_line false true = codes "login: only after\n"
login_line false false = []

-- The lines of a context that both sides have.
abbrev pub lines_of : ContextDifference → List ℕ
lines_of context = login_line (has_login context.before) (has_login context.after) ++ flat_map (difference_line context) context.differences

abbrev pub or_none : List ℕ → List ℕ
or_none [] = codes "no difference\n"
or_none (first ∷ rest) = first ∷ rest

abbrev pub heading_of : List ℕ → List ℕ → List ℕ
heading_of path end = joined (codes "context " ∷ escaped (shown_context path) ∷ end ∷ [])

abbrev pub files_text : ContextSide → ContextSide → List ℕ
files_text before after = joined (codes " (" ∷ escaped before.file ∷ codes ", " ∷ escaped after.file ∷ codes ")\n" ∷ [])

-- The lines of a context path, by its contexts on both sides.
abbrev pub context_lines : ContextDifference → Option ContextSide → Option ContextSide → List ℕ
context_lines context None after = heading_of context.path (codes " only in the second\n")
context_lines context (Some before) None = heading_of context.path (codes " only in the first\n")
context_lines context (Some before) (Some after) = heading_of context.path (files_text before after) ++ or_none (lines_of context)

-- The lines of contexts, one after the other.
abbrev pub all_lines : List ContextDifference → List ℕ
all_lines contexts = flat_map (λ context. context_lines context context.before context.after) contexts

-- The lines of a report. Contexts in which something may have been opened come first.
abbrev pub report_lines : ServerDifference → List ℕ
report_lines report = all_lines (opened_first report.contexts)

-- The text of a report, in lines of at most 100 characters.
abbrev pub difference_text : ServerDifference → List ℕ
difference_text report = folded (report_lines report)
