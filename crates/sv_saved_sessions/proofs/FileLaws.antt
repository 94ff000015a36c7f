-- A file names its context.
use Rattle.std.proofs.Common.{ℕ, List, sym, ap, subst, ◌∙◌}
use Rattle.sv_session.specs.Store.{Session}
use Rattle.sv_saved_sessions.specs.declared.head.Head.{Head}
use Rattle.sv_saved_sessions.specs.Content.{content}
use Rattle.sv_saved_sessions.specs.Laws.{FileNamesContext}
use Rattle.sv_saved_sessions.specs.Reading.{AreParts, context_of}
use Rattle.sv_saved_sessions.proofs.Parts.{head_from, parts_of_content, same_parts}
use Rattle.sv_saved_sessions.proofs.Signing.{same_text}

pub file_names_context : FileNamesContext
file_names_context key moment other_moment context other can can_other is =
    let text = content moment context in
    let same_content = same_text key text (content other_moment other) is in
    let theirs = subst (λ (t : List ℕ). AreParts t (head_from other_moment other) other.sessions.store.sessions) (sym same_content) (parts_of_content other_moment other can_other) in
    let same = same_parts text (head_from moment context) (head_from other_moment other) context.sessions.store.sessions other.sessions.store.sessions (parts_of_content moment context can) theirs in (
      ap (λ (head : Head). head.moment) same.0,
      ap (λ (head : Head). context_of head context.sessions.store.sessions) same.0 ∙ ap (λ (sessions : List Session). context_of (head_from other_moment other) sessions) same.1,
    )
