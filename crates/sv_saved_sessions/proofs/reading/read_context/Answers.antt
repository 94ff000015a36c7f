use Rattle.std.proofs.Common.{sym, ◌∙◌}
use Rattle.sv_saved_sessions.specs.Content.{content}
use Rattle.sv_saved_sessions.proofs.Signing.{same_text}
use Rattle.sv_saved_sessions.proofs.reading.read_context.Goals as goal

pub returns-clause-only : goal.returns-clause-only
returns-clause-only c = λ moment context can is.
    c.read_content.ensures.only moment context can (same_text c.args.key.now c.in-Some.content.now (content moment context) (sym c.in-Some.ensures ∙ is))
