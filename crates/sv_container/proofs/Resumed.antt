-- Contexts that resume keep their paths.
use Rattle.std.proofs.Common.{◌≡◌, List, [], ◌∷◌, length, map, Option, None, Some, ap, ◌∙◌, suc}
use Rattle.sv_component.specs.Steps.{ComponentSteps}
use Rattle.sv_context.specs.Resuming.{Resumes, ResumesAll}
use Rattle.sv_context.specs.State.{ContextState}
use Rattle.sv_context.specs.declared.resumption.Resumption.{Resumption}
use Rattle.sv_journal.specs.Journal.{JournalState}
use Rattle.sv_tree.specs.SiteOfDescriptor.{Content}

module _ {S F L : Type 0} (moving : ComponentSteps S F L) where
  path_resumed : (resumption : Option Resumption) (before : ContextState S F L) (noted : JournalState) (after : ContextState S F L) (noted_after : JournalState)
      → Resumes moving resumption before noted after noted_after → after.content.context_path ≡ before.content.context_path
  path_resumed None before noted after noted_after resumes = ap (λ (context : ContextState S F L). context.content.context_path) resumes.0
  path_resumed (Some resumption) before noted after noted_after resumes = ap (λ (content : Content). content.context_path) resumes.stays.content

  pub paths_resumed : (resumptions : List (Option Resumption)) (before : List (ContextState S F L)) (noted : JournalState) (after : List (ContextState S F L)) (noted_after : JournalState)
      → ResumesAll moving resumptions before noted after noted_after
      → map (λ context. context.content.context_path) after ≡ map (λ context. context.content.context_path) before
  paths_resumed resumptions [] noted after noted_after resumes = ap (map (λ context. context.content.context_path)) resumes.0
  paths_resumed [] (context ∷ contexts) noted after noted_after resumes = ap (map (λ context. context.content.context_path)) resumes.0
  paths_resumed (resumption ∷ resumptions) (context ∷ contexts) noted after noted_after resumes =
      ap (map (λ context. context.content.context_path)) resumes.5
      ∙ (λ i. path_resumed resumption context noted resumes.0 resumes.2 resumes.3 i ∷ paths_resumed resumptions contexts resumes.2 resumes.1 noted_after resumes.4 i)

  pub count_resumed : (resumptions : List (Option Resumption)) (before : List (ContextState S F L)) (noted : JournalState) (after : List (ContextState S F L)) (noted_after : JournalState)
      → ResumesAll moving resumptions before noted after noted_after → length after ≡ length before
  count_resumed resumptions [] noted after noted_after resumes = ap length resumes.0
  count_resumed [] (context ∷ contexts) noted after noted_after resumes = ap length resumes.0
  count_resumed (resumption ∷ resumptions) (context ∷ contexts) noted after noted_after resumes =
      ap length resumes.5 ∙ ap suc (count_resumed resumptions contexts resumes.2 resumes.1 noted_after resumes.4)
