-- Contexts as runs of a container see them (Jakarta Servlet 6.0, chapters 2, 7, 10 and 13).
use Rattle.std.specs.Prelude.{ℕ}
use Rattle.sv_component.specs.Steps.{ComponentSteps}
use Rattle.sv_context.specs.Conduct.{conduct}
use Rattle.sv_context.specs.State.{ContextState}
use Rattle.sv_run.specs.Contexts.{Theory, theory_of}

-- Contexts of these components, identified by their paths, with this source of random words.
abbrev pub theory : {S F L Words : Type 0} → ComponentSteps S F L
    → (Words → ℕ × ℕ → Words → Type 0) → Theory (ContextState S F L) Words
theory moving draws =
    theory_of (λ context. context.content.context_path) (conduct moving) draws
