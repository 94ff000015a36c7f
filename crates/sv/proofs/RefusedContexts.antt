-- The contexts that a container refuses.
use Rattle.std.proofs.Common.{◌≡◌, ◌∙◌, ℕ, ◌≤◌, List, [], ◌∷◌, length, Option, Some, None, option_map, slice_get, refl, sym, ap, arith}
use Rattle.std.proofs.lemmas.List.{length-map}
use Rattle.std.proofs.lemmas.Option.{slice_get-map, slice_get_past}
use Rattle.sv_container.specs.declared.container.TheConstants.{MAX_CONTEXTS}
use Rattle.sv_deployments.specs.declared.check.CheckedContext.{CheckedContext}
use Rattle.sv_journal.specs.declared.start_code.NewCode.TheVariants.{TooManyContexts}
use Rattle.sv_program.specs.declared.command_fault.CommandFault.TheVariants as fault
use Rattle.sv.specs.CheckCommand.{RefusesAsContainer, paths_of, refused, refused_context}

named : (found : Option CheckedContext) (path : List ℕ) → option_map (λ context. context.path) found ≡ Some path
    → refused_context found ≡ fault.Start TooManyContexts path ∷ []
named None path h = cc
named (Some context) path h = let is : context.path ≡ path = cc in rw is refl

few : (contexts : List CheckedContext) → length (paths_of contexts) ≤ MAX_CONTEXTS → refused contexts ≡ []
few contexts within =
    ap refused_context (slice_get_past contexts MAX_CONTEXTS (omega (arith, within, length-map contexts (λ context. context.path))))

pub as_container : RefusesAsContainer
as_container contexts = (
  λ permitted. few contexts permitted.few,
  λ path forbids. named (slice_get contexts MAX_CONTEXTS) path (sym (slice_get-map (λ context. context.path) contexts MAX_CONTEXTS) ∙ forbids.1),
)
