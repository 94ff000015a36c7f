use Rattle.std.proofs.Common.{ap, arith, length, map, ◌∙◌, ◌≡◌}
use Rattle.std.specs.List.{concat}
use Rattle.sv_audited_contexts.proofs.LocatedLemmas.{parts_joined}
use Rattle.sv_audited_contexts.proofs.descriptor_lines.source_lines.Goals as goal

pub documents_of-requires : goal.documents_of-requires
documents_of-requires c =
    let joined = ap (λ parts. length (concat (map (λ part. part.now) parts))) c.as_slice.ensures.value
    ∙ ap (λ parts. length (concat parts)) c.in_ok-parts.ensures ∙ ap length (parts_joined c.as_bytes-text.result.now) in
    rw joined (omega arith)
