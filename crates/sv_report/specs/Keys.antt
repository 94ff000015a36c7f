-- The keys of findings.
use Rattle.std.specs.Prelude.{ℕ, List, [], ◌∷◌, codes}
use Rattle.std.specs.List.{flat_map}
use Rattle.sv_report.specs.Parts.{joined}
use Rattle.sv_report.specs.declared.report.ContextReport.{ContextReport}
use Rattle.sv_report.specs.declared.report.ReportedFinding.{ReportedFinding}

abbrev pub key_line : ReportedFinding → List ℕ
key_line reported = joined (reported.key ∷ codes "\n" ∷ [])

-- One key a line.
abbrev pub keys_text : List ContextReport → List ℕ
keys_text contexts = flat_map (λ context. flat_map key_line context.findings) contexts
