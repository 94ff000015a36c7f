-- The report `uncovered`: the methods that security constraints leave uncovered (Jakarta Servlet 6.0,
-- section 13.8.4).
use Rattle.std.specs.Prelude.{ℕ, List, [], ◌∷◌, ◌++◌, codes, flat_map, Ok}
use Rattle.sv_text.specs.Steps.{◌>>=◌}
use Rattle.sv_constraints.specs.declared.constraint.Methods.{Methods}
use Rattle.sv_constraints.specs.declared.constraint.Methods.TheVariants.{All, Only, Except}
use Rattle.sv_uri.specs.ContextPath.{shown_context}
use Rattle.sv_policy.specs.Gaps.{gaps}
use Rattle.sv_policy.specs.declared.gaps.Gap.{Gap}
use Rattle.sv_program.specs.Configuration.{Step, descriptor_in, each}
use Rattle.sv_program.specs.declared.configuration.ContextTexts.{ContextTexts}

-- names, each after a comma
abbrev pub others_text : List (List ℕ) → List ℕ
others_text names = flat_map (λ name. codes "," ++ name) names

-- names, separated by commas
abbrev pub names_text : List (List ℕ) → List ℕ
names_text [] = []
names_text (name ∷ names) = name ++ others_text names

-- all methods but these
abbrev pub omission_text : List (List ℕ) → List ℕ
omission_text [] = codes "*"
omission_text (name ∷ names) = codes "!" ++ names_text (name ∷ names)

abbrev pub methods_text : Methods → List ℕ
methods_text All = codes "*"
methods_text (Only names) = names_text names
methods_text (Except names) = omission_text names

-- the line of a gap in the context of this path
abbrev pub gap_line : List ℕ → Gap → List ℕ
gap_line path gap =
    codes "uncovered context=" ++ shown_context path ++ codes " pattern=" ++ gap.pattern ++ codes " methods=" ++ methods_text gap.methods ++ codes "\n"

-- the lines of a context
abbrev pub context_lines : ContextTexts → Step (List ℕ)
context_lines texts = do
  its_descriptor ← descriptor_in texts
  Ok (flat_map (gap_line texts.context.path) (gaps its_descriptor.constraints))

-- the lines of the contexts, in order
abbrev pub uncovered_lines : List ContextTexts → Step (List ℕ)
uncovered_lines texts = do
  lines ← each context_lines texts
  Ok (flat_map (λ line. line) lines)
