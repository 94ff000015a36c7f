-- The file of lines, which locates the constraints and roles of an imported descriptor.
use Rattle.std.specs.Prelude.{ℕ, ◌^◌, Bool, ◌&&◌, ◌==◌, nat_eq, nat_lt, List, [], ◌∷◌, codes, drop, length, map, Option, None, Some, is_none, if◌then◌else◌}
use Rattle.std.specs.Char.{is_ascii_digit}
use Rattle.std.specs.List.{filter, filter_map, list_all, slice_split, starts_with}
use Rattle.std.specs.Str.Parse.{digits_value}
use Rattle.sv_audited_contexts.specs.DescriptorLines.{no_lines}
use Rattle.sv_audited_contexts.specs.declared.audited_context.AuditedContext.{AuditedContext}
use Rattle.sv_audited_contexts.specs.declared.audited_context.Source.{Source}
use Rattle.sv_audited_contexts.specs.declared.descriptor_lines.SourceLines.{SourceLines}

-- The lines of a text, without their line feeds.
abbrev pub lines_of : List ℕ → List (List ℕ)
lines_of text = slice_split (λ b. b == 10) text

-- One or more decimal digits of a number that fits 64 bits.
abbrev pub is_number : List ℕ → Bool
is_number text = list_all is_ascii_digit text && nat_lt 0 (length text) && nat_lt (digits_value 10 text) (2 ^ 64)

-- The number that the text denotes.
abbrev pub number : List ℕ → Option ℕ
number text = if is_number text then Some (digits_value 10 text) else None

-- What follows `role ` in a line that begins with it.
abbrev pub role_number : List ℕ → Option (List ℕ)
role_number line = if starts_with nat_eq line (codes "role ") then Some (drop 5 line) else None

-- The lines on which constraint 1, 2 and so on begin: all that are not of roles.
abbrev pub constraint_lines : List (List ℕ) → List (Option ℕ)
constraint_lines lines = map number (filter (λ line. is_none (role_number line)) lines)

-- The lines on which the declared roles begin.
abbrev pub role_lines : List (List ℕ) → List (Option ℕ)
role_lines lines = map number (filter_map role_number lines)

abbrev pub source_lines : List (List ℕ) → SourceLines
source_lines lines = record { constraints = constraint_lines lines; roles = role_lines lines }

-- The first line names the file.
abbrev pub source_of : List ℕ → List (List ℕ) → Source
source_of its_path [] = record { path = its_path; file = []; lines = no_lines }
source_of its_path (its_file ∷ others) = record { path = its_path; file = its_file; lines = source_lines others }

-- The context, with its constraints and roles in the file that the text names.
abbrev pub located_by : List ℕ → AuditedContext → AuditedContext
located_by text context = record {
  source = source_of context.source.path (lines_of text);
  has_login = context.has_login;
  constraints = context.constraints;
  rules = context.rules;
  mappings = context.mappings;
  realm = context.realm;
  descriptor = context.descriptor;
  surroundings = context.surroundings;
}

abbrev pub first_located : List ℕ → List AuditedContext → List AuditedContext
first_located text [] = []
first_located text (context ∷ contexts) = located_by text context ∷ contexts

-- The contexts, the first of them located by the file of lines, if the options name one.
abbrev pub located : Option (List ℕ) → List ℕ → List AuditedContext → List AuditedContext
located None text contexts = contexts
located (Some name) text contexts = first_located text contexts
