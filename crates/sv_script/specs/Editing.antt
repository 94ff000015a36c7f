-- The lines that edit the constraints of a context (Jakarta Servlet 6.0, section 13.8).
use Rattle.std.specs.Prelude.{ℕ, ◌==◌, List, [], ◌∷◌, codes, Option, Some, None, if◌then◌else◌}
use Rattle.std.specs.Option.{option_and_then, option_map}
use Rattle.std.specs.Str.{byte, bytes_eq}
use Rattle.sv_constraints.specs.declared.constraint.Auth.{Auth}
use Rattle.sv_constraints.specs.declared.constraint.Auth.TheVariants.{Absent, Roles}
use Rattle.sv_constraints.specs.declared.constraint.Collection.{Collection}
use Rattle.sv_constraints.specs.declared.constraint.Methods.{Methods}
use Rattle.sv_constraints.specs.declared.constraint.Methods.TheVariants.{All, Only, Except}
use Rattle.sv_constraints.specs.declared.constraint.Transport.TheVariants as transport
use Rattle.sv_mapping.specs.Pattern.{is_pattern}
use Rattle.sv_policy.specs.declared.edit.Edit.TheVariants.{Append, Withdraw}
use Rattle.sv_policy.specs.declared.edit.NewConstraint.{NewConstraint}
use Rattle.sv_script.specs.Fields.{at_blank, number, text_of}
use Rattle.sv_script.specs.Names.{names_of}
use Rattle.sv_script.specs.declared.line.ScriptLine.{ScriptLine}
use Rattle.sv_script.specs.declared.line.ScriptLine.TheVariants.{Edit}
use Rattle.sv_script.specs.declared.names.NameKind.TheVariants.{Method, Role}

-- the path of a context as written in a script: `/` is also the root
abbrev pub shown_path : List ℕ → List ℕ
shown_path text = if bytes_eq text (codes "/") then [] else text

abbrev pub path_of : List ℕ → Option (List ℕ)
path_of context = option_map shown_path (text_of context)

abbrev pub pattern_of : List ℕ → Option (List ℕ)
pattern_of text = option_and_then (λ pattern. if is_pattern pattern then Some pattern else None) (text_of text)

-- `!` and names for all methods but these, or names for only these
abbrev pub listed_methods : List ℕ → Option Methods
listed_methods [] = option_map Only (names_of Method [])
listed_methods (b ∷ omitted) = if b == byte "!" then option_map Except (names_of Method omitted) else option_map Only (names_of Method (b ∷ omitted))

-- `*` for all methods
abbrev pub methods_of : List ℕ → Option Methods
methods_of text = if bytes_eq text (codes "*") then Some All else listed_methods text

-- `open` for everyone, `nobody` for no role, and names for these roles
abbrev pub auth_of : List ℕ → Option Auth
auth_of text =
    if bytes_eq text (codes "open") then Some Absent
    else if bytes_eq text (codes "nobody") then Some (Roles [])
    else option_map Roles (names_of Role text)

abbrev pub collection_of : List ℕ → List ℕ → Option Collection
collection_of pattern methods =
    option_and_then (λ covered. option_map (λ listed. record { patterns = listed ∷ []; methods = covered }) (pattern_of pattern)) (methods_of methods)

abbrev pub constraint_of : List ℕ → List ℕ → List ℕ → Option NewConstraint
constraint_of pattern methods roles =
    option_and_then (λ who. option_map (λ collection. record { collections = collection ∷ []; auth = who; transport = transport.Absent }) (collection_of pattern methods))
    (auth_of roles)

-- a constraint of one pattern: the pattern, methods and roles, with blanks between them
abbrev pub addition_of : List ℕ → Option NewConstraint
addition_of text =
    option_and_then (λ cut. option_and_then (λ last. constraint_of cut.0 last.0 last.1) (at_blank cut.1)) (at_blank text)

-- a context and such a constraint
abbrev pub appending : List ℕ → Option ScriptLine
appending rest =
    option_and_then (λ cut. option_and_then (λ path. option_map (λ addition. Edit path (Append addition)) (addition_of cut.1)) (path_of cut.0)) (at_blank rest)

-- a context and the number of a constraint
abbrev pub withdrawing : List ℕ → Option ScriptLine
withdrawing rest =
    option_and_then (λ cut. option_and_then (λ known. option_map (λ path. Edit path (Withdraw known)) (path_of cut.0)) (number cut.1)) (at_blank rest)
