-- The report on constraints in force: a line for each pattern of each web resource collection of each constraint
-- (Jakarta Servlet 6.0, section 13.8).
use Rattle.std.specs.Prelude.{ℕ, List, [], ◌∷◌, ◌++◌, codes, flat_map}
use Rattle.std.specs.Fmt.{decimal}
use Rattle.sv_constraints.specs.declared.constraint.Auth.{Auth}
use Rattle.sv_constraints.specs.declared.constraint.Auth.TheVariants as auth
use Rattle.sv_constraints.specs.declared.constraint.Collection.{Collection}
use Rattle.sv_constraints.specs.declared.constraint.Constraint.{Constraint}
use Rattle.sv_constraints.specs.declared.constraint.Methods.{Methods}
use Rattle.sv_constraints.specs.declared.constraint.Transport.{Transport}
use Rattle.sv_constraints.specs.declared.constraint.Transport.TheVariants.{Absent, Plain, Integral, Confidential}
use Rattle.sv_uri.specs.ContextPath.{shown_context}
use Rattle.sv_program.specs.Uncovered.{methods_text, names_text}

-- the name of the guarantee; without a user data constraint a plain connection is sufficient
abbrev pub transport_name : Transport → List ℕ
transport_name Absent = codes "NONE"
transport_name Plain = codes "NONE"
transport_name Integral = codes "INTEGRAL"
transport_name Confidential = codes "CONFIDENTIAL"

-- the roles of an authorization constraint
abbrev pub admitted_text : List (List ℕ) → List ℕ
admitted_text [] = codes "nobody"
admitted_text (name ∷ names) = names_text (name ∷ names)

-- the roles as the line `append` has them
abbrev pub roles_text : Auth → List ℕ
roles_text auth.Absent = codes "open"
roles_text (auth.Roles names) = admitted_text names

-- the text before a pattern: the context by its shown path, and the number of the constraint
abbrev pub front_of : List ℕ → ℕ → List ℕ
front_of context number = codes "constraint context=" ++ context ++ codes " number=" ++ decimal number ++ codes " pattern="

-- the text after a pattern of a collection with these methods
abbrev pub end_of : Constraint → Methods → List ℕ
end_of constraint methods =
    codes " methods=" ++ methods_text methods ++ codes " transport=" ++ transport_name constraint.transport ++ codes " roles=" ++ roles_text constraint.auth ++ codes "\n"

abbrev pub pattern_line : List ℕ → List ℕ → List ℕ → List ℕ
pattern_line front end pattern = front ++ pattern ++ end

abbrev pub collection_lines : List ℕ → Constraint → Collection → List ℕ
collection_lines path constraint collection =
    flat_map (pattern_line (front_of (shown_context path) constraint.number) (end_of constraint collection.methods)) collection.patterns

abbrev pub constraint_lines : List ℕ → Constraint → List ℕ
constraint_lines path constraint = flat_map (collection_lines path constraint) constraint.collections
