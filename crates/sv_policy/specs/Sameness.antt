-- Whether lists of constraints are the same.
use Rattle.std.specs.Prelude.{ℕ, Bool, true, false, ◌&&◌, ◌==◌, List, length, zip}
use Rattle.std.specs.List.{list_all}
use Rattle.std.specs.Str.{bytes_eq}
use Rattle.sv_constraints.specs.declared.constraint.Auth.{Auth}
use Rattle.sv_constraints.specs.declared.constraint.Auth.TheVariants.{Absent, Roles}
use Rattle.sv_constraints.specs.declared.constraint.Collection.{Collection}
use Rattle.sv_constraints.specs.declared.constraint.Constraint.{Constraint}
use Rattle.sv_constraints.specs.declared.constraint.Methods.{Methods}
use Rattle.sv_constraints.specs.declared.constraint.Methods.TheVariants.{All, Only, Except}
use Rattle.sv_constraints.specs.declared.constraint.Transport.{Transport}
use Rattle.sv_constraints.specs.declared.constraint.Transport.TheVariants as transport

-- Lists are as long, and their items are the same in pairs.
abbrev pub same_items : {X : Type 0} → (X → X → Bool) → List X → List X → Bool
same_items same items others = length items == length others && list_all (λ pair. same pair.0 pair.1) (zip items others)

-- The texts are equal, in the same order.
abbrev pub same_texts : List (List ℕ) → List (List ℕ) → Bool
same_texts texts others = same_items bytes_eq texts others

abbrev pub same_methods : Methods → Methods → Bool
same_methods All All = true
same_methods (Only names) (Only others) = same_texts names others
same_methods (Except names) (Except others) = same_texts names others
same_methods methods others = false

abbrev pub same_collection : Collection → Collection → Bool
same_collection collection other = same_texts collection.patterns other.patterns && same_methods collection.methods other.methods

abbrev pub same_auth : Auth → Auth → Bool
same_auth Absent Absent = true
same_auth (Roles names) (Roles others) = same_texts names others
same_auth auth other = false

abbrev pub same_transport : Transport → Transport → Bool
same_transport transport.Absent transport.Absent = true
same_transport transport.Plain transport.Plain = true
same_transport transport.Integral transport.Integral = true
same_transport transport.Confidential transport.Confidential = true
same_transport one other = false

abbrev pub same_constraint : Constraint → Constraint → Bool
same_constraint constraint other =
    constraint.number == other.number && same_items same_collection constraint.collections other.collections
    && same_auth constraint.auth other.auth && same_transport constraint.transport other.transport

-- The lists have the same constraints, with the same numbers, in the same order.
abbrev pub same_constraints : List Constraint → List Constraint → Bool
same_constraints constraints others = same_items same_constraint constraints others
