-- The location of an example leads to it, in this context and in no hidden folder, and its best match is the pattern.
use Rattle.std.proofs.lemmas.Bool.{and_from, and_parts, false≢true, not-true}
use Rattle.std.proofs.lemmas.Slice.Eq.{bytes_eq-Decides}
use Rattle.std.proofs.Common.{◌≡◌, ℕ, Bool, true, not, ◌&&◌, List, refl, ap, ap₂, sym, ◌∙◌, is_none, Option, None, Some, Result, Ok, Err}
use Rattle.std.specs.Str.{bytes_eq}
use Rattle.sv_mapping.proofs.FirstBest.{found_passes}
use Rattle.sv_mapping.specs.BestMatch.{best_pattern}
use Rattle.sv_mapping.specs.Pattern.{is_at_or_below}
use Rattle.sv_mapping.specs.Protected.{is_protected}
use Rattle.sv_uri.specs.Canonical.{canonical}
use Rattle.sv_uri.specs.LocationField.{LocationIsReadBack, location}
use Rattle.sv_uri.specs.Shape.{CanonicalHasShape, IsCanonicalPath}
use Rattle.sv_uri.specs.declared.fault.PathFault.{PathFault}
use Rattle.sv_uri.specs.declared.path.Canon.{Canon}
use Rattle.sv_audit.proofs.Filters.{all_fail}
use Rattle.sv_audit.specs.Examples.{CanonicalIsReadBack, ExamplesAreRight, candidates, gives_only, is_elsewhere, is_example, is_read_back}
use Rattle.sv_audit.specs.Reading.{is_same}

abbrev plain : List ℕ → Canon
plain its_path = record { path = its_path; query = None }

without_query : (query : Option (List ℕ)) → is_none query ≡ true → query ≡ None
without_query None is = refl
without_query (Some text) is = absurd (false≢true is)

own_at : (path : List ℕ) (result : Result Canon PathFault) → gives_only path result ≡ true → result ≡ Ok (plain path)
own_at path (Err fault) is = absurd (false≢true is)
own_at path (Ok canon) is =
    let parts : (bytes_eq canon.path path ≡ true) × (is_none canon.query ≡ true) = and_parts (bytes_eq canon.path path) (is_none canon.query) is in
    ap₂ (λ p q. let made : Canon = record { path = p; query = q } in Ok made) ((bytes_eq-Decides canon.path path).0 parts.0) (without_query canon.query parts.1)

pub own : (path : List ℕ) → is_read_back path ≡ true → canonical (location path) ≡ Ok (plain path)
unfolding is_read_back
own path is = own_at path (canonical (location path)) is

pub itself : (path : List ℕ) → gives_only path (Ok (plain path)) ≡ true
itself path = and_from (bytes_eq path path) true ((bytes_eq-Decides path path).1 refl) refl

pub all_read_back : LocationIsReadBack → CanonicalIsReadBack
unfolding is_read_back
all_read_back reads target canon given = ap (gives_only canon.path) (reads target canon given) ∙ itself canon.path

same_is : (pattern other : Option (List ℕ)) → is_same pattern other ≡ true → other ≡ pattern
same_is None None is = refl
same_is (Some pattern) (Some other) is = ap Some (sym ((bytes_eq-Decides pattern other).0 is))
same_is None (Some other) is = absurd (false≢true is)
same_is (Some pattern) None is = absurd (false≢true is)

pub examples_right : CanonicalHasShape → ExamplesAreRight
examples_right shapes patterns others pattern path is =
    let best : Bool = is_same pattern (best_pattern patterns path) in
    let parts : ((is_read_back path && not (is_elsewhere others path) && not (is_protected path)) ≡ true) × (best ≡ true) =
    and_parts (is_read_back path && not (is_elsewhere others path) && not (is_protected path)) best (found_passes (is_example patterns others pattern) (candidates pattern) path is) in
    let own_parts : ((is_read_back path && not (is_elsewhere others path)) ≡ true) × (not (is_protected path) ≡ true) = and_parts (is_read_back path && not (is_elsewhere others path)) (not (is_protected path)) parts.0 in
    let read : (is_read_back path ≡ true) × (not (is_elsewhere others path) ≡ true) = and_parts (is_read_back path) (not (is_elsewhere others path)) own_parts.0 in
    let given : canonical (location path) ≡ Ok (plain path) = own path read.0 in
    let shape : IsCanonicalPath path = shapes (location path) (plain path) given in
    (given, same_is pattern (best_pattern patterns path) parts.1, shape.rooted, all_fail (λ other. is_at_or_below other path) others (not-true (is_elsewhere others path) read.1), not-true (is_protected path) own_parts.1)
