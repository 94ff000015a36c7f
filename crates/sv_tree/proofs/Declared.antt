-- Each servlet that is mapped is declared in the descriptor.
use Rattle.std.proofs.Common.{ℕ, ◌≡◌, ◌<◌, Bool, List, [], ◌∷◌, length, map, get_or, find, sym, ap, subst, ◌∙◌, ⊎_elim, arith}
use Rattle.std.specs.List.{All, Contains, flat_map, position_or_len}
use Rattle.std.specs.Str.{bytes_eq}
use Rattle.std.proofs.lemmas.Bool.{both_ways, cases_Bool, cases_lt}
use Rattle.std.proofs.lemmas.List.{get_or-map, length-map}
use Rattle.std.proofs.lemmas.List.Elements.{All-append, All-head, All-map, All-nil, All-tail}
use Rattle.std.proofs.lemmas.List.Sums.{fails_before_first}
use Rattle.std.proofs.lemmas.Slice.Eq.{bytes_eq-Decides}
use Rattle.sv_descriptor.specs.WellFormed.{IsWellFormed}
use Rattle.sv_descriptor.specs.declared.servlet.ServletEntry.{ServletEntry}
use Rattle.sv_descriptor.specs.declared.servlet.ServletMapping.{ServletMapping}
use Rattle.sv_tree.specs.Seen.{IsThere}
use Rattle.sv_tree.specs.ServletMappings.{patterns_of, servlet_place}
use Rattle.sv_tree.specs.Site.{Mapping, Site, chosen, chosen_by}
use Rattle.sv_mapping.specs.BestMatch.{is_best}
use Rattle.sv_tree.specs.SiteOfDescriptor.{Content, site_of}
use Rattle.sv_tree.proofs.Beside.{texts_of}

-- The index of a declared name is within the list.
place-within : (servlets : List ServletEntry) (name : List ℕ) → Contains (map (λ servlet. servlet.servlet_name) servlets) name → servlet_place servlets name < length servlets
place-within [] name its = absurd (omega (arith, its.1))
place-within (servlet ∷ servlets) name its =
    let all = servlet ∷ servlets in
    let test = λ (entry : ServletEntry). bytes_eq entry.servlet_name name in
    let within : its.0 < length all = omega (arith, its.1, length-map all (λ (entry : ServletEntry). entry.servlet_name)) in
    ⊎_elim
    (λ below. below)
    (λ beyond.
    let fails = fails_before_first test all its.0 servlet (omega (arith, within, beyond)) in
    let same : (get_or all its.0 servlet).servlet_name ≡ name = sym (get_or-map (λ (entry : ServletEntry). entry.servlet_name) all its.0 servlet name within) ∙ its.2 in
    absurd (both_ways _ fails ((bytes_eq-Decides (get_or all its.0 servlet).servlet_name name).1 same)))
    (cases_lt (position_or_len test all) (length all))

abbrev IsDeclared : ℕ → Mapping → Type 0
IsDeclared count mapping = mapping.servlet < count

all-declared : (servlets : List ServletEntry) (mappings : List ServletMapping) → All (λ mapping. Contains (map (λ servlet. servlet.servlet_name) servlets) mapping.servlet_name) mappings
    → All (IsDeclared (length servlets)) (flat_map (patterns_of servlets) mappings)
all-declared servlets [] all = All-nil (IsDeclared (length servlets))
all-declared servlets (mapping ∷ mappings) all =
    let known = λ (m : ServletMapping). Contains (map (λ (servlet : ServletEntry). servlet.servlet_name) servlets) m.servlet_name in
    let within = place-within servlets mapping.servlet_name (All-head known mapping mappings all) in
    All-append (IsDeclared (length servlets)) (patterns_of servlets mapping) (flat_map (patterns_of servlets) mappings)
    (All-map (IsDeclared (length servlets)) (λ text. record { pattern = text; servlet = servlet_place servlets mapping.servlet_name }) mapping.url_patterns (λ k d inside. within))
    (all-declared servlets mappings (All-tail known mapping mappings all))

found-declared : (site : Site) (path : List ℕ) (test : Mapping → Bool) (mappings : List Mapping) → All (IsDeclared (length site.names)) mappings → IsThere site (chosen_by path (find test mappings)).resource
found-declared site path test [] all = tt
found-declared site path test (mapping ∷ mappings) all = ⊎_elim
    (λ passes. rw passes (All-head (IsDeclared (length site.names)) mapping mappings all))
    (λ fails. rw fails (found-declared site path test mappings (All-tail (IsDeclared (length site.names)) mapping mappings all)))
    (cases_Bool (test mapping))

-- The resource chosen among the mappings of a site.
pub chosen-is : (site : Site) (path : List ℕ) (mappings : List Mapping) → mappings ≡ site.mappings
    → chosen_by path (find (λ mapping. is_best (texts_of mappings) path mapping.pattern) mappings) ≡ chosen site path
unfolding chosen
chosen-is site path mappings same = ap (λ all. chosen_by path (find (λ (mapping : Mapping). is_best (texts_of all) path mapping.pattern) all)) same

pub chosen-there : (content : Content) (path : List ℕ) → IsWellFormed content.app → IsThere (site_of content) (chosen (site_of content) path).resource
unfolding chosen
chosen-there content path formed =
    let app = content.app in
    let site = site_of content in
    let all = all-declared app.servlets app.servlet_mappings formed.mapped_servlets_are_declared in
    let some : length app.servlets ≡ length site.names = sym (length-map app.servlets (λ (servlet : ServletEntry). servlet.servlet_name)) in
    found-declared site path (λ mapping. is_best (texts_of site.mappings) path mapping.pattern) site.mappings (subst (λ count. All (IsDeclared count) site.mappings) some all)
